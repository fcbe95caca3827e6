use Rattle.std.proofs.Common.{◌≡◌, ◌+◌, Ok, Err, arith, length, refl, subst}
use Rattle.std.specs.Prelude.{IfOk, IfSome, IsOk, IsSome, OnErr, Result}
use Rattle.model.specs.Changes.{Edit, news, Make_directory, Make_file, Make_fixed, Name_file, Unname_file, Unname_directory, Move, Swap, Put_bytes, Wipe, Cut, Take, Append, Set_offset, Set_rights, Open_inode, Make_pipe, Share_slot, Clear_slot, New_process, End_process}
use Rattle.notes.specs.Steps.{IsPlaceOf, NeedsPlace}
use Rattle.notes.proofs.InodeNotes.{same_patches, same_then_takes}
use Rattle.notes.proofs.Outcomes.{ok_so, on_err}
use Rattle.notes.proofs.patches.Patches.note_two.Goals as goal

-- what is sure is not refused
not_refused : {A E : Type 0} (P : Type 0) (r : Result A E) → IsOk r → OnErr r P
not_refused P (Ok x) sure = tt
not_refused P (Err e) sure = absurd cc

-- an edit that needs a place has one
module _ {A E S : Type 0} (r : Result A E) where
  has_place : (e : Edit) → (NeedsPlace e → S) → (NeedsPlace e → S → IsOk r) → ((NeedsPlace e → ⊥) → IsOk r) → IsOk r
  has_place (Set_offset d place) there sure free = free (λ none. none)
  has_place (Open_inode i inode mode pid f) there sure free = sure tt (there tt)
  has_place (Share_slot pid f d pipes) there sure free = sure tt (there tt)
  has_place (Clear_slot pid f pipes) there sure free = sure tt (there tt)
  has_place (Make_directory d x i) there sure free = sure tt (there tt)
  has_place (Make_file d x i) there sure free = sure tt (there tt)
  has_place (Make_fixed d x fixed i) there sure free = sure tt (there tt)
  has_place (Name_file d x n) there sure free = sure tt (there tt)
  has_place (Unname_file d x n) there sure free = sure tt (there tt)
  has_place (Unname_directory d x n) there sure free = sure tt (there tt)
  has_place (Move d x e y n replaced) there sure free = sure tt (there tt)
  has_place (Swap d x n e y m) there sure free = sure tt (there tt)
  has_place (Put_bytes n place bytes before) there sure free = sure tt (there tt)
  has_place (Wipe n place count) there sure free = sure tt (there tt)
  has_place (Cut n before after) there sure free = sure tt (there tt)
  has_place (Take p count) there sure free = sure tt (there tt)
  has_place (Append p bytes) there sure free = sure tt (there tt)
  has_place (Set_rights n rights) there sure free = sure tt (there tt)
  has_place (Make_pipe i pid f g) there sure free = sure tt (there tt)
  has_place (New_process child parent pipes) there sure free = sure tt (there tt)
  has_place (End_process pid pipes) there sure free = sure tt (there tt)

pub slot_place-requires : goal.slot_place-requires
slot_place-requires c = (news c.args.first, c.requires.kinds.2)

pub note_last-requires-clause-fits : goal.note_last-requires-clause-fits
note_last-requires-clause-fits c =
    subst (λ r. IfOk r (λ place. IfSome place (IsPlaceOf c.args.last.now))) c.in-Ok.is c.slot_place.ensures.fits

pub returns-in_ok-note_first-in-Ok-clause-err : goal.returns-in_ok-note_first-in-Ok-clause-err
returns-in_ok-note_first-in-Ok-clause-err c = not_refused _ c.note_last.result
    (has_place c.note_last.result c.args.last.now
    (subst (λ r. IfOk r (λ place. NeedsPlace c.args.last.now → IsSome place)) c.in-Ok.is c.slot_place.ensures.there)
    c.note_last.ensures.sure c.note_last.ensures.free)

pub returns-in_err-note_first-in-Ok-clause-err : goal.returns-in_err-note_first-in-Ok-clause-err
returns-in_err-note_first-in-Ok-clause-err c =
    on_err c.from_residual.result
    (same_patches c.args.self.now c.make_places.new.self c.note_first.new.self c.make_places.ensures.same c.in_err-note_first-in-Ok.ensures.err)

pub returns-in_ok-note_first-in-Ok-clause-ok : goal.returns-in_ok-note_first-in-Ok-clause-ok
returns-in_ok-note_first-in-Ok-clause-ok c = ok_so c.note_last.result (λ takes. (
  c.note_first.new.self,
  same_then_takes c.args.chosen.now c.args.first c.args.self.now c.make_places.new.self c.note_first.new.self c.make_places.ensures.same c.in_ok-note_first-in-Ok.ensures.ok,
  (c.note_last.new.self, takes, refl),
)) c.note_last.ensures.ok

pub make_places-requires : goal.make_places-requires
make_places-requires c = (news c.args.first, c.requires.kinds.2, (let count : length c.args.chosen.now ≡ news c.args.first + news c.args.last.now = c.requires.count in omega arith))

pub note_last-requires-clause-last : goal.note_last-requires-clause-last
note_last-requires-clause-last c = (news c.args.first, c.requires.kinds.2, (let count : length c.args.chosen.now ≡ news c.args.first + news c.args.last.now = c.requires.count in omega arith))
