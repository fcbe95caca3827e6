-- What the changes of an inode make of its place: the inode to come, staged, with its counts, and with what was claimed used.
use Rattle.std.proofs.Common.{◌≡◌, ◌⊎◌, ℕ, ◌+◌, ◌-◌, ◌≤◌, Bool, true, false, [], Option, Some, None, is_some, refl, sym, ap, subst, ◌∙◌, arith, inl, inr}
use Rattle.std.specs.Option.{option_and_then, option_map}
use Rattle.std.specs.Cmp.Lexicographic.{nat_list_cmp_total}
use Rattle.model.specs.FiniteMap.{empty, entries, get-empty, same_map}
use Rattle.model.specs.State.{Description, Directory, File, Fixed_content, Inode, kind, mapped}
use Rattle.model.proofs.Laws.{name_exact}
use Rattle.call_laws.proofs.Laws.{some_same, true_is_false}
use Rattle.dirlist.specs.Listing.{Listing}
use Rattle.dirlist.specs.Patches.{Notes}
use Rattle.file_shadow.specs.View.{FileChanges, view_over}
use Rattle.pipe_shadow.specs.View.{PipeChanges, view_over as pipe_over}
use Rattle.objects.specs.Pieces.{FileContent}
use Rattle.store.specs.Laid.{laid, laid_listing}
use Rattle.store.specs.Numbers.{coming, held, present}
use Rattle.store.specs.Places.{file_in, listing_in, openings_of}
use Rattle.store.specs.Shown.{description_of, inode_of}
use Rattle.store.specs.declared.OpenFile.{OpenFile}
use Rattle.store.specs.declared.OpenPipe.{OpenPipe}
use Rattle.store.specs.declared.Place.{Place}
use Rattle.store.specs.declared.Object.TheVariants.{Directory as Kept_directory, File as Kept_file, Pipe as Kept_pipe, Fixed as Kept_fixed, Nothing}
use Rattle.notes.specs.declared.change.Contents.{Contents}
use Rattle.notes.specs.declared.change.Contents.TheVariants.{Same, Names, Bytes, Pipe as Piped, Fixed as As_fixed}
use Rattle.notes.specs.declared.change.Made.{Made}
use Rattle.notes.specs.declared.change.Made.TheVariants.{Directory as New_one, File as New_file, Pipe as New_pipe, Fixed as New_fixed}
use Rattle.shadow.specs.Agrees.{IsOver}
use Rattle.shadow.specs.Claims.{Claim, New_directory, Number, Room, as_count, is_directory_made, is_file_made, number_of}
use Rattle.shadow.specs.Laid.{IsPassedOver, IsReadyFile, IsWrittenOver, bytes_in, named_by, shown_if}
use Rattle.notes.specs.Patches.{new_ends, of_bytes, of_fixed, of_names, of_pipe, patched}
use Rattle.shadow.specs.Stored.{IsStaged}
use Rattle.shadow.proofs.shared.SoundnessLemmas.{holders_seen, openings_seen}
use Rattle.shadow.proofs.freeing.RemainingPlaces.{kept_by}
use Rattle.shadow.proofs.shared.PipePairLemmas.{ends_seen}
use Rattle.shadow.proofs.edits.NewInodes.{directory_to_come}

-- how often a change makes a claim on its number
abbrev pub claim_of : Option Made → ℕ → Claim → ℕ
claim_of made promised (Room r) = promised
claim_of made promised (New_directory n) = as_count (is_directory_made made)
claim_of made promised (Number n) = as_count (is_file_made made)

-- the inode and the description that a place shows
abbrev pub inode_seen : Option Place → Option Inode
inode_seen o = option_and_then inode_of (held o)

abbrev pub description_seen : Option Place → Option Description
description_seen o = option_and_then description_of (held o)

pub record Becomes (w : Contents) (made : Option Made) (promised : ℕ) (before after : Option Place) : Type 0 where
  pub inode : inode_seen after ≡ patched w (inode_seen before)
  pub description : description_seen after ≡ description_seen before
  pub staged : IsStaged after
  -- a count that is shown was shown before, or is none of what was not there
  pub openings : (count : ℕ) → (inode_seen before ≡ None → count ≡ 0) → ((c : ℕ) → openings_seen (held before) ≡ Some c → c ≡ count) → (c : ℕ) → openings_seen (held after) ≡ Some c → c ≡ count
  pub holders : (c : ℕ) → holders_seen (held after) ≡ Some c → holders_seen (held before) ≡ Some c
  -- a pipe that is shown has the descriptions that it had, or is new and has those of the changes
  pub pipes : (ends : ℕ × ℕ) → ends_seen (held after) ≡ Some ends → (ends_seen (held before) ≡ Some ends) ⊎ ((inode_seen before ≡ None) × (new_ends w ≡ Some ends))
  pub kept : (c : Claim) → kept_by c after + claim_of made promised c ≡ kept_by c before

none_some : {X : Type 0} (x : X) → None ≡ Some x → ⊥
none_some x e = cc

-- nothing is changed
pub stays_as_it_is : (before after : Option Place) → IsStaged before → after ≡ before → Becomes Same None 0 before after
stays_as_it_is before after staged same = subst (λ (o : Option Place). Becomes Same None 0 before o) (sym same) (record {
  inode = refl;
  description = refl;
  staged = staged;
  openings = λ count none all. all;
  holders = λ c is. is;
  pipes = λ ends is. inl is;
  kept = kept;
})
  where
    kept : (c : Claim) → kept_by c before + claim_of None 0 c ≡ kept_by c before
    kept (Room r) = omega arith
    kept (New_directory m) = (let zero : claim_of None 0 (New_directory m) ≡ 0 = refl in omega arith)
    kept (Number m) = (let zero : claim_of None 0 (Number m) ≡ 0 = refl in omega arith)

-- names are laid over a directory, which is there or is to come
module _ (notes : Notes) (promised : ℕ) (l : Listing) (room : promised ≤ l.promised) where
  abbrev laid_place : Place
  laid_place = present (Kept_directory (laid_listing (entries notes) promised l))

  old_names : Becomes (Names false notes) None promised (Some (present (Kept_directory l))) (Some laid_place)
  old_names = record {
    inode = refl;
    description = refl;
    staged = λ e. cc;
    openings = λ count none all c is. absurd (none_some c is);
    holders = λ c is. absurd (none_some c is);
    pipes = λ ends is. absurd (none_some ends is);
    kept = kept;
  }
    where
      kept : (c : Claim) → kept_by c (Some laid_place) + claim_of None promised c ≡ kept_by c (Some (present (Kept_directory l)))
      kept (Room r) = (let now : kept_by (Room r) (Some laid_place) ≡ l.promised - promised = refl in let was : kept_by (Room r) (Some (present (Kept_directory l))) ≡ l.promised = refl in omega arith)
      kept (New_directory m) = refl
      kept (Number m) = refl

  new_names : l.names ≡ empty → Becomes (Names true notes) (Some New_one) promised (Some (coming (Kept_directory l))) (Some laid_place)
  new_names bare = record {
    inode = ap (λ names. Some (Directory (laid (entries notes) names))) bare;
    description = refl;
    staged = λ e. cc;
    openings = λ count none all c is. absurd (none_some c is);
    holders = λ c is. absurd (none_some c is);
    pipes = λ ends is. absurd (none_some ends is);
    kept = kept;
  }
    where
      kept : (c : Claim) → kept_by c (Some laid_place) + claim_of (Some New_one) promised c ≡ kept_by c (Some (coming (Kept_directory l)))
      kept (Room r) = (let now : kept_by (Room r) (Some laid_place) ≡ l.promised - promised = refl in let was : kept_by (Room r) (Some (coming (Kept_directory l))) ≡ l.promised = refl in omega arith)
      kept (New_directory m) = refl
      kept (Number m) = refl

-- bytes are laid over a file, which is there or is to come
module _ (bytes : FileChanges) (content : FileContent) where
  abbrev written_place : ℕ → Place
  written_place openings = present (Kept_file (record { bytes = content; openings = openings }))

  old_bytes : (file : OpenFile) → content.bytes ≡ view_over bytes file.bytes.bytes → Becomes (Bytes false bytes) None 0 (Some (present (Kept_file file))) (Some (written_place file.openings))
  old_bytes file seen = record {
    inode = ap (λ bs. Some (File bs)) seen;
    description = refl;
    staged = λ e. cc;
    openings = λ count none all. all;
    holders = λ c is. absurd (none_some c is);
    pipes = λ ends is. absurd (none_some ends is);
    kept = kept;
  }
    where
      kept : (c : Claim) → kept_by c (Some (written_place file.openings)) + claim_of None 0 c ≡ kept_by c (Some (present (Kept_file file)))
      kept (Room r) = refl
      kept (New_directory m) = refl
      kept (Number m) = refl

  new_bytes : content.bytes ≡ view_over bytes [] → Becomes (Bytes true bytes) (Some New_file) 0 (Some (coming Nothing)) (Some (written_place 0))
  new_bytes seen = record {
    inode = ap (λ bs. Some (File bs)) seen;
    description = refl;
    staged = λ e. cc;
    openings = λ count none all c is. sym (some_same 0 c is) ∙ sym (none refl);
    holders = λ c is. absurd (none_some c is);
    pipes = λ ends is. absurd (none_some ends is);
    kept = kept;
  }
    where
      kept : (c : Claim) → kept_by c (Some (written_place 0)) + claim_of (Some New_file) 0 c ≡ kept_by c (Some (coming Nothing))
      kept (Room r) = refl
      kept (New_directory m) = refl
      kept (Number m) = refl

-- bytes pass through a pipe, which is there or is to come
module _ (changes : PipeChanges) (pipe : OpenPipe) where
  abbrev passed_place : Place
  passed_place = present (Kept_pipe (record pipe { bytes = pipe_over changes pipe.bytes }))

  old_pipe : Becomes (Piped None changes) None 0 (Some (present (Kept_pipe pipe))) (Some passed_place)
  old_pipe = record {
    inode = refl;
    description = refl;
    staged = λ e. cc;
    openings = λ count none all c is. absurd (none_some c is);
    holders = λ c is. absurd (none_some c is);
    pipes = λ ends is. inl is;
    kept = kept;
  }
    where
      kept : (c : Claim) → kept_by c (Some passed_place) + claim_of None 0 c ≡ kept_by c (Some (present (Kept_pipe pipe)))
      kept (Room r) = refl
      kept (New_directory m) = refl
      kept (Number m) = refl

  new_pipe : Becomes (Piped (Some pipe) changes) (Some New_pipe) 0 (Some (coming Nothing)) (Some passed_place)
  new_pipe = record {
    inode = refl;
    description = refl;
    staged = λ e. cc;
    openings = λ count none all c is. absurd (none_some c is);
    holders = λ c is. absurd (none_some c is);
    pipes = λ ends is. inr (refl, is);
    kept = kept;
  }
    where
      kept : (c : Claim) → kept_by c (Some passed_place) + claim_of (Some New_pipe) 0 c ≡ kept_by c (Some (coming Nothing))
      kept (Room r) = refl
      kept (New_directory m) = refl
      kept (Number m) = refl

-- what never changes is to come, and is shown
new_fixed : (fixed : Fixed_content) → Becomes (As_fixed fixed) (Some New_fixed) 0 (Some (coming Nothing)) (Some (present (Kept_fixed fixed)))
new_fixed fixed = record {
  inode = refl;
  description = refl;
  staged = λ e. cc;
  openings = λ count none all c is. absurd (none_some c is);
  holders = λ c is. absurd (none_some c is);
  pipes = λ ends is. absurd (none_some ends is);
  kept = kept;
}
  where
    kept : (c : Claim) → kept_by c (Some (present (Kept_fixed fixed))) + claim_of (Some New_fixed) 0 c ≡ kept_by c (Some (coming Nothing))
    kept (Room r) = refl
    kept (New_directory m) = refl
    kept (Number m) = refl

-- what is there already is shown as it is
shown_before : (o : Option Place) (place : Place) → option_map (shown_if false) o ≡ Some place → o ≡ Some place
shown_before (Some p) place is = is
shown_before None place is = is

module _ (n promised : ℕ) (before after : Option Place) (staged : IsStaged before) where
  -- a directory
  pub names_become : (made : Option Made) (fresh : Bool) (notes : Notes) → IsOver (mapped kind (inode_seen before)) made (of_names fresh) → ((c : Claim) → number_of c ≡ n → claim_of made promised c ≤ kept_by c before)
      → (listing : Listing) → option_map (shown_if (is_some made)) before ≡ Some (present (Kept_directory listing)) → promised ≤ listing.promised → after ≡ option_map (named_by (is_some made) notes promised) before
      → Becomes (Names fresh notes) made promised before after
  names_become (Some New_file) fresh notes over covers listing there room is = absurd cc
  names_become (Some New_pipe) fresh notes over covers listing there room is = absurd cc
  names_become (Some New_fixed) fresh notes over covers listing there room is = absurd cc
  names_become None fresh notes over covers listing there room is =
      let was : before ≡ Some (present (Kept_directory listing)) = shown_before before (present (Kept_directory listing)) there in
      subst (λ b. Becomes (Names b notes) None promised before after) (sym over.0)
      (subst (λ (o : Option Place). Becomes (Names false notes) None promised before o) (sym (is ∙ ap (option_map (named_by false notes promised)) was))
      (subst (λ (o : Option Place). Becomes (Names false notes) None promised o (Some (laid_place notes promised listing room))) (sym was) (old_names notes promised listing room)))
  names_become (Some New_one) fresh notes over covers listing there room is =
      subst (λ b. Becomes (Names b notes) (Some New_one) promised before after) (sym (is_fresh over))
      (subst (λ (o : Option Place). Becomes (Names true notes) (Some New_one) promised before o) (sym (is ∙ ap (option_map (named_by true notes promised)) was))
      (subst (λ (o : Option Place). Becomes (Names true notes) (Some New_one) promised o (Some (laid_place notes promised to_come.0 has_room))) (sym was) (new_names notes promised to_come.0 has_room bare)))
    where
      to_come : (l : Listing) × (before ≡ Some (coming (Kept_directory l)))
      to_come = directory_to_come before n (
          let one : claim_of (Some New_one) promised (New_directory n) ≡ 1 = refl in
          let most : claim_of (Some New_one) promised (New_directory n) ≤ kept_by (New_directory n) before = covers (New_directory n) refl in omega arith)

      was : before ≡ Some (coming (Kept_directory to_come.0))
      was = to_come.1

      same_listing : to_come.0 ≡ listing
      same_listing = some_same to_come.0 listing (sym (ap (λ o. listing_in (option_map (shown_if true) o)) was) ∙ ap listing_in there)

      has_room : promised ≤ to_come.0.promised
      has_room = subst (λ (l : Listing). promised ≤ l.promised) (sym same_listing) room

      bare : to_come.0.names ≡ empty
      bare = same_map nat_list_cmp_total name_exact to_come.0.names empty (λ y. subst IsStaged was staged y ∙ sym (get-empty _ y))

      is_fresh : of_names fresh ≡ of_names true → fresh ≡ true
      is_fresh e = cc

  -- a file
  pub bytes_become : (made : Option Made) (fresh : Bool) (bytes : FileChanges) → IsOver (mapped kind (inode_seen before)) made (of_bytes fresh) → ((c : Claim) → number_of c ≡ n → claim_of made promised c ≤ kept_by c before)
      → IsReadyFile (is_some made) before → IsWrittenOver bytes before after → Becomes (Bytes fresh bytes) made promised before after
  bytes_become (Some New_one) fresh bytes over covers ready is = absurd cc
  bytes_become (Some New_pipe) fresh bytes over covers ready is = absurd cc
  bytes_become (Some New_fixed) fresh bytes over covers ready is = absurd cc
  bytes_become None fresh bytes over covers ready is =
      subst (λ b. Becomes (Bytes b bytes) None promised before after) (sym over.0)
      (subst (λ m. Becomes (Bytes false bytes) None m before after) (sym none)
      (subst (λ (o : Option Place). Becomes (Bytes false bytes) None 0 before o) (sym (is.place ∙ ap (λ o. Some (written_place bytes is.content (openings_of (file_in o)))) was))
      (subst (λ (o : Option Place). Becomes (Bytes false bytes) None 0 o (Some (written_place bytes is.content ready.0.openings))) (sym was)
      (old_bytes bytes is.content ready.0 (is.shown ∙ ap (λ o. view_over bytes (bytes_in (file_in o))) was)))))
    where
      was : before ≡ Some (present (Kept_file ready.0))
      was = ready.1

      none : promised ≡ 0
      none = (
          let most : claim_of None promised (Room n) ≤ kept_by (Room n) before = covers (Room n) refl in
          let zero : kept_by (Room n) before ≡ 0 = ap (kept_by (Room n)) was in omega arith)
  bytes_become (Some New_file) fresh bytes over covers ready is =
      subst (λ b. Becomes (Bytes b bytes) (Some New_file) promised before after) (sym (is_fresh over))
      (subst (λ m. Becomes (Bytes true bytes) (Some New_file) m before after) (sym none)
      (subst (λ (o : Option Place). Becomes (Bytes true bytes) (Some New_file) 0 before o) (sym (is.place ∙ ap (λ o. Some (written_place bytes is.content (openings_of (file_in o)))) was))
      (subst (λ (o : Option Place). Becomes (Bytes true bytes) (Some New_file) 0 o (Some (written_place bytes is.content 0))) (sym was)
      (new_bytes bytes is.content (is.shown ∙ ap (λ o. view_over bytes (bytes_in (file_in o))) was)))))
    where
      was : before ≡ Some (coming Nothing)
      was = ready

      none : promised ≡ 0
      none = (
          let most : claim_of (Some New_file) promised (Room n) ≤ kept_by (Room n) before = covers (Room n) refl in
          let zero : kept_by (Room n) before ≡ 0 = ap (kept_by (Room n)) was in omega arith)

      is_fresh : of_bytes fresh ≡ of_bytes true → fresh ≡ true
      is_fresh e = cc

  -- a pipe that is there
  pub pipe_become : (made : Option Made) (changes : PipeChanges) → IsOver (mapped kind (inode_seen before)) made (of_pipe false) → ((c : Claim) → number_of c ≡ n → claim_of made promised c ≤ kept_by c before)
      → IsPassedOver changes before after → Becomes (Piped None changes) made promised before after
  pipe_become (Some New_one) changes over covers is = absurd cc
  pipe_become (Some New_file) changes over covers is = absurd cc
  pipe_become (Some New_pipe) changes over covers is = absurd cc
  pipe_become (Some New_fixed) changes over covers is = absurd cc
  pipe_become None changes over covers is =
      subst (λ m. Becomes (Piped None changes) None m before after) (sym none)
      (subst (λ (o : Option Place). Becomes (Piped None changes) None 0 before o) (sym is.is)
      (subst (λ (o : Option Place). Becomes (Piped None changes) None 0 o (Some (passed_place changes is.pipe))) (sym is.was) (old_pipe changes is.pipe)))
    where
      none : promised ≡ 0
      none = (
          let most : claim_of None promised (Room n) ≤ kept_by (Room n) before = covers (Room n) refl in
          let zero : kept_by (Room n) before ≡ 0 = ap (kept_by (Room n)) is.was in omega arith)

  -- and a new one
  pub pipe_comes : (made : Option Made) (new : OpenPipe) (changes : PipeChanges) → IsOver (mapped kind (inode_seen before)) made (of_pipe true) → ((c : Claim) → number_of c ≡ n → claim_of made promised c ≤ kept_by c before)
      → before ≡ Some (coming Nothing) → after ≡ Some (present (Kept_pipe (record new { bytes = pipe_over changes new.bytes }))) → Becomes (Piped (Some new) changes) made promised before after
  pipe_comes (Some New_one) new changes over covers was is = absurd cc
  pipe_comes (Some New_file) new changes over covers was is = absurd cc
  pipe_comes (Some New_fixed) new changes over covers was is = absurd cc
  pipe_comes None new changes over covers was is = absurd (true_is_false over.0)
  pipe_comes (Some New_pipe) new changes over covers was is =
      subst (λ m. Becomes (Piped (Some new) changes) (Some New_pipe) m before after) (sym none)
      (subst (λ (o : Option Place). Becomes (Piped (Some new) changes) (Some New_pipe) 0 before o) (sym is)
      (subst (λ (o : Option Place). Becomes (Piped (Some new) changes) (Some New_pipe) 0 o (Some (passed_place changes new))) (sym was) (new_pipe changes new)))
    where
      none : promised ≡ 0
      none = (
          let most : claim_of (Some New_pipe) promised (Room n) ≤ kept_by (Room n) before = covers (Room n) refl in
          let zero : kept_by (Room n) before ≡ 0 = ap (kept_by (Room n)) was in omega arith)

  -- and what never changes
  pub fixed_comes : (made : Option Made) (fixed : Fixed_content) → IsOver (mapped kind (inode_seen before)) made of_fixed → ((c : Claim) → number_of c ≡ n → claim_of made promised c ≤ kept_by c before)
      → before ≡ Some (coming Nothing) → after ≡ Some (present (Kept_fixed fixed)) → Becomes (As_fixed fixed) made promised before after
  fixed_comes (Some New_one) fixed over covers was is = absurd cc
  fixed_comes (Some New_file) fixed over covers was is = absurd cc
  fixed_comes (Some New_pipe) fixed over covers was is = absurd cc
  fixed_comes None fixed over covers was is = absurd over
  fixed_comes (Some New_fixed) fixed over covers was is =
      subst (λ m. Becomes (As_fixed fixed) (Some New_fixed) m before after) (sym none)
      (subst (λ (o : Option Place). Becomes (As_fixed fixed) (Some New_fixed) 0 before o) (sym is)
      (subst (λ (o : Option Place). Becomes (As_fixed fixed) (Some New_fixed) 0 o (Some (present (Kept_fixed fixed)))) (sym was) (new_fixed fixed)))
    where
      none : promised ≡ 0
      none = (
          let most : claim_of (Some New_fixed) promised (Room n) ≤ kept_by (Room n) before = covers (Room n) refl in
          let zero : kept_by (Room n) before ≡ 0 = ap (kept_by (Room n)) was in omega arith)
