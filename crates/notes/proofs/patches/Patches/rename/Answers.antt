use Rattle.std.proofs.Common.{◌≡◌, ◌+◌, ◌<◌, ℕ, List, [], ◌∷◌, ◌++◌, append-nil, refl, sym, ap, ◌∙◌, subst}
use Rattle.model.specs.Changes.{Move, inode_replaced}
use Rattle.notes.specs.Patches.{Patches, net_at}
use Rattle.notes.specs.Steps.{TakesIn}
use Rattle.notes.proofs.InodeNotes.{only_inodes, same_inodes, same_then_takes}
use Rattle.notes.proofs.NameEdits.{Losing, losing_at, losing_none, moved_count, moving_takes}
use Rattle.notes.proofs.Outcomes.{ok_so}
use Rattle.notes.proofs.patches.Patches.rename.Goals as goal

pub returns-in-None-clause-ok : goal.returns-in-None-clause-ok
returns-in-None-clause-ok c =
    let was = c.self.inside in
    let old : Patches = record { inodes = was.inodes; rights = was.rights; openings = was.openings; slots = was.slots; unnamed_inodes = was.unnamed_inodes.items } in
    let mid : Patches = record old { inodes = c.make_place-2.new.self } in
    let new : Patches = record old { inodes = c.note_names.new.self } in
    let edit = Move c.args.from c.args.old.now c.args.to c.args.new c.args.num c.args.replaced in
    let none : inode_replaced c.args.replaced ≡ [] = sym c.in-None.ensures in
    ok_so c.note_names.result
    (λ moved chosen. subst (λ (p : Patches). TakesIn chosen edit p new) c.self.view_is
    (same_then_takes chosen edit old mid new
    (only_inodes old mid (same_inodes was.inodes c.make_place.new.self c.make_place-2.new.self c.make_place.ensures.same c.make_place-2.ensures.same) refl refl refl refl)
    (moving_takes chosen c.args.from c.args.old.now c.args.to c.args.new c.args.num c.args.replaced c.note_names.new.self mid new moved
    (λ n. subst (λ ns. Losing ns n (net_at c.note_names.new.self n) (net_at c.note_names.new.self n)) (sym none) (losing_none n (net_at c.note_names.new.self n)))
    refl refl refl (sym (ap (λ ns. was.unnamed_inodes.items ++ ns) none ∙ append-nil was.unnamed_inodes.items)))))
    c.note_names.ensures.ok

pub returns-in_ok-note_names-in-Some-clause-ok : goal.returns-in_ok-note_names-in-Some-clause-ok
returns-in_ok-note_names-in-Some-clause-ok c chosen =
    let was = c.self.inside in
    let old : Patches = record { inodes = was.inodes; rights = was.rights; openings = was.openings; slots = was.slots; unnamed_inodes = was.unnamed_inodes.items } in
    let mid : Patches = record old { inodes = c.make_unnamed.new.self } in
    let new : Patches = record old { inodes = c.note_unnamed.new.self; unnamed_inodes = c.push.new.self.items } in
    let edit = Move c.args.from c.args.old.now c.args.to c.args.new c.args.num c.args.replaced in
    let some : inode_replaced c.args.replaced ≡ c.in-Some.unnamed ∷ [] = sym c.in-Some.ensures in
    let kept : c.reserve.new.self.items ≡ was.unnamed_inodes.items = c.reserve.ensures.items in
    let grew = rw c.unwrap.ensures at c.push.ensures.items in
    let pushed : c.push.new.self.items ≡ was.unnamed_inodes.items ++ (c.in-Some.unnamed ∷ []) = grew ∙ ap (λ (ns : List ℕ). ns ++ (c.in-Some.unnamed ∷ [])) kept in
    let places = same_inodes was.inodes c.make_place.new.self c.make_place-2.new.self c.make_place.ensures.same c.make_place-2.ensures.same in
    subst (λ (p : Patches). TakesIn chosen edit p new) c.self.view_is
    (same_then_takes chosen edit old mid new
    (only_inodes old mid (same_inodes was.inodes c.make_place-2.new.self c.make_unnamed.new.self places c.make_unnamed.ensures.same) refl refl refl refl)
    (moving_takes chosen c.args.from c.args.old.now c.args.to c.args.new c.args.num c.args.replaced c.note_names-in-Some.new.self mid new c.in_ok-note_names-in-Some.ensures.ok
    (λ n. subst (λ ns. Losing ns n (net_at c.note_names-in-Some.new.self n) (net_at c.note_unnamed.new.self n)) (sym some) (losing_at c.in-Some.unnamed c.note_names-in-Some.new.self c.note_unnamed.new.self c.note_unnamed.ensures n))
    refl refl refl (pushed ∙ ap (λ ns. was.unnamed_inodes.items ++ ns) (sym some))))

pub note_unnamed-requires-clause-count : goal.note_unnamed-requires-clause-count
note_unnamed-requires-clause-count c =
    subst (λ n. n + 1 < 18446744073709551616)
    (sym (moved_count c.args.from c.args.old.now c.args.to c.args.new c.args.num c.make_unnamed.new.self c.note_names-in-Some.new.self c.in_ok-note_names-in-Some.ensures.ok c.in-Some.unnamed))
    c.in_ok-make_unnamed-in-Some.ensures.count
