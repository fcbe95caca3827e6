use Rattle.std.proofs.Common.{◌≡◌, ℕ, List, [], ◌∷◌, ◌++◌, refl, ap, ◌∙◌, subst}
use Rattle.notes.specs.Patches.{Patches}
use Rattle.notes.specs.Steps.{TakesIn, unnaming}
use Rattle.notes.proofs.InodeNotes.{only_inodes, same_inodes, same_then_takes}
use Rattle.notes.proofs.NameEdits.{unnaming_takes}
use Rattle.notes.proofs.patches.Patches.unname.Goals as goal

pub returns-clause-ok : goal.returns-clause-ok
returns-clause-ok c chosen what =
    let was = c.self.inside in
    let old : Patches = record { inodes = was.inodes; rights = was.rights; openings = was.openings; slots = was.slots; unnamed_inodes = was.unnamed_inodes.items } in
    let mid : Patches = record old { inodes = c.make_place.new.self } in
    let new : Patches = record old { inodes = c.note_unnamed.new.self; unnamed_inodes = c.push.new.self.items } in
    let edit = unnaming what c.args.parent c.args.name c.args.num in
    let kept : c.reserve.new.self.items ≡ was.unnamed_inodes.items = c.reserve.ensures.items in
    let grew = rw c.unwrap.ensures at c.push.ensures.items in
    let pushed : c.push.new.self.items ≡ was.unnamed_inodes.items ++ (c.args.num ∷ []) = grew ∙ ap (λ (ns : List ℕ). ns ++ (c.args.num ∷ [])) kept in
    subst (λ (p : Patches). TakesIn chosen edit p new) c.self.view_is
    (same_then_takes chosen edit old mid new
    (only_inodes old mid (same_inodes was.inodes c.make_unnamed.new.self c.make_place.new.self c.make_unnamed.ensures.same c.make_place.ensures.same) refl refl refl refl)
    (unnaming_takes what chosen c.args.parent c.args.num c.args.name c.note_name.new.self mid new c.in_ok-note_name.ensures.ok c.note_unnamed.ensures refl refl refl pushed))
