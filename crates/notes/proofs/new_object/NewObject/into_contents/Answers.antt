use Rattle.std.proofs.Common.{ℕ, Some, true, ap, sym, ◌∙◌}
use Rattle.model.specs.FiniteMap.{FinMap, empty, entries}
use Rattle.model.specs.State.{Directory, name_cmp}
use Rattle.dirlist.specs.Patches.{Notes}
use Rattle.store.specs.Laid.{laid}
use Rattle.notes.specs.declared.new_object.NewObject.{NewObject}
use Rattle.notes.specs.declared.change.Contents.TheVariants.{Names}
use Rattle.notes.specs.Patches.{added_by}
use Rattle.notes.specs.Steps.{new_inode}
use Rattle.notes.proofs.NameNotes.{laid_none, none_added}
use Rattle.notes.proofs.new_object.NewObject.into_contents.Goals as goal

pub returns-in-Directory-clause-contents : goal.returns-in-Directory-clause-contents
returns-in-Directory-clause-contents c = λ o.
    ap (λ (notes : Notes). Some (Directory (laid (entries notes) empty))) c.new.ensures
    ∙ ap (λ (names : FinMap name_cmp ℕ). Some (Directory names)) (laid_none empty)
    ∙ ap (λ (what : NewObject). Some (new_inode what)) (sym c.in-Directory.is)

pub returns-in-Directory-clause-added : goal.returns-in-Directory-clause-added
returns-in-Directory-clause-added c = ap (λ (notes : Notes). added_by (Names true notes)) c.new.ensures ∙ none_added
