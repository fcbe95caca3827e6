use Rattle.std.proofs.Common.{◌≡◌, true, false, sym, ap, ◌∙◌, rules}
use Rattle.model.specs.FiniteMap.{keys}
use Rattle.model.specs.State.{names_of_inode}
use Rattle.model.specs.Paths.{is_empty}
use Rattle.notes.specs.Patches.{patched}
use Rattle.notes.specs.declared.change.Contents.TheVariants.{Names}
use Rattle.notes.proofs.NamesOver.{empty_has_none, empty_told, no_keys}
use Rattle.notes.proofs.overlay.is_empty_over.Goals as goal

pub returns-in-Same : goal.returns-in-Same
returns-in-Same c = λ o same.
    c.is_empty.ensures ∙ no_keys c.args.stored.now.names ∙ ap (λ names. is_empty (keys names)) (sym same)
    ∙ ap (λ t. is_empty (keys (names_of_inode (patched t o)))) (sym c.in-Same.is)

pub returns-in-Bytes : goal.returns-in-Bytes
returns-in-Bytes c = λ o same. empty_has_none ∙ ap (λ t. is_empty (keys (names_of_inode (patched t o)))) (sym c.in-Bytes.is)

pub returns-in-Pipe : goal.returns-in-Pipe
returns-in-Pipe c = λ o same. empty_has_none ∙ ap (λ t. is_empty (keys (names_of_inode (patched t o)))) (sym c.in-Pipe.is)

pub returns-in-Fixed : goal.returns-in-Fixed
returns-in-Fixed c = λ o same. empty_has_none ∙ ap (λ t. is_empty (keys (names_of_inode (patched t o)))) (sym c.in-Fixed.is)

pub returns-in-Names-true-default : goal.returns-in-Names-true-default
returns-in-Names-true-default c =
    let is : c.args.contents.now ≡ Names true c.in-Names-true-default.names = search rules in
    empty_told _ true c.in-Names-true-default.names c.args.stored.now.names _ _ is (λ o same. sym c.new.ensures.names) c.is_empty_over.ensures

pub returns-in-Names-false-default : goal.returns-in-Names-false-default
returns-in-Names-false-default c =
    let is : c.args.contents.now ≡ Names false c.in-Names-false-default.names = search rules in
    empty_told _ false c.in-Names-false-default.names c.args.stored.now.names _ _ is (λ o same. same) c.is_empty_over-in-Names-false-default.ensures
