use Rattle.std.proofs.Common.{◌≡◌, true, false, sym, rules}
use Rattle.notes.specs.declared.change.Contents.TheVariants.{Names}
use Rattle.notes.proofs.NamesOver.{keys_told}
use Rattle.notes.proofs.overlay.names_over.Goals as goal

pub returns-in-Names-true-default : goal.returns-in-Names-true-default
returns-in-Names-true-default c =
    let is : c.args.contents.now ≡ Names true c.in-Names-true-default.names = search rules in
    keys_told _ true c.in-Names-true-default.names c.args.stored.now.names _ _ is (λ o same. sym c.new-in-Names-true-default.ensures.names) c.names_over.ensures

pub returns-in-Names-false-default : goal.returns-in-Names-false-default
returns-in-Names-false-default c =
    let is : c.args.contents.now ≡ Names false c.in-Names-false-default.names = search rules in
    keys_told _ false c.in-Names-false-default.names c.args.stored.now.names _ _ is (λ o same. same) c.names_over-in-Names-false-default.ensures
