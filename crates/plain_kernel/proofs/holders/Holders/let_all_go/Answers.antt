use Rattle.std.proofs.Common.{◌≡◌, option_copied, ap, ◌∙◌, arith}
use Rattle.model.specs.Changes.{or_new}
use Rattle.plain_kernel.specs.Holders.{is_sought, passing}
use Rattle.plain_kernel.proofs.Holding.{none_passing}
use Rattle.plain_kernel.proofs.holders.Holders.let_all_go.Goals as goal

pub returns-in_default : goal.returns-in_default
returns-in_default c = λ s.
    let test = is_sought c.args.descriptions.now s in
    let nothing : passing test (or_new (option_copied c.args.process)) ≡ 0 = ap (λ o. passing test (or_new (option_copied o))) c.in_default.is ∙ none_passing test in
    omega arith
