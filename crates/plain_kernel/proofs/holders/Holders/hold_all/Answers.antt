use Rattle.std.proofs.Common.{◌≡◌, option_copied, ap, ◌∙◌, arith}
use Rattle.model.specs.Changes.{or_new}
use Rattle.plain_kernel.specs.Holders.{is_sought, passing}
use Rattle.plain_kernel.proofs.Holding.{none_passing}
use Rattle.plain_kernel.proofs.holders.Holders.hold_all.Goals as goal

pub returns-in-None-clause-gained : goal.returns-in-None-clause-gained
returns-in-None-clause-gained c = λ s.
    let test = is_sought c.args.descriptions.now s in
    let nothing : passing test (or_new (option_copied c.args.process)) ≡ 0 = ap (λ o. passing test (or_new (option_copied o))) c.in-None.is ∙ none_passing test in
    omega arith
