use Rattle.std.proofs.Common.{◌≡◌, ap, ◌∙◌, arith}
use Rattle.plain_kernel.specs.Counts.{count_at}
use Rattle.plain_kernel.proofs.Linked.{lost, lost_last}
use Rattle.plain_kernel.proofs.counts.lose.Goals as goal

pub returns-then-all-count : goal.returns-then-all-count
returns-then-all-count c = λ n.
    ap (λ m. count_at m n) c.change.ensures
    ∙ lost c.args.counts.now c.args.num n _ c.args.count (let count : c.count_of-all.result ≡ count_at c.args.counts.now c.args.num = c.count_of-all.ensures in omega (arith, c.if-all-count.true))

pub returns-else-all-count : goal.returns-else-all-count
returns-else-all-count c = λ n.
    ap (λ m. count_at m n) c.remove-before.ensures.changed
    ∙ lost_last c.args.counts.now c.args.num n c.args.count (let count : c.count_of-all.result ≡ count_at c.args.counts.now c.args.num = c.count_of-all.ensures in omega (arith, c.if-all-count.false))
