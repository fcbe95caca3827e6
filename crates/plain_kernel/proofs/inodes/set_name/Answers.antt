use Rattle.std.proofs.Common.{ℕ, ◌+◌, ◌-◌, ◌==◌, cond, Option, ap, ◌∙◌}
use Rattle.model.specs.FiniteMap.{FinMap, get, insert}
use Rattle.model.specs.State.{Directory, name_cmp}
use Rattle.plain_kernel.specs.Counts.{count_at, given_once}
use Rattle.plain_kernel.proofs.Linked.{set_again}
use Rattle.plain_kernel.proofs.inodes.set_name.Goals as goal

pub returns-clause-changed : goal.returns-clause-changed
returns-clause-changed c =
    set_again c.args.each.now c.names_taken.new.each c.set.new.self c.args.dir _ c.directory.result _ c.in_ok-names.ensures.left c.in_ok-set.ensures.changed
    (c.directory.ensures ∙ ap Directory (c.in_ok-before.ensures.changed ∙ ap (λ (x : FinMap name_cmp ℕ). insert x c.args.name.now c.args.num) c.in_ok-names.ensures.taken))

pub returns-clause-counted : goal.returns-clause-counted
returns-clause-counted c = λ n.
    c.lose_some.ensures n
    ∙ ap (λ (m : ℕ). m - given_once n c.in_ok-before.before) (c.in_ok-gain.ensures.gained n)
    ∙ ap (λ (o : Option ℕ). count_at c.args.counts.now n + cond (c.args.num == n) 1 0 - given_once n o)
    (c.in_ok-before.ensures.before ∙ ap (λ (x : FinMap name_cmp ℕ). get x c.args.name.now) c.in_ok-names.ensures.taken)
