use Rattle.std.proofs.Common.{ℕ, ◌↔◌, sym, subst}
use Rattle.std.specs.List.{Contains}
use Rattle.model.specs.Plan.{blocks}
use Rattle.notes.specs.declared.change.Contents.{Contents}
use Rattle.notes.specs.Patches.{numbers_in}
use Rattle.notes.proofs.wiping.wipe_first.Goals as goal

pub returns-clause-numbers : goal.returns-clause-numbers
returns-clause-numbers c =
    subst (λ (d : Contents). (b : ℕ) → Contains (numbers_in d) b ↔ Contains (blocks c.args.offset c.args.count) b)
    (sym c.replace.ensures.after) c.in_ok-noted.ensures.numbers
