use Rattle.std.proofs.Common.{ℕ, ◌↔◌, length, sym, subst}
use Rattle.std.specs.List.{Contains}
use Rattle.model.specs.Plan.{blocks}
use Rattle.notes.specs.declared.change.Contents.{Contents}
use Rattle.notes.specs.Patches.{numbers_in}
use Rattle.notes.proofs.change.write_first.Goals as goal

pub returns-clause-numbers : goal.returns-clause-numbers
returns-clause-numbers c =
    subst (λ (d : Contents). (b : ℕ) → Contains (numbers_in d) b ↔ Contains (blocks c.args.offset (length c.args.bytes.now)) b)
    (sym c.replace.ensures.after) c.in_ok-noted.ensures.numbers
