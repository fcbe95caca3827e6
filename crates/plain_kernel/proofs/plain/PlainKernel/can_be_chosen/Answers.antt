use Rattle.std.proofs.Common.{◌≡◌, ◌∙◌, true, false, length, sym}
use Rattle.std.specs.List.{AllByRecursion, sum_by}
use Rattle.model.specs.Changes.{news}
use Rattle.plain_kernel.specs.Chosen.{IsUnused}
use Rattle.plain_kernel.proofs.Choosing.{nowhere_of, unused_of}
use Rattle.plain_kernel.proofs.plain.PlainKernel.can_be_chosen.Goals as goal
use Rattle.plain_kernel.proofs.plain.PlainKernel.can_be_chosen.Goals.{then-are_enough, else-are_enough}

pub returns-then-are_unused : goal.returns-then-are_unused
returns-then-are_unused c = λ well.
    let k = c.args.self.now in
    let facts : (length c.args.chosen.now ≡ sum_by news c.args.edits.now) × AllByRecursion (IsUnused k) c.args.chosen.now = elim c.if-are_enough.branch [
      | then-are_enough w ↦ (c.are_enough.ensures.0 w.if-are_enough.true, w.are_unused.ensures.0 (sym w.value-is ∙ c.if-are_unused.true))
      | else-are_enough w ↦ absurd (let h : true ≡ false = sym c.if-are_unused.true ∙ w.value-is ∙ w.if-are_enough.false in cc)
    ] in (
      λ told. record {
        count = facts.0;
        unused = nowhere_of c.unused_numbers_are_nowhere.ensures k well c.args.chosen.now facts.1;
        different = c.are_different.ensures.0 told;
      },
      λ can. c.are_different.ensures.1 can.different,
    )

pub returns-else-are_unused : goal.returns-else-are_unused
returns-else-are_unused c = λ well. (
  λ told. absurd (let h : true ≡ false = sym told ∙ c.if-are_unused.false in cc),
  λ can. elim c.if-are_enough.branch [
    | then-are_enough w ↦ w.value-is ∙ w.are_unused.ensures.1 (unused_of c.args.self.now c.args.chosen.now can.unused)
    | else-are_enough w ↦ w.value-is ∙ c.are_enough.ensures.1 can.count
  ],
)
