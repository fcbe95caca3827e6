use Rattle.std.proofs.Common.{ℕ, add-one, inl, inr, sym, subst}
use Rattle.replay.specs.Failing.{FailsAt, IsStop}
use Rattle.replay.specs.Faults.{IsFirstWrong}
use Rattle.replay.proofs.Failing.{later_is, wrong_for_first, wrong_for_told}
use Rattle.replay.proofs.checking.check_told.Goals as goal

pub returns-in-Ok-clause-ok : goal.returns-in-Ok-clause-ok
returns-in-Ok-clause-ok c = (c.args.root, c.in-Ok.ensures)

pub returns-in-Err-Wrong-clause-wrong : goal.returns-in-Err-Wrong-clause-wrong
returns-in-Err-Wrong-clause-wrong c =
    let es = c.args.entries.now in
    let setup = c.args.beginning.now in
    let told = c.requires in
    let fails : FailsAt c.args.root setup es c.in-Err-Wrong.entry c.in-Err-Wrong.call = subst (IsStop c.args.root setup es) c.in-Err-Wrong.field-0-is c.in-Err-Wrong.ensures in (
      c.max-later.result.1,
      add-one c.max-later.result.1,
      elim (later_is c.in-Err-Wrong.entry c.in-Err-Wrong.call c.args.first.0 c.args.first.1 c.max-later.result c.max-later.ensures) [
        | inl second ↦ subst (λ (n : ℕ). IsFirstWrong setup es n) (sym second.0)
            (wrong_for_told setup es told.guess c.args.first.0 c.args.first.1 told.fails told.unchosen c.args.root c.in-Err-Wrong.entry c.in-Err-Wrong.call fails told.told second.1)
        | inr first ↦ subst (λ (n : ℕ). IsFirstWrong setup es n) (sym first.0)
            (wrong_for_first setup es told.guess c.args.first.0 c.args.first.1 told.fails told.unchosen c.args.root c.in-Err-Wrong.entry c.in-Err-Wrong.call fails told.told first.1)
      ],
    )
