use Rattle.std.proofs.Common.{◌≡◌, Some, None, sym, subst, ◌∙◌, add-one}
use Rattle.replay.specs.Failing.{IsStop}
use Rattle.replay.proofs.Failing.{wrong_for_guess}
use Rattle.replay.proofs.checking.check_from.Goals as goal

pub returns-in-Ok-clause-ok : goal.returns-in-Ok-clause-ok
returns-in-Ok-clause-ok c = (c.args.guess, c.in-Ok.ensures)

pub check_told-requires : goal.check_told-requires
check_told-requires c = record {
  guess = c.args.guess;
  unchosen = c.requires;
  fails = subst (IsStop c.args.guess c.args.beginning.now c.args.entries.now) c.in-Err-Wrong.field-0-is c.in-Err-Wrong.ensures;
  told = λ r tells. let same : Some r ≡ Some c.in-Some.root = sym (c.told_root.ensures r tells) ∙ c.in-Some.is in cc;
}

pub returns-in-None-clause-wrong : goal.returns-in-None-clause-wrong
returns-in-None-clause-wrong c = (
  c.in-Err-Wrong.call,
  add-one c.in-Err-Wrong.call,
  wrong_for_guess c.args.beginning.now c.args.entries.now c.args.guess c.in-Err-Wrong.entry c.in-Err-Wrong.call
      (subst (IsStop c.args.guess c.args.beginning.now c.args.entries.now) c.in-Err-Wrong.field-0-is c.in-Err-Wrong.ensures) c.requires
      (λ r tells. absurd (let wrong : Some r ≡ None = sym (c.told_root.ensures r tells) ∙ c.in-None.is in cc)),
)
