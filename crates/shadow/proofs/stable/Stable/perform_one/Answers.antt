use Rattle.std.proofs.Common.{◌+◌, sym, ap, ◌∙◌}
use Rattle.shadow.specs.Claims.{reserved}
use Rattle.shadow.proofs.claims.CallClaims.{claimed_of_one}
use Rattle.notes.proofs.Laws.{ok_so}
use Rattle.shadow.proofs.stable.Stable.perform_one.Goals as goal

pub returns-else-is_last-clause-kept : goal.returns-else-is_last-clause-kept
returns-else-is_last-clause-kept c =
    ok_so c.perform_first.result
    (λ kept claim. kept claim
    ∙ ap (λ n. reserved c.perform_first.new.self claim + n)
    (sym (claimed_of_one c.args.chosen.now c.args.edit c.requires.kinds c.requires.count
    claim)))
    c.perform_first.ensures.kept

pub returns-then-is_last-clause-kept : goal.returns-then-is_last-clause-kept
returns-then-is_last-clause-kept c =
    ok_so c.perform_last-performed.result
    (λ kept claim. kept claim
    ∙ ap (λ n. reserved c.perform_last-performed.new.self claim + n)
    (sym (claimed_of_one c.args.chosen.now c.args.edit c.requires.kinds c.requires.count
    claim)))
    c.perform_last-performed.ensures.kept
