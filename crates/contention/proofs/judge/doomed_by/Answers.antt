use Rattle.std.proofs.Common.{◌≡◌, ◌∙◌, map}
use Rattle.std.proofs.lemmas.Result.{IfOk-weaker}
use Rattle.contention.specs.Losses.{told_below, told_of}
use Rattle.contention.proofs.Firsts.{told_from}
use Rattle.contention.proofs.judge.doomed_by.Goals as goal

pub returns : goal.returns
returns c = λ n below.
    IfOk-weaker c.told_all.result (λ doomed. doomed.items ≡ map (λ e. told_of c.args.caller e.0 e.1) c.in_ok-firsts.firsts.entries) (λ doomed. doomed.items ≡ told_below c.args.caller c.args.clashes.now n)
    (λ doomed e. e ∙ told_from c.args.caller n c.args.clashes.now c.in_ok-firsts.firsts c.len-count.ensures.ordered c.in_ok-firsts.ensures below) c.told_all.ensures
