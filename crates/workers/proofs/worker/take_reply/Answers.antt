use Rattle.std.proofs.Common.{rules, ◌≡◌, false}
use Rattle.workers.specs.Port.{is_refusal}
use Rattle.workers.proofs.Runs.{goes_on}
use Rattle.workers.proofs.worker.take_reply.Goals as goal

pub returns-in-None-clause-comes : goal.returns-in-None-clause-comes
returns-in-None-clause-comes g c = λ lines before operation stands next childless grew.
    let entry : is_refusal c.args.reply ≡ false = search rules in
    goes_on operation c.args.reply stands next entry c.after.ensures childless grew
