use Rattle.mount_requests.specs.Seen.{seen}
use Rattle.mount_requests.proofs.Answering.{opens_as}
use Rattle.mount_requests.proofs.tables.Tables.open_as.Goals as goal

pub returns-in-Again-clause-answers : goal.returns-in-Again-clause-answers
returns-in-Again-clause-answers g c = opens_as (seen c.args.self.now) (seen c.open_again.new.self) c.args.hand.now.pid c.args.node c.args.cut c.in-Again.is c.open_again.ensures.answers

pub returns-in-First-clause-answers : goal.returns-in-First-clause-answers
returns-in-First-clause-answers g c = opens_as (seen c.args.self.now) (seen c.open_first.new.self) c.args.hand.now.pid c.args.node c.args.cut c.in-First.is c.open_first.ensures.answers
