use Rattle.words.specs.Txsh.{texts}
use Rattle.words.proofs.Same.{fault_in, task_in}
use Rattle.words.proofs.read_words.Goals as goal

pub returns-clause-ok : goal.returns-clause-ok
returns-clause-ok c = task_in (texts c.args.words.now) _ _ c.task_of.result c.in_ok-matches.ensures.values c.in_ok-matches.ensures.numbers c.task_of.ensures.ok

pub returns-clause-fault : goal.returns-clause-fault
returns-clause-fault c = fault_in (texts c.args.words.now) _ _ c.task_of.result c.in_ok-matches.ensures.values c.in_ok-matches.ensures.numbers c.in_ok-matches.ensures.fits c.task_of.ensures.err
