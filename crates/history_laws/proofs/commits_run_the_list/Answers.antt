use Rattle.history_laws.proofs.Laws.{commits_run_the_list}
use Rattle.history_laws.proofs.commits_run_the_list.Goals as goal

pub returns : goal.returns
returns c = commits_run_the_list
