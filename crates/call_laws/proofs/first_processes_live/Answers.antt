use Rattle.call_laws.proofs.FirstProcesses.{first_processes_live}
use Rattle.call_laws.proofs.first_processes_live.Goals as goal

pub returns : goal.returns
returns c = first_processes_live
