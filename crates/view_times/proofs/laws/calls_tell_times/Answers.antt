use Rattle.view_times.proofs.Calls.{calls_tell_times}
use Rattle.view_times.proofs.laws.calls_tell_times.Goals as goal

pub returns : goal.returns
returns c = calls_tell_times
