use Rattle.mount_requests.proofs.Reaching.{ends, told, whole}
use Rattle.mount_requests.proofs.laws.lists_are_whole.Goals as goal

pub returns : goal.returns
returns c = record { told = told; whole = whole; ends = ends }
