use Rattle.mount_requests.proofs.Apart.{answered_apart}
use Rattle.mount_requests.proofs.laws.requests_keep_times_apart.Goals as goal

pub returns : goal.returns
returns c = record { apart = answered_apart }
