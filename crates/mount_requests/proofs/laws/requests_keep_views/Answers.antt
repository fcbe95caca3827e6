use Rattle.mount_requests.proofs.Keeping.{answered_keeps}
use Rattle.mount_requests.proofs.laws.requests_keep_views.Goals as goal

pub returns : goal.returns
returns c = record { keeps = answered_keeps }
