use Rattle.turnstile.proofs.Sent.{closure_sent}
use Rattle.bench.proofs.lock.look_by_two.Goals as goal

pub join-first-requires-send-F : goal.join-first-requires-send-F
join-first-requires-send-F g c κs outlives = closure_sent _ _ _ _ g.K.Machine _ _ _ _ _ _ c.type_bounds.sync-R c.type_bounds.send-K
