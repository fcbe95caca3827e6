use denote.Exit.{no}
use denote.Param.Send.{arg_send, param_send}
use Rattle.turnstile.proofs.Sent.{closure_sent, pass_sent}
use Rattle.edge_tests.proofs.of_two_threads.both_transacted.Goals as goal

pub join-requires-send-F : goal.join-requires-send-F
join-requires-send-F g c κs outlives = closure_sent _ _ _ _ g.K.Machine _ _ _ _ _ _ c.type_bounds.sync-R c.type_bounds.send-K

pub join-requires-send-A : goal.join-requires-send-A
join-requires-send-A g c κs outlives = param_send 3 _ (arg_send _ no _ (pass_sent _ g.K.Machine c.type_bounds.send-K))
