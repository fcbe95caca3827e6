use denote.Exit.{no}
use denote.Param.Send.{arg_send, param_send}
use Rattle.kernel.proofs.Sent.{kernel_sent}
use Rattle.edge_tests.proofs.of_turnstile.one_thread_and_two.Goals as goal

pub all_counts-requires-send-K : goal.all_counts-requires-send-K
all_counts-requires-send-K g c κs = param_send 0 _ (arg_send _ no _ kernel_sent)
