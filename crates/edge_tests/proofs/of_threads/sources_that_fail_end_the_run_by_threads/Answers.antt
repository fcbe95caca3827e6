use denote.Exit.{no}
use denote.Param.Send.{arg_send, param_send}
use Rattle.kernel.proofs.Sent.{kernel_sent}
use Rattle.edge_tests.proofs.of_threads.sources_that_fail_end_the_run_by_threads.Goals as goal

pub is_faulted-requires-send-K : goal.is_faulted-requires-send-K
is_faulted-requires-send-K g c κs = param_send 0 _ (arg_send _ no _ kernel_sent)

pub is_faulted-requires-2-send-K : goal.is_faulted-requires-2-send-K
is_faulted-requires-2-send-K g c κs = param_send 0 _ (arg_send _ no _ kernel_sent)
