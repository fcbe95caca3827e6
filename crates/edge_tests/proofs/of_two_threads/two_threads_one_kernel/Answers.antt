use denote.Exit.{no}
use denote.Param.Send.{arg_send, param_send}
use Rattle.kernel.proofs.Sent.{kernel_sent}
use Rattle.edge_tests.proofs.of_two_threads.two_threads_one_kernel.Goals as goal

pub all_told-requires-send-K : goal.all_told-requires-send-K
all_told-requires-send-K g c κs = param_send 0 _ (arg_send _ no _ kernel_sent)
