use denote.Exit.{no}
use denote.Param.Send.{arg_send, param_send}
use Rattle.kernel.proofs.Sent.{kernel_sent}
use Rattle.bench.proofs.main.Goals as goal

-- a kernel may go to another thread
pub run-requires-send-K : goal.run-requires-send-K
run-requires-send-K g c κs = param_send 1 _ (arg_send _ no _ kernel_sent)
