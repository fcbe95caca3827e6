use denote.Exit.{no}
use denote.Param.Send.{arg_send, param_send}
use Rattle.kernel.proofs.Sent.{kernel_sent}
use Rattle.txsh.proofs.run_file.Goals as goal

pub run_job-requires-send-K : goal.run_job-requires-send-K
run_job-requires-send-K g c κs within = param_send 0 _ (arg_send _ no _ kernel_sent)
