use denote.Exit.{no}
use denote.Param.Send.{arg_send, param_send}
use Rattle.kernel.proofs.Sent.{kernel_sent}
use Rattle.edge_tests.proofs.jobs.is_as_expected.Goals as goal

pub run_job-status-requires-send-K : goal.run_job-status-requires-send-K
run_job-status-requires-send-K g c κs within = param_send 0 _ (arg_send _ no _ kernel_sent)
