use Rattle.plain_kernel.proofs.Setting.{if_ok, rights_set}
use Rattle.plain_kernel.proofs.plain.PlainKernel.set_rights.Goals as goal

pub returns : goal.returns
returns c = if_ok c.set.result c.set.ensures.changed (λ h. rights_set _ _ _ _ _ c.self.view_is h)
