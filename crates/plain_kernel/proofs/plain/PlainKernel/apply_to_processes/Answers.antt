use Rattle.plain_kernel.proofs.Edited.{clears, edited, ends, forks, shares}
use Rattle.plain_kernel.proofs.Setting.{if_ok}
use Rattle.plain_kernel.proofs.plain.PlainKernel.apply_to_processes.Goals as goal

pub returns-in-ShareSlot : goal.returns-in-ShareSlot
returns-in-ShareSlot c = if_ok c.set_slot.result c.set_slot.ensures (λ h. edited _ _ _ _ _ c.in-ShareSlot.is (shares _ _ _ _ _ _ _ h))

pub returns-in-ClearSlot : goal.returns-in-ClearSlot
returns-in-ClearSlot c = if_ok c.clear_slot.result c.clear_slot.ensures (λ h. edited _ _ _ _ _ c.in-ClearSlot.is (clears _ _ _ _ _ _ h))

pub returns-in-NewProcess : goal.returns-in-NewProcess
returns-in-NewProcess c = if_ok c.new_process.result c.new_process.ensures (λ h. edited _ _ _ _ _ c.in-NewProcess.is (forks _ _ _ _ _ _ h))

pub returns-in-EndProcess : goal.returns-in-EndProcess
returns-in-EndProcess c = edited _ _ _ _ _ c.in-EndProcess.is (ends _ _ _ _ _ c.end_process.ensures)
