use Rattle.look.proofs.Laws.{no_slot, slot_told}
use Rattle.plain_kernel.proofs.plain.PlainKernelLook.slot.Goals as goal

pub returns-in-Some : goal.returns-in-Some
returns-in-Some c = slot_told c.args.self.now c.args.pid c.args.fd c.in-Some.description c.described.result c.in-Some.ensures c.described.ensures

pub returns-in-None : goal.returns-in-None
returns-in-None c = no_slot c.args.self.now c.args.pid c.args.fd c.in-None.ensures
