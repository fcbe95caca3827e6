use Rattle.store_form.specs.ReadingSetups.{setup_of}
use Rattle.recovery.proofs.Going.{goes_begun}
use Rattle.recovery.proofs.starting.start.Goals as goal

pub kernel_of-requires-clause-is : goal.kernel_of-requires-clause-is
kernel_of-requires-clause-is g c = c.in_ok-setup.ensures.begins.is_setup

pub returns-clause-goes : goal.returns-clause-goes
returns-clause-goes g c clean payloads is_at =
    goes_begun g.D.Disk c.setup_in.new.reader (g.M.Machine.shown c.in_ok-machine.machine).log (setup_of c.in_ok-setup.setup) payloads c.in_ok-setup.ensures.begins.is_setup (c.in_ok-setup.ensures.begins.begins clean payloads is_at) c.in_ok-machine.ensures.comes
