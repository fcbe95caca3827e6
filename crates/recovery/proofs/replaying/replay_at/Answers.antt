use Rattle.store_form.specs.Stores.{told_of}
use Rattle.recovery.proofs.Coming.{tells_stays}
use Rattle.recovery.proofs.replaying.replay_at.Goals as goal

pub returns-in-Ok-clause-again : goal.returns-in-Ok-clause-again
returns-in-Ok-clause-again g c = (
  c.in-Ok.entries.items,
  c.in-Ok.ensures.is.0,
  c.in-Ok.ensures.is.1,
  tells_stays (g.M.Machine.shown c.args.machine.now).log (g.M.Machine.shown c.record_again.new.machine).log (g.M.Machine.shown c.make_place.new.machine).log (told_of c.in-Ok.entries.items)
      c.in-Ok.ensures.tells c.make_place.ensures.stays,
)
