use Rattle.std.proofs.Common.{◌∙◌}
use Rattle.notes.specs.Patches.{kept_at}
use Rattle.notes.proofs.SlotLemmas.{given_slots}
use Rattle.notes.proofs.slots.Slots.given.Goals as goal

pub returns-in-Some : goal.returns-in-Some
returns-in-Some c = λ o of.
    c.or_before.ensures
    ∙ given_slots (kept_at c.args.self.now c.args.pid) c.in-Some.patch.now c.args.fd c.get-in-Some.result c.args.stored c.in-Some.ensures c.get-in-Some.ensures o of
