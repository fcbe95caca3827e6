use Rattle.std.proofs.Common.{arith, ap, sym, ◌∙◌, ℕ, Option}
use Rattle.view_times.specs.declared.event.Event.TheVariants.{StatusChanged}
use Rattle.mount_requests.specs.Seen.{seen}
use Rattle.mount_requests.specs.Times.{noted_in, of_both, of_names}
use Rattle.mount_requests.proofs.Noting.{noted_then}
use Rattle.mount_requests.proofs.tables.Tables.note_both.Goals as goal

pub note-requires : goal.note-requires
note-requires c = omega (arith, c.requires)

pub note_name-requires : goal.note_name-requires
note_name-requires c = omega (arith, c.requires, c.note.ensures.events)

pub note_name-requires-in-None : goal.note_name-requires-in-None
note_name-requires-in-None c = omega (arith, c.requires)

pub returns-in-Some-clause-seen : goal.returns-in-Some-clause-seen
returns-in-Some-clause-seen c =
    noted_then (seen c.args.self.now) (seen c.note.new.self) (seen c.note_name.new.self) c.args.view c.in-Some.first StatusChanged (of_names c.args.other) c.note.ensures.seen c.note_name.ensures.seen
    ∙ ap (λ (o : Option ℕ). noted_in c.args.view (of_both o c.args.other) (seen c.args.self.now)) (sym c.in-Some.is)

pub returns-in-None-clause-seen : goal.returns-in-None-clause-seen
returns-in-None-clause-seen c =
    c.note_name-in-None.ensures.seen
    ∙ ap (λ (o : Option ℕ). noted_in c.args.view (of_both o c.args.other) (seen c.args.self.now)) (sym c.in-None.is)
