use Rattle.std.proofs.Common.{arith, refl, ap, ◌∙◌, ℕ}
use Rattle.machine.specs.Shown.{Shown}
use Rattle.mount_requests.specs.Seen.{seen}
use Rattle.mount_requests.proofs.Answering.{failed, making_as, refused, told, unplanned}
use Rattle.mount_requests.proofs.Knowing.{created}
use Rattle.mount_requests.proofs.Noting.{room_for}
use Rattle.mount_requests.proofs.tables.Tables.create.Goals as goal

pub returns-in_err-wanted-clause-answers : goal.returns-in_err-wanted-clause-answers
returns-in_err-wanted-clause-answers g c =
    unplanned _ c.from_residual.ensures.1 c.in_err-wanted.ensures refl refl

pub returns-in_err-reserve_file-clause-answers : goal.returns-in_err-reserve_file-clause-answers
returns-in_err-reserve_file-clause-answers g c =
    refused _ c.from_residual-in_err-reserve_file.ensures.1 refl c.in_err-reserve_file.ensures.seen

pub returns-in_err-reserve_events-clause-answers : goal.returns-in_err-reserve_events-clause-answers
returns-in_err-reserve_events-clause-answers g c =
    refused _ c.from_residual-in_err-reserve_events.ensures.1 refl (c.in_err-reserve_events.ensures.seen ∙ c.in_ok-reserve_file.ensures.seen)

pub returns-in_err-spot-clause-answers : goal.returns-in_err-spot-clause-answers
returns-in_err-spot-clause-answers g c =
    refused _ c.from_residual-in_err-spot.ensures.1 refl (c.in_err-spot.ensures.seen ∙ (c.in_ok-reserve_events.ensures.seen ∙ c.in_ok-reserve_file.ensures.seen))

pub returns-in_err-made-clause-answers : goal.returns-in_err-made-clause-answers
returns-in_err-made-clause-answers g c =
    let same = c.in_ok-spot.ensures.seen ∙ (c.in_ok-reserve_events.ensures.seen ∙ c.in_ok-reserve_file.ensures.seen) in
    failed _ c.in_ok-wanted.ensures c.from_residual-in_err-made.ensures.1
    (making_as (seen c.args.self.now) (seen c.spot_for.new.self) c.args.hand.now.pid c.args.creation c.in_ok-wanted.wanted same c.in_err-made.ensures.ran) same

pub returns-clause-answers : goal.returns-clause-answers
returns-clause-answers g c =
    let same = c.in_ok-spot.ensures.seen ∙ (c.in_ok-reserve_events.ensures.seen ∙ c.in_ok-reserve_file.ensures.seen) in
    let pid = c.pid.ensures ∙ ap (λ (b : ℕ × Shown). b.0) c.in_ok-made.ensures.bound in
    told c.in_ok-wanted.ensures
    (making_as (seen c.args.self.now) (seen c.spot_for.new.self) c.args.hand.now.pid c.args.creation c.in_ok-wanted.wanted same c.in_ok-made.ensures.ran)
    (created (seen c.args.self.now) (seen c.spot_for.new.self) (seen c.note_opened.new.self) (seen c.keep_made-handle.new.self) (seen c.entry-entry.new.self) _ _ _ c.args.caller.node c.args.name.now c.args.creation.cut _ c.in_ok-made.made _ c.opened.result _ same c.in_ok-spot.ensures.entry pid c.note_opened.ensures.seen c.keep_made-handle.ensures.seen c.entry-entry.ensures.entry c.entry-entry.ensures.seen c.keep_made-handle.ensures.handle c.opened.ensures)

pub note_opened-requires-clause-events : goal.note_opened-requires-clause-events
note_opened-requires-clause-events g c =
    omega (arith, room_for (seen c.reserve_file.new.self) (seen c.spot_for.new.self) c.reserve_events.new.self.times c.spot_for.new.self.times c.args.caller.node c.args.caller.node (c.in_ok-spot.ensures.seen ∙ c.in_ok-reserve_events.ensures.seen) c.in_ok-spot.ensures.times refl c.in_ok-reserve_events.ensures.events)
