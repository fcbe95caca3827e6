use Rattle.std.proofs.Common.{arith, ap, refl, ◌∙◌}
use Rattle.mount_requests.specs.Found.{inode_of}
use Rattle.mount_requests.specs.Seen.{Seen, seen}
use Rattle.mount_requests.specs.Times.{of_linking, with_events}
use Rattle.mount_requests.proofs.Answering.{failed, refused, told, unplanned}
use Rattle.mount_requests.proofs.Knowing.{linked}
use Rattle.mount_requests.proofs.Noting.{room_for}
use Rattle.mount_requests.proofs.tables.Tables.link.Goals as goal

pub returns-in_err-from-clause-answers : goal.returns-in_err-from-clause-answers
returns-in_err-from-clause-answers g c =
    unplanned _ c.from_residual.ensures.1 c.in_err-from.ensures.plan refl refl

pub returns-in_err-reserve_events-clause-answers : goal.returns-in_err-reserve_events-clause-answers
returns-in_err-reserve_events-clause-answers g c =
    refused _ c.from_residual-in_err-reserve_events.ensures.1 refl c.in_err-reserve_events.ensures.seen

pub returns-in_err-spot-clause-answers : goal.returns-in_err-spot-clause-answers
returns-in_err-spot-clause-answers g c =
    refused _ c.from_residual-in_err-spot.ensures.1 refl (c.in_err-spot.ensures.seen ∙ c.in_ok-reserve_events.ensures.seen)

pub returns-in_err-stat-clause-answers : goal.returns-in_err-stat-clause-answers
returns-in_err-stat-clause-answers g c =
    failed _ c.in_ok-from.ensures.plan c.from_residual-in_err-stat.ensures.1 c.in_err-stat.ensures.ran (c.in_ok-spot.ensures.seen ∙ c.in_ok-reserve_events.ensures.seen)

pub returns-clause-answers : goal.returns-clause-answers
returns-clause-answers g c =
    let noted = c.note_linked.ensures.seen ∙ ap (λ (v : Seen). with_events c.args.parent (of_linking c.in_ok-from.field-0.inode (inode_of v c.args.parent)) v) (c.in_ok-spot.ensures.seen ∙ c.in_ok-reserve_events.ensures.seen) in
    told c.in_ok-from.ensures.plan c.in_ok-stat.ensures.ran
    (linked (seen c.args.self.now) (seen c.note_linked.new.self) (seen c.entry-entry.new.self) c.args.parent c.args.name.now _ _ _ _ noted c.in_ok-spot.ensures.entry c.entry-entry.ensures.entry c.entry-entry.ensures.seen)

pub note_linked-requires : goal.note_linked-requires
note_linked-requires g c =
    omega (arith, room_for (seen c.args.self.now) (seen c.spot_for.new.self) c.reserve_events.new.self.times c.spot_for.new.self.times c.args.parent c.args.parent (c.in_ok-spot.ensures.seen ∙ c.in_ok-reserve_events.ensures.seen) c.in_ok-spot.ensures.times refl c.in_ok-reserve_events.ensures.events)
