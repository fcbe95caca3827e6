use Rattle.std.proofs.Common.{arith, ap, refl, ◌∙◌}
use Rattle.mount_requests.specs.Seen.{Seen, seen}
use Rattle.mount_requests.specs.Times.{of_writing, with_events}
use Rattle.mount_requests.proofs.Answering.{failed, refused, told, unplanned}
use Rattle.mount_requests.proofs.Noting.{room_for}
use Rattle.mount_requests.proofs.tables.Tables.write.Goals as goal

pub returns-in_err-writing-clause-answers : goal.returns-in_err-writing-clause-answers
returns-in_err-writing-clause-answers g c =
    let h = rw c.pid.ensures at c.in_err-writing.ensures in
    unplanned _ c.from_residual.ensures.1 h refl refl

pub returns-in_err-reserve_events-clause-answers : goal.returns-in_err-reserve_events-clause-answers
returns-in_err-reserve_events-clause-answers g c =
    refused _ c.from_residual-in_err-reserve_events.ensures.1 refl c.in_err-reserve_events.ensures.seen

pub returns-in_err-size-clause-answers : goal.returns-in_err-size-clause-answers
returns-in_err-size-clause-answers g c =
    let h = rw c.pid.ensures at c.in_ok-writing.ensures in
    let k = rw c.drops.ensures at c.in_err-size.ensures.ran in
    failed _ h c.from_residual-in_err-size.ensures.1 k c.in_ok-reserve_events.ensures.seen

pub returns-clause-answers : goal.returns-clause-answers
returns-clause-answers g c =
    let h = rw c.pid.ensures at c.in_ok-writing.ensures in
    let k = rw c.drops.ensures at c.in_ok-size.ensures.ran in
    told h k (refl, c.note_written.ensures.seen ∙ ap (λ (v : Seen). with_events c.args.node (of_writing c.in_ok-writing.writing.inode) v) c.in_ok-reserve_events.ensures.seen)

pub note_written-requires : goal.note_written-requires
note_written-requires g c =
    omega (arith, room_for (seen c.args.self.now) (seen c.reserve_events.new.self) c.reserve_events.new.self.times c.reserve_events.new.self.times c.args.node c.args.node c.in_ok-reserve_events.ensures.seen refl refl c.in_ok-reserve_events.ensures.events)
