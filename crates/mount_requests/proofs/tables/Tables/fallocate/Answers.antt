use Rattle.std.proofs.Common.{arith, ap, refl, ◌∙◌, rules, FitsSigned, w64}
use Rattle.std.proofs.lemmas.Int.{to_z-of_z}
use Rattle.mount_requests.specs.Seen.{Seen, seen}
use Rattle.mount_requests.specs.Times.{of_writing, with_events}
use Rattle.mount_requests.proofs.Answering.{failed, refused, told, unplanned}
use Rattle.mount_requests.proofs.Noting.{room_for}
use Rattle.mount_requests.proofs.tables.Tables.fallocate.Goals as goal

pub returns-in_err-range-clause-answers : goal.returns-in_err-range-clause-answers
returns-in_err-range-clause-answers g c =
    let h = rw c.pid.ensures at c.in_err-range.ensures in
    unplanned _ c.from_residual.ensures.1 h refl refl

pub returns-in_err-reserve_events-clause-answers : goal.returns-in_err-reserve_events-clause-answers
returns-in_err-reserve_events-clause-answers g c =
    refused _ c.from_residual-in_err-reserve_events.ensures.1 refl c.in_err-reserve_events.ensures.seen

pub returns-in_err-allocate-clause-answers : goal.returns-in_err-allocate-clause-answers
returns-in_err-allocate-clause-answers g c =
    let fits : FitsSigned w64 c.in_ok-range.range.offset = search rules in
    let also : FitsSigned w64 c.in_ok-range.range.length = search rules in
    let h = rw c.pid.ensures at c.in_ok-range.ensures in
    let k = rw (to_z-of_z _ _ fits, to_z-of_z _ _ also) at c.in_err-allocate.ensures.ran in
    failed _ h c.from_residual-in_err-allocate.ensures.1 k c.in_ok-reserve_events.ensures.seen

pub returns-clause-answers : goal.returns-clause-answers
returns-clause-answers g c =
    let fits : FitsSigned w64 c.in_ok-range.range.offset = search rules in
    let also : FitsSigned w64 c.in_ok-range.range.length = search rules in
    let h = rw c.pid.ensures at c.in_ok-range.ensures in
    let k = rw (to_z-of_z _ _ fits, to_z-of_z _ _ also) at c.in_ok-allocate.ensures.ran in
    told h k (tt, c.note_written.ensures.seen ∙ ap (λ (v : Seen). with_events c.args.node (of_writing c.in_ok-range.range.inode) v) c.in_ok-reserve_events.ensures.seen)

pub note_written-requires : goal.note_written-requires
note_written-requires g c =
    omega (arith, room_for (seen c.args.self.now) (seen c.reserve_events.new.self) c.reserve_events.new.self.times c.reserve_events.new.self.times c.args.node c.args.node c.in_ok-reserve_events.ensures.seen refl refl c.in_ok-reserve_events.ensures.events)
