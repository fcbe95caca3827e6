use Rattle.std.proofs.Common.{arith, ap, refl, ◌∙◌}
use Rattle.nodes.specs.Tables.{is_current}
use Rattle.mount_requests.specs.Seen.{Seen, seen}
use Rattle.mount_requests.specs.Times.{of_setting, with_events_if}
use Rattle.mount_requests.proofs.Answering.{failed, refused, told, unplanned}
use Rattle.mount_requests.proofs.Knowing.{set_told}
use Rattle.mount_requests.proofs.Noting.{room_for}
use Rattle.mount_requests.proofs.tables.Tables.set_attr.Goals as goal

pub returns-in_err-setting-clause-answers : goal.returns-in_err-setting-clause-answers
returns-in_err-setting-clause-answers g c =
    let h = rw c.pid.ensures at c.in_err-setting.ensures in
    unplanned _ c.from_residual.ensures.1 h refl refl

pub returns-in_err-reserve_events-clause-answers : goal.returns-in_err-reserve_events-clause-answers
returns-in_err-reserve_events-clause-answers g c =
    refused _ c.from_residual-in_err-reserve_events.ensures.1 refl c.in_err-reserve_events.ensures.seen

pub returns-in_err-stat-clause-answers : goal.returns-in_err-stat-clause-answers
returns-in_err-stat-clause-answers g c =
    let h = rw c.pid.ensures at c.in_ok-setting.ensures in
    failed _ h c.from_residual-in_err-stat.ensures.1 c.in_err-stat.ensures.ran c.in_ok-reserve_events.ensures.seen

pub returns-clause-answers : goal.returns-clause-answers
returns-clause-answers g c =
    let h = rw c.pid.ensures at c.in_ok-setting.ensures in
    let known = c.note_set.ensures ∙ ap (λ (v : Seen). with_events_if (is_current v.nodes c.args.node) c.args.node (of_setting c.args.changes.now v.time c.in_ok-stat.stat.num) v) c.in_ok-reserve_events.ensures.seen in
    told h c.in_ok-stat.ensures.ran (set_told (seen c.args.self.now) (seen c.note_set.new.self) c.args.node c.args.changes.now _ _ known c.attr_at.ensures, known)

pub note_set-requires : goal.note_set-requires
note_set-requires g c =
    omega (arith, room_for (seen c.args.self.now) (seen c.reserve_events.new.self) c.reserve_events.new.self.times c.reserve_events.new.self.times c.args.node c.args.node c.in_ok-reserve_events.ensures.seen refl refl c.in_ok-reserve_events.ensures.events)
