use Rattle.std.proofs.Common.{ap, arith, refl, ◌∙◌}
use Rattle.nodes.specs.declared.directory_entry.DirectoryEntry.{DirectoryEntry}
use Rattle.mount_requests.specs.Seen.{seen}
use Rattle.mount_requests.proofs.Answering.{failed, refused, told, unplanned}
use Rattle.mount_requests.proofs.Knowing.{born}
use Rattle.mount_requests.proofs.Noting.{room_for}
use Rattle.mount_requests.proofs.tables.Tables.make_node.Goals as goal

pub returns-in_err-at-clause-answers : goal.returns-in_err-at-clause-answers
returns-in_err-at-clause-answers g c =
    unplanned _ c.from_residual.ensures.1 c.in_err-at.ensures refl refl

pub returns-in_err-reserve_events-clause-answers : goal.returns-in_err-reserve_events-clause-answers
returns-in_err-reserve_events-clause-answers g c =
    refused _ c.from_residual-in_err-reserve_events.ensures.1 refl c.in_err-reserve_events.ensures.seen

pub returns-in_err-spot-clause-answers : goal.returns-in_err-spot-clause-answers
returns-in_err-spot-clause-answers g c =
    refused _ c.from_residual-in_err-spot.ensures.1 refl (c.in_err-spot.ensures.seen ∙ c.in_ok-reserve_events.ensures.seen)

pub returns-in_err-stat-clause-answers : goal.returns-in_err-stat-clause-answers
returns-in_err-stat-clause-answers g c =
    let h = rw c.given-rights.ensures at c.in_err-stat.ensures.ran in
    failed _ c.in_ok-at.ensures c.from_residual-in_err-stat.ensures.1 h (c.in_ok-spot.ensures.seen ∙ c.in_ok-reserve_events.ensures.seen)

pub returns-clause-answers : goal.returns-clause-answers
returns-clause-answers g c =
    let h = rw c.given-rights.ensures at c.in_ok-stat.ensures.ran in
    told c.in_ok-at.ensures h
    (born (seen c.args.self.now) (seen c.spot_for.new.self) (seen c.entry_made-entry.new.self) c.args.caller.node c.args.name.now _ _ _ (c.in_ok-spot.ensures.seen ∙ c.in_ok-reserve_events.ensures.seen) c.in_ok-spot.ensures.entry c.entry_made-entry.ensures.entry c.entry_made-entry.ensures.seen)

pub entry_made-entry-requires-clause-events : goal.entry_made-entry-requires-clause-events
entry_made-entry-requires-clause-events g c =
    omega (arith, room_for (seen c.args.self.now) (seen c.spot_for.new.self) c.reserve_events.new.self.times c.spot_for.new.self.times c.args.caller.node _ (c.in_ok-spot.ensures.seen ∙ c.in_ok-reserve_events.ensures.seen) c.in_ok-spot.ensures.times (ap (λ (p : DirectoryEntry). p.parent) c.in_ok-spot.ensures.entry) c.in_ok-reserve_events.ensures.events)
