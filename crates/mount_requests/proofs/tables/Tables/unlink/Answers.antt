use Rattle.std.proofs.Common.{ap, arith, refl}
use Rattle.nodes.specs.declared.directory_entry.DirectoryEntry.{DirectoryEntry}
use Rattle.mount_requests.specs.Seen.{seen}
use Rattle.mount_requests.proofs.Answering.{failed, refused, told, unplanned}
use Rattle.mount_requests.proofs.Knowing.{taken_away}
use Rattle.mount_requests.proofs.Noting.{room_for}
use Rattle.mount_requests.proofs.tables.Tables.unlink.Goals as goal

pub returns-in_err-path-clause-answers : goal.returns-in_err-path-clause-answers
returns-in_err-path-clause-answers g c =
    unplanned _ c.from_residual.ensures.1 c.in_err-path.ensures refl refl

pub returns-in_err-removed-clause-answers : goal.returns-in_err-removed-clause-answers
returns-in_err-removed-clause-answers g c =
    refused _ c.from_residual-in_err-removed.ensures.1 refl refl

pub returns-in_err-reserve_events-clause-answers : goal.returns-in_err-reserve_events-clause-answers
returns-in_err-reserve_events-clause-answers g c =
    refused _ c.from_residual-in_err-reserve_events.ensures.1 refl c.in_err-reserve_events.ensures.seen

pub returns-in_err-unlink-clause-answers : goal.returns-in_err-unlink-clause-answers
returns-in_err-unlink-clause-answers g c =
    failed _ c.in_ok-path.ensures c.from_residual-in_err-unlink.ensures.1 c.in_err-unlink.ensures.ran c.in_ok-reserve_events.ensures.seen

pub returns-clause-answers : goal.returns-clause-answers
returns-clause-answers g c =
    told c.in_ok-path.ensures c.in_ok-unlink.ensures.ran
    (tt, taken_away (seen c.args.self.now) (seen c.reserve_events.new.self) (seen c.note_removed.new.self) c.args.node c.args.name.now _ c.in_ok-reserve_events.ensures.seen c.in_ok-removed.ensures c.note_removed.ensures)

pub note_removed-requires : goal.note_removed-requires
note_removed-requires g c =
    omega (arith, room_for (seen c.args.self.now) (seen c.reserve_events.new.self) c.reserve_events.new.self.times c.reserve_events.new.self.times c.args.node _ c.in_ok-reserve_events.ensures.seen refl (ap (λ (p : DirectoryEntry). p.parent) c.in_ok-removed.ensures) c.in_ok-reserve_events.ensures.events)
