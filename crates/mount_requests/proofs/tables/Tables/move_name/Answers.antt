use Rattle.std.proofs.Common.{ap, arith, refl, ◌∙◌}
use Rattle.nodes.specs.declared.directory_entry.DirectoryEntry.{DirectoryEntry}
use Rattle.mount_requests.specs.Seen.{seen}
use Rattle.mount_requests.proofs.Answering.{failed, refused, told, unplanned}
use Rattle.mount_requests.proofs.Knowing.{moved_away}
use Rattle.mount_requests.proofs.Noting.{room_for}
use Rattle.mount_requests.proofs.tables.Tables.move_name.Goals as goal

pub returns-in_err-from-clause-answers : goal.returns-in_err-from-clause-answers
returns-in_err-from-clause-answers g c =
    unplanned _ c.from_residual.ensures.1 c.in_err-from.ensures refl refl

pub returns-in_err-again-clause-answers : goal.returns-in_err-again-clause-answers
returns-in_err-again-clause-answers g c =
    refused _ c.from_residual-in_err-again.ensures.1 refl refl

pub returns-in_err-former-clause-answers : goal.returns-in_err-former-clause-answers
returns-in_err-former-clause-answers g c =
    refused _ c.from_residual-in_err-former.ensures.1 refl refl

pub returns-in_err-reserve_events-clause-answers : goal.returns-in_err-reserve_events-clause-answers
returns-in_err-reserve_events-clause-answers g c =
    refused _ c.from_residual-in_err-reserve_events.ensures.1 refl c.in_err-reserve_events.ensures.seen

pub returns-in_err-spot-clause-answers : goal.returns-in_err-spot-clause-answers
returns-in_err-spot-clause-answers g c =
    refused _ c.from_residual-in_err-spot.ensures.1 refl (c.in_err-spot.ensures.seen ∙ c.in_ok-reserve_events.ensures.seen)

pub returns-in_err-move_name-clause-answers : goal.returns-in_err-move_name-clause-answers
returns-in_err-move_name-clause-answers g c =
    let h = rw c.in_ok-again.ensures.wanted at c.in_err-move_name.ensures.ran in
    failed _ c.in_ok-from.ensures c.from_residual-in_err-move_name.ensures.1 h (c.in_ok-spot.ensures.seen ∙ c.in_ok-reserve_events.ensures.seen)

pub returns-clause-answers : goal.returns-clause-answers
returns-clause-answers g c =
    let h = rw c.in_ok-again.ensures.wanted at c.in_ok-move_name.ensures.ran in
    told c.in_ok-from.ensures h
    (tt, moved_away (seen c.args.self.now) (seen c.spot_for.new.self) (seen c.note_moved.new.self) c.args.node c.args.name.now c.args.new_parent c.args.new_name.now _ _ (c.in_ok-spot.ensures.seen ∙ c.in_ok-reserve_events.ensures.seen) c.in_ok-former.ensures c.in_ok-spot.ensures.entry c.note_moved.ensures)

pub note_moved-requires-clause-events : goal.note_moved-requires-clause-events
note_moved-requires-clause-events g c =
    omega (arith, room_for (seen c.args.self.now) (seen c.spot_for.new.self) c.reserve_events.new.self.times c.spot_for.new.self.times c.args.node _ (c.in_ok-spot.ensures.seen ∙ c.in_ok-reserve_events.ensures.seen) c.in_ok-spot.ensures.times (ap (λ (p : DirectoryEntry). p.parent) c.in_ok-former.ensures) c.in_ok-reserve_events.ensures.events)
