use Rattle.std.proofs.Common.{ap, arith, refl, ◌∙◌}
use Rattle.nodes.specs.declared.directory_entry.DirectoryEntry.{DirectoryEntry}
use Rattle.mount_requests.specs.Seen.{seen}
use Rattle.mount_requests.proofs.Answering.{failed, refused, told, unplanned}
use Rattle.mount_requests.proofs.Knowing.{changed_places}
use Rattle.mount_requests.proofs.Noting.{room_for}
use Rattle.mount_requests.proofs.tables.Tables.exchange.Goals as goal

pub returns-in_err-first-clause-answers : goal.returns-in_err-first-clause-answers
returns-in_err-first-clause-answers g c =
    unplanned _ c.from_residual.ensures.1 c.in_err-first.ensures refl refl

pub returns-in_err-reserve_events-clause-answers : goal.returns-in_err-reserve_events-clause-answers
returns-in_err-reserve_events-clause-answers g c =
    refused _ c.from_residual-in_err-reserve_events.ensures.1 refl c.in_err-reserve_events.ensures.seen

pub returns-in_err-at_first-clause-answers : goal.returns-in_err-at_first-clause-answers
returns-in_err-at_first-clause-answers g c =
    refused _ c.from_residual-in_err-at_first.ensures.1 refl (c.in_err-at_first.ensures.seen ∙ c.in_ok-reserve_events.ensures.seen)

pub returns-in_err-at_second-clause-answers : goal.returns-in_err-at_second-clause-answers
returns-in_err-at_second-clause-answers g c =
    refused _ c.from_residual-in_err-at_second.ensures.1 refl (c.in_err-at_second.ensures.seen ∙ c.in_ok-at_first.ensures.seen ∙ c.in_ok-reserve_events.ensures.seen)

pub returns-in_err-exchange-clause-answers : goal.returns-in_err-exchange-clause-answers
returns-in_err-exchange-clause-answers g c =
    failed _ c.in_ok-first.ensures c.from_residual-in_err-exchange.ensures.1 c.in_err-exchange.ensures.ran (c.in_ok-at_second.ensures.seen ∙ c.in_ok-at_first.ensures.seen ∙ c.in_ok-reserve_events.ensures.seen)

pub returns-clause-answers : goal.returns-clause-answers
returns-clause-answers g c =
    told c.in_ok-first.ensures c.in_ok-exchange.ensures.ran
    (tt, changed_places (seen c.args.self.now) (seen c.spot_for-2.new.self) (seen c.note_exchanged.new.self) c.args.node c.args.name.now c.args.new_parent c.args.new_name.now _ _ (c.in_ok-at_second.ensures.seen ∙ c.in_ok-at_first.ensures.seen ∙ c.in_ok-reserve_events.ensures.seen) c.in_ok-at_first.ensures.entry c.in_ok-at_second.ensures.entry c.note_exchanged.ensures)

pub note_exchanged-requires-clause-events : goal.note_exchanged-requires-clause-events
note_exchanged-requires-clause-events g c =
    omega (arith, room_for (seen c.args.self.now) (seen c.spot_for-2.new.self) c.reserve_events.new.self.times c.spot_for-2.new.self.times c.args.node _ (c.in_ok-at_second.ensures.seen ∙ c.in_ok-at_first.ensures.seen ∙ c.in_ok-reserve_events.ensures.seen) (c.in_ok-at_second.ensures.times ∙ c.in_ok-at_first.ensures.times) (ap (λ (p : DirectoryEntry). p.parent) c.in_ok-at_first.ensures.entry) c.in_ok-reserve_events.ensures.events)
