use Rattle.std.proofs.Common.{arith, ap, refl, ◌∙◌, ℕ}
use Rattle.machine.specs.Shown.{Shown}
use Rattle.mount_requests.specs.Seen.{Seen, seen}
use Rattle.mount_requests.specs.Times.{of_cutting, with_events}
use Rattle.mount_requests.proofs.Answering.{failed, refused, told}
use Rattle.mount_requests.proofs.Knowing.{opened_as}
use Rattle.mount_requests.proofs.Noting.{room_for}
use Rattle.mount_requests.proofs.tables.Tables.open_first.Goals as goal

pub returns-in_err-reserve_file-clause-answers : goal.returns-in_err-reserve_file-clause-answers
returns-in_err-reserve_file-clause-answers g c =
    refused _ c.from_residual.ensures.1 refl c.in_err-reserve_file.ensures.seen

pub returns-in_err-reserve_events-clause-answers : goal.returns-in_err-reserve_events-clause-answers
returns-in_err-reserve_events-clause-answers g c =
    refused _ c.from_residual-in_err-reserve_events.ensures.1 refl (c.in_err-reserve_events.ensures.seen ∙ c.in_ok-reserve_file.ensures.seen)

pub returns-in_err-fd-clause-answers : goal.returns-in_err-fd-clause-answers
returns-in_err-fd-clause-answers g c =
    failed _ refl c.from_residual-in_err-fd.ensures.1 c.in_err-fd.ensures.ran (c.in_ok-reserve_events.ensures.seen ∙ c.in_ok-reserve_file.ensures.seen)

pub returns-clause-answers : goal.returns-clause-answers
returns-clause-answers g c =
    let same = c.in_ok-reserve_events.ensures.seen ∙ c.in_ok-reserve_file.ensures.seen in
    let cut = c.note_cut.ensures.seen ∙ ap (λ (s : Seen). with_events c.args.node (of_cutting c.args.cut c.args.inode) s) same in
    let pid = c.pid.ensures ∙ ap (λ (b : ℕ × Shown). b.0) c.in_ok-fd.ensures.bound in
    told refl c.in_ok-fd.ensures.ran (
      c.opened.ensures ∙ c.keep_open-handle.ensures.handle ∙ ap (λ (s : Seen). s.next_file) cut,
      opened_as (with_events c.args.node (of_cutting c.args.cut c.args.inode) (seen c.args.self.now)) (seen c.note_cut.new.self) (seen c.keep_open-handle.new.self) _ _ _ _ _ cut pid c.keep_open-handle.ensures.seen,
    )

pub note_cut-requires : goal.note_cut-requires
note_cut-requires g c =
    omega (arith, room_for (seen c.reserve_file.new.self) (seen c.reserve_events.new.self) c.reserve_events.new.self.times c.reserve_events.new.self.times c.args.node c.args.node c.in_ok-reserve_events.ensures.seen refl refl c.in_ok-reserve_events.ensures.events)
