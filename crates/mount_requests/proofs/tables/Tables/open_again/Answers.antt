use Rattle.std.proofs.Common.{arith, ap, refl, ◌∙◌}
use Rattle.course.specs.Courses.{cutting}
use Rattle.course.proofs.Runs.{done, goes_on, stops}
use Rattle.mount_requests.specs.Later.{opened_again}
use Rattle.mount_requests.specs.Seen.{Seen, seen}
use Rattle.mount_requests.specs.Times.{of_cutting, with_events}
use Rattle.mount_requests.proofs.Answering.{failed, refused, told}
use Rattle.mount_requests.proofs.Noting.{room_for}
use Rattle.mount_requests.proofs.tables.Tables.open_again.Goals as goal

pub returns-in_err-reserve_events-clause-answers : goal.returns-in_err-reserve_events-clause-answers
returns-in_err-reserve_events-clause-answers g c =
    refused _ c.from_residual.ensures.1 refl c.in_err-reserve_events.ensures.seen

pub returns-in_err-cut_if-clause-answers : goal.returns-in_err-cut_if-clause-answers
returns-in_err-cut_if-clause-answers g c =
    failed _ refl c.from_residual-in_err-cut_if.ensures.1 (stops (cutting c.args.hand.now.pid c.args.fd c.args.cut) _ _ refl c.in_err-cut_if.ensures.ran) c.in_ok-reserve_events.ensures.seen

pub returns-clause-answers : goal.returns-clause-answers
returns-clause-answers g c =
    told refl (goes_on (cutting c.args.hand.now.pid c.args.fd c.args.cut) _ c.in_ok-cut_if.ensures.ran done)
    (c.opened.ensures, c.count_open.ensures.seen ∙ ap (λ (s : Seen). opened_again s c.args.handle) (c.note_cut.ensures.seen ∙ ap (λ (s : Seen). with_events c.args.node (of_cutting c.args.cut c.args.inode) s) c.in_ok-reserve_events.ensures.seen))

pub note_cut-requires : goal.note_cut-requires
note_cut-requires g c =
    omega (arith, room_for (seen c.args.self.now) (seen c.reserve_events.new.self) c.reserve_events.new.self.times c.reserve_events.new.self.times c.args.node c.args.node c.in_ok-reserve_events.ensures.seen refl refl c.in_ok-reserve_events.ensures.events)
