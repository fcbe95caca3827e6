use Rattle.std.proofs.Common.{refl}
use Rattle.mount_requests.specs.Seen.{seen}
use Rattle.mount_requests.specs.Answers.{Answered}
use Rattle.mount_requests.proofs.Answering.{unplanned}
use Rattle.mount_requests.proofs.Listing.{lists_anew, lists_kept}
use Rattle.mount_requests.proofs.tables.Tables.read_folder.Goals as goal

pub returns-in_err-directory-clause-answers : goal.returns-in_err-directory-clause-answers
returns-in_err-directory-clause-answers g c = Answered (unplanned _ c.from_residual.ensures.1 c.in_err-directory.ensures.plan refl refl)

pub returns-in-Some-clause-answers : goal.returns-in-Some-clause-answers
returns-in-Some-clause-answers g c =
    lists_anew (seen c.args.self.now) (seen c.list_anew.new.self) c.args.hand.now.pid c.args.node c.args.wanted.handle c.args.wanted.offset c.args.wanted.size c.in_ok-directory.ensures.plan c.in-Some.is c.list_anew.ensures.answers

pub returns-in-None-clause-answers : goal.returns-in-None-clause-answers
returns-in-None-clause-answers g c =
    lists_kept (seen c.args.self.now) (seen c.list_kept.new.self) c.args.hand.now.pid c.args.node c.args.wanted.handle c.args.wanted.offset c.args.wanted.size c.in_ok-directory.ensures.plan _ c.in-None.is c.list_kept.ensures.ok c.list_kept.ensures.kept c.list_kept.ensures.err c.list_kept.ensures.none
