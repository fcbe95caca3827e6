use Rattle.std.proofs.Common.{refl, ap, ◌∙◌, List, ℕ}
use Rattle.mount_requests.specs.Requests.{with_folder}
use Rattle.mount_requests.specs.Seen.{Seen, seen}
use Rattle.mount_requests.specs.Answers.{Answered}
use Rattle.mount_requests.proofs.Answering.{failed, no_room, refused, told, unplanned}
use Rattle.mount_requests.proofs.tables.Tables.open_folder.Goals as goal

pub returns-in_err-directory-clause-answers : goal.returns-in_err-directory-clause-answers
returns-in_err-directory-clause-answers g c =
    Answered (unplanned _ c.from_residual.ensures.1 c.in_err-directory.ensures.plan refl refl)

pub returns-in_err-reserve_folder-clause-answers : goal.returns-in_err-reserve_folder-clause-answers
returns-in_err-reserve_folder-clause-answers g c =
    Answered (refused _ c.from_residual-in_err-reserve_folder.ensures.1 refl c.in_err-reserve_folder.ensures.seen)

pub returns-in_err-list-clause-answers : goal.returns-in_err-list-clause-answers
returns-in_err-list-clause-answers g c =
    Answered (failed _ c.in_ok-directory.ensures.plan c.from_residual-in_err-list.ensures.1 c.in_err-list.ensures.ran c.in_ok-reserve_folder.ensures.seen)

pub returns-in_err-names-clause-answers : goal.returns-in_err-names-clause-answers
returns-in_err-names-clause-answers g c =
    no_room _ c.in_ok-directory.ensures.plan c.from_residual-in_err-names.ensures.1 c.in_ok-list.ensures.ran c.in_ok-reserve_folder.ensures.seen

pub returns-clause-answers : goal.returns-clause-answers
returns-clause-answers g c =
    Answered (told c.in_ok-directory.ensures.plan c.in_ok-list.ensures.ran (
      c.keep_folder-handle.ensures.handle ∙ ap (λ (s : Seen). s.next_folder) c.in_ok-reserve_folder.ensures.seen,
      c.keep_folder-handle.ensures.seen
          ∙ ap (λ (s : Seen). with_folder s c.args.node c.in_ok-names.names) c.in_ok-reserve_folder.ensures.seen
          ∙ ap (λ (n : List (List ℕ)). with_folder (seen c.args.self.now) c.args.node n) c.in_ok-names.ensures,
    ))
