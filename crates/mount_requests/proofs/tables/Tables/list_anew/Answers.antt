use Rattle.std.proofs.Common.{refl, ap, ◌∙◌, List, ℕ}
use Rattle.course.proofs.Runs.{done, goes_on, stops}
use Rattle.mount_requests.specs.Requests.{listed_by, with_names}
use Rattle.mount_requests.specs.Seen.{seen}
use Rattle.mount_requests.specs.Answers.{Answered}
use Rattle.mount_requests.proofs.Answering.{failed, no_room, told}
use Rattle.mount_requests.proofs.Listing.{lists_as}
use Rattle.mount_requests.proofs.tables.Tables.list_anew.Goals as goal

pub returns-in_err-list-clause-answers : goal.returns-in_err-list-clause-answers
returns-in_err-list-clause-answers g c =
    Answered (failed _ refl c.from_residual.ensures.1 (stops (listed_by c.args.hand.now.pid c.args.directory) _ _ refl c.in_err-list.ensures.ran) refl)

pub returns-in_err-names-clause-answers : goal.returns-in_err-names-clause-answers
returns-in_err-names-clause-answers g c =
    no_room _ refl c.from_residual-in_err-names.ensures.1 (goes_on (listed_by c.args.hand.now.pid c.args.directory) _ c.in_ok-list.ensures.ran done) refl

pub returns-in_err-listing-clause-answers : goal.returns-in_err-listing-clause-answers
returns-in_err-listing-clause-answers g c =
    no_room _ refl c.from_residual-in_err-listing.ensures.1 (goes_on (listed_by c.args.hand.now.pid c.args.directory) _ c.in_ok-list.ensures.ran done) refl

pub returns-clause-answers : goal.returns-clause-answers
returns-clause-answers g c =
    let h = rw c.as_slice.ensures at c.in_ok-listing.ensures in
    Answered (told refl (goes_on (listed_by c.args.hand.now.pid c.args.directory) _ c.in_ok-list.ensures.ran done) (
      lists_as c.args.wanted.offset c.args.wanted.size c.in_ok-listing.listing c.in_ok-names.ensures h,
      c.renew_names.ensures ∙ ap (λ (n : List (List ℕ)). with_names (seen c.args.self.now) c.args.node c.args.wanted.handle n) c.in_ok-names.ensures,
    ))
