use Rattle.std.proofs.Common.{sym, ◌∙◌}
use Rattle.mount_requests.proofs.Listing.{all_shown}
use Rattle.mount_requests.proofs.lists.names_shown.Goals as goal

pub returns-then-not-has_hidden : goal.returns-then-not-has_hidden
returns-then-not-has_hidden c =
    let h = rw c.as_slice.ensures at c.has_hidden.ensures in
    sym (all_shown c.args.node c.args.list (sym h ∙ c.if-not-has_hidden.true))
