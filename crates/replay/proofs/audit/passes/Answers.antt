use Rattle.std.proofs.Common.{refl, arith}
use Rattle.replay.proofs.Following.{follows_none, passes_all}
use Rattle.replay.proofs.Seen.{all_shown, nothing_kept}
use Rattle.replay.proofs.audit.passes.Goals as goal

pub follow_all-followed-requires : goal.follow_all-followed-requires
follow_all-followed-requires c =
    let first = follows_none c.args.root c.args.beginning.now c.args.entries.now _ _ c.in_ok-audit.ensures.kernel c.in_ok-audit.ensures.transactions in
    (first.tidied, (all_shown c.args.entries.now _ refl refl c.new-kept.ensures, λ q. rw (nothing_kept c.in_ok-audit.audit.transactions c.in_ok-audit.ensures.transactions q) tt))

pub returns-in-Ok : goal.returns-in-Ok
returns-in-Ok c =
    let first = follows_none c.args.root c.args.beginning.now c.args.entries.now _ _ c.in_ok-audit.ensures.kernel c.in_ok-audit.ensures.transactions in
    let all = c.in-Ok.ensures.follows c.args.root c.args.beginning.now first in
    passes_all _ _ _ _ _ _ all.1 (let end = all.0 in omega (arith, end))

pub returns : goal.returns
returns c =
    c.in-Err.ensures.follows c.args.root c.args.beginning.now
    (follows_none c.args.root c.args.beginning.now c.args.entries.now _ _ c.in_ok-audit.ensures.kernel c.in_ok-audit.ensures.transactions)
