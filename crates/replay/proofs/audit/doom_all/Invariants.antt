use Rattle.std.proofs.Common.{◌≡◌, ℕ, take}
use Rattle.std.specs.Prelude.{if◌then◌else◌}
use Rattle.model.specs.FiniteMap.{get}
use Rattle.model.specs.Moments.{is_in}
use Rattle.replay.specs.Transactions.{doomed_kept}
use Rattle.replay.proofs.audit.doom_all.Given as goal

abbrev pub invariant-loop-pid : goal.invariant-loop-pid
invariant-loop-pid l = (q : ℕ) → get l.transactions q ≡ (if is_in q (take l.pid-index l.doomed) then doomed_kept (get l.fn.transactions q) else get l.fn.transactions q)
