-- The limit of a history of which nothing was forgotten.
use Rattle.std.proofs.Common.{◌≡◌, ℕ, ◌+◌, Bool, true, false, [], sum, drop, ap, subst, ◌∙◌, arith, MatchBool}
use Rattle.std.specs.Prelude.{◌↔◌, nat_le}
use Rattle.history.specs.Log.{Log, kept}
use Rattle.machine.specs.Shown.{Shown, limit_of, moment}
use Rattle.machine.specs.Steps.{Added, is_no_entry}
use Rattle.model.specs.Entries.{Op, Reply, HistoryFull}
use Rattle.model.specs.Forgetting.{forgotten_by, limit_at}
use Rattle.model.specs.Moments.{Moment, has_free, reserved, status}
use Rattle.model.specs.Replies.{needed}
use Rattle.whole_laws.specs.Whole.{WholeHistoriesHaveOneLimit}

one_limit : (log : Log) → log.forgotten ≡ [] → (n : ℕ) → limit_at (limit_of log) n ≡ log.limit
one_limit log none n = ap (λ counts. log.limit + forgotten_by counts n) none ∙ (let e : log.limit + 0 ≡ log.limit = omega arith in e)

below_it : (log : Log) → log.forgotten ≡ [] → (m : Moment) (n : ℕ) → has_free (limit_of log) m n ≡ nat_le (m.entries + reserved m + n) log.limit
below_it log none m n = ap (λ limit. nat_le (m.entries + reserved m + n) limit) (one_limit log none m.entries)

all_kept : (log : Log) → log.forgotten ≡ [] → kept log ≡ log.entries
all_kept log none = ap (λ counts. drop (sum counts) log.entries) none

nothing_goes : (b : Bool) (old new : Shown) (pid : ℕ) (op : Op) (reply : Reply) → MatchBool b (new ≡ old) (Added old.log new.log pid op reply) → new.log.forgotten ≡ old.log.forgotten
nothing_goes true old new pid op reply same = ap (λ v. v.log.forgotten) same
nothing_goes false old new pid op reply added = ap (λ log. log.forgotten) added.is

pub whole_histories_have_one_limit_lem : WholeHistoriesHaveOneLimit
whole_histories_have_one_limit_lem = record {
  limit = one_limit;
  free = below_it;
  kept = all_kept;
  full = λ old new pid op reply none step.
      subst (λ b. (reply ≡ HistoryFull) ↔ (b ≡ false)) (below_it old.log none (moment old.log) (needed (status (moment old.log) pid) op)) step.full;
  whole = λ old new pid op reply step. nothing_goes (is_no_entry reply) old new pid op reply step.entry;
}
