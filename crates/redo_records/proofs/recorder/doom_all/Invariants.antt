use Rattle.std.proofs.Common.{◌≡◌, ℕ, take, nat_eq}
use Rattle.std.specs.Prelude.{if◌then◌else◌}
use Rattle.std.specs.HashMap.{get}
use Rattle.model.specs.Moments.{is_in}
use Rattle.redo_records.specs.Kept.{in_place}
use Rattle.redo_records.specs.declared.transaction.Transaction.TheVariants.{Doomed}
use Rattle.redo_records.proofs.recorder.doom_all.Given as goal

abbrev pub invariant-loop-pid : goal.invariant-loop-pid
invariant-loop-pid l = (q : ℕ) → get nat_eq l.transactions q ≡ (if is_in q (take l.pid-index l.doomed) then in_place Doomed (get nat_eq l.fn.transactions q) else get nat_eq l.fn.transactions q)
