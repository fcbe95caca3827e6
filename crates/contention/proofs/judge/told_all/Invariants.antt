use Rattle.std.proofs.Common.{◌≡◌, ◌++◌, map}
use Rattle.contention.specs.Losses.{told_of}
use Rattle.contention.proofs.judge.told_all.Given as goal

abbrev pub invariant-loop-pid : goal.invariant-loop-pid
invariant-loop-pid l =
    l.doomed.items ++ map (λ e. told_of l.caller e.0 e.1) l.pid-iterator
    ≡ l.initial.doomed.items ++ map (λ e. told_of l.caller e.0 e.1) l.initial.pid-iterator
