-- Who loses and who is doomed, in the words of what the contention manager keeps of each process.
use Rattle.std.specs.Prelude.{◌≡◌, ℕ, Bool, false, not, ◌&&◌, ◌||◌, ◌==◌, nat_lt}
use Rattle.std.specs.Prelude.{List, [], ◌∷◌, Option, Some, None, map, length}
use Rattle.model.specs.Entries.{Cause}
use Rattle.model.specs.Steps.{Touch}
use Rattle.model.specs.Clashes.{clashes, any_clash, doomed_touch}
use Rattle.model.specs.Moments.{lowest_below, all_below, cause_or}
use Rattle.contention.specs.Contenders.{Contender, contender_at}
use Rattle.contention.specs.declared.Verdict.{Verdict}
use Rattle.contention.specs.declared.Verdict.TheVariants.{Lose, Go}
use Rattle.contention.specs.declared.Doomed.{Doomed}

-- whether both are live and the second began first
abbrev pub began_later : Option ℕ → Option ℕ → Bool
began_later (Some age) (Some other) = nat_lt other age
began_later (Some age) None = false
began_later None other = false

-- whether the first loses where it clashes with the second
abbrev pub loses_to : Contender → Contender → Bool
loses_to own other =
    nat_lt own.priority other.priority
    || ((own.priority == other.priority) && began_later own.age other.age)

-- whether the process loses by this touch against q
abbrev pub loses_to_process : List Contender → ℕ → Touch → ℕ → Bool
loses_to_process all pid t q =
    (not (q == pid) && loses_to (contender_at all pid) (contender_at all q))
    && clashes t (contender_at all q).touches

-- whether q is another one that clashes with these touches
abbrev pub clashes_with_process : List Contender → ℕ → List Touch → ℕ → Bool
clashes_with_process all pid ts q = not (q == pid) && any_clash ts (contender_at all q).touches

-- the first touch by which the process loses, and the lowest process against which it does
abbrev pub cause_to_lose : List Contender → ℕ → List Touch → Option Cause
cause_to_lose all pid [] = None
cause_to_lose all pid (t ∷ ts) =
    cause_or t (lowest_below (loses_to_process all pid t) (length all)) (cause_to_lose all pid ts)

-- what a process that these touches of pid doom is told
abbrev pub cause_of_doom : List Contender → ℕ → List Touch → ℕ → Cause
cause_of_doom all pid ts q =
    record { touch = doomed_touch ts (contender_at all q).touches; other = pid }

-- q, with that cause
abbrev pub doomed_process : List Contender → ℕ → List Touch → ℕ → Doomed
doomed_process all pid ts q = record { pid = q; cause = cause_of_doom all pid ts q }

-- all that they doom of the processes below n
abbrev pub doomed_below : List Contender → ℕ → List Touch → ℕ → List Doomed
doomed_below all pid ts n =
    map (doomed_process all pid ts) (all_below (clashes_with_process all pid ts) n)

-- what the call comes to
abbrev pub IsVerdictAmong : List Contender → ℕ → List Touch → Verdict → Type 0
IsVerdictAmong all pid ts (Lose cause) = cause_to_lose all pid ts ≡ Some cause
IsVerdictAmong all pid ts (Go doomed) = (cause_to_lose all pid ts ≡ None)
    × (doomed.items ≡ doomed_below all pid ts (length all))
