-- Who loses and who is doomed, in the words of a call's clashes.
use Rattle.std.specs.Prelude.{◌≡◌, ℕ, Bool, ◌==◌, List, [], ◌∷◌, Option, Some, None, map}
use Rattle.std.specs.Prelude.{false, length, if◌then◌else◌}
use Rattle.std.specs.List.{list_any}
use Rattle.ids.specs.declared.entry.Rank.{Rank}
use Rattle.model.specs.Aspects.{Names}
use Rattle.model.specs.Entries.{Cause}
use Rattle.model.specs.Moments.{all_below}
use Rattle.model.specs.Steps.{Touch}
use Rattle.conflict.specs.declared.found.Clash.{Clash}
use Rattle.contention.specs.Policy.{loses_to}
use Rattle.contention.specs.Ranks.{rank_at, ranked}
use Rattle.contention.specs.declared.Verdict.{Verdict}
use Rattle.contention.specs.declared.Verdict.TheVariants.{Lose, Go}
use Rattle.contention.specs.declared.Doomed.{Doomed}

-- whether a process of the first rank loses where it clashes with one of the second
abbrev pub yields_to : Rank → Rank → Bool
yields_to own other = loses_to (ranked own []) (ranked other [])

-- the cause of the first clash with a process against which the caller loses
abbrev pub cause_of_loss : Rank → List Rank → List Clash → Option Cause
cause_of_loss own ranks [] = None
cause_of_loss own ranks (c ∷ cs) =
    if yields_to own (rank_at ranks c.other)
    then Some (record { touch = c.mine; other = c.other })
    else cause_of_loss own ranks cs

-- whether one of the clashes is with q
abbrev pub is_with : ℕ → List Clash → Bool
is_with q cs = list_any (λ c. c.other == q) cs

-- the touch of q in the first clash with it
abbrev pub first_touch : ℕ → List Clash → Option Touch
first_touch q [] = None
first_touch q (c ∷ cs) = if c.other == q then Some c.theirs else first_touch q cs

abbrev pub touch_or_none : Option Touch → Touch
touch_or_none None = record { aspect = Names 0; write = false }
touch_or_none (Some t) = t

-- q, with the cause that it is told
abbrev pub told_of : ℕ → ℕ → Touch → Doomed
told_of caller q t = record { pid = q; cause = record { touch = t; other = caller } }

-- q, with which the caller clashes, is told its touch in the first clash with it
abbrev pub told : ℕ → List Clash → ℕ → Doomed
told caller cs q = told_of caller q (touch_or_none (first_touch q cs))

-- all below n with which the caller clashes, rising
abbrev pub told_below : ℕ → List Clash → ℕ → List Doomed
told_below caller cs n = map (told caller cs) (all_below (λ q. is_with q cs) n)

-- The caller loses by its first clash with a process against which it loses; where there is none,
-- it dooms all with which it clashes.
abbrev pub IsVerdictOf : ℕ → Rank → List Rank → List Clash → Verdict → Type 0
IsVerdictOf caller own ranks cs (Lose cause) = cause_of_loss own ranks cs ≡ Some cause
IsVerdictOf caller own ranks cs (Go doomed) = (cause_of_loss own ranks cs ≡ None)
    × (doomed.items ≡ told_below caller cs (length ranks))
