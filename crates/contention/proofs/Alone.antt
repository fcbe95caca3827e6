-- Where no other process has touched anything, nobody loses and nobody is doomed.
use Rattle.std.proofs.Common.{◌≡◌, ℕ, zero, suc, refl, sym, ap, ◌∙◌, List, [], length, map, false}
use Rattle.ids.specs.declared.entry.Rank.{Rank}
use Rattle.model.specs.Moments.{Moment, all_below}
use Rattle.model.specs.Steps.{Touch}
use Rattle.conflict.specs.Clashing.{AreClashes}
use Rattle.contention.specs.Contenders.{AreContendersOf}
use Rattle.contention.specs.Losses.{told}
use Rattle.contention.specs.Policy.{IsVerdictAmong}
use Rattle.contention.specs.Ranks.{ranked_list}
use Rattle.contention.specs.Verdicts.{DoomsNobody, IsAlone}
use Rattle.contention.specs.declared.Verdict.{Verdict}
use Rattle.contention.specs.declared.Verdict.TheVariants.{Lose, Go}
use Rattle.contention.proofs.Reached.{verdict_reached}
use Rattle.contention.proofs.Turned.{verdict_of_moment}

none_told : (n : ℕ) → all_below (λ (q : ℕ). false) n ≡ []
none_told zero = refl
none_told (suc n) = none_told n

module _ (ranks : List Rank) (lists : List (List Touch)) (pid : ℕ) (count : length lists ≡ length ranks) (alone : (ts : List Touch) → AreClashes lists pid ts []) where
  among_nobody : (ts : List Touch) (v : Verdict) → DoomsNobody v → IsVerdictAmong (ranked_list ranks lists) pid ts v
  among_nobody ts (Lose cause) none = absurd none
  among_nobody ts (Go doomed) none = verdict_reached ranks lists pid ts [] count (alone ts) (Go doomed)
      (refl, none ∙ ap (map (told pid [])) (sym (none_told (length ranks))))

  pub is_alone : (m : Moment) → AreContendersOf m (ranked_list ranks lists) → IsAlone m pid
  is_alone m kept ts v none = verdict_of_moment m (ranked_list ranks lists) pid ts kept v (among_nobody ts v none)
