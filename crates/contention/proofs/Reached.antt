-- The verdict over the clashes is the verdict among the contenders.
use Rattle.std.proofs.Common.{◌≡◌, ◌∙◌, sym, refl, ap, ℕ, zero, suc, ◌<◌, Bool, true, false, not, ◌&&◌, ◌||◌, ◌==◌, List, [], ◌∷◌, ◌++◌, map, length, get_or, if◌then◌else◌, inl, inr, arith}
use Rattle.std.proofs.Math.Path.{fun_ext}
use Rattle.std.specs.List.{All}
use Rattle.std.proofs.lemmas.Bool.{and_parts, cases_Bool, cases_lt, both_ways, eq-eqb}
use Rattle.std.proofs.lemmas.List.{get_or_past, map-append}
use Rattle.std.proofs.lemmas.List.Folds.{list_any_at}
use Rattle.model.specs.Steps.{Touch}
use Rattle.model.specs.Clashes.{clashes, any_clash, doomed_touch}
use Rattle.model.specs.Moments.{lowest_below, all_below, cause_or}
use Rattle.ids.specs.declared.entry.Rank.{Rank}
use Rattle.records.specs.Touches.{touched_by}
use Rattle.conflict.specs.declared.found.Clash.{Clash}
use Rattle.conflict.specs.Clashing.{AreClashes}
use Rattle.contention.specs.declared.Doomed.{Doomed}
use Rattle.contention.specs.declared.Verdict.{Verdict}
use Rattle.contention.specs.declared.Verdict.TheVariants.{Lose, Go}
use Rattle.contention.specs.Contenders.{Contender, contender_at}
use Rattle.contention.specs.Policy.{loses_to, loses_to_process, clashes_with_process, cause_to_lose, doomed_process, doomed_below, IsVerdictAmong}
use Rattle.contention.specs.Losses.{is_with, told_of, told, told_below, cause_of_loss, IsVerdictOf}
use Rattle.contention.specs.Ranks.{rank_at, ranked, ranked_list}
use Rattle.contention.proofs.Lost.{loses_in, loss_of, loss_is}
use Rattle.contention.proofs.Standing.{ranked_there, ranked_count}
use Rattle.contention.proofs.Told.{told_is, all_found}

-- who clashes has touched something
none_clash : (t : Touch) (us : List Touch) → us ≡ [] → clashes t us ≡ false
none_clash t us e = ap (clashes t) e

no_clash : (ts us : List Touch) → us ≡ [] → any_clash ts us ≡ false
no_clash [] us e = refl
no_clash (t ∷ ts) us e = ap (λ b. b || any_clash ts us) (none_clash t us e) ∙ no_clash ts us e

clash_within : (all : List (List Touch)) (t : Touch) (q : ℕ) → clashes t (touched_by all q) ≡ true → q < length all
clash_within all t q h = elim (cases_lt q (length all)) [
  | inl below ↦ below
  | inr above ↦ absurd (both_ways _ (none_clash t (touched_by all q) (get_or_past all q [] above)) h)
]

any_within : (all : List (List Touch)) (ts : List Touch) (q : ℕ) → any_clash ts (touched_by all q) ≡ true → q < length all
any_within all ts q h = elim (cases_lt q (length all)) [
  | inl below ↦ below
  | inr above ↦ absurd (both_ways _ (no_clash ts (touched_by all q) (get_or_past all q [] above)) h)
]

-- each clash is with a process that has a rank
pub all_ranked : (all : List (List Touch)) (pid n : ℕ) (ts : List Touch) (found : List Clash) → length all ≡ n → AreClashes all pid ts found → All (λ c. c.other < n) found
all_ranked all pid n ts found e are = λ k d l.
    let q : ℕ = (get_or found k d).other in
    let there : is_with q found ≡ true = list_any_at (λ (c : Clash). c.other == q) found k d l (eq-eqb q q refl) in
    let h = any_within all ts q (and_parts (not (q == pid)) (any_clash ts (touched_by all q)) (sym (all_found all pid ts found q are) ∙ there)).1 in
    omega arith

loses_as : (rs : List Rank) (all : List (List Touch)) (pid : ℕ) (t : Touch) (q : ℕ) → length all ≡ length rs → loses_to_process (ranked_list rs all) pid t q ≡ loses_in (rank_at rs pid) rs all pid t q
loses_as rs all pid t q e =
    ap (λ own. (not (q == pid) && loses_to own (contender_at (ranked_list rs all) q)) && clashes t (contender_at (ranked_list rs all) q).touches) (ranked_there rs all pid e)
    ∙ ap (λ other. (not (q == pid) && loses_to (ranked (rank_at rs pid) (touched_by all pid)) other) && clashes t other.touches) (ranked_there rs all q e)

cause_as : (rs : List Rank) (all : List (List Touch)) (pid : ℕ) (ts : List Touch) → length all ≡ length rs → cause_to_lose (ranked_list rs all) pid ts ≡ loss_of (rank_at rs pid) rs all pid ts (length rs)
cause_as rs all pid [] e = refl
cause_as rs all pid (t ∷ ts) e =
    ap (λ n. cause_or t (lowest_below (loses_to_process (ranked_list rs all) pid t) n) (cause_to_lose (ranked_list rs all) pid ts)) (ranked_count rs all)
    ∙ ap (λ p. cause_or t (lowest_below p (length rs)) (cause_to_lose (ranked_list rs all) pid ts)) (fun_ext (λ q. loses_as rs all pid t q e))
    ∙ ap (cause_or t (lowest_below (loses_in (rank_at rs pid) rs all pid t) (length rs))) (cause_as rs all pid ts e)

cause_reached : (rs : List Rank) (all : List (List Touch)) (pid : ℕ) (ts : List Touch) (found : List Clash) → length all ≡ length rs → AreClashes all pid ts found → cause_to_lose (ranked_list rs all) pid ts ≡ cause_of_loss (rank_at rs pid) rs found
cause_reached rs all pid ts found e are =
    cause_as rs all pid ts e ∙ sym (loss_is (rank_at rs pid) rs all pid ts (length rs) found are (λ t q h. let l = clash_within all t q h in omega arith))

-- what agrees on the numbers that pass a test
map_below : (f g : ℕ → Doomed) (test : ℕ → Bool) (n : ℕ) → ((q : ℕ) → test q ≡ true → f q ≡ g q) → map f (all_below test n) ≡ map g (all_below test n)
map_below f g test zero same = refl
map_below f g test (suc n) same = elim (cases_Bool (test n)) [
  | inl e ↦
      ap (λ b. map f (if b then all_below test n ++ n ∷ [] else all_below test n)) e
      ∙ map-append f (all_below test n) (n ∷ [])
      ∙ ap (λ ds. ds ++ f n ∷ []) (map_below f g test n same)
      ∙ ap (λ d. map g (all_below test n) ++ d ∷ []) (same n e)
      ∙ sym (map-append g (all_below test n) (n ∷ []))
      ∙ sym (ap (λ b. map g (if b then all_below test n ++ n ∷ [] else all_below test n)) e)
  | inr e ↦
      ap (λ b. map f (if b then all_below test n ++ n ∷ [] else all_below test n)) e
      ∙ map_below f g test n same
      ∙ sym (ap (λ b. map g (if b then all_below test n ++ n ∷ [] else all_below test n)) e)
]

touches_as : (rs : List Rank) (all : List (List Touch)) (q : ℕ) → length all ≡ length rs → touched_by all q ≡ (contender_at (ranked_list rs all) q).touches
touches_as rs all q e = sym (ap (λ (c : Contender). c.touches) (ranked_there rs all q e))

with_as : (rs : List Rank) (all : List (List Touch)) (pid : ℕ) (ts : List Touch) (found : List Clash) (q : ℕ) → length all ≡ length rs → AreClashes all pid ts found → is_with q found ≡ clashes_with_process (ranked_list rs all) pid ts q
with_as rs all pid ts found q e are = all_found all pid ts found q are ∙ ap (λ us. not (q == pid) && any_clash ts us) (touches_as rs all q e)

told_as : (rs : List Rank) (all : List (List Touch)) (pid : ℕ) (ts : List Touch) (found : List Clash) (q : ℕ) → length all ≡ length rs → AreClashes all pid ts found → is_with q found ≡ true → told pid found q ≡ doomed_process (ranked_list rs all) pid ts q
told_as rs all pid ts found q e are h =
    let apart = (and_parts (not (q == pid)) (any_clash ts (touched_by all q)) (sym (all_found all pid ts found q are) ∙ h)).0 in
    ap (told_of pid q) (told_is all pid ts found q are apart) ∙ ap (λ us. told_of pid q (doomed_touch ts us)) (touches_as rs all q e)

doomed_reached : (rs : List Rank) (all : List (List Touch)) (pid : ℕ) (ts : List Touch) (found : List Clash) → length all ≡ length rs → AreClashes all pid ts found → told_below pid found (length rs) ≡ doomed_below (ranked_list rs all) pid ts (length (ranked_list rs all))
doomed_reached rs all pid ts found e are =
    map_below (told pid found) (doomed_process (ranked_list rs all) pid ts) (λ q. is_with q found) (length rs) (λ q h. told_as rs all pid ts found q e are h)
    ∙ ap (λ p. map (doomed_process (ranked_list rs all) pid ts) (all_below p (length rs))) (fun_ext (λ q. with_as rs all pid ts found q e are))
    ∙ ap (doomed_below (ranked_list rs all) pid ts) (sym (ranked_count rs all))

pub verdict_reached : (rs : List Rank) (all : List (List Touch)) (pid : ℕ) (ts : List Touch) (found : List Clash) → length all ≡ length rs → AreClashes all pid ts found → (v : Verdict) → IsVerdictOf pid (rank_at rs pid) rs found v → IsVerdictAmong (ranked_list rs all) pid ts v
verdict_reached rs all pid ts found e are (Lose cause) of = cause_reached rs all pid ts found e are ∙ of
verdict_reached rs all pid ts found e are (Go ds) of = (cause_reached rs all pid ts found e are ∙ of.0, of.1 ∙ doomed_reached rs all pid ts found e are)
