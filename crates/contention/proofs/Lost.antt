-- The first clash by which the caller loses is the first touch by which it does, and the lowest
-- process.
use Rattle.std.proofs.Common.{◌≡◌, ◌∙◌, sym, refl, ap, subst, ℕ, zero, suc, ◌<◌, ◌≤◌, Bool, true, false, not, ◌&&◌, ◌||◌, ◌==◌, nat_lt, List, [], ◌∷◌, ◌++◌, Option, Some, None, if◌then◌else◌, inl, inr, arith}
use Rattle.std.specs.List.{AllByRecursion}
use Rattle.std.proofs.lemmas.Bool.{false≢true, eqb-true, eq-eqb, and_parts, and_from, cases_Bool, cases_eq, or_cases, or_left, or_right, both_ways, ltb-true, false_from_ne_true}
use Rattle.model.specs.Entries.{Cause}
use Rattle.model.specs.Steps.{Touch}
use Rattle.model.specs.Clashes.{clashes}
use Rattle.model.specs.Moments.{lowest_below, or_number, cause_or}
use Rattle.ids.specs.declared.entry.Rank.{Rank}
use Rattle.records.specs.Touches.{touched_by}
use Rattle.conflict.specs.declared.found.Clash.{Clash}
use Rattle.conflict.specs.Clashing.{is_before, AreInOrder, AreClashesOf, AreClashes}
use Rattle.contention.specs.Losses.{is_with, yields_to, cause_of_loss}
use Rattle.contention.specs.Ranks.{rank_at}
use Rattle.contention.proofs.Told.{comes, pids_found}

-- the lowest number that passes a test
lowest_found : (p : ℕ → Bool) (n q : ℕ) → lowest_below p q ≡ None → p q ≡ true → q < n → lowest_below p n ≡ Some q
lowest_found p zero q none here below = absurd (omega arith)
lowest_found p (suc n) q none here below = elim (cases_eq q n) [
  | inl e ↦ ap (λ o. or_number o (p n) n) (ap (lowest_below p) (sym e) ∙ none) ∙ ap (λ b. or_number None b n) (ap p (sym e) ∙ here) ∙ ap Some (sym e)
  | inr ne ↦ ap (λ o. or_number o (p n) n) (lowest_found p n q none here (omega arith))
]

lowest_none : (p : ℕ → Bool) (n : ℕ) → ((q : ℕ) → q < n → p q ≡ false) → lowest_below p n ≡ None
lowest_none p zero h = refl
lowest_none p (suc n) h = ap (λ o. or_number o (p n) n) (lowest_none p n (λ q l. h q (omega arith))) ∙ ap (λ b. or_number None b n) (h n (omega arith))

-- the lowest of the processes clashed with that pass a test
abbrev pub IsLowest : (ℕ → Bool) → Option ℕ → List Clash → Type 0
IsLowest g None cs = (q : ℕ) → (g q && is_with q cs) ≡ false
IsLowest g (Some n) cs = ((g n && is_with n cs) ≡ true) × ((q : ℕ) → (g q && is_with q cs) ≡ true → n ≤ q)

-- the first process that passes
abbrev pub first_in : (ℕ → Bool) → List Clash → Option ℕ
first_in g [] = None
first_in g (c ∷ cs) = if g c.other then Some c.other else first_in g cs

other_le : (t : Touch) (a b : Clash) → is_before t a b ≡ true → a.other ≤ b.other
other_le t a b h = elim (or_cases (nat_lt a.other b.other) ((a.other == b.other) && comes t a.theirs b.theirs) h) [
  | inl below ↦ let l = ltb-true a.other b.other below in omega arith
  | inr rest ↦ let e = eqb-true a.other b.other (and_parts (a.other == b.other) (comes t a.theirs b.theirs) rest).0 in omega arith
]

all_le : (t : Touch) (c : Clash) (cs : List Clash) (q : ℕ) → AllByRecursion (λ d. is_before t c d ≡ true) cs → is_with q cs ≡ true → c.other ≤ q
all_le t c [] q all h = absurd (false≢true h)
all_le t c (d ∷ ds) q all h = elim (or_cases (d.other == q) (is_with q ds) h) [
  | inl here ↦ let e = eqb-true d.other q here in let l = other_le t c d all.0 in omega arith
  | inr there ↦ all_le t c ds q all.1 there
]

and_none : (b : Bool) → (b && false) ≡ false
and_none true = refl
and_none false = refl

-- one more before them that does not pass
lowest_kept : (g : ℕ → Bool) (c : Clash) (cs : List Clash) (o : Option ℕ) → g c.other ≡ false → IsLowest g o cs → IsLowest g o (c ∷ cs)
lowest_kept g c cs None lost low = λ q. false_from_ne_true (g q && ((c.other == q) || is_with q cs)) (λ h.
    let p = and_parts (g q) ((c.other == q) || is_with q cs) h in
    elim (or_cases (c.other == q) (is_with q cs) p.1) [
      | inl here ↦ both_ways (g q) (ap g (sym (eqb-true c.other q here)) ∙ lost) p.0
      | inr there ↦ both_ways _ (low q) (and_from (g q) (is_with q cs) p.0 there)
    ])
lowest_kept g c cs (Some n) lost low = (
  (let p = and_parts (g n) (is_with n cs) low.0 in and_from (g n) ((c.other == n) || is_with n cs) p.0 (or_right (c.other == n) (is_with n cs) p.1)),
  λ q h.
      let p = and_parts (g q) ((c.other == q) || is_with q cs) h in
      elim (or_cases (c.other == q) (is_with q cs) p.1) [
        | inl here ↦ absurd (both_ways (g q) (ap g (sym (eqb-true c.other q here)) ∙ lost) p.0)
        | inr there ↦ low.1 q (and_from (g q) (is_with q cs) p.0 there)
      ],
)

first_lowest : (g : ℕ → Bool) (t : Touch) (cs : List Clash) → AreInOrder t cs → IsLowest g (first_in g cs) cs
first_lowest g t [] order = λ q. and_none (g q)
first_lowest g t (c ∷ cs) order = elim (cases_Bool (g c.other)) [
  | inl won ↦ subst (λ o. IsLowest g o (c ∷ cs)) (sym (ap (λ b. if b then Some c.other else first_in g cs) won)) (
    and_from (g c.other) ((c.other == c.other) || is_with c.other cs) won (or_left (c.other == c.other) (is_with c.other cs) (eq-eqb c.other c.other refl)),
    λ q h.
        elim (or_cases (c.other == q) (is_with q cs) (and_parts (g q) ((c.other == q) || is_with q cs) h).1) [
          | inl here ↦ let e = eqb-true c.other q here in omega arith
          | inr there ↦ all_le t c cs q order.0 there
        ],
  )
  | inr lost ↦ subst (λ o. IsLowest g o (c ∷ cs)) (sym (ap (λ b. if b then Some c.other else first_in g cs) lost)) (lowest_kept g c cs (first_in g cs) lost (first_lowest g t cs order.1))
]

lowest_from : (g p : ℕ → Bool) (n : ℕ) (o : Option ℕ) (cs : List Clash) → ((q : ℕ) → p q ≡ (g q && is_with q cs)) → ((q : ℕ) → p q ≡ true → q < n) → IsLowest g o cs → o ≡ lowest_below p n
lowest_from g p n None cs same below low = sym (lowest_none p n (λ q l. same q ∙ low q))
lowest_from g p n (Some q) cs same below low =
    let here : p q ≡ true = same q ∙ low.0 in
    sym (lowest_found p n q (lowest_none p q (λ r l. false_from_ne_true (p r) (λ h. absurd (let k : q ≤ r = low.1 r (sym (same r) ∙ h) in omega arith)))) here (below q here))

-- the cause of the first loss among clashes of one touch, and then others
cause_here : (b : Bool) (t : Touch) (q : ℕ) (o : Option ℕ) (k : Option Cause) → (if b then Some (record { touch = t; other = q }) else cause_or t o k) ≡ cause_or t (if b then Some q else o) k
cause_here true t q o k = refl
cause_here false t q o k = refl

cause_append : (own : Rank) (ranks : List Rank) (t : Touch) (cs ds : List Clash) → AllByRecursion (λ c. c.mine ≡ t) cs → cause_of_loss own ranks (cs ++ ds) ≡ cause_or t (first_in (λ q. yields_to own (rank_at ranks q)) cs) (cause_of_loss own ranks ds)
cause_append own ranks t [] ds mine = refl
cause_append own ranks t (c ∷ cs) ds mine =
    ap (λ o. if yields_to own (rank_at ranks c.other) then Some (record { touch = c.mine; other = c.other }) else o) (cause_append own ranks t cs ds mine.1)
    ∙ ap (λ (u : Touch). let found : Cause = record { touch = u; other = c.other } in if yields_to own (rank_at ranks c.other) then Some found else cause_or t (first_in (λ q. yields_to own (rank_at ranks q)) cs) (cause_of_loss own ranks ds)) mine.0
    ∙ cause_here (yields_to own (rank_at ranks c.other)) t c.other (first_in (λ q. yields_to own (rank_at ranks q)) cs) (cause_of_loss own ranks ds)

-- whether pid loses by this touch against q
abbrev pub loses_in : Rank → List Rank → List (List Touch) → ℕ → Touch → ℕ → Bool
loses_in own ranks all pid t q = (not (q == pid) && yields_to own (rank_at ranks q)) && clashes t (touched_by all q)

-- the first touch by which it loses, and the lowest process
abbrev pub loss_of : Rank → List Rank → List (List Touch) → ℕ → List Touch → ℕ → Option Cause
loss_of own ranks all pid [] n = None
loss_of own ranks all pid (t ∷ ts) n = cause_or t (lowest_below (loses_in own ranks all pid t) n) (loss_of own ranks all pid ts n)

turned : (a g c : Bool) → ((a && g) && c) ≡ (g && (a && c))
turned true true c = refl
turned true false c = refl
turned false true c = refl
turned false false c = refl

lowest_is : (own : Rank) (ranks : List Rank) (all : List (List Touch)) (pid : ℕ) (t : Touch) (n : ℕ) (cs : List Clash) → AreClashesOf all pid t cs → ((q : ℕ) → clashes t (touched_by all q) ≡ true → q < n) → first_in (λ q. yields_to own (rank_at ranks q)) cs ≡ lowest_below (loses_in own ranks all pid t) n
lowest_is own ranks all pid t n cs are below =
    lowest_from (λ q. yields_to own (rank_at ranks q)) (loses_in own ranks all pid t) n (first_in (λ q. yields_to own (rank_at ranks q)) cs) cs
    (λ q. turned (not (q == pid)) (yields_to own (rank_at ranks q)) (clashes t (touched_by all q)) ∙ ap (λ b. yields_to own (rank_at ranks q) && b) (sym (pids_found all pid t cs are q)))
    (λ q h. below q (and_parts (not (q == pid) && yields_to own (rank_at ranks q)) (clashes t (touched_by all q)) h).1)
    (first_lowest (λ q. yields_to own (rank_at ranks q)) t cs are.order)

pub loss_is : (own : Rank) (ranks : List Rank) (all : List (List Touch)) (pid : ℕ) (ts : List Touch) (n : ℕ) (found : List Clash) → AreClashes all pid ts found → ((t : Touch) (q : ℕ) → clashes t (touched_by all q) ≡ true → q < n) → cause_of_loss own ranks found ≡ loss_of own ranks all pid ts n
loss_is own ranks all pid [] n found are below = ap (cause_of_loss own ranks) are
loss_is own ranks all pid (t ∷ ts) n found are below =
    ap (cause_of_loss own ranks) are.2
    ∙ cause_append own ranks t are.0 are.1 are.3.mine
    ∙ ap (λ o. cause_or t o (cause_of_loss own ranks are.1)) (lowest_is own ranks all pid t n are.0 are.3 (below t))
    ∙ ap (cause_or t (lowest_below (loses_in own ranks all pid t) n)) (loss_is own ranks all pid ts n are.1 are.4 below)
