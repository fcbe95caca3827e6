-- A check that has come to the end of a history stands as well in one that goes on.
use Rattle.std.proofs.Common.{◌≡◌, ◌≢◌, ℕ, ◌<◌, ◌≤◌, List, [], ◌∷◌, ◌++◌, length, take, drop, Option, None, Some, refl, sym, ap, ap₂, subst, ◌∙◌, arith, append_assoc}
use Rattle.std.specs.List.{AllByRecursion}
use Rattle.std.specs.Ordering.{nat_cmp}
use Rattle.std.proofs.lemmas.List.{take-append-le, drop-append-le}
use Rattle.model.specs.State.{Kernel}
use Rattle.model.specs.Steps.{Run}
use Rattle.model.specs.Entries.{Entry}
use Rattle.model.specs.FiniteMap.{FinMap, get}
use Rattle.model.specs.Legal.{serial}
use Rattle.model.specs.Moments.{Setup, Status, gone, idle, live, doomed, after, at_start, calls_at, start}
use Rattle.model.specs.Suits.{AllSuit}
use Rattle.replay.specs.Faults.{HoldsEntry, calls_before}
use Rattle.replay.specs.Ran.{AreNext, Follows, IsNext}
use Rattle.replay.specs.Transactions.{IsKept, call_first, calls_at_positions}
use Rattle.replay.specs.declared.transaction.Transaction.{Transaction}
use Rattle.replay.specs.declared.transaction.Transaction.TheVariants.{Live, Doomed}

module _ (xs more : List Entry) where
  -- the call at a position of the first
  call_longer : (p : ℕ) → p < length xs → call_first (drop p (xs ++ more)) ≡ call_first (drop p xs)
  call_longer p low = ap call_first (drop-append-le p xs more (omega arith)) ∙ first_of (drop p xs) (some p xs low) where
    some : (p : ℕ) (ys : List Entry) → p < length ys → drop p ys ≢ []
    some p ys low none = absurd (omega (arith, ap length none, Rattle.std.proofs.lemmas.List.length-drop p ys))

    first_of : (ys : List Entry) → ys ≢ [] → call_first (ys ++ more) ≡ call_first ys
    first_of [] filled = absurd (filled refl)
    first_of (y ∷ ys) filled = refl

  calls_longer : (ps : List ℕ) → AllByRecursion (λ p. p < length xs) ps → calls_at_positions (xs ++ more) ps ≡ calls_at_positions xs ps
  calls_longer [] low = refl
  calls_longer (p ∷ ps) low = ap₂ (λ a b. a ++ b) (call_longer p low.0) (calls_longer ps low.1)

  take_longer : (n : ℕ) → n ≤ length xs → take n (xs ++ more) ≡ take n xs
  take_longer n low = take-append-le n xs more low

  -- an entry of the first
  pub holds_longer : (p : ℕ) (e : Entry) → HoldsEntry xs p e → p < length xs → HoldsEntry (xs ++ more) p e
  holds_longer p e held low = record { rest = held.rest ++ more; here = drop-append-le p xs more (omega arith) ∙ ap (λ ys. ys ++ more) held.here }

  module _ (root : ℕ) (setup : Setup) where
    -- the positions that are kept are of the first
    earlier : (q : ℕ) (flags : _) (positions done ps : List ℕ) → AreNext root setup xs q (length xs) (Some (Live flags positions)) → positions ≡ done ++ ps → AllByRecursion (λ p. p < length xs) ps
    earlier q flags positions done [] next is = tt
    earlier q flags positions done (p ∷ ps) next is = ((next done ps p is).earlier, earlier q flags positions (done ++ p ∷ []) ps next (is ∙ sym (append_assoc done (p ∷ []) ps)))

    pub all_earlier : (q : ℕ) (flags : _) (positions : List ℕ) → AreNext root setup xs q (length xs) (Some (Live flags positions)) → AllByRecursion (λ p. p < length xs) positions
    all_earlier q flags positions next = earlier q flags positions [] positions next refl

    kept_longer : (q : ℕ) (t : Option Transaction) (s : Status) → AreNext root setup xs q (length xs) t → IsKept xs t s → IsKept (xs ++ more) t s
    kept_longer q None idle next is = tt
    kept_longer q None gone next is = absurd is
    kept_longer q None (live f a cs) next is = absurd is
    kept_longer q None (doomed c f a) next is = absurd is
    kept_longer q (Some (Live f ps)) (live g a cs) next is = (is.0, is.1 ∙ sym (calls_longer ps (all_earlier q f ps next)))
    kept_longer q (Some (Live f ps)) idle next is = absurd is
    kept_longer q (Some (Live f ps)) gone next is = absurd is
    kept_longer q (Some (Live f ps)) (doomed c g a) next is = absurd is
    kept_longer q (Some (Doomed f)) (doomed c g a) next is = is
    kept_longer q (Some (Doomed f)) idle next is = absurd is
    kept_longer q (Some (Doomed f)) gone next is = absurd is
    kept_longer q (Some (Doomed f)) (live g a cs) next is = absurd is

    before_longer : (q n : ℕ) → n ≤ length xs → calls_before root setup (xs ++ more) q n ≡ calls_before root setup xs q n
    before_longer q n low = ap (λ ys. calls_at (after root setup ys) q) (take_longer n low)

    first_part : (P : ℕ → Type 0) (ps qs : List ℕ) → AllByRecursion P (ps ++ qs) → AllByRecursion P ps
    first_part P [] qs all = tt
    first_part P (p ∷ ps) qs all = (all.0, first_part P ps qs all.1)

    next_longer : (q : ℕ) (t : Option Transaction) → AreNext root setup xs q (length xs) t → AreNext root setup (xs ++ more) q (length xs) t
    next_longer q None next = tt
    next_longer q (Some (Doomed f)) next = tt
    next_longer q (Some (Live f ps)) next = λ first rest position is.
        let one : IsNext root setup xs q (length xs) first position = next first rest position is in
        let low : AllByRecursion (λ p. p < length xs) (first ++ position ∷ rest) = subst (AllByRecursion (λ p. p < length xs)) is (all_earlier q f ps next) in
        let with_it : AllByRecursion (λ p. p < length xs) (first ++ position ∷ []) = first_part (λ p. p < length xs) (first ++ position ∷ []) rest (subst (AllByRecursion (λ p. p < length xs)) (sym (append_assoc first (position ∷ []) rest)) low) in
        record {
          earlier = one.earlier;
          before = (let small = one.earlier in ap length (before_longer q position (omega (arith, small)))) ∙ one.before ∙ sym (ap length (calls_longer first (first_part (λ p. p < length xs) first (position ∷ rest) low)));
          since = λ r behind within.
              subst (λ n. n ≤ length (calls_before root setup (xs ++ more) q r)) (sym (ap length (calls_longer (first ++ position ∷ []) with_it)))
              (subst (λ n. length (calls_at_positions xs (first ++ position ∷ [])) ≤ n) (sym (ap length (before_longer q r within))) (one.since r behind within));
        }

    pub follows_longer : (k : Kernel) (kept : FinMap nat_cmp Transaction) → Follows root setup xs (length xs) k kept → Follows root setup (xs ++ more) (length xs) k kept
    follows_longer k kept f =
        let same : take (length xs) (xs ++ more) ≡ take (length xs) xs = take_longer (length xs) (omega arith) in
        record {
          suit = subst (AllSuit (at_start root setup)) (sym same) f.suit;
          run = subst (λ ys. Run (start root setup) (serial root setup ys) k) (sym same) f.run;
          tidied = f.tidied;
          committed = f.committed ∙ sym (ap (λ ys. (after root setup ys).committed) same);
          phases = λ q. subst (λ ys. IsKept (xs ++ more) (get kept q) ((after root setup ys).phase q)) (sym same) (kept_longer q (get kept q) ((after root setup (take (length xs) xs)).phase q) (f.positions q) (f.phases q));
          positions = λ q. next_longer q (get kept q) (f.positions q);
        }
