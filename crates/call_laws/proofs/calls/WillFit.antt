-- What is shown of a change that a call gives, and what its proofs share.
use Rattle.std.proofs.Common.{◌≡◌, ◌≢◌, ℕ, zero, suc, ◌<◌, Bool, true, false, List, [], ◌∷◌, ◌++◌, map, flat_map, length, get_or, Option, Some, None, Result, Ok, Err, IfOk, refl, sym, ap, ◌∙◌, arith, ◌==◌, eq-eqb}
use Rattle.std.specs.List.{AllByRecursion}
use Rattle.model.specs.State.{Kind, A_file, Kernel, kind_of}
use Rattle.model.specs.Aspects.{Block, Ends}
use Rattle.model.specs.Plan.{Errno}
use Rattle.model.specs.Paths.{is_empty}
use Rattle.model.specs.Walks.{Place}
use Rattle.model.specs.Changes.{marks}
use Rattle.model.specs.Calls.{Answer}
use Rattle.model.specs.Plans.{Change}
use Rattle.model.specs.Steps.{IsNowhere, AllDifferent, CanBeChosen}
use Rattle.model.specs.Moments.{is_in}
use Rattle.call_laws.specs.Objects.{IsThere}
use Rattle.call_laws.specs.WellFormed.{CanBeNamed}
use Rattle.call_laws.specs.Fits.{FitsAll, IsBy, IsUnused}
use Rattle.call_laws.proofs.Maps.{true_is_false}
use Rattle.call_laws.proofs.edits.Names.{with_kind}
use Rattle.call_laws.proofs.edits.NamesAlike.{number_in, kind_in}
use Rattle.std.proofs.lemmas.Bool.{or_left, or_right}
use Rattle.call_laws.proofs.calls.OpenSlots.{ArePipes}

-- what is shown of a change that a call gives
pub record WillFit (k : Kernel) (pid : ℕ) (inside : Bool) (chosen : List ℕ) (c : Change) : Type 0 where
  pub fits : CanBeChosen k c.edits chosen → FitsAll chosen k c.edits
  pub by : AllByRecursion (IsBy pid inside) c.edits
  pub there : AllByRecursion (IsThere k) (flat_map marks c.edits)

-- one of the chosen numbers
pub nowhere_at : (k : Kernel) (chosen : List ℕ) (i : ℕ) → i < length chosen → AllByRecursion (IsNowhere k) chosen → IsNowhere k (get_or chosen i 0)
nowhere_at k [] i low h = absurd (omega arith)
nowhere_at k (n ∷ ns) zero low h = h.0
nowhere_at k (n ∷ ns) (suc i) low h = nowhere_at k ns i (omega arith) h.1

pub listed_at : (chosen : List ℕ) (i : ℕ) → i < length chosen → is_in (get_or chosen i 0) chosen ≡ true
listed_at [] i low = absurd (omega arith)
listed_at (n ∷ ns) zero low = or_left (n == n) _ (eq-eqb n n refl)
listed_at (n ∷ ns) (suc i) low = or_right (get_or ns i 0 == n) _ (listed_at ns i (omega arith))

pub second_third : (chosen : List ℕ) → length chosen ≡ 3 → AllDifferent chosen → get_or chosen 1 0 ≢ get_or chosen 2 0
second_third [] e h = absurd (omega arith)
second_third (a ∷ []) e h = absurd (omega arith)
second_third (a ∷ b ∷ []) e h = absurd (omega arith)
second_third (a ∷ b ∷ c ∷ ds) e h = h.1.0.0

pub unused_of : (k : Kernel) (n : ℕ) → IsNowhere k n → IsUnused k n
unused_of k n h = record { description = h.description; unheld = h.unheld }

pub nothing_given : (k : Kernel) (o : Option ℕ) → with_kind k o ≡ None → o ≡ None
nothing_given k None e = refl
nothing_given k (Some n) e = absurd cc

pub given_there : (k : Kernel) (place : Place) (o : Option ℕ) → with_kind k o ≡ Some place → (o ≡ Some place.0) × (kind_of k place.0 ≡ place.1)
given_there k place None e = absurd cc
given_there k place (Some m) e =
    let same : m ≡ place.0 = ap number_in e in
    let kinds : kind_of k m ≡ place.1 = ap kind_in e in
    (ap Some same, ap (kind_of k) (sym same) ∙ kinds)

pub no_keys : {A : Type 0} (xs : List A) → is_empty xs ≡ true → xs ≡ []
no_keys [] e = refl
no_keys (x ∷ xs) e = absurd cc

pub not_same : (a b : ℕ) → (a == b) ≡ false → a ≢ b
not_same a b e same = true_is_false (sym (eq-eqb a b same) ∙ e)

pub some_kind : (o : Option Kind) → CanBeNamed o → (what : Kind) × (o ≡ Some what)
some_kind (Some what) h = (what, refl)
some_kind None h = absurd h

-- marks of blocks and of ends
pub blocks_there : (k : Kernel) (n : ℕ) → kind_of k n ≡ Some A_file → (bs : List ℕ) → AllByRecursion (IsThere k) (map (Block n) bs)
blocks_there k n is [] = tt
blocks_there k n is (b ∷ bs) = (is, blocks_there k n is bs)

pub ends_there : (k : Kernel) (pipes : List ℕ) → ArePipes k pipes → AllByRecursion (IsThere k) (map Ends pipes ++ [])
ends_there k [] h = tt
ends_there k (p ∷ pipes) h = (h.0, ends_there k pipes h.1)

pub both_ok : {A : Type 0} (P Q : A → Type 0) (r : Result A Errno) → IfOk r P → IfOk r Q → IfOk r (λ x. P x × Q x)
both_ok P Q (Ok x) h g = (h, g)
both_ok P Q (Err e) h g = tt

pub unchanged_fits : (k : Kernel) (pid : ℕ) (inside : Bool) (chosen : List ℕ) (reply : Answer) → WillFit k pid inside chosen (record { reply = reply; edits = [] })
unchanged_fits k pid inside chosen reply = record { fits = λ can. tt; by = tt; there = tt }
