-- How many slots give a description, counted one after the other.
use Rattle.std.proofs.Common.{◌≡◌, ◌≢◌, ℕ, ◌+◌, ◌-◌, ◌<◌, ◌≤◌, ◌^◌, List, [], ◌∷◌, map, Option, Some, None, nat_cmp, refl, ap, ◌∙◌, arith}
use Rattle.std.specs.List.{flat_map}
use Rattle.model.specs.FiniteMap.{FinMap, get, values}
use Rattle.fdtable.specs.Patches.{Given}
use Rattle.freeing_laws.specs.Counts.{listed, times}
use Rattle.store.specs.Numbers.{Numbers}
use Rattle.shadow.specs.Laid.{AreHeld, IsLessBy, IsLessOf, IsMoreBy, IsOneLess, IsOneMore, given_by, giving}
use Rattle.shadow.proofs.shared.RisingKeys.{all_on, none_on}
use Rattle.shadow.proofs.committing.HolderCounts.{held_still}
use Rattle.shadow.proofs.committing.SlotSteps.{same_store_same, times_both}
use Rattle.shadow.proofs.committing.SlotSums.{listed_given}
use Rattle.shadow.proofs.freeing.RemovalSteps.{given_from, given_next, open_from, open_next}

-- of a count of holders, after as many slots more, or less, as give it below a number: then those are left
-- that give it from the number on
abbrev pub IsMoreTo : Given → ℕ → ℕ → ℕ → ℕ → Type 0
IsMoreTo patch n d before after =
    before + giving patch d < 2 ^ 128 → after + times d (given_from patch n) ≡ before + giving patch d

abbrev pub IsLessTo : Given → ℕ → ℕ → ℕ → ℕ → Type 0
IsLessTo former n d before after = after - times d (given_from former n) ≡ before - giving former d

abbrev pub IsLessOpen : FinMap nat_cmp ℕ → ℕ → ℕ → ℕ → ℕ → Type 0
IsLessOpen table n d before after = after - times d (open_from table n) ≡ before - times d (values table)

-- counts that change one after the other
pub held_both : (P Q R : ℕ → ℕ → ℕ → Type 0) (s t u : Numbers) → ((d a b c : ℕ) → P d a b → Q d b c → R d a c) → AreHeld P s t → AreHeld Q t u → AreHeld R s u
held_both P Q R s t u both first later = record {
  same = same_store_same s t u first.same later.same;
  descriptions = later.descriptions ∙ first.descriptions;
  reserves = λ n. later.reserves n ∙ first.reserves n;
  files = λ n file is. first.files n file (later.files n file is);
  pipes = λ p pipe is. first.pipes p pipe (later.pipes p pipe is);
  opened = λ d opened is.
      let mid = later.opened d opened is in
      let start = first.opened d mid.before mid.held in
      record {
        before = start.before;
        held = start.held;
        count = both d start.before.holders mid.before.holders opened.holders start.count mid.count;
      };
}

-- the same change, said in another way
pub held_as : (P Q : ℕ → ℕ → ℕ → Type 0) (s t : Numbers) → ((d a b : ℕ) → P d a b → Q d a b) → AreHeld P s t → AreHeld Q s t
held_as P Q s t said held = record {
  same = held.same;
  descriptions = held.descriptions;
  reserves = held.reserves;
  files = held.files;
  pipes = held.pipes;
  opened = λ d opened is.
      let was = held.opened d opened is in
      record { before = was.before; held = was.held; count = said d was.before.holders opened.holders was.count };
}

abbrev given_all : List (ℕ × Option ℕ) → List ℕ
given_all es = flat_map (λ g. given_by g.1) es

given_parts : (patch : Given) (n f : ℕ) → n ≤ f → ((q : ℕ) → n ≤ q → q < f → get patch q ≡ None) → (g : Option ℕ) → get patch f ≡ Some g → (d : ℕ)
    → times d (given_from patch n) ≡ times d (listed g) + times d (given_from patch (f + 1))
given_parts patch n f low none g is d =
    ap (times d) (given_next patch n f low none g is) ∙ times_both d (given_by g) (given_from patch (f + 1))
    ∙ ap (λ ds. times d ds + times d (given_from patch (f + 1))) (listed_given g)

-- slots more
module _ (patch : Given) (s : Numbers) where
  pub more_none : AreHeld (IsMoreTo patch 0) s s
  more_none = held_still (IsMoreTo patch 0) s (λ d opened is few. ap (λ es. opened.holders + times d (given_all es)) (all_on patch))

  module _ (t : Numbers) (n : ℕ) (held : AreHeld (IsMoreTo patch n) s t) where
    pub more_one : (f : ℕ) (g : Option ℕ) (u : Numbers) → n ≤ f → get patch f ≡ Some g → ((q : ℕ) → n ≤ q → q < f → get patch q ≡ None) → AreHeld (IsOneMore g) t u
        → AreHeld (IsMoreTo patch (f + 1)) s u
    more_one f g u low is none one = held_both (IsMoreTo patch n) (IsOneMore g) (IsMoreTo patch (f + 1)) s t u (λ d a b c to next few.
        let before : b + times d (given_from patch n) ≡ a + giving patch d = to few in
        let parts : times d (given_from patch n) ≡ times d (listed g) + times d (given_from patch (f + 1)) = given_parts patch n f low none g is d in
        let after : c ≡ b + times d (listed g) = next (omega (arith, before, parts, few)) in
        omega (arith, before, parts, after)) held one

    pub more_all : ((q : ℕ) → n ≤ q → get patch q ≡ None) → AreHeld (IsMoreBy patch) s t
    more_all none = held_as (IsMoreTo patch n) (IsMoreBy patch) s t (λ d a b to few.
        let before : b + times d (given_from patch n) ≡ a + giving patch d = to few in
        let end : times d (given_from patch n) ≡ times d [] = ap (λ es. times d (given_all es)) (none_on patch n none) in
        let nothing : times d [] ≡ 0 = refl in
        omega (arith, before, end, nothing)) held

-- slots less
module _ (former : Given) (s : Numbers) where
  pub less_none : AreHeld (IsLessTo former 0) s s
  less_none = held_still (IsLessTo former 0) s (λ d opened is. ap (λ es. opened.holders - times d (given_all es)) (all_on former))

  module _ (t : Numbers) (n : ℕ) (held : AreHeld (IsLessTo former n) s t) where
    pub less_one : (f : ℕ) (g : Option ℕ) (u : Numbers) → n ≤ f → get former f ≡ Some g → ((q : ℕ) → n ≤ q → q < f → get former q ≡ None) → AreHeld (IsOneLess g) t u
        → AreHeld (IsLessTo former (f + 1)) s u
    less_one f g u low is none one = held_both (IsLessTo former n) (IsOneLess g) (IsLessTo former (f + 1)) s t u (λ d a b c to next.
        let before : b - times d (given_from former n) ≡ a - giving former d = to in
        let parts : times d (given_from former n) ≡ times d (listed g) + times d (given_from former (f + 1)) = given_parts former n f low none g is d in
        let after : c ≡ b - times d (listed g) = next in
        omega (arith, before, parts, after)) held one

    pub less_all : ((q : ℕ) → n ≤ q → get former q ≡ None) → AreHeld (IsLessBy former) s t
    less_all none = held_as (IsLessTo former n) (IsLessBy former) s t (λ d a b to.
        let before : b - times d (given_from former n) ≡ a - giving former d = to in
        let end : times d (given_from former n) ≡ times d [] = ap (λ es. times d (given_all es)) (none_on former n none) in
        let nothing : times d [] ≡ 0 = refl in
        omega (arith, before, end, nothing)) held

-- open slots less
module _ (table : FinMap nat_cmp ℕ) (s : Numbers) where
  pub open_none : AreHeld (IsLessOpen table 0) s s
  open_none = held_still (IsLessOpen table 0) s (λ d opened is. ap (λ es. opened.holders - times d (map (λ (e : ℕ × ℕ). e.1) es)) (all_on table))

  module _ (t : Numbers) (n : ℕ) (held : AreHeld (IsLessOpen table n) s t) where
    pub open_less : (f : ℕ) (u : Numbers) → n ≤ f → get table f ≢ None → ((q : ℕ) → n ≤ q → q < f → get table q ≡ None) → AreHeld (IsOneLess (get table f)) t u
        → AreHeld (IsLessOpen table (f + 1)) s u
    open_less f u low some none one = by_slot (get table f) refl
      where
        by_slot : (o : Option ℕ) → get table f ≡ o → AreHeld (IsLessOpen table (f + 1)) s u
        by_slot None is = absurd (some is)
        by_slot (Some e) is = held_both (IsLessOpen table n) (IsOneLess (get table f)) (IsLessOpen table (f + 1)) s t u (λ d a b c to next.
            let before : b - times d (open_from table n) ≡ a - times d (values table) = to in
            let parts : times d (open_from table n) ≡ times d (e ∷ []) + times d (open_from table (f + 1)) = ap (times d) (open_next table n f low none e is) ∙ times_both d (e ∷ []) (open_from table (f + 1)) in
            let after : c ≡ b - times d (e ∷ []) = next ∙ ap (λ o. b - times d (listed o)) is in
            omega (arith, before, parts, after)) held one

    pub open_all : ((q : ℕ) → n ≤ q → get table q ≡ None) → AreHeld (IsLessOf (values table)) s t
    open_all none = held_as (IsLessOpen table n) (IsLessOf (values table)) s t (λ d a b to.
        let before : b - times d (open_from table n) ≡ a - times d (values table) = to in
        let end : times d (open_from table n) ≡ times d [] = ap (λ es. times d (map (λ (e : ℕ × ℕ). e.1) es)) (none_on table n none) in
        let nothing : times d [] ≡ 0 = refl in
        omega (arith, before, end, nothing)) held
