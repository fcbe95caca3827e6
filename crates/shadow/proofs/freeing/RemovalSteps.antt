-- Objects go one after the other, of those in a list.
use Rattle.std.proofs.Common.{◌≡◌, ℕ, ◌+◌, ◌≤◌, ◌<◌, List, [], ◌∷◌, ◌++◌, map, Option, Some, None, nat_cmp, refl, sym, ap, subst, ◌∙◌}
use Rattle.std.specs.List.{flat_map}
use Rattle.std.proofs.lemmas.List.Concat.{flat_map-cons}
use Rattle.model.specs.FiniteMap.{FinMap, entries, get, values}
use Rattle.model.specs.State.{Kernel}
use Rattle.freeing_laws.specs.Sweep.{all_closed, closed}
use Rattle.store.specs.Numbers.{Numbers}
use Rattle.shadow.specs.Claims.{Claim}
use Rattle.fdtable.specs.Patches.{Given}
use Rattle.shadow.specs.Laid.{Frees, Holds, given_by, kept_in}
use Rattle.shadow.specs.Stored.{Processes, state_of}
use Rattle.shadow.proofs.shared.RisingKeys.{all_on, from_on, next_on, none_on}

-- what is left of all is still to go, by f
pub record Leaves (f : List ℕ → Kernel → Kernel) (start now : Numbers) (all rest : List ℕ) : Type 0 where
  pub some : (ps : Processes) × Holds ps now
  pub state : (ps : Processes) → Holds ps start → f rest (state_of ps now) ≡ f all (state_of ps start)
  pub holds : (ps : Processes) → Holds ps start → Holds ps now
  pub kept : (c : Claim) → kept_in now c ≡ kept_in start c

pub leaves_all : (f : List ℕ → Kernel → Kernel) (start : Numbers) (all : List ℕ) → (ps : Processes) × Holds ps start → Leaves f start start all all
leaves_all f start all some = record { some = some; state = λ ps holds. refl; holds = λ ps holds. holds; kept = λ c. refl }

-- some of the rest go
pub leaves_less : (f : List ℕ → Kernel → Kernel) (some : Kernel → Kernel) (start now after : Numbers) (all rest less : List ℕ)
    → ((k : Kernel) → f rest k ≡ f less (some k)) → Leaves f start now all rest → ((ps : Processes) → Holds ps now → Frees some ps now after) → Leaves f start after all less
leaves_less f some start now after all rest less turn leaves frees = record {
  some = (leaves.some.0, (frees leaves.some.0 leaves.some.1).holds);
  state = λ ps holds. ap (f less) ((frees ps (leaves.holds ps holds)).state) ∙ sym (turn (state_of ps now)) ∙ leaves.state ps holds;
  holds = λ ps holds. (frees ps (leaves.holds ps holds)).holds;
  kept = λ c. (frees leaves.some.0 leaves.some.1).kept c ∙ leaves.kept c;
}

-- all are gone
pub leaves_none : (f : List ℕ → Kernel → Kernel) (start now : Numbers) (all rest : List ℕ) → ((k : Kernel) → f rest k ≡ k) → Leaves f start now all rest
    → (ps : Processes) → Holds ps start → Frees (f all) ps start now
leaves_none f start now all rest none leaves ps holds = record { state = sym (none (state_of ps now)) ∙ leaves.state ps holds; holds = leaves.holds ps holds; kept = leaves.kept }

-- the descriptions of two lists
pub closed_append : (ds es : List ℕ) (k : Kernel) → all_closed (ds ++ es) k ≡ all_closed es (all_closed ds k)
closed_append [] es k = refl
closed_append (d ∷ ds) es k = closed_append ds es (closed d k)

-- the descriptions that slots give from one of them on, in a patch and in a table
abbrev pub given_from : Given → ℕ → List ℕ
given_from patch n = flat_map (λ g. given_by g.1) (from_on n (entries patch))

abbrev pub open_from : FinMap nat_cmp ℕ → ℕ → List ℕ
open_from table n = map (λ e. e.1) (from_on n (entries table))

-- the slot with the next number that is noted gives this, and those before it nothing
module _ (patch : Given) (n f : ℕ) (low : n ≤ f) (none : (q : ℕ) → n ≤ q → q < f → get patch q ≡ None) where
  pub given_next : (g : Option ℕ) → get patch f ≡ Some g → given_from patch n ≡ given_by g ++ given_from patch (f + 1)
  given_next g is =
      ap (flat_map (λ (g : ℕ × Option ℕ). given_by g.1)) (next_on patch n f g low is none)
      ∙ flat_map-cons (λ (g : ℕ × Option ℕ). given_by g.1) (f, g) (from_on (f + 1) (entries patch))

  module _ (start now : Numbers) (all : List ℕ) (leaves : Leaves all_closed start now all (given_from patch n)) where
    pub gives_one : (d : ℕ) → get patch f ≡ Some (Some d) → (after : Numbers) → ((ps : Processes) → Holds ps now → Frees (closed d) ps now after)
        → Leaves all_closed start after all (given_from patch (f + 1))
    gives_one d is after frees =
        leaves_less all_closed (closed d) start now after all (given_from patch n) (given_from patch (f + 1)) (λ k. ap (λ ds. all_closed ds k) (given_next (Some d) is)) leaves frees

    pub gives_none : get patch f ≡ Some None → Leaves all_closed start now all (given_from patch (f + 1))
    gives_none is = subst (Leaves all_closed start now all) (given_next None is) leaves

-- the same of a table
module _ (table : FinMap nat_cmp ℕ) (n f : ℕ) (low : n ≤ f) (none : (q : ℕ) → n ≤ q → q < f → get table q ≡ None) where
  pub open_next : (d : ℕ) → get table f ≡ Some d → open_from table n ≡ d ∷ open_from table (f + 1)
  open_next d is = ap (map (λ (e : ℕ × ℕ). e.1)) (next_on table n f d low is none)

  pub open_one : (start now : Numbers) (all : List ℕ) → Leaves all_closed start now all (open_from table n) → (d : ℕ) → get table f ≡ Some d
      → (after : Numbers) → ((ps : Processes) → Holds ps now → Frees (closed d) ps now after) → Leaves all_closed start after all (open_from table (f + 1))
  open_one start now all leaves d is after frees =
      leaves_less all_closed (closed d) start now after all (open_from table n) (open_from table (f + 1)) (λ k. ap (λ ds. all_closed ds k) (open_next d is)) leaves frees

-- at first all are left, and at the end none
abbrev given_all : Given → List ℕ
given_all patch = flat_map (λ g. given_by g.1) (entries patch)

pub given_start : (patch : Given) (s : Numbers) → (ps : Processes) × Holds ps s → Leaves all_closed s s (given_all patch) (given_from patch 0)
given_start patch s some =
    subst (Leaves all_closed s s (given_all patch)) (ap (flat_map (λ (g : ℕ × Option ℕ). given_by g.1)) (sym (all_on patch)))
    (leaves_all all_closed s (given_all patch) some)

pub given_end : (patch : Given) (s now : Numbers) (n : ℕ) → ((q : ℕ) → n ≤ q → get patch q ≡ None) → Leaves all_closed s now (given_all patch) (given_from patch n)
    → (ps : Processes) → Holds ps s → Frees (all_closed (given_all patch)) ps s now
given_end patch s now n none =
    leaves_none all_closed s now (given_all patch) (given_from patch n)
    (λ k. ap (λ es. all_closed (flat_map (λ (g : ℕ × Option ℕ). given_by g.1) es) k) (none_on patch n none))

pub open_start : (table : FinMap nat_cmp ℕ) (s : Numbers) → (ps : Processes) × Holds ps s → Leaves all_closed s s (values table) (open_from table 0)
open_start table s some =
    subst (Leaves all_closed s s (values table)) (ap (map (λ (e : ℕ × ℕ). e.1)) (sym (all_on table))) (leaves_all all_closed s (values table) some)

pub open_end : (table : FinMap nat_cmp ℕ) (s now : Numbers) (n : ℕ) → ((q : ℕ) → n ≤ q → get table q ≡ None) → Leaves all_closed s now (values table) (open_from table n)
    → (ps : Processes) → Holds ps s → Frees (all_closed (values table)) ps s now
open_end table s now n none =
    leaves_none all_closed s now (values table) (open_from table n)
    (λ k. ap (λ es. all_closed (map (λ (e : ℕ × ℕ). e.1) es) k) (none_on table n none))
