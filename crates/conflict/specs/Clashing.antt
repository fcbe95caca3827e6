-- All clashes of a call's touches with what other processes have touched, in order.
use Rattle.std.specs.Prelude.{◌≡◌, ℕ, List, [], ◌∷◌, ◌++◌, Bool, not, ◌&&◌, ◌||◌, ◌==◌, nat_lt, ⊤}
use Rattle.std.specs.Prelude.{true, if◌then◌else◌}
use Rattle.std.specs.List.{AllByRecursion, list_any}
use Rattle.model.specs.State.{Name}
use Rattle.model.specs.Aspects.{Aspect, Entry}
use Rattle.model.specs.Steps.{Touch}
use Rattle.model.specs.Clashes.{clash, has_touch, name_lt, same_aspect}
use Rattle.records.specs.Touches.{touched_by}
use Rattle.conflict.specs.declared.found.Clash.{Clash}

-- On one touch the other's touches of the same aspect come first, a write before a read.
abbrev pub rank_of : Touch → Touch → ℕ
rank_of t u = if same_aspect t.aspect u.aspect then (if u.write then 0 else 1) else 2

-- the name of an entry
abbrev pub name_of : Aspect → Name
name_of (Entry d x) = x
name_of _ = []

-- By the processes' numbers, then by that rank, and then by names in byte order.
abbrev pub is_before : Touch → Clash → Clash → Bool
is_before t a b =
    nat_lt a.other b.other
    || ((a.other == b.other)
    && (nat_lt (rank_of t a.theirs) (rank_of t b.theirs)
    || ((rank_of t a.theirs == rank_of t b.theirs)
    && name_lt (name_of a.theirs.aspect) (name_of b.theirs.aspect))))

-- each comes before all that follow it
abbrev pub AreInOrder : Touch → List Clash → Type 0
AreInOrder t [] = ⊤
AreInOrder t (c ∷ cs) = AllByRecursion (λ d. is_before t c d ≡ true) cs × AreInOrder t cs

-- whether this touch of that process is among them
abbrev pub is_found : ℕ → Touch → List Clash → Bool
is_found q u found =
    list_any (λ c. (c.other == q) && has_touch u.aspect u.write (c.theirs ∷ [])) found

-- All clashes of one touch of a process: the recorded touches of the others that clash with it, each
-- once, in order.
pub record AreClashesOf (all : List (List Touch)) (pid : ℕ) (t : Touch) (found : List Clash)
    : Type 0 where
  pub mine : AllByRecursion (λ c. c.mine ≡ t) found
  pub exact : (q : ℕ) (u : Touch) → is_found q u found
      ≡ (not (q == pid) && (clash t u && has_touch u.aspect u.write (touched_by all q)))
  pub order : AreInOrder t found

-- All clashes of a list of touches: those of the first touch, and then those of the others.
abbrev pub AreClashes : List (List Touch) → ℕ → List Touch → List Clash → Type 0
AreClashes all pid [] found = found ≡ []
AreClashes all pid (t ∷ ts) found = (own : List Clash) × (rest : List Clash)
    × (found ≡ own ++ rest) × AreClashesOf all pid t own × AreClashes all pid ts rest
