-- The order of clashes: by process, rank and name, and where these are the same by the touches.
use Rattle.std.specs.Prelude.{◌≡◌, ℕ, List, ◌∷◌}
use Rattle.std.specs.List.{AllByRecursion}
use Rattle.std.specs.Ordering.{nat_cmp, on, then_cmp}
use Rattle.std.specs.declared.cmp.Ordering.{Ordering}
use Rattle.std.specs.Cmp.{IsTotalOrder}
use Rattle.std.specs.Cmp.Lexicographic.{slice_cmp}
use Rattle.std.proofs.lemmas.Cmp.{nat_list_cmp_total, on_total, then_total}
use Rattle.model.specs.Steps.{Touch}
use Rattle.records.specs.Codes.{touch_cmp}
use Rattle.records.specs.Marks.{touch_cmp_total}
use Rattle.conflict.specs.Clashing.{rank_of, name_of}
use Rattle.conflict.specs.declared.found.Clash.{Clash}

-- process, rank and name
abbrev pub place_of : Clash → List ℕ
place_of c = c.other ∷ rank_of c.mine c.theirs ∷ name_of c.theirs.aspect

abbrev pub touches_cmp : Clash → Clash → Ordering
touches_cmp = then_cmp (on (λ c. c.theirs) touch_cmp) (on (λ c. c.mine) touch_cmp)

unfoldable pub clash_cmp : Clash → Clash → Ordering
clash_cmp = then_cmp (on place_of (slice_cmp nat_cmp)) touches_cmp

pub clash_cmp_total : IsTotalOrder clash_cmp
unfolding clash_cmp
clash_cmp_total =
    then_total (on_total place_of nat_list_cmp_total)
    (then_total (on_total (λ c. c.theirs) touch_cmp_total)
    (on_total (λ c. c.mine) touch_cmp_total))

-- all are of this touch of the call
abbrev pub AreOfTouch : Touch → List Clash → Type 0
AreOfTouch t cs = AllByRecursion (λ c. c.mine ≡ t) cs
