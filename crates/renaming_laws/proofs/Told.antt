-- A run tells no number but its root's and those that it chose. So the root is free where it is not told.
use Rattle.std.proofs.Common.{◌≡◌, ◌≢◌, ℕ, ◌+◌, ◌<◌, List, [], ◌∷◌, map, Result, Ok, Err, sum_by, sym, ap, subst, ◌∙◌, arith, inl, inr}
use Rattle.std.specs.List.{AllByRecursion}
use Rattle.std.proofs.lemmas.Bool.{cases_eq}
use Rattle.std.proofs.lemmas.List.Sums.{sum_by-cons}
use Rattle.model.specs.State.{Kernel}
use Rattle.model.specs.Plan.{Errno}
use Rattle.model.specs.Changes.{all_applied, tidy}
use Rattle.model.specs.Calls.{Answer, Stated}
use Rattle.model.specs.Steps.{edits, reply, Item, Run}
use Rattle.model.specs.Moments.{Setup, start}
use Rattle.call_laws.proofs.Laws.{all-mapped}
use Rattle.renaming_laws.specs.Renaming.{swap, renamed}
use Rattle.renaming_laws.specs.Renamed.{renamed_answer, mapped_ok}
use Rattle.renaming_laws.specs.Laws.{SlotsAreThere, TellsNot, ChoosesNot, OnlyChosenAreTold, RootIsFree}
use Rattle.renaming_laws.proofs.Calls.{calls_are_renamed}
use Rattle.renaming_laws.proofs.Slots.{slots_at_start}
use Rattle.renaming_laws.proofs.Runs.{step_renamed}
use Rattle.renaming_laws.proofs.Swaps.{HasNeither, swap_first, swap_other, swap_renames, numbers_stay, items_stay}
use Rattle.renaming_laws.proofs.Roots.{start_renamed, root_is_renamed}
use Rattle.renaming_laws.proofs.Chosen.{root_is_never_chosen}

-- the number that an answer tells, if it does
abbrev told : Result Answer Errno → ℕ
told (Ok (Stated s)) = s.num
told (Ok _) = 0
told (Err e) = 0

-- a bound of the numbers of an item
abbrev numbers_in : Item → ℕ
numbers_in it = told it.answer + sum_by (λ n. n) it.chosen

record IsBelow (bound : ℕ) (it : Item) : Type 0 where
  tells : told it.answer < bound
  chooses : AllByRecursion (λ n. n < bound) it.chosen

below_sum : (bound : ℕ) (ns : List ℕ) → sum_by (λ n. n) ns < bound → AllByRecursion (λ n. n < bound) ns
below_sum bound [] h = tt
below_sum bound (n ∷ ns) h = let all : sum_by (λ n. n) (n ∷ ns) ≡ n + sum_by (λ n. n) ns = sum_by-cons (λ n. n) n ns in (omega arith, below_sum bound ns (omega arith))

all_below : (bound : ℕ) (items : List Item) → sum_by numbers_in items < bound → AllByRecursion (IsBelow bound) items
all_below bound [] h = tt
all_below bound (it ∷ items) h =
    let all : sum_by numbers_in (it ∷ items) ≡ told it.answer + sum_by (λ n. n) it.chosen + sum_by numbers_in items = sum_by-cons numbers_in it items in
    (record { tells = omega arith; chooses = below_sum bound it.chosen (omega arith) }, all_below bound items (omega arith))

not_told : (bound : ℕ) (answer : Result Answer Errno) → told answer < bound → TellsNot bound answer
not_told bound (Ok (Stated s)) low = λ e. omega arith
not_told bound (Ok _) low = tt
not_told bound (Err e) low = tt

-- Where two numbers change places and the state stays the same, the one is told as the other.
module _ (n z : ℕ) (apart : n ≢ z) where
  tells_not : (answer : Result Answer Errno) → answer ≡ mapped_ok (renamed_answer (swap n z)) answer → TellsNot n answer
  tells_not (Ok (Stated s)) e = λ is. apart (sym is ∙ ap told e ∙ ap (swap n z) is ∙ swap_first n z)
  tells_not (Ok _) e = tt
  tells_not (Err _) e = tt

  never_told : (k : Kernel) → SlotsAreThere k → renamed (swap n z) k ≡ k → (items : List Item) (after : Kernel) → AllByRecursion (ChoosesNot n) items → AllByRecursion (IsBelow z) items → Run k items after → AllByRecursion (λ it. TellsNot n it.answer) items
  never_told k slots unmoved [] after away below run = tt
  never_told k slots unmoved (it ∷ items) after away below run =
      let step = run.1 in
      let call = calls_are_renamed (swap n z) (swap_renames n z) k slots it.pid it.call in
      let same : it.answer ≡ mapped_ok (renamed_answer (swap n z)) it.answer =
      step.replied ∙ ap (λ k. reply k it.pid it.call) (sym unmoved) ∙ call.reply ∙ ap (mapped_ok (renamed_answer (swap n z))) (sym step.replied) in
      let numbers : map (swap n z) it.chosen ≡ it.chosen = numbers_stay n z it.chosen away.0 (all-mapped it.chosen (λ m low. below_other m low) below.0.chooses) in
      let moved = step_renamed (swap n z) (swap_renames n z) k slots it run.0 step in
      let next : renamed (swap n z) run.0 ≡ run.0 = moved.0.changed ∙ (λ i. tidy (all_applied (numbers i) (edits (unmoved i) it.pid it.call) (unmoved i))) ∙ sym step.changed in
      (tells_not it.answer same, never_told run.0 moved.1 next items after away.1 below.1 run.2)
    where
      below_other : (m : ℕ) → m < z → m ≢ z
      below_other m low e = omega arith

pub only_chosen_are_told : OnlyChosenAreTold
only_chosen_are_told root n setup items after other away run =
    let z : ℕ = 1 + n + root + sum_by numbers_in items in
    let apart : n ≢ z = λ e. omega arith in
    let off : root ≢ z = λ e. omega arith in
    never_told n z apart (start root setup) (slots_at_start root setup)
    (start_renamed (swap n z) (swap_renames n z) root setup ∙ ap (λ root. start root setup) (swap_other n z root (λ e. other (sym e)) off))
    items after away (all_below z items (omega arith)) run

-- what has neither number
all_neither : (a b : ℕ) (items : List Item) → AllByRecursion (λ it. TellsNot a it.answer) items → AllByRecursion (λ it. TellsNot b it.answer) items → AllByRecursion (ChoosesNot a) items → AllByRecursion (ChoosesNot b) items → AllByRecursion (HasNeither a b) items
all_neither a b [] h g u v = tt
all_neither a b (it ∷ items) h g u v =
    (record { tells_not_first = h.0; tells_not_second = g.0; chooses_not_first = u.0; chooses_not_second = v.0 }, all_neither a b items h.1 g.1 u.1 v.1)

pub run_has_neither : (a b : ℕ) (setup : Setup) (items : List Item) (after : Kernel) → AllByRecursion (λ it. TellsNot a it.answer) items → AllByRecursion (ChoosesNot b) items → Run (start a setup) items after → AllByRecursion (HasNeither a b) items
run_has_neither a b setup items after untold unchosen run =
    all_neither a b items untold
    (elim (cases_eq b a) [
      | inl same ↦ subst (λ n. AllByRecursion (λ it. TellsNot n it.answer) items) (sym same) untold
      | inr other ↦ only_chosen_are_told a b setup items after other unchosen run
    ])
    (root_is_never_chosen a setup items after run) unchosen

pub root_is_free : RootIsFree
root_is_free a b setup items after untold unchosen run =
    subst (λ items. Run (start b setup) items (renamed (swap a b) after)) (items_stay a b items (run_has_neither a b setup items after untold unchosen run))
    (root_is_renamed a b setup items after run)
