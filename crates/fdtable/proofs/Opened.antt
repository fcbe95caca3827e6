-- The open descriptors by what a table gives; and a patch laid on top as far as a descriptor.
use Rattle.std.proofs.Common.{◌≡◌, ◌≢◌, ℕ, zero, suc, ◌+◌, ◌≤◌, ◌<◌, List, [], ◌∷◌, ◌++◌, length, get_or, Option, Some, None, nat_cmp, refl, sym, ap, ◌∙◌, append_assoc, arith, inl, inr}
use Rattle.std.specs.Prelude.{count_by}
use Rattle.std.proofs.Common.{Bool, true, false, cond, map, ◌==◌}
use Rattle.std.proofs.lemmas.Bool.{cases_eq, cases_lt}
use Rattle.std.proofs.lemmas.List.Sums.{sum_by-cons}
use Rattle.std.proofs.lemmas.List.{get_or_past}
use Rattle.std.specs.Cmp.{nat_cmp_total}
use Rattle.model.specs.FiniteMap.{FinMap, entries, get, from_entries, same_map, nat_cmp-IsAntisymmetric}
use Rattle.model.specs.Places.{placed}
use Rattle.model.proofs.Laws.{get-placed}
use Rattle.fdtable.specs.Open.{one_if}
use Rattle.fdtable.specs.Patches.{Given, IsLaid, laid_at, or_before}
use Rattle.fdtable.proofs.Laws.{entries-placed, laid_other, laid_same, none_unless}

abbrev pub in_front : ℕ → Option ℕ → List (ℕ × ℕ) → List (ℕ × ℕ)
in_front f (Some d) es = (f, d) ∷ es
in_front f None es = es

-- the open descriptors from `first` on, so many, with their descriptions
unfoldable pub open_from : FinMap nat_cmp ℕ → ℕ → ℕ → List (ℕ × ℕ)
open_from m first zero = []
open_from m first (suc more) = in_front first (get m first) (open_from m (suc first) more)

pub open_none : (m : FinMap nat_cmp ℕ) (first : ℕ) → open_from m first 0 ≡ []
unfolding open_from
open_none m first = refl

open_placed : (m : FinMap nat_cmp ℕ) (first : ℕ) (xs : List (Option ℕ)) → ((i : ℕ) → get m (first + i) ≡ get_or xs i None) → open_from m first (length xs) ≡ placed first xs
unfolding open_from
open_placed m first [] at = refl
open_placed m first (o ∷ xs) at =
    let here : first + 0 ≡ first = omega arith in
    ap (λ x. in_front first x (open_from m (suc first) (length xs))) (sym (ap (get m) here) ∙ at 0)
    ∙ ap (in_front first o) (open_placed m (suc first) xs (λ i. let next : suc first + i ≡ first + suc i = omega arith in ap (get m) next ∙ at (suc i)))
    ∙ by_first o
  where
    by_first : (o : Option ℕ) → in_front first o (placed (suc first) xs) ≡ placed first (o ∷ xs)
    by_first (Some d) = refl
    by_first None = refl

-- all of them are the table's entries
pub open_all : (xs : List (Option ℕ)) → open_from (from_entries (placed 0 xs)) 0 (length xs) ≡ entries (from_entries {R = nat_cmp} (placed 0 xs))
open_all xs =
    open_placed (from_entries (placed 0 xs)) 0 xs (λ i. let same : 0 + i ≡ i = omega arith in ap (get (from_entries (placed 0 xs))) same ∙ get-placed xs i)
    ∙ sym (entries-placed 0 xs)

-- of any table below a number behind which nothing is open
abbrev row : FinMap nat_cmp ℕ → ℕ → ℕ → List (Option ℕ)
row m first zero = []
row m first (suc more) = get m first ∷ row m (suc first) more

row_long : (m : FinMap nat_cmp ℕ) (first more : ℕ) → length (row m first more) ≡ more
row_long m first zero = refl
row_long m first (suc more) = ap suc (row_long m (suc first) more)

row_at : (m : FinMap nat_cmp ℕ) (first more i : ℕ) → i < more → get_or (row m first more) i None ≡ get m (first + i)
row_at m first zero i low = absurd (omega (arith, low))
row_at m first (suc more) zero low = let same : first ≡ first + 0 = omega arith in ap (get m) same
row_at m first (suc more) (suc i) low = let next : suc first + i ≡ first + suc i = omega arith in row_at m (suc first) more i (omega (arith, low)) ∙ ap (get m) next

row_is : (m : FinMap nat_cmp ℕ) (end : ℕ) → ((f : ℕ) → end ≤ f → get m f ≡ None) → from_entries (placed 0 (row m 0 end)) ≡ m
row_is m end none = same_map nat_cmp_total nat_cmp-IsAntisymmetric _ _ (λ f. get-placed (row m 0 end) f ∙ elim (cases_lt f end) [
  | inl low ↦ row_at m 0 end f low ∙ (let same : 0 + f ≡ f = omega arith in ap (get m) same)
  | inr past ↦ get_or_past (row m 0 end) f None (let long : length (row m 0 end) ≡ end = row_long m 0 end in omega (arith, long, past)) ∙ sym (none f past)
])

pub all_open : (m : FinMap nat_cmp ℕ) (end : ℕ) → ((f : ℕ) → end ≤ f → get m f ≡ None) → open_from m 0 end ≡ entries m
all_open m end none =
    ap (open_from m 0) (sym (row_long m 0 end)) ∙ ap (λ n. open_from n 0 (length (row m 0 end))) (sym (row_is m end none))
    ∙ open_all (row m 0 end) ∙ ap entries (row_is m end none)

-- what is not open below this number is nowhere open
pub none_behind : (m : FinMap nat_cmp ℕ) (end : ℕ) → ((f : ℕ) → get m f ≢ None → f < end) → (f : ℕ) → end ≤ f → get m f ≡ None
none_behind m end all f past = none_unless (get m f) (λ some. omega (arith, all f some, past))

-- all that is open with a patch on top
pub all_laid : (patch : Given) (before laid : FinMap nat_cmp ℕ) (end : ℕ) → IsLaid patch before laid → ((f : ℕ) → or_before (get patch f) (get before f) ≢ None → f < end) → open_from laid 0 end ≡ entries laid
all_laid patch before laid end is all = all_open laid end (none_behind laid end (λ f some. all f (λ none. some (is f ∙ none))))

-- one more descriptor
pub open_more : (m : FinMap nat_cmp ℕ) (first more : ℕ) (d : ℕ) (done : List (ℕ × ℕ)) → get m first ≡ Some d → done ++ open_from m first (suc more) ≡ (done ++ ((first, d) ∷ [])) ++ open_from m (first + 1) more
unfolding open_from
open_more m first more d done is =
    let next : suc first ≡ first + 1 = omega arith in
    ap (λ x. done ++ in_front first x (open_from m (suc first) more)) is
    ∙ ap (λ n. done ++ ((first, d) ∷ open_from m n more)) next
    ∙ sym (append_assoc done ((first, d) ∷ []) (open_from m (first + 1) more))

pub open_past : (m : FinMap nat_cmp ℕ) (first more : ℕ) (done : List (ℕ × ℕ)) → get m first ≡ None → done ++ open_from m first (suc more) ≡ done ++ open_from m (first + 1) more
unfolding open_from
open_past m first more done is =
    let next : suc first ≡ first + 1 = omega arith in
    ap (λ x. done ++ in_front first x (open_from m (suc first) more)) is ∙ ap (λ n. done ++ open_from m n more) next

-- a patch is laid on top at the descriptors below this one
pub record LaidBelow (patch : Given) (before after : FinMap nat_cmp ℕ) (n : ℕ) : Type 0 where
  pub below : (f : ℕ) → f < n → get after f ≡ or_before (get patch f) (get before f)
  pub above : (f : ℕ) → n ≤ f → get after f ≡ get before f

pub laid_next : (patch : Given) (before after later : FinMap nat_cmp ℕ) (n : ℕ) → LaidBelow patch before after n → later ≡ laid_at n (get patch n) after → LaidBelow patch before later (n + 1)
laid_next patch before after later n so is = record {
  below = λ f low. ap (λ t. get t f) is ∙ elim (cases_eq f n) [
    | inl e ↦ ap (get (laid_at n (get patch n) after)) e ∙ laid_same n (get patch n) after ∙ ap (or_before (get patch n)) (so.above n (omega arith)) ∙ ap (λ n. or_before (get patch n) (get before n)) (sym e)
    | inr away ↦ laid_other n (get patch n) after f away ∙ so.below f (below_it f low away)
  ];
  above = λ f high. ap (λ t. get t f) is ∙ laid_other n (get patch n) after f (λ e. let no : f ≡ n = e in omega arith) ∙ so.above f (omega arith);
}
  where
    below_it : (f : ℕ) → f < n + 1 → f ≢ n → f < n
    below_it f low away = omega arith

-- all of it is, where it notes nothing above
pub laid_all : (patch : Given) (before after : FinMap nat_cmp ℕ) (n : ℕ) → LaidBelow patch before after n → ((f : ℕ) → n ≤ f → get patch f ≡ None) → IsLaid patch before after
laid_all patch before after n so none f = elim (cases_lt f n) [
  | inl low ↦ so.below f low
  | inr high ↦ so.above f high ∙ ap (λ o. or_before o (get before f)) (sym (none f high))
]

-- how many of these are open on a description
abbrev pub among : ℕ → List (ℕ × ℕ) → ℕ
among d es = count_by (λ v. v == d) (map (λ (e : ℕ × ℕ). e.1) es)

pub among_more : (m : FinMap nat_cmp ℕ) (first more d : ℕ) → among d (open_from m first (suc more)) ≡ one_if d (get m first) + among d (open_from m (first + 1) more)
unfolding open_from
among_more m first more d =
    let next : suc first ≡ first + 1 = omega arith in
    by_first (get m first) (open_from m (suc first) more) ∙ ap (λ n. one_if d (get m first) + among d (open_from m n more)) next
  where
    by_first : (o : Option ℕ) (es : List (ℕ × ℕ)) → among d (in_front first o es) ≡ one_if d o + among d es
    by_first None es = let same : among d es ≡ 0 + among d es = omega arith in same
    by_first (Some e) es = sum_by-cons (λ v. cond (v == d) 1 0) e (map (λ (e : ℕ × ℕ). e.1) es)

pub one_low : (d : ℕ) (o : Option ℕ) → one_if d o ≤ 1
one_low d None = omega arith
one_low d (Some e) = by_test (e == d)
  where
    by_test : (b : Bool) → cond b 1 0 ≤ 1
    by_test true = omega arith
    by_test false = omega arith
