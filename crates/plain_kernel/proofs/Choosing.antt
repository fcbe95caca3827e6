-- Numbers that are looked through one after another.
use Rattle.std.proofs.Common.{◌≡◌, ◌≢◌, ℕ, suc, ◌-◌, ◌≤◌, ◌<◌, ◌==◌, Bool, true, false, not, List, [], ◌∷◌, length, get_or, drop, take, length-drop, length-take, Option, Some, None, is_some, option_copied, Bor, Decides, refl, sym, ap, ap₂, ◌∙◌, subst, arith}
use Rattle.std.proofs.lemmas.Bool.{eq-eqb, eqb-true}
use Rattle.std.proofs.lemmas.Bool.Decides.{Decides-eqb, Decides-like}
use Rattle.std.proofs.lemmas.List.{take_all}
use Rattle.std.specs.List.{AllByRecursion}
use Rattle.model.specs.State.{Kernel}
use Rattle.model.specs.Steps.{AllDifferent, IsNowhere}
use Rattle.call_laws.specs.WellFormed.{WellFormed}
use Rattle.call_laws.specs.Numbers.{UnusedNumbersAreNowhere}
use Rattle.plain_kernel.specs.Chosen.{IsUnused}

-- what is behind the first item of a list
abbrev pub rest_of : {A : Type 0} → List A → List A
rest_of xs = take (length xs - 1) (drop 1 xs)

pub rest_shorter : {A : Type 0} (xs : List A) → 1 ≤ length xs → length (rest_of xs) < length xs
rest_shorter xs some = omega (arith, length-take (length xs - 1) (drop 1 xs), length-drop 1 xs)

-- a list is its first item before the rest
pub front : {A : Type 0} (xs : List A) (x : A) → 1 ≤ length xs → x ≡ get_or xs 0 x → x ∷ rest_of xs ≡ xs
front [] x some is = absurd (omega arith)
front (y ∷ ys) x some is =
    let all : length ys ≤ suc (length ys) - 1 = omega arith in
    ap₂ (λ z zs. z ∷ zs) is (take_all (suc (length ys) - 1) ys all)

pub same_first : {A : Type 0} (xs ys : List A) (x y : A) → 1 ≤ length xs → x ≡ get_or xs 0 x → 1 ≤ length ys → y ≡ get_or ys 0 y → xs ≡ ys → x ≡ y
same_first [] ys x y some is there are same = absurd (omega arith)
same_first (a ∷ xs) [] x y some is there are same = absurd (omega arith)
same_first (a ∷ xs) (b ∷ ys) x y some is there are same = let heads : a ≡ b = cc in is ∙ heads ∙ sym are

-- of no items the others are none
no_items : {A : Type 0} (xs : List A) → length xs ≡ 0 → xs ≡ []
no_items [] h = refl
no_items (x ∷ xs) h = absurd (omega arith)

pub none_are : {A : Type 0} (xs ys : List A) → length xs < 1 → Decides (length ys == 0) (xs ≡ ys)
none_are xs ys none =
    let no_more : length xs ≡ 0 = omega arith in
    Decides-like (length ys == 0) (λ (e : length ys ≡ 0). no_items xs no_more ∙ sym (no_items ys e)) (λ (e : xs ≡ ys). sym (ap length e) ∙ no_more) (Decides-eqb (length ys) 0)

module _ (P : ℕ → Type 0) where
  all_of_front : (xs : List ℕ) (x : ℕ) → 1 ≤ length xs → x ≡ get_or xs 0 x → P x → AllByRecursion P (rest_of xs) → AllByRecursion P xs
  all_of_front xs x some is p rest = subst (λ (xs : List ℕ). AllByRecursion P xs) (front xs x some is) (p, rest)

  parts_of_all : (xs : List ℕ) (x : ℕ) → 1 ≤ length xs → x ≡ get_or xs 0 x → AllByRecursion P xs → P x × AllByRecursion P (rest_of xs)
  parts_of_all xs x some is all = subst (λ (xs : List ℕ). AllByRecursion P xs) (sym (front xs x some is)) all

  -- whether it holds of all, by the first and by the rest
  pub decides_none : (xs : List ℕ) → length xs < 1 → Decides true (AllByRecursion P xs)
  decides_none [] none = (λ _. tt, λ _. refl)
  decides_none (x ∷ xs) none = absurd (omega arith)

  pub decides_rest : (r : Bool) (xs : List ℕ) (x : ℕ) → 1 ≤ length xs → x ≡ get_or xs 0 x → P x → Decides r (AllByRecursion P (rest_of xs)) → Decides r (AllByRecursion P xs)
  decides_rest r xs x some is p d = (λ told. all_of_front xs x some is p (d.0 told), λ all. d.1 (parts_of_all xs x some is all).1)

  pub decides_first : (r : Bool) (xs : List ℕ) (x : ℕ) → 1 ≤ length xs → x ≡ get_or xs 0 x → r ≡ false → (P x → ⊥) → Decides r (AllByRecursion P xs)
  decides_first r xs x some is no_pass n = (λ told. absurd (let wrong : true ≡ false = sym told ∙ no_pass in cc), λ all. absurd (n (parts_of_all xs x some is all).0))

different_of_front : (xs : List ℕ) (x : ℕ) → 1 ≤ length xs → x ≡ get_or xs 0 x → AllByRecursion (λ m. x ≢ m) (rest_of xs) → AllDifferent (rest_of xs) → AllDifferent xs
different_of_front xs x some is apart rest = subst (λ (xs : List ℕ). AllDifferent xs) (front xs x some is) (apart, rest)

parts_of_different : (xs : List ℕ) (x : ℕ) → 1 ≤ length xs → x ≡ get_or xs 0 x → AllDifferent xs → AllByRecursion (λ m. x ≢ m) (rest_of xs) × AllDifferent (rest_of xs)
parts_of_different xs x some is all = subst (λ (xs : List ℕ). AllDifferent xs) (sym (front xs x some is)) all

pub different_none : (xs : List ℕ) → length xs < 1 → Decides true (AllDifferent xs)
different_none [] none = (λ _. tt, λ _. refl)
different_none (x ∷ xs) none = absurd (omega arith)

pub different_rest : (r : Bool) (xs : List ℕ) (x : ℕ) → 1 ≤ length xs → x ≡ get_or xs 0 x → AllByRecursion (λ m. x ≢ m) (rest_of xs) → Decides r (AllDifferent (rest_of xs)) → Decides r (AllDifferent xs)
different_rest r xs x some is apart d = (λ told. different_of_front xs x some is apart (d.0 told), λ all. d.1 (parts_of_different xs x some is all).1)

pub different_first : (r : Bool) (xs : List ℕ) (x : ℕ) → 1 ≤ length xs → x ≡ get_or xs 0 x → r ≡ false → (AllByRecursion (λ m. x ≢ m) (rest_of xs) → ⊥) → Decides r (AllDifferent xs)
different_first r xs x some is no_pass n = (λ told. absurd (let wrong : true ≡ false = sym told ∙ no_pass in cc), λ all. absurd (n (parts_of_different xs x some is all).0))

-- numbers that a test tells apart
pub apart_by : (n m : ℕ) → true ≡ not (n == m) → n ≢ m
apart_by n m told is = absurd (let h : true ≡ false = told ∙ ap not (eq-eqb n m is) in cc)

pub same_by : (n m : ℕ) → false ≡ not (n == m) → n ≡ m
same_by n m told = eqb-true n m (yes_by (n == m) told) where
  yes_by : (b : Bool) → false ≡ not b → b ≡ true
  yes_by true h = refl
  yes_by false h = absurd cc

-- a look-up that finds nothing
pub nothing_by : {A : Type 0} (r : Option (Bor A)) (o : Option A) → option_copied r ≡ o → is_some r ≡ false → o ≡ None
nothing_by None o is none = sym is
nothing_by (Some x) o is none = absurd cc

pub something_by : {A : Type 0} (r : Option (Bor A)) (o : Option A) → option_copied r ≡ o → o ≡ None → is_some r ≡ false
something_by None o is none = refl
something_by (Some x) o is none = absurd (let wrong : Some x.now ≡ None = is ∙ none in cc)

pub yes_by : (a b : Bool) → a ≡ not b → a ≡ false → b ≡ true
yes_by a true h g = refl
yes_by a false h g = absurd (let wrong : true ≡ false = sym h ∙ g in cc)

-- in a well-formed state unused numbers are nowhere
pub nowhere_of : UnusedNumbersAreNowhere → (k : Kernel) → WellFormed k → (ns : List ℕ) → AllByRecursion (IsUnused k) ns → AllByRecursion (IsNowhere k) ns
nowhere_of law k well [] h = tt
nowhere_of law k well (n ∷ ns) h = (law k n well h.0.inode h.0.description, nowhere_of law k well ns h.1)

-- and numbers that are nowhere are unused
pub unused_of : (k : Kernel) (ns : List ℕ) → AllByRecursion (IsNowhere k) ns → AllByRecursion (IsUnused k) ns
unused_of k [] h = tt
unused_of k (n ∷ ns) h = (record { inode = h.0.inode; description = h.0.description }, unused_of k ns h.1)
