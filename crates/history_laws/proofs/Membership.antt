-- Membership, and what holds of each element.
use Rattle.std.proofs.Common.{◌≡◌, ℕ, List, [], ◌∷◌, ◌++◌, refl, sym, ◌∙◌, ap, subst, true, false, Bool, ◌⊎◌, inl, inr, eqb, cond, map}
use Rattle.std.specs.Prelude.{◌||◌, filter}
use Rattle.std.specs.List.{list_any, AllByRecursion}
use Rattle.std.proofs.lemmas.Bool.{or_cases, or_left, or_right, or_from, or_parts, false≢true, eqb-true, eq-eqb}
use Rattle.model.specs.Moments.{is_in}

-- x is one of the list
abbrev pub In : {A : Type 0} → A → List A → Type 0
In x [] = ⊥
In x (y ∷ ys) = (x ≡ y) ⊎ In x ys

pub In-left : {A : Type 0} (x : A) (xs ys : List A) → In x xs → In x (xs ++ ys)
In-left x [] ys h = absurd h
In-left x (y ∷ xs) ys h = elim h [ inl e ↦ inl e | inr r ↦ inr (In-left x xs ys r) ]

pub In-right : {A : Type 0} (x : A) (xs ys : List A) → In x ys → In x (xs ++ ys)
In-right x [] ys h = h
In-right x (y ∷ xs) ys h = inr (In-right x xs ys h)

pub In-cases : {A : Type 0} (x : A) (xs ys : List A) → In x (xs ++ ys) → In x xs ⊎ In x ys
In-cases x [] ys h = inr h
In-cases x (y ∷ xs) ys h = elim h [
  | inl e ↦ inl (inl e)
  | inr r ↦ elim (In-cases x xs ys r) [ inl a ↦ inl (inr a) | inr b ↦ inr b ]
]

pub In-map : {A B : Type 0} (f : A → B) (x : A) (xs : List A) → In x xs → In (f x) (map f xs)
In-map f x [] h = h
In-map f x (y ∷ xs) h = elim h [ inl e ↦ inl (ap f e) | inr r ↦ inr (In-map f x xs r) ]

-- what holds of each element, by membership and by recursion
pub all_from : {A : Type 0} (P : A → Type 0) (xs : List A) → ((x : A) → In x xs → P x) → AllByRecursion P xs
all_from P [] h = tt
all_from P (x ∷ xs) h = (h x (inl refl), all_from P xs (λ y i. h y (inr i)))

pub all_to : {A : Type 0} (P : A → Type 0) (xs : List A) → AllByRecursion P xs → (x : A) → In x xs → P x
all_to P [] h x i = absurd i
all_to P (y ∷ xs) h x i = elim i [ inl e ↦ subst P (sym e) h.0 | inr r ↦ all_to P xs h.1 x r ]

pub all_mapped : {A B : Type 0} (P : B → Type 0) (f : A → B) (xs : List A) → AllByRecursion (λ x. P (f x)) xs → (y : B) → In y (map f xs) → P y
all_mapped P f [] h y i = absurd i
all_mapped P f (x ∷ xs) h y i = elim i [ inl e ↦ subst P (sym e) h.0 | inr r ↦ all_mapped P f xs h.1 y r ]

-- a test that none passes fails at each
pub none_passes : {A : Type 0} (p : A → Bool) (xs : List A) → list_any p xs ≡ false → (x : A) → In x xs → p x ≡ false
none_passes p [] none x h = absurd h
none_passes p (y ∷ xs) none x h = elim h [
  | inl e ↦ ap p e ∙ (or_parts (p y) (list_any p xs) none).0
  | inr r ↦ none_passes p xs (or_parts (p y) (list_any p xs) none).1 x r
]

-- a filter keeps what passes
pub In-filter : {A : Type 0} (p : A → Bool) (x : A) (xs : List A) → p x ≡ true → In x xs → In x (filter p xs)
In-filter p x [] h i = i
In-filter p x (y ∷ xs) h i = at_test (p y) refl (In-filter p x xs h) i where
  at_test : (b : Bool) → p y ≡ b → (In x xs → In x (filter p xs)) → ((x ≡ y) ⊎ In x xs) → In x (cond b (y ∷ filter p xs) (filter p xs))
  at_test true e later i = elim i [ inl s ↦ inl s | inr r ↦ inr (later r) ]
  at_test false e later i = elim i [ inl s ↦ absurd (false≢true (sym e ∙ sym (ap p s) ∙ h)) | inr r ↦ later r ]

-- tests of numbers in lists
pub is_in-append : (n : ℕ) (xs ys : List ℕ) → is_in n (xs ++ ys) ≡ (is_in n xs || is_in n ys)
is_in-append n [] ys = refl
is_in-append n (x ∷ xs) ys = at_test (eqb n x) (is_in-append n xs ys) where
  at_test : (b : Bool) → is_in n (xs ++ ys) ≡ (is_in n xs || is_in n ys) → (b || is_in n (xs ++ ys)) ≡ ((b || is_in n xs) || is_in n ys)
  at_test true h = refl
  at_test false h = h

pub out_left : (n : ℕ) (xs ys : List ℕ) → is_in n (xs ++ ys) ≡ false → is_in n xs ≡ false
out_left n xs ys h = (or_parts (is_in n xs) (is_in n ys) (sym (is_in-append n xs ys) ∙ h)).0

pub out_right : (n : ℕ) (xs ys : List ℕ) → is_in n (xs ++ ys) ≡ false → is_in n ys ≡ false
out_right n xs ys h = (or_parts (is_in n xs) (is_in n ys) (sym (is_in-append n xs ys) ∙ h)).1

pub out_both : (n : ℕ) (xs ys : List ℕ) → is_in n xs ≡ false → is_in n ys ≡ false → is_in n (xs ++ ys) ≡ false
out_both n xs ys h g = is_in-append n xs ys ∙ or_from (is_in n xs) (is_in n ys) h g

pub in_either : (n : ℕ) (xs ys : List ℕ) → is_in n (xs ++ ys) ≡ true → (is_in n xs ≡ true) ⊎ (is_in n ys ≡ true)
in_either n xs ys h = or_cases (is_in n xs) (is_in n ys) (sym (is_in-append n xs ys) ∙ h)

pub in_left : (n : ℕ) (xs ys : List ℕ) → is_in n xs ≡ true → is_in n (xs ++ ys) ≡ true
in_left n xs ys h = is_in-append n xs ys ∙ or_left (is_in n xs) (is_in n ys) h

pub in_right : (n : ℕ) (xs ys : List ℕ) → is_in n ys ≡ true → is_in n (xs ++ ys) ≡ true
in_right n xs ys h = is_in-append n xs ys ∙ or_right (is_in n xs) (is_in n ys) h

pub in_is : (n : ℕ) (ns : List ℕ) → In n ns → is_in n ns ≡ true
in_is n [] i = absurd i
in_is n (m ∷ ns) i = elim i [
  | inl e ↦ or_left (eqb n m) (is_in n ns) (eq-eqb n m e)
  | inr r ↦ or_right (eqb n m) (is_in n ns) (in_is n ns r)
]

pub is_in_in : (n : ℕ) (ns : List ℕ) → is_in n ns ≡ true → In n ns
is_in_in n [] h = absurd (false≢true h)
is_in_in n (m ∷ ns) h = elim (or_cases (eqb n m) (is_in n ns) h) [ inl e ↦ inl (eqb-true n m e) | inr r ↦ inr (is_in_in n ns r) ]
