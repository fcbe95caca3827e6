-- What a function gives behind a change at one number, and when what is known is the same.
use Rattle.std.proofs.Common.{◌≡◌, ◌≢◌, ℕ, ◌==◌, Bool, true, false, cond, refl, sym, ◌∙◌, eq-eqb, eqb-true, ne_eqb}
use Rattle.std.proofs.lemmas.Bool.{cond-false, cond-true}
use Rattle.view_times.specs.Known.{Known, put}

module _ {X : Type 0} where
  pub put_same : (number : ℕ) (x : X) (f : ℕ → X) → put number x f number ≡ x
  put_same number x f = cond-true (number == number) x (f number) (eq-eqb number number refl)

  pub put_other : (number : ℕ) (x : X) (f : ℕ → X) (other : ℕ) → other ≢ number → put number x f other ≡ f other
  put_other number x f other away = cond-false (number == other) x (f other) (ne_eqb number other (λ same. away (sym same)))

  -- two tests that do not hold both
  swapped : (a b : Bool) (x y z : X) → (a ≡ true → b ≡ true → ⊥) → cond a x (cond b y z) ≡ cond b y (cond a x z)
  swapped true true x y z not_both = absurd (not_both refl refl)
  swapped true false x y z not_both = refl
  swapped false true x y z not_both = refl
  swapped false false x y z not_both = refl

  pub put_swap : (first second : ℕ) (x y : X) (f : ℕ → X) → first ≢ second → (q : ℕ) → put first x (put second y f) q ≡ put second y (put first x f) q
  put_swap first second x y f away q =
      swapped (first == q) (second == q) x y (f q) (λ one other. away (eqb-true first q one ∙ sym (eqb-true second q other)))

  alike : (a b : Bool) (x z : X) → cond a x (cond b x z) ≡ cond b x (cond a x z)
  alike true true x z = refl
  alike true false x z = refl
  alike false true x z = refl
  alike false false x z = refl

  pub put_alike : (first second : ℕ) (x : X) (f : ℕ → X) (q : ℕ) → put first x (put second x f) q ≡ put second x (put first x f) q
  put_alike first second x f q = alike (first == q) (second == q) x (f q)

  again : (a : Bool) (x y z : X) → cond a x (cond a y z) ≡ cond a x z
  again true x y z = refl
  again false x y z = refl

  pub put_again : (number : ℕ) (x y : X) (f : ℕ → X) (q : ℕ) → put number x (put number y f) q ≡ put number x f q
  put_again number x y f q = again (number == q) x y (f q)

-- what is known is the same where both functions give the same
pub same_known : (j k : Known) → ((q : ℕ) → j.everybody q ≡ k.everybody q) → ((v q : ℕ) → j.noted v q ≡ k.noted v q) → j ≡ k
same_known j k everybody noted = λ i. record { everybody = λ q. everybody q i; noted = λ v q. noted v q i }
