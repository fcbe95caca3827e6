-- Two numbers change places, and what has neither of them stays as it is.
use Rattle.std.proofs.Common.{◌≡◌, ◌≢◌, ℕ, if◌then◌else◌, ◌==◌, List, [], ◌∷◌, map, Result, Ok, Err, refl, sym, ap, ap₂, ◌∙◌, eq-eqb, ne_eqb, inl, inr}
use Rattle.std.specs.List.{AllByRecursion}
use Rattle.std.proofs.lemmas.Bool.{cases_eq}
use Rattle.model.specs.Plan.{Errno}
use Rattle.model.specs.Calls.{Answer, Stated}
use Rattle.model.specs.Steps.{Item}
use Rattle.renaming_laws.specs.Renaming.{IsRenaming, swap}
use Rattle.renaming_laws.specs.Renamed.{renamed_answer, mapped_ok, renamed_item}
use Rattle.renaming_laws.specs.Laws.{TellsNot, ChoosesNot}

-- an item in which neither of two numbers stands
pub record HasNeither (a b : ℕ) (it : Item) : Type 0 where
  pub tells_not_first : TellsNot a it.answer
  pub tells_not_second : TellsNot b it.answer
  pub chooses_not_first : ChoosesNot a it
  pub chooses_not_second : ChoosesNot b it

module _ (a b : ℕ) where
  pub swap_first : swap a b a ≡ b
  swap_first = ap (λ t. if t then b else if a == b then a else a) (eq-eqb a a refl)

  pub swap_second : swap a b b ≡ a
  swap_second = elim (cases_eq b a) [
    | inl same ↦ ap (swap a b) same ∙ swap_first ∙ same
    | inr away ↦ ap (λ t. if t then b else if b == b then a else b) (ne_eqb b a away) ∙ ap (λ t. if t then a else b) (eq-eqb b b refl)
  ]

  pub swap_other : (n : ℕ) → n ≢ a → n ≢ b → swap a b n ≡ n
  swap_other n away off = ap (λ t. if t then b else if n == b then a else n) (ne_eqb n a away) ∙ ap (λ t. if t then a else n) (ne_eqb n b off)

  pub swap_renames : IsRenaming (swap a b)
  swap_renames = record {
    again = λ n. elim (cases_eq n a) [
      | inl same ↦ ap (swap a b) (ap (swap a b) same ∙ swap_first) ∙ swap_second ∙ sym same
      | inr away ↦ elim (cases_eq n b) [
        | inl same ↦ ap (swap a b) (ap (swap a b) same ∙ swap_second) ∙ swap_first ∙ sym same
        | inr off ↦ ap (swap a b) (swap_other n away off) ∙ swap_other n away off
      ]
    ];
  }

  answer_stays : (answer : Result Answer Errno) → TellsNot a answer → TellsNot b answer → mapped_ok (renamed_answer (swap a b)) answer ≡ answer
  answer_stays (Ok (Stated s)) h g = ap (λ n. Ok (Stated (record s { num = n }))) (swap_other s.num h g)
  answer_stays (Ok _) h g = refl
  answer_stays (Err e) h g = refl

  pub numbers_stay : (ns : List ℕ) → AllByRecursion (λ n. n ≢ a) ns → AllByRecursion (λ n. n ≢ b) ns → map (swap a b) ns ≡ ns
  numbers_stay [] h g = refl
  numbers_stay (n ∷ ns) h g = ap₂ (λ (m : ℕ) (ms : List ℕ). m ∷ ms) (swap_other n h.0 g.0) (numbers_stay ns h.1 g.1)

  pub item_stays : (it : Item) → HasNeither a b it → renamed_item (swap a b) it ≡ it
  item_stays it h = λ i. record it { answer = answer_stays it.answer h.tells_not_first h.tells_not_second i; chosen = numbers_stay it.chosen h.chooses_not_first h.chooses_not_second i }

  pub items_stay : (items : List Item) → AllByRecursion (HasNeither a b) items → map (renamed_item (swap a b)) items ≡ items
  items_stay [] h = refl
  items_stay (it ∷ items) h = ap₂ (λ (first : Item) (rest : List Item). first ∷ rest) (item_stays it h.0) (items_stay items h.1)
