-- A call's edits, one or two, as they are taken from the end of their list.
use Rattle.std.proofs.Common.{◌≡◌, ◌+◌, List, [], ◌∷◌, ◌++◌, refl, ap, ◌∙◌, subst, arith, sum_by}
use Rattle.std.proofs.lemmas.List.Sums.{sum_by-cons}
use Rattle.model.specs.Changes.{Edit, news}
use Rattle.notes.specs.Steps.{CanEdit}

-- there are no three
no_three : (e : Edit) (rest : List Edit) (first last : Edit) → CanEdit (e ∷ ((rest ++ first ∷ []) ++ last ∷ [])) → ⊥
no_three e [] first last h = h
no_three e (f ∷ []) first last h = h
no_three e (f ∷ g ∷ rest) first last h = h

pub two_edits : (es front rest : List Edit) (first last : Edit) → es ≡ front ++ last ∷ [] → front ≡ rest ++ first ∷ [] → CanEdit es → es ≡ first ∷ last ∷ []
two_edits es front rest first last all before can = is ∙ by_rest rest (subst CanEdit is can)
  where
    is : es ≡ (rest ++ first ∷ []) ++ last ∷ []
    is = all ∙ ap (λ (fs : List Edit). fs ++ last ∷ []) before

    by_rest : (rest : List Edit) → CanEdit ((rest ++ first ∷ []) ++ last ∷ []) → (rest ++ first ∷ []) ++ last ∷ [] ≡ first ∷ last ∷ []
    by_rest [] h = refl
    by_rest (e ∷ rest) h = absurd (no_three e rest first last h)

pub news_of_two : (first last : Edit) → sum_by news (first ∷ last ∷ []) ≡ news first + news last
news_of_two first last =
    let a : sum_by news (first ∷ last ∷ []) ≡ news first + sum_by news (last ∷ []) = sum_by-cons news first (last ∷ []) in
    let b : sum_by news (last ∷ []) ≡ news last + sum_by news [] = sum_by-cons news last [] in
    let none : sum_by news [] ≡ 0 = refl in
    omega arith

pub news_of_one : (e : Edit) → sum_by news (e ∷ []) ≡ news e
news_of_one e =
    let a : sum_by news (e ∷ []) ≡ news e + sum_by news [] = sum_by-cons news e [] in
    let none : sum_by news [] ≡ 0 = refl in
    omega arith
