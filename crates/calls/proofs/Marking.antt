-- Going through a list and marking what each element writes.
use Rattle.std.proofs.Common.{◌≡◌, List, ◌∷◌, ◌++◌, sym, ap, ◌∙◌, append_assoc}
use Rattle.std.proofs.lemmas.List.{map-append}
use Rattle.model.specs.Aspects.{Aspect}
use Rattle.model.specs.Steps.{Touch}
use Rattle.look.specs.Asked.{writing}

-- the marks of what is left, by one element: they are as before where its own marks are added
pub mark_more : {A : Type 0} (own : A → List Aspect) (marks : List A → List Aspect) (by_one : (x : A) (xs : List A) → marks (x ∷ xs) ≡ own x ++ marks xs) (before : List Touch) (x : A) (rest : List A) {whole after : List Touch} {left : List A} → whole ≡ before ++ writing (marks left) → left ≡ x ∷ rest → after ≡ before ++ writing (own x) → whole ≡ after ++ writing (marks rest)
mark_more own marks by_one before x rest was is added =
    was
    ∙ ap (λ xs. before ++ writing (marks xs)) is
    ∙ ap (λ more. before ++ writing more) (by_one x rest)
    ∙ ap (λ more. before ++ more) (map-append _ (own x) (marks rest))
    ∙ sym (append_assoc before (writing (own x)) (writing (marks rest)))
    ∙ ap (λ t. t ++ writing (marks rest)) (sym added)
