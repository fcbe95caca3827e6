-- The first piece of a text and the others.
use Rattle.std.proofs.Common.{◌≡◌, ℕ, ◌==◌, List, [], ◌∷◌, Option, Some, None, Bool, true, false, cond, eqb, length, is_none, refl, ap, sym, arith}
use Rattle.std.specs.List.{slice_split, onto_first}
use Rattle.std.proofs.lemmas.Bool.{ne_eqb}
use Rattle.std.proofs.lemmas.List.Splits.{length-slice_split}
use Rattle.script.specs.Pieces.{behind, pieces_of, up_to}

step : (byte b : ℕ) (bs : List ℕ) (t : Bool) → slice_split (λ x. eqb x byte) bs ≡ up_to byte bs ∷ pieces_of byte (behind byte bs)
    → cond t ([] ∷ slice_split (λ x. eqb x byte) bs) (onto_first b (slice_split (λ x. eqb x byte) bs))
    ≡ cond t [] (b ∷ up_to byte bs) ∷ pieces_of byte (cond t (Some bs) (behind byte bs))
step byte b bs true h = refl
step byte b bs false h = ap (onto_first b) h

pub first_piece : (byte : ℕ) (text : List ℕ) → slice_split (λ x. eqb x byte) text ≡ up_to byte text ∷ pieces_of byte (behind byte text)
first_piece byte [] = refl
first_piece byte (b ∷ bs) = step byte b bs (eqb b byte) (first_piece byte bs)

pub none_left : (byte : ℕ) (rest : Option (List ℕ)) → is_none rest ≡ (length (pieces_of byte rest) == 0)
none_left byte None = refl
none_left byte (Some text) = sym (ne_eqb (length (slice_split (λ x. eqb x byte) text)) 0 (λ none. absurd (omega (arith, length-slice_split (λ x. eqb x byte) text))))
