-- What the crates above cite.
use Rattle.std.proofs.Common.{◌≡◌, ℕ, zero, suc, ◌<◌, sym, ◌∙◌, false, Bool, inl, inr, ap, arith}
use Rattle.std.proofs.lemmas.Bool.{cases_eq, or_parts}
use Rattle.model.specs.Modes.{any_below}
use Rattle.list_modes.proofs.Counting.{any_last}

-- where no process below a number passes, each one fails
pub none_below : (f : ℕ → Bool) (n : ℕ) → any_below f n ≡ false → (q : ℕ) → q < n → f q ≡ false
none_below f zero none q h = absurd (omega arith)
none_below f (suc n) none q h =
    let parts = or_parts (any_below f n) (f n) (sym (any_last f n) ∙ none) in
    elim (cases_eq q n) [
      | inl e ↦ ap f e ∙ parts.1
      | inr ne ↦ none_below f n parts.0 q (omega arith)
    ]
