-- A new description is given back, and one that is not new claims nothing.
use Rattle.std.proofs.Common.{◌≡◌, ℕ, ◌≤◌, ◌<◌, cond, true, false, List, ◌∷◌, Some, refl, ap, subst, arith}
use Rattle.notes.specs.declared.opening.Opening.{Opening}
use Rattle.shadow.specs.Claims.{Claim, KeepsMore, new_number, number_as, openings_claim, reserved}
use Rattle.shadow.specs.Committed.{Committed}
use Rattle.notes.specs.Patches.{is_new}
use Rattle.shadow.proofs.claims.ReleasedClaims.{GivesUp, gives_up_next, new_here, nothing_opened, old_here, one_kept, opened_at, openings_at}
use Rattle.shadow.proofs.claims.ClaimCounts.{no_number_as}

module _ (start now : Committed) (all : List (ℕ × Opening)) (n : ℕ) (opening : Opening) (rest : List (ℕ × Opening)) (gives : GivesUp opened_at start now all ((n, opening) ∷ rest)) where
  pub number_kept : is_new opening ≡ true → ((c : Claim) → openings_claim all c ≤ reserved start c) → 0 < reserved now (new_number false n)
  number_kept new there =
      let one : opened_at (Some opening) (new_number false n) ≤ reserved now (new_number false n) = one_kept opened_at nothing_opened start now all n opening rest gives
      (λ c. subst (λ m. m ≤ reserved start c) (openings_at all c) (there c)) (new_number false n) refl in
      let is : opened_at (Some opening) (new_number false n) ≡ 1 = ap (λ b. cond b 1 0) new in
      omega arith

  pub gives_new : (after : Committed) → is_new opening ≡ true → after.state ≡ now.state → KeepsMore after now (number_as false n) → GivesUp opened_at start after all rest
  gives_new after new state back =
      gives_up_next opened_at nothing_opened start now all n opening rest gives after (number_as false n) state back (λ c same. new_here n opening c new same) (no_number_as false n)

  pub gives_none : is_new opening ≡ false → GivesUp opened_at start now all rest
  gives_none old =
      gives_up_next opened_at nothing_opened start now all n opening rest gives now (λ c. 0) refl (λ c. omega arith) (λ c same. old_here n opening c old same) (λ c away. refl)
