-- What the live transactions claim of the committed state.
use Rattle.std.specs.Prelude.{◌≡◌, ℕ, List}
use Rattle.std.specs.List.{sum_by}
use Rattle.shadow.specs.Claims.{Claim, claimed, reserved}
use Rattle.shadow.specs.Committed.{Committed}
use Rattle.commit.specs.Views.{View, changes_in}

-- how often all transactions make this claim
abbrev pub total : Claim → List View → ℕ
total c views = sum_by (λ v. claimed c (changes_in v)) views

-- what is kept is what they claim, and no more: what is given up is given back
abbrev pub AreCovered : List View → Committed → Type 0
AreCovered views s = (c : Claim) → total c views ≡ reserved s c
