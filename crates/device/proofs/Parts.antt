-- Texts written one after another, the last of them perhaps in part.
use Rattle.std.proofs.Common.{◌≡◌, ℕ, List, [], ◌++◌, Option, Some, None, ap, append_assoc, append-nil, refl}
use Rattle.std.specs.Io.KnownBytes.{append_known}

-- known bytes grow by a text, and then by another
pub append_known-append_known : (known : Option (List ℕ)) (s t : List ℕ) → append_known (append_known known s) t ≡ append_known known (s ++ t)
append_known-append_known None s t = refl
append_known-append_known (Some xs) s t = ap Some (append_assoc xs s t)

pub append_known-nil : (known : Option (List ℕ)) → append_known known [] ≡ known
append_known-nil None = refl
append_known-nil (Some xs) = ap Some (append-nil xs)
