-- A table, entry by entry.
use Rattle.std.proofs.Common.{◌≡◌, ℕ, ◌+◌, ◌<◌, List, Some, Bool, true, false, cond, length, get_or, drop, ap, ◌∙◌}
use Rattle.std.specs.Borrow.{Bor}
use Rattle.std.specs.Str.{bytes_eq}
use Rattle.script.specs.Tables.{lookup}
use Rattle.script.proofs.Drops.{next_of}

pub found : {A : Type 0} (table : List (Bor (List ℕ) × A)) (i : ℕ) (e : Bor (List ℕ) × A) (word : List ℕ) → i < length table → e ≡ get_or table i e
    → bytes_eq word e.0.now ≡ true → lookup (drop i table) word ≡ Some e.1
found {A} table i e word below is same =
    ap (λ (es : List (Bor (List ℕ) × A)). lookup es word) (next_of table i e below is) ∙ ap (λ (t : Bool). cond t (Some e.1) (lookup (drop (i + 1) table) word)) same

pub passed : {A : Type 0} (table : List (Bor (List ℕ) × A)) (i : ℕ) (e : Bor (List ℕ) × A) (word : List ℕ) → i < length table → e ≡ get_or table i e
    → bytes_eq word e.0.now ≡ false → lookup (drop i table) word ≡ lookup (drop (i + 1) table) word
passed {A} table i e word below is other =
    ap (λ (es : List (Bor (List ℕ) × A)). lookup es word) (next_of table i e below is) ∙ ap (λ (t : Bool). cond t (Some e.1) (lookup (drop (i + 1) table) word)) other
