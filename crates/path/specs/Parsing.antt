-- How far the names of a path were read, and what a refusal says of them.
use Rattle.std.specs.Prelude.{◌≡◌, ⊤, ℕ, suc, Option, Some, None, Result, Err}
use Rattle.std.specs.Prelude.{List, [], ◌∷◌, length}
use Rattle.std.specs.Borrow.{Bor}
use Rattle.model.specs.State.{Name}
use Rattle.model.specs.Plan.{Errno as Refused}
use Rattle.model.specs.Paths.{with_first, pieces}
use Rattle.ids.specs.declared.errno.Refusal.{Refusal}
use Rattle.ids.specs.declared.errno.Refusal.TheVariants.{Errno, NoMemory}

-- these names, before what the others came to
abbrev pub after : List Name → Result (List Name) Refused → Result (List Name) Refused
after [] others = others
after (x ∷ xs) others = with_first x (after xs others)

-- a refusal is the one that the names came to; that memory was refused says nothing of them
abbrev pub IsRefusalBy : Refusal → Result (List Name) Refused → Type 0
IsRefusalBy (Errno e) names = names ≡ Err e
IsRefusalBy NoMemory names = ⊤

-- the pieces of the bytes that are left, if any are
abbrev pub pieces_left : Option (Bor (List ℕ)) → List Name
pieces_left None = []
pieces_left (Some bytes) = pieces bytes.now

-- how many bytes are left, with the slash before them
abbrev pub bytes_left : Option (Bor (List ℕ)) → ℕ
bytes_left None = 0
bytes_left (Some bytes) = suc (length bytes.now)
