-- How many descriptors of a process are open on a description.
use Rattle.std.specs.Prelude.{ℕ, ◌==◌, Option, Some, None, if◌then◌else◌}

-- 1 where a descriptor gives this description, else 0
abbrev pub one_if : ℕ → Option ℕ → ℕ
one_if d (Some e) = if e == d then 1 else 0
one_if d None = 0
