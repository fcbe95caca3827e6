-- The list mode of a directory, by whether some live list has read its names and whether some has
-- written an entry of it.
use Rattle.std.specs.Prelude.{◌≡◌, ℕ, Bool, true, false}
use Rattle.model.specs.Moments.{Moment, bound, held_by}
use Rattle.model.specs.Modes.{ListMode, NoTx, Read, Write, Exclusive, is_reader, is_writer}
use Rattle.model.specs.Modes.{any_below, mode_of}
use Rattle.history_laws.specs.Each.{AfterEach}

abbrev pub has_readers : Moment → ℕ → Bool
has_readers m d = any_below (λ q. is_reader d (held_by m q)) (bound m)

abbrev pub has_writers : Moment → ℕ → Bool
has_writers m d = any_below (λ q. is_writer d (held_by m q)) (bound m)

abbrev pub mode_by : Bool → Bool → ListMode
mode_by true true = Exclusive
mode_by true false = Read
mode_by false true = Write
mode_by false false = NoTx

-- Where both stand it is one transaction that has done both: two would clash. So the marks need not
-- say whose they are.
abbrev pub ModesFollowMarks : Type 0
ModesFollowMarks =
    AfterEach (λ limit m. (d : ℕ) → mode_of m d ≡ mode_by (has_readers m d) (has_writers m d))
