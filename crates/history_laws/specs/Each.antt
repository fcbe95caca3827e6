-- What laws of histories speak of: each legal history, and each entry that is right after one.
use Rattle.std.specs.Prelude.{ℕ, List}
use Rattle.model.specs.Entries.{Entry}
use Rattle.model.specs.Forgetting.{Limit}
use Rattle.model.specs.Moments.{Setup, Moment, after}
use Rattle.model.specs.Legal.{Right, Legal}

-- of the limit and the moment after each legal history
abbrev pub AfterEach : (Limit → Moment → Type 0) → Type 0
AfterEach Holds = (root : ℕ) (setup : Setup) (limit : Limit) (es : List Entry)
    → Legal root setup limit es → Holds limit (after root setup es)

-- and of each right entry after it
abbrev pub AtEach : (Moment → Entry → Type 0) → Type 0
AtEach Holds = (root : ℕ) (setup : Setup) (limit : Limit) (es : List Entry) (e : Entry)
    → Legal root setup limit es → Right limit (after root setup es) e
    → Holds (after root setup es) e
