-- What a worker has done.
use Rattle.std.specs.Prelude.{◌≡◌, List, [], ◌∷◌, true, Some, None, MatchBool}
use Rattle.ids.specs.declared.call.Op.{Op}
use Rattle.ids.specs.declared.call.Op.TheVariants.{Abort}
use Rattle.ids.specs.declared.reply.Reply.{Reply}
use Rattle.workers.specs.Port.{grown}
use Rattle.workers.specs.Rules.{Position, after, asked, start}

-- the position after these operations and replies
abbrev pub position_after : Position → List (Op × Reply) → Position
position_after position [] = position
position_after position (done ∷ rest) = position_after (after position done.1) rest

-- each operation is the one that is asked for after those before it
abbrev pub AreAsked : Position → List (Op × Reply) → Type 0
AreAsked position [] = Unit {0}
AreAsked position (done ∷ rest) = (asked position ≡ Some done.0) × AreAsked (after position done.1) rest

-- Work of these lines: the operations are those that the rules ask for, one after another, until
-- none is asked for.
pub record IsWork (lines : List Op) (done : List (Op × Reply)) : Type 0 where
  pub each : AreAsked (start lines) done
  pub whole : asked (position_after (start lines) done) ≡ None

-- A worker of these lines stands there after this much of its work.
pub record Stands (lines : List Op) (done : List (Op × Reply)) (position : Position) : Type 0 where
  pub each : AreAsked (start lines) done
  pub there : position_after (start lines) done ≡ position

-- The work was stopped: an operation was refused, and a transaction that was open was then given
-- up, unless that was refused too.
pub record IsStopped (lines : List Op) (done : List (Op × Reply)) : Type 0 where
  pub before : List (Op × Reply)
  pub position : Position
  pub stood : Stands lines before position
  pub last : MatchBool position.inside ((r : Reply) × (done ≡ grown before (Abort true) r))
      (done ≡ before)
