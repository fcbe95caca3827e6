-- How a request is answered: by its plan, the course of that, and what the course came to.
use Rattle.std.specs.Prelude.{◌≡◌, ◌⊎◌, Result, Ok, Err}
use Rattle.fuse.specs.declared.errno.Errno.TheVariants.{ENOMEM}
use Rattle.fuse.specs.declared.reply.Reply.{Reply}
use Rattle.machine.specs.Shown.{Shown}
use Rattle.course.specs.Course.{Course, Ran}
use Rattle.course.specs.declared.fault.Fault.{Fault}
use Rattle.mount_requests.specs.Failures.{error, failure_of}
use Rattle.mount_requests.specs.Seen.{Seen}
use Rattle.mount_requests.specs.declared.failure.Failure.{Failure}

-- what was planned, or memory was refused for it
abbrev pub IsPlanned : {A : Type 0} → Result A Failure → Result A Failure → Type 0
IsPlanned plan (Ok x) = plan ≡ Ok x
IsPlanned plan (Err e) = (plan ≡ Err e) ⊎ (e ≡ error ENOMEM)

-- a reply was told, of which this holds
abbrev pub Says : (Reply → Type 0) → Result Reply Failure → Type 0
Says Holds (Ok reply) = Holds reply
Says Holds (Err e) = ⊥

-- From one state of the kernel, and of what is known beside it, to another a request with this plan and
-- course was answered. Where it has no plan nothing is done. A course that fails is told by its error,
-- and nothing else changes; else the reply shows its outcome, and what is known then. Where memory is
-- refused the reply says so, and nothing is done.
pub data Answers {P A : Type 0} (s later : Seen) (old new : Shown) (plan : Result P Failure)
    (course : P → Course (Result A Fault)) (Shows : P → A → Seen → Result Reply Failure → Type 0)
    (result : Result Reply Failure) : Type 0 where
  Unplanned : (e : Failure) → plan ≡ Err e → new ≡ old → later ≡ s → result ≡ Err e
      → Answers s later old new plan course Shows result
  Failed : (p : P) (e : Fault) → plan ≡ Ok p → Ran old (course p) (Err e) new → later ≡ s
      → result ≡ Err (failure_of e) → Answers s later old new plan course Shows result
  Told : (p : P) (x : A) → plan ≡ Ok p → Ran old (course p) (Ok x) new → Shows p x later result
      → Answers s later old new plan course Shows result
  Refused : new ≡ old → later ≡ s → result ≡ Err (error ENOMEM)
      → Answers s later old new plan course Shows result

-- The same of a request that only looks. Where memory is refused for what it found, its course was run
-- to its end, and no more is known.
pub data AnswersIfRoom {P A : Type 0} (s later : Seen) (old new : Shown) (plan : Result P Failure)
    (course : P → Course (Result A Fault)) (Shows : P → A → Seen → Result Reply Failure → Type 0)
    (result : Result Reply Failure) : Type 0 where
  Answered : Answers s later old new plan course Shows result
      → AnswersIfRoom s later old new plan course Shows result
  NoRoom : (p : P) (x : A) → plan ≡ Ok p → Ran old (course p) (Ok x) new → later ≡ s
      → result ≡ Err (error ENOMEM) → AnswersIfRoom s later old new plan course Shows result
