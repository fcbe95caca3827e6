-- Why bytes are no request, and what is answered.
use Rattle.std.specs.Prelude.{◌≡◌, ℕ, Option, Some, None, IsSome, Result, Ok, Err}
use Rattle.fuse.specs.declared.errno.Errno.{Errno}
use Rattle.fuse.specs.declared.errno.Errno.TheVariants as errno
use Rattle.fuse.specs.declared.fault.BodyFault.{BodyFault}
use Rattle.fuse.specs.declared.fault.BodyFault.TheVariants as body_fault
use Rattle.fuse.specs.declared.fault.ParseFault.{ParseFault}
use Rattle.fuse.specs.declared.fault.ParseFault.TheVariants as fault

-- the request to answer and the error: EIO for a length that lies, EINVAL for a body, ENOMEM where
-- a reply is waited for
abbrev pub answer_to : ParseFault → Option (ℕ × Errno)
answer_to fault.NoHeader = None
answer_to (fault.WrongLength unique) = Some (unique, errno.EIO)
answer_to (fault.Malformed unique) = Some (unique, errno.EINVAL)
answer_to (fault.NoMemory unique) = Some (unique, errno.ENOMEM)
answer_to fault.Unanswered = None

-- The result is what the bytes of a body ask. Malformed comes only where they ask nothing, and
-- NoMemory only where they ask something.
abbrev pub Reads : {A : Type 0} → Option A → Result A BodyFault → Type 0
Reads asked (Ok value) = asked ≡ Some value
Reads asked (Err why) =
    (why ≡ body_fault.Malformed → asked ≡ None) × (why ≡ body_fault.NoMemory → IsSome asked)
