-- What is written in a session, by what is read.
use Rattle.std.specs.Prelude.{◌≡◌, ℕ, List, [], ◌∷◌, ◌++◌, flat_map, length, nat_le}
use Rattle.std.specs.Prelude.{Bool, true, Option, Some, None, is_some, Result, Ok, Err}
use Rattle.std.specs.Prelude.{if◌then◌else◌}
use Rattle.fuse.specs.declared.errno.Errno.{Errno}
use Rattle.fuse.specs.declared.errno.Errno.TheVariants as errno
use Rattle.fuse.specs.declared.fault.ParseFault.{ParseFault}
use Rattle.fuse.specs.declared.reply.Reply.{Reply}
use Rattle.fuse.specs.declared.reply.Reply.TheVariants as reply
use Rattle.fuse.specs.declared.request.Request.{Request}
use Rattle.fuse.specs.Faults.{answer_to}
use Rattle.fuse.specs.Operations.{is_answered}
use Rattle.fuse.specs.Replies.{message, reply_bytes}
use Rattle.fuse.specs.Requests.{IsFaultOf, request_in}
use Rattle.session.specs.Messages.{with_messages}

-- ---- which messages are answered

-- a number, where there is an answer
abbrev pub number_of : Option (ℕ × Errno) → List ℕ
number_of None = []
number_of (Some answer) = answer.0 ∷ []

-- The number of the request that is to be answered: of one that is answered its own, and of bytes
-- that are no request what their fault tells.
abbrev pub due_of : Result Request ParseFault → List ℕ
due_of (Ok request) = if is_answered request.operation then request.unique ∷ [] else []
due_of (Err why) = number_of (answer_to why)

abbrev pub due : List ℕ → List ℕ
due heard = due_of (request_in heard)

-- a reply to the request of this number: its length, an error or 0, that number, and a body
pub record IsReplyTo (unique : ℕ) (said : List ℕ) : Type 0 where
  pub error : ℕ
  pub body : List ℕ
  pub is : said ≡ message unique error body

-- one reply to each of these requests, in order, and none else
abbrev pub AnswersEach : List ℕ → List (List ℕ) → Type 0
AnswersEach [] [] = Unit {0}
AnswersEach (unique ∷ others) (said ∷ more) = IsReplyTo unique said × AnswersEach others more
AnswersEach _ _ = ⊥

-- Of the messages that were read each that is to be answered has one reply among those that were
-- written, in order, and none else was written.
abbrev pub Answered : List (List ℕ) → List (List ℕ) → Type 0
Answered heard said = AnswersEach (flat_map due heard) said

-- ---- what is answered

-- whether a reply has no more bytes than a request may ask for
abbrev pub is_short : Reply → Bool
is_short (reply.Data bytes) = nat_le (length bytes) 1048576
is_short (reply.Directory listing) = nat_le (length listing.bytes) 1048576
is_short _ = true

-- a longer one is told as an error
abbrev pub sent : Reply → Reply
sent r = if is_short r then r else reply.Error errno.EIO

-- the message for a reply, where there is one
abbrev pub replies : ℕ → Option Reply → List (List ℕ)
replies unique None = []
replies unique (Some r) = reply_bytes unique (sent r) ∷ []

-- the message for an error, where there is somebody to answer
abbrev pub refusals : Option (ℕ × Errno) → List (List ℕ)
refusals None = []
refusals (Some answer) = reply_bytes answer.0 (reply.Error answer.1) ∷ []

-- A message was handled. A request is served, and its reply is what is written. What is no request,
-- or one for which memory is refused, changes nothing, and its fault says what is answered.
pub data Handles {S : Type 0} (serves : S → Request → Option Reply → S → Type 0) (old : S)
    (heard : List ℕ) (said : List (List ℕ)) (new : S) : Type 0 where
  Served : (request : Request) (r : Option Reply) → request_in heard ≡ Ok request
      → serves old request r new → is_some r ≡ is_answered request.operation
      → said ≡ replies request.unique r → Handles serves old heard said new
  Refused : (why : ParseFault) → IsFaultOf heard why → new ≡ old
      → said ≡ refusals (answer_to why) → Handles serves old heard said new

-- the same, where the channel knows what was written before and after
pub record IsHandled {S : Type 0} (serves : S → Request → Option Reply → S → Type 0) (old new : S)
    (heard : List ℕ) (said_before said_after : Option (List (List ℕ))) : Type 0 where
  pub said : List (List ℕ)
  pub writes : said_after ≡ with_messages said_before said
  pub handles : Handles serves old heard said new

-- messages were handled one after the other
abbrev pub Session : {S : Type 0} → (S → Request → Option Reply → S → Type 0) → S
    → List (List ℕ) → List (List ℕ) → S → Type 0
Session serves old [] said new = (said ≡ []) × (new ≡ old)
Session {S} serves old (heard ∷ rest) said new =
    (mid : S) × (first others : List (List ℕ)) × (said ≡ first ++ others)
    × Handles serves old heard first mid × Session serves mid rest others new

-- From one state of a service to another a session went on: these messages were read and those
-- written, which is what the channel knows of them before and after.
pub record GoesOn {S : Type 0} (serves : S → Request → Option Reply → S → Type 0) (old new : S)
    (heard_before heard_after said_before said_after : Option (List (List ℕ))) : Type 0 where
  pub heard : List (List ℕ)
  pub said : List (List ℕ)
  pub reads : heard_after ≡ with_messages heard_before heard
  pub writes : said_after ≡ with_messages said_before said
  pub session : Session serves old heard said new
  pub answered : Answered heard said
