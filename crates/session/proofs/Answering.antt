-- What is written for a message answers the request that is to be answered, if any.
use Rattle.std.proofs.Common.{◌≡◌, ℕ, Bool, true, false, List, [], ◌∷◌, ◌++◌, Option, Some, None, Result, Ok, Err, refl}
use Rattle.std.specs.Prelude.{IsOkAnd, flat_map, if◌then◌else◌, is_some}
use Rattle.fuse.specs.declared.errno.Errno.{Errno}
use Rattle.fuse.specs.declared.errno.Errno.TheVariants as errno
use Rattle.fuse.specs.declared.fault.ParseFault.{ParseFault}
use Rattle.fuse.specs.declared.fault.ParseFault.TheVariants as fault
use Rattle.fuse.specs.declared.reply.Reply.{Reply}
use Rattle.fuse.specs.declared.reply.Reply.TheVariants as reply
use Rattle.fuse.specs.declared.request.Request.{Request}
use Rattle.fuse.specs.Faults.{answer_to}
use Rattle.fuse.specs.Operations.{is_answered}
use Rattle.fuse.specs.Replies.{body_of, error_of, reply_bytes}
use Rattle.fuse.specs.Requests.{IsFaultOf, request_in}
use Rattle.session.specs.Sessions.{Answered, AnswersEach, Handles, IsReplyTo, Refused, Served, Session, due, due_of, number_of, refusals, replies, sent}

-- the bytes of a reply are one to the request of its number
is_reply : (unique : ℕ) (r : Reply) → IsReplyTo unique (reply_bytes unique r)
is_reply unique r = record { error = error_of r; body = body_of r; is = refl }

-- an error answers the request of its number
refusals_due : (answer : Option (ℕ × Errno)) → AnswersEach (number_of answer) (refusals answer)
refusals_due None = tt
refusals_due (Some answer) = (is_reply answer.0 (reply.Error answer.1), tt)

-- there is a reply where one is due
replies_due : (unique : ℕ) (r : Option Reply) (b : Bool) → is_some r ≡ b
    → AnswersEach (if b then unique ∷ [] else []) (replies unique r)
replies_due unique None true e = absurd cc
replies_due unique None false e = tt
replies_due unique (Some r) true e = (is_reply unique (sent r), tt)
replies_due unique (Some r) false e = absurd cc

-- a request for which memory was refused, where it is answered
refused_due : (u : ℕ) (read : Result Request ParseFault)
    → IsOkAnd read (λ request. (request.unique ≡ u) × (is_answered request.operation ≡ true))
    → AnswersEach (due_of read) (refusals (Some (u, errno.ENOMEM)))
refused_due u (Ok request) is = rw (is.1, is.0) (refusals_due (Some (u, errno.ENOMEM)))
refused_due u (Err why) is = absurd is

-- and where it is not
unanswered_due : (read : Result Request ParseFault) → IsOkAnd read (λ request. is_answered request.operation ≡ false)
    → AnswersEach (due_of read) []
unanswered_due (Ok request) is = rw is tt
unanswered_due (Err why) is = absurd is

fault_due : (heard : List ℕ) (why : ParseFault) → IsFaultOf heard why → AnswersEach (due heard) (refusals (answer_to why))
fault_due heard fault.NoHeader is = rw is tt
fault_due heard (fault.WrongLength u) is = rw is (refusals_due (answer_to (fault.WrongLength u)))
fault_due heard (fault.Malformed u) is = rw is (refusals_due (answer_to (fault.Malformed u)))
fault_due heard (fault.NoMemory u) is = refused_due u (request_in heard) is
fault_due heard fault.Unanswered is = unanswered_due (request_in heard) is

pub handled_due : {S : Type 0} (serves : S → Request → Option Reply → S → Type 0) (old new : S) (heard : List ℕ) (said : List (List ℕ))
    → Handles serves old heard said new → AnswersEach (due heard) said
handled_due serves old new heard said (Served request r is s answered says) = rw (is, says) (replies_due request.unique r (is_answered request.operation) answered)
handled_due serves old new heard said (Refused why is same says) = rw says (fault_due heard why is)

-- answers to these requests and to those
both_due : (us vs : List ℕ) (ms ns : List (List ℕ)) → AnswersEach us ms → AnswersEach vs ns → AnswersEach (us ++ vs) (ms ++ ns)
both_due [] vs [] ns h k = k
both_due [] vs (m ∷ ms) ns h k = absurd h
both_due (u ∷ us) vs [] ns h k = absurd h
both_due (u ∷ us) vs (m ∷ ms) ns h k = (h.0, both_due us vs ms ns h.1 k)

-- in a session each message that is to be answered is
pub session_answers : {S : Type 0} (serves : S → Request → Option Reply → S → Type 0) (old new : S) (heard said : List (List ℕ))
    → Session serves old heard said new → Answered heard said
session_answers serves old new [] said s = rw s.0 tt
session_answers serves old new (m ∷ rest) said s =
    rw s.3 (both_due (due m) (flat_map due rest) s.1 s.2 (handled_due serves old s.0 m s.1 s.4) (session_answers serves s.0 new rest s.2 s.5))
