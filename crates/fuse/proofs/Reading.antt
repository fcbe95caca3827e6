-- Whole requests and writes, where the tests of their lengths pass.
use Rattle.std.proofs.Common.{◌≡◌, ℕ, ◌+◌, ◌-◌, ◌≤◌, true, false, eqb, ltb, List, length, drop, Option, Some, None, Result, Ok, Err, arith, refl}
use Rattle.std.specs.Prelude.{Bool, not, IsOkAnd, IsSome}
use Rattle.std.proofs.lemmas.Bool.{eq-eqb, le-ltb}
use Rattle.fuse.specs.declared.fault.ParseFault.{ParseFault}
use Rattle.fuse.specs.declared.fault.ParseFault.TheVariants as fault
use Rattle.fuse.specs.declared.request.Operation.{Operation}
use Rattle.fuse.specs.declared.request.Operation.TheVariants as op
use Rattle.fuse.specs.declared.request.Request.{Request}
use Rattle.fuse.specs.Bodies.{write_in}
use Rattle.fuse.specs.Numbers.{u32_at, u64_at}
use Rattle.fuse.specs.Operations.{is_answered, is_silent, operation_in}
use Rattle.fuse.proofs.Answered.{Tells, operation_tells}
use Rattle.fuse.specs.Requests.{IsFaultOf, request_in, request_of}

-- a write whose size is that of the rest
pub write_told : (body : List ℕ) → 40 ≤ length body → length body - 40 ≡ u32_at body 16
    → write_in body ≡ Some (op.Write (u64_at body 0) (u64_at body 8) (u32_at body 20) (u32_at body 32) (drop 40 body))
unfolding write_in
write_told body long told =
    let enough : ltb (length body) 40 ≡ false = le-ltb (length body) 40 long in
    let same : eqb (40 + u32_at body 16) (length body) ≡ true = eq-eqb (40 + u32_at body 16) (length body) (omega arith) in
    rw (enough, same) refl

-- a request whose header tells its length
pub request_told : (bytes : List ℕ) (asked : Option Operation) → 40 ≤ length bytes → u32_at bytes 0 ≡ length bytes
    → operation_in (u32_at bytes 4) (drop 40 bytes) ≡ asked → request_in bytes ≡ request_of bytes asked
unfolding request_in
request_told bytes asked long told body =
    let enough : ltb (length bytes) 40 ≡ false = le-ltb (length bytes) 40 long in
    let same : eqb (u32_at bytes 0) (length bytes) ≡ true = eq-eqb (u32_at bytes 0) (length bytes) told in
    rw (enough, same, body) refl

-- what asks for something is a request, and is answered as that is
asked_is_request : (bytes : List ℕ) (asked : Option Operation) (b : Bool) → IsSome asked → Tells b asked
    → IsOkAnd (request_of bytes asked) (λ request. (request.unique ≡ u64_at bytes 8) × (is_answered request.operation ≡ b))
asked_is_request bytes None b some tells = cc
asked_is_request bytes (Some operation) b some tells = (refl, tells operation refl)

-- a request whose operation is known to be one
pub request_known : (bytes : List ℕ) → 40 ≤ length bytes → u32_at bytes 0 ≡ length bytes
    → IsSome (operation_in (u32_at bytes 4) (drop 40 bytes))
    → IsOkAnd (request_in bytes) (λ request. (request.unique ≡ u64_at bytes 8) × (is_answered request.operation ≡ not (is_silent (u32_at bytes 4))))
request_known bytes long told some =
    let asked : Option Operation = operation_in (u32_at bytes 4) (drop 40 bytes) in
    rw (request_told bytes asked long told refl) (asked_is_request bytes asked (not (is_silent (u32_at bytes 4))) some (operation_tells (u32_at bytes 4) (drop 40 bytes)))

-- a request that is known not to be answered
not_answered : (u : ℕ) (read : Result Request ParseFault) → IsOkAnd read (λ request. (request.unique ≡ u) × (is_answered request.operation ≡ false))
    → IsOkAnd read (λ request. is_answered request.operation ≡ false)
not_answered u (Ok request) is = is.1
not_answered u (Err why) is = absurd is

-- why it was not read, where memory was refused for it
pub refused_told : (bytes : List ℕ) (why : ParseFault) (u : ℕ) (silent : Bool)
    → IsOkAnd (request_in bytes) (λ request. (request.unique ≡ u) × (is_answered request.operation ≡ not silent))
    → (silent ≡ true → why ≡ fault.Unanswered) → (silent ≡ false → why ≡ fault.NoMemory u) → IsFaultOf bytes why
refused_told bytes why u true is no_answer answer = rw (no_answer refl) (not_answered u (request_in bytes) is)
refused_told bytes why u false is no_answer answer = rw (answer refl) is
