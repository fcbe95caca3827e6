-- Requests. Each begins with a header of 40 bytes: its length, opcode, number (unique), node, uid,
-- gid, pid, and four bytes that are left out.
use Rattle.std.specs.Prelude.{◌≡◌, ℕ, ◌==◌, nat_lt, true, false, List, length, drop}
use Rattle.std.specs.Prelude.{Option, Some, None, Result, Ok, Err, IsOkAnd, if◌then◌else◌}
use Rattle.fuse.specs.declared.fault.ParseFault.{ParseFault}
use Rattle.fuse.specs.declared.fault.ParseFault.TheVariants as fault
use Rattle.fuse.specs.declared.request.Operation.{Operation}
use Rattle.fuse.specs.declared.request.Request.{Request}
use Rattle.fuse.specs.Numbers.{u32_at, u64_at}
use Rattle.fuse.specs.Operations.{is_answered, operation_in}

-- the request of these bytes, where their body asks for an operation
abbrev pub request_of : List ℕ → Option Operation → Result Request ParseFault
request_of bytes None = Err (fault.Malformed (u64_at bytes 8))
request_of bytes (Some operation) = Ok (record {
  unique = u64_at bytes 8;
  node = u64_at bytes 16;
  uid = u32_at bytes 24;
  gid = u32_at bytes 28;
  pid = u32_at bytes 32;
  operation = operation;
})

-- what these bytes are, all of them
unfoldable pub request_in : List ℕ → Result Request ParseFault
request_in bytes =
    if nat_lt (length bytes) 40 then Err fault.NoHeader
    else if u32_at bytes 0 == length bytes then
    request_of bytes (operation_in (u32_at bytes 4) (drop 40 bytes))
    else Err (fault.WrongLength (u64_at bytes 8))

-- The fault of these bytes. Where memory was refused they are a request of this number that is
-- answered, or one that is not.
abbrev pub IsFaultOf : List ℕ → ParseFault → Type 0
IsFaultOf bytes fault.NoHeader = request_in bytes ≡ Err fault.NoHeader
IsFaultOf bytes (fault.WrongLength unique) = request_in bytes ≡ Err (fault.WrongLength unique)
IsFaultOf bytes (fault.Malformed unique) = request_in bytes ≡ Err (fault.Malformed unique)
IsFaultOf bytes (fault.NoMemory unique) =
    IsOkAnd (request_in bytes)
    (λ request. (request.unique ≡ unique) × (is_answered request.operation ≡ true))
IsFaultOf bytes fault.Unanswered =
    IsOkAnd (request_in bytes) (λ request. is_answered request.operation ≡ false)

-- the result is what these bytes are
abbrev pub IsParsed : List ℕ → Result Request ParseFault → Type 0
IsParsed bytes (Ok request) = request_in bytes ≡ Ok request
IsParsed bytes (Err why) = IsFaultOf bytes why
