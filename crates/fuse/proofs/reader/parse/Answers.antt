use Rattle.std.proofs.Common.{◌≡◌, drop, length, Some, None, arith}
use Rattle.fuse.specs.Numbers.{u32_at, u64_at}
use Rattle.fuse.specs.Operations.{is_silent, operation_in}
use Rattle.std.specs.Prelude.{IsSome}
use Rattle.fuse.proofs.Reading.{refused_told, request_known, request_told}
use Rattle.fuse.proofs.reader.parse.Goals as goal

pub returns-in-Ok : goal.returns-in-Ok
returns-in-Ok c =
    let bytes = c.args.bytes.now in
    let told : u32_at bytes 0 ≡ length bytes = omega (arith, c.if-u32_at-bytes.false, c.u32_at.ensures) in
    let body : operation_in (u32_at bytes 4) (drop 40 bytes) ≡ Some c.in-Ok.operation = rw (c.u32_at-opcode.ensures, c.split_at.ensures.back) at c.in-Ok.ensures in
    rw (c.u64_at-unique.ensures, c.u64_at.ensures, c.u32_at-in-Ok.ensures, c.u32_at-in-Ok-2.ensures, c.u32_at-in-Ok-3.ensures) (request_told bytes (Some c.in-Ok.operation) (omega arith) told body)

pub returns-in-Err-Malformed : goal.returns-in-Err-Malformed
returns-in-Err-Malformed c =
    let bytes = c.args.bytes.now in
    let told : u32_at bytes 0 ≡ length bytes = omega (arith, c.if-u32_at-bytes.false, c.u32_at.ensures) in
    let none : operation_in c.u32_at-opcode.result c.split_at.result.1.now ≡ None = c.in-Err-Malformed.ensures.0 cc in
    let body : operation_in (u32_at bytes 4) (drop 40 bytes) ≡ None = rw (c.u32_at-opcode.ensures, c.split_at.ensures.back) at none in
    rw c.u64_at-unique.ensures (request_told bytes None (omega arith) told body)

pub returns-in-Err-NoMemory : goal.returns-in-Err-NoMemory
returns-in-Err-NoMemory c =
    let bytes = c.args.bytes.now in
    let told : u32_at bytes 0 ≡ length bytes = omega (arith, c.if-u32_at-bytes.false, c.u32_at.ensures) in
    let some : IsSome (operation_in c.u32_at-opcode.result c.split_at.result.1.now) = c.in-Err-NoMemory.ensures.1 cc in
    let body : IsSome (operation_in (u32_at bytes 4) (drop 40 bytes)) = rw (c.u32_at-opcode.ensures, c.split_at.ensures.back) at some in
    refused_told bytes c.no_memory.result (u64_at bytes 8) (is_silent (u32_at bytes 4)) (request_known bytes (omega arith) told body)
    (rw c.u32_at-opcode.ensures at c.no_memory.ensures.silent) (rw (c.u32_at-opcode.ensures, c.u64_at-unique.ensures) at c.no_memory.ensures.answered)
