use Rattle.std.proofs.Common.{◌≡◌, ◌-◌, ◌∙◌, drop, length, arith}
use Rattle.fuse.specs.Numbers.{u32_at}
use Rattle.fuse.proofs.Reading.{write_told}
use Rattle.fuse.proofs.bodies.write_in.Goals as goal

pub returns-in-Ok : goal.returns-in-Ok
returns-in-Ok c =
    let body = c.args.body.now in
    let told : length body - 40 ≡ u32_at body 16 = omega (arith, c.if-body-u32_at.false, c.u32_at.ensures) in
    let bytes : c.in-Ok.bytes ≡ drop 40 body = c.in-Ok.ensures ∙ c.split_at.ensures.back in
    rw (bytes, c.u64_at.ensures, c.u64_at-in-Ok.ensures, c.u32_at-in-Ok.ensures, c.u32_at-in-Ok-2.ensures) (write_told body (omega arith) told)
