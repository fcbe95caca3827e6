use Rattle.std.proofs.Common.{◌+◌, Option, ℕ, sym, subst, arith}
use Rattle.std.proofs.Math.ListN.{set}
use Rattle.file_shadow.specs.Steps.{Wiped}
use Rattle.file_shadow.proofs.Lying.{wiped_all, wiped_more, wiped_none}
use Rattle.file_shadow.proofs.block.wipe.Goals as goal

pub loop-i-init : goal.loop-i-init
loop-i-init c = wiped_none c.args.from c.args.out.now

pub loop-i-preserved : goal.loop-i-preserved
loop-i-preserved c = subst (λ (cell : Option ℕ). Wiped c.args.from (c.loop-i.i + 1) c.args.out.now (set c.loop-i.out c.loop-i.i cell)) (sym c.empty.ensures)
    (wiped_more c.args.from c.loop-i.i c.args.out.now c.loop-i.out c.loop-i.auto.i (omega (arith, c.requires.1, c.loop-i.auto.out)) c.loop-i.invariant)

pub returns : goal.returns
returns c = wiped_all c.args.from c.loop-i.i c.args.to c.args.out.now c.loop-i.out (omega (arith, c.loop-i-test.false, c.loop-i.auto.i-end c.requires.0)) c.loop-i.invariant
