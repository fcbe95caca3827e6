use Rattle.std.proofs.Common.{◌≡◌, ◌++◌, ◌∷◌, [], arith}
use Rattle.fuse.specs.Bodies.{forgets_in}
use Rattle.fuse.proofs.Forgotten.{first_in, goes_on, is_done}
use Rattle.fuse.proofs.forgets.each_forget.Goals as goal

pub loop-preserved : goal.loop-preserved
loop-preserved c =
    let items : c.push.new.self.items ≡ c.loop.forgets.items ++ first_in c.loop.rest.now ∷ [] = rw (← c.u64_at.ensures, ← c.u64_at-in-loop.ensures) c.in_ok-push.ensures.items in
    let all = goes_on c.loop.forgets.items c.args.count c.loop.counter c.loop.rest.now (forgets_in c.args.count c.args.bytes.now) c.loop-test.true c.loop.invariant.0 in
    (rw (items, c.split_at.ensures.back) all, omega (arith, c.loop.invariant.1, c.split_at.ensures.back_len))

pub returns : goal.returns
returns c = is_done c.loop.forgets.items c.args.count c.loop.counter c.loop.rest.now (forgets_in c.args.count c.args.bytes.now) c.loop-test.false c.loop.invariant.0
