use Rattle.std.proofs.Common.{◌≡◌, ◌≢◌, ◌+◌, ◌<◌, ℕ, None, subst, arith}
use Rattle.model.specs.FiniteMap.{get}
use Rattle.fdtable.specs.Pages.{HasRoom}
use Rattle.fdtable.proofs.Searched.{room_all, room_next}
use Rattle.fdtable.proofs.room.SlotRoom.like.Goals as goal

pub loop-fd-preserved : goal.loop-fd-preserved
loop-fd-preserved c =
    let next : c.in-Some.fd + 1 ≡ c.fd.inside.0 + 1 = omega (arith, c.fd.view_is) in
    subst (λ (n : ℕ). (g : ℕ) → g < n → get c.args.table.now g ≢ None → HasRoom c.promise.new.self g) next
    (room_next c.args.table.now c.loop-fd.room c.promise.new.self c.loop-fd.from c.in-Some.fd c.loop-fd.invariant c.in-Some.ensures.value c.in_ok-promise.ensures.ok c.promise.ensures.kept)

pub returns : goal.returns
returns c = room_all c.args.table.now c.loop-fd.room c.loop-fd.from c.loop-fd.invariant c.in_default.ensures.value
