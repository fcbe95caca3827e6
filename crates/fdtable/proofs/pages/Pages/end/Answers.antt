use Rattle.std.proofs.Common.{arith}
use Rattle.fdtable.proofs.Paged.{seen_low, seen_room}
use Rattle.fdtable.proofs.pages.Pages.end.Goals as goal

pub returns-clause-open : goal.returns-clause-open
returns-clause-open c f some = (let low = seen_low c.self.inside.each.items c.self.inside.full.items c.self.invariant c.args.self.now c.self.view_is f some in omega (arith, low, c.self.inside.each.ok.0))

pub returns-clause-room : goal.returns-clause-room
returns-clause-room c f some = seen_room c.self.inside.each.items c.self.inside.full.items c.self.invariant c.args.self.now c.self.view_is f some
