use Rattle.std.proofs.Common.{◌-◌, ◌≤◌, get_or, arith}
use Rattle.replay.proofs.Seen.{same_read, seen_before, seen_in}
use Rattle.replay.proofs.window.Window.entry.Goals as goal

pub returns-then-position-self : goal.returns-then-position-self
returns-then-position-self c es shows sees = seen_before es c.args.self.now c.args.position shows sees c.if-position-self.true _ c.get.ensures

pub returns-then-index-self : goal.returns-then-index-self
returns-then-index-self c es shows sees =
    let w = c.args.self.now in
    let behind : w.offset ≤ c.args.position = c.if-position-self.false in
    let d = get_or w.part.now (c.args.position - w.offset) c.index-self-index.result in
    seen_in es w c.args.position (c.args.position - w.offset) d shows (omega (arith, behind)) c.if-index-self.true (same_read w.part.now (c.args.position - w.offset) c.index-self-index.result d c.if-index-self.true)
