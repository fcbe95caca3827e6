-- Files that went were closed, and all others stand.
use Rattle.std.proofs.Common.{◌≡◌}
use Rattle.model.specs.FiniteMap as map
use Rattle.course.specs.Hands.{bound}
use Rattle.mount_requests.specs.Seen.{seen}
use Rattle.mounted.specs.Controls.{OnlyFiles}
use Rattle.mounted.proofs.Closing.{AreLeft, ClosedSoFar}
use Rattle.mounted.proofs.serving.Serving.close_all.Given as goal

abbrev pub invariant-loop-handle : goal.invariant-loop-handle
invariant-loop-handle g l =
    (bound l.self.hand ≡ bound l.fn.self.hand)
    × AreLeft (seen l.fn.self.tables) (seen l.self.tables) l.fn.view
    × OnlyFiles (seen l.fn.self.tables) (seen l.self.tables)
    × ClosedSoFar l.fn.is_open (seen l.fn.self.tables) (seen l.self.tables) l.fn.view l.fn.pid l.fn.self.hand.pid l.all l.fn.self.hand.shown l.self.hand.shown

abbrev pub decreases-loop-handle : goal.decreases-loop-handle
decreases-loop-handle g l = map.len l.self.tables.files.each
