-- The pages from here on have come: what is open in either, and the room of both.
use Rattle.fdtable.proofs.Joined.{AreTaken}
use Rattle.fdtable.proofs.pages.Pages.take_pages.Given as goal

abbrev pub invariant-loop-page : goal.invariant-loop-page
invariant-loop-page l = AreTaken l.fn.self l.fn.other l.self l.each.items

abbrev pub decreases-loop-page : goal.decreases-loop-page
decreases-loop-page l = goal.left-loop-page l
