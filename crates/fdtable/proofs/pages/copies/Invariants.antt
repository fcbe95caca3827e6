-- As many pages as were passed are copied.
use Rattle.std.proofs.Common.{◌≡◌, take}
use Rattle.fdtable.proofs.pages.copies.Given as goal

abbrev pub invariant-loop-page : goal.invariant-loop-page
invariant-loop-page l = l.copies.items ≡ take l.page-index l.pages
