-- What is forgotten so far, and what is forgotten of the others, is all.
use Rattle.std.proofs.Common.{◌≡◌, drop}
use Rattle.mount_requests.specs.Seen.{seen}
use Rattle.mounted.specs.Served.{with_forgets}
use Rattle.mounted.proofs.serving.Serving.forget_all.Given as goal

abbrev pub invariant-loop-forget : goal.invariant-loop-forget
invariant-loop-forget g l =
    (l.self.hand ≡ l.fn.self.hand)
    × (with_forgets (seen l.self.tables) (drop l.forget-index l.fn.forgets) ≡ with_forgets (seen l.fn.self.tables) l.fn.forgets)
