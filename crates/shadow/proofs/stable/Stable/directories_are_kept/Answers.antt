use Rattle.std.proofs.Common.{subst}
use Rattle.shadow.specs.Looks.{DirectoriesAreKept}
use Rattle.shadow.proofs.shared.CommittedLemmas.{directories_kept}
use Rattle.shadow.proofs.stable.Stable.directories_are_kept.Goals as goal

pub returns : goal.returns
returns c = subst DirectoriesAreKept c.self.view_is (directories_kept c.self.inside.processes c.self.inside.store)
