use Rattle.freeing_laws.proofs.Openings.{openings_change_lem}
use Rattle.freeing_laws.proofs.openings_change.Goals as goal

pub returns : goal.returns
returns c = openings_change_lem
