use Rattle.freeing_laws.proofs.Pipes.{pipes_keep_their_ends_lem}
use Rattle.freeing_laws.proofs.pipes_keep_their_ends.Goals as goal

pub returns : goal.returns
returns c = pipes_keep_their_ends_lem
