use Rattle.fuse.proofs.Spelled.{name_found, name_only}
use Rattle.fuse.proofs.laws.names_are_told.Goals as goal

pub returns-clause-found : goal.returns-clause-found
returns-clause-found c = name_found

pub returns-clause-only : goal.returns-clause-only
returns-clause-only c = name_only
