use Rattle.fuse.proofs.Lengths.{length-attr_reply_bytes, length-entry_bytes, length-init_bytes, length-opened_bytes, length-statfs_bytes}
use Rattle.fuse.proofs.laws.bodies_have_their_lengths.Goals as goal

pub returns-clause-entry : goal.returns-clause-entry
returns-clause-entry c = length-entry_bytes

pub returns-clause-attr : goal.returns-clause-attr
returns-clause-attr c = length-attr_reply_bytes

pub returns-clause-opened : goal.returns-clause-opened
returns-clause-opened c = length-opened_bytes

pub returns-clause-statfs : goal.returns-clause-statfs
returns-clause-statfs c = length-statfs_bytes

pub returns-clause-init : goal.returns-clause-init
returns-clause-init c = length-init_bytes
