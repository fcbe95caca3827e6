use Rattle.shadow.proofs.edits.SetRights.{inode_there, setting_kept, setting_sound, setting_state}
use Rattle.shadow.proofs.stable.Stable.set_rights.Goals as goal

pub set_rights-requires : goal.set_rights-requires
set_rights-requires c = inode_there c.self.inside.processes c.self.inside.store c.args.inode c.args.rights c.args.self.now c.self.view_is c.requires

pub invariant_of-self : goal.invariant_of-self
invariant_of-self c = setting_sound c.self.inside.processes c.self.inside.store c.args.inode c.args.rights c.args.self.now c.self.view_is c.requires c.set_rights.new.self c.set_rights.ensures c.self.invariant

pub returns-clause-state : goal.returns-clause-state
returns-clause-state c = setting_state c.self.inside.processes c.self.inside.store c.args.inode c.args.rights c.args.self.now c.self.view_is c.requires c.set_rights.new.self c.set_rights.ensures

pub returns-clause-kept : goal.returns-clause-kept
returns-clause-kept c = setting_kept c.self.inside.processes c.self.inside.store c.args.inode c.args.rights c.args.self.now c.self.view_is c.requires c.set_rights.new.self c.set_rights.ensures
