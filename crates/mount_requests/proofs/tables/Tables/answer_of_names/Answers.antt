use Rattle.mount_requests.specs.Seen.{seen}
use Rattle.mount_requests.proofs.Answering.{answers_names}
use Rattle.mount_requests.proofs.tables.Tables.answer_of_names.Goals as goal

pub returns-in-MkNod-clause-answers : goal.returns-in-MkNod-clause-answers
returns-in-MkNod-clause-answers g c = answers_names (seen c.args.self.now) (seen c.make_node.new.self) c.args.hand.now.pid c.args.caller _ _ _ c.in-MkNod.is c.make_node.ensures.answers

pub returns-in-SymLink-clause-answers : goal.returns-in-SymLink-clause-answers
returns-in-SymLink-clause-answers g c = answers_names (seen c.args.self.now) (seen c.make_link.new.self) c.args.hand.now.pid c.args.caller _ _ _ c.in-SymLink.is c.make_link.ensures.answers

pub returns-in-MkDir-clause-answers : goal.returns-in-MkDir-clause-answers
returns-in-MkDir-clause-answers g c = answers_names (seen c.args.self.now) (seen c.make_directory.new.self) c.args.hand.now.pid c.args.caller _ _ _ c.in-MkDir.is c.make_directory.ensures.answers

pub returns-in-Create-clause-answers : goal.returns-in-Create-clause-answers
returns-in-Create-clause-answers g c =
    let h = rw c.creation_by-creation.ensures at c.create.ensures.answers in
    answers_names (seen c.args.self.now) (seen c.create.new.self) c.args.hand.now.pid c.args.caller _ _ _ c.in-Create.is h

pub returns-in-Link-clause-answers : goal.returns-in-Link-clause-answers
returns-in-Link-clause-answers g c = answers_names (seen c.args.self.now) (seen c.link.new.self) c.args.hand.now.pid c.args.caller _ _ _ c.in-Link.is c.link.ensures.answers

pub returns-in-Unlink-clause-answers : goal.returns-in-Unlink-clause-answers
returns-in-Unlink-clause-answers g c = answers_names (seen c.args.self.now) (seen c.unlink.new.self) c.args.hand.now.pid c.args.caller _ _ _ c.in-Unlink.is c.unlink.ensures.answers

pub returns-in-RmDir-clause-answers : goal.returns-in-RmDir-clause-answers
returns-in-RmDir-clause-answers g c = answers_names (seen c.args.self.now) (seen c.remove_directory.new.self) c.args.hand.now.pid c.args.caller _ _ _ c.in-RmDir.is c.remove_directory.ensures.answers

pub returns-in-Rename-clause-answers : goal.returns-in-Rename-clause-answers
returns-in-Rename-clause-answers g c = answers_names (seen c.args.self.now) (seen c.rename.new.self) c.args.hand.now.pid c.args.caller _ _ _ c.in-Rename.is c.rename.ensures.answers
