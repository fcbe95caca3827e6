use Rattle.mount_requests.specs.Seen.{seen}
use Rattle.mount_requests.proofs.Answering.{answers}
use Rattle.mount_requests.proofs.tables.Tables.answer.Goals as goal

pub returns-in-Lookup-clause-answers : goal.returns-in-Lookup-clause-answers
returns-in-Lookup-clause-answers g c = answers (seen c.args.self.now) (seen c.look_up.new.self) c.args.hand.now.pid c.args.caller _ _ _ c.in-Lookup.is c.look_up.ensures.answers

pub returns-in-GetAttr-clause-answers : goal.returns-in-GetAttr-clause-answers
returns-in-GetAttr-clause-answers g c = answers (seen c.args.self.now) (seen c.get_attr.new.self) c.args.hand.now.pid c.args.caller _ _ _ c.in-GetAttr.is c.get_attr.ensures.answers

pub returns-in-SetAttr-clause-answers : goal.returns-in-SetAttr-clause-answers
returns-in-SetAttr-clause-answers g c = answers (seen c.args.self.now) (seen c.set_attr.new.self) c.args.hand.now.pid c.args.caller _ _ _ c.in-SetAttr.is c.set_attr.ensures.answers

pub returns-in-OpenDir-clause-answers : goal.returns-in-OpenDir-clause-answers
returns-in-OpenDir-clause-answers g c = answers (seen c.args.self.now) (seen c.open_folder.new.self) c.args.hand.now.pid c.args.caller _ _ _ c.in-OpenDir.is c.open_folder.ensures.answers

pub returns-in-ReadDir-clause-answers : goal.returns-in-ReadDir-clause-answers
returns-in-ReadDir-clause-answers g c = answers (seen c.args.self.now) (seen c.read_folder.new.self) c.args.hand.now.pid c.args.caller _ _ _ c.in-ReadDir.is c.read_folder.ensures.answers

pub returns-in-ReadLink-clause-answers : goal.returns-in-ReadLink-clause-answers
returns-in-ReadLink-clause-answers g c = answers (seen c.args.self.now) (seen c.read_link.new.self) c.args.hand.now.pid c.args.caller _ _ _ c.in-ReadLink.is c.read_link.ensures.answers
