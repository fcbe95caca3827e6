use Rattle.shadow.proofs.committing.FileBytes.{new_beside, written_new}
use Rattle.shadow.proofs.laying.install_file.Goals as goal

pub returns-clause-here : goal.returns-clause-here
returns-clause-here c =
    written_new c.args.store.now c.install_as.new.self c.args.num c.commit_into.new.file c.install_as.ensures.installed
    c.args.bytes c.new-data.result.bytes c.requires.ready c.new-data.ensures c.commit_into.ensures.bytes

pub returns-clause-others : goal.returns-clause-others
returns-clause-others c = new_beside c.args.store.now c.install_as.new.self c.args.num c.commit_into.new.file c.install_as.ensures.installed
