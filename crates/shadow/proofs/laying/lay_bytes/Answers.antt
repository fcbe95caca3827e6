use Rattle.shadow.proofs.committing.FileBytes.{over_beside, still_file, written_over}
use Rattle.shadow.proofs.laying.lay_bytes.Goals as goal

pub swap_file-empty-requires : goal.swap_file-empty-requires
swap_file-empty-requires c =
    still_file c.args.store.now c.swap_file-file.new.self c.swap_file-file.new.self c.args.num c.new.result c.new.result c.swap_file-file.ensures.swapped
    c.requires.ready.0 c.requires.ready.1

pub returns-clause-here : goal.returns-clause-here
returns-clause-here c =
    written_over c.args.store.now c.swap_file-file.new.self c.swap_file-empty.new.self c.args.num c.new.result c.commit_into.new.file c.swap_file-file.ensures.swapped
    c.requires.ready.0 c.requires.ready.1 c.args.bytes c.swap_file-file.result c.swap_file-empty.ensures.swapped c.swap_file-file.ensures.former
    c.commit_into.ensures.bytes

pub returns-clause-others : goal.returns-clause-others
returns-clause-others c =
    over_beside c.args.store.now c.swap_file-file.new.self c.swap_file-empty.new.self c.args.num c.new.result c.commit_into.new.file c.swap_file-file.ensures.swapped
    c.swap_file-empty.ensures.swapped
