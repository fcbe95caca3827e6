use Rattle.shadow.proofs.committing.PipeBytes.{passed_beside, passed_over, pipe_roomy}
use Rattle.shadow.proofs.laying.lay_pipe.Goals as goal

pub change_pipe-requires : goal.change_pipe-requires
change_pipe-requires c =
    pipe_roomy c.args.store.now c.args.num c.args.changes.now c.requires.ready c.pipe_len.result c.split-taken.result.0 c.split-taken.result.1.now
    c.pipe_len.ensures.len c.pipe_len.ensures.within c.split-taken.ensures.taken c.split-taken.ensures.view

pub returns-clause-here : goal.returns-clause-here
returns-clause-here c =
    passed_over c.args.store.now c.args.num c.args.changes.now c.requires.ready c.pipe_len.result c.split-taken.result.0 c.split-taken.result.1.now
    c.pipe_len.ensures.len c.pipe_len.ensures.within c.split-taken.ensures.taken c.split-taken.ensures.view
    c.change_pipe.new.self c.change_pipe.ensures.changed

pub returns-clause-others : goal.returns-clause-others
returns-clause-others c =
    passed_beside c.args.store.now c.args.num c.args.changes.now c.requires.ready c.pipe_len.result c.split-taken.result.0 c.split-taken.result.1.now
    c.pipe_len.ensures.len c.pipe_len.ensures.within c.split-taken.ensures.taken c.split-taken.ensures.view
    c.change_pipe.new.self c.change_pipe.ensures.changed
