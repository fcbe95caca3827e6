use Rattle.std.proofs.Common.{◌∙◌, Some, ap}
use Rattle.store.specs.Numbers.{present}
use Rattle.store.specs.declared.Object.TheVariants.{Pipe as A_pipe}
use Rattle.shadow.proofs.committing.PipeBytes.{pipe_beside, pipe_here}
use Rattle.shadow.proofs.laying.install_pipe.Goals as goal

pub returns-clause-here : goal.returns-clause-here
returns-clause-here c =
    pipe_here c.args.store.now c.install_as.new.self c.args.num (record c.args.pipe { bytes = c.commit_into.new.pipe }) c.install_as.ensures.installed
    ∙ ap (λ bytes. Some (present (A_pipe (record c.args.pipe { bytes = bytes })))) c.commit_into.ensures

pub returns-clause-others : goal.returns-clause-others
returns-clause-others c = pipe_beside c.args.store.now c.install_as.new.self c.args.num (record c.args.pipe { bytes = c.commit_into.new.pipe }) c.install_as.ensures.installed
