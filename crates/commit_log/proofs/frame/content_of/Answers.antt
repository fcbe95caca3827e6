use Rattle.std.proofs.Common.{rules, append_assoc}
use Rattle.commit_log.specs.Frame.{content}
use Rattle.commit_log.proofs.frame.content_of.Goals as goal

pub returns : goal.returns
unfolding content
returns c = search (rules, append_assoc)
