use Rattle.fuse.specs.Replies.{body_of, error_of}
use Rattle.fuse.proofs.Messages.{length_told}
use Rattle.fuse.proofs.laws.length_is_told.Goals as goal

pub returns : goal.returns
returns c = λ unique reply fits. length_told unique (error_of reply) (body_of reply) fits
