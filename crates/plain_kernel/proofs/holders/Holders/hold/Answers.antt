use Rattle.plain_kernel.proofs.Holding.{held_again}
use Rattle.plain_kernel.proofs.holders.Holders.hold.Goals as goal

pub returns-in-Err-clause-err : goal.returns-in-Err-clause-err
returns-in-Err-clause-err c = held_again c.args.self.now c.gain_ends.new.self c.gain.new.counts c.lose.new.counts c.args.description c.in_ok-gain.ensures.gained c.in-Err.ensures.err c.lose.ensures
