use Rattle.shadow.proofs.claims.Rooms.{promised_none, promised_one, room_there}
use Rattle.shadow.proofs.stable.Stable.unpromise_in.Goals as goal

pub unpromise-requires : goal.unpromise-requires
unpromise-requires c = room_there c.args.self.now c.in-Some.dir c.args.dir c.in-Some.is c.requires

pub returns-in-Some-clause-kept : goal.returns-in-Some-clause-kept
returns-in-Some-clause-kept c = promised_one c.unpromise.new.self c.args.self.now c.in-Some.dir c.args.dir c.in-Some.is c.unpromise.ensures.kept

pub returns-in-None-clause-kept : goal.returns-in-None-clause-kept
returns-in-None-clause-kept c = promised_none c.args.self.now c.args.dir c.in-None.is
