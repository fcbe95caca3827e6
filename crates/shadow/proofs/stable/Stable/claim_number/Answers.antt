use Rattle.std.proofs.Common.{false, true, ap, sym}
use Rattle.shadow.specs.Claims.{kinds_in}
use Rattle.model.specs.Changes.{news}
use Rattle.shadow.proofs.claims.NewNumbers.{err_added, ok_claimed}
use Rattle.shadow.proofs.stable.Stable.claim_number.Goals as goal

pub returns-in-MakeDirectory-clause-ok : goal.returns-in-MakeDirectory-clause-ok
returns-in-MakeDirectory-clause-ok c = ok_claimed c.reserve.result c.args.self.now c.reserve.new.self true c.args.edit.now c.args.chosen.now c.reserve.new.chosen (sym (ap news c.in-MakeDirectory.is)) (ap kinds_in c.in-MakeDirectory.is) c.reserve.ensures.ok

pub returns-in-MakeDirectory-clause-err : goal.returns-in-MakeDirectory-clause-err
returns-in-MakeDirectory-clause-err c = err_added c.reserve.result c.args.self.now c.reserve.new.self c.args.chosen.now c.reserve.new.chosen c.reserve.ensures.err c.reserve.ensures.same

pub returns-in-MakeFile-clause-ok : goal.returns-in-MakeFile-clause-ok
returns-in-MakeFile-clause-ok c = ok_claimed c.reserve-in-MakeFile.result c.args.self.now c.reserve-in-MakeFile.new.self false c.args.edit.now c.args.chosen.now c.reserve-in-MakeFile.new.chosen (sym (ap news c.in-MakeFile.is)) (ap kinds_in c.in-MakeFile.is) c.reserve-in-MakeFile.ensures.ok

pub returns-in-MakeFile-clause-err : goal.returns-in-MakeFile-clause-err
returns-in-MakeFile-clause-err c = err_added c.reserve-in-MakeFile.result c.args.self.now c.reserve-in-MakeFile.new.self c.args.chosen.now c.reserve-in-MakeFile.new.chosen c.reserve-in-MakeFile.ensures.err c.reserve-in-MakeFile.ensures.same

pub returns-in-MakeFixed-clause-ok : goal.returns-in-MakeFixed-clause-ok
returns-in-MakeFixed-clause-ok c = ok_claimed c.reserve-in-MakeFixed.result c.args.self.now c.reserve-in-MakeFixed.new.self false c.args.edit.now c.args.chosen.now c.reserve-in-MakeFixed.new.chosen (sym (ap news c.in-MakeFixed.is)) (ap kinds_in c.in-MakeFixed.is) c.reserve-in-MakeFixed.ensures.ok

pub returns-in-MakeFixed-clause-err : goal.returns-in-MakeFixed-clause-err
returns-in-MakeFixed-clause-err c = err_added c.reserve-in-MakeFixed.result c.args.self.now c.reserve-in-MakeFixed.new.self c.args.chosen.now c.reserve-in-MakeFixed.new.chosen c.reserve-in-MakeFixed.ensures.err c.reserve-in-MakeFixed.ensures.same

pub returns-in-OpenInode-clause-ok : goal.returns-in-OpenInode-clause-ok
returns-in-OpenInode-clause-ok c = ok_claimed c.reserve-in-OpenInode.result c.args.self.now c.reserve-in-OpenInode.new.self false c.args.edit.now c.args.chosen.now c.reserve-in-OpenInode.new.chosen (sym (ap news c.in-OpenInode.is)) (ap kinds_in c.in-OpenInode.is) c.reserve-in-OpenInode.ensures.ok

pub returns-in-OpenInode-clause-err : goal.returns-in-OpenInode-clause-err
returns-in-OpenInode-clause-err c = err_added c.reserve-in-OpenInode.result c.args.self.now c.reserve-in-OpenInode.new.self c.args.chosen.now c.reserve-in-OpenInode.new.chosen c.reserve-in-OpenInode.ensures.err c.reserve-in-OpenInode.ensures.same
