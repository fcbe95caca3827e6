use Rattle.std.proofs.Common.{arith, refl, sym}
use Rattle.mount_requests.proofs.Telling.{adds, adds_told, entry_is, too_long}
use Rattle.mount_requests.proofs.lists.add_entry.Goals as goal

pub returns-then-name-clause-fitted : goal.returns-then-name-clause-fitted
returns-then-name-clause-fitted c = sym (too_long c.args.list.now c.args.index c.args.name.now (omega (arith, c.if-name.true, c.requires.size)))

pub returns-then-name-clause-ok : goal.returns-then-name-clause-ok
returns-then-name-clause-ok c = sym (adds c.args.list.now _ (too_long c.args.list.now c.args.index c.args.name.now (omega (arith, c.if-name.true, c.requires.size))))

pub returns-clause-fitted : goal.returns-clause-fitted
returns-clause-fitted c = (adds_told c.add.result c.args.list.now c.add.new.self (entry_is _ c.args.index c.args.name.now refl refl refl refl) c.add.ensures.fitted c.add.ensures.ok).0

pub returns-clause-ok : goal.returns-clause-ok
returns-clause-ok c = (adds_told c.add.result c.args.list.now c.add.new.self (entry_is _ c.args.index c.args.name.now refl refl refl refl) c.add.ensures.fitted c.add.ensures.ok).1
