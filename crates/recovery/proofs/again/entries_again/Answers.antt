use Rattle.std.proofs.Common.{arith, sym}
use Rattle.std.proofs.lemmas.List.{take_all}
use Rattle.std.proofs.lemmas.List.Elements.{All-nil, All-same, recursion_from_All}
use Rattle.entry_codec.proofs.Putting.{more_fit}
use Rattle.store_form.specs.Stores.{IsOfChange}
use Rattle.recovery.proofs.Coming.{tells_all, tells_none, tells_upto}
use Rattle.recovery.proofs.again.entries_again.Goals as goal

pub loop-entry-init : goal.loop-entry-init
loop-entry-init g c = record {
  kept = c.requires;
  tells = tells_none (g.M.Machine.shown c.args.machine.now).log;
  are = All-nil IsOfChange;
}

pub loop-entry-preserved : goal.loop-entry-preserved
loop-entry-preserved g c = record {
  kept = c.entry_again.ensures.kept;
  tells = tells_upto (g.M.Machine.shown c.args.machine.now).log (g.M.Machine.shown c.loop-entry.machine).log (g.M.Machine.shown c.entry_again.new.machine).log c.args.entries.now c.loop-entry.entry-index c.entry-item.result (omega arith) c.entry-item.is
      c.loop-entry.invariant.tells c.in_ok-entry_again.ensures.tells;
  are = more_fit IsOfChange c.args.entries.now c.loop-entry.entry-index c.entry-item.result (omega arith) c.entry-item.is c.loop-entry.invariant.are c.in_ok-entry_again.ensures.is;
}

pub returns-clause-tells : goal.returns-clause-tells
returns-clause-tells g c =
    tells_all (g.M.Machine.shown c.args.machine.now).log (g.M.Machine.shown c.loop-entry.machine).log c.args.entries.now c.loop-entry.entry-index (omega arith) c.loop-entry.invariant.tells

pub returns-clause-are : goal.returns-clause-are
returns-clause-are g c =
    recursion_from_All IsOfChange c.args.entries.now (All-same IsOfChange c.args.entries.now _ (sym (take_all c.loop-entry.entry-index c.args.entries.now (omega arith))) c.loop-entry.invariant.are)
