-- The names that are left bring the store to where all bring it.
use Rattle.store.proofs.Laying.{Lays}
use Rattle.store.proofs.Store.lay.Given as goal

abbrev pub invariant-loop-name : goal.invariant-loop-name
invariant-loop-name l = Lays l.fn.self l.self l.dir l.fn.notes.entries l.name-iterator l.promised l.left
