use Rattle.std.proofs.Common.{◌∙◌, sym, nat_eq}
use Rattle.std.specs.HashMap.{get, spare}
use Rattle.redo_records.proofs.Rooms.{free_of_slot, slot_if_ok, slot_kept}
use Rattle.redo_records.proofs.recorder.reserve_begin.Goals as goal

pub returns-then-is_kept-clause-ok : goal.returns-then-is_kept-clause-ok
returns-then-is_kept-clause-ok c = slot_kept (spare c.args.transactions.now) (get nat_eq c.args.transactions.now c.args.pid) (sym c.is_kept.ensures ∙ c.if-is_kept.true)

pub returns-clause-ok : goal.returns-clause-ok
returns-clause-ok c = slot_if_ok c.reserve.result (spare c.reserve.new.self) (get nat_eq c.reserve.new.self c.args.pid) c.reserve.ensures.ok

pub returns-clause-succeeds : goal.returns-clause-succeeds
returns-clause-succeeds c = λ slot. c.reserve.ensures.succeeds (free_of_slot (spare c.args.transactions.now) (get nat_eq c.args.transactions.now c.args.pid) slot (sym c.is_kept.ensures ∙ c.if-is_kept.false))
