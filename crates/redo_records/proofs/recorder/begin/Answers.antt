use Rattle.std.proofs.Common.{◌==◌, if◌then◌else◌, Some, ◌∙◌, ap, sym, nat_eq}
use Rattle.std.specs.HashMap.{get, spare}
use Rattle.redo_records.specs.declared.transaction.Transaction.{Transaction}
use Rattle.redo_records.proofs.Rooms.{begun_in_place, free_of_slot}
use Rattle.redo_records.proofs.recorder.begin.Goals as goal

pub returns-then-is_kept : goal.returns-then-is_kept
returns-then-is_kept c = λ q. c.set.ensures q ∙ begun_in_place _ q c.args.pid (get nat_eq c.args.transactions.now) (sym c.is_kept.ensures ∙ c.if-is_kept.true)
    ∙ ap (λ (begun : Transaction). if q == c.args.pid then Some begun else get nat_eq c.args.transactions.now q) c.new-begun.ensures

pub unwrap-requires : goal.unwrap-requires
unwrap-requires c = c.insert-added.ensures.succeeds (free_of_slot (spare c.args.transactions.now) (get nat_eq c.args.transactions.now c.args.pid) c.requires (sym c.is_kept.ensures ∙ c.if-is_kept.false))
