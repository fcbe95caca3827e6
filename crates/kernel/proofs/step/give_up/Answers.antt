use Rattle.kernel.proofs.Words.{refl, ap, Abort, GivenUp, live, fields}
use Rattle.kernel.proofs.Entries.{none_else, settles, ends}
use Rattle.kernel.proofs.step.give_up.Goals as goal

pub end_transaction-requires : goal.end_transaction-requires
end_transaction-requires c =
    let l = c.requires.stands in
    let op = Abort c.args.no_restart in
    let again = c.is_restarted-restarted in
    rw c.new-told.ensures (ends (fields c.args.s.now) c.requires.holds c.args.pid op (GivenUp again.result) (live c.args.flags c.args.age l.0) l.1 (ap GivenUp again.ensures, none_else c.args.pid op (GivenUp again.result)) refl refl
    again.result c.args.flags c.args.age (λ h. absurd cc) refl (settles (live c.args.flags c.args.age l.0) c.args.flags c.args.age again.result refl refl))
