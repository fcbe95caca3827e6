use Rattle.kernel.proofs.Words.{refl, sym, subst, subst₂, ◌∙◌, CanEnter, Does, fields, plain}
use Rattle.machine.specs.Steps.{entry_of}
use Rattle.kernel.proofs.state.add_entry.Goals as goal

pub enter-requires : goal.enter-requires
enter-requires c =
    subst₂ (λ chosen doomed. CanEnter (fields c.args.s.now) (entry_of c.args.pid c.args.op c.split-entry.result.0 chosen doomed)) (sym c.new.ensures) (sym c.new-2.ensures)
    (subst (λ r. CanEnter (fields c.args.s.now) (plain c.args.pid c.args.op r)) (sym c.split-entry.ensures.entry) c.requires)

pub returns-clause-now : goal.returns-clause-now
returns-clause-now c = subst (Does (fields c.args.s.now) _ c.args.pid c.args.op) (c.split-entry.ensures.entry ∙ sym c.split-entry.ensures.reply) (c.enter.ensures (fields c.args.s.now) refl)
