use Rattle.kernel.proofs.Words.{◌≡◌, ◌∙◌, sym, ap, subst, tidy, seen_by, all_done, moment, is_live, fields}
use Rattle.freeing_laws.specs.Sweep.{AllFit}
use Rattle.std.proofs.lemmas.Option.{IfSome_then}
use Rattle.kernel.proofs.Entries.{slot_fits, slot_lives, slot_sees}
use Rattle.kernel.proofs.kernel.Kernel.shadow.Goals as goal

pub returns-clause-live : goal.returns-clause-live
returns-clause-live c =
    c.shadow.ensures.live ∙ slot_lives (fields c.self.inside.state) c.self.invariant c.args.pid ∙ ap (λ v. is_live (moment v.log) c.args.pid) c.self.view_is

pub returns-clause-fits : goal.returns-clause-fits
returns-clause-fits c = IfSome_then c.shadow.result c.shadow.ensures.value (λ s same. subst (λ v. AllFit s.now v.state) c.self.view_is
    (subst (λ ds. AllFit ds c.self.inside.state.transactions.stable.state) (sym same) (slot_fits (fields c.self.inside.state) c.self.invariant c.args.pid)))

pub returns-clause-sees : goal.returns-clause-sees
returns-clause-sees c = IfSome_then c.shadow.result c.shadow.ensures.value (λ s same. subst (λ v. tidy (all_done s.now v.state) ≡ seen_by (moment v.log) c.args.pid) c.self.view_is
    (ap (λ ds. tidy (all_done ds c.self.inside.state.transactions.stable.state)) same ∙ slot_sees (fields c.self.inside.state) c.self.invariant c.args.pid))
