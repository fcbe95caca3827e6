use Rattle.std.proofs.Common.{sym, subst, ◌∙◌}
use Rattle.call_laws.specs.Fits.{FitsAll}
use Rattle.commit.specs.Edits.{AreNew}
use Rattle.commit.specs.ProcessStates.{views}
use Rattle.commit.proofs.Claims.{are_new}
use Rattle.commit.proofs.transactions.Transactions.apply.Goals as goal

pub apply-requires-clause-fits : goal.apply-requires-clause-fits
apply-requires-clause-fits c = λ chosen new.
    subst (λ v. FitsAll chosen v.stable.state c.args.edits.items) (sym c.self.view_is)
    (c.requires.fits chosen (subst (λ v. AreNew v c.args.edits.items chosen) c.self.view_is (are_new (views c.self.inside.slots) c.self.inside.stable c.args.edits.items chosen c.self.invariant new)))

pub invariant_of-self : goal.invariant_of-self
invariant_of-self c = λ claim. c.self.invariant claim ∙ sym (c.apply.ensures.kept claim)

pub invariant_of-self-2 : goal.invariant_of-self-2
invariant_of-self-2 c = λ claim. c.self.invariant claim ∙ sym (c.apply.ensures.kept claim)

pub returns-clause-new : goal.returns-clause-new
returns-clause-new c = subst (λ v. AreNew v c.args.edits.items c.in_ok-chosen.chosen) c.self.view_is
    (are_new (views c.self.inside.slots) c.self.inside.stable c.args.edits.items c.in_ok-chosen.chosen c.self.invariant c.in_ok-chosen.ensures.new)
