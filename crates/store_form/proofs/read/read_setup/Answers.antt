use Rattle.std.proofs.Common.{ap, subst, ◌∙◌, arith}
use Rattle.store_form.specs.ReadingSetups.{setup_in, GivesSetup}
use Rattle.store_form.proofs.Forms.{setup_again, setup_found}
use Rattle.store_form.proofs.read.read_setup.Goals as goal

pub returns-clause-found : goal.returns-clause-found
returns-clause-found c = setup_found c.args.bytes.now c.whole_of.result (λ i. omega (arith, c.type_inv.bytes i)) c.whole_of.ensures

pub returns-clause-only : goal.returns-clause-only
returns-clause-only c = λ setup fits e. subst (λ told. GivesSetup c.whole_of.result told) (ap setup_in e ∙ setup_again setup fits) c.whole_of.ensures
