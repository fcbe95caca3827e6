use Rattle.std.proofs.Common.{List, subst}
use Rattle.std.specs.List.{AllByRecursion}
use Rattle.model.specs.Entries.{Entry}
use Rattle.store_form.specs.Stores.{told_of, IsOfChange}
use Rattle.recovery.specs.Coming.{Tells}
use Rattle.recovery.proofs.again.record_again.Goals as goal

pub returns-in_ok-entries_again-in-Ok-clause-tells : goal.returns-in_ok-entries_again-in-Ok-clause-tells
returns-in_ok-entries_again-in-Ok-clause-tells g c =
    subst (λ (es : List Entry). Tells (g.M.Machine.shown c.args.machine.now).log (g.M.Machine.shown c.entries_again.new.machine).log (told_of es)) c.as_slice.ensures.value c.in_ok-entries_again-in-Ok.ensures.tells

pub returns-in_ok-entries_again-in-Ok-clause-is : goal.returns-in_ok-entries_again-in-Ok-clause-is
returns-in_ok-entries_again-in-Ok-clause-is g c = (
  record {
    each = subst (λ (es : List Entry). AllByRecursion IsOfChange es) c.as_slice.ensures.value c.in_ok-entries_again-in-Ok.ensures.are;
    fits = c.in-Ok.ensures.found.0;
  },
  c.in-Ok.ensures.found.1,
)
