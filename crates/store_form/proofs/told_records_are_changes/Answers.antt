use Rattle.store_form.proofs.Laws.{told_records_are_changes}
use Rattle.store_form.proofs.told_records_are_changes.Goals as goal

pub returns : goal.returns
returns c = told_records_are_changes
