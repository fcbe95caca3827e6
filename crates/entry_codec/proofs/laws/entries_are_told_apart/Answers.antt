use Rattle.entry_codec.proofs.EntryForms.{one_form}
use Rattle.entry_codec.proofs.laws.entries_are_told_apart.Goals as goal

pub returns : goal.returns
returns c = one_form
