use Rattle.entry_codec.proofs.EntryForms.{one_record}
use Rattle.entry_codec.proofs.laws.records_are_told_apart.Goals as goal

pub returns : goal.returns
returns c = one_record
