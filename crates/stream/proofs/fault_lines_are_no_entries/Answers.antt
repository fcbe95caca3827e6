use Rattle.stream.proofs.Texts.{fault_lines}
use Rattle.stream.proofs.fault_lines_are_no_entries.Goals as goal

pub returns : goal.returns
returns c = fault_lines
