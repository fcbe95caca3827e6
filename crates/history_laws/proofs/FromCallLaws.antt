-- Laws that are proved from the laws of calls.
use Rattle.call_laws.specs.WellFormed.{WellFormed}
use Rattle.call_laws.specs.CallLaws.{CallLaws}

abbrev pub FromCallLaws : Type 0 → Type 0
FromCallLaws Law = CallLaws WellFormed → Law
