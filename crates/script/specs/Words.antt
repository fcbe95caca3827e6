-- What comes of reading words.
use Rattle.std.specs.Prelude.{◌≡◌, Option, Some, None, Result, Ok, Err}
use Rattle.script.specs.declared.word.WordFault.{WordFault}
use Rattle.script.specs.declared.word.WordFault.TheVariants.{Malformed}

-- The result is the value that the words spell. Malformed comes only where they spell none.
abbrev pub Reads : {A : Type 0} → Option A → Result A WordFault → Type 0
Reads spelled (Ok value) = spelled ≡ Some value
Reads spelled (Err fault) = fault ≡ Malformed → spelled ≡ None
