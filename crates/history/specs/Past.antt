-- What was forgotten, in order.
use Rattle.std.specs.Prelude.{ℕ, List, [], ◌∷◌, ◌++◌, length}
use Rattle.ids.specs.declared.entry.Entry.{Entry}
use Rattle.history.specs.declared.past.Past.{Past, Start, Then'}

abbrev pub entries_in : Past → List Entry
entries_in Start = []
entries_in (Then' shape before entries) = entries_in before ++ entries.value.items

-- how many each time
abbrev pub counts_in : Past → List ℕ
counts_in Start = []
counts_in (Then' shape before entries) = counts_in before ++ length entries.value.items ∷ []
