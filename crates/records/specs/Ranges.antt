-- The marks that clash with a touch, by who uses its aspect and those that clash by names.
use Rattle.std.specs.Prelude.{ℕ, List, [], Bool, true, false, not, ◌++◌, ◌==◌, filter, map}
use Rattle.std.specs.List.{flat_map}
use Rattle.std.specs.BTreeSet.{keys_between}
use Rattle.std.specs.declared.ops.Bound.TheVariants.{Included, Excluded}
use Rattle.ids.specs.Order.{aspect_cmp}
use Rattle.model.specs.Aspects.{Aspect, Entry, Names}
use Rattle.model.specs.Steps.{Touch}
use Rattle.records.specs.Index.{users_on}
use Rattle.records.specs.Marks.{mark_of}
use Rattle.records.specs.declared.index.Index.{Index}
use Rattle.records.specs.declared.mark.Mark.{Mark}

abbrev pub touch_on : Aspect → Bool → Touch
touch_on a w = record { aspect = a; write = w }

-- a touch of these processes
abbrev pub marks_with : Touch → List ℕ → List Mark
marks_with t ps = map (λ p. mark_of p t) ps

-- and of these but the caller
abbrev pub marks_of : ℕ → Touch → List ℕ → List Mark
marks_of caller t ps = filter (λ k. not (k.pid == caller)) (marks_with t ps)

-- the marks of one touch
abbrev pub marks_on : ℕ → Touch → Index → List Mark
marks_on caller t index = marks_of caller t (users_on index t)

-- the written entries of a directory
abbrev pub entries_of : ℕ → Index → List Aspect
entries_of d index = keys_between aspect_cmp (Included (Entry d [])) (Excluded (Names d)) index.written

-- the marks of those who write these
abbrev pub marks_of_writers : ℕ → Index → List Aspect → List Mark
marks_of_writers caller index es = flat_map (λ a. marks_on caller (touch_on a true) index) es

-- the marks of the written entries of a directory
abbrev pub marks_of_entries : ℕ → ℕ → Index → List Mark
marks_of_entries caller d index = marks_of_writers caller index (entries_of d index)

abbrev pub marks_by_names : ℕ → Aspect → Bool → Index → List Mark
marks_by_names caller (Entry d x) true index = marks_on caller (touch_on (Names d) false) index
marks_by_names caller (Names d) false index = marks_of_entries caller d index
marks_by_names caller _ _ index = []

abbrev pub marks_on_aspect : ℕ → Aspect → Bool → Index → List Mark
marks_on_aspect caller a true index =
    marks_on caller (touch_on a true) index ++ marks_on caller (touch_on a false) index
marks_on_aspect caller a false index = marks_on caller (touch_on a true) index

-- all that clash with a touch: on its aspect the writes and then the reads, and then those by names
abbrev pub clashing_marks : ℕ → Touch → Index → List Mark
clashing_marks caller t index =
    marks_on_aspect caller t.aspect t.write index ++ marks_by_names caller t.aspect t.write index
