-- How live transactions use a directory (TxOS, section 5: list modes).
use Rattle.std.specs.Prelude.{ℕ, Bool, true, false, ◌&&◌, List, ◌==◌, if◌then◌else◌}
use Rattle.std.specs.List.{list_any}
pub use Rattle.ids.specs.declared.entry.ListMode.{ListMode}
pub use Rattle.ids.specs.declared.entry.ListMode.TheVariants.{NoTx, Read, Write, Exclusive}
use Rattle.model.specs.Aspects.{Aspect, Entry as EntryOf, Names}
use Rattle.model.specs.Steps.{Touch}
use Rattle.model.specs.Moments.{Moment, held_by, all_below, bound}

-- whether a touch's aspect is all names of the directory
abbrev pub reads_names : ℕ → Aspect → Bool
reads_names d (Names e) = d == e
reads_names d _ = false

abbrev pub writes_entry : ℕ → Aspect → Bool → Bool
writes_entry d (EntryOf e x) true = d == e
writes_entry d _ _ = false

abbrev pub is_reader : ℕ → List Touch → Bool
is_reader d ts = list_any (λ t. reads_names d t.aspect) ts

abbrev pub is_writer : ℕ → List Touch → Bool
is_writer d ts = list_any (λ t. writes_entry d t.aspect t.write) ts

abbrev pub any_below : (ℕ → Bool) → ℕ → Bool
any_below test n = list_any test (all_below (λ q. true) n)

-- the list mode of a directory
abbrev pub mode_of : Moment → ℕ → ListMode
mode_of m d =
    if any_below (λ q. is_reader d (held_by m q) && is_writer d (held_by m q)) (bound m)
    then Exclusive
    else if any_below (λ q. is_writer d (held_by m q)) (bound m) then Write
    else if any_below (λ q. is_reader d (held_by m q)) (bound m) then Read
    else NoTx
