-- Histories whose entries are renamed, and what a checker that does not know the root goes by.
use Rattle.std.specs.Prelude.{◌≡◌, ℕ, List, [], ◌∷◌, map}
use Rattle.std.specs.List.{AllByRecursion}
use Rattle.model.specs.State.{Kernel}
use Rattle.model.specs.Steps.{Item, Run}
use Rattle.model.specs.Entries.{BeginFlags, Cause, Entry, Executed}
use Rattle.model.specs.Moments.{Setup, Status, gone, idle, live, doomed, Moment, status, start, at_start}
use Rattle.model.specs.Moments.{next, after_from}
use Rattle.model.specs.Legal.{serial_from, serial}
use Rattle.renaming_laws.specs.Renaming.{swap, renamed}
use Rattle.renaming_laws.specs.Renamed.{renamed_item, renamed_executed, renamed_entry}
use Rattle.renaming_laws.specs.Laws.{TellsNot, ChoosesNot}

-- two statuses whose lists are alike, and which differ besides in causes alone
pub data AlikeStatus (AreAlike : List Executed → List Executed → Type 0)
    : Status → Status → Type 0 where
  both_gone : AlikeStatus AreAlike gone gone
  both_idle : AlikeStatus AreAlike idle idle
  both_live : (flags : BeginFlags) (age : ℕ) (calls others : List Executed) → AreAlike calls others
      → AlikeStatus AreAlike (live flags age calls) (live flags age others)
  both_doomed : (cause other : Cause) (flags : BeginFlags) (age : ℕ)
      → AlikeStatus AreAlike (doomed cause flags age) (doomed other flags age)

-- so are those of the processes of two rows of entries, each at its own entry, and all at the end
abbrev pub AllAlike : (List Executed → List Executed → Type 0) → Moment → Moment → List Entry
    → List Entry → Type 0
AllAlike AreAlike m l [] others = (q : ℕ) → AlikeStatus AreAlike (status m q) (status l q)
AllAlike AreAlike m l (e ∷ es) [] = ⊥
AllAlike AreAlike m l (e ∷ es) (other ∷ others) =
    AlikeStatus AreAlike (status m e.pid) (status l other.pid)
    × AllAlike AreAlike (next m e) (next l other) es others

-- What runs to a committed state runs, from another moment and in other entries, to the renamed one.
-- Alike is also what is kept at the end of each process, living or not.
pub record HistoryIsRenamed (f : ℕ → ℕ) (AreAlike : List Executed → List Executed → Type 0)
    (m l : Moment) (es others : List Entry) (items : List Item) (after : Kernel) : Type 0 where
  pub serial : serial_from l others ≡ items
  pub run : Run l.committed items (renamed f after)
  pub statuses : AllAlike AreAlike m l es others
  pub phases : (q : ℕ)
      → AlikeStatus AreAlike ((after_from m es).phase q) ((after_from l others).phase q)

-- With another root a history's renamed entries run.
abbrev pub HistoriesAreRenamed : Type 0
HistoriesAreRenamed =
    (a b : ℕ) (setup : Setup) (es : List Entry) (after : Kernel)
    → Run (start a setup) (serial a setup es) after
    → HistoryIsRenamed (swap a b) (λ calls others. others ≡ map (renamed_executed (swap a b)) calls)
    (at_start a setup) (at_start b setup) es (map (renamed_entry (swap a b)) es)
    (map (renamed_item (swap a b)) (serial a setup es)) after

-- Where nothing that is run tells the root a or chooses b, the entries run from the root b as from
-- the root a. What is not run, as an undone transaction, may tell and choose what it will.
abbrev pub RootIsFreeInHistories : Type 0
RootIsFreeInHistories =
    (a b : ℕ) (setup : Setup) (es : List Entry) (after : Kernel)
    → AllByRecursion (λ it. TellsNot a it.answer) (serial a setup es)
    → AllByRecursion (ChoosesNot b) (serial a setup es)
    → Run (start a setup) (serial a setup es) after
    → HistoryIsRenamed (swap a b) (λ calls others. others ≡ calls) (at_start a setup)
    (at_start b setup) es es (serial a setup es) after
