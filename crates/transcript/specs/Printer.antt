-- What a printer does.
use Rattle.std.specs.Prelude.{◌≡◌, ℕ, ◌<◌, ◌++◌, List, Option, Bool, true, false}
use Rattle.std.specs.Io.KnownBytes.{append_known}
use Rattle.device.specs.Device.{CanCount}
use Rattle.transcript.specs.declared.printer.Printer.{Printer}

-- one more failure can be counted, unless there was one
abbrev pub CanPrint : {S : Type 0} → (S → ℕ) → Printer S → Type 0
CanPrint failures p = p.failed ≡ false → CanCount (failures p.sink.now)

-- A beginning of the text was written. The rest is pending, unless the sink has failed.
pub record Reaches
    (old new : Option (List ℕ)) (failed : Bool) (pending text : List ℕ)
    : Type 0 where
  pub front : List ℕ
  pub back : List ℕ
  pub whole : text ≡ front ++ back
  pub appended : new ≡ append_known old front
  pub kept : failed ≡ false → back ≡ pending

-- The text is written or pending behind what was pending before. Once the sink has failed, nothing
-- is written.
pub record Prints
    {S : Type 0} (written : S → Option (List ℕ)) (failures : S → ℕ)
    (old new : Printer S) (text : List ℕ)
    : Type 0 where
  pub same_sink : new.sink.ghost_name ≡ old.sink.ghost_name
  pub part : old.failed ≡ false
      → Reaches (written old.sink.now) (written new.sink.now)
      new.failed new.pending (old.pending ++ text)
  pub clean : new.failed ≡ false
      → (failures new.sink.now ≡ failures old.sink.now) × (old.failed ≡ false)
  pub stays : old.failed ≡ true
      → (written new.sink.now ≡ written old.sink.now)
      × (failures new.sink.now ≡ failures old.sink.now)
      × (new.failed ≡ true)
  pub cause : old.failed ≡ false → new.failed ≡ true
      → failures old.sink.now < failures new.sink.now
