-- What a file shows that was opened.
use Rattle.std.specs.Prelude.{◌≡◌, Bool, [], ◌∷◌}
use Rattle.sqlite_disk.specs.declared.modelled.Modelled.{Modelled}
use Rattle.sqlite_disk.specs.declared.calls.Calls as calls
use Rattle.sqlite_disk.specs.declared.start.Start.{Ghosts}
use Rattle.sqlite_disk.specs.Modelled.{start_of}
use Rattle.sqlite_disk.specs.Events.{settled, replay}
use Rattle.store_file.specs.declared.host.Host.{Host}

module _ {S : Type 0} {g : calls.Ghosts Host} where
  -- its member `is_usable`
  abbrev pub file_is_usable : (start : Ghosts S) → Modelled Host S g start → Bool
  file_is_usable start f = (replay (start_of start f) f.calls.log.events).is_usable

  -- it was settled, and nothing was asked of it since
  abbrev pub IsFresh : {start : Ghosts S} → Modelled Host S g start → Type 0
  IsFresh f = f.calls.log.events ≡ settled f.key ∷ []
