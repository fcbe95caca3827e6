-- What an event of an inode notes, where it happens now.
use Rattle.std.specs.Prelude.{Option, Some, None}
use Rattle.fuse.specs.declared.request.Time.{Time}
use Rattle.view_times.specs.declared.event.Event.{Event}
use Rattle.view_times.specs.declared.event.Event.TheVariants.{Made, Modified, StatusChanged, TimesSet}
use Rattle.view_times.specs.declared.noted.Noted.{Noted}
use Rattle.view_times.specs.declared.noted.Noted.TheVariants.{Nothing, Happened, Set}
use Rattle.view_times.specs.declared.noted.Notes.{Notes}

-- of a time that may be set
abbrev pub set_if : Option Time → Noted
set_if (Some time) = Set time
set_if None = Nothing

abbrev pub notes_of : Event → Time → Notes
notes_of Made now =
    record { accessed = Happened now; modified = Happened now; changed = Happened now }
notes_of Modified now =
    record { accessed = Nothing; modified = Happened now; changed = Happened now }
notes_of StatusChanged now =
    record { accessed = Nothing; modified = Nothing; changed = Happened now }
notes_of (TimesSet accessed modified) now =
    record { accessed = set_if accessed; modified = set_if modified; changed = Happened now }
