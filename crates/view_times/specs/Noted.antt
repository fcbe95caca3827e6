-- What a view has noted of one inode: of each of the three times nothing, that something happened then,
-- or that it was set to that.
use Rattle.fuse.specs.declared.request.Time.{Time}
use Rattle.view_times.specs.declared.noted.Noted.{Noted}
use Rattle.view_times.specs.declared.noted.Noted.TheVariants.{Nothing, Happened, Set}
use Rattle.view_times.specs.declared.noted.Notes.{Notes}
use Rattle.view_times.specs.declared.times.Times.{Times}
use Rattle.view_times.specs.Times.{later}

-- ---- one time

-- what is noted where the first comes behind the second
abbrev pub time_behind : Noted → Noted → Noted
time_behind Nothing former = former
time_behind (Happened time) former = Happened time
time_behind (Set time) former = Set time

-- the time that the view sees, where everybody has this one
abbrev pub time_over : Noted → Time → Time
time_over Nothing time = time
time_over (Happened noted) time = noted
time_over (Set noted) time = noted

-- The time that everybody has behind a commit, where everybody had this one: the later one of the two,
-- but one that was set as it was set.
abbrev pub time_merged : Noted → Time → Time
time_merged Nothing time = time
time_merged (Happened noted) time = later noted time
time_merged (Set noted) time = noted

-- ---- the three, each by itself

abbrev pub nothing : Notes
nothing = record { accessed = Nothing; modified = Nothing; changed = Nothing }

abbrev pub behind : Notes → Notes → Notes
behind notes former = record {
  accessed = time_behind notes.accessed former.accessed;
  modified = time_behind notes.modified former.modified;
  changed = time_behind notes.changed former.changed;
}

abbrev pub over : Notes → Times → Times
over notes times = record {
  accessed = time_over notes.accessed times.accessed;
  modified = time_over notes.modified times.modified;
  changed = time_over notes.changed times.changed;
}

abbrev pub merged : Notes → Times → Times
merged notes times = record {
  accessed = time_merged notes.accessed times.accessed;
  modified = time_merged notes.modified times.modified;
  changed = time_merged notes.changed times.changed;
}
