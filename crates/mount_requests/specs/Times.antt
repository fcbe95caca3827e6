-- What requests do to times: which event of which inode each one is, in the view of its node. A look-up,
-- a read and a list change no time, as where a disk is mounted with noatime.
use Rattle.std.specs.Prelude.{ℕ, ◌==◌, ◌||◌, List, [], ◌∷◌, Bool, true, false}
use Rattle.std.specs.Prelude.{Option, Some, None, is_some, option_and_then, option_map, if◌then◌else◌}
use Rattle.model.specs.FiniteMap as map
use Rattle.fuse.specs.declared.request.Changes.{Changes}
use Rattle.fuse.specs.declared.request.Time.{Time}
use Rattle.fuse.specs.declared.request.TimeChange.{TimeChange}
use Rattle.fuse.specs.declared.request.TimeChange.TheVariants.{At, Now}
use Rattle.nodes.specs.Tables.{is_current, root_of}
use Rattle.course.specs.declared.made.Cut.{Cut}
use Rattle.course.specs.declared.made.Cut.TheVariants as cut
use Rattle.mount_tables.specs.Numbers.{view_of}
use Rattle.view_times.specs.Known.{Known, noted_by, times_of}
use Rattle.view_times.specs.Times.{first_times, later}
use Rattle.view_times.specs.declared.event.Event.{Event}
use Rattle.view_times.specs.declared.event.Event.TheVariants.{Made, Modified, StatusChanged, TimesSet}
use Rattle.view_times.specs.declared.times.Times.{Times}
use Rattle.mount_requests.specs.Found.{inode_of}
use Rattle.mount_requests.specs.Seen.{Seen}
use Rattle.mount_requests.specs.Told.{named}

-- ---- which events

-- events, each with its inode
abbrev pub Events : Type 0
Events = List (ℕ × Event)

-- What is made, as by create, mkdir, mknod and symlink, has all three times, and its directory is
-- modified.
abbrev pub of_making : ℕ → ℕ → Events
of_making inode directory = (inode, Made) ∷ (directory, Modified) ∷ []

-- of what has another name than before, if it is known
abbrev pub of_names : Option ℕ → Events
of_names (Some inode) = (inode, StatusChanged) ∷ []
of_names None = []

-- what gets a further name, and the directory of that
abbrev pub of_linking : ℕ → ℕ → Events
of_linking inode directory = (directory, Modified) ∷ of_names (Some inode)

-- the directory of a name that goes, as by unlink and rmdir, and what has lost it
abbrev pub of_removing : Option ℕ → ℕ → Events
of_removing lost directory = (directory, Modified) ∷ of_names lost

-- the directories of a rename, and what is moved
abbrev pub of_moving : Option ℕ → ℕ → ℕ → Events
of_moving moved from to = (from, Modified) ∷ (to, Modified) ∷ of_names moved

-- of two objects that have other names than before
abbrev pub of_both : Option ℕ → Option ℕ → Events
of_both (Some inode) other = (inode, StatusChanged) ∷ of_names other
of_both None other = of_names other

-- whether two names gave one object
abbrev pub gave_one : Option ℕ → Option ℕ → Bool
gave_one (Some one) (Some other) = one == other
gave_one (Some one) None = false
gave_one None there = false

-- A rename from one name of an object to another one does nothing (rename, POSIX).
abbrev pub of_renaming : Option ℕ → Option ℕ → ℕ → ℕ → Events
of_renaming moved there from to = if gave_one moved there then [] else of_moving moved from to

-- the directories of two names that are exchanged, and what each gave
abbrev pub of_swapping : Option ℕ → Option ℕ → ℕ → ℕ → Events
of_swapping one other from to = (from, Modified) ∷ (to, Modified) ∷ of_both one other

-- two names of one object stay, and nothing changes
abbrev pub of_exchanging : Option ℕ → Option ℕ → ℕ → ℕ → Events
of_exchanging one other from to = if gave_one one other then [] else of_swapping one other from to

-- bytes that are written
abbrev pub of_writing : ℕ → Events
of_writing inode = (inode, Modified) ∷ []

-- bytes that are copied, unless there are none
abbrev pub of_copying : ℕ → ℕ → Events
of_copying count inode = if count == 0 then [] else of_writing inode

-- bytes that an open cuts
abbrev pub of_cutting : Cut → ℕ → Events
of_cutting cut.No inode = []
of_cutting cut.Plain inode = of_writing inode
of_cutting cut.Dropping inode = of_writing inode

-- A time that is set: the one that is given, or where it is to be that of now the one of the request.
abbrev pub time_in : Time → TimeChange → Time
time_in now (At time) = time
time_in now (Now time) = now

-- times that are set, a truncation, or another change: of a mode, or of an owner
abbrev pub of_changes : Changes → Time → Event
of_changes c now =
    if is_some c.accessed || is_some c.modified
    then TimesSet (option_map (time_in now) c.accessed) (option_map (time_in now) c.modified)
    else if is_some c.size then Modified else StatusChanged

abbrev pub of_setting : Changes → Time → ℕ → Events
of_setting c now inode = (inode, of_changes c now) ∷ []

-- ---- in which view

-- the view below whose root a node is
abbrev pub view_by : Option ℕ → ℕ
view_by (Some view) = view
view_by None = 0

abbrev pub view_at : Seen → ℕ → ℕ
view_at s node = view_by (view_of (root_of s.nodes node))

-- what is known of times behind an event, and behind events in order, in a view at this time
abbrev pub with_each : ℕ → Time → Events → Known → Known
with_each view now [] k = k
with_each view now (e ∷ es) k = with_each view now es (noted_by k view e.0 e.1 now)

-- what is known behind events in a view, and behind those of a request about a node
abbrev pub noted_in : ℕ → Events → Seen → Seen
noted_in view events s = record s { times = with_each view s.time events s.times }

abbrev pub with_events : ℕ → Events → Seen → Seen
with_events node events s = noted_in (view_at s node) events s

-- of an object that is gone nothing is noted, since its number may be another's
abbrev pub with_events_if : Bool → ℕ → Events → Seen → Seen
with_events_if true node events s = with_events node events s
with_events_if false node events s = s

-- ---- what a name led to

-- the object of a node, unless it is gone
abbrev pub inode_if : Seen → ℕ → Option ℕ
inode_if s node = if is_current s.nodes node then Some (inode_of s node) else None

-- the object that a name of a directory gave when it was looked up last
abbrev pub inode_named : Seen → ℕ → List ℕ → Option ℕ
inode_named s node name =
    option_and_then (inode_if s) (map.get s.nodes.numbers (named node name))

-- ---- what is told

-- The times of an object as the view of a node sees them. Of one that is gone those of another that has
-- its number are not told.
abbrev pub times_at : Seen → Known → ℕ → ℕ → Times
times_at s k node inode = times_of k (view_at s node) inode

abbrev pub times_if : Seen → Known → ℕ → ℕ → Times
times_if s k node inode =
    if is_current s.nodes node then times_at s k node inode else first_times

-- ---- the time of a request

-- It is that of the clock, but none before the time of the request before.
abbrev pub at_time : Time → Seen → Seen
at_time now s = record s { time = later now s.time }
