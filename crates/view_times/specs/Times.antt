-- The times of one inode, and which of two is the later one.
use Rattle.std.specs.Prelude.{Bool, ◌==◌, ◌&&◌, ◌||◌, nat_lt, if◌then◌else◌}
use Rattle.fuse.specs.declared.request.Time.{Time}
use Rattle.view_times.specs.declared.times.Times.{Times}

-- the beginning of 1970
abbrev pub first_time : Time
first_time = record { seconds = 0; nanoseconds = 0 }

-- those of an inode of which nothing is known
abbrev pub first_times : Times
first_times = record { accessed = first_time; modified = first_time; changed = first_time }

-- whether the first is the later one: by the seconds, and then by the nanoseconds
abbrev pub is_later : Time → Time → Bool
is_later first second =
    nat_lt second.seconds first.seconds
    || (first.seconds == second.seconds && nat_lt second.nanoseconds first.nanoseconds)

abbrev pub later : Time → Time → Time
later first second = if is_later first second then first else second
