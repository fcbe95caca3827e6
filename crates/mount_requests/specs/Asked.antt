-- What the numbers and bits of requests say.
use Rattle.std.specs.Prelude.{ℕ, ◌-◌, ◌==◌, ◌||◌, ◌/◌, ◌%◌, ◌^◌, not, nat_lt, nat_le, bit_and, ℤ, pos, Bool}
use Rattle.std.specs.Prelude.{Option, Some, None, is_some, option_map, Result, Ok, Err}
use Rattle.std.specs.Prelude.{if◌then◌else◌}
use Rattle.ids.specs.declared.call.Space.{Space}
use Rattle.ids.specs.declared.call.Space.TheVariants as space
use Rattle.ids.specs.declared.call.Whence.{Whence}
use Rattle.ids.specs.declared.call.Whence.TheVariants as ways
use Rattle.ids.specs.declared.fixed.Special.{Special}
use Rattle.ids.specs.declared.fixed.Special.TheVariants as special
use Rattle.ids.specs.declared.rights.NewOwner.{NewOwner}
use Rattle.ids.specs.declared.rights.Owner.{Owner}
use Rattle.ids.specs.declared.rights.Rights.{Rights}
use Rattle.fuse.specs.declared.errno.Errno.TheVariants as errno
use Rattle.fuse.specs.declared.request.Changes.{Changes}
use Rattle.fuse.specs.declared.request.Whence.{Whence as Searched}
use Rattle.fuse.specs.declared.request.Whence.TheVariants as whence
use Rattle.course.specs.Rights.{permissions_in}
use Rattle.course.specs.declared.made.Cut.{Cut}
use Rattle.course.specs.declared.made.Cut.TheVariants as cut
use Rattle.course.specs.declared.updates.Update.{Update}
use Rattle.mount_requests.specs.Failures.{and_then, error}
use Rattle.mount_requests.specs.declared.failure.Failure.{Failure}
use Rattle.mount_requests.specs.declared.opening.Creation.{Creation}

-- whether a flag is among these
abbrev pub has_flag : ℕ → ℕ → Bool
has_flag flags flag = not (bit_and flags flag == 0)

-- ---- what is set

-- a length that is set, which files may have
abbrev pub length_in : Option ℕ → Result (Option ℕ) Failure
length_in (Some size) =
    if nat_lt size (2 ^ 63) then Ok (Some size) else Err (error errno.EFBIG)
length_in None = Ok None

-- The owner that is set, where a user or a group is named. Where set-user-ID and set-group-ID are to
-- go with a length alone nobody is named: then they go, and the owner stays.
abbrev pub owner_by : Changes → Option NewOwner
owner_by c =
    if is_some c.uid || is_some c.gid || c.drops_set_ids
    then Some (record { user = c.uid; group = c.gid }) else None

-- the permissions that are set, if any
abbrev pub permissions_by : Option ℕ → Option ℕ
permissions_by mode = option_map (λ m. permissions_in m) mode

-- what is set, if anything is
abbrev pub update_of : Option ℕ → Option NewOwner → Option ℕ → Option Update
update_of length owner permissions =
    if is_some length || is_some owner || is_some permissions
    then Some (record { length = length; owner = owner; permissions = permissions }) else None

-- ---- what is made

-- what its maker gives to something that is made: itself as owner, and the permissions of a mode
abbrev pub given : Owner → ℕ → Rights
given owner mode = record { permissions = permissions_in mode; owner = owner }

-- What is made by the kind of a mode (sys/stat.h): a plain file, which no kind means too, a FIFO or a
-- socket. There are no devices (mknod: EPERM).
abbrev pub special_by : ℕ → Result (Option Special) Failure
special_by kind =
    if kind == 8 || kind == 0 then Ok None
    else if kind == 1 then Ok (Some special.Fifo)
    else if kind == 12 then Ok (Some special.Socket)
    else Err (error errno.EPERM)

abbrev pub special_in : ℕ → Result (Option Special) Failure
special_in mode = special_by (mode / 4096 % 16)

-- ---- how files are opened and made

-- the flags of an open that cuts the file, and of one that has to make it
abbrev pub cuts : ℕ → Bool
cuts flags = has_flag flags 512

abbrev pub is_exclusive : ℕ → Bool
is_exclusive flags = has_flag flags 128

-- whether set-user-ID and set-group-ID go with the bytes that are cut
abbrev pub cut_by : ℕ → ℕ → Cut
cut_by flags how =
    if cuts flags then (if has_flag how 1 then cut.Dropping else cut.Plain) else cut.No

-- how a file is made: by which flags, and what it gets
abbrev pub creation : Owner → ℕ → ℕ → ℕ → Creation
creation owner flags mode how = record {
  exclusive = is_exclusive flags;
  cut = cut_by flags how;
  given = given owner mode;
}

-- ---- how names are moved, and bytes read and written

-- a move may replace nothing, by its flag 1, and has no other flag
abbrev pub absent_in : ℕ → Result Bool Failure
absent_in flags = if nat_lt 1 flags then Err (error errno.EINVAL) else Ok (flags == 1)

-- by its flag 2 alone a rename is an exchange
abbrev pub is_exchange : ℕ → Bool
is_exchange flags = flags == 2

-- an offset as the kernel takes it
abbrev pub offset_in : ℕ → Result ℤ Failure
offset_in offset =
    if nat_lt offset (2 ^ 63) then Ok (pos offset) else Err (error errno.EINVAL)

-- A write whose flags say O_APPEND goes to the end, whatever offset came with it.
abbrev pub offset_by : ℕ → ℕ → Result (Option ℤ) Failure
offset_by flags offset =
    if has_flag flags 1024 then Ok None else and_then (offset_in offset) (λ from. Ok (Some from))

-- Set-user-ID and set-group-ID go first, where the flags of the write say so.
abbrev pub drops : ℕ → Bool
drops how = has_flag how 4

-- ---- ranges of open files

-- From where an offset is looked for. Linux knows the offset of an open file itself.
abbrev pub whence_in : Searched → Result Whence Failure
whence_in whence.Start = Ok ways.Set
whence_in whence.Current = Err (error errno.EINVAL)
whence_in whence.End = Ok ways.End
whence_in whence.NextData = Ok ways.Data
whence_in whence.NextHole = Ok ways.Hole

-- Linux hands a negative offset on as it stands, from which there is nothing to find (tmpfs: ENXIO).
abbrev pub looked_from : ℕ → Result ℤ Failure
looked_from offset =
    if nat_lt offset (2 ^ 63) then Ok (pos offset) else Err (error errno.ENXIO)

-- What becomes of a range by the mode of fallocate: the file reaches to its end, its length stays (1),
-- or the range is zeros (2, with 1 alone). There is no other mode (tmpfs: EOPNOTSUPP).
abbrev pub space_by : ℕ → Result Space Failure
space_by mode =
    if mode == 0 then Ok space.Grow
    else if mode == 1 then Ok space.Keep
    else if mode == 3 then Ok space.Punch else Err (error errno.EOPNOTSUPP)

-- a copy has no flags
abbrev pub flagless : ℕ → Result (Unit {0}) Failure
flagless flags = if flags == 0 then Ok tt else Err (error errno.EINVAL)

-- whether two ranges of so many bytes overlap that begin at these places
abbrev pub overlap : ℕ → ℕ → ℕ → Bool
overlap first second count =
    if nat_le first second then nat_lt (second - first) count else nat_lt (first - second) count
