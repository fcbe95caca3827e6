-- What replies come to: an answer, or the error that a request fails with.
use Rattle.std.specs.Prelude.{ℕ, Bool, true, false, List, Result, Ok, Err, if◌then◌else◌}
use Rattle.ids.specs.declared.errno.Errno.TheVariants as errno
use Rattle.ids.specs.declared.reply.Answer.TheVariants as answer
use Rattle.ids.specs.declared.reply.Reply.{Reply}
use Rattle.ids.specs.declared.reply.Reply.TheVariants as reply
use Rattle.ids.specs.declared.reply.Stat.{Stat}
use Rattle.course.specs.declared.fault.Fault.{Fault}
use Rattle.course.specs.declared.fault.Fault.TheVariants as fault

-- Why a request fails by this reply. A full history is told as refused memory.
abbrev pub fault_in : Reply → Fault
fault_in (reply.Errno e) = fault.Refused e
fault_in (reply.Aborted why again) = fault.Aborted why
fault_in (reply.Busy cause) = fault.Busy
fault_in reply.NoMemory = fault.NoMemory
fault_in reply.HistoryFull = fault.NoMemory
fault_in _ = fault.Unexpected

-- That a call is done, a descriptor, what an object is like, how many bytes were written, an offset, the
-- bytes that were read, the names of a directory, a child.
abbrev pub done_in : Reply → Result (Unit {0}) Fault
done_in (reply.Answer answer.Done) = Ok tt
done_in r = Err (fault_in r)

abbrev pub fd_in : Reply → Result ℕ Fault
fd_in (reply.Answer (answer.Fd fd)) = Ok fd
fd_in r = Err (fault_in r)

abbrev pub stat_in : Reply → Result Stat Fault
stat_in (reply.Answer (answer.Stat stat)) = Ok stat
stat_in r = Err (fault_in r)

abbrev pub count_in : Reply → Result ℕ Fault
count_in (reply.Answer (answer.Count count)) = Ok count
count_in r = Err (fault_in r)

abbrev pub place_in : Reply → Result ℕ Fault
place_in (reply.Answer (answer.Place place)) = Ok place
place_in r = Err (fault_in r)

abbrev pub bytes_in : Reply → Result (List ℕ) Fault
bytes_in (reply.Answer (answer.Bytes bytes)) = Ok bytes
bytes_in r = Err (fault_in r)

abbrev pub names_in : Reply → Result (List (List ℕ)) Fault
names_in (reply.Answer (answer.Names names)) = Ok names
names_in r = Err (fault_in r)

abbrev pub child_in : Reply → Result ℕ Fault
child_in (reply.Answer (answer.Child pid)) = Ok pid
child_in r = Err (fault_in r)

-- that a transaction has begun, that it is committed, that it was given up
abbrev pub begun_in : Reply → Result (Unit {0}) Fault
begun_in reply.Begun = Ok tt
begun_in r = Err (fault_in r)

abbrev pub committed_in : Reply → Result (Unit {0}) Fault
committed_in reply.Committed = Ok tt
committed_in r = Err (fault_in r)

abbrev pub given_up_in : Reply → Result (Unit {0}) Fault
given_up_in (reply.GivenUp again) = Ok tt
given_up_in r = Err (fault_in r)

-- whether an error says that a name is not there, or that it is
abbrev pub is_missing : Fault → Bool
is_missing (fault.Refused errno.ENOENT) = true
is_missing _ = false

abbrev pub is_there : Fault → Bool
is_there (fault.Refused errno.EEXIST) = true
is_there _ = false

-- whether an error says that a path gives nothing: a name on it is not there, or is no directory, as
-- a symbolic link is none
abbrev pub gives_none : Fault → Bool
gives_none (fault.Refused errno.ENOENT) = true
gives_none (fault.Refused errno.ENOTDIR) = true
gives_none (fault.Refused errno.ELOOP) = true
gives_none _ = false

-- A path that gives nothing does not give the object that is meant.
abbrev pub stale_by : Fault → Fault
stale_by e = if gives_none e then fault.Stale else e

-- whether an error says that no file is there to be opened, but a link, a FIFO or a socket
abbrev pub is_special : Fault → Bool
is_special (fault.Refused errno.ELOOP) = true
is_special (fault.Refused errno.ENXIO) = true
is_special _ = false

-- Where one of these stands, the path does not give the file that is meant.
abbrev pub unless_special : Result ℕ Fault → Result ℕ Fault
unless_special (Ok fd) = Ok fd
unless_special (Err e) = if is_special e then Err fault.Stale else Err e

abbrev pub is_abort : Fault → Bool
is_abort (fault.Aborted why) = true
is_abort _ = false

-- the error that is told behind a last step, which may be the one that aborted
abbrev pub unless_aborted : Fault → Result (Unit {0}) Fault → Fault
unless_aborted e (Err (fault.Aborted why)) = fault.Aborted why
unless_aborted e r = e
