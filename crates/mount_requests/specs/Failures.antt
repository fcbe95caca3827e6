-- Why a request fails.
use Rattle.std.specs.Prelude.{Result, Ok, Err, Option, Some, None}
use Rattle.ids.specs.declared.errno.Errno.{Errno as Refused}
use Rattle.ids.specs.declared.errno.Errno.TheVariants as refused
use Rattle.fuse.specs.declared.errno.Errno.{Errno}
use Rattle.fuse.specs.declared.errno.Errno.TheVariants as errno
use Rattle.course.specs.declared.fault.Fault.{Fault}
use Rattle.course.specs.declared.fault.Fault.TheVariants as fault
use Rattle.mount_requests.specs.declared.failure.Failure.{Failure}
use Rattle.mount_requests.specs.declared.failure.Failure.TheVariants as failure

-- an error that is told
abbrev pub error : Errno → Failure
error e = failure.Error e

-- what Linux has for each refusal of the kernel
abbrev pub errno_of : Refused → Errno
errno_of refused.EAGAIN = errno.EAGAIN
errno_of refused.EBADF = errno.EBADF
errno_of refused.EBUSY = errno.EBUSY
errno_of refused.EEXIST = errno.EEXIST
errno_of refused.EFBIG = errno.EFBIG
errno_of refused.EINVAL = errno.EINVAL
errno_of refused.EISDIR = errno.EISDIR
errno_of refused.ELOOP = errno.ELOOP
errno_of refused.EMFILE = errno.EMFILE
errno_of refused.ENAMETOOLONG = errno.ENAMETOOLONG
errno_of refused.ENOENT = errno.ENOENT
errno_of refused.ENOTDIR = errno.ENOTDIR
errno_of refused.ENOTEMPTY = errno.ENOTEMPTY
errno_of refused.ENOTSUP = errno.EOPNOTSUPP
errno_of refused.ENXIO = errno.ENXIO
errno_of refused.EPERM = errno.EPERM
errno_of refused.EPIPE = errno.EPIPE
errno_of refused.ESPIPE = errno.ESPIPE

-- What a request fails with where its course fails: EBUSY for a plain call that was put off, EIO for a
-- reply that no call has.
abbrev pub failure_of : Fault → Failure
failure_of (fault.Refused e) = error (errno_of e)
failure_of fault.Busy = error errno.EBUSY
failure_of fault.NoMemory = error errno.ENOMEM
failure_of fault.Stale = error errno.ESTALE
failure_of fault.Unexpected = error errno.EIO
failure_of (fault.Aborted why) = failure.Aborted why

-- what comes behind what was found; a failure stays
abbrev pub and_then : {A B : Type 0} → Result A Failure → (A → Result B Failure) → Result B Failure
and_then (Ok x) f = f x
and_then (Err e) f = Err e

-- or there is nothing, for this error
abbrev pub found_or : {A : Type 0} → Errno → Option A → Result A Failure
found_or e (Some x) = Ok x
found_or e None = Err (error e)
