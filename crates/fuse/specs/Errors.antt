-- The numbers of errors.
use Rattle.std.specs.Prelude.{ℕ}
use Rattle.fuse.specs.declared.errno.Errno.{Errno}
use Rattle.fuse.specs.declared.errno.Errno.TheVariants as errno

-- the number of each in Linux (uapi/asm-generic/errno-base.h and errno.h)
abbrev pub number_of : Errno → ℕ
number_of errno.EPERM = 1
number_of errno.ENOENT = 2
number_of errno.EIO = 5
number_of errno.ENXIO = 6
number_of errno.EBADF = 9
number_of errno.EAGAIN = 11
number_of errno.ENOMEM = 12
number_of errno.EBUSY = 16
number_of errno.EEXIST = 17
number_of errno.EXDEV = 18
number_of errno.ENOTDIR = 20
number_of errno.EISDIR = 21
number_of errno.EINVAL = 22
number_of errno.EMFILE = 24
number_of errno.EFBIG = 27
number_of errno.ENOSPC = 28
number_of errno.ESPIPE = 29
number_of errno.EPIPE = 32
number_of errno.ENAMETOOLONG = 36
number_of errno.ENOSYS = 38
number_of errno.ENOTEMPTY = 39
number_of errno.ELOOP = 40
number_of errno.EOPNOTSUPP = 95
number_of errno.ESTALE = 116
number_of errno.ECANCELED = 125
