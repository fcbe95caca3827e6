-- The names of the refusals (POSIX.1-2017, errno.h).
use Rattle.std.specs.Prelude.{ℕ, List, codes}
use Rattle.ids.specs.declared.errno.Errno.{Errno}
use Rattle.ids.specs.declared.errno.Errno.TheVariants.{EAGAIN, EBADF, EBUSY, EEXIST, EFBIG}
use Rattle.ids.specs.declared.errno.Errno.TheVariants.{EINVAL, EISDIR, ELOOP, EMFILE, ENAMETOOLONG}
use Rattle.ids.specs.declared.errno.Errno.TheVariants.{ENOENT, ENOTDIR, ENOTEMPTY, ENOTSUP, ENXIO}
use Rattle.ids.specs.declared.errno.Errno.TheVariants.{EPERM, EPIPE, ESPIPE}

abbrev pub errno_name : Errno → List ℕ
errno_name EAGAIN = codes "EAGAIN"
errno_name EBADF = codes "EBADF"
errno_name EBUSY = codes "EBUSY"
errno_name EEXIST = codes "EEXIST"
errno_name EFBIG = codes "EFBIG"
errno_name EINVAL = codes "EINVAL"
errno_name EISDIR = codes "EISDIR"
errno_name ELOOP = codes "ELOOP"
errno_name EMFILE = codes "EMFILE"
errno_name ENAMETOOLONG = codes "ENAMETOOLONG"
errno_name ENOENT = codes "ENOENT"
errno_name ENOTDIR = codes "ENOTDIR"
errno_name ENOTEMPTY = codes "ENOTEMPTY"
errno_name ENOTSUP = codes "ENOTSUP"
errno_name ENXIO = codes "ENXIO"
errno_name EPERM = codes "EPERM"
errno_name EPIPE = codes "EPIPE"
errno_name ESPIPE = codes "ESPIPE"
