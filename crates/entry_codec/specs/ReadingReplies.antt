-- Replies as they are read.
use Rattle.std.specs.Prelude.{ℕ, ◌==◌, List, Ok, Err, if◌then◌else◌}
use Rattle.std.specs.Int.{w32, w64}
use Rattle.ids.specs.declared.errno.Errno.{Errno}
use Rattle.ids.specs.declared.errno.Errno.TheVariants as errno
use Rattle.ids.specs.declared.reply.Kind.{Kind}
use Rattle.ids.specs.declared.reply.Kind.TheVariants as kind
use Rattle.ids.specs.declared.rights.Rights.{Rights}
use Rattle.ids.specs.declared.reply.Stat.{Stat}
use Rattle.ids.specs.declared.aspect.Aspect.{Aspect}
use Rattle.ids.specs.declared.aspect.Aspect.TheVariants as aspect
use Rattle.ids.specs.declared.aspect.Touch.{Touch}
use Rattle.ids.specs.declared.aspect.Cause.{Cause}
use Rattle.ids.specs.declared.aspect.Why.{Why}
use Rattle.ids.specs.declared.aspect.Why.TheVariants as why
use Rattle.ids.specs.declared.reply.Answer.{Answer}
use Rattle.ids.specs.declared.reply.Answer.TheVariants as answer
use Rattle.ids.specs.declared.reply.Reply.{Reply}
use Rattle.ids.specs.declared.reply.Reply.TheVariants as reply
use Rattle.entry_codec.specs.declared.fault.Wrong.TheVariants as wrong
use Rattle.entry_codec.specs.declared.numbers.TheConstants.{ERRNO_EAGAIN, ERRNO_EBADF, ERRNO_EBUSY}
use Rattle.entry_codec.specs.declared.numbers.TheConstants.{ERRNO_EEXIST, ERRNO_EFBIG, ERRNO_EINVAL}
use Rattle.entry_codec.specs.declared.numbers.TheConstants.{ERRNO_EISDIR, ERRNO_ELOOP, ERRNO_EMFILE}
use Rattle.entry_codec.specs.declared.numbers.TheConstants.{ERRNO_ENAMETOOLONG, ERRNO_ENOENT}
use Rattle.entry_codec.specs.declared.numbers.TheConstants.{ERRNO_ENOTDIR, ERRNO_ENOTEMPTY}
use Rattle.entry_codec.specs.declared.numbers.TheConstants.{ERRNO_ENOTSUP, ERRNO_ENXIO, ERRNO_EPERM}
use Rattle.entry_codec.specs.declared.numbers.TheConstants.{ERRNO_EPIPE, ERRNO_ESPIPE}
use Rattle.entry_codec.specs.declared.numbers.TheConstants.{KIND_FILE, KIND_DIR, KIND_PIPE}
use Rattle.entry_codec.specs.declared.numbers.TheConstants.{KIND_LINK, KIND_FIFO, KIND_SOCKET}
use Rattle.entry_codec.specs.declared.numbers.TheConstants.{ASPECT_ENTRY, ASPECT_NAMES, ASPECT_SIZE}
use Rattle.entry_codec.specs.declared.numbers.TheConstants.{ASPECT_BLOCK, ASPECT_LINKS, ASPECT_ENDS}
use Rattle.entry_codec.specs.declared.numbers.TheConstants.{ASPECT_OFFSET, ASPECT_FRONT}
use Rattle.entry_codec.specs.declared.numbers.TheConstants.{ASPECT_BACK, ASPECT_TARGET}
use Rattle.entry_codec.specs.declared.numbers.TheConstants.{ASPECT_RIGHTS, WHY_CLASH}
use Rattle.entry_codec.specs.declared.numbers.TheConstants.{WHY_UNSUPPORTED}
use Rattle.entry_codec.specs.declared.numbers.TheConstants.{ANSWER_DONE, ANSWER_FD, ANSWER_COUNT}
use Rattle.entry_codec.specs.declared.numbers.TheConstants.{ANSWER_PLACE, ANSWER_BYTES, ANSWER_PAIR}
use Rattle.entry_codec.specs.declared.numbers.TheConstants.{ANSWER_STAT, ANSWER_NAMES, ANSWER_CHILD}
use Rattle.entry_codec.specs.declared.numbers.TheConstants.{REPLY_ANSWER, REPLY_ERRNO, REPLY_BEGUN}
use Rattle.entry_codec.specs.declared.numbers.TheConstants.{REPLY_COMMITTED, REPLY_GIVEN_UP}
use Rattle.entry_codec.specs.declared.numbers.TheConstants.{REPLY_ABORTED, REPLY_BUSY}
use Rattle.entry_codec.specs.declared.numbers.TheConstants.{REPLY_IN_TRANSACTION}
use Rattle.entry_codec.specs.declared.numbers.TheConstants.{REPLY_NOT_IN_TRANSACTION}
use Rattle.entry_codec.specs.declared.numbers.TheConstants.{REPLY_HISTORY_FULL, REPLY_NO_MEMORY}
use Rattle.entry_codec.specs.declared.numbers.TheConstants.{REPLY_NO_PROCESS}
use Rattle.entry_codec.specs.Reading.{Read, ◌>>=◌, fault_at, one, two, three, five, byte_at, number_at}
use Rattle.entry_codec.specs.Reading.{text_at, flag_at, permissions_at, list_at}

unfoldable pub errno_of : ℕ → List ℕ → Read Errno
errno_of n rest =
    if n == ERRNO_EAGAIN then Ok (errno.EAGAIN, rest)
    else if n == ERRNO_EBADF then Ok (errno.EBADF, rest)
    else if n == ERRNO_EBUSY then Ok (errno.EBUSY, rest)
    else if n == ERRNO_EEXIST then Ok (errno.EEXIST, rest)
    else if n == ERRNO_EFBIG then Ok (errno.EFBIG, rest)
    else if n == ERRNO_EINVAL then Ok (errno.EINVAL, rest)
    else if n == ERRNO_EISDIR then Ok (errno.EISDIR, rest)
    else if n == ERRNO_ELOOP then Ok (errno.ELOOP, rest)
    else if n == ERRNO_EMFILE then Ok (errno.EMFILE, rest)
    else if n == ERRNO_ENAMETOOLONG then Ok (errno.ENAMETOOLONG, rest)
    else if n == ERRNO_ENOENT then Ok (errno.ENOENT, rest)
    else if n == ERRNO_ENOTDIR then Ok (errno.ENOTDIR, rest)
    else if n == ERRNO_ENOTEMPTY then Ok (errno.ENOTEMPTY, rest)
    else if n == ERRNO_ENOTSUP then Ok (errno.ENOTSUP, rest)
    else if n == ERRNO_ENXIO then Ok (errno.ENXIO, rest)
    else if n == ERRNO_EPERM then Ok (errno.EPERM, rest)
    else if n == ERRNO_EPIPE then Ok (errno.EPIPE, rest)
    else if n == ERRNO_ESPIPE then Ok (errno.ESPIPE, rest)
    else Err (fault_at wrong.Variant rest)

abbrev pub errno_at : List ℕ → Read Errno
errno_at bytes = byte_at bytes >>= λ n. errno_of n.0 n.1

unfoldable pub kind_of : ℕ → List ℕ → Read Kind
kind_of n rest =
    if n == KIND_FILE then Ok (kind.File, rest)
    else if n == KIND_DIR then Ok (kind.Dir, rest)
    else if n == KIND_PIPE then Ok (kind.Pipe, rest)
    else if n == KIND_LINK then Ok (kind.Link, rest)
    else if n == KIND_FIFO then Ok (kind.Fifo, rest)
    else if n == KIND_SOCKET then Ok (kind.Socket, rest)
    else Err (fault_at wrong.Variant rest)

abbrev pub kind_at : List ℕ → Read Kind
kind_at bytes = byte_at bytes >>= λ n. kind_of n.0 n.1

-- ---- why an operation is aborted or put off

-- of pipes, descriptions, links and rights
unfoldable pub other_aspect_of : ℕ → List ℕ → Read Aspect
other_aspect_of n rest =
    if n == ASPECT_ENDS then one (λ pipe. aspect.Ends pipe) (number_at w64) rest
    else if n == ASPECT_OFFSET then
    one (λ description. aspect.Offset description) (number_at w64) rest
    else if n == ASPECT_FRONT then one (λ pipe. aspect.Front pipe) (number_at w64) rest
    else if n == ASPECT_BACK then one (λ pipe. aspect.Back pipe) (number_at w64) rest
    else if n == ASPECT_TARGET then one (λ link. aspect.Target link) (number_at w64) rest
    else if n == ASPECT_RIGHTS then one (λ inode. aspect.Rights inode) (number_at w64) rest
    else Err (fault_at wrong.Variant rest)

-- of directories and files, and all others
unfoldable pub aspect_of : ℕ → List ℕ → Read Aspect
aspect_of n rest =
    if n == ASPECT_ENTRY then
    two (λ directory name. aspect.Entry directory name) (number_at w64) text_at rest
    else if n == ASPECT_NAMES then one (λ directory. aspect.Names directory) (number_at w64) rest
    else if n == ASPECT_SIZE then one (λ file. aspect.Size file) (number_at w64) rest
    else if n == ASPECT_BLOCK then
    two (λ file block. aspect.Block file block) (number_at w64) (number_at w32) rest
    else if n == ASPECT_LINKS then one (λ file. aspect.Links file) (number_at w64) rest
    else other_aspect_of n rest

abbrev pub aspect_at : List ℕ → Read Aspect
aspect_at bytes = byte_at bytes >>= λ n. aspect_of n.0 n.1

unfoldable pub touch_at : List ℕ → Read Touch
touch_at bytes =
    two (λ aspect write. record { aspect = aspect; write = write }) aspect_at flag_at bytes

unfoldable pub cause_at : List ℕ → Read Cause
cause_at bytes =
    two (λ touch other. record { touch = touch; other = other }) touch_at (number_at w32) bytes

unfoldable pub why_of : ℕ → List ℕ → Read Why
why_of n rest =
    if n == WHY_CLASH then one (λ cause. why.Clash cause) cause_at rest
    else if n == WHY_UNSUPPORTED then Ok (why.Unsupported, rest)
    else Err (fault_at wrong.Variant rest)

abbrev pub why_at : List ℕ → Read Why
why_at bytes = byte_at bytes >>= λ n. why_of n.0 n.1

-- ---- answers

abbrev pub rights_from : ℕ → ℕ → ℕ → Rights
rights_from permissions user group =
    record { permissions = permissions; owner = record { user = user; group = group } }

unfoldable pub rights_at : List ℕ → Read Rights
rights_at bytes = three rights_from permissions_at (number_at w32) (number_at w32) bytes

abbrev pub stat_from : Kind → ℕ → ℕ → ℕ → Rights → Stat
stat_from kind num size links rights =
    record { kind = kind; num = num; size = size; links = links; rights = rights }

unfoldable pub stat_at : List ℕ → Read Stat
stat_at bytes =
    five stat_from kind_at (number_at w64) (number_at w32) (number_at w32) rights_at bytes

abbrev pub names_at : List ℕ → Read (List (List ℕ))
names_at bytes = list_at text_at bytes

unfoldable pub answer_of : ℕ → List ℕ → Read Answer
answer_of n rest =
    if n == ANSWER_DONE then Ok (answer.Done, rest)
    else if n == ANSWER_FD then one (λ fd. answer.Fd fd) (number_at w32) rest
    else if n == ANSWER_COUNT then one (λ count. answer.Count count) (number_at w32) rest
    else if n == ANSWER_PLACE then one (λ place. answer.Place place) (number_at w32) rest
    else if n == ANSWER_BYTES then one (λ bytes. answer.Bytes bytes) text_at rest
    else if n == ANSWER_PAIR then
    two (λ reader writer. answer.Pair reader writer) (number_at w32) (number_at w32) rest
    else if n == ANSWER_STAT then one (λ stat. answer.Stat stat) stat_at rest
    else if n == ANSWER_NAMES then one (λ names. answer.Names names) names_at rest
    else if n == ANSWER_CHILD then one (λ pid. answer.Child pid) (number_at w32) rest
    else Err (fault_at wrong.Variant rest)

abbrev pub answer_at : List ℕ → Read Answer
answer_at bytes = byte_at bytes >>= λ n. answer_of n.0 n.1

-- ---- replies

unfoldable pub reply_of : ℕ → List ℕ → Read Reply
reply_of n rest =
    if n == REPLY_ANSWER then one (λ answer. reply.Answer answer) answer_at rest
    else if n == REPLY_ERRNO then one (λ errno. reply.Errno errno) errno_at rest
    else if n == REPLY_BEGUN then Ok (reply.Begun, rest)
    else if n == REPLY_COMMITTED then Ok (reply.Committed, rest)
    else if n == REPLY_GIVEN_UP then one (λ restarted. reply.GivenUp restarted) flag_at rest
    else if n == REPLY_ABORTED then
    two (λ why restarted. reply.Aborted why restarted) why_at flag_at rest
    else if n == REPLY_BUSY then one (λ cause. reply.Busy cause) cause_at rest
    else if n == REPLY_IN_TRANSACTION then Ok (reply.InTransaction, rest)
    else if n == REPLY_NOT_IN_TRANSACTION then Ok (reply.NotInTransaction, rest)
    else if n == REPLY_HISTORY_FULL then Ok (reply.HistoryFull, rest)
    else if n == REPLY_NO_MEMORY then Ok (reply.NoMemory, rest)
    else if n == REPLY_NO_PROCESS then Ok (reply.NoProcess, rest)
    else Err (fault_at wrong.Variant rest)

abbrev pub reply_at : List ℕ → Read Reply
reply_at bytes = byte_at bytes >>= λ n. reply_of n.0 n.1
