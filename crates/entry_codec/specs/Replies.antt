-- The bytes of replies: the number of the variant, and its fields in their order. `IsReply` and the like
-- say that each number is in the range of its type, as it is of each value of a program.
use Rattle.std.specs.Prelude.{ℕ, ◌<◌, ◌^◌, List, [], ◌∷◌, ◌++◌}
use Rattle.ids.specs.declared.errno.Errno.{Errno}
use Rattle.ids.specs.declared.errno.Errno.TheVariants as errno
use Rattle.ids.specs.declared.reply.Kind.{Kind}
use Rattle.ids.specs.declared.reply.Kind.TheVariants as kind
use Rattle.ids.specs.declared.rights.Rights.{Rights}
use Rattle.ids.specs.declared.reply.Stat.{Stat}
use Rattle.ids.specs.declared.aspect.Aspect.{Aspect}
use Rattle.ids.specs.declared.aspect.Aspect.TheVariants as aspect
use Rattle.ids.specs.declared.aspect.Touch.{Touch}
use Rattle.ids.specs.declared.aspect.Cause.{Cause}
use Rattle.ids.specs.declared.aspect.Why.{Why}
use Rattle.ids.specs.declared.aspect.Why.TheVariants as why
use Rattle.ids.specs.declared.reply.Answer.{Answer}
use Rattle.ids.specs.declared.reply.Answer.TheVariants as answer
use Rattle.ids.specs.declared.reply.Reply.{Reply}
use Rattle.ids.specs.declared.reply.Reply.TheVariants as reply
use Rattle.entry_codec.specs.declared.numbers.TheConstants.{ERRNO_EAGAIN, ERRNO_EBADF, ERRNO_EBUSY}
use Rattle.entry_codec.specs.declared.numbers.TheConstants.{ERRNO_EEXIST, ERRNO_EFBIG, ERRNO_EINVAL}
use Rattle.entry_codec.specs.declared.numbers.TheConstants.{ERRNO_EISDIR, ERRNO_ELOOP, ERRNO_EMFILE}
use Rattle.entry_codec.specs.declared.numbers.TheConstants.{ERRNO_ENAMETOOLONG, ERRNO_ENOENT}
use Rattle.entry_codec.specs.declared.numbers.TheConstants.{ERRNO_ENOTDIR, ERRNO_ENOTEMPTY}
use Rattle.entry_codec.specs.declared.numbers.TheConstants.{ERRNO_ENOTSUP, ERRNO_ENXIO, ERRNO_EPERM}
use Rattle.entry_codec.specs.declared.numbers.TheConstants.{ERRNO_EPIPE, ERRNO_ESPIPE}
use Rattle.entry_codec.specs.declared.numbers.TheConstants.{KIND_FILE, KIND_DIR, KIND_PIPE}
use Rattle.entry_codec.specs.declared.numbers.TheConstants.{KIND_LINK, KIND_FIFO, KIND_SOCKET}
use Rattle.entry_codec.specs.declared.numbers.TheConstants.{ASPECT_ENTRY, ASPECT_NAMES, ASPECT_SIZE}
use Rattle.entry_codec.specs.declared.numbers.TheConstants.{ASPECT_BLOCK, ASPECT_LINKS, ASPECT_ENDS}
use Rattle.entry_codec.specs.declared.numbers.TheConstants.{ASPECT_OFFSET, ASPECT_FRONT}
use Rattle.entry_codec.specs.declared.numbers.TheConstants.{ASPECT_BACK, ASPECT_TARGET}
use Rattle.entry_codec.specs.declared.numbers.TheConstants.{ASPECT_RIGHTS, WHY_CLASH}
use Rattle.entry_codec.specs.declared.numbers.TheConstants.{WHY_UNSUPPORTED}
use Rattle.entry_codec.specs.declared.numbers.TheConstants.{ANSWER_DONE, ANSWER_FD, ANSWER_COUNT}
use Rattle.entry_codec.specs.declared.numbers.TheConstants.{ANSWER_PLACE, ANSWER_BYTES, ANSWER_PAIR}
use Rattle.entry_codec.specs.declared.numbers.TheConstants.{ANSWER_STAT, ANSWER_NAMES, ANSWER_CHILD}
use Rattle.entry_codec.specs.declared.numbers.TheConstants.{REPLY_ANSWER, REPLY_ERRNO, REPLY_BEGUN}
use Rattle.entry_codec.specs.declared.numbers.TheConstants.{REPLY_COMMITTED, REPLY_GIVEN_UP}
use Rattle.entry_codec.specs.declared.numbers.TheConstants.{REPLY_ABORTED, REPLY_BUSY}
use Rattle.entry_codec.specs.declared.numbers.TheConstants.{REPLY_IN_TRANSACTION}
use Rattle.entry_codec.specs.declared.numbers.TheConstants.{REPLY_NOT_IN_TRANSACTION}
use Rattle.entry_codec.specs.declared.numbers.TheConstants.{REPLY_HISTORY_FULL, REPLY_NO_MEMORY}
use Rattle.entry_codec.specs.declared.numbers.TheConstants.{REPLY_NO_PROCESS}
use Rattle.entry_codec.specs.Parts.{u16_bytes, u32_bytes, u64_bytes, text_bytes, IsText}
use Rattle.entry_codec.specs.Parts.{flag_bytes, list_bytes, IsList}

abbrev pub errno_number : Errno → ℕ
errno_number errno.EAGAIN = ERRNO_EAGAIN
errno_number errno.EBADF = ERRNO_EBADF
errno_number errno.EBUSY = ERRNO_EBUSY
errno_number errno.EEXIST = ERRNO_EEXIST
errno_number errno.EFBIG = ERRNO_EFBIG
errno_number errno.EINVAL = ERRNO_EINVAL
errno_number errno.EISDIR = ERRNO_EISDIR
errno_number errno.ELOOP = ERRNO_ELOOP
errno_number errno.EMFILE = ERRNO_EMFILE
errno_number errno.ENAMETOOLONG = ERRNO_ENAMETOOLONG
errno_number errno.ENOENT = ERRNO_ENOENT
errno_number errno.ENOTDIR = ERRNO_ENOTDIR
errno_number errno.ENOTEMPTY = ERRNO_ENOTEMPTY
errno_number errno.ENOTSUP = ERRNO_ENOTSUP
errno_number errno.ENXIO = ERRNO_ENXIO
errno_number errno.EPERM = ERRNO_EPERM
errno_number errno.EPIPE = ERRNO_EPIPE
errno_number errno.ESPIPE = ERRNO_ESPIPE

abbrev pub kind_number : Kind → ℕ
kind_number kind.File = KIND_FILE
kind_number kind.Dir = KIND_DIR
kind_number kind.Pipe = KIND_PIPE
kind_number kind.Link = KIND_LINK
kind_number kind.Fifo = KIND_FIFO
kind_number kind.Socket = KIND_SOCKET

-- ---- why an operation is aborted or put off

unfoldable pub aspect_bytes : Aspect → List ℕ
aspect_bytes (aspect.Entry directory name) = ASPECT_ENTRY ∷ u64_bytes directory ++ text_bytes name
aspect_bytes (aspect.Names directory) = ASPECT_NAMES ∷ u64_bytes directory
aspect_bytes (aspect.Size file) = ASPECT_SIZE ∷ u64_bytes file
aspect_bytes (aspect.Block file block) = ASPECT_BLOCK ∷ u64_bytes file ++ u32_bytes block
aspect_bytes (aspect.Links file) = ASPECT_LINKS ∷ u64_bytes file
aspect_bytes (aspect.Ends pipe) = ASPECT_ENDS ∷ u64_bytes pipe
aspect_bytes (aspect.Offset description) = ASPECT_OFFSET ∷ u64_bytes description
aspect_bytes (aspect.Front pipe) = ASPECT_FRONT ∷ u64_bytes pipe
aspect_bytes (aspect.Back pipe) = ASPECT_BACK ∷ u64_bytes pipe
aspect_bytes (aspect.Target link) = ASPECT_TARGET ∷ u64_bytes link
aspect_bytes (aspect.Rights inode) = ASPECT_RIGHTS ∷ u64_bytes inode

unfoldable pub IsAspect : Aspect → Type 0
IsAspect (aspect.Entry directory name) = (directory < 2 ^ 64) × IsText name
IsAspect (aspect.Names directory) = directory < 2 ^ 64
IsAspect (aspect.Size file) = file < 2 ^ 64
IsAspect (aspect.Block file block) = (file < 2 ^ 64) × (block < 2 ^ 32)
IsAspect (aspect.Links file) = file < 2 ^ 64
IsAspect (aspect.Ends pipe) = pipe < 2 ^ 64
IsAspect (aspect.Offset description) = description < 2 ^ 64
IsAspect (aspect.Front pipe) = pipe < 2 ^ 64
IsAspect (aspect.Back pipe) = pipe < 2 ^ 64
IsAspect (aspect.Target link) = link < 2 ^ 64
IsAspect (aspect.Rights inode) = inode < 2 ^ 64

abbrev pub touch_bytes : Touch → List ℕ
touch_bytes touch = aspect_bytes touch.aspect ++ flag_bytes touch.write

abbrev pub cause_bytes : Cause → List ℕ
cause_bytes cause = touch_bytes cause.touch ++ u32_bytes cause.other

abbrev pub IsCause : Cause → Type 0
IsCause cause = IsAspect cause.touch.aspect × (cause.other < 2 ^ 32)

unfoldable pub why_bytes : Why → List ℕ
why_bytes (why.Clash cause) = WHY_CLASH ∷ cause_bytes cause
why_bytes why.Unsupported = WHY_UNSUPPORTED ∷ []

unfoldable pub IsWhy : Why → Type 0
IsWhy (why.Clash cause) = IsCause cause
IsWhy why.Unsupported = Unit {0}

-- ---- answers

abbrev pub rights_bytes : Rights → List ℕ
rights_bytes rights =
    u16_bytes rights.permissions ++ u32_bytes rights.owner.user ++ u32_bytes rights.owner.group

abbrev pub IsRights : Rights → Type 0
IsRights rights =
    (rights.permissions < 4096) × (rights.owner.user < 2 ^ 32) × (rights.owner.group < 2 ^ 32)

abbrev pub stat_bytes : Stat → List ℕ
stat_bytes stat =
    kind_number stat.kind ∷ u64_bytes stat.num ++ u32_bytes stat.size ++ u32_bytes stat.links
    ++ rights_bytes stat.rights

abbrev pub IsStat : Stat → Type 0
IsStat stat =
    (stat.num < 2 ^ 64) × (stat.size < 2 ^ 32) × (stat.links < 2 ^ 32) × IsRights stat.rights

abbrev pub names_bytes : List (List ℕ) → List ℕ
names_bytes names = list_bytes text_bytes names

abbrev pub AreNames : List (List ℕ) → Type 0
AreNames names = IsList IsText names

unfoldable pub answer_bytes : Answer → List ℕ
answer_bytes answer.Done = ANSWER_DONE ∷ []
answer_bytes (answer.Fd fd) = ANSWER_FD ∷ u32_bytes fd
answer_bytes (answer.Count count) = ANSWER_COUNT ∷ u32_bytes count
answer_bytes (answer.Place place) = ANSWER_PLACE ∷ u32_bytes place
answer_bytes (answer.Bytes bytes) = ANSWER_BYTES ∷ text_bytes bytes
answer_bytes (answer.Pair reader writer) = ANSWER_PAIR ∷ u32_bytes reader ++ u32_bytes writer
answer_bytes (answer.Stat stat) = ANSWER_STAT ∷ stat_bytes stat
answer_bytes (answer.Names names) = ANSWER_NAMES ∷ names_bytes names
answer_bytes (answer.Child pid) = ANSWER_CHILD ∷ u32_bytes pid

unfoldable pub IsAnswer : Answer → Type 0
IsAnswer answer.Done = Unit {0}
IsAnswer (answer.Fd fd) = fd < 2 ^ 32
IsAnswer (answer.Count count) = count < 2 ^ 32
IsAnswer (answer.Place place) = place < 2 ^ 32
IsAnswer (answer.Bytes bytes) = IsText bytes
IsAnswer (answer.Pair reader writer) = (reader < 2 ^ 32) × (writer < 2 ^ 32)
IsAnswer (answer.Stat stat) = IsStat stat
IsAnswer (answer.Names names) = AreNames names
IsAnswer (answer.Child pid) = pid < 2 ^ 32

-- ---- replies

unfoldable pub reply_bytes : Reply → List ℕ
reply_bytes (reply.Answer answer) = REPLY_ANSWER ∷ answer_bytes answer
reply_bytes (reply.Errno errno) = REPLY_ERRNO ∷ (errno_number errno ∷ [])
reply_bytes reply.Begun = REPLY_BEGUN ∷ []
reply_bytes reply.Committed = REPLY_COMMITTED ∷ []
reply_bytes (reply.GivenUp restarted) = REPLY_GIVEN_UP ∷ flag_bytes restarted
reply_bytes (reply.Aborted why restarted) = REPLY_ABORTED ∷ why_bytes why ++ flag_bytes restarted
reply_bytes (reply.Busy cause) = REPLY_BUSY ∷ cause_bytes cause
reply_bytes reply.InTransaction = REPLY_IN_TRANSACTION ∷ []
reply_bytes reply.NotInTransaction = REPLY_NOT_IN_TRANSACTION ∷ []
reply_bytes reply.HistoryFull = REPLY_HISTORY_FULL ∷ []
reply_bytes reply.NoMemory = REPLY_NO_MEMORY ∷ []
reply_bytes reply.NoProcess = REPLY_NO_PROCESS ∷ []

unfoldable pub IsReply : Reply → Type 0
IsReply (reply.Answer answer) = IsAnswer answer
IsReply (reply.Errno errno) = Unit {0}
IsReply reply.Begun = Unit {0}
IsReply reply.Committed = Unit {0}
IsReply (reply.GivenUp restarted) = Unit {0}
IsReply (reply.Aborted why restarted) = IsWhy why
IsReply (reply.Busy cause) = IsCause cause
IsReply reply.InTransaction = Unit {0}
IsReply reply.NotInTransaction = Unit {0}
IsReply reply.HistoryFull = Unit {0}
IsReply reply.NoMemory = Unit {0}
IsReply reply.NoProcess = Unit {0}
