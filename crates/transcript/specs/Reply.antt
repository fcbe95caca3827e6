-- How replies are printed.
use Rattle.std.specs.Prelude.{ℕ, List, [], ◌++◌, Bool, codes}
use Rattle.std.specs.Prelude.{decimal, flat_map, length, if◌then◌else◌}
use Rattle.ids.specs.Errnos.{errno_name}
use Rattle.ids.specs.declared.aspect.Aspect.{Aspect}
use Rattle.ids.specs.declared.aspect.Aspect.TheVariants as aspect
use Rattle.ids.specs.declared.aspect.Cause.{Cause}
use Rattle.ids.specs.declared.aspect.Why.{Why}
use Rattle.ids.specs.declared.aspect.Why.TheVariants as why
use Rattle.ids.specs.declared.reply.Kind.{Kind}
use Rattle.ids.specs.declared.reply.Kind.TheVariants as kind
use Rattle.ids.specs.declared.reply.Stat.{Stat}
use Rattle.ids.specs.declared.reply.Answer.{Answer}
use Rattle.ids.specs.declared.reply.Answer.TheVariants as answer
use Rattle.ids.specs.declared.reply.Reply.{Reply}
use Rattle.ids.specs.declared.reply.Reply.TheVariants as reply
use Rattle.transcript.specs.Rights.{rights_text}
use Rattle.transcript.specs.Text.{text_of}

abbrev pub aspect_text : Aspect → List ℕ
aspect_text (aspect.Entry directory name) = codes "entry " ++ text_of name
aspect_text (aspect.Names directory) = codes "names"
aspect_text (aspect.Size file) = codes "size"
aspect_text (aspect.Block file block) = codes "block " ++ decimal block
aspect_text (aspect.Links file) = codes "links"
aspect_text (aspect.Ends pipe) = codes "ends"
aspect_text (aspect.Offset description) = codes "offset"
aspect_text (aspect.Front pipe) = codes "front"
aspect_text (aspect.Back pipe) = codes "back"
aspect_text (aspect.Target link) = codes "target"
aspect_text (aspect.Rights inode) = codes "rights"

abbrev pub access_text : Bool → List ℕ
access_text write = if write then codes " write" else codes " read"

abbrev pub cause_text : Cause → List ℕ
cause_text cause =
    aspect_text cause.touch.aspect ++ access_text cause.touch.write ++ codes " by P"
    ++ decimal cause.other

abbrev pub why_text : Why → List ℕ
why_text (why.Clash cause) = cause_text cause
why_text why.Unsupported = codes "unsupported"

abbrev pub restarted_text : Bool → List ℕ
restarted_text restarted = if restarted then codes " restarted" else []

abbrev pub kind_text : Kind → List ℕ
kind_text kind.File = codes "file"
kind_text kind.Dir = codes "dir"
kind_text kind.Pipe = codes "pipe"
kind_text kind.Link = codes "link"
kind_text kind.Fifo = codes "fifo"
kind_text kind.Socket = codes "socket"

abbrev pub stat_text : Stat → List ℕ
stat_text stat =
    kind_text stat.kind ++ codes " size " ++ decimal stat.size ++ codes " links "
    ++ decimal stat.links ++ rights_text stat.kind stat.rights

-- a name behind a space
abbrev pub name_text : List ℕ → List ℕ
name_text name = codes " " ++ text_of name

abbrev pub names_text : List (List ℕ) → List ℕ
names_text names = codes "names " ++ decimal (length names) ++ flat_map name_text names

abbrev pub answer_text : Answer → List ℕ
answer_text answer.Done = codes "ok"
answer_text (answer.Fd fd) = decimal fd
answer_text (answer.Count count) = decimal count
answer_text (answer.Place offset) = decimal offset
answer_text (answer.Bytes bytes) = decimal (length bytes) ++ codes " " ++ text_of bytes
answer_text (answer.Pair reader writer) = decimal reader ++ codes " " ++ decimal writer
answer_text (answer.Stat stat) = stat_text stat
answer_text (answer.Names names) = names_text names
answer_text (answer.Child pid) = codes "child " ++ decimal pid

abbrev pub reply_text : Reply → List ℕ
reply_text (reply.Answer answer) = answer_text answer
reply_text (reply.Errno errno) = errno_name errno
reply_text reply.Begun = codes "begun"
reply_text reply.Committed = codes "committed"
reply_text (reply.GivenUp restarted) = codes "given up" ++ restarted_text restarted
reply_text (reply.Aborted why restarted) =
    codes "aborted " ++ why_text why ++ restarted_text restarted
reply_text (reply.Busy cause) = codes "busy " ++ cause_text cause
reply_text reply.InTransaction = codes "InTransaction"
reply_text reply.NotInTransaction = codes "NotInTransaction"
reply_text reply.HistoryFull = codes "HistoryFull"
reply_text reply.NoMemory = codes "NoMemory"
reply_text reply.NoProcess = codes "NoProcess"
