-- The words of the operations.
use Rattle.std.specs.Prelude.{ℕ, List, Option, Some, None, codes, if◌then◌else◌}
use Rattle.std.specs.Str.{bytes_eq}
use Rattle.script.specs.declared.verb.Verb.{Verb}
use Rattle.script.specs.declared.verb.Verb.TheVariants as verb
use Rattle.script.specs.declared.verb.FdVerb.TheVariants as fd
use Rattle.script.specs.declared.verb.PathVerb.TheVariants as path
use Rattle.script.specs.declared.verb.PathsVerb.TheVariants as paths
use Rattle.script.specs.declared.verb.BareVerb.TheVariants as bare

abbrev pub bare_verb_in : List ℕ → Option Verb
bare_verb_in word =
    if bytes_eq word (codes "pipe") then Some (verb.Bare bare.Pipe)
    else if bytes_eq word (codes "fork") then Some (verb.Bare bare.Fork)
    else if bytes_eq word (codes "exit") then Some (verb.Bare bare.Exit)
    else if bytes_eq word (codes "end") then Some (verb.Bare bare.End)
    else if bytes_eq word (codes "begin") then Some (verb.Bare bare.Begin)
    else if bytes_eq word (codes "abort") then Some (verb.Bare bare.Abort) else None

abbrev pub path_verb_in : List ℕ → Option Verb
path_verb_in word =
    if bytes_eq word (codes "stat") then Some (verb.OnPath path.Stat)
    else if bytes_eq word (codes "unlink") then Some (verb.OnPath path.Unlink)
    else if bytes_eq word (codes "mkdir") then Some (verb.OnPath path.Mkdir)
    else if bytes_eq word (codes "rmdir") then Some (verb.OnPath path.Rmdir)
    else if bytes_eq word (codes "list") then Some (verb.OnPath path.List)
    else if bytes_eq word (codes "readlink") then Some (verb.OnPath path.Readlink)
    else if bytes_eq word (codes "lstat") then Some (verb.OnPath path.Lstat)
    else if bytes_eq word (codes "link") then Some (verb.OnPaths paths.Link)
    else if bytes_eq word (codes "rename") then Some (verb.OnPaths paths.Rename)
    else if bytes_eq word (codes "exchange") then Some (verb.OnPaths paths.Exchange)
    else if bytes_eq word (codes "symlink") then Some (verb.OnPaths paths.Symlink)
    else bare_verb_in word

-- of those that set permissions and owners
abbrev pub rights_verb_in : List ℕ → Option Verb
rights_verb_in word =
    if bytes_eq word (codes "chmod") then Some verb.Chmod
    else if bytes_eq word (codes "chown") then Some verb.Chown
    else if bytes_eq word (codes "fchmod") then Some (verb.OnFd fd.Fchmod)
    else if bytes_eq word (codes "fchown") then Some (verb.OnFd fd.Fchown)
    else path_verb_in word

-- the operation that a word names
abbrev pub verb_in : List ℕ → Option Verb
verb_in word =
    if bytes_eq word (codes "open") then Some verb.Open
    else if bytes_eq word (codes "close") then Some (verb.OnFd fd.Close)
    else if bytes_eq word (codes "fstat") then Some (verb.OnFd fd.Fstat)
    else if bytes_eq word (codes "dup") then Some (verb.OnFd fd.Dup)
    else if bytes_eq word (codes "read") then Some (verb.OnFd fd.Read)
    else if bytes_eq word (codes "pread") then Some (verb.OnFd fd.Pread)
    else if bytes_eq word (codes "write") then Some verb.Write
    else if bytes_eq word (codes "pwrite") then Some verb.Pwrite
    else if bytes_eq word (codes "fill") then Some verb.Fill
    else if bytes_eq word (codes "pfill") then Some verb.Pfill
    else if bytes_eq word (codes "lseek") then Some (verb.OnFd fd.Lseek)
    else if bytes_eq word (codes "ftruncate") then Some (verb.OnFd fd.Ftruncate)
    else if bytes_eq word (codes "truncate") then Some verb.Truncate
    else if bytes_eq word (codes "fallocate") then Some (verb.OnFd fd.Fallocate)
    else if bytes_eq word (codes "dup2") then Some (verb.OnFd fd.Dup2)
    else if bytes_eq word (codes "mknod") then Some verb.Mknod else rights_verb_in word
