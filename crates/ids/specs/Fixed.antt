-- Objects whose content never changes (POSIX.1-2017, 3.381 Symbolic Link, 3.164 FIFO Special File).
use Rattle.std.specs.Prelude.{ℕ, List, []}
use Rattle.ids.specs.declared.fixed.Fixed.{Fixed}
use Rattle.ids.specs.declared.fixed.Fixed.TheVariants.{Link, Fifo, Socket}
use Rattle.ids.specs.declared.fixed.Special.{Special}
use Rattle.ids.specs.declared.fixed.Special.TheVariants as Asked
use Rattle.ids.specs.declared.reply.Kind.{Kind}
use Rattle.ids.specs.declared.reply.Kind.TheVariants as Kinds

abbrev pub fixed_kind : Fixed → Kind
fixed_kind (Link target) = Kinds.Link
fixed_kind Fifo = Kinds.Fifo
fixed_kind Socket = Kinds.Socket

-- a symbolic link's target, empty for what has none
abbrev pub fixed_target : Fixed → List ℕ
fixed_target (Link target) = target
fixed_target Fifo = []
fixed_target Socket = []

-- what `mknod` makes
abbrev pub special_object : Special → Fixed
special_object Asked.Fifo = Fifo
special_object Asked.Socket = Socket
