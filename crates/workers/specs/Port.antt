-- What a port's list gains.
use Rattle.std.specs.Prelude.{ℕ, List, [], ◌∷◌, ◌++◌, Bool, true, false, if◌then◌else◌}
use Rattle.ids.specs.declared.call.Op.{Op}
use Rattle.ids.specs.declared.call.Op.TheVariants as op
use Rattle.ids.specs.declared.call.Call.TheVariants as call
use Rattle.ids.specs.declared.reply.Answer.TheVariants as answer
use Rattle.ids.specs.declared.reply.Reply.{Reply}
use Rattle.ids.specs.declared.reply.Reply.TheVariants as reply

abbrev pub fork : Op
fork = op.Call call.Fork

-- the reply of a fork that made this child
abbrev pub child_reply : ℕ → Reply
child_reply child = reply.Answer (answer.Child child)

-- An operation with one of these replies was not executed, and is no part of the list.
abbrev pub is_refusal : Reply → Bool
is_refusal reply.HistoryFull = true
is_refusal reply.NoMemory = true
is_refusal _ = false

-- the list with one more operation, unless it was refused
abbrev pub grown : List (Op × Reply) → Op → Reply → List (Op × Reply)
grown done operation r = if is_refusal r then done else done ++ (operation, r) ∷ []

-- the reply names no child
abbrev pub IsNoChild : Reply → Type 0
IsNoChild (reply.Answer (answer.Child child)) = ⊥
IsNoChild _ = Unit {0}
