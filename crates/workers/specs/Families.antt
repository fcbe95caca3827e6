-- The ports of processes, each followed by those of its children.
use Rattle.std.specs.Prelude.{◌≡◌, ℕ, List, [], ◌∷◌, ◌++◌}
use Rattle.std.specs.List.{AllByRecursion}
use Rattle.ids.specs.declared.call.Op.{Op}
use Rattle.ids.specs.declared.call.Op.TheVariants as op
use Rattle.ids.specs.declared.call.Call.TheVariants as call
use Rattle.ids.specs.declared.reply.Answer.TheVariants as answer
use Rattle.ids.specs.declared.reply.Reply.{Reply}
use Rattle.ids.specs.declared.reply.Reply.TheVariants as reply
use Rattle.script.specs.declared.read.Line.{Line}
use Rattle.script.specs.Steps.{ops_for}
use Rattle.workers.specs.Work.{IsWork}

-- the child that a fork was answered, if any
abbrev pub child_of : Op → Reply → List ℕ
child_of (op.Call call.Fork) (reply.Answer (answer.Child child)) = child ∷ []
child_of _ _ = []

-- the children of a process, in the order in which they were made
abbrev pub children : List (Op × Reply) → List ℕ
children [] = []
children (done ∷ rest) = child_of done.0 done.1 ++ children rest

-- The ports are those of the waiting processes, family by family: the first port is that of the
-- first process, then come the families of its children, in order, and then those of the others.
-- Each leads to the kernel h, and its list is work of its process's lines.
abbrev pub AreFamilies : {P H : Type 0} → (P → ℕ) → (P → H) → (P → List (Op × Reply)) → List Line
    → H → List ℕ → List P → Type 0
AreFamilies number home done lines h waiting [] = waiting ≡ []
AreFamilies number home done lines h [] (port ∷ ports) = ⊥
AreFamilies number home done lines h (process ∷ others) (port ∷ ports) = (number port ≡ process)
    × (home port ≡ h)
    × IsWork (ops_for process lines) (done port)
    × AreFamilies number home done lines h (children (done port) ++ others) ports

-- all lead to one kernel
abbrev pub HaveOneHome : {P H : Type 0} → (P → H) → List P → Type 0
HaveOneHome home [] = Unit {0}
HaveOneHome home (port ∷ ports) = AllByRecursion (λ other. home other ≡ home port) ports
