use Rattle.std.proofs.Common.{◌∙◌, ap, arith, rules, [], List, get_or, length}
use Rattle.std.proofs.lemmas.List.{get_or-replicate, length-replicate}
use Rattle.ids.specs.declared.call.Op.{Op}
use Rattle.script.specs.declared.steps.TheConstants.{QUEUES}
use Rattle.script.proofs.steps.fill.Goals as goal

pub loop-line-init : goal.loop-line-init
loop-line-init c = (
  search rules,
  search rules,
  ap length c.requires ∙ length-replicate {A = List Op} QUEUES [],
  λ p below. ap (λ (xs : List (List Op)). get_or xs p []) c.requires ∙ get_or-replicate {A = List Op} QUEUES p [] [] (omega arith),
)
