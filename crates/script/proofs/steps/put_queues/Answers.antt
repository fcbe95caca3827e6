use Rattle.std.proofs.Common.{◌≡◌, ◌∙◌, ◌∷◌, ◌++◌, List, [], ap, arith, replicate, rules}
use Rattle.std.proofs.lemmas.List.{replicate_more}
use Rattle.ids.specs.declared.call.Op.{Op}
use Rattle.script.specs.declared.limits.TheConstants.{PROCESS_NUMBERS_END}
use Rattle.script.proofs.steps.put_queues.Goals as goal

pub returns : goal.returns
returns c =
    let all : c.loop-count.count-index ≡ PROCESS_NUMBERS_END = omega (arith, c.requires.each, c.loop-count-test.false, c.loop-count.auto.count-index-end) in
    let grown : c.push-2.new.self.items ≡ c.loop-count.queues.items ++ [] ∷ [] = search rules in
    let so_far = c.loop-count.invariant ∙ ap (λ n. replicate {A = List Op} n []) all in
    grown ∙ ap (λ (queues : List (List Op)). queues ++ [] ∷ []) so_far ∙ replicate_more {X = List Op} PROCESS_NUMBERS_END []
