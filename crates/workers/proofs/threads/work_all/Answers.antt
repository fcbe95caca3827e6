use Rattle.std.proofs.Common.{rules, ◌≡◌, ◌++◌, [], ◌∷◌, map, ℕ, List, append_assoc, sym, subst, ap, ◌∙◌}
use Rattle.std.specs.List.{AllByRecursion}
use Rattle.workers.specs.Threads.{promised, promises}
use Rattle.std.proofs.ByRecursion.{All-push}
use Rattle.std.proofs.lemmas.List.{map_push}
use Rattle.workers.proofs.threads.work_all.Goals as goal

pub loop-port-preserved : goal.loop-port-preserved
loop-port-preserved g c =
    let lines = c.args.lines.now in
    let promise = c.new-promise.result in
    let old = c.loop-port.threads.items in
    let rest = map g.P.Port.number c.pop_front.new.self.items in
    let more : promises c.start.new.threads.items ≡ promises old ++ promise ∷ [] = search rules in
    let is : promise.lines.value ≡ lines = search rules in
    let next : promise.process ∷ rest ≡ map g.P.Port.number c.loop-port.ports.items = search rules in
    record {
      fresh = search rules;
      home = search rules;
      over = subst (λ (ps : List _). AllByRecursion (λ p. p.lines.value ≡ lines) ps) (sym more) (All-push (λ p. p.lines.value ≡ lines) (promises old) promise c.loop-port.invariant.over is);
      numbers = λ unstopped.
          ap (λ (ps : List _). map (λ p. p.process) ps ++ rest) more
          ∙ ap (λ (xs : List ℕ). xs ++ rest) (map_push (λ p. p.process) (promises old) promise)
          ∙ append_assoc (promised old) (promise.process ∷ []) rest
          ∙ ap (λ (xs : List ℕ). promised old ++ xs) next
          ∙ c.loop-port.invariant.numbers unstopped;
    }
