use Rattle.std.proofs.Common.{rules, ◌≡◌, ◌≤◌, ◌+◌, [], ◌∷◌, ◌++◌, length, refl, sym, ap, subst, ◌∙◌, vec_capacity}
use Rattle.std.proofs.lemmas.List.{append-nil, append_assoc, nil_from_length}
use Rattle.std.specs.Vec.Iter.{into_iter_items}
use Rattle.history_laws.proofs.Laws.{serializable_at}
use Rattle.machine.specs.Steps.{Steps}
use Rattle.kept.proofs.kept.Kept.run.Goals as goal

pub loop-pid-preserved : goal.loop-pid-preserved
loop-pid-preserved g c =
    let before = c.loop-pid.invariant in
    let first = c.in-Some.ensures.steps.0 in
    let pushed : c.push.new.self.items ≡ c.loop-pid.replies.items ++ c.step-reply.result ∷ [] = search rules in
    let count : length c.push.new.self.items + length (into_iter_items c.next.new.self) ≡ length c.args.ops.items = search rules in
    let room : length c.args.ops.items ≤ vec_capacity c.push.new.self = search rules in
    record {
      goes_on = λ rest last steps.
          subst (λ replies. Steps c.args.self.now.machine.shown c.args.ops.items replies last) (sym (ap (λ rs. rs ++ rest) pushed ∙ append_assoc c.loop-pid.replies.items (c.step-reply.result ∷ []) rest))
          (before.goes_on (c.step-reply.result ∷ rest) last (subst (λ ops. Steps c.loop-pid.self.machine.shown ops (c.step-reply.result ∷ rest) last) (sym first) (c.step-reply.new.self.machine.shown, c.step-reply.ensures.step, c.step-reply.ensures.kept, steps)));
      kept = c.step-reply.ensures.kept;
      stands = λ kept stands. c.step-reply.ensures.stands kept (before.stands kept stands);
      count = count;
      room = room;
    }

pub returns-clause-steps : goal.returns-clause-steps
returns-clause-steps g c =
    let zero : length (into_iter_items c.loop-pid.pid-iterator) ≡ 0 = search rules in
    let none : into_iter_items c.loop-pid.pid-iterator ≡ [] = nil_from_length _ zero in
    subst (λ replies. Steps c.args.self.now.machine.shown c.args.ops.items replies c.loop-pid.self.machine.shown) (append-nil c.loop-pid.replies.items)
    (c.loop-pid.invariant.goes_on [] c.loop-pid.self.machine.shown (subst (λ ops. Steps c.loop-pid.self.machine.shown ops [] c.loop-pid.self.machine.shown) (sym none) refl))

-- by the headline of legal histories
pub returns-clause-serial : goal.returns-clause-serial
returns-clause-serial g c = serializable_at 0 _ _ _ _ c.loop-pid.invariant.kept.legal c.loop-pid.invariant.kept.state
