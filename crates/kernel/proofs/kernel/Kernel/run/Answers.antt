use Rattle.kernel.proofs.Words.{rules, ◌≡◌, ◌≤◌, ◌+◌, [], ◌∷◌, ◌++◌, length, refl, sym, ap, subst, ◌∙◌, append_assoc, append-nil, nil_from_length}
use Rattle.kernel.proofs.Words.{into_iter_items, limit_of, setup_of, serializable_at, Steps}
use Rattle.history_laws.specs.Headline.{IsSerializable}
use Rattle.std.specs.Vec.{vec_capacity}
use Rattle.kernel.proofs.kernel.Kernel.run.Goals as goal

pub loop-pid-preserved : goal.loop-pid-preserved
loop-pid-preserved c =
    let before = c.loop-pid.invariant in
    let first = c.in-Some.ensures.steps.0 in
    let pushed : c.push.new.self.items ≡ c.loop-pid.replies.items ++ c.step-reply.result ∷ [] = search rules in
    let count : length c.push.new.self.items + length (into_iter_items c.next.new.self) ≡ length c.args.ops.items = search rules in
    let room : length c.args.ops.items ≤ vec_capacity c.push.new.self = search rules in
    record {
      goes_on = λ rest last steps.
          subst (λ replies. Steps c.args.self.now c.args.ops.items replies last) (sym (ap (λ rs. rs ++ rest) pushed ∙ append_assoc c.loop-pid.replies.items (c.step-reply.result ∷ []) rest))
          (before.goes_on (c.step-reply.result ∷ rest) last (subst (λ ops. Steps c.loop-pid.self ops (c.step-reply.result ∷ rest) last) (sym first) (c.step-reply.new.self, c.step-reply.ensures.step, c.step-reply.ensures.kept, steps)));
      kept = c.step-reply.ensures.kept;
      count = count;
      room = room;
    }

pub returns-clause-steps : goal.returns-clause-steps
returns-clause-steps c =
    let zero : length (into_iter_items c.loop-pid.pid-iterator) ≡ 0 = search rules in
    let none : into_iter_items c.loop-pid.pid-iterator ≡ [] = nil_from_length _ zero in
    subst (λ replies. Steps c.args.self.now c.args.ops.items replies c.loop-pid.self) (append-nil c.loop-pid.replies.items)
    (c.loop-pid.invariant.goes_on [] c.loop-pid.self (subst (λ ops. Steps c.loop-pid.self ops [] c.loop-pid.self) (sym none) refl))

-- by the headline of legal histories
pub returns-clause-serial : goal.returns-clause-serial
returns-clause-serial c = serializable_at 0 _ _ _ _ c.loop-pid.invariant.kept.legal c.loop-pid.invariant.kept.state

pub returns-in_default-clause-serial : goal.returns-in_default-clause-serial
returns-in_default-clause-serial c = subst (λ v. IsSerializable 0 (setup_of v.log) (limit_of v.log) v.log.entries v.state) c.self.view_is (serializable_at 0 _ _ _ _ c.self.invariant.legal c.self.invariant.state)
