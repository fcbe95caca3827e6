use Rattle.std.proofs.Common.{◌≡◌, true, cond, sym, ap, ◌∙◌}
use Rattle.store.specs.Places.{is_over}
use Rattle.model.specs.FiniteMap as map
use Rattle.store.proofs.Counted.{counted-over}
use Rattle.store.proofs.Rows.{slot, store-freed}
use Rattle.store.proofs.Changes.{without_place}
use Rattle.store.proofs.Store.sweep.Goals as goal

pub invariant_of-self : goal.invariant_of-self
invariant_of-self c = counted-over _ _ _ c.self.invariant c.free_at.ensures (sym c.is_over_at.ensures ∙ c.if-is_over_at.true)

pub returns-then-is_over_at : goal.returns-then-is_over_at
returns-then-is_over_at c =
    let s = c.args.self.now in
    let over : is_over (map.get s.places c.args.num) ≡ true
    = ap is_over (sym (slot _ c.self.inside.headers _ c.self.view_is _ _ c.num.view_is)) ∙ sym c.is_over_at.ensures ∙ c.if-is_over_at.true in
    store-freed _ _ _ _ c.self.view_is _ _ c.num.view_is c.free_at.ensures ∙ sym (ap (λ b. cond b (without_place s c.args.num) s) over)

pub returns-else-is_over_at : goal.returns-else-is_over_at
returns-else-is_over_at c =
    let s = c.args.self.now in
    sym (ap (λ b. cond b (without_place s c.args.num) s) (ap is_over (sym (slot _ c.self.inside.headers _ c.self.view_is _ _ c.num.view_is)) ∙ sym c.is_over_at.ensures ∙ c.if-is_over_at.false))
