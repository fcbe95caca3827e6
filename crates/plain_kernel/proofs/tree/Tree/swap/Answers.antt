use Rattle.std.proofs.Common.{Some, nat_cmp, sym, ap, ◌∙◌, rules}
use Rattle.std.specs.Cmp.{nat_cmp_total}
use Rattle.model.specs.FiniteMap as map
use Rattle.plain_kernel.proofs.Trees.{get_at, inserted, swapped_none, swapped_some}
use Rattle.plain_kernel.proofs.tree.Tree.swap.Goals as goal
use Rattle.plain_kernel.proofs.tree.Tree.swap.Goals.{in-Some, in-None}

pub returns-clause-before : goal.returns-clause-before
returns-clause-before g c =
    let there = sym (get_at nat_cmp_total c.self.inside.slots.entries c.args.num) ∙ ap (λ m. map.get m c.args.num) c.self.view_is in
    elim c.match-get_mut.branch [
      | in-Some w ↦ w.result-is ∙ ap Some w.replace.ensures.value ∙ w.in-Some.ensures.value ∙ there
      | in-None w ↦ w.result-is ∙ w.in-None.ensures.value ∙ there
    ]

pub returns-clause-changed : goal.returns-clause-changed
returns-clause-changed g c = elim c.match-get_mut.branch [
  | in-Some w ↦ swapped_some _ _ c.match-get_mut.result _ w.result-is (λ _.
      ap (λ t. map.from_entries {R = nat_cmp} t.slots.entries) w.self-inside-is
      ∙ inserted nat_cmp_total map.nat_cmp-IsAntisymmetric c.self.inside.slots.entries (c.get_mut.follows.lender w.replace.new.dest).entries c.args.num w.replace.new.dest ((c.get_mut.follows.holds w.replace.new.dest).3 (search rules)).0
      ∙ ap (λ m. map.insert m c.args.num w.replace.new.dest) c.self.view_is ∙ ap (map.insert c.args.self.now c.args.num) w.replace.ensures.after)
  | in-None w ↦ swapped_none _ _ c.match-get_mut.result w.result-is (ap (λ t. map.from_entries {R = nat_cmp} t.slots.entries) w.self-inside-is
      ∙ ap (λ t. map.from_entries {R = nat_cmp} t.entries) c.get_mut.follows.holds-at-none ∙ c.self.view_is)
]
