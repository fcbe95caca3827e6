use Rattle.std.proofs.Common.{◌≡◌, ℕ, ap, ◌∙◌}
use Rattle.std.specs.Ordering.{nat_cmp}
use Rattle.model.specs.FiniteMap as map
use Rattle.nodes.specs.DirectoryEntries.{entry_cmp}
use Rattle.nodes.specs.Parts.{Stored, table_of}
use Rattle.nodes.specs.Tables.{leading, led_both, placed_both, with_entry}
use Rattle.nodes.specs.declared.directory_entry.DirectoryEntry.{DirectoryEntry}
use Rattle.nodes.specs.declared.node.Node.{Node}
use Rattle.nodes.proofs.Orderly.{kept, led_given, placed_none}
use Rattle.nodes.proofs.nodes.Nodes.place_both.Goals as goal

-- two changes, one behind the other, are that of both
placed : (first second e f : DirectoryEntry) (one other : ℕ) (nodes mid new : map.FinMap nat_cmp Node) → e ≡ second → f ≡ first → mid ≡ with_entry one e (map.get nodes one) nodes → new ≡ with_entry other f (map.get mid other) mid → new ≡ placed_both first second one other nodes
placed first second e f one other nodes mid new at_second at_first once twice = cc

led : (first second e f : DirectoryEntry) (one other : ℕ) (numbers mid new : map.FinMap entry_cmp ℕ) → e ≡ second → f ≡ first → mid ≡ leading e one (map.get numbers e) numbers → new ≡ leading f other (map.get mid f) mid → new ≡ led_both first second one other numbers
led first second e f one other numbers mid new at_second at_first once twice = cc

pub invariant_of-self : goal.invariant_of-self
invariant_of-self c =
    let t = table_of c.self.inside.list.nodes c.self.inside.index.numbers c.self.inside.births.counts c.self.inside.next in
    let is : map.get t.numbers c.args.first ≡ _ = ap (λ (s : Stored). map.get s.table.numbers c.args.first) c.self.view_is ∙ c.requires.first in
    let also : map.get t.numbers c.args.second ≡ _ = ap (λ (s : Stored). map.get s.table.numbers c.args.second) c.self.view_is ∙ c.requires.second in (
      c.self.invariant.0,
      kept t c.put-2.new.self.nodes c.lead-2.new.self.numbers c.self.invariant.1
          (rw (placed c.args.first c.args.second _ _ c.args.one c.args.other t.nodes _ _ c.into_both-at_second.ensures.entry c.into_both-at_first.ensures.entry c.put.ensures.nodes c.put-2.ensures.nodes)
          (placed_none t.nodes c.args.first c.args.second c.args.one c.args.other))
          (rw (led c.args.first c.args.second _ _ c.args.one c.args.other t.numbers _ _ c.entry.ensures c.entry-2.ensures c.lead.ensures.numbers c.lead-2.ensures.numbers)
          (led_given t c.args.first c.args.second c.args.one c.args.other c.self.invariant.1 is also)),
    )
