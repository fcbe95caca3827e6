use Rattle.std.proofs.Common.{Option, sym, ap, ◌∙◌}
use Rattle.std.specs.Option.{is_some}
use Rattle.model.specs.FiniteMap as finite
use Rattle.nodes.specs.Parts.{nodes_in}
use Rattle.nodes.specs.Tables.{with_entry}
use Rattle.nodes.specs.declared.node.Node.{Node}
use Rattle.nodes.proofs.Written.{changed_at, missing_at}
use Rattle.nodes.proofs.list.put_in.Goals as goal

pub returns-in-Some-clause-nodes : goal.returns-in-Some-clause-nodes
returns-in-Some-clause-nodes c =
    changed_at (λ (o : Option Node). with_entry c.args.number c.args.entry o (nodes_in c.args.nodes.now)) c.args.number c.args.nodes.now.entries c.in-Some.node.now c.put.new.self (c.get_mut.follows.lender c.put.new.self).entries c.in-Some.ensures.value ((c.get_mut.follows.holds c.put.new.self).3 (ap is_some (sym c.in-Some.ensures.value))).0 (ap (λ (n : Node). finite.insert (nodes_in c.args.nodes.now) c.args.number n) c.put.ensures)

pub returns-in-None-clause-nodes : goal.returns-in-None-clause-nodes
returns-in-None-clause-nodes c =
    ap nodes_in c.get_mut.follows.holds-at-none
    ∙ missing_at (λ (o : Option Node). with_entry c.args.number c.args.entry o (nodes_in c.args.nodes.now)) c.args.number c.args.nodes.now.entries c.in-None.ensures.value
