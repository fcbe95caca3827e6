use Rattle.std.proofs.Common.{◌≡◌, ◌++◌, [], ◌∷◌, true, false, Some, None, sym, ap, ◌∙◌}
use Rattle.std.specs.Option.{option_copied}
use Rattle.model.specs.FiniteMap as map
use Rattle.nodes.specs.Parts.{Stored}
use Rattle.nodes.specs.Tables.{is_attached, is_this}
use Rattle.nodes.proofs.Ways.{at_root, further, unattached, unattached_above, no_step}
use Rattle.nodes.proofs.nodes.Nodes.+put_way.Goals as goal

pub returns-then-most-eq0 : goal.returns-then-most-eq0
returns-then-most-eq0 t c = no_step c.args.self.now.table c.args.most c.args.number c.if-most-eq0.true

pub returns-in_default : goal.returns-in_default
returns-in_default t c =
    let none : map.get c.args.self.now.table.nodes c.args.number ≡ None
    = ap (λ (s : Stored). map.get s.table.nodes c.args.number) (sym c.self.view_is) ∙ sym c.get.ensures ∙ ap option_copied c.in_default.is in
    at_root c.args.self.now.table c.args.most c.args.number c.args.out.now.items c.if-most-eq0.false none

pub returns-then-not-leads_to : goal.returns-then-not-leads_to
returns-then-not-leads_to t c =
    let there : map.get c.args.self.now.table.nodes c.args.number ≡ Some c.in-Some.node.now
    = ap (λ (s : Stored). map.get s.table.nodes c.args.number) (sym c.self.view_is) ∙ sym c.get.ensures ∙ ap option_copied c.in-Some.is in
    let off : is_attached c.args.self.now.table c.args.number c.in-Some.node.now ≡ false
    = ap (λ (s : Stored). is_this c.args.number (map.get s.table.numbers c.in-Some.node.now.entry)) (sym c.self.view_is) ∙ sym c.leads_to.ensures ∙ c.if-not-leads_to.true in
    unattached c.args.self.now.table c.args.most c.args.number c.in-Some.node.now c.if-most-eq0.false there off

pub returns-in_default-2 : goal.returns-in_default-2
returns-in_default-2 t c =
    let there : map.get c.args.self.now.table.nodes c.args.number ≡ Some c.in-Some.node.now
    = ap (λ (s : Stored). map.get s.table.nodes c.args.number) (sym c.self.view_is) ∙ sym c.get.ensures ∙ ap option_copied c.in-Some.is in
    let on : is_attached c.args.self.now.table c.args.number c.in-Some.node.now ≡ true
    = ap (λ (s : Stored). is_this c.args.number (map.get s.table.numbers c.in-Some.node.now.entry)) (sym c.self.view_is) ∙ sym c.leads_to.ensures ∙ c.if-not-leads_to.false in
    let h = rw c.in_default-2.is at c.in_ok-root.ensures in
    unattached_above c.args.self.now.table c.args.most c.args.number c.in-Some.node.now c.if-most-eq0.false there on h

pub returns : goal.returns
returns t c =
    let there : map.get c.args.self.now.table.nodes c.args.number ≡ Some c.in-Some.node.now
    = ap (λ (s : Stored). map.get s.table.nodes c.args.number) (sym c.self.view_is) ∙ sym c.get.ensures ∙ ap option_copied c.in-Some.is in
    let on : is_attached c.args.self.now.table c.args.number c.in-Some.node.now ≡ true
    = ap (λ (s : Stored). is_this c.args.number (map.get s.table.numbers c.in-Some.node.now.entry)) (sym c.self.view_is) ∙ sym c.leads_to.ensures ∙ c.if-not-leads_to.false in
    let h = rw c.in-Some-2.is at c.in_ok-root.ensures in
    let put : c.extend_from_slice.new.self.items ≡ (c.put_way.new.out.items ++ 47 ∷ []) ++ c.in-Some.node.now.entry.name = cc (c.in_ok-extend_from_slice.ensures.items, c.in_ok-push.ensures.items, c.as_slice.ensures) in
    further c.args.self.now.table c.args.most c.args.number c.in-Some-2.root c.in-Some.node.now c.args.out.now.items c.put_way.new.out.items c.extend_from_slice.new.self.items c.if-most-eq0.false there on h put
