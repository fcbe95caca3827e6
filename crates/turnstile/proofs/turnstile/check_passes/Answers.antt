use Rattle.std.proofs.Common.{rules, ◌≡◌, Some, sym, ap, ◌∙◌, subst, arith}
use Rattle.std.proofs.lemmas.List.Elements.{All-pop}
use mathlib.Core.Option.{none}
use Rattle.atomic_table.specs.Table.{Me, Step, step}
use Rattle.history.specs.Log.{Log}
use Rattle.turnstile.specs.Histories.{IsLegal}
use Rattle.turnstile.specs.Passes.{PassView, Gate, gate_of, pass_of}
use Rattle.turnstile.specs.Calls.{KeepsPass}
use Rattle.turnstile.specs.Holding.{IsClosing, closer_of}
use Rattle.turnstile.specs.declared.rule.Role.{Role}
use Rattle.turnstile.proofs.Calls.{history}
use Rattle.turnstile.proofs.Steps.{collects_at, checks_at}
use Rattle.turnstile.proofs.Closing.{collected_is, checks_pass, one_more}
use Rattle.turnstile.proofs.turnstile.check_passes.Goals as goal

pub join_seat-requires : goal.join_seat-requires
join_seat-requires g c = let inv = c.loop-pass.invariant in let gates = All-pop (λ (p : PassView). p.gate ≡ gate_of c.args.lock.now.shared.table_id c.args.lock.now.shared.key.value) c.loop-pass.passes.items c.pop.new.self.items (Some c.in-Some.pass) c.in-Some.ensures.items inv.gates in
    let closing = subst IsClosing (sym inv.me) c.requires.seat.1 in let rest = ap (λ (m : Me _ Role). m.0) c.pass.invariant.0 in (
      inv.same.0 ∙ c.requires.seat.0,
      ap (λ (p : PassView). p.gate.table) c.pass.view_is ∙ ap (λ (g : Gate). g.table) gates.1,
      ap (λ (m : Me _ Role). m.1) c.pass.invariant.0,
      search rules,
      collects_at (history g.K.Machine.shown) IsLegal _ _ _ _ _ (closer_of c.loop-pass.seat.me.0) (pass_of c.pass.inside.seat.me.0) closing rest,
    )

pub load-requires : goal.load-requires
load-requires g c = let inv = c.loop-pass.invariant in let closing = subst IsClosing (sym inv.me) c.requires.seat.1 in let rest = ap (λ (m : Me _ Role). m.0) c.pass.invariant.0 in let j = c.join_seat.ensures in (
  j.0 ∙ (inv.same.0 ∙ c.requires.seat.0),
  search rules,
  checks_at (history g.K.Machine.shown) IsLegal _ _ _ _ (closer_of c.loop-pass.seat.me.0) (pass_of c.pass.inside.seat.me.0) (ap (λ (m : Me _ Role). m.0) j.2 ∙ collected_is c.loop-pass.seat.me.0 c.pass.inside.seat.me.0 closing rest),
)

abbrev any_step : {S : Type 0} → Step S
any_step = step 0 0 0 0 none

pub loop-pass-preserved : goal.loop-pass-preserved
loop-pass-preserved g c = let inv = c.loop-pass.invariant in let gates = All-pop (λ (p : PassView). p.gate ≡ gate_of c.args.lock.now.shared.table_id c.args.lock.now.shared.key.value) c.loop-pass.passes.items c.pop.new.self.items (Some c.in-Some.pass) c.in-Some.ensures.items inv.gates in
    let closing = subst IsClosing (sym inv.me) c.requires.seat.1 in let rest = ap (λ (m : Me _ Role). m.0) c.pass.invariant.0 in let j = c.join_seat.ensures in let l = c.load.ensures in
    let collected = checks_pass any_step c.join_seat.new.seat.me c.load.new.seat.me c.load.result c.pass.inside.seat.table_id c.loop-pass.seat.me.0 c.pass.inside.seat.me.0 c.loop-pass.seat.me.1 closing rest j.2 l.2 in
    let h : Log = closer_of c.args.seat.now.me.0 in
    let here : KeepsPass h c.in-Some.pass = subst (λ (x : Log × PassView). KeepsPass x.0 x.1) (λ i. (closer_of (inv.me i).0, c.pass.view_is i)) collected.1 in
    record {
      same = (l.0 ∙ (j.0 ∙ inv.same.0), l.1 ∙ (j.1 ∙ inv.same.1));
      me = collected.0 ∙ inv.me;
      gates = gates.0;
      checked = one_more (KeepsPass h) c.args.passes.items c.loop-pass.passes.items c.pop.new.self.items c.in-Some.pass c.in-Some.ensures.items here inv.checked;
    }

pub returns-clause-passes : goal.returns-clause-passes
returns-clause-passes g c = let z = c.in_default.ensures.cases in c.loop-pass.invariant.checked (λ k d l. absurd (omega arith))
