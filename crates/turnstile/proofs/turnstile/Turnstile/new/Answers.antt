use Rattle.std.proofs.Common.{◌≡◌, ◌∙◌, ap, length, suc, sym, subst}
use Rattle.std.proofs.lemmas.List.Elements.{All-same}
use Rattle.turnstile.specs.Calls.{first_passes}
use Rattle.turnstile.specs.Holding.{Lives}
use Rattle.turnstile.specs.Passes.{PassView, gate_of}
use Rattle.turnstile.proofs.Closing.{first_gates}
use Rattle.turnstile.proofs.Living.{marks_small, marked_passes}
use Rattle.turnstile.proofs.turnstile.Turnstile.new.Goals as goal

pub deal-passes-requires-clause-made : goal.deal-passes-requires-clause-made
deal-passes-requires-clause-made g c = ap length c.as_slice.ensures.value ∙ (c.in-Ok.ensures.living.whole ∙ ap suc (sym c.in_ok-table.ensures.made))

pub deal-passes-requires-clause-small : goal.deal-passes-requires-clause-small
deal-passes-requires-clause-small g c = let lives : Lives (g.K.Machine.shown c.args.kernel).state c.as_slice.result.now = subst (Lives (g.K.Machine.shown c.args.kernel).state) (sym c.as_slice.ensures.value) c.in-Ok.ensures.living in
    marks_small (g.K.Machine.shown c.args.kernel).state c.as_slice.result.now lives

pub returns-clause-passes : goal.returns-clause-passes
returns-clause-passes g c = let lives : Lives (g.K.Machine.shown c.args.kernel).state c.as_slice.result.now = subst (Lives (g.K.Machine.shown c.args.kernel).state) (sym c.as_slice.ensures.value) c.in-Ok.ensures.living in
    marked_passes (gate_of c.in_ok-table.table.shared.table_id c.in_ok-table.table.shared.key.value) (g.K.Machine.shown c.args.kernel).state c.as_slice.result.now lives c.deal-passes.result.items c.deal-passes.ensures

pub returns-clause-gates : goal.returns-clause-gates
returns-clause-gates g c = let gate = gate_of c.in_ok-table.table.shared.table_id c.in_ok-table.table.shared.key.value in
    let lives : Lives (g.K.Machine.shown c.args.kernel).state c.as_slice.result.now = subst (Lives (g.K.Machine.shown c.args.kernel).state) (sym c.as_slice.ensures.value) c.in-Ok.ensures.living in
    All-same (λ (p : PassView). p.gate ≡ gate) c.deal-passes.result.items (first_passes gate (g.K.Machine.shown c.args.kernel).state) (marked_passes gate (g.K.Machine.shown c.args.kernel).state c.as_slice.result.now lives c.deal-passes.result.items c.deal-passes.ensures) (first_gates gate (g.K.Machine.shown c.args.kernel).state)
