use Rattle.std.proofs.Common.{rules, ◌≡◌, sym, subst, List}
use Rattle.std.proofs.lemmas.List.Elements.{recursion_from_All}
use mir.Syntax.{named}
use denote.Exit.{no}
use denote.Param.Send.{arg_send, param_send}
use Rattle.ports.proofs.Found.{one_home}
use Rattle.ports.proofs.Sent.{port_sent}
use Rattle.turnstile.specs.Passes.{PassView}
use Rattle.workers.specs.Families.{HaveOneHome}
use Rattle.ports.proofs.run.worked.Goals as goal

pub run_workers-requires-send-P : goal.run_workers-requires-send-P
run_workers-requires-send-P g c κs within = param_send 1 _ (arg_send _ no _ (port_sent (record { mir = named 3; lft = κs.1.1.1.0 }) _ g.K.Machine c.type_bounds.send-K))

pub run_workers-requires-clause-home : goal.run_workers-requires-clause-home
run_workers-requires-clause-home g c κs within =
    let same : c.in-Ok.ports.items ≡ c.args.passes.items = search rules in
    subst (λ (ps : List PassView). HaveOneHome (λ (p : PassView). p.gate) ps) (sym same)
    (one_home c.args.turnstile.now c.args.passes.items (recursion_from_All (λ (p : PassView). p.gate ≡ c.args.turnstile.now) c.args.passes.items c.requires.gates))
