use Rattle.std.proofs.Common.{rules, ◌≡◌, [], All, List, map, sym, subst}
use Rattle.std.proofs.lemmas.List.Elements.{All-from_recursion, recursion_from_All}
use Rattle.ports.proofs.Firsts.{IsFresh, firsts_begun, has_run, setup_for}
use Rattle.ports.proofs.Found.{AreWorked, gates}
use Rattle.script.specs.Contents.{AreValidPriorities}
use Rattle.model.specs.Moments.{start}
use Rattle.turnstile.specs.Calls.{KeepsPass, first_passes, living_numbers}
use Rattle.turnstile.specs.Histories.{Begins}
use Rattle.turnstile.specs.Passes.{PassView}
use Rattle.ports.proofs.run.run_threads.Goals as goal
use Rattle.ids.specs.Bounds.{bounds_of}

pub worked-requires-clause-begun : goal.worked-requires-clause-begun
worked-requires-clause-begun g c κs within =
    let first = start 0 (setup_for c.args.script.now c.args.limits) in
    let begun = All-from_recursion (λ (p : PassView). p.seen ≡ p.gate.start) (first_passes c.in-Ok.turnstile first) (firsts_begun c.in-Ok.turnstile (living_numbers first)) in
    subst (λ (ps : List PassView). All (λ (p : PassView). p.seen ≡ p.gate.start) ps) (sym (search rules)) begun

pub close-requires : goal.close-requires
close-requires g c =
    let came : AreWorked c.args.script.now.lines c.in-Ok.turnstile (map (λ (p : PassView). p.pid) c.in-Ok.passes.items) c.in_ok-passes.passes.items = search rules in
    All-from_recursion (λ (p : PassView). p.gate ≡ c.in-Ok.turnstile) c.in_ok-passes.passes.items
    (gates c.args.script.now.lines c.in-Ok.turnstile (map (λ (p : PassView). p.pid) c.in-Ok.passes.items) c.in_ok-passes.passes.items came)

pub returns-in-Some : goal.returns-in-Some
returns-in-Some g c =
    let script = c.args.script.now in
    let gate = c.in-Ok.turnstile in
    let first = start 0 (setup_for script c.args.limits) in
    let passes = c.in_ok-passes.passes.items in
    let valid : AreValidPriorities script.priorities = search rules in
    let begins : gate.start ≡ record { entries = []; priorities = script.priorities; limit = c.args.limits.entries; forgotten = []; bounds = bounds_of c.args.limits } = search rules in
    let fresh : IsFresh script c.args.limits gate = record { gate = begins; some = valid.some; few = valid.few } in
    let given : AreWorked script.lines gate (map (λ (p : PassView). p.pid) c.in-Ok.passes.items) passes = search rules in
    let firsts : c.in-Ok.passes.items ≡ first_passes gate first = search rules in
    let came = subst (λ (ps : List PassView). AreWorked script.lines gate (map (λ (p : PassView). p.pid) ps) passes) firsts given in
    has_run script c.args.limits gate passes (g.K.Machine.shown c.in-Some.kernel).log fresh came
    (recursion_from_All (λ (p : PassView). Begins p.gate.start p.seen) passes c.in_ok-passes.ensures.begun)
    (recursion_from_All (KeepsPass (g.K.Machine.shown c.in-Some.kernel).log) passes c.in-Some.ensures.passes)
    c.in-Some.ensures.legal
