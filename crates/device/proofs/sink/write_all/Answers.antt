use Rattle.std.proofs.Common.{◌≡◌, ◌++◌, ◌∙◌, ap, take, rules, arith}
use Rattle.std.proofs.lemmas.Grind.{common_steps}
use Rattle.std.specs.Io.KnownBytes.{append_known}
use Rattle.device.proofs.Parts.{append_known-append_known}
use Rattle.device.proofs.sink.write_all.Goals as goal

pub loop-rest-preserved : goal.loop-rest-preserved
loop-rest-preserved g c =
    let front = c.loop-rest.invariant.0 in
    let rest = c.loop-rest.rest.now in
    let n = c.in_ok-count.count in
    let appended : g.S.Sink.written c.write.new.self ≡ append_known (g.S.Sink.written c.loop-rest.sink) (take n rest) = search rules in (
      front ++ take n rest,
      grind (arith, common_steps),
      appended ∙ ap (λ k. append_known k (take n rest)) c.loop-rest.invariant.2 ∙ append_known-append_known _ front (take n rest),
      search rules,
    )
