use Rattle.std.proofs.Common.{◌≡◌, ◌-◌, ◌∙◌, ap, arith, length}
use Rattle.history.specs.Log.{Log, kept}
use Rattle.recording.proofs.Places.{none_free, some_free}
use Rattle.recording.proofs.asking.refusal.Goals as goal

pub returns-then-free-needed : goal.returns-then-free-needed
returns-then-free-needed g c =
    let v = g.M.Machine.shown c.args.machine.now in
    let log : c.history-history.result.now ≡ v.log = c.history-history.ensures.value in
    let limit : c.limit.result ≡ v.log.limit = c.limit.ensures.value ∙ ap (λ (l : Log). l.limit) log in
    let long : length c.entries-count.result.now ≡ length (kept v.log) = ap length (c.entries-count.ensures.kept ∙ ap kept log) in
    none_free v.log c.args.needed (c.limit.result - length c.entries-count.result.now) c.held-held.result c.requires.kept.forgot c.requires.some (omega (arith, limit, long)) c.held-held.ensures (omega (arith, c.saturating_sub-free.ensures, c.if-free-needed.true))

pub returns : goal.returns
returns g c =
    let v = g.M.Machine.shown c.args.machine.now in
    let log : c.history-history.result.now ≡ v.log = c.history-history.ensures.value in
    let limit : c.limit.result ≡ v.log.limit = c.limit.ensures.value ∙ ap (λ (l : Log). l.limit) log in
    let long : length c.entries-count.result.now ≡ length (kept v.log) = ap length (c.entries-count.ensures.kept ∙ ap kept log) in
    some_free v.log c.args.needed (c.limit.result - length c.entries-count.result.now) c.held-held.result c.requires.kept.forgot c.requires.some (omega (arith, limit, long)) c.held-held.ensures (omega (arith, c.saturating_sub-free.ensures, c.if-free-needed.false))
