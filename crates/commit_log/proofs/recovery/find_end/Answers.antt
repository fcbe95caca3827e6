use Rattle.std.proofs.Common.{◌≡◌, length, sym, refl, ◌∙◌, ap, arith, rules}
use Rattle.commit_log.proofs.Opening.{reads_on, reads_same, reaches_here, reaches_more, none_past}
use Rattle.commit_log.proofs.recovery.find_end.Goals as goal

pub loop-end-init : goal.loop-end-init
loop-end-init g c = (reads_same g.D.Disk c.args.disk.now c.requires.usable, refl, λ clean. reaches_here _ _ _)

pub read_frame-requires-clause-sized : goal.read_frame-requires-clause-sized
read_frame-requires-clause-sized g c clean =
    c.requires.sized (c.loop-end.invariant.0.clean clean) ∙ ap length (sym c.loop-end.invariant.0.seen)

pub returns-in-None-clause-reached : goal.returns-in-None-clause-reached
returns-in-None-clause-reached g c clean = (
  c.loop-end.invariant.2 (c.read_frame.ensures.same.clean clean),
  rw (c.loop-end.invariant.0.seen, c.in-None.is) at (c.in_ok-found.ensures.found clean),
)

pub returns-in-None-clause-same : goal.returns-in-None-clause-same
returns-in-None-clause-same g c = reads_on g.D.Disk _ _ _ c.loop-end.invariant.0 c.read_frame.ensures.same

pub returns-in_err-found-clause-same : goal.returns-in_err-found-clause-same
returns-in_err-found-clause-same g c = reads_on g.D.Disk _ _ _ c.loop-end.invariant.0 c.read_frame.ensures.same

pub returns-clause-reached : goal.returns-clause-reached
returns-clause-reached g c clean = (
  c.loop-end.invariant.2 clean,
  none_past _ _ _ (omega (arith, c.requires.sized (c.loop-end.invariant.0.clean clean))),
)

pub loop-end-preserved : goal.loop-end-preserved
loop-end-preserved g c = (
  reads_on g.D.Disk _ _ _ c.loop-end.invariant.0 c.read_frame.ensures.same,
  c.in_ok-found.ensures.cause ∙ c.loop-end.invariant.1,
  λ clean.
      let items = c.read_frame.new.frame.items in
      let has = rw (c.loop-end.invariant.0.seen, c.in-Some.is) at (c.in_ok-found.ensures.found clean) in
      let within = rw c.in-Some.is at c.in_ok-found.ensures.within in
      let told : c.len-end.result ≡ length items = search rules in
      reaches_more c.args.key (g.D.Disk.seen c.args.disk.now) c.args.from c.loop-end.end _ _ items (c.loop-end.invariant.2 (c.read_frame.ensures.same.clean clean)) has within.0 (omega (arith, told)),
)
