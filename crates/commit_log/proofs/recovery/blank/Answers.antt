use Rattle.std.proofs.Common.{◌≡◌, ℕ, ◌≤◌, List, length, take, ◌∙◌, arith}
use Rattle.std.proofs.Math.ListN.{replicate}
use Rattle.std.proofs.lemmas.List.{take-replicate, length-take, length-replicate}
use Rattle.commit_log.proofs.Opening.{changes_more, zeros_more}
use Rattle.commit_log.proofs.Parts.{keeps_on, torn_keeps}
use Rattle.commit_log.proofs.recovery.blank.Goals as goal

pub loop-at-preserved : goal.loop-at-preserved
loop-at-preserved g c =
    let inv = c.loop-at.invariant in
    let count = c.min-count.result in
    let few : count ≤ 512 = omega arith in
    let all : List ℕ = replicate 512 0 in
    let bytes : List ℕ = take count all in
    let long : length bytes ≡ count = omega (arith, length-take {A = ℕ} count all, length-replicate {A = ℕ} 512 0) in (
      c.write_bytes.ensures.usable,
      c.in_ok-write_bytes.ensures.cause ∙ inv.1,
      λ clean. inv.2 (c.write_bytes.ensures.clean clean),
      omega (arith, inv.3),
      keeps_on c.args.from (g.D.Disk.seen c.args.disk.now) (g.D.Disk.seen c.loop-at.disk) (g.D.Disk.seen c.write_bytes.new.disk) inv.4 (torn_keeps c.args.from c.loop-at.at _ _ _ inv.3 c.write_bytes.ensures.others),
      changes_more c.args.from c.loop-at.at _ (g.D.Disk.may_leave c.args.disk.now) (g.D.Disk.may_leave c.loop-at.disk) (g.D.Disk.may_leave c.write_bytes.new.disk) inv.3 inv.5 c.write_bytes.ensures.crash,
      λ sized.
          let before = inv.6 sized in
          let more = zeros_more c.args.from c.loop-at.at c.args.size count (g.D.Disk.seen c.loop-at.disk) (g.D.Disk.seen c.write_bytes.new.disk) bytes inv.3 (omega (arith, long)) (take-replicate {X = ℕ} count 512 0 few) c.write_bytes.ensures.others c.in_ok-write_bytes.ensures.written before.0 before.1 in
          (more.0, λ i above below. more.1 i above (omega (arith, long))),
    )
