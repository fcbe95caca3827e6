use Rattle.std.proofs.Common.{true, false, ap, arith, sym}
use Rattle.std.proofs.lemmas.Int.{ints, to_z-of_z}
use Rattle.model.specs.Calls.{Whence}
use Rattle.model.specs.Plans.{aimed}
use Rattle.calls.specs.Parts.{found_at}
use Rattle.calls.proofs.Seeks.{gives_as}
use Rattle.walk.proofs.Laws.{goes, via}
use Rattle.calls.proofs.seek.aimed.Goals as goal

pub returns-in-Set : goal.returns-in-Set
returns-in-Set g c = via (ap (λ (whence : Whence). aimed c.args.it.now c.args.distance whence) c.in-Set.is) (gives_as (omega (arith, ints)))

pub returns-in_ok-start-in-Cur : goal.returns-in_ok-start-in-Cur
returns-in_ok-start-in-Cur g c = via (ap (λ (whence : Whence). aimed c.args.it.now c.args.distance whence) c.in-Cur.is) (goes _ c.in_ok-start-in-Cur.ensures (gives_as (omega (arith, ints))))

pub returns-in_ok-end-in-End : goal.returns-in_ok-end-in-End
returns-in_ok-end-in-End g c = via (ap (λ (whence : Whence). aimed c.args.it.now c.args.distance whence) c.in-End.is) (goes _ c.in_ok-end-in-End.ensures (gives_as (omega (arith, ints))))

pub returns-in-Data : goal.returns-in-Data
returns-in-Data g c = via (ap (λ (whence : Whence). aimed c.args.it.now c.args.distance whence) c.in-Data.is) (via (ap (λ move. found_at false c.args.it.now.inode move) (sym (to_z-of_z _ _ c.ranges.distance))) c.found_at.ensures)

pub returns-in-Hole : goal.returns-in-Hole
returns-in-Hole g c = via (ap (λ (whence : Whence). aimed c.args.it.now c.args.distance whence) c.in-Hole.is) (via (ap (λ move. found_at true c.args.it.now.inode move) (sym (to_z-of_z _ _ c.ranges.distance))) c.found_at-in-Hole.ensures)
