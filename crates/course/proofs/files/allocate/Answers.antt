use Rattle.std.proofs.lemmas.Int.{to_z-of_z}
use Rattle.course.proofs.files.allocate.Goals as goal

pub returns-clause-ran : goal.returns-clause-ran
returns-clause-ran g c =
    let h = rw (to_z-of_z _ _ c.ranges.offset, to_z-of_z _ _ c.ranges.length) at c.do_call.ensures.ran in
    h
