use Rattle.std.proofs.lemmas.Int.{to_z-of_z}
use Rattle.ids.specs.declared.call.Call.TheVariants as call
use Rattle.course.specs.Courses.{calling}
use Rattle.course.specs.Faults.{place_in}
use Rattle.course.proofs.Runs.{gives}
use Rattle.course.proofs.files.seek.Goals as goal

pub returns-clause-ran : goal.returns-clause-ran
returns-clause-ran g c =
    let h = rw (to_z-of_z _ _ c.ranges.offset) at c.ask-reply.ensures.ran in
    gives (calling c.args.hand.now.pid (call.Lseek c.args.fd c.args.offset c.args.whence)) place_in h c.place_in.ensures
