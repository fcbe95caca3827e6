use Rattle.std.proofs.lemmas.Int.{to_z-of_z}
use Rattle.ids.specs.declared.call.Call.TheVariants as call
use Rattle.course.specs.Courses.{calling}
use Rattle.course.specs.Faults.{count_in}
use Rattle.course.proofs.Runs.{gives}
use Rattle.course.proofs.files.write.Goals as goal

pub returns-clause-ran : goal.returns-clause-ran
returns-clause-ran g c =
    let h = rw (c.shared.ensures, to_z-of_z _ _ c.ranges.offset) at c.ask-reply.ensures.ran in
    gives (calling c.args.hand.now.pid (call.Pwrite c.args.fd c.args.bytes c.args.offset)) count_in h c.count_in.ensures
