use Rattle.course.specs.Courses.{both, opening}
use Rattle.course.specs.Faults.{unless_special}
use Rattle.course.proofs.Runs.{gives}
use Rattle.course.proofs.files.open_file.Goals as goal

pub returns-clause-ran : goal.returns-clause-ran
returns-clause-ran g c =
    let h = rw c.both.ensures at c.open-opened.ensures.ran in
    gives (opening c.args.hand.now.pid c.args.path both) unless_special h c.unless_special.ensures
