use Rattle.std.proofs.Common.{◌≡◌, List, ℕ, ◌++◌, sym, subst}
use Rattle.commit_log.specs.File.{Reads}
use Rattle.commit_log.proofs.Appending.{reads_whole}
use Rattle.commit_log.proofs.Crash.{leaves_first}
use Rattle.commit_log.proofs.log.Log.keep.Goals as goal

pub returns-in-Err-clause-crash : goal.returns-in-Err-clause-crash
returns-in-Err-clause-crash g c kept appended stands =
    let log = c.args.self.now in
    leaves_first (g.D.Disk.may_leave c.sync.new.self) log.key kept log.kept appended (λ file left. stands.durable file (c.in-Err.ensures.crash file left))

pub returns-clause-acknowledged : goal.returns-clause-acknowledged
returns-clause-acknowledged g c kept appended stands file left =
    let log = c.args.self.now in
    let same : file ≡ g.D.Disk.seen log.disk = c.in_default-sync.ensures.durable file left in
    subst (λ (f : List ℕ). Reads log.key f (kept ++ appended)) (sym same) (
    reads_whole log.key (g.D.Disk.seen log.disk) (kept ++ appended) log.end stands.shown stands.blank stands.fits
    )

pub returns-clause-crash : goal.returns-clause-crash
returns-clause-crash g c kept appended stands =
    let log = c.args.self.now in
    leaves_first (g.D.Disk.may_leave c.sync.new.self) log.key kept log.kept appended (λ file left. stands.durable file (c.in_default-sync.ensures.crash file left))
