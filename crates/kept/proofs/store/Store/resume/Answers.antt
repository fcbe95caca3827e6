use Rattle.std.proofs.Common.{◌≡◌, ℕ, List, [], ◌++◌, subst, ◌∙◌, append-nil}
use Rattle.commit_log.specs.File.{Reads}
use Rattle.commit_log.specs.Log.{disk_of, key_of, Stands}
use Rattle.kept.proofs.Holding.{holds_resumed}
use Rattle.kept.proofs.store.Store.resume.Goals as goal

pub returns-clause-holds : goal.returns-clause-holds
returns-clause-holds g c = λ payloads stands store.
    let log = c.args.machine.now.shown.log in
    let same : payloads ++ [] ≡ payloads = append-nil payloads in
    holds_resumed _ log payloads store
    (subst (λ (ps : List (List ℕ)). Stands c.keep.new.self ps []) same (c.in_ok-keep.ensures.kept payloads [] stands))
    (subst (λ (ps : List (List ℕ)). (file : List ℕ) → g.D.Disk.may_leave (disk_of c.keep.new.self) file → Reads (key_of c.keep.new.self) file ps) same (c.in_ok-keep.ensures.acknowledged payloads [] stands))
    (c.taken-2.ensures ∙ c.in_ok-made_again.ensures.taken) c.new.ensures.items
