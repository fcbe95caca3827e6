use Rattle.std.proofs.Common.{◌≡◌, ℕ, List, length, sym, ◌∙◌, ap, subst}
use Rattle.commit_log.specs.File.{NoneTells, Tells}
use Rattle.commit_log.specs.Reads.{ChangesFrom, KeepsBelow}
use Rattle.commit_log.proofs.Opening.{changes_less, reads_on}
use Rattle.commit_log.proofs.Ready.{same_place, changes_after}
use Rattle.commit_log.proofs.recovery.recover.Goals as goal

pub returns-then-tells-clause-cause : goal.returns-then-tells-clause-cause
returns-then-tells-clause-cause g c clean =
    let first = c.find_end.ensures.same in
    let reached = c.in_ok-end.ensures.reached (c.tells_of.ensures.same.clean clean) in
    let told = rw c.if-tells.true at (c.in_ok-tells.ensures.told clean) in (
      reached.0,
      record { none = reached.1; tells = subst (λ (f : List ℕ). Tells c.args.key f c.in_ok-end.end) first.seen told },
      reads_on g.D.Disk _ _ _ first c.tells_of.ensures.same,
    )

pub returns-in_err-blank-clause-crash : goal.returns-in_err-blank-clause-crash
returns-in_err-blank-clause-crash g c clean e reach none =
    let old = g.D.Disk.may_leave c.args.disk.now in
    let reached = c.in_ok-end.ensures.reached (c.tells_of.ensures.same.clean (c.blank.ensures.clean clean)) in
    let here = same_place c.args.key (g.D.Disk.seen c.args.disk.now) c.args.from c.in_ok-end.end e reached.0 reached.1 reach none in
    subst (λ (n : ℕ). ChangesFrom n old (g.D.Disk.may_leave c.blank.new.disk)) here (
    changes_after c.in_ok-end.end old (g.D.Disk.may_leave c.tells_of.new.disk) (g.D.Disk.may_leave c.blank.new.disk) (λ file left. c.find_end.ensures.same.crash file (c.tells_of.ensures.same.crash file left)) c.blank.ensures.crash
    )

pub returns-in_err-sync-clause-crash : goal.returns-in_err-sync-clause-crash
returns-in_err-sync-clause-crash g c clean e reach none =
    let old = g.D.Disk.may_leave c.args.disk.now in
    let reached = c.in_ok-end.ensures.reached (c.tells_of.ensures.same.clean (c.blank.ensures.clean (c.sync.ensures.clean clean))) in
    let here = same_place c.args.key (g.D.Disk.seen c.args.disk.now) c.args.from c.in_ok-end.end e reached.0 reached.1 reach none in
    changes_less e old (g.D.Disk.may_leave c.blank.new.disk) (g.D.Disk.may_leave c.sync.new.disk) (
    subst (λ (n : ℕ). ChangesFrom n old (g.D.Disk.may_leave c.blank.new.disk)) here (
    changes_after c.in_ok-end.end old (g.D.Disk.may_leave c.tells_of.new.disk) (g.D.Disk.may_leave c.blank.new.disk) (λ file left. c.find_end.ensures.same.crash file (c.tells_of.ensures.same.crash file left)) c.blank.ensures.crash
    )
    ) c.sync.ensures.crash

pub returns-clause-crash : goal.returns-clause-crash
returns-clause-crash g c clean e reach none =
    let old = g.D.Disk.may_leave c.args.disk.now in
    let reached = c.in_ok-end.ensures.reached (c.tells_of.ensures.same.clean (c.blank.ensures.clean (c.sync.ensures.clean clean))) in
    let here = same_place c.args.key (g.D.Disk.seen c.args.disk.now) c.args.from c.in_ok-end.end e reached.0 reached.1 reach none in
    changes_less e old (g.D.Disk.may_leave c.blank.new.disk) (g.D.Disk.may_leave c.sync.new.disk) (
    subst (λ (n : ℕ). ChangesFrom n old (g.D.Disk.may_leave c.blank.new.disk)) here (
    changes_after c.in_ok-end.end old (g.D.Disk.may_leave c.tells_of.new.disk) (g.D.Disk.may_leave c.blank.new.disk) (λ file left. c.find_end.ensures.same.crash file (c.tells_of.ensures.same.crash file left)) c.blank.ensures.crash
    )
    ) c.sync.ensures.crash

pub returns-clause-opened : goal.returns-clause-opened
returns-clause-opened g c clean =
    let at_blank = c.sync.ensures.clean clean in
    let at_tells = c.blank.ensures.clean at_blank in
    let at_end = c.tells_of.ensures.same.clean at_tells in
    let at_first = c.find_end.ensures.same.clean at_end in
    let reached = c.in_ok-end.ensures.reached at_end in
    let told = rw c.if-tells.false at (c.in_ok-tells.ensures.told at_tells) in
    let seen : g.D.Disk.seen c.tells_of.new.disk ≡ g.D.Disk.seen c.args.disk.now = c.tells_of.ensures.same.seen ∙ c.find_end.ensures.same.seen in
    let sized : c.args.size ≡ length (g.D.Disk.seen c.tells_of.new.disk) = c.requires.sized at_first ∙ ap length (sym seen) in
    rw c.sync.ensures.seen (
    record {
      reaches = reached.0;
      none = reached.1;
      sound = subst (λ (f : List ℕ). NoneTells c.args.key f c.in_ok-end.end) c.find_end.ensures.same.seen told;
      keeps = subst (λ (f : List ℕ). KeepsBelow c.in_ok-end.end f (g.D.Disk.seen c.blank.new.disk)) seen c.blank.ensures.keeps;
      blank = c.in_ok-blank.ensures.blank sized;
      durable = c.in_ok-sync.ensures.durable;
    }
    )
