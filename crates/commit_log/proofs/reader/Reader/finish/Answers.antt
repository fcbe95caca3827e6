use Rattle.std.proofs.Common.{List, ℕ, ◌++◌, sym, subst, arith, rules}
use Rattle.std.proofs.lemmas.List.{append-nil}
use Rattle.commit_log.specs.Kept.{BeginsWith}
use Rattle.commit_log.proofs.Ready.{begins_opened, kept_opened, keeps_across}
use Rattle.commit_log.proofs.reader.Reader.finish.Goals as goal

pub returns-in-Ok-clause-opened : goal.returns-in-Ok-clause-opened
returns-in-Ok-clause-opened g c clean before rest is_at =
    let reader = c.args.self in
    let old = g.D.Disk.seen reader.disk in
    let new = g.D.Disk.seen c.recover.new.disk in
    let left = g.D.Disk.may_leave c.recover.new.disk in
    let opened = c.in-Ok.ensures.opened clean in
    record {
      ready = search rules;
      order = omega arith;
      fits = omega arith;
      shown = subst (λ (l : List (List ℕ)). BeginsWith reader.key l c.in-Ok.end new) (sym (append-nil (before ++ rest))) (
          begins_opened reader.key reader.place c.in-Ok.end old new left before rest opened is_at.begins is_at.continues
          );
      blank = opened.blank;
      durable = kept_opened reader.key reader.place c.in-Ok.end old new left before rest opened is_at.begins is_at.continues;
    }

pub returns-in-Ok-clause-crash : goal.returns-in-Ok-clause-crash
returns-in-Ok-clause-crash g c kept appended clean before rest upto is_at same all =
    let reader = c.args.self in
    keeps_across reader.key reader.place (g.D.Disk.seen reader.disk) (g.D.Disk.may_leave reader.disk) (g.D.Disk.may_leave c.recover.new.disk) before rest kept appended upto is_at.begins is_at.continues same (c.recover.ensures.crash clean) all

pub returns-clause-crash : goal.returns-clause-crash
returns-clause-crash g c kept appended clean before rest upto is_at same all =
    let reader = c.args.self in
    keeps_across reader.key reader.place (g.D.Disk.seen reader.disk) (g.D.Disk.may_leave reader.disk) (g.D.Disk.may_leave c.recover.new.disk) before rest kept appended upto is_at.begins is_at.continues same (c.recover.ensures.crash clean) all
