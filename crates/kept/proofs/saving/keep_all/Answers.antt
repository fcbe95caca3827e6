use Rattle.std.proofs.Common.{◌++◌}
use Rattle.kept.proofs.Going.{is_kept, kept_stands}
use Rattle.kept.proofs.saving.keep_all.Goals as goal

pub returns-in-Ok-clause-kept : goal.returns-in-Ok-clause-kept
returns-in-Ok-clause-kept g c = λ none kept s.
    let went = c.in-Ok.ensures.kept (kept ++ s.more) s.appended s.holds in
    is_kept c.keep.new.self c.args.machine.now.shown.log kept s.more (s.appended ++ went.0) went.1 c.in-Ok.ensures.all

pub returns-in-Ok-clause-stands : goal.returns-in-Ok-clause-stands
returns-in-Ok-clause-stands g c = λ kept s.
    let went = c.in-Ok.ensures.kept (kept ++ s.more) s.appended s.holds in
    kept_stands _ c.args.machine.now.shown.log kept (is_kept c.keep.new.self c.args.machine.now.shown.log kept s.more (s.appended ++ went.0) went.1 c.in-Ok.ensures.all)

pub returns-in-Err-clause-stands : goal.returns-in-Err-clause-stands
returns-in-Err-clause-stands g c = λ kept s. record { more = s.more; appended = s.appended; leaves = c.in-Err.ensures.crash (kept ++ s.more) s.appended s.holds }
