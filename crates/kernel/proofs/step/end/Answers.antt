use Rattle.kernel.proofs.Words.{limit_of, setup_of, false, refl, sym, ap, ◌∙◌, tidy, live, fields, commits_run_the_list}
use Rattle.kernel.proofs.Words.{plain}
use Rattle.model.specs.Entries.{End, Committed}
use Rattle.kernel.proofs.Entries.{slot_fits, slot_views, closes, is_right, none_else}
use Rattle.kernel.proofs.step.end.Goals as goal

pub end-requires-clause-fits : goal.end-requires-clause-fits
end-requires-clause-fits c = slot_fits (fields c.args.s.now) c.requires.holds c.args.pid

pub end_transaction-requires : goal.end_transaction-requires
end_transaction-requires c =
    let f = fields c.args.s.now in
    let pid = c.args.pid in
    let holds = c.requires.holds in
    let l = c.requires.stands in
    let s = live c.args.flags c.args.age l.0 in
    rw c.new-told.ensures (closes f holds pid End Committed s l.1 (refl, none_else pid End Committed) refl refl
    _ _ false c.args.flags c.args.age (λ h. absurd cc) refl c.end.ensures.slots
    (c.end.ensures.state ∙ ap tidy (slot_views f holds pid) ∙ sym (commits_run_the_list 0 (setup_of f.log) (limit_of f.log) f.log.entries (plain pid End Committed) holds.legal
    (is_right f holds pid End Committed s l.1 (refl, none_else pid End Committed) refl refl) refl)))

pub returns : goal.returns
returns c = c.end_transaction.ensures.any (fields c.args.s.now) refl
