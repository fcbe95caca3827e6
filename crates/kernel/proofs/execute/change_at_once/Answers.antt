use Rattle.kernel.proofs.Words.{◌∙◌, sym, ap, subst, effect, fields, Moves, part_after, part_at, state_with, with_born, None, []}
use Rattle.kernel.proofs.Words.{first_is, makes_process, ends_process, ◌≡◌, true}
use Rattle.kernel.proofs.Calls.{birth_by, birth_fits, births_so, exit_by, exit_fits, plain_commits}
use Rattle.kernel.proofs.execute.change_at_once.Goals as goal

pub fork-requires-clause-fits : goal.fork-requires-clause-fits
fork-requires-clause-fits c =
    let f = fields c.args.s.now in
    let es = c.args.edits.items in
    let first : first_is makes_process es ≡ true = sym (c.makes_process.ensures ∙ ap (first_is makes_process) c.as_slice.ensures.value) ∙ c.if-makes_process.true in
    let is = birth_by f.stable.state c.args.pid es c.requires.kinds first in
    (is.1, birth_fits f c.args.pid c.args.call.now c.requires.asks es c.requires.edits is)

pub returns-then-makes_process-clause-moves : goal.returns-then-makes_process-clause-moves
returns-then-makes_process-clause-moves c =
    let f = fields c.args.s.now in
    let g = fields c.fork.new.s in
    let pid = c.args.pid in
    let es = c.args.edits.items in
    let first : first_is makes_process es ≡ true = sym (c.makes_process.ensures ∙ ap (first_is makes_process) c.as_slice.ensures.value) ∙ c.if-makes_process.true in
    let is = birth_by f.stable.state pid es c.requires.kinds first in
    subst (λ chosen. Moves (with_born None pid es f) g pid (part_after es (part_at f pid)) (state_with None (effect chosen es) f.stable.state) []) (sym c.new.ensures)
    (births_so f g pid c.args.call.now c.requires.asks es c.requires.edits is c.in_ok-fork.ensures.made)

pub exit-requires-clause-fits : goal.exit-requires-clause-fits
exit-requires-clause-fits c =
    let f = fields c.args.s.now in
    let es = c.args.edits.items in
    let first : first_is ends_process es ≡ true = sym (c.ends_process.ensures ∙ ap (first_is ends_process) c.as_slice-2.ensures.value) ∙ c.if-ends_process.true in
    let is = exit_by f.stable.state c.args.pid es c.requires.kinds first in
    (is.0, exit_fits f c.args.pid c.args.call.now c.requires.asks es c.requires.edits is)

pub apply-requires-clause-fits : goal.apply-requires-clause-fits
apply-requires-clause-fits c = plain_commits (fields c.args.s.now) c.args.pid c.args.call.now c.requires.asks c.args.edits.items c.requires.edits
