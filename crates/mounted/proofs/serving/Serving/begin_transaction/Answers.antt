use Rattle.std.proofs.Common.{refl, ap, ◌∙◌}
use Rattle.mount_tables.specs.Numbers.{root_node}
use Rattle.mount_requests.specs.Seen.{seen}
use Rattle.mounted.proofs.Beginning.{begun_known, has_begun, has_not_begun, idle_then, not_begun_known, not_planned, same_those, skipped_sound, unused, view_sound}
use Rattle.mounted.proofs.Staying.{roles_from}
use Rattle.mounted.proofs.serving.Serving.begin_transaction.Goals as goal

pub returns-in_err-level-clause-begins : goal.returns-in_err-level-clause-begins
returns-in_err-level-clause-begins g c =
    let planned = rw c.as_slice.ensures at c.in_err-level.ensures.planned in
    not_planned (seen c.args.self.now.tables) (seen c.args.self.now.tables) c.args.name.now _ planned refl refl c.from_residual.ensures.1

pub returns-in-Ok-clause-begins : goal.returns-in-Ok-clause-begins
returns-in-Ok-clause-begins g c =
    let planned = rw c.as_slice.ensures at c.in_ok-level.ensures.planned in
    let names = rw (c.in_ok-own_name.ensures.items, c.as_slice-2.ensures) at c.in_ok-view.ensures.numbers in
    let started = rw c.in_ok-view.ensures.number at c.start.ensures.each in
    let assigned = rw c.in_ok-view.ensures.number at c.assign.ensures.roles in
    has_begun (seen c.args.self.now.tables) _ c.args.name.now c.in_ok-level.level planned c.in_ok-reserve.ensures.roles c.in-Ok.pid _ c.in-Ok.ensures.begun
    (begun_known (seen c.args.self.now.tables) (seen c.begin_by.new.self.tables) c.args.name.now c.first_process.result c.in_ok-level.level
    (c.begin_by.ensures.rest ∙ same_those (seen c.args.self.now.tables) c.in_ok-view.ensures.each names c.in_ok-view.ensures.next refl)
    c.in-Ok.pid started c.start.ensures.numbers c.start.ensures.next assigned)
    (c.entry_of_node.ensures.node ∙ c.root_node.ensures ∙ ap root_node c.in_ok-view.ensures.number)

pub returns-in-Ok-clause-sound : goal.returns-in-Ok-clause-sound
returns-in-Ok-clause-sound g c =
    let planned = rw c.as_slice.ensures at c.in_ok-level.ensures.planned in
    let names = rw (c.in_ok-own_name.ensures.items, c.as_slice-2.ensures) at c.in_ok-view.ensures.numbers in
    let started = rw c.in_ok-view.ensures.number at c.start.ensures.each in
    let assigned = rw c.in_ok-view.ensures.number at c.assign.ensures.roles in
    view_sound (seen c.args.self.now.tables) _ c.args.name.now c.in_ok-level.level c.in-Ok.pid _ (roles_from c.in_ok-reserve.ensures.roles c.begin_by.ensures.sound)
    (idle_then (seen c.args.self.now.tables) (seen c.args.self.now.tables) c.args.name.now c.in_ok-level.level planned c.in_ok-reserve.ensures.roles c.in-Ok.pid c.in-Ok.ensures.begun)
    (begun_known (seen c.args.self.now.tables) (seen c.begin_by.new.self.tables) c.args.name.now c.first_process.result c.in_ok-level.level
    (c.begin_by.ensures.rest ∙ same_those (seen c.args.self.now.tables) c.in_ok-view.ensures.each names c.in_ok-view.ensures.next refl)
    c.in-Ok.pid started c.start.ensures.numbers c.start.ensures.next assigned)

pub returns-in-Err-clause-begins : goal.returns-in-Err-clause-begins
returns-in-Err-clause-begins g c =
    let planned = rw c.as_slice.ensures at c.in_ok-level.ensures.planned in
    let names = rw (c.in_ok-own_name.ensures.items, c.as_slice-2.ensures) at c.in_ok-view.ensures.numbers in
    let views = rw c.as_slice-in-Err.ensures at c.remove-number.ensures.each in
    let numbers = rw c.as_slice-in-Err.ensures at c.remove-number.ensures.numbers in
    has_not_begun (seen c.args.self.now.tables) _ c.args.name.now c.in_ok-level.level planned c.in_ok-reserve.ensures.roles c.in-Err.failure c.in-Err.ensures.not_begun
    (not_begun_known (seen c.args.self.now.tables) (seen c.begin_by.new.self.tables) c.args.name.now c.first_process.result c.in_ok-level.level
    (c.begin_by.ensures.rest ∙ same_those (seen c.args.self.now.tables) c.in_ok-view.ensures.each names c.in_ok-view.ensures.next refl)
    c.in_ok-view.ensures.fresh (unused (seen c.args.self.now.tables) c.args.name.now c.in_ok-level.level planned) views numbers c.remove-number.ensures.next refl)

pub returns-in-Err-clause-sound : goal.returns-in-Err-clause-sound
returns-in-Err-clause-sound g c =
    let planned = rw c.as_slice.ensures at c.in_ok-level.ensures.planned in
    let names = rw (c.in_ok-own_name.ensures.items, c.as_slice-2.ensures) at c.in_ok-view.ensures.numbers in
    let views = rw c.as_slice-in-Err.ensures at c.remove-number.ensures.each in
    let numbers = rw c.as_slice-in-Err.ensures at c.remove-number.ensures.numbers in
    skipped_sound (seen c.args.self.now.tables) _ _ (roles_from c.in_ok-reserve.ensures.roles c.begin_by.ensures.sound)
    (not_begun_known (seen c.args.self.now.tables) (seen c.begin_by.new.self.tables) c.args.name.now c.first_process.result c.in_ok-level.level
    (c.begin_by.ensures.rest ∙ same_those (seen c.args.self.now.tables) c.in_ok-view.ensures.each names c.in_ok-view.ensures.next refl)
    c.in_ok-view.ensures.fresh (unused (seen c.args.self.now.tables) c.args.name.now c.in_ok-level.level planned) views numbers c.remove-number.ensures.next refl)
