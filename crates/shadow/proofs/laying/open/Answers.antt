use Rattle.std.proofs.Common.{◌≡◌, ◌≤◌, true, false, sym, ap, ◌∙◌, arith}
use Rattle.model.specs.State.{Description}
use Rattle.store.specs.Numbers.{Numbers}
use Rattle.store.specs.Places.{altered, more_openings, openings_at, with_file}
use Rattle.store.proofs.Laws.{altered-same, with_place}
use Rattle.shadow.proofs.committing.NewDescription.{new_place, not_counted, opening_new}
use Rattle.shadow.proofs.committing.DescriptionChanges.{counted_if}
use Rattle.shadow.proofs.laying.open.Goals as goal

pub returns-then-is_few : goal.returns-then-is_few
returns-then-is_few c =
    opening_new c.args.store.now c.args.num c.args.description true c.add_opening.new.self
    c.requires c.numbers_are_few.ensures
    (c.add_opening.ensures.counted
    ∙ ap (λ (m : Numbers). altered (with_file more_openings) m c.description.inside.inode)
    c.install_as.ensures.installed
    ∙ ap (λ (it : Description).
    altered (with_file more_openings)
    (with_place c.args.store.now c.args.num (new_place c.args.description)) it.inode)
    c.description.view_is)
    (λ e. cc)

-- there are not so many openings
pub returns-else-is_few : goal.returns-else-is_few
returns-else-is_few c =
    let mid : Numbers = with_place c.args.store.now c.args.num (new_place c.args.description) in
    opening_new c.args.store.now c.args.num c.args.description false c.install_as.new.self
    c.requires c.numbers_are_few.ensures
    (c.install_as.ensures.installed
    ∙ sym (altered-same (with_file (counted_if false)) mid c.args.description.inode
    not_counted))
    (λ e. let same : c.openings-is_few.result ≡ openings_at mid c.args.description.inode =
    c.openings-is_few.ensures
    ∙ ap (λ (m : Numbers). openings_at m c.description.inside.inode)
    c.install_as.ensures.installed
    ∙ ap (λ (it : Description). openings_at mid it.inode) c.description.view_is in
    let high : 340282366920938463463374607431768211455 ≤ c.openings-is_few.result =
    c.if-is_few.false in omega arith)
