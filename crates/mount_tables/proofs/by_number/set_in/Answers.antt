use Rattle.std.proofs.Common.{refl, sym, ap, ◌∙◌}
use Rattle.std.specs.Option.{is_some}
use Rattle.mount_tables.specs.Rows.{replaced, rows_in}
use Rattle.mount_tables.proofs.Written.{changed_at, missing_at}
use Rattle.mount_tables.proofs.by_number.set_in.Goals as goal

pub returns-in-Some-clause-rows : goal.returns-in-Some-clause-rows
returns-in-Some-clause-rows g c =
    changed_at c.args.number c.args.rows.now.entries (λ o. replaced c.args.number c.args.row o (rows_in c.args.rows.now)) c.in-Some.place.now c.args.row (c.get_mut.follows.lender c.args.row).entries c.in-Some.ensures.value ((c.get_mut.follows.holds c.args.row).3 (ap is_some (sym c.in-Some.ensures.value))).0 refl

pub returns-in-None-clause-rows : goal.returns-in-None-clause-rows
returns-in-None-clause-rows g c =
    ap rows_in c.get_mut.follows.holds-at-none
    ∙ missing_at c.args.number c.args.rows.now.entries (λ o. replaced c.args.number c.args.row o (rows_in c.args.rows.now)) c.in-None.ensures.value
