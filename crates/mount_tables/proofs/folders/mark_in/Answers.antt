use Rattle.std.proofs.Common.{sym, ap, ◌∙◌}
use Rattle.std.specs.Option.{is_some}
use Rattle.model.specs.FiniteMap as finite
use Rattle.mount_tables.specs.Folders.{marked}
use Rattle.mount_tables.specs.Rows.{rows_in}
use Rattle.mount_tables.specs.declared.folders.Folder.{Folder}
use Rattle.mount_tables.proofs.Written.{changed_at, missing_at}
use Rattle.mount_tables.proofs.folders.mark_in.Goals as goal

pub returns-in-Some-clause-folders : goal.returns-in-Some-clause-folders
returns-in-Some-clause-folders c =
    changed_at c.args.handle c.args.folders.now.entries (λ o. marked c.args.handle o (rows_in c.args.folders.now)) c.in-Some.folder.now c.mark.new.self (c.get_mut.follows.lender c.mark.new.self).entries c.in-Some.ensures.value ((c.get_mut.follows.holds c.mark.new.self).3 (ap is_some (sym c.in-Some.ensures.value))).0 (ap (λ (f : Folder). finite.insert (rows_in c.args.folders.now) c.args.handle f) c.mark.ensures)

pub returns-in-None-clause-folders : goal.returns-in-None-clause-folders
returns-in-None-clause-folders c =
    ap rows_in c.get_mut.follows.holds-at-none
    ∙ missing_at c.args.handle c.args.folders.now.entries (λ o. marked c.args.handle o (rows_in c.args.folders.now)) c.in-None.ensures.value
