use Rattle.std.proofs.Common.{◌≡◌, List, option_map, sym, ap, subst}
use Rattle.model.specs.Effects.{Effect, all_done}
use Rattle.freeing_laws.specs.Sweep.{AllFit}
use Rattle.shadow.specs.Agrees.{Agrees}
use Rattle.shadow.specs.Claims.{Covers}
use Rattle.shadow.specs.Committed.{Committed}
use Rattle.shadow.specs.Looks.{DirectoriesAreKept, changes_of}
use Rattle.shadow.proofs.viewing.DirectoryRoom.{kept_over}
use Rattle.shadow.proofs.view.seen_are_kept.Goals as goal

pub returns-in-Some : goal.returns-in-Some
returns-in-Some c =
    let v : Committed = c.args.stable.now in
    let ds : List Effect = c.in-Some.shadow.now in
    let same : changes_of (option_map (λ s. s.now) c.args.shadow) ≡ ds = ap (λ o. changes_of (option_map (λ s. s.now) o)) c.in-Some.is in
    let fits : AllFit ds v.state = subst (λ (ds : List Effect). AllFit ds v.state) same c.requires in
    let agrees : Agrees ds c.shadow.inside.patches = subst (λ (ds : List Effect). Agrees ds c.shadow.inside.patches) c.shadow.view_is c.shadow.invariant in
    subst (λ (ds : List Effect). Covers v ds → DirectoriesAreKept (record v { state = all_done ds v.state })) (sym same)
    (λ covers. kept_over ds c.shadow.inside.patches v agrees fits covers c.directories_are_kept.ensures)
