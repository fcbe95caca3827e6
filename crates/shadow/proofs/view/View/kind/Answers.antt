use Rattle.std.proofs.Common.{◌≡◌, ◌∙◌, Some, option_map, sym, ap}
use Rattle.model.specs.State.{Kernel, kind_of}
use Rattle.shadow.specs.Committed.{Committed}
use Rattle.shadow.specs.Looks.{changes_of}
use Rattle.shadow.proofs.viewing.KindsStay.{kinds_stay}
use Rattle.shadow.proofs.view.View.kind.Goals as goal

pub returns-in-Some : goal.returns-in-Some
returns-in-Some c =
    let k : Kernel = c.self.inside.stable.now.state in
    let found : kind_of k c.args.num ≡ Some c.in-Some.kind = sym c.kind.ensures ∙ c.in-Some.is in
    sym (kinds_stay (changes_of (option_map (λ s. s.now) c.self.inside.shadow)) k c.self.invariant c.args.num c.in-Some.kind found)
    ∙ ap (λ (v : Committed). kind_of v.state c.args.num) c.self.view_is
