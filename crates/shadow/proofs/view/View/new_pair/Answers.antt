use Rattle.std.proofs.Common.{◌≡◌, ◌∙◌, List, Some, IfSome, Option, option_map, rules, sym, ap, subst}
use Rattle.std.specs.Ordering.{nat_cmp}
use Rattle.model.specs.FiniteMap.{FinMap}
use Rattle.model.specs.State.{Description, Kernel}
use Rattle.model.specs.Effects.{Effect, all_done}
use Rattle.freeing_laws.specs.Pipes.{ArePair}
use Rattle.freeing_laws.specs.Sweep.{AllFit}
use Rattle.shadow.specs.Committed.{Committed}
use Rattle.notes.specs.Log.{effects_in}
use Rattle.shadow.specs.Looks.{changes_of}
use Rattle.notes.specs.Patches.{kept_at, net_of, new_ends}
use Rattle.notes.specs.declared.change.InodeChange.{InodeChange}
use Rattle.shadow.proofs.viewing.PipePairs.{new_pair_told}
use Rattle.shadow.proofs.view.View.new_pair.Goals as goal

pub returns-in-Some-get : goal.returns-in-Some-get
returns-in-Some-get c =
    let k : Kernel = c.self.inside.stable.now.state in
    let ds : List Effect = effects_in c.shadow.inside.log in
    let changes : changes_of (option_map (λ s. s.now) c.self.inside.shadow) ≡ ds = ap (λ o. changes_of (option_map (λ s. s.now) o)) c.in-Some.is ∙ sym c.shadow.view_is in
    let fits : AllFit ds k = subst (λ (ds : List Effect). AllFit ds k) changes c.self.invariant in
    let kept : Some c.in-Some-get.change.now ≡ kept_at c.shadow.inside.patches.inodes c.args.pipe = search rules in
    let told = new_pair_told ds c.shadow.inside.patches c.shadow.invariant k c.state_is_tidied.ensures.well fits c.args.pipe c.new_ends.result
    (c.new_ends.ensures ∙ ap (λ (o : Option InodeChange). new_ends (net_of o).contents) kept) in
    let seen : (all_done ds k).descriptions ≡ c.args.self.now.state.descriptions
    = ap (λ (ds : List Effect). (all_done ds k).descriptions) (sym changes) ∙ ap (λ (v : Committed). v.state.descriptions) c.self.view_is in
    subst (λ (m : FinMap nat_cmp Description). IfSome c.new_ends.result (λ ends. ArePair m c.args.pipe ends.0 ends.1)) seen told
