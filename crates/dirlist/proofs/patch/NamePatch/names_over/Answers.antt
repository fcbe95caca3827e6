use Rattle.std.proofs.Common.{◌≡◌, ℕ, ◌++◌, List, Option, ap, ◌∙◌}
use Rattle.std.specs.Map.{keys_of}
use Rattle.std.specs.List.{filter}
use Rattle.std.specs.Option.{is_none}
use Rattle.model.specs.FiniteMap as finite
use Rattle.model.specs.State.{Name}
use Rattle.dirlist.specs.Listing.{Listing}
use Rattle.dirlist.proofs.Laid.{given, sorted_over}
use Rattle.dirlist.proofs.patch.NamePatch.names_over.Goals as goal

pub returns : goal.returns
returns c =
    λ names laid.
    let gs : List (Name × Option ℕ) = c.self.inside.given.entries in
    let es : List (Name × ℕ) = c.dir.inside.numbers.entries in
    let kept : List Name = filter (λ x. is_none (finite.get c.args.self.now x)) (keys_of es) in
    let all : c.push_given.new.names.items ≡ kept ++ given gs
    = c.in_ok-push_given.ensures ∙ ap (λ (ns : List Name). ns ++ given gs) (c.in_ok-push_unnoted.ensures ∙ ap (λ (ns : List Name). ns ++ kept) c.in_ok-names.ensures.items) in
    c.new.ensures
    ∙ sorted_over gs es c.self.invariant c.len.ensures.unique c.args.self.now c.args.dir.now.names c.self.view_is (ap (λ (d : Listing). d.names) c.dir.view_is) names laid
    c.push_given.new.names.items c.sort_names.new.names.items all c.sort_names.ensures.permutation c.sort_names.ensures.sorted
