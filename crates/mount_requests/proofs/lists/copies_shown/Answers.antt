use Rattle.std.proofs.Common.{List, ℕ, ◌+◌, ◌∷◌, ◌++◌, drop, sym, ap, ◌∙◌}
use Rattle.std.proofs.lemmas.List.{drop_more}
use Rattle.mount_requests.specs.Found.{shown_names}
use Rattle.mount_requests.proofs.Listing.{shown_more}
use Rattle.mount_requests.proofs.lists.copies_shown.Goals as goal

pub loop-name-preserved : goal.loop-name-preserved
loop-name-preserved c =
    let rest = drop (c.loop-name.name-index + 1) c.args.list.now in
    let dropped = drop_more _ _ c.name-item.result c.loop-name-test.true ∙ ap (λ (x : List ℕ). x ∷ rest) (sym c.name-item.is) in
    ap (λ (n : List (List ℕ)). n ++ shown_names c.args.node rest) c.in_ok-push_shown.ensures
    ∙ shown_more c.args.node c.name-item.result rest c.loop-name.names.items _ (ap (λ (d : List (List ℕ)). c.loop-name.names.items ++ shown_names c.args.node d) (sym dropped) ∙ c.loop-name.invariant)
