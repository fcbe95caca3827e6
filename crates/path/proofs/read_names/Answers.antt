use Rattle.std.proofs.Common.{◌≡◌, ◌∷◌, sym, ap, subst, ◌∙◌}
use Rattle.std.proofs.lemmas.Result.{err_from_is_err_and}
use Rattle.model.specs.Paths.{names_in, pieces}
use Rattle.path.specs.Parsing.{after, IsRefusalBy, pieces_left}
use Rattle.path.proofs.Read.{after-push, after-Ok, refused-after}
use Rattle.path.proofs.read_names.Goals as goal

pub returns-in_err-push_name-clause-refused : goal.returns-in_err-push_name-clause-refused
returns-in_err-push_name-clause-refused c =
    let names = c.loop-left.names.items in
    let split : names_in (pieces c.args.bytes.now) ≡ after names (names_in (c.cut_at_slash.result.0.now ∷ pieces_left c.cut_at_slash.result.1)) = c.loop-left.invariant ∙ ap (λ l. after names (names_in (pieces_left l))) c.in-Some.is ∙ ap (λ ps. after names (names_in ps)) c.cut_at_slash.ensures.pieces in
    let p = err_from_is_err_and c.from_residual.result c.from_residual.ensures.1 in
    let h = c.in_err-push_name.ensures.refused (pieces_left c.cut_at_slash.result.1) in
    rw (p.1, p.2) (subst (IsRefusalBy c.in_err-push_name.field-0.0) (sym split) (refused-after _ names _ h))

pub loop-left-preserved : goal.loop-left-preserved
loop-left-preserved c =
    let names = c.loop-left.names.items in
    let others = pieces_left c.cut_at_slash.result.1 in
    c.loop-left.invariant
    ∙ ap (λ l. after names (names_in (pieces_left l))) c.in-Some.is
    ∙ ap (λ ps. after names (names_in ps)) c.cut_at_slash.ensures.pieces
    ∙ ap (after names) (c.in_ok-push_name.ensures.is_name others)
    ∙ sym (after-push names c.cut_at_slash.result.0.now (names_in others))
    ∙ ap (λ xs. after xs (names_in others)) (sym c.in_ok-push_name.ensures.ok)

pub returns-clause-ok : goal.returns-clause-ok
returns-clause-ok c = c.loop-left.invariant ∙ ap (λ l. after c.loop-left.names.items (names_in (pieces_left l))) c.in_default.is ∙ after-Ok c.loop-left.names.items
