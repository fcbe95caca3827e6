use Rattle.std.proofs.Common.{rules, tests, ◌≡◌, ◌==◌, true, false, sym, ◌∙◌}
use Rattle.std.proofs.lemmas.Iterator.{YieldsList-from_slice}
use Rattle.std.proofs.lemmas.Iterator.Search.{any_from_yields_List}
use Rattle.std.specs.List.{list_any}
use Rattle.model.specs.Plans.{is_pipe}
use Rattle.calls.proofs.own.add_pipe.Goals as goal

pub returns-in_ok-push : goal.returns-in_ok-push
returns-in_ok-push c =
    let found : c.any.result ≡ list_any (λ m. m == c.args.inode) c.args.pipes.now = any_from_yields_List (λ m. m == c.args.inode) _ _ _ c.any.ensures.ran (YieldsList-from_slice c.args.pipes.now (cc)) (λ x b q k. search (rules, tests)) in
    let none : c.any.result ≡ false = search rules in
    let absent : list_any (λ m. m == c.args.inode) c.args.pipes.now ≡ false = sym found ∙ none in
    let pipe : is_pipe c.args.kind ≡ true = sym c.is_pipe.ensures ∙ c.if-is_pipe.true in
    rw pipe (rw absent c.in_ok-push.ensures.ok)
