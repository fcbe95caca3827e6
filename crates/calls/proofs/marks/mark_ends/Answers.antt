use Rattle.std.proofs.Common.{[], ◌∷◌, sym, ap, ◌∙◌, refl, drop, map, ◌+◌}
use Rattle.std.proofs.lemmas.List.{drop_more}
use Rattle.model.specs.Aspects.{Ends}
use Rattle.calls.proofs.Marking.{mark_more}
use Rattle.calls.proofs.marks.mark_ends.Goals as goal

pub loop-pipe-preserved : goal.loop-pipe-preserved
loop-pipe-preserved c = mark_more (λ pipe. Ends pipe ∷ []) (map Ends) (λ _ _. refl) c.loop-pipe.touches c.pipe-item.result (drop (c.loop-pipe.pipe-index + 1) c.args.pipes.now) c.loop-pipe.invariant (drop_more _ _ c.pipe-item.result c.loop-pipe-test.true ∙ ap (λ x. x ∷ drop (c.loop-pipe.pipe-index + 1) c.args.pipes.now) (sym c.pipe-item.is)) c.in_ok-write.ensures
