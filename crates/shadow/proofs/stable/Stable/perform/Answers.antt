use Rattle.std.proofs.Common.{◌≡◌, ◌-◌, ◌++◌, List, [], ◌∷◌, sym, ap, subst, ◌∙◌}
use Rattle.std.specs.Prelude.{take}
use Rattle.model.specs.Changes.{Edit, all_applied, tidy}
use Rattle.shadow.specs.Claims.{KeepsMore, claimed_by}
use Rattle.notes.specs.Log.{effect}
use Rattle.shadow.proofs.claims.CallClaims.{CanPerform}
use Rattle.notes.proofs.Laws.{ok_so, two_edits}
use Rattle.shadow.proofs.stable.Stable.perform.Goals as goal

-- there are two edits
both : (c : goal.After-last-in-Some-pop-1)
    → CanPerform c.args.self.now c.args.chosen.now (c.in-Some-pop.first ∷ c.in-Some.last ∷ [])
both c = subst (CanPerform c.args.self.now c.args.chosen.now)
    (two_edits c.args.edits.items c.pop.new.self.items c.pop-in-Some.new.self.items
    c.in-Some-pop.first c.in-Some.last c.in-Some.ensures.items c.in-Some-pop.ensures.items
    c.requires.kinds)
    (record {
      kinds = c.requires.kinds;
      count = c.requires.count;
      fits = c.requires.fits;
      covers =
          c.requires.covers;
    })

-- there are none
no_edits : (c : goal.After-drop-edits) → c.args.edits.items ≡ []
no_edits c = c.in-None.ensures.items
    ∙ ap (λ (es : List Edit). es ++ [])
    (c.in-None.ensures.rest ∙ ap (λ n. take (n - 1) c.args.edits.items) c.in-None.ensures.cases.0)

pub returns-in-None-clause-state : goal.returns-in-None-clause-state
returns-in-None-clause-state c =
    sym c.state_is_tidied.ensures.tidied
    ∙ ap (λ (es : List Edit). tidy (all_applied c.args.chosen.now es c.args.self.now.state))
    (sym (no_edits c))

pub perform_two-performed-requires-clause-kinds : goal.perform_two-performed-requires-clause-kinds
perform_two-performed-requires-clause-kinds c = (both c).kinds

pub perform_two-performed-requires-clause-count : goal.perform_two-performed-requires-clause-count
perform_two-performed-requires-clause-count c = (both c).count

pub perform_two-performed-requires-clause-fits : goal.perform_two-performed-requires-clause-fits
perform_two-performed-requires-clause-fits c = (both c).fits

pub perform_two-performed-requires-clause-covers : goal.perform_two-performed-requires-clause-covers
perform_two-performed-requires-clause-covers c = (both c).covers

pub returns-clause-state : goal.returns-clause-state
returns-clause-state c =
    ok_so c.perform_two-performed.result (λ made. made
    ∙ ap (λ (es : List Edit). tidy (all_applied c.args.chosen.now es c.args.self.now.state))
    (sym (two_edits c.args.edits.items c.pop.new.self.items c.pop-in-Some.new.self.items
    c.in-Some-pop.first c.in-Some.last c.in-Some.ensures.items c.in-Some-pop.ensures.items
    c.requires.kinds)))
    c.perform_two-performed.ensures.state

pub returns-clause-kept : goal.returns-clause-kept
returns-clause-kept c =
    ok_so c.perform_two-performed.result (λ kept. subst (λ (es : List Edit).
    KeepsMore c.perform_two-performed.new.self c.args.self.now
    (λ claim. claimed_by claim (effect c.args.chosen.now es)))
    (sym (two_edits c.args.edits.items c.pop.new.self.items c.pop-in-Some.new.self.items
    c.in-Some-pop.first c.in-Some.last c.in-Some.ensures.items c.in-Some-pop.ensures.items
    c.requires.kinds))
    kept) c.perform_two-performed.ensures.kept
