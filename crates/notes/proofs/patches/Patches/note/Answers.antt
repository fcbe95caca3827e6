use Rattle.std.proofs.Common.{◌≡◌, ◌-◌, ◌++◌, List, [], ◌∷◌, refl, sym, ap, ◌∙◌, subst, sum_by}
use Rattle.std.specs.Prelude.{take}
use Rattle.std.specs.List.{AllByRecursion}
use Rattle.model.specs.Changes.{Edit, news}
use Rattle.notes.specs.Steps.{AreApart, CanEdit, TakesAll}
use Rattle.notes.proofs.Outcomes.{ok_so}
use Rattle.notes.proofs.EditPairs.{news_of_one, news_of_two, two_edits}
use Rattle.notes.proofs.patches.Patches.note.Goals as goal

-- there are none
no_edits : (c : goal.After-drop-edits) → c.args.edits.items ≡ []
no_edits c = c.in-None.ensures.items
    ∙ ap (λ (es : List Edit). es ++ [])
    (c.in-None.ensures.rest ∙ ap (λ n. take (n - 1) c.args.edits.items) c.in-None.ensures.cases.0)

pub returns-in-None-clause-ok : goal.returns-in-None-clause-ok
returns-in-None-clause-ok c = subst (λ es. TakesAll c.args.chosen.now es c.args.self.now c.args.self.now) (sym (no_edits c)) refl

pub note_one-requires-clause-kinds : goal.note_one-requires-clause-kinds
note_one-requires-clause-kinds c = subst CanEdit
    (c.in-Some.ensures.items
    ∙ ap (λ (es : List Edit). es ++ c.in-Some.last ∷ [])
    (c.in-None-pop.ensures.items
    ∙ ap (λ (es : List Edit). es ++ [])
    (c.in-None-pop.ensures.rest ∙ ap (λ n. take (n - 1) c.pop.new.self.items) c.in-None-pop.ensures.cases.0)))
    c.requires.kinds

pub note_one-requires-clause-count : goal.note_one-requires-clause-count
note_one-requires-clause-count c =
    c.requires.count
    ∙ ap (sum_by news)
    (c.in-Some.ensures.items
    ∙ ap (λ (es : List Edit). es ++ c.in-Some.last ∷ [])
    (c.in-None-pop.ensures.items
    ∙ ap (λ (es : List Edit). es ++ [])
    (c.in-None-pop.ensures.rest ∙ ap (λ n. take (n - 1) c.pop.new.self.items) c.in-None-pop.ensures.cases.0)))
    ∙ news_of_one c.in-Some.last

pub note_one-requires-clause-apart : goal.note_one-requires-clause-apart
note_one-requires-clause-apart c = (subst (AllByRecursion (AreApart c.args.chosen.now))
    (c.in-Some.ensures.items
    ∙ ap (λ (es : List Edit). es ++ c.in-Some.last ∷ [])
    (c.in-None-pop.ensures.items
    ∙ ap (λ (es : List Edit). es ++ [])
    (c.in-None-pop.ensures.rest ∙ ap (λ n. take (n - 1) c.pop.new.self.items) c.in-None-pop.ensures.cases.0)))
    c.requires.apart).0

pub returns-in-None-pop-clause-ok : goal.returns-in-None-pop-clause-ok
returns-in-None-pop-clause-ok c =
    ok_so c.note_one.result (subst (λ es. TakesAll c.args.chosen.now es c.args.self.now c.note_one.new.self)
    (sym (c.in-Some.ensures.items
    ∙ ap (λ (es : List Edit). es ++ c.in-Some.last ∷ [])
    (c.in-None-pop.ensures.items
    ∙ ap (λ (es : List Edit). es ++ [])
    (c.in-None-pop.ensures.rest ∙ ap (λ n. take (n - 1) c.pop.new.self.items) c.in-None-pop.ensures.cases.0)))))
    c.note_one.ensures.ok

pub note_two-noted-requires-clause-kinds : goal.note_two-noted-requires-clause-kinds
note_two-noted-requires-clause-kinds c = subst CanEdit (two_edits c.args.edits.items c.pop.new.self.items c.pop-in-Some.new.self.items c.in-Some-pop.first c.in-Some.last c.in-Some.ensures.items c.in-Some-pop.ensures.items c.requires.kinds) c.requires.kinds

pub note_two-noted-requires-clause-count : goal.note_two-noted-requires-clause-count
note_two-noted-requires-clause-count c =
    c.requires.count
    ∙ ap (sum_by news) (two_edits c.args.edits.items c.pop.new.self.items c.pop-in-Some.new.self.items c.in-Some-pop.first c.in-Some.last c.in-Some.ensures.items c.in-Some-pop.ensures.items c.requires.kinds)
    ∙ news_of_two c.in-Some-pop.first c.in-Some.last

pub note_two-noted-requires-clause-apart : goal.note_two-noted-requires-clause-apart
note_two-noted-requires-clause-apart c = (subst (AllByRecursion (AreApart c.args.chosen.now)) (two_edits c.args.edits.items c.pop.new.self.items c.pop-in-Some.new.self.items c.in-Some-pop.first c.in-Some.last c.in-Some.ensures.items c.in-Some-pop.ensures.items c.requires.kinds) c.requires.apart).0

pub returns-clause-ok : goal.returns-clause-ok
returns-clause-ok c =
    ok_so c.note_two-noted.result (subst (λ es. TakesAll c.args.chosen.now es c.args.self.now c.note_two-noted.new.self)
    (sym (two_edits c.args.edits.items c.pop.new.self.items c.pop-in-Some.new.self.items c.in-Some-pop.first c.in-Some.last c.in-Some.ensures.items c.in-Some-pop.ensures.items c.requires.kinds)))
    c.note_two-noted.ensures.ok
