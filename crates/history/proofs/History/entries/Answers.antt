use Rattle.std.proofs.Common.{◌≡◌, [], sym, ◌∙◌, subst}
use Rattle.history.specs.Log.{kept}
use Rattle.history.proofs.Kept.{kept_are, none_before}
use Rattle.history.proofs.History.entries.Goals as goal

pub returns-clause-kept : goal.returns-clause-kept
returns-clause-kept c =
    subst (λ log. c.as_slice.result.now ≡ kept log) c.self.view_is
    (c.as_slice.ensures.value ∙ sym (kept_are c.self.inside.past c.self.inside.entries.items))

pub returns-clause-whole : goal.returns-clause-whole
returns-clause-whole c =
    subst (λ log. log.forgotten ≡ [] → c.as_slice.result.now ≡ log.entries) c.self.view_is
    (λ none. c.as_slice.ensures.value ∙ sym (none_before c.self.inside.past c.self.inside.entries.items none))
