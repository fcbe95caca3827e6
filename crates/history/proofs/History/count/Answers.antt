use Rattle.std.proofs.Common.{◌≡◌, ◌+◌, length, ◌∙◌, subst, arith, vec_len}
use Rattle.std.proofs.lemmas.List.{length-append}
use Rattle.history.specs.Past.{entries_in}
use Rattle.history.proofs.Kept.{count_is}
use Rattle.history.proofs.History.count.Goals as goal

pub returns-clause-value : goal.returns-clause-value
returns-clause-value c =
    let past = c.self.inside.past in
    let count : vec_len c.self.inside.entries ≡ length c.self.inside.entries.items = c.self.inside.entries.ok.0 in
    let forgotten : c.self.inside.forgotten ≡ length (entries_in past) = c.self.invariant.2 ∙ count_is past in
    subst (λ log. c.self.inside.forgotten + c.len.result ≡ length log.entries) c.self.view_is
    (omega (arith, count, forgotten, c.len.ensures, length-append (entries_in past) c.self.inside.entries.items))
