use Rattle.std.proofs.Common.{◌≡◌, IfOk, map, sym, ap, ◌∙◌, option_copied, rules}
use Rattle.model.specs.FiniteMap.{values}
use Rattle.model.specs.Changes.{or_new}
use Rattle.plain_kernel.proofs.Setting.{ok_then}
use Rattle.plain_kernel.proofs.Empties.{no_values}
use Rattle.plain_kernel.proofs.free.values_in.Goals as goal

pub returns-in-None : goal.returns-in-None
returns-in-None c = c.new.ensures.items ∙ no_values ∙ ap (λ o. values (or_new (option_copied o)).table) (sym c.in-None.is)

pub returns-in-Some : goal.returns-in-Some
returns-in-Some c =
    let told : IfOk c.collect.result (λ all. all.items ≡ map (λ e. e.1) c.as_slice-slots.result.now) = search rules in
    ok_then c.collect.result told (λ all h. h ∙ ap (map (λ e. e.1)) c.as_slice-slots.ensures ∙ ap (λ p. values p.table) c.process.view_is
    ∙ ap (λ o. values (or_new (option_copied o)).table) (sym c.in-Some.is))
