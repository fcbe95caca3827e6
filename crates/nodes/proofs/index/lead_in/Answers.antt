use Rattle.std.proofs.Common.{ℕ, Option, refl, sym, ap, ◌∙◌}
use Rattle.std.specs.Option.{is_some}
use Rattle.std.specs.Ordering.{eq_by_cmp}
use Rattle.model.proofs.Laws.{get_at, inserted}
use Rattle.nodes.specs.DirectoryEntries.{entry_cmp, entry_cmp_total, entry_exact}
use Rattle.nodes.specs.Parts.{numbers_in}
use Rattle.nodes.specs.Tables.{leading}
use Rattle.nodes.proofs.index.lead_in.Goals as goal

pub returns-in-Some-clause-numbers : goal.returns-in-Some-clause-numbers
returns-in-Some-clause-numbers c =
    inserted entry_cmp_total entry_exact (eq_by_cmp entry_cmp) (λ x y. refl) c.args.numbers.now.entries (c.get_mut.follows.lender c.args.number).entries c.args.entry.now c.args.number ((c.get_mut.follows.holds c.args.number).3 (ap is_some (sym c.in-Some.ensures.value))).0
    ∙ ap (λ (o : Option ℕ). leading c.args.entry.now c.args.number o (numbers_in c.args.numbers.now)) (c.in-Some.ensures.value ∙ sym (get_at entry_cmp_total entry_exact (eq_by_cmp entry_cmp) (λ x y. refl) c.args.numbers.now.entries c.args.entry.now))

pub returns-in-None-clause-numbers : goal.returns-in-None-clause-numbers
returns-in-None-clause-numbers c =
    ap numbers_in c.get_mut.follows.holds-at-none
    ∙ ap (λ (o : Option ℕ). leading c.args.entry.now c.args.number o (numbers_in c.args.numbers.now)) (c.in-None.ensures.value ∙ sym (get_at entry_cmp_total entry_exact (eq_by_cmp entry_cmp) (λ x y. refl) c.args.numbers.now.entries c.args.entry.now))
