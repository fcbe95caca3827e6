use Rattle.std.proofs.Common.{get_or, length, None, sym, ap, ◌∙◌}
use Rattle.std.specs.Option.{is_some}
use Rattle.fdtable.specs.Pages.{PageContent}
use Rattle.fdtable.specs.Words.{as_bit}
use Rattle.fdtable.proofs.Slots.{bare_page, padded_same}
use Rattle.fdtable.proofs.page.Page.word.Goals as goal

pub returns-clause-bits : goal.returns-clause-bits
returns-clause-bits c i low = c.self.invariant.marked i low ∙ ap (λ o. as_bit (is_some o)) (sym (padded_same c.self.inside.slots.items i) ∙ ap (λ (p : PageContent). get_or p.slots i None) c.self.view_is)

pub returns-clause-long : goal.returns-clause-long
returns-clause-long c = ap (λ (p : PageContent). length p.slots) (sym c.self.view_is) ∙ c.self.invariant.long

pub returns-clause-bare : goal.returns-clause-bare
returns-clause-bare c e = sym c.self.view_is ∙ bare_page c.self.inside.slots.items (ap (λ (p : PageContent). p.room) c.self.view_is ∙ e)
