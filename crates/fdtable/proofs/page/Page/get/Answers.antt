use Rattle.std.proofs.Common.{None, get_or, length, sym, ap, ◌∙◌, arith}
use Rattle.std.proofs.lemmas.List.{get_or_past}
use Rattle.fdtable.specs.Pages.{PageContent}
use Rattle.fdtable.proofs.Slots.{padded_same}
use Rattle.fdtable.proofs.page.Page.get.Goals as goal

pub returns-in-None : goal.returns-in-None
returns-in-None c =
    sym (ap (λ (p : PageContent). get_or p.slots c.args.index None) (sym c.self.view_is) ∙ padded_same c.self.inside.slots.items c.args.index
    ∙ get_or_past c.self.inside.slots.items c.args.index None (omega (arith, c.in-None.ensures.lookup.3, ap length c.deref.ensures.value)))
