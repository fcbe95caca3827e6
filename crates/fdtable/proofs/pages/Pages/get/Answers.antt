use Rattle.std.proofs.Common.{◌≡◌, ◌/◌, ◌%◌, true, false, get_or, length, sym, ap, ◌∙◌, arith}
use Rattle.std.specs.Option.{is_some}
use Rattle.fdtable.specs.Pages.{no_page}
use Rattle.fdtable.proofs.Paged.{seen_at, seen_past, seen_room}
use Rattle.fdtable.proofs.pages.Pages.get.Goals as goal

pub returns-in-Some-clause-value : goal.returns-in-Some-clause-value
returns-in-Some-clause-value c =
    c.get-in-Some.ensures
    ∙ seen_at c.self.inside.each.items c.self.inside.full.items c.self.invariant c.args.self.now c.self.view_is c.args.fd (c.fd.inside.0 / 64) (c.fd.inside.0 % 64) c.in-Some.page.now
    (ap (λ f. f / 64) (sym c.fd.view_is)) (ap (λ f. f % 64) (sym c.fd.view_is)) (c.in-Some.ensures.lookup.3.1 no_page ∙ ap (λ ps. get_or ps (c.fd.inside.0 / 64) no_page) c.deref.ensures.value)

pub returns-in-None-clause-value : goal.returns-in-None-clause-value
returns-in-None-clause-value c =
    seen_past c.self.inside.each.items c.self.inside.full.items c.self.invariant c.args.self.now c.self.view_is c.args.fd (c.fd.inside.0 / 64) (ap (λ f. f / 64) (sym c.fd.view_is)) (omega (arith, c.in-None.ensures.lookup.3, ap length c.deref.ensures.value))

pub returns-in-Some-clause-room : goal.returns-in-Some-clause-room
returns-in-Some-clause-room c some =
    seen_room c.self.inside.each.items c.self.inside.full.items c.self.invariant c.args.self.now c.self.view_is c.args.fd
    (λ none. (let no : false ≡ true = sym (ap is_some (returns-in-Some-clause-value c ∙ none)) ∙ some in cc))
