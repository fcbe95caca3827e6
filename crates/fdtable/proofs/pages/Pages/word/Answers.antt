use Rattle.std.proofs.Common.{get_or, ap, sym, ◌∙◌}
use Rattle.std.specs.Option.{is_some}
use Rattle.std.proofs.lemmas.List.{get_or_past}
use Rattle.std.proofs.lemmas.Nat.Bits.{bit_at-zero}
use Rattle.fdtable.specs.Pages.{no_page}
use Rattle.fdtable.specs.Words.{as_bit}
use Rattle.fdtable.proofs.Paged.{none_given, seen_word}
use Rattle.fdtable.proofs.pages.Pages.word.Goals as goal

pub returns-in-Some : goal.returns-in-Some
returns-in-Some c i low =
    c.word.ensures.bits i low
    ∙ ap (λ o. as_bit (is_some o)) (seen_word c.self.inside.each.items c.self.inside.full.items c.self.invariant c.args.self.now c.self.view_is c.args.index i c.in-Some.page.now low
    (c.in-Some.ensures.lookup.3.1 no_page ∙ ap (λ ps. get_or ps c.args.index no_page) c.deref.ensures.value))

pub returns-in-None : goal.returns-in-None
returns-in-None c i low =
    bit_at-zero i ∙ ap (λ o. as_bit (is_some o)) (sym (none_given 64 i)
    ∙ seen_word c.self.inside.each.items c.self.inside.full.items c.self.invariant c.args.self.now c.self.view_is c.args.index i no_page low (sym (ap (λ ps. get_or ps c.args.index no_page) (sym c.deref.ensures.value) ∙ get_or_past c.deref.result.now c.args.index no_page c.in-None.ensures.lookup.3)))
