use Rattle.std.proofs.Common.{◌≡◌, ◌+◌, ◌*◌, ◌%◌, ◌<◌, None, get_or, length, sym, ap, subst, ◌∙◌, arith}
use Rattle.std.proofs.Math.ListN.{set}
use Rattle.std.proofs.lemmas.List.{with_items_is}
use Rattle.model.specs.FiniteMap.{get}
use Rattle.fdtable.specs.Pages.{AreMarked, Paged}
use Rattle.fdtable.specs.Words.{as_bit, bit_in}
use Rattle.std.specs.Option.{is_some}
use Rattle.fdtable.proofs.Laws.{flip}
use Rattle.fdtable.proofs.Joined.{rooms_long}
use Rattle.fdtable.proofs.Paged.{full_word, marked_set, rooms_set, set_apart, set_here}
use Rattle.fdtable.proofs.pages.Pages.put_page.Goals as goal

pub invariant_of-self : goal.invariant_of-self
invariant_of-self c =
    let low : c.args.index < length c.self.inside.each.items = omega (arith, c.requires, rooms_long c.self.inside.each.items c.args.self.now c.self.view_is) in
    let count : length c.mark.new.words ≡ length c.self.inside.full.items = c.mark.ensures.count ∙ ap length c.as_mut_slice.ensures.value in
    let full = full_word c.args.page c.word.result c.lowest_clear.result c.word.ensures.long c.word.ensures.bits c.lowest_clear.ensures in
    subst (AreMarked (set c.self.inside.each.items c.args.index c.args.page)) (sym (with_items_is c.self.inside.full c.mark.new.words (count ∙ sym c.self.inside.full.ok.0)))
    (marked_set c.self.inside.each.items c.self.invariant.long c.args.index c.args.page low c.word.ensures.long c.self.inside.full.items c.mark.new.words c.self.invariant c.word.ensures.bare
    (c.mark.ensures.here ∙ ap as_bit (flip (is_some c.lowest_clear.result) c.is_none-is_full.result c.is_none-is_full.ensures ∙ full)) (λ i away. c.mark.ensures.others i away ∙ ap (λ ws. bit_in ws i) c.as_mut_slice.ensures.value) count)

pub returns-clause-here : goal.returns-clause-here
returns-clause-here c i small =
    let low : c.args.index < length c.self.inside.each.items = omega (arith, c.requires, rooms_long c.self.inside.each.items c.args.self.now c.self.view_is) in
    let place : (64 * c.args.index + i) % 64 ≡ i = omega (arith, small) in
    set_here c.self.inside.each.items c.self.invariant.long c.args.index c.args.page low c.word.ensures.long (64 * c.args.index + i) (omega (arith, small))
    ∙ ap (λ k. get_or c.args.page.slots k None) place

pub returns-clause-others : goal.returns-clause-others
returns-clause-others c f away =
    let low : c.args.index < length c.self.inside.each.items = omega (arith, c.requires, rooms_long c.self.inside.each.items c.args.self.now c.self.view_is) in
    set_apart c.self.inside.each.items c.self.invariant.long c.args.index c.args.page low c.word.ensures.long f away ∙ ap (λ (p : Paged). get p.slots f) c.self.view_is

pub returns-clause-rooms : goal.returns-clause-rooms
returns-clause-rooms c = rooms_set c.self.inside.each.items c.args.index c.args.page ∙ ap (λ (p : Paged). set p.rooms c.args.index c.args.page.room) c.self.view_is
