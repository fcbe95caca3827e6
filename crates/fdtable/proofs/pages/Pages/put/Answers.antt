use Rattle.std.proofs.Common.{◌≡◌, ◌/◌, ◌%◌, ◌<◌, ℕ, List, Option, nat_cmp, get_or, length, sym, ap, ap₂, subst, ◌∙◌}
use Rattle.std.proofs.Math.ListN.{set}
use Rattle.std.specs.Option.{is_some}
use Rattle.std.proofs.lemmas.List.{get_or_read, with_items_is}
use Rattle.model.specs.FiniteMap.{FinMap}
use Rattle.fdtable.specs.Pages.{AreMarked, HasRoom, PageContent, Paged, given_at, no_page, rooms_of}
use Rattle.fdtable.specs.Words.{as_bit, bit_in}
use Rattle.fdtable.proofs.Laws.{flip}
use Rattle.fdtable.proofs.Paged.{page_in, put_in, put_marked, put_rooms, put_table, room_low, seen_at, seen_of}
use Rattle.fdtable.proofs.pages.Pages.put.Goals as goal

-- the room that a contract sees is that of the pages
has : (pages : List PageContent) (seen : Paged) → seen_of pages ≡ seen → (f g : ℕ) → g ≡ f → HasRoom seen.rooms f → HasRoom (rooms_of pages) g
has pages seen is f g same room = subst (λ (p : Paged). HasRoom p.rooms g) (sym is) (subst (HasRoom seen.rooms) (sym same) room)

-- a page that was read and changed is the one at its place, changed
put_is : (pages : List PageContent) (f : ℕ) (o : Option ℕ) (page before : PageContent) → f / 64 < length pages → before ≡ get_or pages (f / 64) before → page ≡ put_in before (f % 64) o → page ≡ put_in (page_in pages (f / 64)) (f % 64) o
put_is pages f o page before low at is = is ∙ ap (λ (p : PageContent). put_in p (f % 64) o) (get_or_read pages (f / 64) before low at no_page)

pub invariant_of-self : goal.invariant_of-self
invariant_of-self c =
    let pages : List PageContent = c.self.inside.each.items in
    let f : ℕ = c.fd.inside.0 in
    let before : PageContent = c.index_mut-stored.result.now in
    let page : PageContent = c.put-former.new.self in
    let room : HasRoom (rooms_of pages) f = has pages c.args.self.now c.self.view_is c.args.fd f c.fd.view_is c.requires in
    let is : page ≡ put_in (page_in pages (f / 64)) (f % 64) c.args.given = put_is pages f c.args.given page before (room_low pages f room) c.index_mut-stored.ensures.value c.put-former.ensures.slots in
    let count : length c.mark.new.words ≡ length c.self.inside.full.items = c.mark.ensures.count ∙ ap length c.as_mut_slice.ensures.value in
    subst (AreMarked (set pages (f / 64) page)) (sym (with_items_is c.self.inside.full c.mark.new.words (count ∙ sym c.self.inside.full.ok.0)))
    (put_marked pages c.self.inside.full.items c.self.invariant f c.args.given room page is c.word.result c.lowest_clear.result c.mark.new.words c.word.ensures.bits c.lowest_clear.ensures
    (c.mark.ensures.here ∙ ap as_bit (flip (is_some c.lowest_clear.result) c.is_none-is_full.result c.is_none-is_full.ensures))
    (λ i away. c.mark.ensures.others i away ∙ ap (λ (ws : List ℕ). bit_in ws i) c.as_mut_slice.ensures.value) count)

pub returns-clause-former : goal.returns-clause-former
returns-clause-former c =
    let pages : List PageContent = c.self.inside.each.items in
    let f : ℕ = c.fd.inside.0 in
    let before : PageContent = c.index_mut-stored.result.now in
    let room : HasRoom (rooms_of pages) f = has pages c.args.self.now c.self.view_is c.args.fd f c.fd.view_is c.requires in
    c.put-former.ensures.former
    ∙ seen_at pages c.self.inside.full.items c.self.invariant c.args.self.now c.self.view_is c.args.fd (f / 64) (f % 64) before (ap (λ (k : ℕ). k / 64) (sym c.fd.view_is)) (ap (λ (k : ℕ). k % 64) (sym c.fd.view_is))
    (get_or_read pages (f / 64) before (room_low pages f room) c.index_mut-stored.ensures.value no_page)

pub returns-clause-slots : goal.returns-clause-slots
returns-clause-slots c =
    let pages : List PageContent = c.self.inside.each.items in
    let f : ℕ = c.fd.inside.0 in
    let before : PageContent = c.index_mut-stored.result.now in
    let page : PageContent = c.put-former.new.self in
    let room : HasRoom (rooms_of pages) f = has pages c.args.self.now c.self.view_is c.args.fd f c.fd.view_is c.requires in
    let is : page ≡ put_in (page_in pages (f / 64)) (f % 64) c.args.given = put_is pages f c.args.given page before (room_low pages f room) c.index_mut-stored.ensures.value c.put-former.ensures.slots in
    put_table pages c.self.inside.full.items c.self.invariant f c.args.given room page is
    ∙ ap₂ (λ (k : ℕ) (m : FinMap nat_cmp ℕ). given_at k c.args.given m) c.fd.view_is (ap (λ (p : Paged). p.slots) c.self.view_is)

pub returns-clause-rooms : goal.returns-clause-rooms
returns-clause-rooms c =
    let pages : List PageContent = c.self.inside.each.items in
    let f : ℕ = c.fd.inside.0 in
    let before : PageContent = c.index_mut-stored.result.now in
    let page : PageContent = c.put-former.new.self in
    let room : HasRoom (rooms_of pages) f = has pages c.args.self.now c.self.view_is c.args.fd f c.fd.view_is c.requires in
    let is : page ≡ put_in (page_in pages (f / 64)) (f % 64) c.args.given = put_is pages f c.args.given page before (room_low pages f room) c.index_mut-stored.ensures.value c.put-former.ensures.slots in
    put_rooms pages c.self.inside.full.items c.self.invariant f c.args.given room page is ∙ ap (λ (p : Paged). p.rooms) c.self.view_is
