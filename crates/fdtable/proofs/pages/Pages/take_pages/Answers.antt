use Rattle.std.proofs.Common.{◌≡◌, ◌≢◌, ◌+◌, ◌*◌, ◌/◌, ◌<◌, ◌≤◌, ◌⊎◌, ◌||◌, ℕ, List, [], None, false, get_or, length, sym, subst, ◌∙◌, arith}
use Rattle.std.proofs.Math.ListN.{set}
use Rattle.std.proofs.lemmas.List.{nil_from_length}
use Rattle.model.specs.FiniteMap.{get}
use Rattle.fdtable.specs.Pages.{PageContent, Paged, or_other}
use Rattle.fdtable.proofs.Joined.{AreTaken, last_apart, last_fits, taken_mine, taken_more, taken_rooms, taken_start, taken_theirs}
use Rattle.fdtable.proofs.pages.Pages.take_pages.Goals as goal

pub loop-page-init : goal.loop-page-init
loop-page-init c =
    subst (λ (p : Paged). AreTaken c.args.self.now p c.args.self.now c.other.inside.each.items) c.other.view_is
    (taken_start c.args.self.now c.other.inside.each.items c.other.invariant.long
    (subst (λ (p : Paged). length p.rooms ≤ length c.args.self.now.rooms) (sym c.other.view_is) c.requires.fits))

pub take_page-requires-clause-fits : goal.take_page-requires-clause-fits
take_page-requires-clause-fits c =
    let new : List PageContent = c.pop.new.self.items in
    let at : c.len.result ≡ length new = c.len.ensures ∙ c.pop.new.self.ok.0 in
    let low = last_fits c.args.self.now c.args.other c.loop-page.self c.loop-page.self c.loop-page.each.items new c.in-Some.page c.loop-page.invariant c.in-Some.ensures.items in
    omega (arith, at, low)

pub take_page-requires-clause-apart : goal.take_page-requires-clause-apart
take_page-requires-clause-apart c =
    let new : List PageContent = c.pop.new.self.items in
    let at : c.len.result ≡ length new = c.len.ensures ∙ c.pop.new.self.ok.0 in
    subst (λ (n : ℕ). ((i : ℕ) → i < 64 → get c.loop-page.self.slots (64 * n + i) ≡ None) ⊎ ((i : ℕ) → get_or c.in-Some.page.slots i None ≡ None)) (sym at)
    (last_apart c.args.self.now c.args.other c.loop-page.self c.loop-page.self c.loop-page.each.items new c.in-Some.page c.loop-page.invariant c.in-Some.ensures.items c.requires.apart)

pub loop-page-preserved : goal.loop-page-preserved
loop-page-preserved c =
    let new : List PageContent = c.pop.new.self.items in
    let at : c.len.result ≡ length new = c.len.ensures ∙ c.pop.new.self.ok.0 in
    let now : Paged = c.loop-page.self in
    let later : Paged = c.take_page.new.self in
    let page : PageContent = c.in-Some.page in
    taken_more c.args.self.now c.args.other now later c.loop-page.each.items new page c.loop-page.invariant c.in-Some.ensures.items
    (subst (λ (n : ℕ). (i : ℕ) → i < 64 → get later.slots (64 * n + i) ≡ or_other (get_or page.slots i None) (get now.slots (64 * n + i))) at c.take_page.ensures.here)
    (subst (λ (n : ℕ). (f : ℕ) → f / 64 ≢ n → get later.slots f ≡ get now.slots f) at c.take_page.ensures.others)
    (subst (λ (n : ℕ). later.rooms ≡ set now.rooms n (get_or now.rooms n false || page.room)) at c.take_page.ensures.rooms)

pub returns-clause-mine : goal.returns-clause-mine
returns-clause-mine c =
    let none : c.loop-page.each.items ≡ [] = nil_from_length c.loop-page.each.items (omega (arith, c.in_default.ensures.cases.0, c.loop-page.each.ok.0)) in
    taken_mine c.args.self.now c.args.other c.loop-page.self (subst (AreTaken c.args.self.now c.args.other c.loop-page.self) none c.loop-page.invariant)

pub returns-clause-theirs : goal.returns-clause-theirs
returns-clause-theirs c =
    let none : c.loop-page.each.items ≡ [] = nil_from_length c.loop-page.each.items (omega (arith, c.in_default.ensures.cases.0, c.loop-page.each.ok.0)) in
    taken_theirs c.args.self.now c.args.other c.loop-page.self (subst (AreTaken c.args.self.now c.args.other c.loop-page.self) none c.loop-page.invariant)

pub returns-clause-rooms : goal.returns-clause-rooms
returns-clause-rooms c =
    let none : c.loop-page.each.items ≡ [] = nil_from_length c.loop-page.each.items (omega (arith, c.in_default.ensures.cases.0, c.loop-page.each.ok.0)) in
    taken_rooms c.args.self.now c.args.other c.loop-page.self (subst (AreTaken c.args.self.now c.args.other c.loop-page.self) none c.loop-page.invariant)
