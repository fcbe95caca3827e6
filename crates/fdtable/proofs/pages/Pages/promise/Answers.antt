use Rattle.std.proofs.Common.{◌≡◌, ◌/◌, ◌<◌, ℕ, List, true, length, OnOk, sym, ap, subst, ◌∙◌, arith}
use Rattle.std.proofs.Math.ListN.{set}
use Rattle.std.proofs.lemmas.List.{get_or_read}
use Rattle.fdtable.specs.Pages.{HasRoom, PageContent, Paged, no_page, rooms_of}
use Rattle.fdtable.proofs.Joined.{rooms_long}
use Rattle.fdtable.proofs.Paged.{marked_room, page_in, promise_bare, promise_has, promise_more, promise_slots, room_more, table_room}
use Rattle.fdtable.proofs.pages.Pages.promise.Goals as goal

pub invariant_of-self : goal.invariant_of-self
invariant_of-self c =
    let pages : List PageContent = c.self.inside.each.items in
    let n : ℕ = c.fd.inside.0 / 64 in
    let before : PageContent = c.index_mut.result.now in
    let page : PageContent = c.promise.new.self in
    let low : n < length pages = omega (arith, c.in_ok-reach.ensures.ok, rooms_long pages c.reach.new.self c.self.view_is) in
    let here : before ≡ page_in pages n = get_or_read pages n before low c.index_mut.ensures.value no_page in
    let slots : page.slots ≡ (page_in pages n).slots = promise_slots c.promise.result before page c.promise.ensures.ok c.promise.ensures.err ∙ ap (λ (p : PageContent). p.slots) here in
    marked_room pages c.self.inside.full.items c.self.invariant n page low slots
    (promise_bare c.promise.result before page c.promise.ensures.ok c.promise.ensures.err (λ e. here ∙ c.self.invariant.bare n (ap (λ (p : PageContent). p.room) (sym here) ∙ e)))

pub returns-clause-ok : goal.returns-clause-ok
returns-clause-ok c =
    let pages : List PageContent = c.self.inside.each.items in
    let n : ℕ = c.fd.inside.0 / 64 in
    let before : PageContent = c.index_mut.result.now in
    let page : PageContent = c.promise.new.self in
    let low : n < length pages = omega (arith, c.in_ok-reach.ensures.ok, rooms_long pages c.reach.new.self c.self.view_is) in
    let here : before ≡ page_in pages n = get_or_read pages n before low c.index_mut.ensures.value no_page in
    subst (λ (k : ℕ). OnOk c.promise.result (HasRoom (rooms_of (set pages n page)) k)) c.fd.view_is
    (promise_has c.promise.result pages c.fd.inside.0 page low (subst (λ (p : PageContent). OnOk c.promise.result (page ≡ record p { room = true })) here c.promise.ensures.ok))

pub returns-clause-slots : goal.returns-clause-slots
returns-clause-slots c =
    let pages : List PageContent = c.self.inside.each.items in
    let n : ℕ = c.fd.inside.0 / 64 in
    let before : PageContent = c.index_mut.result.now in
    let page : PageContent = c.promise.new.self in
    let low : n < length pages = omega (arith, c.in_ok-reach.ensures.ok, rooms_long pages c.reach.new.self c.self.view_is) in
    let here : before ≡ page_in pages n = get_or_read pages n before low c.index_mut.ensures.value no_page in
    let slots : page.slots ≡ (page_in pages n).slots = promise_slots c.promise.result before page c.promise.ensures.ok c.promise.ensures.err ∙ ap (λ (p : PageContent). p.slots) here in
    table_room pages c.self.inside.full.items c.self.invariant n page low slots ∙ ap (λ (p : Paged). p.slots) c.self.view_is ∙ c.reach.ensures.slots

pub returns-clause-rooms : goal.returns-clause-rooms
returns-clause-rooms c f room =
    let pages : List PageContent = c.self.inside.each.items in
    let n : ℕ = c.fd.inside.0 / 64 in
    let before : PageContent = c.index_mut.result.now in
    let page : PageContent = c.promise.new.self in
    let low : n < length pages = omega (arith, c.in_ok-reach.ensures.ok, rooms_long pages c.reach.new.self c.self.view_is) in
    let here : before ≡ page_in pages n = get_or_read pages n before low c.index_mut.ensures.value no_page in
    let slots : page.slots ≡ (page_in pages n).slots = promise_slots c.promise.result before page c.promise.ensures.ok c.promise.ensures.err ∙ ap (λ (p : PageContent). p.slots) here in
    room_more pages c.self.inside.full.items c.self.invariant n page low slots
    (λ e. promise_more c.promise.result before page c.promise.ensures.ok c.promise.ensures.err (ap (λ (p : PageContent). p.room) here ∙ e)) f
    (subst (λ (p : Paged). HasRoom p.rooms f) (sym c.self.view_is) (c.reach.ensures.rooms f room))
