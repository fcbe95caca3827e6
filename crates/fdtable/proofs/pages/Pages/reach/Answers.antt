use Rattle.std.proofs.Common.{◌≡◌, ◌*◌, ◌<◌, ◌++◌, ◌∷◌, [], ℕ, List, length, sym, ap, subst, ◌∙◌, arith}
use Rattle.fdtable.specs.Pages.{AreMarked, HasRoom, PageContent, Paged, most_pages, no_page, rooms_of}
use Rattle.fdtable.proofs.Paged.{marked_longer, marked_push, room_push, table_of, table_push}
use Rattle.fdtable.proofs.pages.Pages.reach.Goals as goal

pub loop-heap-init : goal.loop-heap-init
loop-heap-init c = record {
  marked = marked_longer c.self.inside.each.items c.self.inside.full.items c.reach.new.words.items c.self.invariant c.reach.ensures.bits c.reach.ensures.longer (omega (arith, c.reach.ensures.few, c.self.invariant.few_words, c.requires));
  slots = ap (λ (p : Paged). p.slots) c.self.view_is;
  rooms = λ f room. subst (λ (p : Paged). HasRoom p.rooms f) (sym c.self.view_is) room;
  words = c.in_ok-reach.ensures.ok;
}

pub loop-heap-preserved : goal.loop-heap-preserved
loop-heap-preserved c =
    let pages : List PageContent = c.loop-heap.self-inside.each.items in
    let bits : List ℕ = c.loop-heap.self-inside.full.items in
    let is : c.push.new.self.items ≡ pages ++ no_page ∷ [] = subst (λ (p : PageContent). c.push.new.self.items ≡ pages ++ p ∷ []) c.new.ensures c.in_ok-push.ensures.items in
    let words : length pages < 64 * length bits = omega (arith, c.loop-heap.invariant.words) in
    let few : length pages < most_pages = omega (arith, c.requires) in
    record {
      marked = subst (λ (ps : List PageContent). AreMarked ps bits) (sym is) (marked_push pages bits c.loop-heap.invariant.marked words few);
      slots = ap table_of is ∙ table_push pages c.loop-heap.invariant.marked.long ∙ c.loop-heap.invariant.slots;
      rooms = λ f room. subst (λ (ps : List PageContent). HasRoom (rooms_of ps) f) (sym is) (room_push pages f (c.loop-heap.invariant.rooms f room));
      words = c.loop-heap.invariant.words;
    }
