use Rattle.std.proofs.Common.{◌<◌, ◌^◌, ◌+◌, ◌*◌, None, false, get_or, length, sym, ap, ◌∙◌, arith, inl, inr}
use Rattle.std.proofs.Math.ListN.{set}
use Rattle.model.specs.FiniteMap.{get}
use Rattle.fdtable.proofs.Joined.{comes, either_room, open_room, other_none, place_bare, place_none, rooms_long}
use Rattle.fdtable.proofs.pages.Pages.take_page.Goals as goal
use Rattle.fdtable.proofs.pages.Pages.take_page.Goals.{then-word-ne0-via-then-word-ne0, then-word-ne0-via-else-word-ne0+then-not-has_room}

pub returns-then-word-ne0-clause-here : goal.returns-then-word-ne0-clause-here
returns-then-word-ne0-clause-here c i small =
    let word_fits : c.word.result < 2 ^ 64 = omega arith in
    let low : c.args.index < length c.self.inside.each.items = omega (arith, c.requires.fits, rooms_long c.self.inside.each.items c.args.self.now c.self.view_is) in
    c.put_page.ensures.here i small
    ∙ other_none (get_or c.args.page.slots i None) (get c.args.self.now.slots (64 * c.args.index + i)) (elim c.then-word-ne0.branch [
      | then-word-ne0-via-then-word-ne0 w ↦ comes c.args.page c.word.result (λ i. get c.args.self.now.slots (64 * c.args.index + i)) word_fits c.word.ensures.bits w.if-word-ne0.true c.requires.apart i small
      | then-word-ne0-via-else-word-ne0+then-not-has_room w ↦
          place_none c.self.inside.each.items c.self.inside.full.items c.self.invariant c.args.self.now c.self.view_is c.args.index w.index.result.now low w.index.ensures (sym w.has_room.ensures ∙ w.if-not-has_room.true) i small
    ])

pub returns-then-word-ne0-clause-rooms : goal.returns-then-word-ne0-clause-rooms
returns-then-word-ne0-clause-rooms c =
    let word_fits : c.word.result < 2 ^ 64 = omega arith in
    let low : c.args.index < length c.self.inside.each.items = omega (arith, c.requires.fits, rooms_long c.self.inside.each.items c.args.self.now c.self.view_is) in
    c.put_page.ensures.rooms
    ∙ ap (set c.args.self.now.rooms c.args.index) (either_room (get_or c.args.self.now.rooms c.args.index false) c.args.page.room (elim c.then-word-ne0.branch [
      | then-word-ne0-via-then-word-ne0 w ↦ inr (open_room c.args.page c.word.result word_fits c.word.ensures.bits c.word.ensures.bare w.if-word-ne0.true)
      | then-word-ne0-via-else-word-ne0+then-not-has_room w ↦
          inl (place_bare c.self.inside.each.items c.self.inside.full.items c.self.invariant c.args.self.now c.self.view_is c.args.index w.index.result.now low w.index.ensures (sym w.has_room.ensures ∙ w.if-not-has_room.true))
    ]))
