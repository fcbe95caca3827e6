use Rattle.std.proofs.Common.{rules, ◌≡◌, ◌++◌, ◌∷◌, [], List, Bool, None, sym, subst}
use Rattle.notes.specs.Patches.{kept_at}
use Rattle.notes.specs.Openings.{AreOnce, AreRoomy}
use Rattle.notes.proofs.DistinctProcesses.{once_pushed}
use Rattle.notes.proofs.SlotLemmas.{Entries, placed_slots, placed_there}
use Rattle.notes.proofs.SlotRooms.{rooms_more, rooms_pushed}
use Rattle.notes.proofs.slots.Slots.make_place.Goals as goal

pub invariant_of-self-in_err-push-2 : goal.invariant_of-self-in_err-push-2
invariant_of-self-in_err-push-2 c =
    let es : Entries = c.self.inside.each.items in
    let same : c.push-2.new.self.items ≡ es = search rules in
    let grown : c.push.new.self.items ≡ c.self.inside.rooms.items ++ c.new.result ∷ [] = search rules in
    subst (λ (es : Entries). AreOnce es × AreRoomy es c.push.new.self.items) (sym same)
    (c.self.invariant.0, subst (λ (rooms : List (List Bool)). AreRoomy es rooms) (sym grown) (rooms_more es c.self.inside.rooms.items c.new.result c.self.invariant.1))

pub invariant_of-self-2 : goal.invariant_of-self-2
invariant_of-self-2 c =
    let es : Entries = c.self.inside.each.items in
    let none : kept_at es c.args.pid ≡ None = search rules in
    let more : c.push-2.new.self.items ≡ es ++ (c.args.pid, c.new-2.result) ∷ [] = search rules in
    let grown : c.push.new.self.items ≡ c.self.inside.rooms.items ++ c.new.result ∷ [] = search rules in
    subst (λ (es : Entries). AreOnce es × AreRoomy es c.push.new.self.items) (sym more) (
      once_pushed es c.args.pid c.new-2.result none c.self.invariant.0,
      subst (λ (rooms : List (List Bool)). AreRoomy (es ++ (c.args.pid, c.new-2.result) ∷ []) rooms) (sym grown)
          (rooms_pushed es c.self.inside.rooms.items c.new.result c.args.pid c.new-2.result c.new-2.ensures c.self.invariant.1),
    )

pub returns-clause-same : goal.returns-clause-same
returns-clause-same c =
    let none : kept_at c.args.self.now c.args.pid ≡ None = search rules in
    let grown : c.push-2.new.self.items ≡ c.args.self.now ++ (c.args.pid, c.new-2.result) ∷ [] = search rules in
    placed_slots c.args.self.now c.push-2.new.self.items c.args.pid c.new-2.result c.new-2.ensures none grown

pub returns-clause-ok : goal.returns-clause-ok
returns-clause-ok c =
    let none : kept_at c.args.self.now c.args.pid ≡ None = search rules in
    let grown : c.push-2.new.self.items ≡ c.args.self.now ++ (c.args.pid, c.new-2.result) ∷ [] = search rules in
    placed_there c.args.self.now c.push-2.new.self.items c.args.pid c.new-2.result none grown
