use Rattle.std.proofs.Common.{◌≡◌, ◌+◌, ◌<◌, ◌≤◌, ◌∙◌, ℕ, Bool, List, [], get_or, length, set, sym, ap, subst, arith, vec_len}
use Rattle.std.proofs.lemmas.List.{get_or_read, get_or-set_other, length-set}
use Rattle.model.specs.FiniteMap.{empty, entries, get}
use Rattle.fdtable.specs.Pages.{HasRoom}
use Rattle.fdtable.specs.Patches.{Given}
use Rattle.notes.proofs.Laws.{Entries, key_at, patch_at, room_at, rooms_reach}
use Rattle.shadow.specs.Laid.{IsReslotted}
use Rattle.shadow.specs.Stored.{numbered}
use Rattle.shadow.proofs.committing.ProcessSteps.{Lays, lays_nothing, lays_on, next_there}
use Rattle.shadow.proofs.reslotting.lay_slots.Goals as goal

pub loop-i-init : goal.loop-i-init
loop-i-init c = record {
  laid = lays_nothing c.args.each.now c.args.processes.now c.args.store.now c.requires.once;
  reach = rooms_reach c.args.each.now c.args.rooms.items c.requires.rooms;
  rooms = λ j f from low. room_at c.args.each.now c.args.rooms.items j c.requires.rooms low f;
}

pub index_mut-requires : goal.index_mut-requires
index_mut-requires c =
    let reach : length c.args.each.now ≤ length c.loop-i.rooms.items = c.loop-i.invariant.reach in
    let count : vec_len c.loop-i.rooms ≡ length c.loop-i.rooms.items = c.loop-i.rooms.ok.0 in
    omega (arith, c.loop-i-test.true, reach, count)

-- what is read at a place is what stands there at first
read_first : (es now : Entries) (i : ℕ) (e : ℕ × Given) → i < length now → get_or now i (0, empty) ≡ get_or es i (0, empty) → e ≡ get_or now i e → get_or now i e ≡ get_or es i (0, empty)
read_first es now i e low same read = sym read ∙ get_or_read now i e low read (0, empty) ∙ same

first_is : (c : goal.After-index-each-i-in-loop-i) → get_or c.loop-i.each c.loop-i.i c.index-each-i-in-loop-i.result ≡ get_or c.args.each.now c.loop-i.i (0, empty)
first_is c = read_first c.args.each.now c.loop-i.each c.loop-i.i c.index-each-i-in-loop-i.result (omega (arith, c.loop-i-test.true, c.loop-i.auto.each))
    (c.loop-i.invariant.laid.later c.loop-i.i (omega arith)) c.index-each-i-in-loop-i.is

key_is : (c : goal.After-index-each-i-in-loop-i) → get_or c.loop-i.each c.loop-i.i c.index-each-i.result ≡ get_or c.args.each.now c.loop-i.i (0, empty)
key_is c = read_first c.args.each.now c.loop-i.each c.loop-i.i c.index-each-i.result (omega (arith, c.loop-i-test.true, c.loop-i.auto.each))
    (c.loop-i.invariant.laid.later c.loop-i.i (omega arith)) c.index-each-i.is

pub lay_table-requires-clause-room : goal.lay_table-requires-clause-room
lay_table-requires-clause-room c = λ f some.
    let reach : length c.args.each.now ≤ length c.loop-i.rooms.items = c.loop-i.invariant.reach in
    let i : ℕ = c.loop-i.i in
    let room : c.replace-room.result ≡ get_or c.loop-i.rooms.items i [] =
    c.replace-room.ensures.value ∙ get_or_read c.loop-i.rooms.items i c.index_mut.result.now (omega (arith, c.loop-i-test.true, reach)) c.index_mut.ensures.value [] in
    subst (λ (room : List Bool). HasRoom room f) (sym room)
    (c.loop-i.invariant.rooms i f (omega arith) c.loop-i-test.true (λ none. some (ap (λ (e : ℕ × Given). get e.1 f) (first_is c) ∙ none)))

-- what is read there now
read_now : (now : Entries) (i : ℕ) (e : ℕ × Given) → i < length now → e ≡ get_or now i e → get_or now i (0, empty) ≡ get_or now i e
read_now now i e low read = sym (get_or_read now i e low read (0, empty)) ∙ read

pub lay_table-requires-clause-living : goal.lay_table-requires-clause-living
lay_table-requires-clause-living c = λ some none.
    let es : Entries = c.args.each.now in
    let now : Entries = c.loop-i.each in
    let i : ℕ = c.loop-i.i in
    let low : i < length now = omega (arith, c.loop-i-test.true, c.loop-i.auto.each) in
    next_there i es now c.args.processes.now c.loop-i.processes c.args.store.now c.loop-i.store c.requires.once c.loop-i-test.true c.loop-i.invariant.laid c.requires.living
    (λ e. some (ap (λ (e : ℕ × Given). entries e.1) (sym (read_now now i c.index-each-i-in-loop-i.result low c.index-each-i-in-loop-i.is)) ∙ e))
    (ap (λ (e : ℕ × Given). get (numbered c.loop-i.processes) e.0) (read_now now i c.index-each-i.result low c.index-each-i.is) ∙ none)

pub loop-i-preserved : goal.loop-i-preserved
loop-i-preserved c =
    let es : Entries = c.args.each.now in
    let now : Entries = c.loop-i.each in
    let i : ℕ = c.loop-i.i in
    let low : i < length now = omega (arith, c.loop-i-test.true, c.loop-i.auto.each) in
    let later : get_or now i (0, empty) ≡ get_or es i (0, empty) = c.loop-i.invariant.laid.later i (omega arith) in
    let key : get_or now i c.index-each-i.result ≡ get_or es i (0, empty) = read_first es now i c.index-each-i.result low later c.index-each-i.is in
    let patch : get_or now i c.index-each-i-in-loop-i.result ≡ get_or es i (0, empty) = read_first es now i c.index-each-i-in-loop-i.result low later c.index-each-i-in-loop-i.is in
    let former : Given = c.lay_table.new.patch in
    let laid : IsReslotted (key_at es i) (patch_at es i) former c.loop-i.processes c.lay_table.new.processes c.loop-i.store c.lay_table.new.store =
    subst (λ (e : ℕ × Given). IsReslotted e.0 (patch_at es i) former c.loop-i.processes c.lay_table.new.processes c.loop-i.store c.lay_table.new.store) key
    (subst (λ (e : ℕ × Given). IsReslotted (get_or now i c.index-each-i.result).0 e.1 former c.loop-i.processes c.lay_table.new.processes c.loop-i.store c.lay_table.new.store) patch c.lay_table.ensures) in
    record {
      laid = subst (λ (e : ℕ × Given). Lays (i + 1) es (set now i (e.0, former)) c.args.processes.now c.lay_table.new.processes c.args.store.now c.lay_table.new.store) (sym patch)
          (lays_on i es now c.args.processes.now c.loop-i.processes c.args.store.now c.loop-i.store c.requires.once c.loop-i-test.true c.loop-i.invariant.laid former c.lay_table.new.processes c.lay_table.new.store laid);
      reach =
          (let count : length (set c.loop-i.rooms.items i c.replace-room.new.dest) ≡ length c.loop-i.rooms.items = length-set c.loop-i.rooms.items i c.replace-room.new.dest in
          let reach : length es ≤ length c.loop-i.rooms.items = c.loop-i.invariant.reach in
          omega (arith, count, reach));
      rooms = λ j f from below some.
          subst (λ (room : List Bool). HasRoom room f) (sym (get_or-set_other c.loop-i.rooms.items i j c.replace-room.new.dest [] (λ same. omega (arith, same, from))))
          (c.loop-i.invariant.rooms j f (omega (arith, from)) below some);
    }
