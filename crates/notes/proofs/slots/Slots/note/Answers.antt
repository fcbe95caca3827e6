use Rattle.std.proofs.Common.{◌≡◌, ◌≢◌, ◌≤◌, ◌∙◌, ℕ, ◌<◌, List, Bool, None, length, get_or, set, [], sym, ap, subst, refl, arith, vec_len, below_more}
use Rattle.std.proofs.lemmas.Bool.{eqb-true, eqb-false}
use Rattle.std.proofs.lemmas.List.{get_or_read}
use Rattle.model.specs.FiniteMap.{empty}
use Rattle.fdtable.specs.Pages.{HasRoom}
use Rattle.fdtable.specs.Patches.{Given}
use Rattle.notes.specs.declared.slots.Slots.TheInside.{Inside}
use Rattle.notes.specs.Openings.{AreOnce, AreRoomy, AtSlots}
use Rattle.notes.specs.Patches.{kept_at}
use Rattle.notes.proofs.Outcomes.{err_so, ok_so}
use Rattle.notes.proofs.SlotLemmas.{Entries, kept_nowhere}
use Rattle.notes.proofs.SlotPlaces.{it_is, place_noted, place_once, place_room, place_roomy, place_same, still_roomy}
use Rattle.notes.proofs.SlotRooms.{rooms_reach}
use Rattle.notes.proofs.slots.Slots.note.Goals as goal

pub loop-i-init : goal.loop-i-init
loop-i-init c = record { none = record { others = λ j low. absurd (omega (arith, low)) }; same = refl }

-- the place is one of those that were there
long : (s now : Inside) → now ≡ s → (i n : ℕ) → i < n → n ≡ vec_len s.each → i < length now.each.items
long s now same i n low is =
    let whole : vec_len now.each ≡ vec_len s.each = ap (λ (s : Inside). vec_len s.each) same in
    let count : vec_len now.each ≡ length now.each.items = now.each.ok.0 in
    omega (arith, low, is, whole, count)

pub index-requires : goal.index-requires
index-requires c =
    let low : c.loop-i.i < length c.loop-i.self-inside.each.items = long c.self.inside c.loop-i.self-inside c.loop-i.invariant.same c.loop-i.i c.len-i-end.result c.loop-i-test.true c.len-i-end.ensures in
    let count : vec_len c.loop-i.self-inside.each ≡ length c.loop-i.self-inside.each.items = c.loop-i.self-inside.each.ok.0 in
    omega (arith, low, count)

pub index_mut-requires : goal.index_mut-requires
index_mut-requires c =
    let low : c.loop-i.i < length c.loop-i.self-inside.each.items = long c.self.inside c.loop-i.self-inside c.loop-i.invariant.same c.loop-i.i c.len-i-end.result c.loop-i-test.true c.len-i-end.ensures in
    let count : vec_len c.loop-i.self-inside.each ≡ length c.loop-i.self-inside.each.items = c.loop-i.self-inside.each.ok.0 in
    omega (arith, low, count)

-- what holds of all the changes still does
holds : (s now : Inside) → now ≡ s → AreOnce s.each.items × AreRoomy s.each.items s.rooms.items → AreOnce now.each.items × AreRoomy now.each.items now.rooms.items
holds s now same h = subst (λ (s : Inside). AreOnce s.each.items × AreRoomy s.each.items s.rooms.items) (sym same) h

pub index_mut-requires-then-eq : goal.index_mut-requires-then-eq
index_mut-requires-then-eq c =
    let now : Inside = c.loop-i.self-inside in
    let low : c.loop-i.i < length now.each.items = long c.self.inside now c.loop-i.invariant.same c.loop-i.i c.len-i-end.result c.loop-i-test.true c.len-i-end.ensures in
    let reach : length now.each.items ≤ length now.rooms.items = rooms_reach now.each.items now.rooms.items (holds c.self.inside now c.loop-i.invariant.same c.self.invariant).1 in
    let count : vec_len now.rooms ≡ length now.rooms.items = now.rooms.ok.0 in
    omega (arith, low, reach, count)

pub invariant_of-self : goal.invariant_of-self
invariant_of-self c =
    let now : Inside = c.loop-i.self-inside in
    let i : ℕ = c.loop-i.i in
    let low : i < length now.each.items = long c.self.inside now c.loop-i.invariant.same i c.len-i-end.result c.loop-i-test.true c.len-i-end.ensures in
    let all : AreOnce now.each.items × AreRoomy now.each.items now.rooms.items = holds c.self.inside now c.loop-i.invariant.same c.self.invariant in
    let reach : length now.each.items ≤ length now.rooms.items = rooms_reach now.each.items now.rooms.items all.1 in
    let it : ℕ × Given = c.index_mut.result.now in
    let room : List Bool = c.index_mut-then-eq.result.now in
    let was : room ≡ get_or now.rooms.items i [] = get_or_read now.rooms.items i room (omega (arith, low, reach)) c.index_mut-then-eq.ensures.value [] in (
      place_once now.each.items i low it c.index_mut.ensures.value c.note_at.new.patch all.0,
      place_roomy now.each.items i low it c.index_mut.ensures.value c.note_at.new.patch now.rooms.items c.note_at.new.room all.1
          (still_roomy c.note_at.result it.1 c.note_at.new.patch room c.note_at.new.room c.args.fd c.args.given c.note_at.ensures.ok c.note_at.ensures.room c.note_at.ensures.err c.note_at.ensures.kept
          (λ f some. subst (λ r. HasRoom r f) (sym was) (place_room now.each.items i low it c.index_mut.ensures.value now.rooms.items all.1 f some))),
    )

-- it is the process, by the test
tested : (es : Entries) (i : ℕ) → i < length es → (first it : ℕ × Given) → first ≡ get_or es i first → it ≡ get_or es i it → (pid : ℕ) → first.0 ≡ pid → it.0 ≡ pid
tested es i low first it read again pid is = ap (λ (e : ℕ × Given). e.0) (it_is es i low it again ∙ sym (it_is es i low first read)) ∙ is

pub returns-then-eq-clause-ok : goal.returns-then-eq-clause-ok
returns-then-eq-clause-ok c =
    let now : Inside = c.loop-i.self-inside in
    let es : Entries = now.each.items in
    let i : ℕ = c.loop-i.i in
    let low : i < length es = long c.self.inside now c.loop-i.invariant.same i c.len-i-end.result c.loop-i-test.true c.len-i-end.ensures in
    let it : ℕ × Given = c.index_mut.result.now in
    let before : es ≡ c.args.self.now = ap (λ (s : Inside). s.each.items) c.loop-i.invariant.same ∙ c.self.view_is in
    let is : it.0 ≡ c.args.pid = tested es i low c.index.result.now it c.index.ensures c.index_mut.ensures.value c.args.pid (eqb-true c.index.result.now.0 c.args.pid (sym c.eq.ensures ∙ c.if-eq.true)) in
    ok_so c.note_at.result (λ noted. subst (λ (es' : Entries). AtSlots c.args.pid c.args.fd c.args.given es' (set es i (it.0, c.note_at.new.patch))) before
    (place_noted es i low it c.index_mut.ensures.value c.args.pid c.args.fd c.args.given c.note_at.new.patch is c.loop-i.invariant.none
    (subst (λ (es : Entries). kept_at es c.args.pid ≢ None) (sym before) c.requires.place) noted))
    c.note_at.ensures.ok

pub returns-then-eq-clause-err : goal.returns-then-eq-clause-err
returns-then-eq-clause-err c =
    let now : Inside = c.loop-i.self-inside in
    let es : Entries = now.each.items in
    let i : ℕ = c.loop-i.i in
    let low : i < length es = long c.self.inside now c.loop-i.invariant.same i c.len-i-end.result c.loop-i-test.true c.len-i-end.ensures in
    err_so c.note_at.result (λ same. place_same es i low c.index_mut.result.now c.index_mut.ensures.value c.note_at.new.patch same
    ∙ ap (λ (s : Inside). s.each.items) c.loop-i.invariant.same ∙ c.self.view_is)
    c.note_at.ensures.err

pub loop-i-preserved : goal.loop-i-preserved
loop-i-preserved c =
    let now : Inside = c.loop-i.self-inside in
    let es : Entries = now.each.items in
    let i : ℕ = c.loop-i.i in
    let low : i < length es = long c.self.inside now c.loop-i.invariant.same i c.len-i-end.result c.loop-i-test.true c.len-i-end.ensures in
    record {
      none = record {
        others = below_more (λ j. (get_or es j (0, empty)).0 ≢ c.args.pid) i c.loop-i.invariant.none.others
            (λ same. eqb-false c.index.result.now.0 c.args.pid (sym c.eq.ensures ∙ c.if-eq.false) (ap (λ (e : ℕ × Given). e.0) (it_is es i low c.index.result.now c.index.ensures) ∙ same));
      };
      same = c.loop-i.invariant.same;
    }

pub unreachable-requires : goal.unreachable-requires
unreachable-requires c =
    let now : Inside = c.loop-i.self-inside in
    let before : now.each.items ≡ c.args.self.now = ap (λ (s : Inside). s.each.items) c.loop-i.invariant.same ∙ c.self.view_is in
    let whole : vec_len now.each ≡ vec_len c.self.inside.each = ap (λ (s : Inside). vec_len s.each) c.loop-i.invariant.same in
    let count : vec_len now.each ≡ length now.each.items = now.each.ok.0 in
    c.requires.place (ap (λ (es : Entries). kept_at es c.args.pid) (sym before)
    ∙ kept_nowhere now.each.items c.args.pid (record { others = λ j low. c.loop-i.invariant.none.others j (omega (arith, low, c.loop-i-test.false, c.len-i-end.ensures, whole, count)) }))
