-- A descriptor is noted at the place of its process.
use Rattle.std.proofs.Common.{◌≡◌, ◌≢◌, ℕ, ◌<◌, Bool, List, [], length, get_or, set, Option, None, Some, Result, Ok, Err, OnOk, OnErr, sym, ap, subst, ◌∙◌, inl, inr}
use Rattle.std.proofs.lemmas.Bool.{cases_eq}
use Rattle.std.proofs.lemmas.List.{get_or_read, set-get_or}
use Rattle.model.specs.FiniteMap.{empty, get, insert}
use Rattle.model.proofs.Laws.{get_other}
use Rattle.fdtable.specs.Pages.{HasRoom}
use Rattle.fdtable.specs.Patches.{Given}
use Rattle.notes.specs.Openings.{AreOnce, AreRoomy, AtSlots}
use Rattle.notes.specs.Patches.{kept_at}
use Rattle.notes.proofs.DistinctProcesses.{once_set}
use Rattle.notes.proofs.SlotLemmas.{Entries, NoneBefore, kept_here, noted_in, noted_slots, set_here, set_others}
use Rattle.notes.proofs.SlotRooms.{room_at, rooms_set}

-- all that is changed has room where one descriptor more is noted, or none
module _ {E : Type 0} (r : Result (Unit {0}) E) (old now : Given) (before room : List Bool) (f : ℕ) (given : Option ℕ)
    (ok : OnOk r (now ≡ insert old f given)) (here : OnOk r (HasRoom room f)) (err : OnErr r (now ≡ old))
    (kept : (g : ℕ) → HasRoom before g → HasRoom room g) (was : (g : ℕ) → get old g ≢ None → HasRoom before g) where
  pub still_roomy : (g : ℕ) → get now g ≢ None → HasRoom room g
  still_roomy g some = by_result r ok here err
    where
      by_result : (r : Result (Unit {0}) E) → OnOk r (now ≡ insert old f given) → OnOk r (HasRoom room f) → OnErr r (now ≡ old) → HasRoom room g
      by_result (Ok x) is new none = elim (cases_eq g f) [
        | inl same ↦ subst (HasRoom room) (sym same) new
        | inr away ↦ kept g (was g (λ none. some (ap (λ (m : Given). get m g) is ∙ get_other old f g given away ∙ none)))
      ]
      by_result (Err e) first later same = kept g (was g (λ none. some (ap (λ (m : Given). get m g) same ∙ none)))

-- what stands at the place, and other changes in its stead
module _ (es : Entries) (i : ℕ) (low : i < length es) (it : ℕ × Given) (read : it ≡ get_or es i it) where
  pub it_is : it ≡ get_or es i (0, empty)
  it_is = get_or_read es i it low read (0, empty)

  pub place_once : (w : Given) → AreOnce es → AreOnce (set es i (it.0, w))
  place_once w once = once_set es i it.0 w (ap (λ (e : ℕ × Given). e.0) (sym it_is)) once

  pub place_roomy : (w : Given) (rooms : List (List Bool)) (room : List Bool) → AreRoomy es rooms → ((f : ℕ) → get w f ≢ None → HasRoom room f) → AreRoomy (set es i (it.0, w)) (set rooms i room)
  place_roomy w rooms room roomy fits = rooms_set es rooms i it.0 w room roomy fits

  pub place_room : (rooms : List (List Bool)) → AreRoomy es rooms → (f : ℕ) → get it.1 f ≢ None → HasRoom (get_or rooms i []) f
  place_room rooms roomy f some = room_at es rooms i roomy low f (λ none. some (ap (λ (e : ℕ × Given). get e.1 f) it_is ∙ none))

  pub place_same : (w : Given) → w ≡ it.1 → set es i (it.0, w) ≡ es
  place_same w same = ap (λ w. set es i (it.0, w)) same ∙ ap (λ e. set es i e) it_is ∙ set-get_or es i (0, empty)

  pub place_noted : (pid f : ℕ) (given : Option ℕ) (w : Given) → it.0 ≡ pid → NoneBefore es pid i → kept_at es pid ≢ None → w ≡ insert it.1 f given → AtSlots pid f given es (set es i (it.0, w))
  place_noted pid f given w is none place noted =
      subst (λ k. AtSlots pid f given es (set es i (k, w))) (sym is)
      (noted_slots es (set es i (pid, w)) pid f given place (noted_in es (set es i (pid, w)) pid f given it.1
      (kept_here es pid i none low key ∙ ap (λ (e : ℕ × Given). Some e.1) (sym it_is))
      (set_here es pid i w none low ∙ ap (λ (g : Given). Some g) noted)
      (set_others es pid i w key)))
    where
      key : (get_or es i (0, empty)).0 ≡ pid
      key = ap (λ (e : ℕ × Given). e.0) (sym it_is) ∙ is
