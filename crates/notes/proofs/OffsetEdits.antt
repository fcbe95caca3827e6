-- What patches take in of an edit of a description's offset.
use Rattle.std.proofs.Common.{◌≡◌, ◌≤◌, ℕ, ◌==◌, ◌||◌, true, false, cond, Bool, List, [], ◌∷◌, Option, Some, None, refl, sym, ap, ◌∙◌, subst, arith, eq-eqb, ne_eqb, inl, inr, append-nil}
use Rattle.std.proofs.lemmas.Bool.{cases_eq}
use Rattle.ids.specs.declared.edit.Mode.{Mode}
use Rattle.fdtable.specs.Patches.{Given}
use Rattle.model.specs.State.{Description, Process, mapped}
use Rattle.model.specs.Changes.{Clear_slot, Make_pipe, Share_slot, Open_inode, Set_offset, Which, at_offset, at_start, number, or_new, to_read, to_write, with_slot}
use Rattle.model.specs.Moments.{is_in}
use Rattle.notes.specs.declared.opening.Opening.{Opening}
use Rattle.notes.specs.Patches.{Patches, added_by, is_new, net_at, kept_at, numbers_in, opening_at, reopened, reslotted, rights_over}
use Rattle.notes.specs.Openings.{AtOpening, AtSlots, IsMoved, IsOpened, slot_noted}
use Rattle.notes.specs.Steps.{TakesIn, kept_beside, new_in}
use Rattle.notes.proofs.InodeNotes.{as_written}
use Rattle.notes.proofs.PipeEdits.{Piping}

moved_at : (m place : ℕ) (s t : List (ℕ × Opening)) → AtOpening m (IsMoved place) s t → (d : ℕ) (o : Option Description) → reopened (opening_at t d) o ≡ cond (d == m) (mapped (at_offset place) (reopened (opening_at s d) o)) (reopened (opening_at s d) o)
moved_at m place s t at d o = elim (cases_eq d m) [
  | inl here ↦ rw (eq-eqb d m here) (subst (λ k. reopened (opening_at t k) o ≡ mapped (at_offset place) (reopened (opening_at s k) o)) (sym here) (at.here.over o))
  | inr away ↦ rw (ne_eqb d m away) (ap (λ op. reopened op o) (at.others d away))
]

as_new_as : (m place : ℕ) (s t : List (ℕ × Opening)) → AtOpening m (IsMoved place) s t → (d : ℕ) → is_new (opening_at t d) ≡ is_new (opening_at s d)
as_new_as m place s t at d = elim (cases_eq d m) [
  | inl here ↦ subst (λ k. is_new (opening_at t k) ≡ is_new (opening_at s k)) (sym here) at.here.made
  | inr away ↦ ap is_new (at.others d away)
]

pub moving_takes : (chosen : List ℕ) (d place : ℕ) (old : Patches) (openings : List (ℕ × Opening)) → AtOpening d (IsMoved place) old.openings openings → TakesIn chosen (Set_offset d place) old (record old { openings = openings })
moving_takes chosen d place old openings moved = record {
  inodes = λ n o can. refl;
  reach = λ n o can was. was;
  pipes = λ n ends is. inl is;
  rights = λ n o. refl;
  descriptions = moved_at d place old.openings openings moved;
  processes = λ pid o. refl;
  made = λ n. refl;
  promised = λ n. omega arith;
  named = λ n. omega arith;
  unnamed = λ n. omega arith;
  unnamed_inodes = sym (append-nil old.unnamed_inodes);
  forms = λ n. refl;
  added = λ n. omega arith;
  news = as_new_as d place old.openings openings moved;
  written = λ n b. as_written b (numbers_in (net_at old.inodes n).contents) (numbers_in (net_at old.inodes n).contents) refl;
}

-- A slot of a process gives this from now on.
slot_at : (q f : ℕ) (given : Option ℕ) (s t : List (ℕ × Given)) → AtSlots q f given s t → (pid : ℕ) (o : Option Process)
    → reslotted (kept_at t pid) o ≡ cond (pid == q) (slot_noted f given (reslotted (kept_at s pid) o)) (reslotted (kept_at s pid) o)
slot_at q f given s t at pid o = elim (cases_eq pid q) [
  | inl here ↦ rw (eq-eqb pid q here) (subst (λ k. reslotted (kept_at t k) o ≡ slot_noted f given (reslotted (kept_at s k) o)) (sym here) (at.here o))
  | inr away ↦ rw (ne_eqb pid q away) (ap (λ kept. reslotted kept o) (at.others pid away))
]

opened_at : (m : ℕ) (it : Description) (s t : List (ℕ × Opening)) → AtOpening m (IsOpened it) s t → (d : ℕ) (o : Option Description) → reopened (opening_at t d) o ≡ cond (d == m) (Some it) (reopened (opening_at s d) o)
opened_at m it s t at d o = elim (cases_eq d m) [
  | inl here ↦ rw (eq-eqb d m here) (subst (λ k. reopened (opening_at t k) o ≡ Some it) (sym here) (at.here.over o))
  | inr away ↦ rw (ne_eqb d m away) (ap (λ op. reopened op o) (at.others d away))
]

is_one : (d m : ℕ) → is_in d (m ∷ []) ≡ (d == m)
is_one d m = by_test (d == m)
  where
    by_test : (b : Bool) → (b || false) ≡ b
    by_test true = refl
    by_test false = refl

new_at : (m : ℕ) (it : Description) (s t : List (ℕ × Opening)) → AtOpening m (IsOpened it) s t → (d : ℕ) → is_new (opening_at t d) ≡ (is_in d (m ∷ []) || is_new (opening_at s d))
new_at m it s t at d = elim (cases_eq d m) [
  | inl here ↦ subst (λ k. is_new (opening_at t k) ≡ true) (sym here) at.here.made ∙ sym (ap (λ b. b || is_new (opening_at s d)) (is_one d m ∙ eq-eqb d m here))
  | inr away ↦ ap is_new (at.others d away) ∙ sym (ap (λ b. b || is_new (opening_at s d)) (is_one d m ∙ ne_eqb d m away))
]

pub opening_takes : (chosen : List ℕ) (i : ℕ) (inode : Which) (mode : Mode) (pid f : ℕ) (old : Patches) (openings : List (ℕ × Opening)) (slots : List (ℕ × Given))
    → AtOpening (new_in chosen i) (IsOpened (at_start (number chosen inode) mode)) old.openings openings → AtSlots pid f (Some (new_in chosen i)) old.slots slots
    → TakesIn chosen (Open_inode i inode mode pid f) old (record old { openings = openings; slots = slots })
opening_takes chosen i inode mode pid f old openings slots opened slotted = record {
  inodes = λ n o can. refl;
  reach = λ n o can was. was;
  pipes = λ n ends is. inl is;
  rights = λ n o. refl;
  descriptions = opened_at (new_in chosen i) (at_start (number chosen inode) mode) old.openings openings opened;
  processes = slot_at pid f (Some (new_in chosen i)) old.slots slots slotted;
  made = λ n. refl;
  promised = λ n. omega arith;
  named = λ n. omega arith;
  unnamed = λ n. omega arith;
  unnamed_inodes = sym (append-nil old.unnamed_inodes);
  forms = λ n. refl;
  added = λ n. omega arith;
  news = new_at (new_in chosen i) (at_start (number chosen inode) mode) old.openings openings opened;
  written = λ n b. as_written b (numbers_in (net_at old.inodes n).contents) (numbers_in (net_at old.inodes n).contents) refl;
}

pub clearing_takes : (chosen : List ℕ) (pid f : ℕ) (pipes : List ℕ) (old : Patches) (slots : List (ℕ × Given)) → AtSlots pid f None old.slots slots
    → TakesIn chosen (Clear_slot pid f pipes) old (record old { slots = slots })
clearing_takes chosen pid f pipes old slots slotted = record {
  inodes = λ n o can. refl;
  reach = λ n o can was. was;
  pipes = λ n ends is. inl is;
  rights = λ n o. refl;
  descriptions = λ d o. refl;
  processes = slot_at pid f None old.slots slots slotted;
  made = λ n. refl;
  promised = λ n. omega arith;
  named = λ n. omega arith;
  unnamed = λ n. omega arith;
  unnamed_inodes = sym (append-nil old.unnamed_inodes);
  forms = λ n. refl;
  added = λ n. omega arith;
  news = λ d. refl;
  written = λ n b. as_written b (numbers_in (net_at old.inodes n).contents) (numbers_in (net_at old.inodes n).contents) refl;
}

pub sharing_takes : (chosen : List ℕ) (pid f d : ℕ) (pipes : List ℕ) (old : Patches) (slots : List (ℕ × Given)) → AtSlots pid f (Some d) old.slots slots
    → TakesIn chosen (Share_slot pid f d pipes) old (record old { slots = slots })
sharing_takes chosen pid f d pipes old slots slotted = record {
  inodes = λ n o can. refl;
  reach = λ n o can was. was;
  pipes = λ n ends is. inl is;
  rights = λ n o. refl;
  descriptions = λ e o. refl;
  processes = slot_at pid f (Some d) old.slots slots slotted;
  made = λ n. refl;
  promised = λ n. omega arith;
  named = λ n. omega arith;
  unnamed = λ n. omega arith;
  unnamed_inodes = sym (append-nil old.unnamed_inodes);
  forms = λ n. refl;
  added = λ n. omega arith;
  news = λ e. refl;
  written = λ n b. as_written b (numbers_in (net_at old.inodes n).contents) (numbers_in (net_at old.inodes n).contents) refl;
}

-- A new pipe with its two descriptions and their slots.
abbrev ends_after : List (ℕ × Opening) → List (ℕ × Opening) → List (ℕ × Opening) → ℕ → ℕ → ℕ → Type 0
ends_after s t u p r w = AtOpening r (IsOpened (at_start p to_read)) s t × AtOpening w (IsOpened (at_start p to_write)) t u

two_opened : (p r w : ℕ) (s t u : List (ℕ × Opening)) → ends_after s t u p r w → (d : ℕ) (o : Option Description)
    → reopened (opening_at u d) o ≡ cond (d == w) (Some (at_start p to_write)) (cond (d == r) (Some (at_start p to_read)) (reopened (opening_at s d) o))
two_opened p r w s t u both d o =
    opened_at w (at_start p to_write) t u both.1 d o
    ∙ ap (λ x. cond (d == w) (Some (at_start p to_write)) x) (opened_at r (at_start p to_read) s t both.0 d o)

two_new : (p r w : ℕ) (s t u : List (ℕ × Opening)) → ends_after s t u p r w → (d : ℕ) → is_new (opening_at u d) ≡ (is_in d (r ∷ w ∷ []) || is_new (opening_at s d))
two_new p r w s t u both d =
    new_at w (at_start p to_write) t u both.1 d ∙ ap (λ b. is_in d (w ∷ []) || b) (new_at r (at_start p to_read) s t both.0 d)
    ∙ by_tests (d == w) (d == r) (is_new (opening_at s d))
  where
    by_tests : (a b c : Bool) → ((a || false) || ((b || false) || c)) ≡ ((b || (a || false)) || c)
    by_tests true true c = refl
    by_tests true false c = refl
    by_tests false true c = refl
    by_tests false false c = refl

two_slots : (q f g r w : ℕ) (s t u : List (ℕ × Given)) → AtSlots q f (Some r) s t → AtSlots q g (Some w) t u → (pid : ℕ) (o : Option Process)
    → reslotted (kept_at u pid) o ≡ cond (pid == q) (Some (with_slot g w (with_slot f r (or_new (reslotted (kept_at s pid) o))))) (reslotted (kept_at s pid) o)
two_slots q f g r w s t u first second pid o =
    slot_at q g (Some w) t u second pid o
    ∙ ap (λ x. cond (pid == q) (slot_noted g (Some w) x) x) (slot_at q f (Some r) s t first pid o)
    ∙ by_test (pid == q) (reslotted (kept_at s pid) o)
  where
    by_test : (b : Bool) (o : Option Process) → cond b (slot_noted g (Some w) (cond b (slot_noted f (Some r) o) o)) (cond b (slot_noted f (Some r) o) o) ≡ cond b (Some (with_slot g w (with_slot f r (or_new o)))) o
    by_test true o = refl
    by_test false o = refl

pub piping_takes : (chosen : List ℕ) (pid f g : ℕ) (old new : Patches) (t : List (ℕ × Opening)) (slots : List (ℕ × Given)) → ((n : ℕ) → Piping chosen 0 n (net_at old.inodes n) (net_at new.inodes n))
    → ends_after old.openings t new.openings (new_in chosen 0) (new_in chosen 1) (new_in chosen 2)
    → AtSlots pid f (Some (new_in chosen 1)) old.slots slots → AtSlots pid g (Some (new_in chosen 2)) slots new.slots → new.rights ≡ old.rights → new.unnamed_inodes ≡ old.unnamed_inodes → TakesIn chosen (Make_pipe 0 pid f g) old new
piping_takes chosen pid f g old new t slots each both first second rights unnamed_inodes = record {
  inodes = λ n o can. (each n).contents o;
  reach = λ n o can. (each n).reach o;
  pipes = λ n. (each n).ends;
  rights = λ n o. ap (λ rs. rights_over (kept_at rs n) o) rights;
  descriptions = two_opened (new_in chosen 0) (new_in chosen 1) (new_in chosen 2) old.openings t new.openings both;
  processes = two_slots pid f g (new_in chosen 1) (new_in chosen 2) old.slots slots new.slots first second;
  made = λ n. (each n).made;
  promised = λ n. (let same : (net_at new.inodes n).promised ≡ (net_at old.inodes n).promised = (each n).promised in omega arith);
  named = λ n. (let same : (net_at new.inodes n).named ≡ (net_at old.inodes n).named = (each n).named in omega arith);
  unnamed = λ n. (let same : (net_at new.inodes n).unnamed ≡ (net_at old.inodes n).unnamed = (each n).unnamed in omega arith);
  unnamed_inodes = unnamed_inodes ∙ sym (append-nil old.unnamed_inodes);
  forms = λ n. (each n).form;
  added = λ n. (let less : added_by (net_at new.inodes n).contents ≤ added_by (net_at old.inodes n).contents = (each n).added in omega arith);
  news = two_new (new_in chosen 0) (new_in chosen 1) (new_in chosen 2) old.openings t new.openings both;
  written = λ n b. as_written b (numbers_in (net_at new.inodes n).contents) (kept_beside (new_in chosen 0) n (numbers_in (net_at old.inodes n).contents)) (each n).numbers;
}
