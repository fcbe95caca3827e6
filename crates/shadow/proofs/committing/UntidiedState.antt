-- What stands when all changes of a commit are made and nothing is freed yet: the state that the
-- changes make, and what is still kept for others.
use Rattle.std.proofs.Common.{◌≡◌, ◌≢◌, ℕ, ◌+◌, ◌<◌, ◌≤◌, Bool, true, false, if◌then◌else◌, List}
use Rattle.std.proofs.Common.{Option, Some, None, refl, sym, ap, subst, ◌∙◌, arith}
use Rattle.std.specs.Option.{option_and_then}
use Rattle.std.specs.Cmp.{nat_cmp_total}
use Rattle.fdtable.specs.Patches.{Given}
use Rattle.model.specs.FiniteMap.{get, nat_cmp-IsAntisymmetric, same_map}
use Rattle.model.specs.State.{Description, Kernel, Kind, Name, is_end, kind, kind_of}
use Rattle.model.specs.State.{mapped, names_of}
use Rattle.model.specs.Changes.{holders, openings}
use Rattle.model.specs.Effects.{Effect, all_done}
use Rattle.call_laws.specs.WellFormed.{CanBeNamed, CanBeOpened, WellFormed}
use Rattle.freeing_laws.specs.Pipes.{ArePair, reads, writes}
use Rattle.freeing_laws.proofs.Laws.{sweep_is_tidy_lem}
use Rattle.freeing_laws.proofs.Openings.{openings_change_lem}
use Rattle.store.specs.Numbers.{Numbers, coming}
use Rattle.store.specs.Shown.{description_in, descriptions, inode_in, inodes}
use Rattle.store.specs.declared.Place.{Place}
use Rattle.store.specs.declared.Stage.{Stage}
use Rattle.store.specs.declared.Stage.TheVariants.{Coming, Held, Removed}
use Rattle.store.specs.declared.Object.{Object}
use Rattle.store.specs.declared.Object.TheVariants.{Directory as Kept_directory}
use Rattle.store.specs.declared.Object.TheVariants.{File as Kept_file, Pipe as Kept_pipe, Fixed as Kept_fixed}
use Rattle.store.specs.declared.Object.TheVariants.{Description as Kept_description, Nothing}
use Rattle.store.proofs.Laws.{get-chosen, get-descriptions_by, get-inodes_by}
use Rattle.shadow.specs.Claims.{Claim, Room, New_directory, Number, as_count, claim_in, claimed}
use Rattle.shadow.specs.Claims.{coming_directory, coming_other, inodes_claim, is_file_made}
use Rattle.shadow.specs.Claims.{openings_claim, or_zero, reserved, room_of}
use Rattle.shadow.specs.Committed.{Reserve}
use Rattle.shadow.specs.Laid.{AreReopened, AreReslotted, Holds, kept_in, reserves_of, settled}
use Rattle.notes.specs.Patches.{Patches, is_new, net_at, opening_at, reopened}
use Rattle.shadow.specs.Stored.{AreCounted, IsEndHere, Processes, committed_of, numbered, reserve_in, state_of}
use Rattle.notes.specs.declared.opening.Opening.{Opening}
use Rattle.notes.specs.declared.opening.Opening.TheVariants.{New}
use Rattle.shadow.proofs.committing.CommitStates.{CanCommit, HasAll, HasInodes}
use Rattle.shadow.proofs.committing.SlotSteps.{well_low}
use Rattle.shadow.proofs.claims.ClaimCounts.{at_place, met_is}
use Rattle.shadow.proofs.shared.PipePairLemmas.{end_of}

-- what is to come is no description yet, and what is a description is no inode
comes_unopened : (o : Option Place) (d : ℕ) → 0 < at_place (Number d) o
    → option_and_then description_in o ≡ None
comes_unopened None d some = refl
comes_unopened (Some place) d some = by_stage place.stage place.object some
  where
    by_stage : (t : Stage) (object : Object)
        → 0 < at_place (Number d) (Some (record { stage = t; object = object }))
        → description_in (record { stage = t; object = object }) ≡ None
    by_stage Coming object some = refl
    by_stage Held object some = absurd (omega arith)
    by_stage Removed object some = absurd (omega arith)

no_inode : (o : Option Place) → option_and_then description_in o ≢ None
    → option_and_then inode_in o ≡ None
no_inode None there = refl
no_inode (Some place) there = by_stage place.stage place.object there
  where
    by_stage : (t : Stage) (object : Object)
        → description_in (record { stage = t; object = object }) ≢ None
        → inode_in (record { stage = t; object = object }) ≡ None
    by_stage Coming object there = refl
    by_stage Removed object there = refl
    by_stage Held (Kept_directory listing) there = absurd (there refl)
    by_stage Held (Kept_file file) there = absurd (there refl)
    by_stage Held (Kept_pipe pipe) there = absurd (there refl)
    by_stage Held (Kept_fixed fixed) there = absurd (there refl)
    by_stage Held (Kept_description opened) there = refl
    by_stage Held Nothing there = refl

-- a number that is to come as a description is none yet, so no slot gives it
pub unheld_new : {ps : Processes} {s : Numbers} {ds : List Effect} {p : Patches}
    → CanCommit ps s ds p → (d : ℕ) → is_new (opening_at p.openings d) ≡ true
    → holders (state_of ps s) d ≡ 0
unheld_new {ps} {s} {ds} {p} can d new =
    openings_change_lem.unheld (state_of ps s) d (λ pid f gives.
    let it = can.sound.well.slots pid f d gives in not_there (sym it.1 ∙ unseen))
  where
    not_there : {it : Description} → Some it ≡ None → ⊥
    not_there is = absurd cc

    claims_one : 0 < at_place (Number d) (get s.places d)
    claims_one =
        let one : as_count (is_new (opening_at p.openings d)) ≡ 1 = ap as_count new in
        let claims : claimed (Number d) ds ≡ as_count (is_file_made (net_at p.inodes d).made)
        + as_count (is_new (opening_at p.openings d)) = can.agrees.claims (Number d) in
        let covers : claimed (Number d) ds ≤ reserved (committed_of ps s) (Number d) =
        can.covers (Number d) in
        let meets : reserved (committed_of ps s) (Number d)
        ≡ at_place (Number d) (get s.places d) = met_is ps s (Number d) in
        omega arith

    unseen : get (descriptions s) d ≡ None
    unseen =
        get-descriptions_by s d (get s.places d) refl
        ∙ comes_unopened (get s.places d) d claims_one

-- states with the same parts
same_kernel : (k l : Kernel) → k.root ≡ l.root → k.inodes ≡ l.inodes → k.rights ≡ l.rights
    → k.descriptions ≡ l.descriptions → k.processes ≡ l.processes → k.made ≡ l.made
    → k.bounds ≡ l.bounds → k ≡ l
same_kernel k l root inodes rights descriptions processes made bounds = λ i. record {
  root = root i;
  inodes = inodes i;
  rights = rights i;
  descriptions = descriptions i;
  processes = processes i;
  made = made i;
  bounds = bounds i;
}

-- a description is of what can be opened, so none opens anything else
not_opened : (k : Kernel) → WellFormed k → (n : ℕ) (what : Kind) → kind_of k n ≡ Some what
    → (CanBeOpened (Some what) → ⊥) → openings k n ≡ 0
not_opened k well n what is never =
    openings_change_lem.unopened k n (λ d it there same.
    never (subst CanBeOpened (ap (kind_of k) same ∙ is) (well.descriptions d it there)))

-- what a name gives is an inode, and so no description
not_named : (ps : Processes) (s : Numbers) → WellFormed (state_of ps s) → (d n : ℕ) (x : Name)
    → get (descriptions s) d ≢ None → get (names_of (state_of ps s) n) x ≢ Some d
not_named ps s well d n x there gives =
    subst CanBeNamed (ap (mapped kind) none) (well.names n x d gives)
  where
    shown : option_and_then description_in (get s.places d) ≢ None
    shown unseen = there (get-descriptions_by s d (get s.places d) refl ∙ unseen)

    none : get (inodes s) d ≡ None
    none = get-inodes_by s d (get s.places d) refl ∙ no_inode (get s.places d) shown

-- what is kept for a claim, where what is kept of each number is the same
same_kept : (s t : Numbers) → ((n : ℕ) → get (reserves_of t) n ≡ get (reserves_of s) n)
    → (c : Claim) → kept_in t c ≡ kept_in s c
same_kept s t same (Room d) = ap (λ o. or_zero (room_of o)) (same d)
same_kept s t same (New_directory n) = ap coming_directory (same n)
same_kept s t same (Number n) = ap coming_other (same n)

-- what is kept of a number that is to come as a description, and of any number when those have come
abbrev awaited : Option Reserve
awaited = Some (record { coming = true; promised = None })

abbrev settled_if : Bool → Option Reserve → Option Reserve
settled_if new o = if new then settled o else o

room_stays : (new : Bool) (o : Option Reserve)
    → or_zero (room_of (settled_if new o)) ≡ or_zero (room_of o)
room_stays false o = refl
room_stays true None = refl
room_stays true (Some r) = refl

directory_stays : (new : Bool) (o : Option Reserve) → (new ≡ true → o ≡ awaited)
    → coming_directory (settled_if new o) ≡ coming_directory o
directory_stays false o waits = refl
directory_stays true o waits =
    ap (λ r. coming_directory (settled r)) (waits refl) ∙ sym (ap coming_directory (waits refl))

number_goes : (new : Bool) (o : Option Reserve) → (new ≡ true → o ≡ awaited)
    → coming_other (settled_if new o) + as_count new ≡ coming_other o
number_goes false o waits = omega arith
number_goes true o waits =
    ap (λ r. coming_other (settled r) + 1) (waits refl) ∙ sym (ap coming_other (waits refl))

-- a new description takes one claim on its number
module _ (openings : List (ℕ × Opening)) (s t : Numbers) (opened : AreReopened openings s t)
    (comes : (d : ℕ) → is_new (opening_at openings d) ≡ true
    → get s.places d ≡ Some (coming Nothing)) where
  waits : (d : ℕ) → is_new (opening_at openings d) ≡ true → get (reserves_of s) d ≡ awaited
  waits d new =
      get-chosen reserve_in s.places d ∙ ap (option_and_then reserve_in) (comes d new)

  opened_kept : (c : Claim) → kept_in t c + openings_claim openings c ≡ kept_in s c
  opened_kept (Room d) =
      let same : kept_in t (Room d) ≡ kept_in s (Room d) =
      ap (λ o. or_zero (room_of o)) (opened.reserves d)
      ∙ room_stays (is_new (opening_at openings d)) (get (reserves_of s) d) in
      omega arith
  opened_kept (New_directory n) =
      let same : kept_in t (New_directory n) ≡ kept_in s (New_directory n) =
      ap coming_directory (opened.reserves n)
      ∙ directory_stays (is_new (opening_at openings n)) (get (reserves_of s) n) (waits n) in
      omega arith
  opened_kept (Number n) =
      ap (λ o. coming_other o + as_count (is_new (opening_at openings n))) (opened.reserves n)
      ∙ number_goes (is_new (opening_at openings n)) (get (reserves_of s) n) (waits n)

-- the claims of inodes and of descriptions are all that there are
both_claims : (p : Patches) (c : Claim)
    → claim_in p c ≡ inodes_claim p.inodes c + openings_claim p.openings c
both_claims p (Room d) = omega arith
both_claims p (New_directory n) = omega arith
both_claims p (Number n) = refl

-- Inodes are changed first, from s to mid, then descriptions, to after, and then slots, to last.
module _ {ps qs : Processes} {s mid after last : Numbers} {ds : List Effect} {p : Patches}
    {former : List (ℕ × Given)} (can : CanCommit ps s ds p) (made : HasInodes ps s mid ds p)
    (opened : AreReopened p.openings mid after)
    (slotted : AreReslotted p.slots former ps qs after last) where
  description : (d : ℕ)
      → get (descriptions last) d ≡ get (all_done ds (state_of ps s)).descriptions d
  description d =
      ap (λ m. get m d) slotted.stay.descriptions
      ∙ opened.descriptions d
      ∙ ap (λ m. reopened (opening_at p.openings d) (get m d)) made.descriptions
      ∙ sym (can.agrees.descriptions (state_of ps s) d)

  process : (pid : ℕ) → get (numbered qs) pid ≡ get (all_done ds (state_of ps s)).processes pid
  process pid = slotted.processes pid ∙ sym (can.agrees.processes (state_of ps s) pid)

  state : state_of qs last ≡ all_done ds (state_of ps s)
  state =
      same_kernel (state_of qs last) (all_done ds (state_of ps s))
      (sym (can.agrees.root (state_of ps s)))
      (slotted.stay.same.inodes ∙ opened.same.inodes ∙ made.inodes)
      (slotted.stay.same.rights ∙ opened.same.rights ∙ made.rights)
      (same_map nat_cmp_total nat_cmp-IsAntisymmetric _ _ description)
      (same_map nat_cmp_total nat_cmp-IsAntisymmetric _ _ process)
      (slotted.stay.count ∙ sym (can.agrees.count (state_of ps s)))
      (slotted.stay.bounds ∙ sym (can.agrees.bounds (state_of ps s)))

  well : WellFormed (state_of qs last)
  well =
      subst WellFormed (sym state)
      (sweep_is_tidy_lem.well ds (state_of ps s) can.sound.well can.fits)

  unheld : (d : ℕ) → is_new (opening_at p.openings d) ≡ true → holders (state_of ps mid) d ≡ 0
  unheld d new =
      openings_change_lem.by_processes (state_of ps s) (state_of ps mid) refl d
      ∙ unheld_new can d new

  -- a new description is of a pipe only as the end that the pipe has it as
  ends_here : (d : ℕ) (it : Description) → opening_at p.openings d ≡ New it → IsEndHere mid d it
  ends_here d it new pipe is =
      let pair : ArePair (all_done ds (state_of ps s)).descriptions it.inode pipe.reader pipe.writer
      = made.ends it.inode pipe is in (
        (λ reading. pair.reads d (ap (is_end reads it.inode) gives ∙ end_of reads it reading)),
        (λ writing. pair.writes d (ap (is_end writes it.inode) gives ∙ end_of writes it writing)),
        pair.either d it gives refl,
      )
    where
      gives : get (all_done ds (state_of ps s)).descriptions d ≡ Some it
      gives =
          can.agrees.descriptions (state_of ps s) d
          ∙ ap (λ o. reopened o (get (descriptions s) d)) new

  counted : AreCounted qs last
  counted =
      slotted.stay.counted (well_low ps s can.sound.well) (opened.counted ps made.counted unheld ends_here)

  holds : Holds qs last
  holds = record {
    root = slotted.stay.same.root ∙ opened.same.root ∙ made.root ∙ can.sound.root;
    parented = sweep_is_tidy_lem.parented (state_of qs last) well;
    set = sweep_is_tidy_lem.set (state_of qs last) well;
    unnamed = not_named qs last well;
    unopened = not_opened (state_of qs last) well;
    staged = slotted.stay.same.staged (opened.same.staged made.staged);
    counted = counted;
  }

  kept : (c : Claim) → kept_in last c + claimed c ds ≡ kept_in s c
  kept c =
      let slots : kept_in last c ≡ kept_in after c =
      same_kept after last slotted.stay.reserves c in
      let descriptions : kept_in after c + openings_claim p.openings c ≡ kept_in mid c =
      opened_kept p.openings mid after opened made.coming c in
      let inodes : kept_in mid c + inodes_claim p.inodes c ≡ kept_in s c = made.kept c in
      let claims : claimed c ds ≡ claim_in p c = can.agrees.claims c in
      let parts : claim_in p c ≡ inodes_claim p.inodes c + openings_claim p.openings c =
      both_claims p c in
      omega arith

-- so all changes are made
pub finished : {ps qs : Processes} {s mid after last : Numbers} {ds : List Effect} {p : Patches}
    {former : List (ℕ × Given)} → CanCommit ps s ds p → HasInodes ps s mid ds p
    → AreReopened p.openings mid after → AreReslotted p.slots former ps qs after last
    → HasAll ps qs s last ds
finished can made opened slotted = record {
  state = state can made opened slotted;
  holds = holds can made opened slotted;
  kept = kept can made opened slotted;
}
