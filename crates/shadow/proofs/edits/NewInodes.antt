-- A new inode with its name.
use Rattle.std.proofs.Common.{◌≡◌, ◌≢◌, ℕ, ◌+◌, ◌-◌, ◌<◌, ◌≤◌, ◌==◌, ◌&&◌, Bool, true, false, cond, [], ◌∷◌, Option, Some, None, refl, sym, ap, subst, ◌∙◌, arith, eq-eqb, ne_eqb, inl, inr}
use Rattle.std.specs.Option.{option_and_then}
use Rattle.std.specs.Cmp.Lexicographic.{nat_list_cmp_total}
use Rattle.std.proofs.lemmas.Bool.{cases_eq}
use Rattle.model.specs.FiniteMap.{empty, get, get-empty, insert, same_map}
use Rattle.model.specs.State.{A_directory, Kernel, Inode, File, Directory, Fixed, Fixed_content, Name, kind, kind_of, mapped, names_of, names_of_inode}
use Rattle.model.specs.Changes.{Edit, Make_directory, Make_file, Make_fixed, applied, holders, openings, set_inode, set_name, tidy}
use Rattle.model.proofs.Laws.{get_same, get_other, name_exact}
use Rattle.call_laws.specs.WellFormed.{CanBeOpened}
use Rattle.call_laws.specs.Fits.{Fits, IsFree}
use Rattle.model.specs.Steps.{IsNowhere}
use Rattle.call_laws.proofs.Laws.{kept_kind, not_none, some_same}
use Rattle.freeing_laws.proofs.Openings.{openings_change_lem}
use Rattle.freeing_laws.specs.Pipes.{ArePair}
use Rattle.freeing_laws.specs.Sweep.{loses}
use Rattle.dirlist.specs.Listing.{Listing}
use Rattle.objects.specs.Pieces.{FileContent}
use Rattle.store.specs.Numbers.{Numbers, coming, held, if_held, present}
use Rattle.store.specs.Places.{altered, installed, is_coming, listing_at, may_be_named, with_listing, with_name}
use Rattle.store.specs.Shown.{descriptions, description_of, inodes, inode_of}
use Rattle.store.specs.declared.Place.{Place}
use Rattle.store.specs.declared.Stage.{Stage}
use Rattle.store.specs.declared.Stage.TheVariants.{Coming, Held, Removed}
use Rattle.store.specs.declared.Object.{Object}
use Rattle.store.specs.declared.Object.TheVariants.{Directory as Kept_directory, File as Kept_file, Pipe as Kept_pipe, Fixed as Kept_fixed, Description as Kept_description, Nothing}
use Rattle.store.proofs.Laws.{altered-some, descriptions-set, get-inodes, inodes-set, remove-absent, with_place}
use Rattle.shadow.specs.Claims.{Claim, New_directory, Number, Room, as_count, claimed_by_one, number_as, number_of, reserved, room_in}
use Rattle.shadow.specs.Committed.{Committed}
use Rattle.shadow.specs.Laid.{kept_in}
use Rattle.shadow.specs.Stored.{AreCounted, IsStaged, Processes, Sound, committed_of, state_of, stored}
use Rattle.shadow.proofs.freeing.RemainingPlaces.{kept_by, kept_is}
use Rattle.shadow.proofs.shared.PipePairLemmas.{ends_seen, same_pairs}
use Rattle.shadow.proofs.shared.SoundnessLemmas.{Counts, counted_by, counts_of, counts_of_state, holders_seen, kept_of, openings_seen, sound_after, tidy_after}
use Rattle.shadow.proofs.shared.FixedKinds.{no_directory}

-- one place that changes
module _ (s : Numbers) (n : ℕ) (p : Place) where
  here : get (with_place s n p).places n ≡ Some p
  here = get_same s.places n p

  there : (m : ℕ) → m ≢ n → get (with_place s n p).places m ≡ get s.places m
  there m away = get_other s.places n m p away

  pub place_staged : ((m : ℕ) → IsStaged (get s.places m)) → IsStaged (Some p) → (m : ℕ) → IsStaged (get (with_place s n p).places m)
  place_staged staged one m = elim (cases_eq m n) [
    | inl same ↦ subst IsStaged (sym (ap (get (with_place s n p).places) same ∙ here)) one
    | inr away ↦ subst IsStaged (sym (there m away)) (staged m)
  ]

  pub place_counts : (k : Kernel) → Counts k s → ((c : ℕ) → openings_seen (held (Some p)) ≡ Some c → c ≡ openings k n) → ((c : ℕ) → holders_seen (held (Some p)) ≡ Some c → c ≡ holders k n)
      → ((ends : ℕ × ℕ) → ends_seen (held (Some p)) ≡ Some ends → ArePair k.descriptions n ends.0 ends.1) → Counts k (with_place s n p)
  place_counts k h files held_by pairs = record {
    openings = λ m c is. elim (cases_eq m n) [
      | inl same ↦ files c (sym (ap (λ o. openings_seen (held o)) (ap (get (with_place s n p).places) same ∙ here)) ∙ is) ∙ ap (openings k) (sym same)
      | inr away ↦ h.openings m c (sym (ap (λ o. openings_seen (held o)) (there m away)) ∙ is)
    ];
    holders = λ m c is. elim (cases_eq m n) [
      | inl same ↦ held_by c (sym (ap (λ o. holders_seen (held o)) (ap (get (with_place s n p).places) same ∙ here)) ∙ is) ∙ ap (holders k) (sym same)
      | inr away ↦ h.holders m c (sym (ap (λ o. holders_seen (held o)) (there m away)) ∙ is)
    ];
    pipes = λ m ends is. elim (cases_eq m n) [
      | inl same ↦ subst (λ (m : ℕ). ArePair k.descriptions m ends.0 ends.1) (sym same) (pairs ends (sym (ap (λ o. ends_seen (held o)) (ap (get (with_place s n p).places) same ∙ here)) ∙ is))
      | inr away ↦ h.pipes m ends (sym (ap (λ o. ends_seen (held o)) (there m away)) ∙ is)
    ];
  }

  pub place_kept : (old : Place) → get s.places n ≡ Some old → (less : Claim → ℕ) → ((c : Claim) → number_of c ≢ n → less c ≡ 0) → ((c : Claim) → number_of c ≡ n → kept_by c (Some p) + less c ≡ kept_by c (Some old))
      → (c : Claim) → kept_in (with_place s n p) c + less c ≡ kept_in s c
  place_kept old was less none one c = elim (cases_eq (number_of c) n) [
    | inl same ↦ (
        let now : kept_in (with_place s n p) c ≡ kept_by c (Some p) = kept_is (with_place s n p) c ∙ ap (λ m. kept_by c (get (with_place s n p).places m)) same ∙ ap (kept_by c) here in
        let before : kept_in s c ≡ kept_by c (Some old) = kept_is s c ∙ ap (λ m. kept_by c (get s.places m)) same ∙ ap (kept_by c) was in
        let step : kept_by c (Some p) + less c ≡ kept_by c (Some old) = one c same in omega arith)
    | inr away ↦ (
        let now : kept_in (with_place s n p) c ≡ kept_in s c = kept_is (with_place s n p) c ∙ ap (kept_by c) (there (number_of c) away) ∙ sym (kept_is s c) in
        let zero : less c ≡ 0 = none c away in omega arith)
  ]

-- claims on other numbers, and on one's own
pub room_elsewhere : (d : ℕ) (c : Claim) → number_of c ≢ d → room_in d c ≡ 0
room_elsewhere d (Room r) away = ap as_count (ne_eqb d r (λ e. away (sym e)))
room_elsewhere d (New_directory m) away = refl
room_elsewhere d (Number m) away = refl

pub number_elsewhere : (b : Bool) (n : ℕ) (c : Claim) → number_of c ≢ n → number_as b n c ≡ 0
number_elsewhere b n (Room r) away = refl
number_elsewhere b n (New_directory m) away = ap (λ t. as_count (t && b)) (ne_eqb n m (λ e. away (sym e)))
number_elsewhere b n (Number m) away = ap (λ t. as_count (t && Rattle.std.proofs.Common.not b)) (ne_eqb n m (λ e. away (sym e)))

number_here : (b : Bool) (n m : ℕ) → m ≡ n → as_count ((n == m) && b) ≡ as_count b
number_here b n m same = ap (λ t. as_count (t && b)) (eq-eqb n m (sym same))

and_true : (b : Bool) → as_count (b && true) ≡ cond b 1 0
and_true true = refl
and_true false = refl

and_false : (b : Bool) → as_count (b && false) ≡ 0
and_false true = refl
and_false false = refl

-- what is claimed for a new directory, for a new file and for what never changes, with its name
directory_claims : (d n : ℕ) (x : Name) (c : Claim) → claimed_by_one c (n ∷ []) (Make_directory d x 0) ≡ number_as true n c + room_in d c
directory_claims d n x (Room r) = refl
directory_claims d n x (New_directory m) = (let one : claimed_by_one (New_directory m) (n ∷ []) (Make_directory d x 0) ≡ 0 + cond (n == m) 1 0 = refl in let same : number_as true n (New_directory m) ≡ cond (n == m) 1 0 = and_true (n == m) in let none : room_in d (New_directory m) ≡ 0 = refl in omega arith)
directory_claims d n x (Number m) = (let none : number_as true n (Number m) ≡ 0 = and_false (n == m) in let zero : claimed_by_one (Number m) (n ∷ []) (Make_directory d x 0) ≡ 0 = refl in let room : room_in d (Number m) ≡ 0 = refl in omega arith)

file_claims : (d n : ℕ) (x : Name) (c : Claim) → claimed_by_one c (n ∷ []) (Make_file d x 0) ≡ number_as false n c + room_in d c
file_claims d n x (Room r) = refl
file_claims d n x (Number m) = (let one : claimed_by_one (Number m) (n ∷ []) (Make_file d x 0) ≡ 0 + cond (n == m) 1 0 = refl in let same : number_as false n (Number m) ≡ cond (n == m) 1 0 = and_true (n == m) in let none : room_in d (Number m) ≡ 0 = refl in omega arith)
file_claims d n x (New_directory m) = (let none : number_as false n (New_directory m) ≡ 0 = and_false (n == m) in let zero : claimed_by_one (New_directory m) (n ∷ []) (Make_file d x 0) ≡ 0 = refl in let room : room_in d (New_directory m) ≡ 0 = refl in omega arith)

-- the object to come of a number that is claimed
pub directory_to_come : (o : Option Place) (n : ℕ) → 0 < kept_by (New_directory n) o → (l : Listing) × (o ≡ Some (coming (Kept_directory l)))
directory_to_come None n h = absurd (omega arith)
directory_to_come (Some place) n h = by_stage place.stage place.object h
  where
    by_stage : (t : Stage) (object : Object) → 0 < kept_by (New_directory n) (Some (record { stage = t; object = object })) → (l : Listing) × (Some (record { stage = t; object = object }) ≡ Some (coming (Kept_directory l)))
    by_stage Coming (Kept_directory l) h = (l, refl)
    by_stage Coming (Kept_file file) h = absurd (omega arith)
    by_stage Coming (Kept_pipe pipe) h = absurd (omega arith)
    by_stage Coming (Kept_fixed fixed) h = absurd (omega arith)
    by_stage Coming (Kept_description opened) h = absurd (omega arith)
    by_stage Coming Nothing h = absurd (omega arith)
    by_stage Held object h = absurd (omega arith)
    by_stage Removed object h = absurd (omega arith)

pub other_to_come : (o : Option Place) (n : ℕ) → IsStaged o → 0 < kept_by (Number n) o → o ≡ Some (coming Nothing)
other_to_come None n fits h = absurd (omega arith)
other_to_come (Some place) n fits h = by_stage place.stage place.object fits h
  where
    by_stage : (t : Stage) (object : Object) → IsStaged (Some (record { stage = t; object = object })) → 0 < kept_by (Number n) (Some (record { stage = t; object = object })) → Some (record { stage = t; object = object }) ≡ Some (coming Nothing)
    by_stage Coming (Kept_directory l) fits h = absurd (omega arith)
    by_stage Coming (Kept_file file) fits h = absurd fits
    by_stage Coming (Kept_pipe pipe) fits h = absurd fits
    by_stage Coming (Kept_fixed fixed) fits h = absurd fits
    by_stage Coming (Kept_description opened) fits h = absurd fits
    by_stage Coming Nothing fits h = refl
    by_stage Held object fits h = absurd (omega arith)
    by_stage Removed object fits h = absurd (omega arith)

-- a directory that is shown
pub held_directory : (s : Numbers) (d : ℕ) → mapped kind (get (inodes s) d) ≡ Some A_directory → (l : Listing) × (get s.places d ≡ Some (present (Kept_directory l)))
held_directory s d is = by_place (get s.places d) (sym (ap (mapped kind) (get-inodes s d)) ∙ is)
  where
    by_stage : (t : Stage) (object : Object) → mapped kind (option_and_then inode_of (if_held t object)) ≡ Some A_directory → (l : Listing) × (Some (record { stage = t; object = object }) ≡ Some (present (Kept_directory l)))
    by_stage Held (Kept_directory l) is = (l, refl)
    by_stage Held (Kept_file file) is = absurd cc
    by_stage Held (Kept_pipe pipe) is = absurd cc
    by_stage Held (Kept_fixed fixed) is = no_directory fixed is
    by_stage Held (Kept_description opened) is = absurd cc
    by_stage Held Nothing is = absurd cc
    by_stage Coming object is = absurd cc
    by_stage Removed object is = absurd cc

    by_place : (o : Option Place) → mapped kind (option_and_then inode_of (held o)) ≡ Some A_directory → (l : Listing) × (o ≡ Some (present (Kept_directory l)))
    by_place None is = absurd cc
    by_place (Some place) is = by_stage place.stage place.object is

-- nothing is open on what is not there
pub unopened : (ps : Processes) (s : Numbers) → Sound ps s → (n : ℕ) → get (inodes s) n ≡ None → openings (state_of ps s) n ≡ 0
unopened ps s sound n none = openings_change_lem.unopened (state_of ps s) n (λ d it is same. subst CanBeOpened (ap (kind_of (state_of ps s)) same ∙ ap (mapped kind) none) (sound.well.descriptions d it is))

-- the store with a name more
abbrev pub named_in : Numbers → ℕ → Name → ℕ → Numbers
named_in s d x n = altered (with_listing (with_name x n)) s d

-- what follows where a new inode has its name
pub record Makes (ps : Processes) (s first : Numbers) (d : ℕ) (x : Name) (n : ℕ) (e : Edit) : Type 0 where
  pub room : (l : Listing) → listing_at first d ≡ Some l → 0 < l.promised
  pub dir : is_coming (get first.places d) ≡ false
  pub num : may_be_named (get first.places n) ≡ true
  pub sound : Sound ps (named_in first d x n)
  pub state : state_of ps (named_in first d x n) ≡ tidy (applied (n ∷ []) e (state_of ps s))
  pub kept : (c : Claim) → kept_in (named_in first d x n) c + claimed_by_one c (n ∷ []) e ≡ kept_in s c

module _ (ps : Processes) (s : Numbers) (d : ℕ) (x : Name) (n : ℕ) (was object : Object) (new : Inode) (b : Bool) (e : Edit)
    (sound : Sound ps s) (free : IsFree (state_of ps s) d x) (nowhere : IsNowhere (state_of ps s) n) (fits : Fits (n ∷ []) (state_of ps s) e) (none_lost : loses e ≡ false)
    (before : get s.places n ≡ Some (coming was)) (shows : inode_of object ≡ Some new) (hides : description_of object ≡ None) (settled : IsStaged (Some (present object)))
    (unopen : (c : ℕ) → openings_seen (Some object) ≡ Some c → c ≡ 0) (unheld : holders_seen (Some object) ≡ None) (no_pipe : ends_seen (Some object) ≡ None)
    (numbered : (c : Claim) → number_of c ≡ n → kept_by c (Some (present object)) + number_as b n c ≡ kept_by c (Some (coming was)))
    (claims : (c : Claim) → claimed_by_one c (n ∷ []) e ≡ number_as b n c + room_in d c) (some_room : 0 < kept_in s (Room d))
    (makes : applied (n ∷ []) e (state_of ps s) ≡ set_name d x n (set_inode n new (state_of ps s))) where
  abbrev k : Kernel
  k = state_of ps s

  abbrev first : Numbers
  first = with_place s n (present object)

  inodes_first : inodes first ≡ insert (inodes s) n new
  inodes_first = inodes-set s n (present object) ∙ ap (Rattle.store.specs.Shown.with_value (inodes s) n) shows

  descriptions_first : descriptions first ≡ descriptions s
  descriptions_first = descriptions-set s n (present object) ∙ ap (Rattle.store.specs.Shown.with_value (descriptions s) n) hides ∙ remove-absent (descriptions s) n nowhere.description

  kept_first : (c : Claim) → kept_in first c + number_as b n c ≡ kept_in s c
  kept_first = place_kept s n (present object) (coming was) before (number_as b n) (number_elsewhere b n) numbered

  parent : (l : Listing) × (get first.places d ≡ Some (present (Kept_directory l)))
  parent = held_directory first d (ap (λ m. mapped kind (get m d)) inodes_first ∙ kept_kind k n d new A_directory nowhere.inode free.parent.directory)

  abbrev l : Listing
  l = parent.0

  names_are : names_of (set_inode n new k) d ≡ l.names
  names_are = sym (ap (λ m. names_of_inode (get m d)) inodes_first) ∙ ap names_of_inode (get-inodes first d ∙ ap (λ o. option_and_then inode_of (held o)) parent.1)

  room_there : 0 < l.promised
  room_there =
      let one : kept_in first (Room d) + number_as b n (Room d) ≡ kept_in s (Room d) = kept_first (Room d) in
      let none : number_as b n (Room d) ≡ 0 = refl in
      let is : kept_in first (Room d) ≡ l.promised = kept_is first (Room d) ∙ ap (kept_by (Room d)) parent.1 in
      let some : 0 < kept_in s (Room d) = some_room in omega arith

  abbrev after : Place
  after = present (Kept_directory (with_name x n l))

  made_is : named_in first d x n ≡ with_place first d after
  made_is = altered-some (with_listing (with_name x n)) first d (present (Kept_directory l)) parent.1

  abbrev made : Numbers
  made = with_place first d after

  made_state : state_of ps made ≡ applied (n ∷ []) e k
  made_state =
      ap (λ m. stored ps m s.rights (descriptions made)) (inodes-set first d after ∙ ap (λ m. insert m d (Directory (insert l.names x n))) inodes_first ∙ ap (λ ns. insert (insert (inodes s) n new) d (Directory (insert ns x n))) (sym names_are))
      ∙ ap (stored ps (set_name d x n (set_inode n new k)).inodes s.rights) (descriptions-set first d after ∙ remove-absent (descriptions first) d (not_described) ∙ descriptions_first)
      ∙ sym makes
    where
      not_described : get (descriptions first) d ≡ None
      not_described = Rattle.store.proofs.Laws.get-descriptions first d ∙ ap (λ o. option_and_then description_of (held o)) parent.1

  made_tidy : state_of ps made ≡ tidy (applied (n ∷ []) e k)
  made_tidy = made_state ∙ sym (tidy_after ps s (n ∷ []) e sound fits none_lost)

  counts_first : Counts k first
  counts_first = place_counts s n (present object) k (counts_of ps s sound.counted) (λ c is. unopen c is ∙ sym (unopened ps s sound n nowhere.inode)) (λ c is. absurd (nothing c (sym unheld ∙ is))) (λ ends is. absurd (not_none ends (sym is ∙ no_pipe)))
    where
      nothing : (c : ℕ) → None ≡ Some c → ⊥
      nothing c e = cc

  counts_made : Counts k made
  counts_made = place_counts first d after k counts_first (λ c is. absurd (nothing c is)) (λ c is. absurd (nothing c is)) (λ ends is. absurd (not_none ends (sym is)))
    where
      nothing : (c : ℕ) → None ≡ Some c → ⊥
      nothing c e = cc

  made_counted : AreCounted ps made
  made_counted = counted_by ps made (subst (λ (t : Kernel). Counts t made) (sym (made_state ∙ makes))
      (counts_of_state k (set_name d x n (set_inode n new k)) made (openings_change_lem.by_descriptions k (set_name d x n (set_inode n new k)) refl) (openings_change_lem.by_processes k (set_name d x n (set_inode n new k)) refl) (same_pairs k (set_name d x n (set_inode n new k)) refl) counts_made))

  made_kept : (c : Claim) → kept_in made c + claimed_by_one c (n ∷ []) e ≡ kept_in s c
  made_kept c =
      let one : kept_in first c + number_as b n c ≡ kept_in s c = kept_first c in
      let two : kept_in made c + room_in d c ≡ kept_in first c = place_kept first d after (present (Kept_directory l)) parent.1 (room_in d) (room_elsewhere d) takes c in
      let all : claimed_by_one c (n ∷ []) e ≡ number_as b n c + room_in d c = claims c in omega arith
    where
      takes : (c : Claim) → number_of c ≡ d → kept_by c (Some after) + room_in d c ≡ kept_by c (Some (present (Kept_directory l)))
      takes (Room r) same = (let one : room_in d (Room r) ≡ 1 = ap as_count (eq-eqb d r (sym same)) in let now : kept_by (Room r) (Some after) ≡ l.promised - 1 = refl in let before : kept_by (Room r) (Some (present (Kept_directory l))) ≡ l.promised = refl in let some : 0 < l.promised = room_there in omega arith)
      takes (New_directory m) same = refl
      takes (Number m) same = refl

  made_sound : Sound ps made
  made_sound = sound_after ps ps s made (n ∷ []) e sound fits made_tidy refl (place_staged first d after (place_staged s n (present object) sound.staged settled) (λ is. cc)) made_counted

  pub making_it : Makes ps s first d x n e
  making_it = record {
    room = λ l is. subst (λ (l : Listing). 0 < l.promised) (some_same parent.0 l (sym (ap (λ o. Rattle.store.specs.Places.listing_in o) parent.1) ∙ is)) room_there;
    dir = ap is_coming parent.1;
    num = ap may_be_named (get_same s.places n (present object));
    sound = subst (Sound ps) (sym made_is) made_sound;
    state = ap (state_of ps) made_is ∙ made_tidy;
    kept = λ c. ap (λ t. kept_in t c + claimed_by_one c (n ∷ []) e) made_is ∙ made_kept c;
  }

fixed_claims : (fixed : Fixed_content) (d n : ℕ) (x : Name) (c : Claim) → claimed_by_one c (n ∷ []) (Make_fixed d x fixed 0) ≡ number_as false n c + room_in d c
fixed_claims fixed d n x (Room r) = refl
fixed_claims fixed d n x (Number m) = (let one : claimed_by_one (Number m) (n ∷ []) (Make_fixed d x fixed 0) ≡ 0 + cond (n == m) 1 0 = refl in let same : number_as false n (Number m) ≡ cond (n == m) 1 0 = and_true (n == m) in let none : room_in d (Number m) ≡ 0 = refl in omega arith)
fixed_claims fixed d n x (New_directory m) = (let none : number_as false n (New_directory m) ≡ 0 = and_false (n == m) in let zero : claimed_by_one (New_directory m) (n ∷ []) (Make_fixed d x fixed 0) ≡ 0 = refl in let room : room_in d (New_directory m) ≡ 0 = refl in omega arith)

-- what is claimed is there
pub covered : (ps : Processes) (s : Numbers) (v : Committed) → committed_of ps s ≡ v → (c : Claim) (some : ℕ) → some ≤ reserved v c → 0 < some → 0 < kept_in s c
covered ps s v is c some covers one = (let same : kept_in s c ≡ reserved v c = kept_of ps ps s v is c in omega (arith, covers, one))

module _ (ps : Processes) (s : Numbers) (v : Committed) (is : committed_of ps s ≡ v) (d : ℕ) (x : Name) (n : ℕ) (sound : Sound ps s) where
  directory_makes : applied (n ∷ []) (Make_directory d x 0) (state_of ps s) ≡ set_name d x n (set_inode n (Directory empty) (state_of ps s))
  unfolding applied
  directory_makes = refl

  file_makes : applied (n ∷ []) (Make_file d x 0) (state_of ps s) ≡ set_name d x n (set_inode n (File []) (state_of ps s))
  unfolding applied
  file_makes = refl

  fixed_makes : (fixed : Fixed_content) → applied (n ∷ []) (Make_fixed d x fixed 0) (state_of ps s) ≡ set_name d x n (set_inode n (Fixed fixed) (state_of ps s))
  unfolding applied
  fixed_makes fixed = refl

  pub makes_directory : Fits (n ∷ []) v.state (Make_directory d x 0) → ((c : Claim) → claimed_by_one c (n ∷ []) (Make_directory d x 0) ≤ reserved v c) → Makes ps s (altered installed s n) d x n (Make_directory d x 0)
  makes_directory fit covers = subst (λ t. Makes ps s t d x n (Make_directory d x 0)) (sym (altered-some installed s n (coming (Kept_directory there.0)) there.1))
      (making_it ps s d x n (Kept_directory there.0) (Kept_directory there.0) (Directory empty) true (Make_directory d x 0) sound fits.0 fits.1 fits refl there.1
      (ap (λ ns. Some (Directory ns)) bare) refl (λ e. cc) (λ c e. cc) refl refl numbers (directory_claims d n x) some_room directory_makes)
    where
      fits : Fits (n ∷ []) (state_of ps s) (Make_directory d x 0)
      fits = subst (λ (v : Committed). Fits (n ∷ []) v.state (Make_directory d x 0)) (sym is) fit

      there : (l : Listing) × (get s.places n ≡ Some (coming (Kept_directory l)))
      there = directory_to_come (get s.places n) n (
          let one : claimed_by_one (New_directory n) (n ∷ []) (Make_directory d x 0) ≡ 1 = ap (λ b. 0 + cond b 1 0) (eq-eqb n n refl) in
          let some : 0 < kept_in s (New_directory n) = covered ps s v is (New_directory n) (claimed_by_one (New_directory n) (n ∷ []) (Make_directory d x 0)) (covers (New_directory n)) (omega arith) in
          let same : kept_in s (New_directory n) ≡ kept_by (New_directory n) (get s.places n) = kept_is s (New_directory n) in omega arith)

      bare : there.0.names ≡ empty
      bare = same_map nat_list_cmp_total name_exact there.0.names empty (λ y. subst IsStaged there.1 (sound.staged n) y ∙ sym (get-empty _ y))

      numbers : (c : Claim) → number_of c ≡ n → kept_by c (Some (present (Kept_directory there.0))) + number_as true n c ≡ kept_by c (Some (coming (Kept_directory there.0)))
      numbers (Room r) same = (let zero : number_as true n (Room r) ≡ 0 = refl in let alike : kept_by (Room r) (Some (present (Kept_directory there.0))) ≡ kept_by (Room r) (Some (coming (Kept_directory there.0))) = refl in omega arith)
      numbers (New_directory m) same = ap (λ t. 0 + t) (number_here true n m same)
      numbers (Number m) same = ap (λ t. 0 + t) (number_here false n m same)

      some_room : 0 < kept_in s (Room d)
      some_room =
          let one : claimed_by_one (Room d) (n ∷ []) (Make_directory d x 0) ≡ 1 = ap (λ b. 0 + cond b 1 0) (eq-eqb d d refl) in
          covered ps s v is (Room d) (claimed_by_one (Room d) (n ∷ []) (Make_directory d x 0)) (covers (Room d)) (omega arith)

  pub file_to_come : ((c : Claim) → claimed_by_one c (n ∷ []) (Make_file d x 0) ≤ reserved v c) → get s.places n ≡ Some (coming Nothing)
  file_to_come covers = other_to_come (get s.places n) n (sound.staged n) (
      let one : claimed_by_one (Number n) (n ∷ []) (Make_file d x 0) ≡ 1 = ap (λ b. 0 + cond b 1 0) (eq-eqb n n refl) in
      let some : 0 < kept_in s (Number n) = covered ps s v is (Number n) (claimed_by_one (Number n) (n ∷ []) (Make_file d x 0)) (covers (Number n)) (omega arith) in
      let same : kept_in s (Number n) ≡ kept_by (Number n) (get s.places n) = kept_is s (Number n) in omega arith)

  pub makes_file : (bytes : FileContent) → bytes.bytes ≡ [] → Fits (n ∷ []) v.state (Make_file d x 0) → ((c : Claim) → claimed_by_one c (n ∷ []) (Make_file d x 0) ≤ reserved v c)
      → Makes ps s (with_place s n (present (Kept_file (record { bytes = bytes; openings = 0 })))) d x n (Make_file d x 0)
  makes_file bytes bare fit covers =
      making_it ps s d x n Nothing (Kept_file (record { bytes = bytes; openings = 0 })) (File []) false (Make_file d x 0) sound fits.0 fits.1 fits refl (file_to_come covers)
      (ap (λ bs. Some (File bs)) bare) refl (λ e. cc) (λ c e. some_same c 0 (sym e)) refl refl numbers (file_claims d n x) some_room file_makes
    where
      fits : Fits (n ∷ []) (state_of ps s) (Make_file d x 0)
      fits = subst (λ (v : Committed). Fits (n ∷ []) v.state (Make_file d x 0)) (sym is) fit

      numbers : (c : Claim) → number_of c ≡ n → kept_by c (Some (present (Kept_file (record { bytes = bytes; openings = 0 })))) + number_as false n c ≡ kept_by c (Some (coming Nothing))
      numbers (Room r) same = refl
      numbers (New_directory m) same = ap (λ t. 0 + t) (number_here false n m same)
      numbers (Number m) same = ap (λ t. 0 + t) (number_here true n m same)

      some_room : 0 < kept_in s (Room d)
      some_room =
          let one : claimed_by_one (Room d) (n ∷ []) (Make_file d x 0) ≡ 1 = ap (λ b. 0 + cond b 1 0) (eq-eqb d d refl) in
          covered ps s v is (Room d) (claimed_by_one (Room d) (n ∷ []) (Make_file d x 0)) (covers (Room d)) (omega arith)

  pub fixed_to_come : (fixed : Fixed_content) → ((c : Claim) → claimed_by_one c (n ∷ []) (Make_fixed d x fixed 0) ≤ reserved v c) → get s.places n ≡ Some (coming Nothing)
  fixed_to_come fixed covers = other_to_come (get s.places n) n (sound.staged n) (
      let one : claimed_by_one (Number n) (n ∷ []) (Make_fixed d x fixed 0) ≡ 1 = ap (λ b. 0 + cond b 1 0) (eq-eqb n n refl) in
      let some : 0 < kept_in s (Number n) = covered ps s v is (Number n) (claimed_by_one (Number n) (n ∷ []) (Make_fixed d x fixed 0)) (covers (Number n)) (omega arith) in
      let same : kept_in s (Number n) ≡ kept_by (Number n) (get s.places n) = kept_is s (Number n) in omega arith)

  pub makes_fixed : (fixed : Fixed_content) → Fits (n ∷ []) v.state (Make_fixed d x fixed 0) → ((c : Claim) → claimed_by_one c (n ∷ []) (Make_fixed d x fixed 0) ≤ reserved v c)
      → Makes ps s (with_place s n (present (Kept_fixed fixed))) d x n (Make_fixed d x fixed 0)
  makes_fixed fixed fit covers =
      making_it ps s d x n Nothing (Kept_fixed fixed) (Fixed fixed) false (Make_fixed d x fixed 0) sound fits.0 fits.1 fits refl (fixed_to_come fixed covers)
      refl refl (λ e. cc) (λ c e. cc) refl refl numbers (fixed_claims fixed d n x) some_room (fixed_makes fixed)
    where
      fits : Fits (n ∷ []) (state_of ps s) (Make_fixed d x fixed 0)
      fits = subst (λ (v : Committed). Fits (n ∷ []) v.state (Make_fixed d x fixed 0)) (sym is) fit

      numbers : (c : Claim) → number_of c ≡ n → kept_by c (Some (present (Kept_fixed fixed))) + number_as false n c ≡ kept_by c (Some (coming Nothing))
      numbers (Room r) same = refl
      numbers (New_directory m) same = ap (λ t. 0 + t) (number_here false n m same)
      numbers (Number m) same = ap (λ t. 0 + t) (number_here true n m same)

      some_room : 0 < kept_in s (Room d)
      some_room =
          let one : claimed_by_one (Room d) (n ∷ []) (Make_fixed d x fixed 0) ≡ 1 = ap (λ b. 0 + cond b 1 0) (eq-eqb d d refl) in
          covered ps s v is (Room d) (claimed_by_one (Room d) (n ∷ []) (Make_fixed d x fixed 0)) (covers (Room d)) (omega arith)
