-- A new description is shown, and it is counted at its inode.
use Rattle.std.proofs.Common.{◌≡◌, ◌≢◌, ℕ, ◌+◌, ◌<◌, ◌≤◌, ◌^◌, ◌==◌, Bool, true, false, cond}
use Rattle.std.proofs.Common.{Some, refl, sym, ap, subst, ◌∙◌, arith, inl, inr, eq-eqb, ne_eqb}
use Rattle.std.specs.Option.{option_and_then, option_map}
use Rattle.std.proofs.lemmas.Bool.{cases_eq}
use Rattle.model.specs.FiniteMap.{get, insert, len}
use Rattle.model.specs.State.{Kernel, Description}
use Rattle.model.specs.Changes.{holders, openings, set_description}
use Rattle.model.proofs.Laws.{get_other, get_same}
use Rattle.call_laws.proofs.Laws.{not_none, some_same}
use Rattle.freeing_laws.proofs.Openings.{openings_change_lem}
use Rattle.store.specs.Numbers.{Numbers, coming, held, object_at, present}
use Rattle.store.specs.Places.{altered, openings_at, with_file}
use Rattle.store.specs.Shown.{descriptions, inodes}
use Rattle.store.specs.declared.OpenFile.{OpenFile}
use Rattle.store.specs.declared.Opened.{Opened}
use Rattle.store.specs.declared.OpenPipe.{OpenPipe}
use Rattle.store.specs.declared.Place.{Place}
use Rattle.store.specs.declared.Object.{Object}
use Rattle.store.specs.declared.Object.TheVariants.{Directory as A_directory, File as A_file, Pipe as A_pipe, Fixed as A_fixed}
use Rattle.store.specs.declared.Object.TheVariants.{Description as A_description, Nothing}
use Rattle.store.proofs.Laws.{descriptions-filed, descriptions-set, get-descriptions_by}
use Rattle.store.proofs.Laws.{get-inodes_by, inodes-filed, inodes-set, place-altered, place-other}
use Rattle.store.proofs.Laws.{remove-absent, with_place}
use Rattle.shadow.specs.Stored.{AreCounted, IsEndHere, IsStaged, Processes, reserve_in, state_of}
use Rattle.shadow.specs.Stored.{stored}
use Rattle.notes.specs.declared.opening.Opening.TheVariants.{New}
use Rattle.shadow.specs.Laid.{IsReopened, reserves_of, settled}
use Rattle.shadow.proofs.edits.NewInodes.{place_staged}
use Rattle.shadow.proofs.shared.PipePairLemmas.{pair_comes, pipe_by_file, pipe_stood, same_pairs, shown_pipe}
use Rattle.shadow.proofs.committing.DescriptionChanges.{HeldBefore, counted_if, few_openings, held_file, held_opened}
use Rattle.shadow.proofs.committing.DescriptionChanges.{not_file, over, reserve_as, reserve_at, reserve_filed}
use Rattle.shadow.proofs.committing.DescriptionChanges.{same_bytes, staged_filed}

-- the place of a new description, that no slot gives yet
abbrev pub new_place : Description → Place
new_place it = present (A_description (record { description = it; holders = 0 }))

-- where nothing is counted, the place stays
pub not_counted : (place : Place) → with_file (counted_if false) place ≡ place
not_counted place = by_object place.object
  where
    by_object : (object : Object)
        → with_file (counted_if false) (record { stage = place.stage; object = object })
        ≡ record { stage = place.stage; object = object }
    by_object (A_directory listing) = refl
    by_object (A_file file) = refl
    by_object (A_pipe pipe) = refl
    by_object (A_fixed fixed) = refl
    by_object (A_description opened) = refl
    by_object Nothing = refl

module _ (s : Numbers) (d : ℕ) (it : Description) (b : Bool) (t : Numbers)
    (before : get s.places d ≡ Some (coming Nothing)) (few : len s.places < 2 ^ 64)
    (is : t ≡ altered (with_file (counted_if b)) (with_place s d (new_place it)) it.inode)
    (full : b ≡ false → 2 ^ 64 ≤ openings_at (with_place s d (new_place it)) it.inode) where
  abbrev i : ℕ
  i = it.inode

  abbrev mid : Numbers
  mid = with_place s d (new_place it)

  abbrev g : OpenFile → OpenFile
  g = counted_if b

  -- what stands at each number
  at_d : get mid.places d ≡ Some (new_place it)
  at_d = get_same s.places d (new_place it)

  off_d : (n : ℕ) → n ≢ d → get mid.places n ≡ get s.places n
  off_d n away = get_other s.places d n (new_place it) away

  at_i : get t.places i ≡ option_map (with_file g) (get mid.places i)
  at_i = ap (λ (t : Numbers). get t.places i) is ∙ place-altered (with_file g) mid i

  off_i : (n : ℕ) → n ≢ i → get t.places n ≡ get mid.places n
  off_i n away = ap (λ (t : Numbers). get t.places n) is ∙ place-other (with_file g) mid i n away

  -- what is shown
  same_inodes : inodes t ≡ inodes s
  same_inodes = ap inodes is ∙ inodes-filed g (same_bytes b) mid i ∙ inodes-set s d (new_place it)
      ∙ remove-absent (inodes s) d (get-inodes_by s d (Some (coming Nothing)) before)

  one_more : descriptions t ≡ insert (descriptions s) d it
  one_more = ap descriptions is ∙ descriptions-filed g mid i ∙ descriptions-set s d (new_place it)

  -- what is kept
  new_reserve : get (reserves_of t) d ≡ settled (get (reserves_of s) d)
  new_reserve = reserve_at t d ∙ over_t ∙ ap (option_and_then reserve_in) at_d
      ∙ sym (ap settled (reserve_at s d ∙ ap (option_and_then reserve_in) before))
    where
      over_t : option_and_then reserve_in (get t.places d)
          ≡ option_and_then reserve_in (get mid.places d)
      over_t = ap (λ (t : Numbers). option_and_then reserve_in (get t.places d)) is
          ∙ over (with_file g) mid i
          (λ o. option_and_then reserve_in o ≡ option_and_then reserve_in (get mid.places d))
          (λ o h. reserve_filed g o ∙ h) d refl

  same_reserve : (n : ℕ) → n ≢ d → get (reserves_of t) n ≡ get (reserves_of s) n
  same_reserve n away = reserve_as s t n (
      ap (λ (t : Numbers). option_and_then reserve_in (get t.places n)) is
      ∙ over (with_file g) mid i
      (λ o. option_and_then reserve_in o ≡ option_and_then reserve_in (get s.places n))
      (λ o h. reserve_filed g o ∙ h) n (ap (option_and_then reserve_in) (off_d n away)))

  still_coming : (n : ℕ) → get s.places n ≡ Some (coming Nothing) → n ≢ d
      → get t.places n ≡ Some (coming Nothing)
  still_coming n is_coming away = ap (λ (t : Numbers). get t.places n) is
      ∙ over (with_file g) mid i (λ o. o ≡ Some (coming Nothing))
      (λ o h. ap (option_map (with_file g)) h) n (off_d n away ∙ is_coming)

  still_staged : ((n : ℕ) → IsStaged (get s.places n)) → (n : ℕ) → IsStaged (get t.places n)
  still_staged staged n = subst (λ (t : Numbers). IsStaged (get t.places n)) (sym is)
      (over (with_file g) mid i IsStaged (staged_filed g) n
      (place_staged s d (new_place it) staged (λ e. cc) n))

  -- a file that is shown was shown before
  file_stood : (n : ℕ) (file : OpenFile) → held (get mid.places n) ≡ Some (A_file file)
      → (n ≢ d) × (object_at s n ≡ Some (A_file file))
  file_stood n file at = elim (cases_eq n d) [
    | inl same ↦ absurd (not_file (record { description = it; holders = 0 }) file
        (sym (ap held at_d) ∙ ap (object_at mid) (sym same) ∙ at))
    | inr away ↦ (away, sym (ap held (off_d n away)) ∙ at)
  ]

  -- and so were the descriptions but the new one
  opened_stood : (e : ℕ) (opened : Opened) → object_at t e ≡ Some (A_description opened)
      → held (get mid.places e) ≡ Some (A_description opened)
  opened_stood e opened at =
      over (with_file g) mid i
      (λ o. held o ≡ Some (A_description opened)
      → held (get mid.places e) ≡ Some (A_description opened))
      (λ o h at. h (held_opened g o opened at)) e (λ at. at)
      (subst (λ (t : Numbers). object_at t e ≡ Some (A_description opened)) is at)

  -- a pipe that is shown was shown before
  pipe_was : (p : ℕ) (pipe : OpenPipe) → object_at t p ≡ Some (A_pipe pipe)
      → object_at s p ≡ Some (A_pipe pipe)
  pipe_was p pipe at = elim (cases_eq p d) [
    | inl same ↦ absurd (not_pipe (sym (ap held (ap (λ (p : ℕ). get mid.places p) same ∙ at_d))
        ∙ stood))
    | inr away ↦ sym (ap held (off_d p away)) ∙ stood
  ]
    where
      stood : object_at mid p ≡ Some (A_pipe pipe)
      stood = pipe_stood (with_file g) (pipe_by_file g) mid i p pipe
          (sym (ap (λ (t : Numbers). object_at t p) is) ∙ at)

      not_pipe : Some (A_description (record { description = it; holders = 0 }))
          ≡ Some (A_pipe pipe) → ⊥
      not_pipe e = not_none pipe (sym (ap shown_pipe e))

  module _ (ps : Processes) (counted : AreCounted ps s) (unheld : holders (state_of ps s) d ≡ 0)
      (ends : IsEndHere s d it) where
    abbrev k : Kernel
    k = state_of ps s

    state_is : state_of ps t ≡ set_description d it k
    state_is = ap (λ m. stored ps m t.rights (descriptions t)) same_inodes
        ∙ ap (λ r. stored ps (inodes s) r (descriptions t)) (ap (λ (t : Numbers). t.rights) is)
        ∙ ap (stored ps (inodes s) s.rights) one_more

    comes : (n : ℕ) → openings (state_of ps t) n ≡ openings k n + cond (i == n) 1 0
    comes n = ap (λ (k : Kernel). openings k n) state_is
        ∙ openings_change_lem.comes k d it
        (get-descriptions_by s d (Some (coming Nothing)) before)
        n

    files_counted : (n : ℕ) (file : OpenFile) → object_at t n ≡ Some (A_file file)
        → file.openings ≡ openings (state_of ps t) n
    files_counted n file at = elim (cases_eq n i) [
      | inl same ↦ here same (held_file g (get mid.places i) file
          (sym (ap held at_i) ∙ ap (object_at t) (sym same) ∙ at))
      | inr away ↦ (
          let was : file.openings ≡ openings k n =
          counted.openings n file (file_stood n file (sym (ap held (off_i n away)) ∙ at)).1 in
          let now : openings (state_of ps t) n ≡ openings k n + cond (i == n) 1 0 = comes n in
          let none : cond {A = ℕ} (i == n) 1 0 ≡ 0 =
          ap (λ b. cond {A = ℕ} b 1 0) (ne_eqb i n (λ e. away (sym e))) in
          omega arith)
    ]
      where
        more : (b : Bool) (old : OpenFile) → (b ≡ false → 2 ^ 64 ≤ old.openings)
            → old.openings < 2 ^ 64 → (counted_if b old).openings ≡ old.openings + 1
        more true old full low = refl
        more false old full low =
            (let high : 2 ^ 64 ≤ old.openings = full refl in absurd (omega arith))

        here : n ≡ i → HeldBefore g (get mid.places i) file
            → file.openings ≡ openings (state_of ps t) n
        here same old =
            let was : old.before.openings ≡ openings k i =
            counted.openings i old.before (file_stood i old.before old.held).1 in
            let most : openings k i ≤ len s.places = few_openings ps s i in
            let low : len s.places < 2 ^ 64 = few in
            let below : old.before.openings < 2 ^ 64 = omega arith in
            let step : (g old.before).openings ≡ old.before.openings + 1 =
            more b old.before (λ e. subst (λ (c : ℕ). 2 ^ 64 ≤ c) old.count (full e)) below in
            let is_now : file.openings ≡ (g old.before).openings =
            ap (λ (file : OpenFile). file.openings) old.is in
            let now : openings (state_of ps t) i ≡ openings k i + cond (i == i) 1 0 = comes i in
            let one : cond {A = ℕ} (i == i) 1 0 ≡ 1 =
            ap (λ b. cond {A = ℕ} b 1 0) (eq-eqb i i refl)
            in
            let all : file.openings ≡ openings (state_of ps t) i = omega arith in
            all ∙ ap (openings (state_of ps t)) (sym same)

    shown_counted : (e : ℕ) (opened : Opened) → object_at t e ≡ Some (A_description opened)
        → opened.holders ≡ holders (state_of ps t) e
    shown_counted e opened at = elim (cases_eq e d) [
      | inl same ↦ ap holders_in
          (some_same _ _ (sym (opened_stood e opened at) ∙ ap (object_at mid) same
          ∙ ap held at_d))
          ∙ sym (ap (holders k) same ∙ unheld)
          ∙ sym (openings_change_lem.by_processes k (state_of ps t) refl e)
      | inr away ↦ counted.holders e opened
          (sym (ap held (off_d e away)) ∙ opened_stood e opened at)
          ∙ sym (openings_change_lem.by_processes k (state_of ps t) refl e)
    ]
      where
        holders_in : Object → ℕ
        holders_in (A_description opened) = opened.holders
        holders_in _ = 0

    counted_then : AreCounted ps t
    counted_then = record {
      openings = files_counted;
      holders = shown_counted;
      pipes = λ p pipe at. same_pairs (set_description d it k) (state_of ps t) one_more p
          pipe.reader pipe.writer
          (pair_comes (descriptions s) p pipe.reader pipe.writer d it
          (λ of_p. ends pipe (ap (object_at s) of_p ∙ pipe_was p pipe at))
          (counted.pipes p pipe (pipe_was p pipe at)));
    }

  pub opening_new : IsReopened d (New it) s t
  opening_new = record {
    same = record {
      root = ap (λ (t : Numbers). t.root) is;
      inodes = same_inodes;
      rights = ap (λ (t : Numbers). t.rights) is;
      staged = still_staged;
    };
    here = ap (λ m. get m d) one_more ∙ get_same (descriptions s) d it;
    others = λ e away. ap (λ m. get m e) one_more ∙ get_other (descriptions s) d e it away;
    places = still_coming;
    reserve = new_reserve;
    reserves = same_reserve;
    pipes = pipe_was;
    counted = λ ps counted unheld ends. counted_then ps counted (unheld refl) (ends it refl);
  }
