-- A new description of a number that was reserved, with its slot.
use Rattle.std.proofs.Common.{◌≡◌, ◌≢◌, ℕ, ◌+◌, ◌≤◌, ◌==◌, true, false, cond, [], ◌∷◌}
use Rattle.std.proofs.Common.{Some, None, refl, sym, ap, subst, ◌∙◌, arith, inl, inr}
use Rattle.std.proofs.Common.{eq-eqb, ne_eqb}
use Rattle.std.specs.Cmp.{nat_cmp_total}
use Rattle.std.specs.Option.{option_and_then}
use Rattle.std.proofs.lemmas.Bool.{cases_eq}
use Rattle.ids.specs.declared.edit.Mode.{Mode}
use Rattle.model.specs.FiniteMap.{get, insert, nat_cmp-IsAntisymmetric, same_map}
use Rattle.model.specs.State.{A_file, A_pipe, Description, Kernel, kind, kind_of, mapped}
use Rattle.model.specs.Changes.{Edit, Open_inode, There, applied, at_start, holders, open_at}
use Rattle.model.specs.Changes.{process_of, set_description, set_process, tidy, with_slot}
use Rattle.model.proofs.Laws.{get_other, get_same}
use Rattle.call_laws.specs.Fits.{Fits}
use Rattle.freeing_laws.proofs.Openings.{openings_change_lem}
use Rattle.store.specs.Numbers.{Numbers, coming, object_at}
use Rattle.store.specs.Shown.{descriptions, inodes}
use Rattle.store.specs.declared.OpenPipe.{OpenPipe}
use Rattle.store.specs.declared.Object.TheVariants.{Pipe as Kept_pipe, Nothing}
use Rattle.store.proofs.Laws.{get-inodes}
use Rattle.notes.specs.declared.opening.Opening.{Opening}
use Rattle.notes.specs.declared.opening.Opening.TheVariants.{New}
use Rattle.shadow.specs.Claims.{Claim, New_directory, Number, Room, claimed_by_one, number_of}
use Rattle.shadow.specs.Claims.{reserved}
use Rattle.shadow.specs.Committed.{Committed}
use Rattle.shadow.specs.Laid.{Frees, IsReopened, IsSlotted, kept_in, reserves_of, settled}
use Rattle.shadow.specs.Stored.{Processes, Sound, committed_of, numbered, reserve_in, state_of}
use Rattle.shadow.specs.Stored.{stored}
use Rattle.shadow.proofs.shared.SoundnessLemmas.{kept_of, state_is, tidy_after}
use Rattle.shadow.proofs.freeing.SoundAfterFreeing.{IsMade, freed_sound, freed_state, made_holds}
use Rattle.shadow.proofs.freeing.RemainingPlaces.{kept_by, kept_is}
use Rattle.shadow.proofs.edits.NewInodes.{other_to_come}
use Rattle.shadow.proofs.shared.PipePairLemmas.{ends_in, ends_kind, ends_seen}
use Rattle.shadow.proofs.committing.DescriptionChanges.{reserve_at}
use Rattle.shadow.proofs.edits.SlotChanges.{frees_nothing, kept_met, met_by, slotted_keeps}
use Rattle.shadow.proofs.edits.SlotChanges.{slotted_state, sound_low}

-- what a new description claims: its number
abbrev pub opening_edit : ℕ → Mode → ℕ → ℕ → Edit
opening_edit inode mode pid f = Open_inode 0 (There inode) mode pid f

claims_number : (n m : ℕ) (inode : ℕ) (mode : Mode) (pid f : ℕ)
    → claimed_by_one (Number m) (n ∷ []) (opening_edit inode mode pid f) ≡ cond (n == m) 1 0
claims_number n m inode mode pid f =
    (let one : claimed_by_one (Number m) (n ∷ []) (opening_edit inode mode pid f)
    ≡ 0 + cond (n == m) 1 0 = refl in omega arith)

module _ (ps : Processes) (s : Numbers) (v : Committed) (is : committed_of ps s ≡ v)
    (n inode : ℕ) (mode : Mode) (pid f : ℕ) (sound : Sound ps s)
    (fits : Fits (n ∷ []) v.state (Open_inode 0 (There inode) mode pid f))
    (covers : (c : Claim) → claimed_by_one c (n ∷ []) (Open_inode 0 (There inode) mode pid f)
    ≤ reserved v c) where
  abbrev k : Kernel
  k = state_of ps s

  abbrev e : Edit
  e = Open_inode 0 (There inode) mode pid f

  stored_fits : Fits (n ∷ []) (state_of ps s) (Open_inode 0 (There inode) mode pid f)
  stored_fits = subst (λ (v : Committed).
      Fits (n ∷ []) v.state (Open_inode 0 (There inode) mode pid f)) (sym is) fits

  pub opening_to_come : get s.places n ≡ Some (coming Nothing)
  opening_to_come = other_to_come (get s.places n) n (sound.staged n) (
      let one : claimed_by_one (Number n) (n ∷ []) e ≡ cond (n == n) 1 0 =
      claims_number n n inode mode pid f in
      let same : cond {A = ℕ} (n == n) 1 0 ≡ 1 = ap (λ b. cond {A = ℕ} b 1 0) (eq-eqb n n refl) in
      let some : claimed_by_one (Number n) (n ∷ []) e ≤ reserved v (Number n) = covers (Number n) in
      let kept : kept_in s (Number n) ≡ reserved v (Number n) = kept_of ps ps s v is (Number n) in
      let by : kept_in s (Number n) ≡ kept_by (Number n) (get s.places n) = kept_is s (Number n)
      in omega arith)

  pub opening_process : get (numbered ps) pid ≢ None
  opening_process = stored_fits.slot.alive

  unheld : holders (state_of ps s) n ≡ 0
  unheld = openings_change_lem.unheld (state_of ps s) n stored_fits.unused.unheld

  module _ (qs : Processes) (t u : Numbers)
      (opened : IsReopened n (New (at_start inode mode)) s t)
      (laid : IsSlotted pid f (Some n) ps qs t u) where
    descriptions_are : descriptions t ≡ insert (descriptions s) n (at_start inode mode)
    descriptions_are = same_map nat_cmp_total nat_cmp-IsAntisymmetric _ _
        (λ q. elim (cases_eq q n) [
          | inl same ↦ ap (get (descriptions t)) same ∙ opened.here
              ∙ sym (get_same (descriptions s) n (at_start inode mode))
              ∙ sym (ap (get (insert (descriptions s) n (at_start inode mode))) same)
          | inr away ↦ opened.others q away
              ∙ sym (get_other (descriptions s) n q (at_start inode mode) away)
        ])

    described : state_of ps t ≡ set_description n (at_start inode mode) (state_of ps s)
    described = ap (λ m. stored ps m t.rights (descriptions t)) opened.same.inodes
        ∙ ap (λ r. stored ps (inodes s) r (descriptions t)) opened.same.rights
        ∙ ap (stored ps (inodes s) s.rights) descriptions_are

    opens : applied (n ∷ []) (Open_inode 0 (There inode) mode pid f) (state_of ps s)
        ≡ open_at n inode mode pid f (state_of ps s)
    unfolding applied
    opens = refl

    -- what is opened is a file
    no_pipe : (it : Description) → New (at_start inode mode) ≡ New it → (pipe : OpenPipe)
        → object_at s it.inode ≡ Some (Kept_pipe pipe) → ⊥
    no_pipe it new pipe there = absurd (
        let same : inode ≡ it.inode = ap inode_in new in
        let is : kind_of (state_of ps s) it.inode ≡ Some A_file =
        ap (kind_of (state_of ps s)) (sym same) ∙ stored_fits.kind in
        let other : kind_of (state_of ps s) it.inode ≡ Some A_pipe =
        ap (mapped kind) (get-inodes s it.inode) ∙ ends_kind (object_at s it.inode) (ends_in pipe)
        (ap ends_seen there) in
        let never : Some A_file ≡ Some A_pipe = sym is ∙ other in
        cc)
      where
        inode_in : Opening → ℕ
        inode_in (New it) = it.inode
        inode_in _ = inode

    pub opening_made : IsMade ps qs s u (n ∷ []) (Open_inode 0 (There inode) mode pid f)
    opening_made = record {
      root = laid.stay.same.root ∙ opened.same.root;
      state = slotted_state ps qs t u pid f (Some n) laid
          ∙ ap (set_process pid (with_slot f n (process_of (state_of ps s) pid))) described
          ∙ sym opens;
      staged = laid.stay.same.staged (opened.same.staged sound.staged);
      counted = laid.stay.counted (sound_low ps s sound)
          (opened.counted ps sound.counted (λ new. unheld)
          (λ it new pipe there. absurd (no_pipe it new pipe there)));
    }

    freed : Frees (λ k. k) qs u u
    freed = frees_nothing qs u (made_holds ps qs s u (n ∷ []) e sound stored_fits opening_made)

    tidies : applied (n ∷ []) (Open_inode 0 (There inode) mode pid f) (state_of ps s)
        ≡ tidy (applied (n ∷ []) (Open_inode 0 (There inode) mode pid f) (state_of ps s))
    tidies = sym (tidy_after ps s (n ∷ []) e sound stored_fits refl)

    pub opening_sound : Sound qs u
    opening_sound = freed_sound ps qs s u (n ∷ []) e sound stored_fits opening_made (λ k. k) tidies
        u freed

    pub opening_state : state_of qs u
        ≡ tidy (applied (n ∷ []) (Open_inode 0 (There inode) mode pid f) v.state)
    opening_state = state_is ps qs s v is (state_of qs u)
        (λ k. tidy (applied (n ∷ []) (Open_inode 0 (There inode) mode pid f) k))
        (freed_state ps qs s u (n ∷ []) e sound stored_fits opening_made (λ k. k) tidies u freed)

    -- its number is reserved no more
    was : get (reserves_of s) n ≡ Some (record { coming = true; promised = None })
    was = reserve_at s n ∙ ap (option_and_then reserve_in) opening_to_come

    now : get (reserves_of t) n ≡ Some (record { coming = false; promised = None })
    now = opened.reserve ∙ ap settled was

    here : (c : Claim) → number_of c ≡ n
        → kept_in t c + claimed_by_one c (n ∷ []) (Open_inode 0 (There inode) mode pid f)
        ≡ kept_in s c
    here c same = (
        let after : kept_in t c ≡ met_by c (Some (record { coming = false; promised = None })) =
        kept_met t c ∙ ap (λ m. met_by c (get (reserves_of t) m)) same ∙ ap (met_by c) now in
        let before : kept_in s c ≡ met_by c (Some (record { coming = true; promised = None })) =
        kept_met s c ∙ ap (λ m. met_by c (get (reserves_of s) m)) same ∙ ap (met_by c) was in
        let step : met_by c (Some (record { coming = false; promised = None })) + claimed_by_one c
        (n ∷ []) e ≡ met_by c (Some (record { coming = true; promised = None })) =
        by_claim c same in
        omega arith)
      where
        by_claim : (c : Claim) → number_of c ≡ n
            → met_by c (Some (record { coming = false; promised = None })) + claimed_by_one c
            (n ∷ []) (Open_inode 0 (There inode) mode pid f)
            ≡ met_by c (Some (record { coming = true; promised = None }))
        by_claim (Room r) same = refl
        by_claim (New_directory m) same = refl
        by_claim (Number m) same = (
            let one : claimed_by_one (Number m) (n ∷ []) e ≡ cond (n == m) 1 0 =
            claims_number n m inode mode pid f in
            let it : cond {A = ℕ} (n == m) 1 0 ≡ 1 =
            ap (λ b. cond {A = ℕ} b 1 0) (eq-eqb n m (sym same)) in
            let none : met_by (Number m) (Some (record { coming = false; promised = None })) ≡ 0 =
            refl in
            let some : met_by (Number m) (Some (record { coming = true; promised = None })) ≡ 1 =
            refl in
            omega arith)

    elsewhere : (c : Claim) → number_of c ≢ n
        → claimed_by_one c (n ∷ []) (Open_inode 0 (There inode) mode pid f) ≡ 0
    elsewhere (Room r) away = refl
    elsewhere (New_directory m) away = refl
    elsewhere (Number m) away = claims_number n m inode mode pid f
        ∙ ap (λ b. cond {A = ℕ} b 1 0) (ne_eqb n m (λ e. away (sym e)))

    pub opening_kept : (c : Claim)
        → kept_in u c + claimed_by_one c (n ∷ []) (Open_inode 0 (There inode) mode pid f)
        ≡ kept_in s c
    opening_kept c = elim (cases_eq (number_of c) n) [
      | inl same ↦ ap (λ m. m + claimed_by_one c (n ∷ []) e)
          (slotted_keeps ps qs t u pid f (Some n) laid c) ∙ here c same
      | inr away ↦ (
          let slot : kept_in u c ≡ kept_in t c = slotted_keeps ps qs t u pid f (Some n) laid c in
          let same : kept_in t c ≡ kept_in s c = kept_met t c
          ∙ ap (met_by c) (opened.reserves (number_of c) away) ∙ sym (kept_met s c) in
          let none : claimed_by_one c (n ∷ []) e ≡ 0 = elsewhere c away in
          omega arith)
    ]
