-- A new pipe of a number that was reserved, with its two descriptions and their slots.
use Rattle.std.proofs.Common.{◌≡◌, ◌≢◌, ℕ, ◌+◌, ◌≤◌, ◌==◌, true, false, cond, List, [], ◌∷◌, Option, Some, None, refl, sym, ap, subst, ◌∙◌, arith, inl, inr, eq-eqb, ne_eqb}
use Rattle.std.specs.Prelude.{⊤}
use Rattle.std.specs.Cmp.{nat_cmp_total}
use Rattle.std.specs.Option.{option_and_then}
use Rattle.std.proofs.lemmas.Bool.{cases_eq}
use Rattle.std.proofs.lemmas.List.Sums.{sum_by-cons}
use Rattle.model.specs.FiniteMap.{get, insert, nat_cmp-IsAntisymmetric, same_map}
use Rattle.model.specs.State.{Description, Kernel, Pipe, mapped}
use Rattle.model.specs.Changes.{Edit, Make_pipe, applied, at_start, holders, open_at, or_new, process_of, set_description, set_inode, set_process, tidy, to_read, to_write, with_slot}
use Rattle.model.proofs.Laws.{get_other, get_same}
use Rattle.call_laws.specs.Fits.{Fits}
use Rattle.call_laws.proofs.Laws.{some_same}
use Rattle.freeing_laws.specs.Counts.{times}
use Rattle.freeing_laws.specs.Pipes.{ArePair}
use Rattle.freeing_laws.proofs.Openings.{openings_change_lem}
use Rattle.freeing_laws.proofs.Pipes.{pipes_keep_their_ends_lem}
use Rattle.store.specs.Numbers.{Numbers, coming, held, object_at, present}
use Rattle.store.specs.Shown.{descriptions, inodes, with_value}
use Rattle.store.specs.declared.Object.{Object}
use Rattle.store.specs.declared.Object.TheVariants.{Description as A_description, File as A_file, Nothing, Pipe as A_pipe}
use Rattle.store.specs.declared.OpenFile.{OpenFile}
use Rattle.store.specs.declared.OpenPipe.{OpenPipe}
use Rattle.store.specs.declared.Opened.{Opened}
use Rattle.store.proofs.Laws.{remove-absent, with_place}
use Rattle.notes.specs.declared.opening.Opening.TheVariants.{New}
use Rattle.shadow.specs.Claims.{Claim, New_directory, Number, Room, claimed_by_one, number_of, reserved}
use Rattle.shadow.specs.Committed.{Committed}
use Rattle.shadow.specs.Laid.{Frees, IsReopened, IsSlotted, kept_in, reserves_of, settled}
use Rattle.shadow.specs.Stored.{AreCounted, IsEndHere, IsStaged, Processes, Sound, committed_of, numbered, reserve_in, state_of, stored}
use Rattle.shadow.proofs.shared.SoundnessLemmas.{kept_of, state_is, tidy_after}
use Rattle.shadow.proofs.freeing.SoundAfterFreeing.{IsMade, freed_sound, freed_state, made_holds}
use Rattle.shadow.proofs.freeing.RemainingPlaces.{kept_by, kept_is}
use Rattle.shadow.proofs.edits.NewInodes.{other_to_come, place_staged}
use Rattle.shadow.proofs.committing.DescriptionChanges.{reserve_at}
use Rattle.shadow.proofs.edits.SlotChanges.{frees_nothing, kept_met, met_by, slotted_state, sound_low}

-- what is claimed of a number by three numbers
three : ℕ → ℕ → ℕ → ℕ → ℕ
three m p r w = times m (p ∷ r ∷ w ∷ [])

abbrev as_one : ℕ → ℕ → ℕ
as_one n m = cond (n == m) 1 0

three_is : (m p r w : ℕ) → times m (p ∷ r ∷ w ∷ []) ≡ as_one p m + (as_one r m + (as_one w m + 0))
three_is m p r w =
    sum_by-cons (λ v. cond (v == m) 1 0) p (r ∷ w ∷ [])
    ∙ ap (λ x. as_one p m + x) (sum_by-cons (λ v. cond (v == m) 1 0) r (w ∷ [])
    ∙ ap (λ x. as_one r m + x) (sum_by-cons (λ v. cond (v == m) 1 0) w []))

one_here : (n m : ℕ) → n ≡ m → as_one n m ≡ 1
one_here n m is = ap (λ b. cond b 1 0) (eq-eqb n m is)

one_away : (n m : ℕ) → n ≢ m → as_one n m ≡ 0
one_away n m away = ap (λ b. cond b 1 0) (ne_eqb n m away)

object_eq : (a b : OpenPipe) → Some (A_pipe a) ≡ Some (A_pipe b) → a ≡ b
object_eq a b is = ap (λ (o : Option Object). or_pipe a o) is
  where
    or_pipe : OpenPipe → Option Object → OpenPipe
    or_pipe x (Some (A_pipe y)) = y
    or_pipe x _ = x

module _ (ps : Processes) (s : Numbers) (v : Committed) (is : committed_of ps s ≡ v) (p r w pid f g : ℕ) (sound : Sound ps s)
    (fits : Fits (p ∷ r ∷ w ∷ []) v.state (Make_pipe 0 pid f g))
    (covers : (c : Claim) → claimed_by_one c (p ∷ r ∷ w ∷ []) (Make_pipe 0 pid f g) ≤ reserved v c) where
  abbrev chosen : List ℕ
  chosen = p ∷ r ∷ w ∷ []

  abbrev e : Edit
  e = Make_pipe 0 pid f g

  abbrev k : Kernel
  k = state_of ps s

  can : Fits (p ∷ r ∷ w ∷ []) (state_of ps s) (Make_pipe 0 pid f g)
  can = subst (λ (v : Committed). Fits (p ∷ r ∷ w ∷ []) v.state (Make_pipe 0 pid f g)) (sym is) fits

  low : (m : ℕ) → times m (p ∷ r ∷ w ∷ []) ≤ kept_by (Number m) (get s.places m)
  low m =
      let some : times m (p ∷ r ∷ w ∷ []) ≤ reserved v (Number m) = covers (Number m) in
      let kept : kept_in s (Number m) ≡ reserved v (Number m) = kept_of ps ps s v is (Number m) in
      let by : kept_in s (Number m) ≡ kept_by (Number m) (get s.places m) = kept_is s (Number m) in
      omega arith

  -- all three are to come, and no two are the same
  pub pipe_to_come : get s.places p ≡ Some (coming Nothing)
  pipe_to_come = other_to_come (get s.places p) p (sound.staged p) (
      let some : times p (p ∷ r ∷ w ∷ []) ≤ kept_by (Number p) (get s.places p) = low p in
      let all : times p (p ∷ r ∷ w ∷ []) ≡ as_one p p + (as_one r p + (as_one w p + 0)) = three_is p p r w in
      let one : as_one p p ≡ 1 = one_here p p refl in omega arith)

  reader_to_come : get s.places r ≡ Some (coming Nothing)
  reader_to_come = other_to_come (get s.places r) r (sound.staged r) (
      let some : times r (p ∷ r ∷ w ∷ []) ≤ kept_by (Number r) (get s.places r) = low r in
      let all : times r (p ∷ r ∷ w ∷ []) ≡ as_one p r + (as_one r r + (as_one w r + 0)) = three_is r p r w in
      let one : as_one r r ≡ 1 = one_here r r refl in omega arith)

  writer_to_come : get s.places w ≡ Some (coming Nothing)
  writer_to_come = other_to_come (get s.places w) w (sound.staged w) (
      let some : times w (p ∷ r ∷ w ∷ []) ≤ kept_by (Number w) (get s.places w) = low w in
      let all : times w (p ∷ r ∷ w ∷ []) ≡ as_one p w + (as_one r w + (as_one w w + 0)) = three_is w p r w in
      let one : as_one w w ≡ 1 = one_here w w refl in omega arith)

  only_one : (m : ℕ) → get s.places m ≡ Some (coming Nothing) → as_one p m + (as_one r m + (as_one w m + 0)) ≤ 1
  only_one m come =
      let some : times m (p ∷ r ∷ w ∷ []) ≤ kept_by (Number m) (get s.places m) = low m in
      let all : times m (p ∷ r ∷ w ∷ []) ≡ as_one p m + (as_one r m + (as_one w m + 0)) = three_is m p r w in
      let most : kept_by (Number m) (get s.places m) ≡ 1 = ap (kept_by (Number m)) come in omega arith

  reader_away : r ≢ p
  reader_away same = absurd (
      let few : as_one p p + (as_one r p + (as_one w p + 0)) ≤ 1 = only_one p pipe_to_come in
      let one : as_one p p ≡ 1 = one_here p p refl in
      let two : as_one r p ≡ 1 = one_here r p same in omega arith)

  writer_away : w ≢ p
  writer_away same = absurd (
      let few : as_one p p + (as_one r p + (as_one w p + 0)) ≤ 1 = only_one p pipe_to_come in
      let one : as_one p p ≡ 1 = one_here p p refl in
      let two : as_one w p ≡ 1 = one_here w p same in omega arith)

  ends_away : w ≢ r
  ends_away same = can.different (sym same)

  pub piping_process : get (numbered ps) pid ≢ None
  piping_process = can.slot.alive

  pub process_still : (qs : Processes) (u a : Numbers) → IsSlotted pid f (Some r) ps qs u a → get (numbered qs) pid ≢ None
  process_still qs u a laid none = some_not (with_slot f r (or_new (get (numbered ps) pid))) (sym (laid.here) ∙ none)
    where
      some_not : {X : Type 0} (x : X) → Some x ≡ None → ⊥
      some_not x e = absurd cc

  unheld_reader : holders (state_of ps s) r ≡ 0
  unheld_reader = openings_change_lem.unheld (state_of ps s) r can.reader.unheld

  unheld_writer : holders (state_of ps s) w ≡ 0
  unheld_writer = openings_change_lem.unheld (state_of ps s) w can.writer.unheld

  module _ (pipe : OpenPipe) (empty : pipe.bytes ≡ []) (reads : pipe.reader ≡ r) (writes : pipe.writer ≡ w) (first : Numbers) (installed : first ≡ with_place s p (present (A_pipe pipe)))
      (shown : inodes first ≡ insert (inodes s) p (Pipe pipe.bytes)) (described_so : descriptions first ≡ with_value (descriptions s) p None) where
    here : get first.places p ≡ Some (present (A_pipe pipe))
    here = ap (λ (t : Numbers). get t.places p) installed ∙ get_same s.places p (present (A_pipe pipe))

    there : (m : ℕ) → m ≢ p → get first.places m ≡ get s.places m
    there m away = ap (λ (t : Numbers). get t.places m) installed ∙ get_other s.places p m (present (A_pipe pipe)) away

    pub reader_comes : get first.places r ≡ Some (coming Nothing)
    reader_comes = there r reader_away ∙ reader_to_come

    writer_comes : get first.places w ≡ Some (coming Nothing)
    writer_comes = there w writer_away ∙ writer_to_come

    root_first : first.root ≡ s.root
    root_first = ap (λ (t : Numbers). t.root) installed

    staged_first : (m : ℕ) → IsStaged (get first.places m)
    staged_first = subst (λ (t : Numbers). (m : ℕ) → IsStaged (get t.places m)) (sym installed) (place_staged s p (present (A_pipe pipe)) sound.staged (λ is. cc))

    inodes_first : inodes first ≡ insert (inodes s) p (Pipe [])
    inodes_first = shown ∙ ap (λ bytes. insert (inodes s) p (Pipe bytes)) empty

    descriptions_first : descriptions first ≡ descriptions s
    descriptions_first = described_so ∙ remove-absent (descriptions s) p can.pipe.description

    state_first : state_of ps first ≡ set_inode p (Pipe []) (state_of ps s)
    state_first = ap (λ m. stored ps m first.rights (descriptions first)) inodes_first ∙ ap (λ r. stored ps (insert (inodes s) p (Pipe [])) r (descriptions first)) (ap (λ (t : Numbers). t.rights) installed) ∙ ap (stored ps (insert (inodes s) p (Pipe [])) s.rights) descriptions_first

    not_pipe : {X : Type 0} (object : Object) → object_at first p ≡ Some object → (A_pipe pipe ≡ object → X) → X
    not_pipe object shows so = so (some_same (A_pipe pipe) object (sym (ap held here) ∙ shows))

    as_before : (m : ℕ) → m ≢ p → object_at first m ≡ object_at s m
    as_before m away = ap held (there m away)

    file_is_pipe : (file : OpenFile) → A_pipe pipe ≡ A_file file → ⊥
    file_is_pipe file same = subst is_pipe same tt
      where
        is_pipe : Object → Type 0
        is_pipe (A_pipe x) = ⊤
        is_pipe _ = ⊥

    opened_is_pipe : (opened : Opened) → A_pipe pipe ≡ A_description opened → ⊥
    opened_is_pipe opened same = subst is_pipe same tt
      where
        is_pipe : Object → Type 0
        is_pipe (A_pipe x) = ⊤
        is_pipe _ = ⊥

    the_pipe : (x : OpenPipe) → object_at first p ≡ Some (A_pipe x) → pipe ≡ x
    the_pipe x shows = object_eq pipe x (sym (ap held here) ∙ shows)

    counted_first : AreCounted ps first
    counted_first = record {
      openings = λ n file shows. elim (cases_eq n p) [
        | inl same ↦ absurd (not_pipe (A_file file) (ap (object_at first) (sym same) ∙ shows) (file_is_pipe file))
        | inr away ↦ sound.counted.openings n file (sym (as_before n away) ∙ shows) ∙ sym (openings_change_lem.by_descriptions (state_of ps s) (state_of ps first) descriptions_first n)
      ];
      holders = λ d opened shows. elim (cases_eq d p) [
        | inl same ↦ absurd (not_pipe (A_description opened) (ap (object_at first) (sym same) ∙ shows) (opened_is_pipe opened))
        | inr away ↦ sound.counted.holders d opened (sym (as_before d away) ∙ shows) ∙ sym (openings_change_lem.by_processes (state_of ps s) (state_of ps first) refl d)
      ];
      pipes = λ q x shows. subst (λ m. ArePair m q x.reader x.writer) (sym descriptions_first) (elim (cases_eq q p) [
        | inl same ↦ subst (λ n. ArePair (descriptions s) n x.reader x.writer) (sym same) (pipes_keep_their_ends_lem.none (state_of ps s) p x.reader x.writer sound.well (ap (mapped Rattle.model.specs.State.kind) can.pipe.inode))
        | inr away ↦ sound.counted.pipes q x (sym (as_before q away) ∙ shows)
      ]);
    }

    abbrev to_be_read : Description
    to_be_read = at_start p to_read

    abbrev to_be_written : Description
    to_be_written = at_start p to_write

    pub writer_still : (t : Numbers) → IsReopened r (New (at_start p to_read)) first t → get t.places w ≡ Some (coming Nothing)
    writer_still t opened = opened.places w writer_comes ends_away

    module _ (t u : Numbers) (opened : IsReopened r (New (at_start p to_read)) first t) (again : IsReopened w (New (at_start p to_write)) t u) where
      reader_end : IsEndHere first r (at_start p to_read)
      reader_end x shows =
          let so : pipe ≡ x = the_pipe x shows in
          ((λ yes. sym reads ∙ ap (λ (y : OpenPipe). y.reader) so), (λ yes. cc), inl (sym reads ∙ ap (λ (y : OpenPipe). y.reader) so))

      writer_end : IsEndHere t w (at_start p to_write)
      writer_end x shows =
          let so : pipe ≡ x = the_pipe x (opened.pipes p x shows) in
          ((λ yes. cc), (λ yes. sym writes ∙ ap (λ (y : OpenPipe). y.writer) so), inr (sym writes ∙ ap (λ (y : OpenPipe). y.writer) so))

      described : (n : ℕ) (it : Description) (x y : Numbers) → IsReopened n (New it) x y → descriptions y ≡ insert (descriptions x) n it
      described n it x y made = same_map nat_cmp_total nat_cmp-IsAntisymmetric _ _ (λ q. elim (cases_eq q n) [
        | inl same ↦ ap (get (descriptions y)) same ∙ made.here ∙ sym (get_same (descriptions x) n it) ∙ sym (ap (get (insert (descriptions x) n it)) same)
        | inr away ↦ made.others q away ∙ sym (get_other (descriptions x) n q it away)
      ])

      state_described : (n : ℕ) (it : Description) (x y : Numbers) → IsReopened n (New it) x y → state_of ps y ≡ set_description n it (state_of ps x)
      state_described n it x y made = ap (λ m. stored ps m y.rights (descriptions y)) made.same.inodes ∙ ap (λ r. stored ps (inodes x) r (descriptions y)) made.same.rights ∙ ap (stored ps (inodes x) x.rights) (described n it x y made)

      counted_opened : AreCounted ps t
      counted_opened = opened.counted ps counted_first (λ new. openings_change_lem.by_processes (state_of ps s) (state_of ps first) refl r ∙ unheld_reader) (λ it new. subst (IsEndHere first r) (new_is (at_start p to_read) it new) reader_end)
        where
          new_is : (a b : Description) → New a ≡ New b → a ≡ b
          new_is a b same = ap (or_new' a) same
            where
              or_new' : Description → Rattle.notes.specs.declared.opening.Opening.Opening → Description
              or_new' x (New y) = y
              or_new' x _ = x

      counted_both : AreCounted ps u
      counted_both = again.counted ps counted_opened (λ new. openings_change_lem.by_processes (state_of ps s) (state_of ps t) refl w ∙ unheld_writer) (λ it new. subst (IsEndHere t w) (new_is (at_start p to_write) it new) writer_end)
        where
          new_is : (a b : Description) → New a ≡ New b → a ≡ b
          new_is a b same = ap (or_new' a) same
            where
              or_new' : Description → Rattle.notes.specs.declared.opening.Opening.Opening → Description
              or_new' x (New y) = y
              or_new' x _ = x

      module _ (qs rs : Processes) (a b : Numbers) (laid : IsSlotted pid f (Some r) ps qs u a) (later : IsSlotted pid g (Some w) qs rs a b) where
        makes : applied (p ∷ r ∷ w ∷ []) (Make_pipe 0 pid f g) (state_of ps s) ≡ open_at w p to_write pid g (open_at r p to_read pid f (set_inode p (Pipe []) (state_of ps s)))
        unfolding applied
        makes = refl

        state_now : state_of rs b ≡ applied (p ∷ r ∷ w ∷ []) (Make_pipe 0 pid f g) (state_of ps s)
        state_now =
            slotted_state qs rs a b pid g (Some w) later
            ∙ ap (λ x. set_process pid (with_slot g w (process_of x pid)) x) (slotted_state ps qs u a pid f (Some r) laid
            ∙ ap (λ x. set_process pid (with_slot f r (process_of x pid)) x) (state_described w (at_start p to_write) t u again
            ∙ ap (set_description w (at_start p to_write)) (state_described r (at_start p to_read) first t opened ∙ ap (set_description r (at_start p to_read)) state_first)))
            ∙ sym makes

        pub piping_made : IsMade ps rs s b (p ∷ r ∷ w ∷ []) (Make_pipe 0 pid f g)
        piping_made = record {
          root = later.stay.same.root ∙ laid.stay.same.root ∙ again.same.root ∙ opened.same.root ∙ root_first;
          state = state_now;
          staged = later.stay.same.staged (laid.stay.same.staged (again.same.staged (opened.same.staged staged_first)));
          counted = later.stay.counted (laid.stay.low (sound_low ps s sound)) (laid.stay.counted (sound_low ps s sound) counted_both);
        }

        freed : Frees (λ k. k) rs b b
        freed = frees_nothing rs b (made_holds ps rs s b (p ∷ r ∷ w ∷ []) e sound can piping_made)

        tidies : applied (p ∷ r ∷ w ∷ []) (Make_pipe 0 pid f g) (state_of ps s) ≡ tidy (applied (p ∷ r ∷ w ∷ []) (Make_pipe 0 pid f g) (state_of ps s))
        tidies = sym (tidy_after ps s (p ∷ r ∷ w ∷ []) e sound can refl)

        pub piping_sound : Sound rs b
        piping_sound = freed_sound ps rs s b (p ∷ r ∷ w ∷ []) e sound can piping_made (λ k. k) tidies b freed

        pub piping_state : state_of rs b ≡ tidy (applied (p ∷ r ∷ w ∷ []) (Make_pipe 0 pid f g) v.state)
        piping_state = state_is ps rs s v is (state_of rs b) (λ k. tidy (applied (p ∷ r ∷ w ∷ []) (Make_pipe 0 pid f g) k))
            (freed_state ps rs s b (p ∷ r ∷ w ∷ []) e sound can piping_made (λ k. k) tidies b freed)

        -- what is kept of a number
        slots_keep : (m : ℕ) → get (reserves_of b) m ≡ get (reserves_of u) m
        slots_keep m = later.stay.reserves m ∙ laid.stay.reserves m

        was : (m : ℕ) → get s.places m ≡ Some (coming Nothing) → get (reserves_of s) m ≡ Some (record { coming = true; promised = None })
        was m come = reserve_at s m ∙ ap (option_and_then reserve_in) come

        first_was : (m : ℕ) → m ≢ p → get (reserves_of first) m ≡ get (reserves_of s) m
        first_was m away = reserve_at first m ∙ ap (option_and_then reserve_in) (there m away) ∙ sym (reserve_at s m)

        at_pipe : get (reserves_of b) p ≡ Some (record { coming = false; promised = None })
        at_pipe = slots_keep p ∙ again.reserves p (λ same. writer_away (sym same)) ∙ opened.reserves p (λ same. reader_away (sym same)) ∙ reserve_at first p ∙ ap (option_and_then reserve_in) here

        at_reader : get (reserves_of b) r ≡ Some (record { coming = false; promised = None })
        at_reader = slots_keep r ∙ again.reserves r (λ same. ends_away (sym same)) ∙ opened.reserve ∙ ap settled (first_was r reader_away ∙ was r reader_to_come)

        at_writer : get (reserves_of b) w ≡ Some (record { coming = false; promised = None })
        at_writer = slots_keep w ∙ again.reserve ∙ ap settled (opened.reserves w ends_away ∙ first_was w writer_away ∙ was w writer_to_come)

        elsewhere : (m : ℕ) → m ≢ p → m ≢ r → m ≢ w → get (reserves_of b) m ≡ get (reserves_of s) m
        elsewhere m a b c = slots_keep m ∙ again.reserves m c ∙ opened.reserves m b ∙ first_was m a

        -- one of the three
        settles : (n : ℕ) → get s.places n ≡ Some (coming Nothing) → get (reserves_of b) n ≡ Some (record { coming = false; promised = None }) → as_one p n + (as_one r n + (as_one w n + 0)) ≡ 1
            → (c : Claim) → number_of c ≡ n → kept_in b c + claimed_by_one c (p ∷ r ∷ w ∷ []) (Make_pipe 0 pid f g) ≡ kept_in s c
        settles n come now one c same =
            let after : kept_in b c ≡ met_by c (Some (record { coming = false; promised = None })) = kept_met b c ∙ ap (λ m. met_by c (get (reserves_of b) m)) same ∙ ap (met_by c) now in
            let before : kept_in s c ≡ met_by c (Some (record { coming = true; promised = None })) = kept_met s c ∙ ap (λ m. met_by c (get (reserves_of s) m)) same ∙ ap (met_by c) (was n come) in
            let step : met_by c (Some (record { coming = false; promised = None })) + claimed_by_one c (p ∷ r ∷ w ∷ []) (Make_pipe 0 pid f g) ≡ met_by c (Some (record { coming = true; promised = None })) = by_claim c same in
            omega arith
          where
            by_claim : (c : Claim) → number_of c ≡ n → met_by c (Some (record { coming = false; promised = None })) + claimed_by_one c (p ∷ r ∷ w ∷ []) (Make_pipe 0 pid f g) ≡ met_by c (Some (record { coming = true; promised = None }))
            by_claim (Room m) same = refl
            by_claim (New_directory m) same = refl
            by_claim (Number m) same =
                let all : times m (p ∷ r ∷ w ∷ []) ≡ as_one p m + (as_one r m + (as_one w m + 0)) = three_is m p r w in
                let it : as_one p m + (as_one r m + (as_one w m + 0)) ≡ 1 = subst (λ x. as_one p x + (as_one r x + (as_one w x + 0)) ≡ 1) (sym same) one in
                let count : 0 + times m (p ∷ r ∷ w ∷ []) ≡ 1 = omega arith in count

        pub piping_kept : (c : Claim) → kept_in b c + claimed_by_one c (p ∷ r ∷ w ∷ []) (Make_pipe 0 pid f g) ≡ kept_in s c
        piping_kept c = elim (cases_eq (number_of c) p) [
          | inl same ↦ settles p pipe_to_come at_pipe (let few : as_one p p + (as_one r p + (as_one w p + 0)) ≤ 1 = only_one p pipe_to_come in let one : as_one p p ≡ 1 = one_here p p refl in omega arith) c same
          | inr not_pipe ↦ elim (cases_eq (number_of c) r) [
            | inl same ↦ settles r reader_to_come at_reader (let few : as_one p r + (as_one r r + (as_one w r + 0)) ≤ 1 = only_one r reader_to_come in let one : as_one r r ≡ 1 = one_here r r refl in omega arith) c same
            | inr not_reader ↦ elim (cases_eq (number_of c) w) [
              | inl same ↦ settles w writer_to_come at_writer (let few : as_one p w + (as_one r w + (as_one w w + 0)) ≤ 1 = only_one w writer_to_come in let one : as_one w w ≡ 1 = one_here w w refl in omega arith) c same
              | inr not_writer ↦ (
                  let same : kept_in b c ≡ kept_in s c = kept_met b c ∙ ap (met_by c) (elsewhere (number_of c) not_pipe not_reader not_writer) ∙ sym (kept_met s c) in
                  let none : claimed_by_one c (p ∷ r ∷ w ∷ []) (Make_pipe 0 pid f g) ≡ 0 = unclaimed c not_pipe not_reader not_writer in
                  omega arith)
            ]
          ]
        ]
          where
            unclaimed : (c : Claim) → number_of c ≢ p → number_of c ≢ r → number_of c ≢ w → claimed_by_one c (p ∷ r ∷ w ∷ []) (Make_pipe 0 pid f g) ≡ 0
            unclaimed (Room m) a b c = refl
            unclaimed (New_directory m) a b c = refl
            unclaimed (Number m) a b c =
                let all : times m (p ∷ r ∷ w ∷ []) ≡ as_one p m + (as_one r m + (as_one w m + 0)) = three_is m p r w in
                let x : as_one p m ≡ 0 = one_away p m (λ same. a (sym same)) in
                let y : as_one r m ≡ 0 = one_away r m (λ same. b (sym same)) in
                let z : as_one w m ≡ 0 = one_away w m (λ same. c (sym same)) in
                let count : times m (p ∷ r ∷ w ∷ []) ≡ 0 = omega arith in count
