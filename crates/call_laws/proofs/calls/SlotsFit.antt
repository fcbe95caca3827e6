-- The edits of calls on slots and processes fit: close, dup, pipe, fork, exit and open.
use Rattle.std.proofs.Common.{◌≡◌, ◌≢◌, ℕ, suc, ◌+◌, ◌<◌, ◌≤◌, Bool, true, false, not, ◌&&◌, List, [], ◌∷◌, ◌++◌, get_or, if◌then◌else◌, Option, Some, None, is_some, IfOk, refl, sym, ap, subst, ◌∙◌, arith, nat_le, leb-false}
use Rattle.std.specs.List.{AllByRecursion}
use Rattle.model.specs.FiniteMap.{get}
use Rattle.model.specs.State.{A_file, A_directory, A_pipe, Kernel, File, Process, kind_of, file_of, names_of, entry_of, links, mapped}
use Rattle.model.specs.Plan.{Give, given, ◌>>=◌, ◌>>◌, answer, Measure, refuse_if, ENOENT, EEXIST, EISDIR, ELOOP, ENXIO, EBADF, EAGAIN}
use Rattle.model.specs.Walks.{Place, Last}
use Rattle.model.specs.Changes.{Mode, There, Made, Make_file, Cut, Open_inode, Share_slot, Clear_slot, End_process, marks, applied, set_inode, set_name, sized}
use Rattle.ids.specs.Flags.{is_creating, is_exclusive, is_truncating}
use Rattle.model.specs.Calls.{OpenFlags, Call, Dup2, Fork, Exit, Done, Descriptor, Slot, own}
use Rattle.model.specs.Plans.{Change, open_limit, changed, unchanged, slot_at, pipe_in, pipes_in, first_of_free, duplicated, piped, forked, opened, mode, cut_to}
use Rattle.model.specs.Steps.{IsNowhere, AllDifferent, CanBeChosen}
use Rattle.model.proofs.Laws.{append-all}
use Rattle.call_laws.specs.Objects.{IsThere}
use Rattle.call_laws.specs.WellFormed.{most_descriptors, WellFormed}
use Rattle.call_laws.specs.Fits.{FitsAll, CanShare, IsOpenSlot, IsAlive, ListsPipe, table_of}
use Rattle.call_laws.proofs.Maps.{not_none, some_same}
use Rattle.call_laws.proofs.edits.Names.{has_names, named_counted}
use Rattle.call_laws.proofs.edits.Contents.{has_bytes, no_names_file}
use Rattle.call_laws.proofs.edits.NamesAlike.{IsNew, is_new, kept_kind}
use Rattle.call_laws.proofs.edits.Tree.{set_here}
use Rattle.call_laws.proofs.calls.Rules.{allowed, IsLast, entry_place}
use Rattle.call_laws.proofs.calls.OwnSlots.{slot_in, Held, slot_at_is, number_in_slot, pipe_listed, pipes_listed, among_left, among_right, IsFreeIn, free_slot}
use Rattle.call_laws.proofs.calls.OpenSlots.{ArePipes, slot_pipes, slot_at_pipes, own_pipes}
use Rattle.call_laws.proofs.calls.WillFit.{WillFit, nowhere_at, listed_at, second_third, unused_of, nothing_given, given_there, ends_there, unchanged_fits}
use Rattle.call_laws.proofs.calls.NamesFit.{file_alone}
use Rattle.call_laws.proofs.calls.ContentsFit.{cut_there}

module _ (k : Kernel) (well : WellFormed k) (pid : ℕ) (alive : IsAlive k pid) (inside : Bool) (chosen : List ℕ) where
  abbrev Fine : Change → Type 0
  Fine = WillFit k pid inside chosen

  -- slots: a description's slot lists its pipe
  slot_listed : (f : ℕ) (s : Slot) → Held k pid f s → (d : ℕ) → get (table_of k pid) f ≡ Some d → ListsPipe k (pipe_in (Some s)) d
  slot_listed f s held d gives = subst (λ s. ListsPipe k (pipe_in (Some s)) d) (sym (held.slot ∙ ap (slot_in k) (some_same held.description d (sym held.gives ∙ gives)))) (pipe_listed k d)

  held_pipes : (f : ℕ) (s : Slot) → Held k pid f s → ArePipes k (pipe_in (Some s))
  held_pipes f s held = subst (λ s. ArePipes k (pipe_in (Some s))) (sym held.slot) (slot_pipes k held.description)

  pub close_at : (f : ℕ) (s : Slot) → Held k pid f s → Fine (record { reply = Done; edits = Clear_slot pid f (pipe_in (Some s)) ∷ [] })
  close_at f s held = record { fits = λ can. (record { alive = alive; goes = slot_listed f s held }, tt); by = (refl, tt); there = ends_there k (pipe_in (Some s)) (held_pipes f s held) }

  -- the description of a slot is held
  held_number : (f : ℕ) (s : Slot) (held : Held k pid f s) → s.description ≡ held.description
  held_number f s held = ap (λ s. s.description) held.slot ∙ number_in_slot k held.description (get k.descriptions held.description)

  share_at : (f g : ℕ) (s : Slot) (pipes : List ℕ) → Held k pid f s → g < most_descriptors k → ListsPipe k pipes s.description → ((e : ℕ) → get (table_of k pid) g ≡ Some e → ListsPipe k pipes e) → CanShare k pid g s.description pipes
  share_at f g s pipes held low comes goes = record { alive = alive; from = f; held = held.gives ∙ ap Some (sym (held_number f s held)); low = low; comes = comes; goes = goes }

  listed_here : (f : ℕ) (s : Slot) → Held k pid f s → ListsPipe k (pipe_in (Some s)) s.description
  listed_here f s held = slot_listed f s held s.description (held.gives ∙ ap Some (sym (held_number f s held)))

  pub dup_with : (f : ℕ) (call : Call) (s : Slot) → Held k pid f s → (gs : List ℕ) → AllByRecursion (IsFreeIn (own k pid call).table 0 (open_limit (own k pid call))) gs → IfOk (given k (duplicated (own k pid call) s gs)) Fine
  dup_with f call s held [] h = tt
  dup_with f call s held (g ∷ gs) h =
      let low : g < 0 + open_limit (own k pid call) = h.0.2 in record {
        fits = λ can. (share_at f g s (pipe_in (Some s)) held (omega arith) (listed_here f s held) (λ e gives. absurd (not_none e (sym gives ∙ free_slot k pid call 0 (open_limit (own k pid call)) g h.0))), tt);
        by = (refl, tt);
        there = ends_there k (pipe_in (Some s)) (held_pipes f s held);
      }

  -- the pipes that come and go are both told
  listed_there : (call : Call) (g e : ℕ) → get (table_of k pid) g ≡ Some e → ListsPipe k (pipe_in (slot_at (own k pid call) g)) e
  listed_there call g e gives = subst (λ o. ListsPipe k (pipe_in o) e) (sym (slot_at_is k pid call g ∙ ap (mapped (slot_in k)) gives)) (pipe_listed k e)

  pub dup2_at : (f g : ℕ) (s : Slot) → Held k pid f s → (b : Bool) → nat_le (open_limit (own k pid (Dup2 f g))) g ≡ b → (c : Bool)
      → IfOk (given k (refuse_if b EBADF >> (if c then unchanged (Descriptor f) else changed (Descriptor g) (Share_slot pid g s.description (pipe_in (Some s) ++ pipe_in (slot_at (own k pid (Dup2 f g)) g)) ∷ [])))) Fine
  dup2_at f g s held true is c = tt
  dup2_at f g s held false is true = unchanged_fits k pid inside chosen (Descriptor f)
  dup2_at f g s held false is false =
      let low : g < open_limit (own k pid (Dup2 f g)) = leb-false (open_limit (own k pid (Dup2 f g))) g is in
      let others : List ℕ = pipe_in (slot_at (own k pid (Dup2 f g)) g) in record {
        fits = λ can. (
          share_at f g s (pipe_in (Some s) ++ others) held (omega arith)
              (λ x gives pipe. among_left (pipe_in (Some s)) others x.inode (listed_here f s held x gives pipe))
              (λ d gives x is pipe. among_right (pipe_in (Some s)) others x.inode (listed_there (Dup2 f g) g d gives x is pipe)),
          tt,
        );
        by = (refl, tt);
        there = ends_there k (pipe_in (Some s) ++ others) (append-all (λ p. kind_of k p ≡ Some A_pipe) (pipe_in (Some s)) others (held_pipes f s held) (slot_at_pipes k pid (Dup2 f g) g));
      }

  -- a free slot, as an edit asks for it
  open_slot : (call : Call) (f : ℕ) → IsFreeIn (own k pid call).table 0 (open_limit (own k pid call)) f → IsOpenSlot k pid f
  open_slot call f h = let low : f < 0 + open_limit (own k pid call) = h.2 in record { alive = alive; free = free_slot k pid call 0 (open_limit (own k pid call)) f h; low = omega arith }

  pub pipe_with : (call : Call) (fs : List ℕ) → AllByRecursion (IsFreeIn (own k pid call).table 0 (open_limit (own k pid call))) fs → AllDifferent fs → IfOk (given k (piped (own k pid call) fs)) Fine
  pipe_with call [] h different = tt
  pipe_with call (f ∷ []) h different = tt
  pipe_with call (f ∷ g ∷ fs) h different = record {
    fits = λ can. (
      record {
        pipe = nowhere_at k chosen 0 (omega (arith, can.count)) can.unused;
        reader = unused_of k _ (nowhere_at k chosen 1 (omega (arith, can.count)) can.unused);
        writer = unused_of k _ (nowhere_at k chosen 2 (omega (arith, can.count)) can.unused);
        different = second_third chosen can.count can.different;
        slot = open_slot call f h.0;
        other = open_slot call g h.1.0;
        apart = different.0.0;
        listed = listed_at chosen 0 (omega (arith, can.count));
        reader_listed = listed_at chosen 1 (omega (arith, can.count));
        writer_listed = listed_at chosen 2 (omega (arith, can.count));
      },
      tt,
    );
    by = (refl, tt);
    there = tt;
  }

  -- the next process's number is free
  not_made : get k.processes (suc k.made) ≡ None
  not_made = by_process (get k.processes (suc k.made)) refl
    where
      by_process : (x : Option Process) → get k.processes (suc k.made) ≡ x → x ≡ None
      by_process None e = refl
      by_process (Some process) e = absurd (let more : suc k.made ≤ k.made = well.counted (suc k.made) (ap is_some e) in omega arith)

  pub fork_at : IfOk (given k (forked (own k pid Fork) (own k pid Fork).birth)) Fine
  fork_at = allowed k Fine (nat_le 4096 k.made) EAGAIN _ (λ _. record {
    fits = λ can. (record { alive = alive; fresh = not_made; next = refl; shared = pipes_listed k pid Fork }, tt);
    by = (refl, tt);
    there = ends_there k (pipes_in (own k pid Fork)) (own_pipes k pid Fork);
  })

  pub exit_at : inside ≡ false → Fine (record { reply = Done; edits = End_process pid (pipes_in (own k pid Exit)) ∷ [] })
  exit_at out = record {
    fits = λ can. (record { alive = alive; shared = pipes_listed k pid Exit }, tt);
    by = ((refl, out), tt);
    there = ends_there k (pipes_in (own k pid Exit)) (own_pipes k pid Exit);
  }

  -- a file that open makes
  open_new : (call : Call) (how : Mode) (f : ℕ) (at : Last) → IsFreeIn (own k pid call).table 0 (open_limit (own k pid call)) f → IsLast k at → entry_of k at.parent at.name ≡ None
      → Fine (record { reply = Descriptor f; edits = Make_file at.parent at.name 0 ∷ Open_inode 1 (Made 0) how pid f ∷ [] })
  unfolding applied
  open_new call how f at is_free last none = record { fits = both; by = (tt, (refl, tt)); there = (last.parent.directory, tt) }
    where
      both : CanBeChosen k (Make_file at.parent at.name 0 ∷ Open_inode 1 (Made 0) how pid f ∷ []) chosen → FitsAll chosen k (Make_file at.parent at.name 0 ∷ Open_inode 1 (Made 0) how pid f ∷ [])
      both can =
          let n : ℕ = get_or chosen 0 0 in
          let nowhere : IsNowhere k (get_or chosen 0 0) = nowhere_at k chosen 0 (omega (arith, can.count)) can.unused in
          let other : IsNowhere k (get_or chosen 1 0) = nowhere_at k chosen 1 (omega (arith, can.count)) can.unused in
          let new : IsNew k (set_inode (get_or chosen 0 0) (File []) k) (get_or chosen 0 0) A_file = is_new k (get_or chosen 0 0) (File []) nowhere.inode refl refl refl in
          let is : kind_of (set_inode (get_or chosen 0 0) (File []) k) at.parent ≡ Some A_directory = kept_kind k (get_or chosen 0 0) at.parent (File []) A_directory nowhere.inode last.parent.directory in
          let slot : IsOpenSlot k pid f = open_slot call f is_free in
          let some : 0 < links (set_name at.parent at.name (get_or chosen 0 0) (set_inode (get_or chosen 0 0) (File []) k)) (get_or chosen 0 0) =
          named_counted (set_name at.parent at.name (get_or chosen 0 0) (set_inode (get_or chosen 0 0) (File []) k)) at.parent at.name (get_or chosen 0 0) (set_here (set_inode (get_or chosen 0 0) (File []) k) at.parent at.name (get_or chosen 0 0) is) in (
            (record { parent = last.parent; free = nothing_given k _ none }, nowhere, listed_at chosen 0 (omega (arith, can.count))),
            (
              record {
                unused = record { description = other.description; unheld = other.unheld };
                listed = listed_at chosen 1 (omega (arith, can.count));
                kind = (has_names (set_inode (get_or chosen 0 0) (File []) k) at.parent _ is).kinds (get_or chosen 0 0) ∙ new.here;
                named = λ zero_links. absurd (omega arith);
                slot = record { alive = slot.alive; free = slot.free; low = slot.low };
              },
              tt,
            ),
          )

  -- a file that is there, cut first where the flags say so
  open_old : (call : Call) (how : Mode) (f n : ℕ) → IsFreeIn (own k pid call).table 0 (open_limit (own k pid call)) f → kind_of k n ≡ Some A_file → links k n ≢ 0
      → (b : Bool) → IfOk (given k ((if b then cut_to n 0 else Give []) >>= (λ cut. changed (Descriptor f) (cut ++ Open_inode 0 (There n) how pid f ∷ [])))) Fine
  unfolding applied
  open_old call how f n is_free is named false = record {
    fits = λ can. (
      record {
        unused = unused_of k _ (nowhere_at k chosen 0 (omega (arith, can.count)) can.unused);
        listed = listed_at chosen 0 (omega (arith, can.count));
        kind = is;
        named = named;
        slot = open_slot call f is_free;
      },
      tt,
    );
    by = (refl, tt);
    there = tt;
  }
  open_old call how f n is_free is named true =
      let has = has_bytes k n (File (sized 0 (file_of k n))) (sym is) refl (no_names_file _ is) in
      let slot : IsOpenSlot k pid f = open_slot call f is_free in record {
        fits = λ can.
            let other : IsNowhere k (get_or chosen 0 0) = nowhere_at k chosen 0 (omega (arith, can.count)) can.unused in (
              (is, refl),
              (
                record {
                  unused = record { description = other.description; unheld = other.unheld };
                  listed = listed_at chosen 0 (omega (arith, can.count));
                  kind = has.kinds n ∙ is;
                  named = λ none. named (sym (has.links n) ∙ none);
                  slot = record { alive = slot.alive; free = slot.free; low = slot.low };
                },
                tt,
              ),
            );
        by = (tt, (refl, tt));
        there = append-all (IsThere k) (marks (Cut n (answer k (Measure n)) 0)) [] (cut_there k well pid alive inside chosen n (answer k (Measure n)) 0 is) tt;
      }

  pub open_at_last : (call : Call) (flags : OpenFlags) (f : ℕ) (at : Last) → IsFreeIn (own k pid call).table 0 (open_limit (own k pid call)) f → IsLast k at
      → (o : Option Place) → at.found ≡ o → IfOk (given k (opened (own k pid call) flags f at o)) Fine
  open_at_last call flags f at is_free last None e = allowed k Fine (not (is_creating flags)) ENOENT _ (λ _. open_new call (mode flags) f at is_free last (sym last.found ∙ e))
  open_at_last call flags f at is_free last (Some what) e =
      let there = given_there k what (get (names_of k at.parent) at.name) (sym last.found ∙ e) in
      let some : 0 < links k what.0 = named_counted k at.parent at.name what.0 there.0 in
      allowed k Fine (is_creating flags && is_exclusive flags) EEXIST _ (λ _.
      file_alone k well pid alive inside chosen Fine what EISDIR ELOOP ENXIO _ (entry_place k well at.parent at.name what (sym last.found ∙ e)) (λ file.
      open_old call (mode flags) f what.0 is_free file (λ none. absurd (omega arith)) (is_truncating flags)))

  pub first_free : (P : ℕ → Type 0) (fs : List ℕ) → AllByRecursion P fs → IfOk (given k (first_of_free fs)) P
  first_free P [] h = tt
  first_free P (f ∷ fs) h = h.0
