-- What a view notes stays in it: without that all others see the same, and behind its abort so does it.
use Rattle.std.proofs.Common.{◌≡◌, ◌≢◌, ℕ, ◌==◌, Bool, true, false, cond, not, List, [], ◌∷◌, refl, sym, ap, ◌∙◌, eq-eqb, eqb-true}
use Rattle.std.specs.List.{list_any}
use Rattle.std.proofs.lemmas.Bool.{both_ways, or_parts}
use Rattle.fuse.specs.declared.request.Time.{Time}
use Rattle.view_times.specs.declared.event.Event.{Event}
use Rattle.view_times.specs.declared.noted.Notes.{Notes}
use Rattle.view_times.specs.Events.{notes_of}
use Rattle.view_times.specs.Known.{Known, aborted, committed, freed, noted_by, put, times_of}
use Rattle.view_times.specs.Laws.{Call, NotesStayInTheirView, after, after_all, is_commit_of, is_noted_in, without}
use Rattle.view_times.specs.Laws.Call.{Happens, Commits, Aborts, Frees}
use Rattle.view_times.specs.Noted.{behind, merged, nothing}
use Rattle.view_times.proofs.Calls.{is_no_commit, is_plain_note, is_view_commit, is_view_note, stays, view_commit, view_note}
use Rattle.view_times.proofs.Puts.{put_again, put_alike, put_other, put_swap, same_known}

-- nothing, of any inode
abbrev none : ℕ → Notes
none inode = nothing

apart : (at view : ℕ) → (at == view) ≡ false → at ≢ view
apart at view differ same = both_ways (at == view) differ (eq-eqb at view same)

-- what gives nothing at one place, at another
given : (f : ℕ → ℕ → Notes) (view at q : ℕ) → at ≢ view → put view none f at q ≡ f at q
given f view at q away = ap (λ (g : ℕ → Notes). g q) (put_other view none f at away)

module _ (view : ℕ) (live : view ≢ 0) where
  -- ---- a call that notes nothing in the view, and does not commit it

  module _ (k : Known) (at inode : ℕ) (event : Event) (now : Time) (away : at ≢ view) where
    abbrev whole : Known
    whole = aborted k view

    -- what a transaction notes, where another one is aborted before it or behind it
    note_swap : (v q : ℕ) → (aborted (view_note k at inode event now) view).noted v q ≡ (view_note whole at inode event now).noted v q
    note_swap v q =
        ap (λ (g : ℕ → Notes). g q) (put_swap view at none (put inode (behind (notes_of event now) (k.noted at inode)) (k.noted at)) k.noted (λ same. away (sym same)) v)
        ∙ ap (λ (g : ℕ → Notes). put at (put inode (behind (notes_of event now) (g inode)) g) whole.noted v q) (sym (put_other view none k.noted at away))

    note_commutes : aborted (noted_by k at inode event now) view ≡ noted_by whole at inode event now
    note_commutes = by (at == 0) refl
      where
        by : (b : Bool) → (at == 0) ≡ b → aborted (noted_by k at inode event now) view ≡ noted_by whole at inode event now
        by true plain = ap (λ (j : Known). aborted j view) (is_plain_note k at inode event now plain) ∙ sym (is_plain_note whole at inode event now plain)
        by false other =
            ap (λ (j : Known). aborted j view) (is_view_note k at inode event now other)
            ∙ same_known (aborted (view_note k at inode event now) view) (view_note whole at inode event now) (λ q. refl) note_swap
            ∙ sym (is_view_note whole at inode event now other)

  commit_commutes : (k : Known) (at : ℕ) → at ≢ view → aborted (committed k at) view ≡ committed (aborted k view) at
  commit_commutes k at away = by (at == 0) refl
    where
      swapped : aborted (view_commit k at) view ≡ view_commit (aborted k view) at
      swapped = same_known (aborted (view_commit k at) view) (view_commit (aborted k view) at)
          (λ q. ap (λ (n : Notes). merged n (k.everybody q)) (sym (given k.noted view at q away)))
          (λ v q. ap (λ (g : ℕ → Notes). g q) (put_swap view at none none k.noted (λ same. away (sym same)) v))

      by : (b : Bool) → (at == 0) ≡ b → aborted (committed k at) view ≡ committed (aborted k view) at
      by true plain = ap (λ (j : Known). aborted j view) (is_no_commit k at plain) ∙ sym (is_no_commit (aborted k view) at plain)
      by false other = ap (λ (j : Known). aborted j view) (is_view_commit k at other) ∙ swapped ∙ sym (is_view_commit (aborted k view) at other)

  abort_commutes : (k : Known) (at : ℕ) → aborted (aborted k at) view ≡ aborted (aborted k view) at
  abort_commutes k at = same_known (aborted (aborted k at) view) (aborted (aborted k view) at) (λ q. refl)
      (λ v q. ap (λ (g : ℕ → Notes). g q) (put_alike view at none k.noted v))

  free_commutes : (k : Known) (inode : ℕ) → aborted (freed k inode) view ≡ freed (aborted k view) inode
  free_commutes k inode = same_known (aborted (freed k inode) view) (freed (aborted k view) inode) (λ q. refl) (λ v q. by (view == v) v q)
    where
      gone : (b : Bool) → nothing ≡ cond b nothing nothing
      gone true = refl
      gone false = refl

      by : (b : Bool) (v q : ℕ) → cond b none (put inode nothing (k.noted v)) q ≡ put inode nothing (cond b none (k.noted v)) q
      by true v q = gone (inode == q)
      by false v q = refl

  commutes : (k : Known) (call : Call) → is_noted_in view call ≡ false → is_commit_of view call ≡ false → aborted (after k call) view ≡ after (aborted k view) call
  commutes k (Happens at inode event now) noted commit = note_commutes k at inode event now (apart at view noted)
  commutes k (Commits at) noted commit = commit_commutes k at (apart at view commit)
  commutes k (Aborts at) noted commit = abort_commutes k at
  commutes k (Frees inode) noted commit = free_commutes k inode

  -- ---- a call that notes something in the view

  note_gone : (k : Known) (inode : ℕ) (event : Event) (now : Time) → aborted (noted_by k view inode event now) view ≡ aborted k view
  note_gone k inode event now =
      ap (λ (j : Known). aborted j view) (is_view_note k view inode event now (live_test (view == 0) refl))
      ∙ same_known (aborted (view_note k view inode event now) view) (aborted k view) (λ q. refl)
      (λ v q. ap (λ (g : ℕ → Notes). g q) (put_again view none (put inode (behind (notes_of event now) (k.noted view inode)) (k.noted view)) k.noted v))
    where
      live_test : (b : Bool) → (view == 0) ≡ b → (view == 0) ≡ false
      live_test true e = absurd (live (eqb-true view 0 e))
      live_test false e = e

  gone : (k : Known) (call : Call) → is_noted_in view call ≡ true → aborted (after k call) view ≡ aborted k view
  gone k (Happens at inode event now) noted =
      ap (λ (v : ℕ). aborted (noted_by k v inode event now) view) (eqb-true at view noted) ∙ note_gone k inode event now
  gone k (Commits at) noted = absurd cc
  gone k (Aborts at) noted = absurd cc
  gone k (Frees inode) noted = absurd cc

  -- ---- any calls

  abbrev NoneCommits : List Call → Type 0
  NoneCommits calls = list_any (is_commit_of view) calls ≡ false

  first_none : (call : Call) (calls : List Call) → NoneCommits (call ∷ calls) → (is_commit_of view call ≡ false) × NoneCommits calls
  first_none call calls uncommitted = or_parts (is_commit_of view call) (list_any (is_commit_of view) calls) uncommitted

  -- one call first, and the others then
  one_undone : (k : Known) (call : Call) (calls : List Call) → aborted (after_all (after k call) calls) view ≡ after_all (aborted (after k call) view) (without view calls) → is_commit_of view call ≡ false → (b : Bool) → is_noted_in view call ≡ b → aborted (after_all (after k call) calls) view ≡ after_all (aborted k view) (cond (not b) (call ∷ without view calls) (without view calls))
  one_undone k call calls later commit true noted = later ∙ ap (λ (j : Known). after_all j (without view calls)) (gone k call noted)
  one_undone k call calls later commit false noted = later ∙ ap (λ (j : Known). after_all j (without view calls)) (commutes k call noted commit)

  -- behind an abort all is as it would be without these notes, from a state without what was noted before
  all_undone : (k : Known) (calls : List Call) → NoneCommits calls → aborted (after_all k calls) view ≡ after_all (aborted k view) (without view calls)
  all_undone k [] uncommitted = refl
  all_undone k (call ∷ calls) uncommitted =
      let parts = first_none call calls uncommitted in
      one_undone k call calls (all_undone (after k call) calls parts.1) parts.0 (is_noted_in view call) refl

  -- and so where these notes are left out from the beginning
  one_without : (k : Known) (call : Call) (calls : List Call) → ((j : Known) → aborted (after_all j (without view calls)) view ≡ after_all (aborted j view) (without view calls)) → is_commit_of view call ≡ false → (b : Bool) → is_noted_in view call ≡ b → aborted (after_all k (cond (not b) (call ∷ without view calls) (without view calls))) view ≡ after_all (aborted k view) (cond (not b) (call ∷ without view calls) (without view calls))
  one_without k call calls later commit true noted = later k
  one_without k call calls later commit false noted = later (after k call) ∙ ap (λ (j : Known). after_all j (without view calls)) (commutes k call noted commit)

  without_undone : (k : Known) (calls : List Call) → NoneCommits calls → aborted (after_all k (without view calls)) view ≡ after_all (aborted k view) (without view calls)
  without_undone k [] uncommitted = refl
  without_undone k (call ∷ calls) uncommitted =
      let parts = first_none call calls uncommitted in
      one_without k call calls (λ j. without_undone j calls parts.1) parts.0 (is_noted_in view call) refl

  pub undone : (k : Known) (calls : List Call) → NoneCommits calls → aborted (after_all k calls) view ≡ aborted (after_all k (without view calls)) view
  undone k calls uncommitted = all_undone k calls uncommitted ∙ sym (without_undone k calls uncommitted)

  pub unseen : (k : Known) (calls : List Call) (other inode : ℕ) → NoneCommits calls → other ≢ view → times_of (after_all k calls) other inode ≡ times_of (after_all k (without view calls)) other inode
  unseen k calls other inode uncommitted away =
      sym (stays (after_all k calls) view other inode away)
      ∙ ap (λ (j : Known). times_of j other inode) (undone k calls uncommitted)
      ∙ stays (after_all k (without view calls)) view other inode away

  -- nothing was noted before
  nothing_gone : (k : Known) → ((inode : ℕ) → k.noted view inode ≡ nothing) → aborted k view ≡ k
  nothing_gone k before = same_known (aborted k view) k (λ q. refl) (λ v q. by v q (view == v) refl)
    where
      by : (v q : ℕ) (b : Bool) → (view == v) ≡ b → cond b none (k.noted v) q ≡ k.noted v q
      by v q true same = sym (before q) ∙ ap (λ (n : ℕ). k.noted n q) (eqb-true view v same)
      by v q false differ = refl

  pub never : (k : Known) (calls : List Call) → NoneCommits calls → ((inode : ℕ) → k.noted view inode ≡ nothing) → aborted (after_all k calls) view ≡ after_all k (without view calls)
  never k calls uncommitted before = all_undone k calls uncommitted ∙ ap (λ (j : Known). after_all j (without view calls)) (nothing_gone k before)

pub notes_stay_in_their_view : NotesStayInTheirView
notes_stay_in_their_view = record {
  unseen = λ k view calls other inode live uncommitted away. unseen view live k calls other inode uncommitted away;
  undone = λ k view calls live uncommitted. undone view live k calls uncommitted;
  never = λ k view calls live uncommitted before. never view live k calls uncommitted before;
}
