-- What each view sees behind each call.
use Rattle.std.proofs.Common.{◌≡◌, ◌≢◌, ℕ, ◌==◌, Bool, true, false, cond, refl, sym, ap, ◌∙◌, eqb-true, ne_eqb}
use Rattle.std.proofs.lemmas.Bool.{cond-false, cond-true}
use Rattle.fuse.specs.declared.request.Time.{Time}
use Rattle.view_times.specs.declared.event.Event.{Event}
use Rattle.view_times.specs.declared.noted.Noted.{Noted}
use Rattle.view_times.specs.declared.noted.Noted.TheVariants.{Nothing, Happened, Set}
use Rattle.view_times.specs.declared.noted.Notes.{Notes}
use Rattle.view_times.specs.declared.times.Times.{Times}
use Rattle.view_times.specs.Events.{notes_of}
use Rattle.view_times.specs.Known.{Known, aborted, committed, freed, noted_by, put, times_of}
use Rattle.view_times.specs.Laws.{CallsTellTimes}
use Rattle.view_times.specs.Noted.{behind, merged, nothing, over, time_behind, time_over}
use Rattle.view_times.specs.Times.{first_times}
use Rattle.view_times.proofs.Puts.{put_other, put_same}

-- what comes behind a note is seen over it
time_over-behind : (first second : Noted) (time : Time) → time_over (time_behind first second) time ≡ time_over first (time_over second time)
time_over-behind Nothing second time = refl
time_over-behind (Happened noted) second time = refl
time_over-behind (Set noted) second time = refl

pub over-behind : (first second : Notes) (times : Times) → over (behind first second) times ≡ over first (over second times)
over-behind first second times = λ i. record {
  accessed = time_over-behind first.accessed second.accessed times.accessed i;
  modified = time_over-behind first.modified second.modified times.modified i;
  changed = time_over-behind first.changed second.changed times.changed i;
}

-- ---- the plain tree, and a transaction

pub plain_sees : (k : Known) (view inode : ℕ) → (view == 0) ≡ true → times_of k view inode ≡ k.everybody inode
plain_sees k view inode plain = cond-true (view == 0) (k.everybody inode) (over (k.noted view inode) (k.everybody inode)) plain

pub view_sees : (k : Known) (view inode : ℕ) → (view == 0) ≡ false → times_of k view inode ≡ over (k.noted view inode) (k.everybody inode)
view_sees k view inode other = cond-false (view == 0) (k.everybody inode) (over (k.noted view inode) (k.everybody inode)) other

-- two states of which a view sees the same
same_sight : (j k : Known) (view inode : ℕ) → j.everybody inode ≡ k.everybody inode → j.noted view inode ≡ k.noted view inode → times_of j view inode ≡ times_of k view inode
same_sight j k view inode everybody noted = λ i. cond (view == 0) (everybody i) (over (noted i) (everybody i))

module _ (k : Known) (view inode : ℕ) (event : Event) (now : Time) where
  abbrev pub plain_note : Known
  plain_note = record k { everybody = put inode (over (notes_of event now) (k.everybody inode)) k.everybody }

  abbrev pub view_note : Known
  view_note = record k { noted = put view (put inode (behind (notes_of event now) (k.noted view inode)) (k.noted view)) k.noted }

  pub is_plain_note : (view == 0) ≡ true → noted_by k view inode event now ≡ plain_note
  is_plain_note plain = cond-true (view == 0) plain_note view_note plain

  pub is_view_note : (view == 0) ≡ false → noted_by k view inode event now ≡ view_note
  is_view_note other = cond-false (view == 0) plain_note view_note other

  -- the view itself
  noted_there : view_note.noted view inode ≡ behind (notes_of event now) (k.noted view inode)
  noted_there =
      ap (λ (f : ℕ → Notes). f inode) (put_same view (put inode (behind (notes_of event now) (k.noted view inode)) (k.noted view)) k.noted)
      ∙ put_same inode (behind (notes_of event now) (k.noted view inode)) (k.noted view)

  sees_by : (b : Bool) → (view == 0) ≡ b → times_of (noted_by k view inode event now) view inode ≡ over (notes_of event now) (times_of k view inode)
  sees_by true plain =
      plain_sees (noted_by k view inode event now) view inode plain
      ∙ ap (λ (j : Known). j.everybody inode) (is_plain_note plain)
      ∙ put_same inode (over (notes_of event now) (k.everybody inode)) k.everybody
      ∙ ap (over (notes_of event now)) (sym (plain_sees k view inode plain))
  sees_by false other =
      view_sees (noted_by k view inode event now) view inode other
      ∙ ap (λ (j : Known). over (j.noted view inode) (j.everybody inode)) (is_view_note other)
      ∙ ap (λ (n : Notes). over n (k.everybody inode)) noted_there
      ∙ over-behind (notes_of event now) (k.noted view inode) (k.everybody inode)
      ∙ ap (over (notes_of event now)) (sym (view_sees k view inode other))

  pub sees : times_of (noted_by k view inode event now) view inode ≡ over (notes_of event now) (times_of k view inode)
  sees = sees_by (view == 0) refl

  -- another view
  pub unseen : (other any : ℕ) → view ≢ 0 → other ≢ view → times_of (noted_by k view inode event now) other any ≡ times_of k other any
  unseen other any live away =
      ap (λ (j : Known). times_of j other any) (is_view_note (ne_eqb view 0 live))
      ∙ same_sight view_note k other any refl
      (ap (λ (f : ℕ → Notes). f any) (put_other view (put inode (behind (notes_of event now) (k.noted view inode)) (k.noted view)) k.noted other away))

  -- another inode
  noted_apart : (other any : ℕ) → any ≢ inode → view_note.noted other any ≡ k.noted other any
  noted_apart other any away = by (view == other) refl
    where
      by : (b : Bool) → (view == other) ≡ b → view_note.noted other any ≡ k.noted other any
      by true same =
          ap (λ (f : ℕ → Notes). f any) (cond-true (view == other) (put inode (behind (notes_of event now) (k.noted view inode)) (k.noted view)) (k.noted other) same)
          ∙ put_other inode (behind (notes_of event now) (k.noted view inode)) (k.noted view) any away
          ∙ ap (λ (v : ℕ). k.noted v any) (eqb-true view other same)
      by false differ =
          ap (λ (f : ℕ → Notes). f any) (cond-false (view == other) (put inode (behind (notes_of event now) (k.noted view inode)) (k.noted view)) (k.noted other) differ)

  pub apart : (other any : ℕ) → any ≢ inode → times_of (noted_by k view inode event now) other any ≡ times_of k other any
  apart other any away = by (view == 0) refl
    where
      by : (b : Bool) → (view == 0) ≡ b → times_of (noted_by k view inode event now) other any ≡ times_of k other any
      by true plain =
          ap (λ (j : Known). times_of j other any) (is_plain_note plain)
          ∙ same_sight plain_note k other any (put_other inode (over (notes_of event now) (k.everybody inode)) k.everybody any away) refl
      by false live =
          ap (λ (j : Known). times_of j other any) (is_view_note live)
          ∙ same_sight view_note k other any refl (noted_apart other any away)

-- what happens in the plain tree
pub shown : (k : Known) (inode : ℕ) (event : Event) (now : Time) (view : ℕ) → view ≢ 0 → times_of (noted_by k 0 inode event now) view inode ≡ over (k.noted view inode) (over (notes_of event now) (k.everybody inode))
shown k inode event now view live =
    view_sees (noted_by k 0 inode event now) view inode (ne_eqb view 0 live)
    ∙ ap (over (k.noted view inode)) (put_same inode (over (notes_of event now) (k.everybody inode)) k.everybody)

-- ---- commits and aborts

module _ (k : Known) (view : ℕ) where
  abbrev pub view_commit : Known
  view_commit = record (aborted k view) { everybody = λ inode. merged (k.noted view inode) (k.everybody inode) }

  pub is_view_commit : (view == 0) ≡ false → committed k view ≡ view_commit
  is_view_commit live = cond-false (view == 0) k view_commit live

  pub is_no_commit : (view == 0) ≡ true → committed k view ≡ k
  is_no_commit plain = cond-true (view == 0) k view_commit plain

  -- nothing is noted there any more
  none_noted : (inode : ℕ) → (aborted k view).noted view inode ≡ nothing
  none_noted inode = ap (λ (f : ℕ → Notes). f inode) (put_same view (λ (q : ℕ). nothing) k.noted)

  kept_noted : (other inode : ℕ) → other ≢ view → (aborted k view).noted other inode ≡ k.noted other inode
  kept_noted other inode away = ap (λ (f : ℕ → Notes). f inode) (put_other view (λ (q : ℕ). nothing) k.noted other away)

  -- so the view sees what everybody has
  sees_everybody : (j : Known) (inode : ℕ) → j.noted view inode ≡ nothing → times_of j view inode ≡ j.everybody inode
  sees_everybody j inode none = by (view == 0) refl
    where
      by : (b : Bool) → (view == 0) ≡ b → times_of j view inode ≡ j.everybody inode
      by true plain = plain_sees j view inode plain
      by false live = view_sees j view inode live ∙ ap (λ (n : Notes). over n (j.everybody inode)) none

  pub commits : (inode : ℕ) → view ≢ 0 → times_of (committed k view) 0 inode ≡ merged (k.noted view inode) (times_of k 0 inode)
  commits inode live = ap (λ (j : Known). j.everybody inode) (is_view_commit (ne_eqb view 0 live))

  pub ends : (inode : ℕ) → times_of (committed k view) view inode ≡ times_of (committed k view) 0 inode
  ends inode = by (view == 0) refl
    where
      by : (b : Bool) → (view == 0) ≡ b → times_of (committed k view) view inode ≡ times_of (committed k view) 0 inode
      by true plain = plain_sees (committed k view) view inode plain
      by false live = sees_everybody (committed k view) inode (ap (λ (j : Known). j.noted view inode) (is_view_commit live) ∙ none_noted inode)

  pub spreads : (inode other : ℕ) → view ≢ 0 → other ≢ 0 → other ≢ view → times_of (committed k view) other inode ≡ over (k.noted other inode) (merged (k.noted view inode) (times_of k 0 inode))
  spreads inode other live there away =
      ap (λ (j : Known). times_of j other inode) (is_view_commit (ne_eqb view 0 live))
      ∙ view_sees view_commit other inode (ne_eqb other 0 there)
      ∙ ap (λ (n : Notes). over n (merged (k.noted view inode) (k.everybody inode))) (kept_noted other inode away)

  pub aborts : (inode : ℕ) → times_of (aborted k view) view inode ≡ times_of k 0 inode
  aborts inode = sees_everybody (aborted k view) inode (none_noted inode)

  pub stays : (other inode : ℕ) → other ≢ view → times_of (aborted k view) other inode ≡ times_of k other inode
  stays other inode away = same_sight (aborted k view) k other inode refl (kept_noted other inode away)

-- ---- an inode that is gone

-- the first times with nothing noted
freed_sight : (b : Bool) → cond b first_times (over nothing first_times) ≡ first_times
freed_sight true = refl
freed_sight false = refl

module _ (k : Known) (inode view : ℕ) where
  pub frees : times_of (freed k inode) view inode ≡ first_times
  frees =
      (λ i. cond (view == 0) (put_same inode first_times k.everybody i) (over (put_same inode nothing (k.noted view) i) (put_same inode first_times k.everybody i)))
      ∙ freed_sight (view == 0)

  pub keeps : (any : ℕ) → any ≢ inode → times_of (freed k inode) view any ≡ times_of k view any
  keeps any away = same_sight (freed k inode) k view any (put_other inode first_times k.everybody any away) (put_other inode nothing (k.noted view) any away)

pub calls_tell_times : CallsTellTimes
calls_tell_times = record {
  sees = sees;
  unseen = unseen;
  shown = shown;
  apart = apart;
  commits = commits;
  ends = ends;
  spreads = spreads;
  aborts = aborts;
  stays = stays;
  frees = frees;
  keeps = keeps;
}
