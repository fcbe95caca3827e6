-- What each view sees behind each call, and behind any calls.
use Rattle.std.specs.Prelude.{◌≡◌, ◌≢◌, ℕ, ◌==◌, Bool, false, not, List, [], ◌∷◌}
use Rattle.std.specs.List.{filter, list_any}
use Rattle.fuse.specs.declared.request.Time.{Time}
use Rattle.view_times.specs.declared.event.Event.{Event}
use Rattle.view_times.specs.Events.{notes_of}
use Rattle.view_times.specs.Known.{Known, aborted, committed, freed, noted_by, times_of}
use Rattle.view_times.specs.Noted.{merged, nothing, over}
use Rattle.view_times.specs.Times.{first_times}

-- Behind each call the times of each inode, in each view.
pub record CallsTellTimes : Type 0 where
  -- the view of an event sees it, over what it saw
  pub sees : (k : Known) (view inode : ℕ) (event : Event) (now : Time)
      → times_of (noted_by k view inode event now) view inode
      ≡ over (notes_of event now) (times_of k view inode)
  -- no other one sees what is noted in a transaction
  pub unseen : (k : Known) (view inode : ℕ) (event : Event) (now : Time) (other any : ℕ)
      → view ≢ 0 → other ≢ view
      → times_of (noted_by k view inode event now) other any ≡ times_of k other any
  -- of what happens in the plain tree a transaction sees each time of which it has noted nothing
  pub shown : (k : Known) (inode : ℕ) (event : Event) (now : Time) (view : ℕ) → view ≢ 0
      → times_of (noted_by k 0 inode event now) view inode
      ≡ over (k.noted view inode) (over (notes_of event now) (k.everybody inode))
  -- nothing changes of another inode
  pub apart : (k : Known) (view inode : ℕ) (event : Event) (now : Time) (other any : ℕ)
      → any ≢ inode → times_of (noted_by k view inode event now) other any ≡ times_of k other any
  -- behind a commit the plain tree sees what was noted, merged, and the view sees what that does
  pub commits : (k : Known) (view inode : ℕ) → view ≢ 0
      → times_of (committed k view) 0 inode ≡ merged (k.noted view inode) (times_of k 0 inode)
  pub ends : (k : Known) (view inode : ℕ)
      → times_of (committed k view) view inode ≡ times_of (committed k view) 0 inode
  -- another transaction sees of it each time of which it has noted nothing
  pub spreads : (k : Known) (view inode other : ℕ) → view ≢ 0 → other ≢ 0 → other ≢ view
      → times_of (committed k view) other inode
      ≡ over (k.noted other inode) (merged (k.noted view inode) (times_of k 0 inode))
  -- behind an abort the view sees what the plain tree does, and others what they saw
  pub aborts : (k : Known) (view inode : ℕ)
      → times_of (aborted k view) view inode ≡ times_of k 0 inode
  pub stays : (k : Known) (view other inode : ℕ) → other ≢ view
      → times_of (aborted k view) other inode ≡ times_of k other inode
  -- of an inode that is gone nothing is known, and of another one what was
  pub frees : (k : Known) (inode view : ℕ) → times_of (freed k inode) view inode ≡ first_times
  pub keeps : (k : Known) (inode view any : ℕ) → any ≢ inode
      → times_of (freed k inode) view any ≡ times_of k view any

-- ---- any calls

-- a call that changes what is known
pub data Call : Type 0 where
  Happens : (view inode : ℕ) (event : Event) (now : Time) → Call
  Commits : (view : ℕ) → Call
  Aborts : (view : ℕ) → Call
  Frees : (inode : ℕ) → Call

abbrev pub after : Known → Call → Known
after k (Happens view inode event now) = noted_by k view inode event now
after k (Commits view) = committed k view
after k (Aborts view) = aborted k view
after k (Frees inode) = freed k inode

-- one call after the other
abbrev pub after_all : Known → List Call → Known
after_all k [] = k
after_all k (call ∷ calls) = after_all (after k call) calls

-- whether it notes something in this view
abbrev pub is_noted_in : ℕ → Call → Bool
is_noted_in view (Happens at inode event now) = at == view
is_noted_in view (Commits at) = false
is_noted_in view (Aborts at) = false
is_noted_in view (Frees inode) = false

-- whether it commits this view
abbrev pub is_commit_of : ℕ → Call → Bool
is_commit_of view (Happens at inode event now) = false
is_commit_of view (Commits at) = at == view
is_commit_of view (Aborts at) = false
is_commit_of view (Frees inode) = false

-- the calls, without those that note something in this view
abbrev pub without : ℕ → List Call → List Call
without view calls = filter (λ call. not (is_noted_in view call)) calls

-- As long as the view of a transaction is not committed, what it notes changes nothing of what others
-- see, whatever else is called; behind its abort all is as it would be without that. So, where it had
-- noted nothing before these calls, all is as if it had never noted anything.
pub record NotesStayInTheirView : Type 0 where
  pub unseen : (k : Known) (view : ℕ) (calls : List Call) (other inode : ℕ) → view ≢ 0
      → list_any (is_commit_of view) calls ≡ false → other ≢ view
      → times_of (after_all k calls) other inode
      ≡ times_of (after_all k (without view calls)) other inode
  pub undone : (k : Known) (view : ℕ) (calls : List Call) → view ≢ 0
      → list_any (is_commit_of view) calls ≡ false
      → aborted (after_all k calls) view ≡ aborted (after_all k (without view calls)) view
  pub never : (k : Known) (view : ℕ) (calls : List Call) → view ≢ 0
      → list_any (is_commit_of view) calls ≡ false
      → ((inode : ℕ) → k.noted view inode ≡ nothing)
      → aborted (after_all k calls) view ≡ after_all k (without view calls)
