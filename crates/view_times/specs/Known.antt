-- What is known of times, and what each call makes of it. View 0 is the plain tree.
use Rattle.std.specs.Prelude.{ℕ, ◌==◌, if◌then◌else◌}
use Rattle.fuse.specs.declared.request.Time.{Time}
use Rattle.view_times.specs.declared.event.Event.{Event}
use Rattle.view_times.specs.declared.noted.Notes.{Notes}
use Rattle.view_times.specs.declared.times.Times.{Times}
use Rattle.view_times.specs.Events.{notes_of}
use Rattle.view_times.specs.Noted.{behind, merged, nothing, over}
use Rattle.view_times.specs.Times.{first_times}

-- the times that everybody has of each inode, and what each view has noted of each inode
pub record Known : Type 0 where
  pub everybody : ℕ → Times
  pub noted : ℕ → ℕ → Notes

-- nothing is known
abbrev pub nothing_known : Known
nothing_known = record { everybody = λ inode. first_times; noted = λ view inode. nothing }

-- The times of an inode as a view sees them: what it has noted, over what everybody has. The plain tree
-- sees what everybody has.
abbrev pub times_of : Known → ℕ → ℕ → Times
times_of k view inode =
    if view == 0 then k.everybody inode else over (k.noted view inode) (k.everybody inode)

-- a function that gives this at one number, and else what it gave
abbrev pub put : {X : Type 0} → ℕ → X → (ℕ → X) → ℕ → X
put number x f other = if number == other then x else f other

-- an event of an inode is noted in a view, or is everybody's at once
abbrev pub noted_by : Known → ℕ → ℕ → Event → Time → Known
noted_by k view inode event now =
    if view == 0 then record k {
      everybody = put inode (over (notes_of event now) (k.everybody inode)) k.everybody;
    }
    else record k {
      noted = put view
          (put inode (behind (notes_of event now) (k.noted view inode)) (k.noted view)) k.noted;
    }

-- a view has noted nothing any more
abbrev pub aborted : Known → ℕ → Known
aborted k view = record k { noted = put view (λ inode. nothing) k.noted }

-- and what it had noted is everybody's
abbrev pub committed : Known → ℕ → Known
committed k view =
    if view == 0 then k
    else record (aborted k view) {
      everybody = λ inode. merged (k.noted view inode) (k.everybody inode);
    }

-- an inode is gone: nothing is known of it in any view
abbrev pub freed : Known → ℕ → Known
freed k inode = record {
  everybody = put inode first_times k.everybody;
  noted = λ view. put inode nothing (k.noted view);
}
