-- What a request below a view does to times is seen in no other view.
use Rattle.std.specs.Prelude.{◌≡◌, ◌≢◌, ◌⊎◌, ℕ, Result}
use Rattle.fuse.specs.declared.reply.Reply.{Reply}
use Rattle.fuse.specs.declared.request.Operation.{Operation}
use Rattle.machine.specs.Shown.{Shown}
use Rattle.nodes.specs.Tables.{made}
use Rattle.view_times.specs.Known.{times_of}
use Rattle.view_times.specs.Times.{first_times}
use Rattle.mount_requests.specs.Requests.{IsAnswered}
use Rattle.mount_requests.specs.Seen.{Seen}
use Rattle.mount_requests.specs.Times.{view_at}
use Rattle.mount_requests.specs.declared.failure.Failure.{Failure}
use Rattle.mount_requests.specs.declared.requests.Caller.{Caller}

-- an object was made with this number, and nothing is known of it in this view
pub record IsUnknownIn (s later : Seen) (view inode : ℕ) : Type 0 where
  pub born : later.nodes.births ≡ (made s.nodes inode).births
  pub unknown : times_of later.times view inode ≡ first_times

-- In all views but this one each object has the times that it had, but one that was made.
abbrev pub AreApart : Seen → Seen → ℕ → Type 0
AreApart s later view = (other inode : ℕ) → other ≢ view
    → (times_of later.times other inode ≡ times_of s.times other inode)
    ⊎ IsUnknownIn s later other inode

-- so it is for each request about a node below a view, whatever it comes to
pub record RequestsKeepTimesApart : Type 0 where
  pub apart : (s later : Seen) (pid : ℕ) (who : Caller) (operation : Operation) (old new : Shown)
      (r : Result Reply Failure) → view_at s who.node ≢ 0
      → IsAnswered s later pid who operation old new r → AreApart s later (view_at s who.node)
