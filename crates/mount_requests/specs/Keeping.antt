-- What no request about a node of a tree changes: views, and what processes are for.
use Rattle.std.specs.Prelude.{◌≡◌, ℕ, Option, Some, None, Result}
use Rattle.std.specs.Ordering.{nat_cmp}
use Rattle.model.specs.FiniteMap as map
use Rattle.fuse.specs.declared.reply.Reply.{Reply}
use Rattle.fuse.specs.declared.request.Operation.{Operation}
use Rattle.machine.specs.Shown.{Shown}
use Rattle.mount_tables.specs.declared.processes.Role.{Role}
use Rattle.mount_tables.specs.declared.processes.Role.TheVariants.{Holder, Idle, Of}
use Rattle.mount_requests.specs.Requests.{IsAnswered}
use Rattle.mount_requests.specs.Seen.{Seen}
use Rattle.mount_requests.specs.declared.failure.Failure.{Failure}
use Rattle.mount_requests.specs.declared.requests.Caller.{Caller}

-- what a process is for, however many files it has open
abbrev pub purpose : Option Role → Option Role
purpose (Some (Holder used)) = Some (Holder 0)
purpose (Some (Idle level)) = Some (Idle level)
purpose (Some (Of view)) = Some (Of view)
purpose None = None

-- each process is for what it was for
abbrev pub AreKept : map.FinMap nat_cmp Role → map.FinMap nat_cmp Role → Type 0
AreKept old new = (q : ℕ) → purpose (map.get new q) ≡ purpose (map.get old q)

-- views, their names and numbers stand, and each process is for what it was for
pub record Keeps (s later : Seen) : Type 0 where
  pub views : later.views ≡ s.views
  pub names : later.names ≡ s.names
  pub next : later.next_view ≡ s.next_view
  pub roles : AreKept s.roles later.roles

-- so it is for each request about a node, whatever it comes to
pub record RequestsKeepViews : Type 0 where
  pub keeps : (s later : Seen) (pid : ℕ) (who : Caller) (operation : Operation) (old new : Shown)
      (r : Result Reply Failure) → IsAnswered s later pid who operation old new r → Keeps s later
