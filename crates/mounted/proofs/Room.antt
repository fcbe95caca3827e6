-- What is told of requests by which a tree grows.
use Rattle.std.proofs.Common.{◌≡◌, true, refl, subst}
use Rattle.std.specs.Prelude.{Err}
use Rattle.fuse.specs.declared.errno.Errno.TheVariants as errno
use Rattle.fuse.specs.declared.reply.Reply.{Reply}
use Rattle.fuse.specs.declared.reply.Reply.TheVariants as reply
use Rattle.fuse.specs.declared.request.Operation.{Operation}
use Rattle.machine.specs.Shown.{Shown}
use Rattle.mount_requests.specs.Failures.{error}
use Rattle.mount_requests.specs.Seen.{Seen}
use Rattle.mount_requests.specs.declared.requests.Caller.{Caller}
use Rattle.mounted.specs.Room.{is_want, needs_room}
use Rattle.mounted.specs.Served.{ServesRoom, ServesTree, ToldBy}
use Rattle.mounted.specs.Served.ServesRoom.{HasRoom, IsFull, IsShort}

module _ (s : Seen) (who : Caller) (operation : Operation) where
  -- there is room, or none is needed
  pub has_room : (later : Seen) {old new : Shown} (r : Reply) → ToldBy (ServesTree s later who operation old new) r → ToldBy (ServesRoom s later who operation old new) r
  has_room later r t = record { outcome = t.outcome; served = HasRoom t.served; is = t.is }

  -- the tree is full
  pub is_full : (v : Shown) → needs_room operation ≡ true → ToldBy (ServesRoom s s who operation v v) (reply.Error errno.ENOSPC)
  is_full v needs = record { outcome = Err (error errno.ENOSPC); served = IsFull needs (refl, refl, refl); is = refl }

  -- memory was refused later, for the limit
  pub is_short : (later : Seen) {old new : Shown} (r : Reply) → needs_room operation ≡ true → is_want r ≡ true → ToldBy (ServesTree s later who operation old new) r → ToldBy (ServesRoom s later who operation old new) (reply.Error errno.ENOSPC)
  is_short later r needs want t = record {
    outcome = Err (error errno.ENOSPC);
    served = IsShort t.outcome needs (subst (λ (a : Reply). is_want a ≡ true) t.is want) t.served refl;
    is = refl;
  }
