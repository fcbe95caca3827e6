-- A request that was answered, by a process and states that go by other names.
use Rattle.std.proofs.Common.{◌≡◌, ℕ, sym, subst}
use Rattle.std.specs.Prelude.{Result}
use Rattle.fuse.specs.declared.reply.Reply.{Reply}
use Rattle.fuse.specs.declared.request.Operation.{Operation}
use Rattle.machine.specs.Shown.{Shown}
use Rattle.course.specs.Hands.{Held}
use Rattle.mount_requests.specs.Requests.{IsAnswered}
use Rattle.mount_requests.specs.Seen.{Seen}
use Rattle.mount_requests.specs.declared.failure.Failure.{Failure}
use Rattle.mount_requests.specs.declared.requests.Caller.{Caller}

pub answered_as : (s later : Seen) (who : Caller) (operation : Operation) (r : Result Reply Failure) {p pid : ℕ} {at old : Shown} {h k : Held} → p ≡ pid → at ≡ old → h ≡ k → IsAnswered s later p who operation at k.shown r → IsAnswered s later pid who operation old h.shown r
answered_as s later who operation r {p} {pid} {at} {old} {h} {k} is same hand answers =
    subst (λ (x : Held). IsAnswered s later pid who operation old x.shown r) (sym hand)
    (subst (λ (x : Shown). IsAnswered s later pid who operation x k.shown r) same (subst (λ (q : ℕ). IsAnswered s later q who operation at k.shown r) is answers))
