-- Which process serves a request of the plain tree.
use Rattle.std.proofs.Common.{◌≡◌, ℕ, ◌<◌, inl, inr, refl, sym, ap, subst, ◌∙◌}
use Rattle.std.specs.Prelude.{Option, Some, None, IfSome, IsErrAnd, Result, Ok, Err}
use Rattle.model.specs.FiniteMap as map
use Rattle.fuse.specs.declared.reply.Reply.{Reply}
use Rattle.fuse.specs.declared.request.Operation.{Operation}
use Rattle.machine.specs.Shown.{Shown}
use Rattle.mount_tables.specs.Processes.{HasFree}
use Rattle.mount_requests.specs.Requests.{IsAnswered}
use Rattle.mount_requests.specs.Seen.{Seen}
use Rattle.mount_requests.specs.declared.failure.Failure.{Failure}
use Rattle.mount_requests.specs.declared.requests.Caller.{Caller}
use Rattle.mounted.specs.Served.{IsHolder, IsLacking, IsReady, ServesPlain, chosen, most_descriptors}
use Rattle.mounted.specs.Served.IsHolder.{Free}
use Rattle.mounted.specs.Served.ServesPlain.{Lacking, Ready, Refused}
use Rattle.mounted.proofs.Sound.{Roles}

pub same_roles : (s : Seen) {roles : Roles} → roles ≡ s.roles → record s { roles = roles } ≡ s
same_roles s e = ap (λ (r : Roles). record s { roles = r }) e

-- a process that has a descriptor free
pub free_holder_is : (s : Seen) (pid : ℕ) {later : Seen} {roles : Roles} {found : Option ℕ} {v : Shown} {most : ℕ} → most ≡ most_descriptors v.log → IfSome found (λ p. HasFree most (map.get roles p)) → found ≡ Some pid → roles ≡ s.roles → later ≡ s → IsHolder s v pid later v
free_holder_is s pid {later} {roles} {found} {v} {most} own h is same known =
    let free = subst (λ (o : Option ℕ). IfSome o (λ p. HasFree most (map.get roles p))) is h in
    Free free.0 (sym (ap (λ (r : Roles). map.get r pid) same) ∙ free.1) (subst (λ (n : ℕ). free.0 < n) own free.2) known refl

is_err : {A : Type 0} (r : Result A Failure) {e : Failure} → IsErrAnd r (λ y. y ≡ e) → r ≡ Err e
is_err (Err y) h = ap Err h
is_err (Ok x) h = absurd h

-- no process could be had
pub without_process : (s later : Seen) (who : Caller) (operation : Operation) {e : Failure} {old new : Shown} (r : Result Reply Failure) → IsErrAnd r (λ y. y ≡ e) → chosen s who.node operation ≡ None → IsLacking s later old new e → ServesPlain s later who operation old new r
without_process s later who operation r is none (inl h) = Refused h.0 h.1 (is_err r is ∙ ap Err h.2)
without_process s later who operation r is none (inr h) = Lacking h.0 none h.1 h.2 (is_err r is ∙ ap Err h.3)

-- or the request was answered by it
pub by_process : (s known later : Seen) (who : Caller) (pid by : ℕ) (operation : Operation) {old mid at new : Shown} (r : Result Reply Failure) → by ≡ pid → at ≡ mid → IsReady (chosen s who.node operation) s old pid known mid → IsAnswered known later by who operation at new r → ServesPlain s later who operation old new r
by_process s known later who pid by operation {old} {mid} {at} {new} r is same ready h =
    Ready pid known mid ready (subst (λ (x : Shown). IsAnswered known later pid who operation x new r) same (subst (λ (p : ℕ). IsAnswered known later p who operation at new r) is h))
