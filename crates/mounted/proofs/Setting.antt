-- A time that is set changes nothing of what is said of views.
use Rattle.std.proofs.Common.{◌≡◌, ◌⊎◌, inl, inr, ℕ, List, subst}
use Rattle.fuse.specs.declared.request.Time.{Time}
use Rattle.ids.specs.declared.entry.Entry.{Entry}
use Rattle.course.specs.Hands.{IsSince}
use Rattle.view_times.specs.Known.{times_of}
use Rattle.mount_requests.specs.Apart.{IsUnknownIn}
use Rattle.mount_requests.specs.Seen.{Seen}
use Rattle.mount_requests.specs.Times.{at_time}
use Rattle.mounted.specs.Steppers.{IsStepper, StaysInView, TimesStayInView}

apart : (now : Time) (s later : Seen) (other inode : ℕ) → (times_of later.times other inode ≡ times_of (at_time now s).times other inode) ⊎ IsUnknownIn (at_time now s) later other inode → (times_of later.times other inode ≡ times_of s.times other inode) ⊎ IsUnknownIn s later other inode
apart now s later other inode (inl same) = inl same
apart now s later other inode (inr new) = inr (record { born = new.born; unknown = new.unknown })

pub times_at : (now : Time) (s u later : Seen) (node : ℕ) → u ≡ at_time now s → TimesStayInView u later node → TimesStayInView s later node
times_at now s u later node is h =
    let at : TimesStayInView (at_time now s) later node = subst (λ (z : Seen). TimesStayInView z later node) is h in
    λ tree view below live other inode away. apart now s later other inode (at tree view below live other inode away)

stepped : (now : Time) (s : Seen) (view : ℕ) (old new : List Entry) → (new ≡ old) ⊎ ((pid : ℕ) × IsStepper (at_time now s) view pid × IsSince pid old new) → (new ≡ old) ⊎ ((pid : ℕ) × IsStepper s view pid × IsSince pid old new)
stepped now s view old new (inl same) = inl same
stepped now s view old new (inr (pid, stepper, since)) =
    inr (pid, record { found = stepper.found; is = stepper.is; live = stepper.live; pid = stepper.pid }, since)

pub stays_at : (now : Time) (s u : Seen) (node : ℕ) (old new : List Entry) → u ≡ at_time now s → StaysInView u node old new → StaysInView s node old new
stays_at now s u node old new is h =
    let at : StaysInView (at_time now s) node old new = subst (λ (z : Seen). StaysInView z node old new) is h in
    λ tree view below live. stepped now s view old new (at tree view below live)
