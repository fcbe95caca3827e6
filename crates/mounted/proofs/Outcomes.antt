-- What is told of requests, by what was asked.
use Rattle.std.proofs.Common.{◌≡◌, ℕ, List, [], ◌∷◌, Bool, true, false, refl, sym, ap, subst, arith}
use Rattle.std.specs.Prelude.{Some, Ok}
use Rattle.std.specs.Ordering.{nat_cmp}
use Rattle.model.specs.FiniteMap as map
use Rattle.fuse.specs.Operations.{is_answered}
use Rattle.fuse.specs.declared.forgets.Forget.{Forget}
use Rattle.fuse.specs.declared.reply.Reply.{Reply}
use Rattle.fuse.specs.declared.reply.Reply.TheVariants as reply
use Rattle.fuse.specs.declared.request.Operation.{Operation}
use Rattle.fuse.specs.declared.request.Operation.TheVariants as asked
use Rattle.machine.specs.Shown.{Shown}
use Rattle.machine.specs.Steps.{forgetting}
use Rattle.course.specs.Hands.{Stand}
use Rattle.mount_tables.specs.Folders.{Opened}
use Rattle.mount_requests.specs.Keeping.{Keeps}
use Rattle.mount_requests.specs.Seen.{Seen}
use Rattle.mount_requests.specs.declared.requests.Caller.{Caller}
use Rattle.mount_requests.proofs.Keeping.{kept_same}
use Rattle.mounted.specs.Served.{Answered, IsBeginning, IsStatus, IsToldOf, Serves, ToldBy, with_forget, with_forgets}
use Rattle.mounted.specs.Sound.{StaysSound}
use Rattle.mounted.proofs.Staying.{keeps_sound, sound_same, stand_is}

module _ (s : Seen) (who : Caller) (operation : Operation) (v : Shown) where
  told : (later : Seen) (r : Reply) → Serves s later who operation v v (Ok r) → ToldBy (Serves s later who operation v v) r
  told later r h = record { outcome = Ok r; served = h; is = refl }

  pub begins : {major minor ahead flags : ℕ} (r : Reply) → operation ≡ asked.Init major minor ahead flags → IsBeginning (Ok r) → ToldBy (Serves s s who operation v v) r
  begins r is h = told s r (subst (λ (o : Operation). Serves s s who o v v (Ok r)) (sym is) (h, refl, refl))

  pub ends : operation ≡ asked.Destroy → ToldBy (Serves s s who operation v v) reply.Empty
  ends is = told s reply.Empty (subst (λ (o : Operation). Serves s s who o v v (Ok reply.Empty)) (sym is) (refl, refl, refl))

  pub status : (r : Reply) → operation ≡ asked.StatFs → IsStatus (Ok r) → ToldBy (Serves s s who operation v v) r
  status r is h = told s r (subst (λ (o : Operation). Serves s s who o v v (Ok r)) (sym is) (h, refl, refl))

  pub flushes : {handle : ℕ} → operation ≡ asked.Flush handle → ToldBy (Serves s s who operation v v) reply.Empty
  flushes is = told s reply.Empty (subst (λ (o : Operation). Serves s s who o v v (Ok reply.Empty)) (sym is) (refl, refl, refl))

  pub syncs : {handle : ℕ} → operation ≡ asked.Fsync handle → ToldBy (Serves s s who operation v v) reply.Empty
  syncs is = told s reply.Empty (subst (λ (o : Operation). Serves s s who o v v (Ok reply.Empty)) (sym is) (refl, refl, refl))

  pub closes : {handle : ℕ} {folders : map.FinMap nat_cmp Opened} {next : ℕ} → operation ≡ asked.ReleaseDir handle → folders ≡ map.remove s.folders handle → next ≡ s.next_folder → ToldBy (Serves s (record s { folders = folders; next_folder = next }) who operation v v) reply.Empty
  closes {handle} {folders} {next} is gone same =
      told (record s { folders = folders; next_folder = next }) reply.Empty (subst (λ (o : Operation). Serves s (record s { folders = folders; next_folder = next }) who o v v (Ok reply.Empty)) (sym is) (refl, refl, λ i. record s { folders = gone i; next_folder = same i }))

-- look-ups that are forgotten leave views and processes as they are
forgets_keep : (s : Seen) (fs : List Forget) → Keeps s (with_forgets s fs)
forgets_keep s [] = record { views = refl; names = refl; next = refl; roles = kept_same s.roles }
forgets_keep s (f ∷ fs) = let k = forgets_keep (with_forget s f.node f.lookups) fs in record { views = k.views; names = k.names; next = k.next; roles = k.roles }

pub forgets_sound : (s later : Seen) (fs : List Forget) {v w : Shown} → later ≡ with_forgets s fs → w ≡ v → StaysSound s v later w
forgets_sound s later fs {v} {w} is same = keeps_sound (subst (λ (z : Seen). Keeps s z) (sym is) (forgets_keep s fs)) (stand_is same)

-- a request that has an answer
pub answered_other : (o : Operation) → ((lookups : ℕ) → o ≡ asked.Forget lookups → ⊥) → ((forgets : List Forget) → o ≡ asked.BatchForget forgets → ⊥) → ((unique : ℕ) → o ≡ asked.Interrupt unique → ⊥) → true ≡ is_answered o
answered_other (asked.Lookup a) one many early = refl
answered_other (asked.GetAttr a) one many early = refl
answered_other (asked.SetAttr a) one many early = refl
answered_other asked.ReadLink one many early = refl
answered_other asked.OpenDir one many early = refl
answered_other (asked.ReadDir a b d) one many early = refl
answered_other (asked.Access a) one many early = refl
answered_other (asked.SymLink a b) one many early = refl
answered_other (asked.MkNod a b) one many early = refl
answered_other (asked.MkDir a b) one many early = refl
answered_other (asked.Unlink a) one many early = refl
answered_other (asked.RmDir a) one many early = refl
answered_other (asked.Rename a b d e) one many early = refl
answered_other (asked.Link a b) one many early = refl
answered_other (asked.Create a b d e) one many early = refl
answered_other (asked.Open a b) one many early = refl
answered_other (asked.Read a b d e) one many early = refl
answered_other (asked.Write a b d e f) one many early = refl
answered_other (asked.Lseek a b d) one many early = refl
answered_other (asked.Fallocate a b d e) one many early = refl
answered_other (asked.CopyFileRange a b d e f i j) one many early = refl
answered_other (asked.Forget a) one many early = absurd (one a refl)
answered_other (asked.BatchForget a) one many early = absurd (many a refl)
answered_other (asked.Flush a) one many early = refl
answered_other (asked.Release a b) one many early = refl
answered_other (asked.Fsync a) one many early = refl
answered_other (asked.ReleaseDir a) one many early = refl
answered_other asked.StatFs one many early = refl
answered_other (asked.Init a b d e) one many early = refl
answered_other asked.Destroy one many early = refl
answered_other (asked.Interrupt a) one many early = absurd (early a refl)
answered_other (asked.Other a) one many early = refl

pub told_other : (s later : Seen) (who : Caller) (o : Operation) (old new : Shown) (r : Reply) → ((lookups : ℕ) → o ≡ asked.Forget lookups → ⊥) → ((forgets : List Forget) → o ≡ asked.BatchForget forgets → ⊥) → ((unique : ℕ) → o ≡ asked.Interrupt unique → ⊥)
    → Answered s later who o old new (Some r) → IsToldOf s later who o old new (Some r)
told_other s later who (asked.Lookup a) old new r one many early h = h
told_other s later who (asked.GetAttr a) old new r one many early h = h
told_other s later who (asked.SetAttr a) old new r one many early h = h
told_other s later who asked.ReadLink old new r one many early h = h
told_other s later who asked.OpenDir old new r one many early h = h
told_other s later who (asked.ReadDir a b d) old new r one many early h = h
told_other s later who (asked.Access a) old new r one many early h = h
told_other s later who (asked.SymLink a b) old new r one many early h = h
told_other s later who (asked.MkNod a b) old new r one many early h = h
told_other s later who (asked.MkDir a b) old new r one many early h = h
told_other s later who (asked.Unlink a) old new r one many early h = h
told_other s later who (asked.RmDir a) old new r one many early h = h
told_other s later who (asked.Rename a b d e) old new r one many early h = h
told_other s later who (asked.Link a b) old new r one many early h = h
told_other s later who (asked.Create a b d e) old new r one many early h = h
told_other s later who (asked.Open a b) old new r one many early h = h
told_other s later who (asked.Read a b d e) old new r one many early h = h
told_other s later who (asked.Write a b d e f) old new r one many early h = h
told_other s later who (asked.Lseek a b d) old new r one many early h = h
told_other s later who (asked.Fallocate a b d e) old new r one many early h = h
told_other s later who (asked.CopyFileRange a b d e f i j) old new r one many early h = h
told_other s later who (asked.Forget a) old new r one many early h = absurd (one a refl)
told_other s later who (asked.BatchForget a) old new r one many early h = absurd (many a refl)
told_other s later who (asked.Flush a) old new r one many early h = h
told_other s later who (asked.Release a b) old new r one many early h = h
told_other s later who (asked.Fsync a) old new r one many early h = h
told_other s later who (asked.ReleaseDir a) old new r one many early h = h
told_other s later who asked.StatFs old new r one many early h = h
told_other s later who (asked.Init a b d e) old new r one many early h = h
told_other s later who asked.Destroy old new r one many early h = h
told_other s later who (asked.Interrupt a) old new r one many early h = absurd (early a refl)
told_other s later who (asked.Other a) old new r one many early h = h

pub answered_by : (s later : Seen) (who : Caller) (o : Operation) {old new : Shown} (r : Reply) → ToldBy (Serves s later who o old new) r → Answered s later who o old new (Some r)
answered_by s later who o r t = record { outcome = t.outcome; serves = t.served; tells = ap Some t.is }

-- ---- what was done is forgotten

stand_forgotten : (v : Shown) → Stand v (forgetting v)
stand_forgotten v = record { made = omega arith; priority = λ pid le. refl }

pub sound_forgotten : (s : Seen) (forgot : Bool) {v w : Shown} → (forgot ≡ true → w ≡ forgetting v) → (forgot ≡ false → w ≡ v) → StaysSound s v s w
sound_forgotten s true {v} {w} done other = sound_same refl (subst (λ (x : Shown). Stand v x) (sym (done refl)) (stand_forgotten v))
sound_forgotten s false done other = sound_same refl (stand_is (other refl))

pub kept_by : {P : Type 0} {v w : Shown} (forgot : Bool) → (forgot ≡ true → P) → (forgot ≡ false → w ≡ v) → (P → ⊥) → w ≡ v
kept_by true only same beyond = absurd (beyond (only refl))
kept_by false only same beyond = same refl
