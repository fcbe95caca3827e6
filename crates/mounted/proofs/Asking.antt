-- Requests about the directory of transactions, and about their files, by what was asked.
use Rattle.std.proofs.Common.{◌≡◌, ℕ, List, inl, inr, refl, sym, subst}
use Rattle.std.specs.Prelude.{Result}
use Rattle.fuse.specs.declared.reply.Reply.{Reply}
use Rattle.fuse.specs.declared.request.Operation.{Operation}
use Rattle.fuse.specs.declared.request.Operation.TheVariants as asked
use Rattle.machine.specs.Shown.{Shown}
use Rattle.mount_requests.specs.Keeping.{Keeps}
use Rattle.mount_requests.specs.Seen.{Seen}
use Rattle.mount_requests.specs.declared.failure.Failure.{Failure}
use Rattle.mount_requests.proofs.Keeping.{keeps_is, kept_same}
use Rattle.mounted.specs.Controls.{AsksTransactions, Begins, ListsSome, Opens, ServesControl, ServesTransactions}

-- a transaction begins
pub begins : (s later : Seen) {operation : Operation} {name : List ℕ} {mode : ℕ} {old new : Shown} (r : Result Reply Failure) → operation ≡ asked.MkDir name mode → Begins s later name old new r → ServesTransactions s later operation old new r
begins s later {old = old} {new = new} r is h = subst (λ (o : Operation). ServesTransactions s later o old new r) (sym is) h

opens_keep : (s later : Seen) (r : Result Reply Failure) → Opens s later r → Keeps s later
opens_keep s later r (inl h) = keeps_is h.0
opens_keep s later r (inr h) = subst (λ (z : Seen). Keeps s z) (sym h.1) (record { views = refl; names = refl; next = refl; roles = kept_same s.roles })

lists_keep : (s later : Seen) (handle : ℕ) → ListsSome s later handle → Keeps s later
lists_keep s later handle (inl h) = keeps_is h
lists_keep s later handle (inr h) = subst (λ (z : Seen). Keeps s z) (sym h.1) (record { views = refl; names = refl; next = refl; roles = kept_same s.roles })

-- views and processes stand where no transaction is begun or taken away
pub asks_keep : (s later : Seen) (operation : Operation) (r : Result Reply Failure) → AsksTransactions s later operation r → Keeps s later
asks_keep s later (asked.Lookup a) r h = keeps_is h
asks_keep s later (asked.GetAttr a) r h = keeps_is h
asks_keep s later (asked.SetAttr a) r h = keeps_is h
asks_keep s later asked.ReadLink r h = keeps_is h
asks_keep s later asked.OpenDir r h = opens_keep s later r h
asks_keep s later (asked.ReadDir a b d) r h = lists_keep s later a h
asks_keep s later (asked.Access a) r h = keeps_is h
asks_keep s later (asked.SymLink a b) r h = keeps_is h
asks_keep s later (asked.MkNod a b) r h = keeps_is h
asks_keep s later (asked.MkDir a b) r h = keeps_is h
asks_keep s later (asked.Unlink a) r h = keeps_is h
asks_keep s later (asked.RmDir a) r h = keeps_is h
asks_keep s later (asked.Rename a b d e) r h = keeps_is h
asks_keep s later (asked.Link a b) r h = keeps_is h
asks_keep s later (asked.Create a b d e) r h = keeps_is h
asks_keep s later (asked.Open a b) r h = keeps_is h
asks_keep s later (asked.Read a b d e) r h = keeps_is h
asks_keep s later (asked.Write a b d e f) r h = keeps_is h
asks_keep s later (asked.Lseek a b d) r h = keeps_is h
asks_keep s later (asked.Fallocate a b d e) r h = keeps_is h
asks_keep s later (asked.CopyFileRange a b d e f i j) r h = keeps_is h
asks_keep s later (asked.Forget a) r h = keeps_is h
asks_keep s later (asked.BatchForget a) r h = keeps_is h
asks_keep s later (asked.Flush a) r h = keeps_is h
asks_keep s later (asked.Release a b) r h = keeps_is h
asks_keep s later (asked.Fsync a) r h = keeps_is h
asks_keep s later (asked.ReleaseDir a) r h = keeps_is h
asks_keep s later asked.StatFs r h = keeps_is h
asks_keep s later (asked.Init a b d e) r h = keeps_is h
asks_keep s later asked.Destroy r h = keeps_is h
asks_keep s later (asked.Interrupt a) r h = keeps_is h
asks_keep s later (asked.Other a) r h = keeps_is h

-- requests that change no transaction
pub serves_other : (s later : Seen) (operation : Operation) (old new : Shown) (r : Result Reply Failure) → ((name : List ℕ) → operation ≡ asked.Lookup name → ⊥) → ((name : List ℕ) (mode : ℕ) → operation ≡ asked.MkDir name mode → ⊥) → ((name : List ℕ) → operation ≡ asked.RmDir name → ⊥)
    → AsksTransactions s later operation r → new ≡ old → ServesTransactions s later operation old new r
serves_other s later (asked.Lookup a) old new r look make remove h same = absurd (look a refl)
serves_other s later (asked.GetAttr a) old new r look make remove h same = (h, same)
serves_other s later (asked.SetAttr a) old new r look make remove h same = (h, same)
serves_other s later asked.ReadLink old new r look make remove h same = (h, same)
serves_other s later asked.OpenDir old new r look make remove h same = (h, same)
serves_other s later (asked.ReadDir a b d) old new r look make remove h same = (h, same)
serves_other s later (asked.Access a) old new r look make remove h same = (h, same)
serves_other s later (asked.SymLink a b) old new r look make remove h same = (h, same)
serves_other s later (asked.MkNod a b) old new r look make remove h same = (h, same)
serves_other s later (asked.MkDir a b) old new r look make remove h same = absurd (make a b refl)
serves_other s later (asked.Unlink a) old new r look make remove h same = (h, same)
serves_other s later (asked.RmDir a) old new r look make remove h same = absurd (remove a refl)
serves_other s later (asked.Rename a b d e) old new r look make remove h same = (h, same)
serves_other s later (asked.Link a b) old new r look make remove h same = (h, same)
serves_other s later (asked.Create a b d e) old new r look make remove h same = (h, same)
serves_other s later (asked.Open a b) old new r look make remove h same = (h, same)
serves_other s later (asked.Read a b d e) old new r look make remove h same = (h, same)
serves_other s later (asked.Write a b d e f) old new r look make remove h same = (h, same)
serves_other s later (asked.Lseek a b d) old new r look make remove h same = (h, same)
serves_other s later (asked.Fallocate a b d e) old new r look make remove h same = (h, same)
serves_other s later (asked.CopyFileRange a b d e f i j) old new r look make remove h same = (h, same)
serves_other s later (asked.Forget a) old new r look make remove h same = (h, same)
serves_other s later (asked.BatchForget a) old new r look make remove h same = (h, same)
serves_other s later (asked.Flush a) old new r look make remove h same = (h, same)
serves_other s later (asked.Release a b) old new r look make remove h same = (h, same)
serves_other s later (asked.Fsync a) old new r look make remove h same = (h, same)
serves_other s later (asked.ReleaseDir a) old new r look make remove h same = (h, same)
serves_other s later asked.StatFs old new r look make remove h same = (h, same)
serves_other s later (asked.Init a b d e) old new r look make remove h same = (h, same)
serves_other s later asked.Destroy old new r look make remove h same = (h, same)
serves_other s later (asked.Interrupt a) old new r look make remove h same = (h, same)
serves_other s later (asked.Other a) old new r look make remove h same = (h, same)

-- requests about a file that neither read nor write it
pub controls_other : (s later : Seen) (view : ℕ) (operation : Operation) (old new : Shown) (r : Result Reply Failure) → ((handle offset size flags : ℕ) → operation ≡ asked.Read handle offset size flags → ⊥) → ((handle offset how flags : ℕ) (bytes : List ℕ) → operation ≡ asked.Write handle offset how flags bytes → ⊥)
    → new ≡ old → later ≡ s → ServesControl s later view operation old new r
controls_other s later view (asked.Lookup a) old new r read write same known = (same, known)
controls_other s later view (asked.GetAttr a) old new r read write same known = (same, known)
controls_other s later view (asked.SetAttr a) old new r read write same known = (same, known)
controls_other s later view asked.ReadLink old new r read write same known = (same, known)
controls_other s later view asked.OpenDir old new r read write same known = (same, known)
controls_other s later view (asked.ReadDir a b d) old new r read write same known = (same, known)
controls_other s later view (asked.Access a) old new r read write same known = (same, known)
controls_other s later view (asked.SymLink a b) old new r read write same known = (same, known)
controls_other s later view (asked.MkNod a b) old new r read write same known = (same, known)
controls_other s later view (asked.MkDir a b) old new r read write same known = (same, known)
controls_other s later view (asked.Unlink a) old new r read write same known = (same, known)
controls_other s later view (asked.RmDir a) old new r read write same known = (same, known)
controls_other s later view (asked.Rename a b d e) old new r read write same known = (same, known)
controls_other s later view (asked.Link a b) old new r read write same known = (same, known)
controls_other s later view (asked.Create a b d e) old new r read write same known = (same, known)
controls_other s later view (asked.Open a b) old new r read write same known = (same, known)
controls_other s later view (asked.Read a b d e) old new r read write same known = absurd (read a b d e refl)
controls_other s later view (asked.Write a b d e f) old new r read write same known = absurd (write a b d e f refl)
controls_other s later view (asked.Lseek a b d) old new r read write same known = (same, known)
controls_other s later view (asked.Fallocate a b d e) old new r read write same known = (same, known)
controls_other s later view (asked.CopyFileRange a b d e f i j) old new r read write same known = (same, known)
controls_other s later view (asked.Forget a) old new r read write same known = (same, known)
controls_other s later view (asked.BatchForget a) old new r read write same known = (same, known)
controls_other s later view (asked.Flush a) old new r read write same known = (same, known)
controls_other s later view (asked.Release a b) old new r read write same known = (same, known)
controls_other s later view (asked.Fsync a) old new r read write same known = (same, known)
controls_other s later view (asked.ReleaseDir a) old new r read write same known = (same, known)
controls_other s later view asked.StatFs old new r read write same known = (same, known)
controls_other s later view (asked.Init a b d e) old new r read write same known = (same, known)
controls_other s later view asked.Destroy old new r read write same known = (same, known)
controls_other s later view (asked.Interrupt a) old new r read write same known = (same, known)
controls_other s later view (asked.Other a) old new r read write same known = (same, known)
