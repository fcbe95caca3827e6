-- A request about a node of a tree leaves views, names and what processes are for as they are.
use Rattle.std.proofs.Common.{◌≡◌, ◌≢◌, ◌⊎◌, inl, inr, ℕ, List, Bool, true, false, refl, sym, ap, ◌∙◌, subst}
use Rattle.std.specs.Prelude.{Option, Some, None, Result, if◌then◌else◌, ◌==◌}
use Rattle.std.specs.Ordering.{nat_cmp}
use Rattle.std.proofs.lemmas.Bool.{cases_eq}
use Rattle.model.specs.FiniteMap as map
use Rattle.model.proofs.Laws.{get_other, get_same}
use Rattle.fuse.specs.declared.reply.Reply.{Reply}
use Rattle.fuse.specs.declared.request.Operation.{Operation}
use Rattle.fuse.specs.declared.request.Operation.TheVariants as asked
use Rattle.machine.specs.Shown.{Shown}
use Rattle.course.specs.Course.{Course}
use Rattle.course.specs.declared.fault.Fault.{Fault}
use Rattle.nodes.specs.Tables.{is_current}
use Rattle.course.specs.declared.files.Made.{Made}
use Rattle.course.specs.declared.made.Cut.{Cut}
use Rattle.mount_tables.specs.Numbers.{is_reserved}
use Rattle.mount_tables.specs.Processes.{held, let_go}
use Rattle.mount_tables.specs.declared.processes.Role.{Role}
use Rattle.mount_tables.specs.declared.processes.Role.TheVariants.{Holder, Idle, Of}
use Rattle.mount_requests.specs.Answers.{Answered, Answers, AnswersIfRoom, Failed, NoRoom, Refused, Told, Unplanned}
use Rattle.mount_requests.specs.Asked.{cut_by, is_exchange}
use Rattle.mount_requests.specs.Found.{handle_of}
use Rattle.mount_requests.specs.Keeping.{AreKept, Keeps, purpose}
use Rattle.mount_requests.specs.Later.{opened_first}
use Rattle.mount_requests.specs.Requests.{AnswersLookUpBy, AnswersRenameBy, IsAnswered, with_open_by, with_opening}
use Rattle.mount_requests.specs.Times.{Events, with_events_if}
use Rattle.mount_requests.specs.Seen.{Seen}
use Rattle.mount_requests.specs.declared.failure.Failure.{Failure}
use Rattle.mount_requests.specs.declared.opening.Opening.{Opening}
use Rattle.mount_requests.specs.declared.opening.Opening.TheVariants.{Again, First}
use Rattle.mount_requests.specs.declared.requests.Caller.{Caller}

abbrev pub Roles : Type 0
Roles = map.FinMap nat_cmp Role

pub kept_same : (r : Roles) → AreKept r r
kept_same r q = refl

-- ---- files that a process has open more or fewer

-- a holder stays one
holder_kept : (r : Roles) (pid used now : ℕ) → map.get r pid ≡ Some (Holder used) → AreKept r (map.insert r pid (Holder now))
holder_kept r pid used now has q = by (cases_eq q pid)
  where
    by : (q ≡ pid) ⊎ (q ≢ pid) → purpose (map.get (map.insert r pid (Holder now)) q) ≡ purpose (map.get r q)
    by (inl e) = ap (λ (x : ℕ). purpose (map.get (map.insert r pid (Holder now)) x)) e ∙ (ap purpose (get_same r pid (Holder now)) ∙ (sym (ap purpose has) ∙ ap (λ (x : ℕ). purpose (map.get r x)) (sym e)))
    by (inr ne) = ap purpose (get_other r pid q (Holder now) ne)

held_by : (r : Roles) (pid : ℕ) (o : Option Role) → map.get r pid ≡ o → AreKept r (held pid o r)
held_by r pid (Some (Holder used)) e = holder_kept r pid used _ e
held_by r pid (Some (Idle level)) e = kept_same r
held_by r pid (Some (Of view)) e = kept_same r
held_by r pid None e = kept_same r

pub held_kept : (pid : ℕ) (r : Roles) → AreKept r (held pid (map.get r pid) r)
held_kept pid r = held_by r pid (map.get r pid) refl

let_go_by : (r : Roles) (pid : ℕ) (o : Option Role) → map.get r pid ≡ o → AreKept r (let_go pid o r)
let_go_by r pid (Some (Holder used)) e = holder_kept r pid used _ e
let_go_by r pid (Some (Idle level)) e = kept_same r
let_go_by r pid (Some (Of view)) e = kept_same r
let_go_by r pid None e = kept_same r

pub let_go_kept : (pid : ℕ) (r : Roles) → AreKept r (let_go pid (map.get r pid) r)
let_go_kept pid r = let_go_by r pid (map.get r pid) refl

-- ---- requests

pub keeps_is : {s later : Seen} → later ≡ s → Keeps s later
keeps_is {s} {later} e = subst (λ (z : Seen). Keeps s z) (sym e) (record { views = refl; names = refl; next = refl; roles = kept_same s.roles })

keeps_to : {s known later : Seen} → later ≡ known → Keeps s known → Keeps s later
keeps_to {s} e h = subst (λ (z : Seen). Keeps s z) (sym e) h

answers_keep : {P A : Type 0} {s later : Seen} {old new : Shown} {plan : Result P Failure} {course : P → Course (Result A Fault)} {Shows : P → A → Seen → Result Reply Failure → Type 0} {r : Result Reply Failure}
    → ((p : P) (x : A) (known : Seen) (r : Result Reply Failure) → Shows p x known r → Keeps s known) → Answers s later old new plan course Shows r → Keeps s later
answers_keep {later = later} {r = r} told (Unplanned e planned same known is) = keeps_is known
answers_keep {later = later} {r = r} told (Failed p e planned ran known is) = keeps_is known
answers_keep {later = later} {r = r} told (Told p x planned ran shows) = told p x later r shows
answers_keep {later = later} {r = r} told (Refused same known is) = keeps_is known

looks_keep : {P A : Type 0} {s later : Seen} {old new : Shown} {plan : Result P Failure} {course : P → Course (Result A Fault)} {Shows : P → A → Seen → Result Reply Failure → Type 0} {r : Result Reply Failure}
    → ((p : P) (x : A) (known : Seen) (r : Result Reply Failure) → Shows p x known r → Keeps s known) → AnswersIfRoom s later old new plan course Shows r → Keeps s later
looks_keep told (Answered h) = answers_keep told h
looks_keep told (NoRoom p x planned ran known is) = keeps_is known

-- what stands is told by the fields
stands : {s : Seen} (t : Seen) → t.views ≡ s.views → t.names ≡ s.names → t.next_view ≡ s.next_view → t.roles ≡ s.roles → Keeps s t
stands {s} t views names next roles = record { views = views; names = names; next = next; roles = λ q. ap (λ (m : Roles). purpose (map.get m q)) roles }

held_if : (b : Bool) (pid : ℕ) (r : Roles) → AreKept r (if b then held pid (map.get r pid) r else r)
held_if true pid r = held_kept pid r
held_if false pid r = kept_same r

first_keeps : (s : Seen) (view inode pid fd : ℕ) → Keeps s (opened_first s view inode pid fd)
first_keeps s view inode pid fd = record { views = refl; names = refl; next = refl; roles = held_if (view == 0) pid s.roles }

-- what is noted of times changes nothing of it
events_keep : (b : Bool) (s : Seen) (node : ℕ) (events : Events) → Keeps s (with_events_if b node events s)
events_keep true s node events = stands _ refl refl refl refl
events_keep false s node events = keeps_is refl

opening_keeps : (s : Seen) (pid node : ℕ) (how : Cut) (o : Opening) (fd : ℕ) → Keeps s (with_opening s pid node how o fd)
opening_keeps s pid node how (Again inode handle kept) fd = stands _ refl refl refl refl
opening_keeps s pid node how (First view path inode) fd = record { views = refl; names = refl; next = refl; roles = held_if (view == 0) pid s.roles }

open_keeps : (s : Seen) (view pid : ℕ) (made : Made) (o : Option ℕ) → Keeps s (with_open_by s view pid made o)
open_keeps s view pid made (Some handle) = stands _ refl refl refl refl
open_keeps s view pid made None = first_keeps s view made.stat.num pid made.fd

created_keeps : (s : Seen) (view pid : ℕ) (made : Made) (known : Seen) → known.views ≡ (with_open_by s view pid made (handle_of s view made.stat.num)).views → known.names ≡ (with_open_by s view pid made (handle_of s view made.stat.num)).names
    → known.next_view ≡ (with_open_by s view pid made (handle_of s view made.stat.num)).next_view → known.roles ≡ (with_open_by s view pid made (handle_of s view made.stat.num)).roles → Keeps s known
created_keeps s view pid made known views names next roles =
    let k = open_keeps s view pid made (handle_of s view made.stat.num) in
    record { views = views ∙ k.views; names = names ∙ k.names; next = next ∙ k.next; roles = λ q. ap (λ (m : Roles). purpose (map.get m q)) roles ∙ k.roles q }

look_up_keeps : (b : Bool) (s later : Seen) (pid node : ℕ) (name : List ℕ) (old new : Shown) (r : Result Reply Failure) → AnswersLookUpBy b s later pid node name old new r → Keeps s later
look_up_keeps true s later pid node name old new r h = keeps_is h.2
look_up_keeps false s later pid node name old new r h = answers_keep (λ p x known told k. keeps_to k.1 (stands _ refl refl refl refl)) h

rename_keeps : (b : Bool) (s later : Seen) (pid node : ℕ) (name : List ℕ) (new_node : ℕ) (new_name : List ℕ) (flags : ℕ) (old new : Shown) (r : Result Reply Failure) → AnswersRenameBy b s later pid node name new_node new_name flags old new r → Keeps s later
rename_keeps true s later pid node name new_node new_name flags old new r h = answers_keep (λ p x known told k. keeps_to k.1 (stands _ refl refl refl refl)) h
rename_keeps false s later pid node name new_node new_name flags old new r h = answers_keep (λ p x known told k. keeps_to k.1 (stands _ refl refl refl refl)) h

pub answered_keeps : (s later : Seen) (pid : ℕ) (who : Caller) (o : Operation) (old new : Shown) (r : Result Reply Failure) → IsAnswered s later pid who o old new r → Keeps s later
answered_keeps s later pid who (asked.Lookup name) old new r h = look_up_keeps (is_reserved who.node name) s later pid who.node name old new r h
answered_keeps s later pid who (asked.GetAttr x) old new r h = answers_keep (λ p x known told k. keeps_is k.1) h
answered_keeps s later pid who (asked.SetAttr x) old new r h = answers_keep (λ p x known told k. keeps_to k.1 (events_keep (is_current s.nodes who.node) s who.node _)) h
answered_keeps s later pid who asked.ReadLink old new r h = answers_keep (λ p x known told k. keeps_is k.1) h
answered_keeps s later pid who asked.OpenDir old new r h = looks_keep (λ p x known told k. keeps_to k.1 (stands _ refl refl refl refl)) h
answered_keeps s later pid who (asked.ReadDir x y z) old new r h = looks_keep (λ p x known told k. keeps_to k.1 (stands _ refl refl refl refl)) h
answered_keeps s later pid who (asked.Access x) old new r h = keeps_is h.2
answered_keeps s later pid who (asked.SymLink x y) old new r h = answers_keep (λ p x known told k. keeps_to k.1 (stands _ refl refl refl refl)) h
answered_keeps s later pid who (asked.MkNod x y) old new r h = answers_keep (λ p x known told k. keeps_to k.1 (stands _ refl refl refl refl)) h
answered_keeps s later pid who (asked.MkDir x y) old new r h = answers_keep (λ p x known told k. keeps_to k.1 (stands _ refl refl refl refl)) h
answered_keeps s later pid who (asked.Unlink x) old new r h = answers_keep (λ p x known told k. keeps_to k.1 (stands _ refl refl refl refl)) h
answered_keeps s later pid who (asked.RmDir x) old new r h = answers_keep (λ p x known told k. keeps_to k.1 (stands _ refl refl refl refl)) h
answered_keeps s later pid who (asked.Rename x y z w) old new r h = rename_keeps (is_exchange w) s later pid who.node x y z w old new r h
answered_keeps s later pid who (asked.Link x y) old new r h = answers_keep (λ p x known told k. keeps_to k.1 (stands _ refl refl refl refl)) h
answered_keeps s later pid who (asked.Create x y z w) old new r h = answers_keep (λ p made known told k. keeps_to k.1 (created_keeps s p.view pid made _ refl refl refl refl)) h
answered_keeps s later pid who (asked.Open x y) old new r h = answers_keep (λ p fd known told k. keeps_to k.1 (opening_keeps s pid who.node (cut_by x y) p fd)) h
answered_keeps s later pid who (asked.Read x y z w) old new r h = answers_keep (λ p x known told k. keeps_is k.1) h
answered_keeps s later pid who (asked.Write x y z w v) old new r h = answers_keep (λ p x known told k. keeps_to k.1 (stands _ refl refl refl refl)) h
answered_keeps s later pid who (asked.Lseek x y z) old new r h = answers_keep (λ p x known told k. keeps_is k.1) h
answered_keeps s later pid who (asked.Fallocate x y z w) old new r h = answers_keep (λ p x known told k. keeps_to k.1 (stands _ refl refl refl refl)) h
answered_keeps s later pid who (asked.CopyFileRange a b d e f i j) old new r h = answers_keep (λ p x known told k. keeps_to k.1 (stands _ refl refl refl refl)) h
answered_keeps s later pid who (asked.Forget x) old new r h = keeps_is h.2
answered_keeps s later pid who (asked.BatchForget x) old new r h = keeps_is h.2
answered_keeps s later pid who (asked.Flush x) old new r h = keeps_is h.2
answered_keeps s later pid who (asked.Release x y) old new r h = keeps_is h.2
answered_keeps s later pid who (asked.Fsync x) old new r h = keeps_is h.2
answered_keeps s later pid who (asked.ReleaseDir x) old new r h = keeps_is h.2
answered_keeps s later pid who asked.StatFs old new r h = keeps_is h.2
answered_keeps s later pid who (asked.Init x y z w) old new r h = keeps_is h.2
answered_keeps s later pid who asked.Destroy old new r h = keeps_is h.2
answered_keeps s later pid who (asked.Interrupt x) old new r h = keeps_is h.2
answered_keeps s later pid who (asked.Other x) old new r h = keeps_is h.2
