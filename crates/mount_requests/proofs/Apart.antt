-- What a request about a node below a view does to times is seen in no other view.
use Rattle.std.proofs.Common.{◌≡◌, ◌≢◌, ◌⊎◌, inl, inr, ℕ, List, [], ◌∷◌, Bool, true, false, refl, sym, ap, subst, ◌∙◌}
use Rattle.std.specs.Prelude.{Option, Some, None, Result}
use Rattle.std.proofs.lemmas.Bool.{cases_eq}
use Rattle.ids.specs.declared.reply.Kind.{Kind}
use Rattle.fuse.specs.declared.reply.Reply.{Reply}
use Rattle.fuse.specs.declared.request.Operation.{Operation}
use Rattle.fuse.specs.declared.request.Operation.TheVariants as asked
use Rattle.fuse.specs.declared.request.Time.{Time}
use Rattle.machine.specs.Shown.{Shown}
use Rattle.nodes.specs.Tables.{Table, is_current, known, looked_up, looked_up_as, made}
use Rattle.nodes.specs.declared.directory_entry.DirectoryEntry.{DirectoryEntry}
use Rattle.course.specs.Course.{Course}
use Rattle.course.specs.declared.fault.Fault.{Fault}
use Rattle.course.specs.declared.made.Cut.{Cut}
use Rattle.mount_tables.specs.Numbers.{is_reserved}
use Rattle.view_times.specs.Known.{Known, freed, noted_by, times_of}
use Rattle.view_times.proofs.Calls.{frees, keeps, unseen}
use Rattle.mount_requests.specs.Answers.{Answered, Answers, AnswersIfRoom, Failed, NoRoom, Refused, Told, Unplanned}
use Rattle.mount_requests.specs.Apart.{AreApart, IsUnknownIn}
use Rattle.mount_requests.specs.Asked.{cut_by, is_exchange}
use Rattle.mount_requests.specs.Found.{inode_of}
use Rattle.mount_requests.specs.Later.{with_creation}
use Rattle.mount_requests.specs.Requests.{AnswersLookUpBy, AnswersRenameBy, IsAnswered, born_if, with_opening}
use Rattle.mount_requests.specs.Seen.{Seen}
use Rattle.mount_requests.specs.Times.{Events, inode_named, of_copying, of_cutting, of_exchanging, of_linking, of_making, of_removing, of_renaming, of_setting, of_writing, view_at, with_each, with_events_if}
use Rattle.mount_requests.specs.declared.failure.Failure.{Failure}
use Rattle.mount_requests.specs.declared.opening.Opening.{Opening}
use Rattle.mount_requests.specs.declared.opening.Opening.TheVariants.{Again, First}
use Rattle.mount_requests.specs.declared.requests.Caller.{Caller}

-- events in a view are seen in no other one
each_unseen : (view : ℕ) (now : Time) (events : Events) (k : Known) (other any : ℕ) → view ≢ 0 → other ≢ view → times_of (with_each view now events k) other any ≡ times_of k other any
each_unseen view now [] k other any live away = refl
each_unseen view now (e ∷ es) k other any live away = each_unseen view now es (noted_by k view e.0 e.1 now) other any live away ∙ unseen k view e.0 e.1 now other any live away

-- ---- from one state to another

module _ (s : Seen) (view : ℕ) where
  -- times stand
  pub apart_same : (later : Seen) → later.times ≡ s.times → AreApart s later view
  apart_same later e other inode away = inl (ap (λ (k : Known). times_of k other inode) e)

  pub apart_is : {later : Seen} → later ≡ s → AreApart s later view
  apart_is {later} e = apart_same later (ap (λ (v : Seen). v.times) e)

  -- events were noted
  pub apart_events : (later : Seen) (events : Events) → view ≢ 0 → later.times ≡ with_each view s.time events s.times → AreApart s later view
  apart_events later events live e other inode away = inl (ap (λ (k : Known). times_of k other inode) e ∙ each_unseen view s.time events s.times other inode live away)

  -- and an object was made
  pub apart_birth : (later : Seen) (inode : ℕ) (events : Events) → view ≢ 0 → later.nodes.births ≡ (made s.nodes inode).births → later.times ≡ with_each view s.time events (freed s.times inode) → AreApart s later view
  apart_birth later inode events live born e other any away = by (cases_eq any inode)
    where
      seen_as : times_of later.times other any ≡ times_of (freed s.times inode) other any
      seen_as = ap (λ (k : Known). times_of k other any) e ∙ each_unseen view s.time events (freed s.times inode) other any live away

      by : (any ≡ inode) ⊎ (any ≢ inode) → (times_of later.times other any ≡ times_of s.times other any) ⊎ IsUnknownIn s later other any
      by (inl is) = inr (record {
        born = born ∙ ap (λ (x : ℕ). (made s.nodes x).births) (sym is);
        unknown = seen_as ∙ ap (λ (x : ℕ). times_of (freed s.times inode) other x) is ∙ frees s.times inode other;
      })
      by (inr not) = inl (seen_as ∙ keeps s.times inode other any not)

  apart_to : {known later : Seen} → later ≡ known → AreApart s known view → AreApart s later view
  apart_to e h = subst (λ (v : Seen). AreApart s v view) (sym e) h

-- a look-up makes no object
births_by : (t : Table) (p : DirectoryEntry) (inode : ℕ) (kind : Kind) (o : Option ℕ) → (looked_up_as t p inode kind o).births ≡ t.births
births_by t p inode kind (Some number) = refl
births_by t p inode kind None = refl

births_stay : (t : Table) (p : DirectoryEntry) (inode : ℕ) (kind : Kind) → (looked_up t p inode kind).births ≡ t.births
births_stay t p inode kind = births_by t p inode kind (known t p inode)

-- ---- requests

answers_apart : {P A : Type 0} {s later : Seen} {old new : Shown} {plan : Result P Failure} {course : P → Course (Result A Fault)} {Shows : P → A → Seen → Result Reply Failure → Type 0} {r : Result Reply Failure} (view : ℕ)
    → ((p : P) (x : A) (known : Seen) (r : Result Reply Failure) → Shows p x known r → AreApart s known view) → Answers s later old new plan course Shows r → AreApart s later view
answers_apart {s = s} view told (Unplanned e planned same known is) = apart_is s view known
answers_apart {s = s} view told (Failed p e planned ran known is) = apart_is s view known
answers_apart {later = later} {r = r} view told (Told p x planned ran shows) = told p x later r shows
answers_apart {s = s} view told (Refused same known is) = apart_is s view known

looks_apart : {P A : Type 0} {s later : Seen} {old new : Shown} {plan : Result P Failure} {course : P → Course (Result A Fault)} {Shows : P → A → Seen → Result Reply Failure → Type 0} {r : Result Reply Failure} (view : ℕ)
    → ((p : P) (x : A) (known : Seen) (r : Result Reply Failure) → Shows p x known r → AreApart s known view) → AnswersIfRoom s later old new plan course Shows r → AreApart s later view
looks_apart view told (Answered h) = answers_apart view told h
looks_apart {s = s} view told (NoRoom p x planned ran known is) = apart_is s view known

module _ (s : Seen) (node : ℕ) where
  abbrev pub here : ℕ
  here = view_at s node

  if_apart : (b : Bool) (events : Events) → here ≢ 0 → AreApart s (with_events_if b node events s) here
  if_apart true events live = apart_events s here _ events live refl
  if_apart false events live = apart_is s here refl

  opening_apart : (pid : ℕ) (how : Cut) (o : Opening) (fd : ℕ) → here ≢ 0 → AreApart s (with_opening s pid node how o fd) here
  opening_apart pid how (Again inode handle kept) fd live = apart_events s here _ (of_cutting how inode) live refl
  opening_apart pid how (First view path inode) fd live = apart_events s here _ (of_cutting how inode) live refl

  created_apart : (b : Bool) (how : Cut) (inode : ℕ) (known : Seen) → here ≢ 0 → known.nodes.births ≡ (born_if b s.nodes inode).births → known.times ≡ (with_creation b s node how inode).times → AreApart s known here
  created_apart true how inode known live born e = apart_birth s here known inode (of_making inode (inode_of s node)) live born e
  created_apart false how inode known live born e = apart_events s here known (of_cutting how inode) live e

  look_up_apart : (b : Bool) (later : Seen) (pid : ℕ) (name : List ℕ) (old new : Shown) (r : Result Reply Failure) → AnswersLookUpBy b s later pid node name old new r → AreApart s later here
  look_up_apart true later pid name old new r h = apart_is s here h.2
  look_up_apart false later pid name old new r h = answers_apart here (λ p x known told k. apart_to s here k.1 (apart_same s here _ refl)) h

  rename_apart : (b : Bool) (later : Seen) (pid : ℕ) (name : List ℕ) (new_node : ℕ) (new_name : List ℕ) (flags : ℕ) (old new : Shown) (r : Result Reply Failure) → here ≢ 0 → AnswersRenameBy b s later pid node name new_node new_name flags old new r → AreApart s later here
  rename_apart true later pid name new_node new_name flags old new r live h = answers_apart here (λ p x known told k. apart_to s here k.1 (apart_events s here _ (of_exchanging (inode_named s node name) (inode_named s new_node new_name) (inode_of s node) (inode_of s new_node)) live refl)) h
  rename_apart false later pid name new_node new_name flags old new r live h = answers_apart here (λ p x known told k. apart_to s here k.1 (apart_events s here _ (of_renaming (inode_named s node name) (inode_named s new_node new_name) (inode_of s node) (inode_of s new_node)) live refl)) h

pub answered_apart : (s later : Seen) (pid : ℕ) (who : Caller) (o : Operation) (old new : Shown) (r : Result Reply Failure) → view_at s who.node ≢ 0 → IsAnswered s later pid who o old new r → AreApart s later (view_at s who.node)
answered_apart s later pid who (asked.Lookup name) old new r live h = look_up_apart s who.node (is_reserved who.node name) later pid name old new r h
answered_apart s later pid who (asked.GetAttr x) old new r live h = answers_apart (view_at s who.node) (λ p x known told k. apart_is s (view_at s who.node) k.1) h
answered_apart s later pid who (asked.SetAttr changes) old new r live h = answers_apart (view_at s who.node) (λ p x known told k. apart_to s (view_at s who.node) k.1 (if_apart s who.node (is_current s.nodes who.node) (of_setting changes s.time x.num) live)) h
answered_apart s later pid who asked.ReadLink old new r live h = answers_apart (view_at s who.node) (λ p x known told k. apart_is s (view_at s who.node) k.1) h
answered_apart s later pid who asked.OpenDir old new r live h = looks_apart (view_at s who.node) (λ p x known told k. apart_to s (view_at s who.node) k.1 (apart_same s (view_at s who.node) _ refl)) h
answered_apart s later pid who (asked.ReadDir x y z) old new r live h = looks_apart (view_at s who.node) (λ p x known told k. apart_to s (view_at s who.node) k.1 (apart_same s (view_at s who.node) _ refl)) h
answered_apart s later pid who (asked.Access x) old new r live h = apart_is s (view_at s who.node) h.2
answered_apart s later pid who (asked.SymLink y z) old new r live h = answers_apart (view_at s who.node) (λ p x known told k. apart_to s (view_at s who.node) k.1 (apart_birth s (view_at s who.node) _ x.num (of_making x.num (inode_of s who.node)) live (births_stay (made s.nodes x.num) _ x.num x.kind) refl)) h
answered_apart s later pid who (asked.MkNod y z) old new r live h = answers_apart (view_at s who.node) (λ p x known told k. apart_to s (view_at s who.node) k.1 (apart_birth s (view_at s who.node) _ x.num (of_making x.num (inode_of s who.node)) live (births_stay (made s.nodes x.num) _ x.num x.kind) refl)) h
answered_apart s later pid who (asked.MkDir y z) old new r live h = answers_apart (view_at s who.node) (λ p x known told k. apart_to s (view_at s who.node) k.1 (apart_birth s (view_at s who.node) _ x.num (of_making x.num (inode_of s who.node)) live (births_stay (made s.nodes x.num) _ x.num x.kind) refl)) h
answered_apart s later pid who (asked.Unlink name) old new r live h = answers_apart (view_at s who.node) (λ p x known told k. apart_to s (view_at s who.node) k.1 (apart_events s (view_at s who.node) _ (of_removing (inode_named s who.node name) (inode_of s who.node)) live refl)) h
answered_apart s later pid who (asked.RmDir name) old new r live h = answers_apart (view_at s who.node) (λ p x known told k. apart_to s (view_at s who.node) k.1 (apart_events s (view_at s who.node) _ (of_removing (inode_named s who.node name) (inode_of s who.node)) live refl)) h
answered_apart s later pid who (asked.Rename name new_node new_name flags) old new r live h = rename_apart s who.node (is_exchange flags) later pid name new_node new_name flags old new r live h
answered_apart s later pid who (asked.Link x y) old new r live h = answers_apart (view_at s who.node) (λ p x known told k. apart_to s (view_at s who.node) k.1 (apart_events s (view_at s who.node) _ (of_linking p.inode (inode_of s who.node)) live refl)) h
answered_apart s later pid who (asked.Create x y z w) old new r live h = answers_apart (view_at s who.node) (λ p made_file known told k. apart_to s (view_at s who.node) k.1 (created_apart s who.node made_file.is_new (cut_by y w) made_file.stat.num _ live (births_stay (born_if made_file.is_new s.nodes made_file.stat.num) _ made_file.stat.num made_file.stat.kind) refl)) h
answered_apart s later pid who (asked.Open x y) old new r live h = answers_apart (view_at s who.node) (λ p fd known told k. apart_to s (view_at s who.node) k.1 (opening_apart s who.node pid (cut_by x y) p fd live)) h
answered_apart s later pid who (asked.Read x y z w) old new r live h = answers_apart (view_at s who.node) (λ p x known told k. apart_is s (view_at s who.node) k.1) h
answered_apart s later pid who (asked.Write x y z w v) old new r live h = answers_apart (view_at s who.node) (λ p x known told k. apart_to s (view_at s who.node) k.1 (apart_events s (view_at s who.node) _ (of_writing p.inode) live refl)) h
answered_apart s later pid who (asked.Lseek x y z) old new r live h = answers_apart (view_at s who.node) (λ p x known told k. apart_is s (view_at s who.node) k.1) h
answered_apart s later pid who (asked.Fallocate x y z w) old new r live h = answers_apart (view_at s who.node) (λ p x known told k. apart_to s (view_at s who.node) k.1 (apart_events s (view_at s who.node) _ (of_writing p.inode) live refl)) h
answered_apart s later pid who (asked.CopyFileRange a b d e f i j) old new r live h = answers_apart (view_at s who.node) (λ p x known told k. apart_to s (view_at s who.node) k.1 (apart_events s (view_at s who.node) _ (of_copying x p.inode) live refl)) h
answered_apart s later pid who (asked.Forget x) old new r live h = apart_is s (view_at s who.node) h.2
answered_apart s later pid who (asked.BatchForget x) old new r live h = apart_is s (view_at s who.node) h.2
answered_apart s later pid who (asked.Flush x) old new r live h = apart_is s (view_at s who.node) h.2
answered_apart s later pid who (asked.Release x y) old new r live h = apart_is s (view_at s who.node) h.2
answered_apart s later pid who (asked.Fsync x) old new r live h = apart_is s (view_at s who.node) h.2
answered_apart s later pid who (asked.ReleaseDir x) old new r live h = apart_is s (view_at s who.node) h.2
answered_apart s later pid who asked.StatFs old new r live h = apart_is s (view_at s who.node) h.2
answered_apart s later pid who (asked.Init x y z w) old new r live h = apart_is s (view_at s who.node) h.2
answered_apart s later pid who asked.Destroy old new r live h = apart_is s (view_at s who.node) h.2
answered_apart s later pid who (asked.Interrupt x) old new r live h = apart_is s (view_at s who.node) h.2
answered_apart s later pid who (asked.Other x) old new r live h = apart_is s (view_at s who.node) h.2
