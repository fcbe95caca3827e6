-- Plans that are made step by step, and answers by their courses.
use Rattle.std.proofs.Common.{◌≡◌, Bool, false, inl, inr, ℕ, List, Option, Some, refl, sym, ap, subst, ◌∙◌}
use Rattle.std.specs.Prelude.{Result, Ok, Err, IsErrAnd, ℤ}
use Rattle.fuse.specs.declared.errno.Errno.TheVariants.{ENOMEM}
use Rattle.fuse.specs.declared.reply.Reply.{Reply}
use Rattle.fuse.specs.declared.request.Operation.{Operation}
use Rattle.machine.specs.Shown.{Shown}
use Rattle.course.specs.Course.{Course, Give, Ran}
use Rattle.course.specs.Courses.{closing_spare, writing}
use Rattle.course.specs.declared.fault.Fault.{Fault}
use Rattle.course.specs.declared.files.Made.{Made}
use Rattle.course.specs.declared.made.Cut.{Cut}
use Rattle.mount_tables.specs.Numbers.{is_reserved}
use Rattle.mount_requests.specs.Answers.{Answers, AnswersIfRoom, Failed, IsPlanned, NoRoom, Refused, Told, Unplanned}
use Rattle.mount_requests.specs.Failures.{and_then, error, failure_of}
use Rattle.mount_requests.specs.Asked.{is_exchange}
use Rattle.mount_requests.specs.Requests.{AnswersLookUp, AnswersLookUpBy, AnswersName, AnswersRename, AnswersRenameBy, IsAnswered, IsOfFiles, IsOfNames, OpensAs, making_open, put_by}
use Rattle.mount_requests.specs.Seen.{Seen}
use Rattle.mount_requests.specs.declared.failure.Failure.{Failure}
use Rattle.mount_requests.specs.declared.opening.Creation.{Creation}
use Rattle.mount_requests.specs.declared.opening.Opening.{Opening}
use Rattle.mount_requests.specs.declared.planning.NewName.{NewName}
use Rattle.mount_requests.specs.declared.requests.Caller.{Caller}

pub is_err : {A : Type 0} (r : Result A Failure) {e : Failure} → IsErrAnd r (λ y. y ≡ e) → r ≡ Err e
is_err (Err y) h = ap Err h
is_err (Ok x) h = absurd h

-- ---- plans

-- a step was planned, and what comes behind it
pub goes : {A B : Type 0} (m : Result A Failure) (f : A → Result B Failure) {x : A} (r : Result B Failure) → m ≡ Ok x → IsPlanned (f x) r → IsPlanned (and_then m f) r
goes {A} m f {x} r e h = subst (λ (z : Result A Failure). IsPlanned (and_then z f) r) (sym e) h

-- or it could not be
pub fails : {A B : Type 0} (m : Result A Failure) (f : A → Result B Failure) {e : Failure} (r : Result B Failure) → IsErrAnd r (λ y. y ≡ e) → IsPlanned m (Err e) → IsPlanned (and_then m f) r
fails {A} m f (Err y) is (inl h) = inl (subst (λ (z : Result A Failure). and_then z f ≡ Err y) (sym h) (ap Err (sym is)))
fails m f (Err y) is (inr h) = inr (is ∙ h)
fails m f (Ok x) is h = absurd is

-- or memory was refused
pub lacks : {A : Type 0} (plan : Result A Failure) (r : Result A Failure) → IsErrAnd r (λ y. y ≡ error ENOMEM) → IsPlanned plan r
lacks plan (Err y) is = inr is
lacks plan (Ok x) is = absurd is

-- ---- courses

-- an outcome is given
pub gave : {A : Type 0} {v : Shown} {x r : A} → r ≡ x → Ran v (Give x) r v
gave e = record { is = (e, refl) }

-- bytes are put at an offset
pub by_offset : (pid fd : ℕ) (bytes : List ℕ) (o : Option ℤ) (offset : ℤ) {old new : Shown} {r : Result ℕ Fault} → o ≡ Some offset → Ran old (writing pid fd bytes offset) r new → Ran old (put_by pid bytes fd o) r new
by_offset pid fd bytes o offset {old} {new} {r} e h = subst (λ (z : Option ℤ). Ran old (put_by pid bytes fd z) r new) (sym e) h

-- ---- answers

module _ {P A : Type 0} {s later : Seen} {old new : Shown} {plan : Result P Failure} {course : P → Course (Result A Fault)} {Shows : P → A → Seen → Result Reply Failure → Type 0} where
  -- nothing is done without a plan
  pub unplanned : {e : Failure} (r : Result Reply Failure) → IsErrAnd r (λ y. y ≡ e) → IsPlanned plan (Err e) → new ≡ old → later ≡ s → Answers s later old new plan course Shows r
  unplanned {e} r is (inl h) same known = Unplanned e h same known (is_err r is)
  unplanned {e} r is (inr h) same known = Refused same known (is_err r is ∙ ap Err h)

  -- memory was refused before
  pub refused : (r : Result Reply Failure) → IsErrAnd r (λ y. y ≡ error ENOMEM) → new ≡ old → later ≡ s → Answers s later old new plan course Shows r
  refused r is same known = Refused same known (is_err r is)

  -- or behind, for what was found
  pub no_room : {p : P} {x : A} (r : Result Reply Failure) → plan ≡ Ok p → IsErrAnd r (λ y. y ≡ error ENOMEM) → Ran old (course p) (Ok x) new → later ≡ s → AnswersIfRoom s later old new plan course Shows r
  no_room {p} {x} r is_planned is h known = NoRoom p x is_planned h known (is_err r is)

  -- the course failed
  pub failed : {p : P} {e : Fault} (r : Result Reply Failure) → plan ≡ Ok p → IsErrAnd r (λ y. y ≡ failure_of e) → Ran old (course p) (Err e) new → later ≡ s → Answers s later old new plan course Shows r
  failed {p} {e} r is_planned is h known = Failed p e is_planned h known (is_err r is)

  -- the outcome is shown
  pub told : {p : P} {x : A} {r : Result Reply Failure} → plan ≡ Ok p → Ran old (course p) (Ok x) new → Shows p x later r → Answers s later old new plan course Shows r
  told {p} {x} is_planned h shows = Told p x is_planned h shows

-- a plan, and an answer by what was planned
pub by_plan : {P A : Type 0} {s later : Seen} {old new : Shown} {plan : Result P Failure} {course : P → Course (Result A Fault)} {Shows : P → A → Seen → Result Reply Failure → Type 0} {p : P} {r : Result Reply Failure} → plan ≡ Ok p → Answers s later old new (Ok p) course Shows r → Answers s later old new plan course Shows r
by_plan {P} {s = s} {later = later} {old = old} {new = new} {course = course} {Shows = Shows} {r = r} e h = subst (λ (z : Result P Failure). Answers s later old new z course Shows r) (sym e) h

-- ---- by what a request was

pub opens_as : (s later : Seen) (pid node : ℕ) (cut : Cut) {o p : Opening} {old new : Shown} {r : Result Reply Failure} → o ≡ p → OpensAs s later pid node cut (Ok p) old new r → OpensAs s later pid node cut (Ok o) old new r
opens_as s later pid node cut {old = old} {new = new} {r = r} e h = subst (λ (x : Opening). OpensAs s later pid node cut (Ok x) old new r) (sym e) h

pub not_reserved : (s later : Seen) (pid node : ℕ) (name : List ℕ) {old new : Shown} {r : Result Reply Failure} → is_reserved node name ≡ false → AnswersName s later pid node name old new r → AnswersLookUp s later pid node name old new r
not_reserved s later pid node name {old} {new} {r} e h = subst (λ (b : Bool). AnswersLookUpBy b s later pid node name old new r) (sym e) h

-- a rename, as its flags say
pub renames_by : (s later : Seen) (pid node : ℕ) (name : List ℕ) (new_node : ℕ) (new_name : List ℕ) (flags : ℕ) (old new : Shown) (b : Bool) (r : Result Reply Failure) → is_exchange flags ≡ b → AnswersRenameBy b s later pid node name new_node new_name flags old new r → AnswersRename s later pid node name new_node new_name flags old new r
renames_by s later pid node name new_node new_name flags old new b r e h = subst (λ (x : Bool). AnswersRenameBy x s later pid node name new_node new_name flags old new r) (sym e) h

pub answers : (s later : Seen) (pid : ℕ) (who : Caller) {o p : Operation} (old new : Shown) (r : Result Reply Failure) → o ≡ p → IsAnswered s later pid who p old new r → IsAnswered s later pid who o old new r
answers s later pid who old new r e h = subst (λ (x : Operation). IsAnswered s later pid who x old new r) (sym e) h

pub answers_names : (s later : Seen) (pid : ℕ) (who : Caller) {o p : Operation} (old new : Shown) (r : Result Reply Failure) → o ≡ p → IsOfNames s later pid who p old new r → IsOfNames s later pid who o old new r
answers_names s later pid who old new r e h = subst (λ (x : Operation). IsOfNames s later pid who x old new r) (sym e) h

pub answers_files : (s later : Seen) (pid node : ℕ) {o p : Operation} (old new : Shown) (r : Result Reply Failure) → o ≡ p → IsOfFiles s later pid node p old new r → IsOfFiles s later pid node o old new r
answers_files s later pid node old new r e h = subst (λ (x : Operation). IsOfFiles s later pid node x old new r) (sym e) h

-- the same process, and the same state
pub answered_as : (s later : Seen) {pid process : ℕ} (who : Caller) (operation : Operation) {old before : Shown} (new : Shown) (r : Result Reply Failure) → process ≡ pid → before ≡ old → IsAnswered s later process who operation before new r → IsAnswered s later pid who operation old new r
answered_as s later {pid} {process} who operation {old} {before} new r a b h = subst (λ (p : ℕ). IsAnswered s later p who operation old new r) a (subst (λ (v : Shown). IsAnswered s later process who operation v new r) b h)

pub spare_by : (pid : ℕ) (is_open was_open : Bool) (made : Made) {old new : Shown} {r : Result Made Fault} → is_open ≡ was_open → Ran old (closing_spare pid is_open made) r new → Ran old (closing_spare pid was_open made) r new
spare_by pid is_open was_open made {old} {new} {r} e h = subst (λ (z : Bool). Ran old (closing_spare pid z made) r new) e h

pub making_as : (s u : Seen) (pid : ℕ) (creation : Creation) (p : NewName) {old new : Shown} {r : Result Made Fault} → u ≡ s → Ran old (making_open u pid creation p) r new → Ran old (making_open s pid creation p) r new
making_as s u pid creation p {old} {new} {r} e h = subst (λ (v : Seen). Ran old (making_open v pid creation p) r new) e h
