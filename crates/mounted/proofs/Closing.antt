-- Files of a view that are closed, one after the other.
use Rattle.std.proofs.Common.{◌≡◌, ◌≢◌, ◌⊎◌, inl, inr, ℕ, Bool, true, false, List, [], ◌∷◌, ◌++◌, refl, sym, ap, subst, ◌∙◌}
use Rattle.std.specs.Prelude.{Option, Some, Result, ◌==◌, ◌&&◌, ◌||◌}
use Rattle.std.specs.List.{AllByRecursion, list_any}
use Rattle.std.specs.Result.{is_ok}
use Rattle.std.proofs.lemmas.Bool.{cases_eq, eq-eqb, eqb-true}
use Rattle.ids.specs.declared.call.Call.TheVariants as call
use Rattle.std.specs.Ordering.{nat_cmp}
use Rattle.model.specs.FiniteMap as map
use Rattle.model.proofs.Laws.{removed_other}
use Rattle.machine.specs.Shown.{Shown}
use Rattle.course.specs.Course.{Ran}
use Rattle.course.specs.Courses.{doing}
use Rattle.course.specs.declared.fault.Fault.{Fault}
use Rattle.mount_tables.specs.declared.open_files.OpenFile.{OpenFile}
use Rattle.mount_tables.specs.Files.{NoneIn}
use Rattle.mount_requests.specs.Seen.{Seen}
use Rattle.mounted.proofs.Sound.{left_in}
use Rattle.mounted.specs.Controls.{Closed, ClosedIf, ClosesAll, IsOpenIn, IsWithoutFiles, OnlyFiles}

and_assoc : (a b c : Bool) → ((a && b) && c) ≡ (a && (b && c))
and_assoc true b c = refl
and_assoc false b c = refl

and_true : (a : Bool) → (a && true) ≡ a
and_true true = refl
and_true false = refl

-- one more, behind the others
pub closes_more : (pid : ℕ) (fds : List ℕ) (fd : ℕ) (all : Bool) (r : Result (Unit {0}) Fault) (a b c : Shown) → ClosesAll pid fds all a b → Ran b (doing pid (call.Close fd)) r c → ClosesAll pid (fds ++ fd ∷ []) (all && is_ok r) a c
closes_more pid [] fd all r a b c h ran =
    (r, true, c, subst (λ (v : Shown). Ran v (doing pid (call.Close fd)) r c) h.1 ran, ap (λ (x : Bool). x && is_ok r) h.0 ∙ sym (and_true (is_ok r)), (refl, refl))
closes_more pid (f ∷ fds) fd all r a b c h ran =
    (h.0, h.1 && is_ok r, h.2, h.3, ap (λ (x : Bool). x && is_ok r) h.4 ∙ and_assoc (is_ok h.0) h.1 (is_ok r), closes_more pid fds fd h.1 r h.2 b c h.5 ran)

listed_last : (fds : List ℕ) (fd : ℕ) (p : ℕ → Bool) → p fd ≡ true → list_any p (fds ++ fd ∷ []) ≡ true
listed_last [] fd p h = ap (λ (b : Bool). b || false) h
listed_last (f ∷ fds) fd p h = ap (λ (b : Bool). p f || b) (listed_last fds fd p h) ∙ or_true (p f)
  where
    or_true : (b : Bool) → (b || true) ≡ true
    or_true true = refl
    or_true false = refl

still_by : (b : Bool) (xs ys : Bool) → (xs ≡ true → ys ≡ true) → (b || xs) ≡ true → (b || ys) ≡ true
still_by true xs ys more h = refl
still_by false xs ys more h = more h

listed_still : (fds : List ℕ) (fd : ℕ) (p : ℕ → Bool) → list_any p fds ≡ true → list_any p (fds ++ fd ∷ []) ≡ true
listed_still [] fd p h = absurd cc
listed_still (f ∷ fds) fd p h = still_by (p f) (list_any p fds) (list_any p (fds ++ fd ∷ [])) (listed_still fds fd p) h

all_with : (P : ℕ → Type 0) (fds : List ℕ) (fd : ℕ) → AllByRecursion P fds → P fd → AllByRecursion P (fds ++ fd ∷ [])
all_with P [] fd h k = (k, tt)
all_with P (f ∷ fds) fd h k = (h.0, all_with P fds fd h.1 k)

-- ---- while the loop goes on

-- Some files of a view are known no more, and all others stand.
pub record AreLeft (s now : Seen) (view : ℕ) : Type 0 where
  pub others : (handle : ℕ) (file : OpenFile) → map.get s.files handle ≡ Some file → file.view ≢ view → map.get now.files handle ≡ Some file
  pub were : (handle : ℕ) (file : OpenFile) → map.get now.files handle ≡ Some file → map.get s.files handle ≡ Some file
  pub next : now.next_file ≡ s.next_file

-- those that went were closed
abbrev pub ClosedSoFar : Bool → Seen → Seen → ℕ → ℕ → ℕ → Bool → Shown → Shown → Type 0
ClosedSoFar true s now view pid stepper all old new = (fds : List ℕ)
    × ((handle : ℕ) (file : OpenFile) → map.get s.files handle ≡ Some file → file.view ≡ view → file.pid ≡ pid → (map.get now.files handle ≡ Some file) ⊎ (list_any (λ listed. listed == file.fd) fds ≡ true))
    × AllByRecursion (IsOpenIn s view pid) fds
    × ClosesAll stepper fds all old new
ClosedSoFar false s now view pid stepper all old new = (all ≡ true) × (new ≡ old)

pub left_first : (s : Seen) (view : ℕ) → AreLeft s s view
left_first s view = record { others = λ handle file h ne. h; were = λ handle file h. h; next = refl }

pub closed_first : (b : Bool) (s : Seen) (view pid stepper : ℕ) (v : Shown) → ClosedSoFar b s s view pid stepper true v v
closed_first true s view pid stepper v = ([], (λ handle file h k p. inl h), tt, (refl, refl))
closed_first false s view pid stepper v = (refl, refl)

same_file : {f g : OpenFile} (o : Option OpenFile) → o ≡ Some f → o ≡ Some g → f ≡ g
same_file o a b = cc

module _ (s now later : Seen) (view handle : ℕ) (file : OpenFile) (there : map.get now.files handle ≡ Some file) (of_view : file.view ≡ view) (less : later.files ≡ map.remove now.files handle) where
  gone_on : (q : ℕ) (f : OpenFile) → q ≢ handle → map.get now.files q ≡ Some f → map.get later.files q ≡ Some f
  gone_on q f ne h = ap (λ (m : map.FinMap nat_cmp OpenFile). map.get m q) less ∙ (removed_other now.files handle q ne ∙ h)

  pub left_less : AreLeft s now view → later.next_file ≡ now.next_file → AreLeft s later view
  left_less left next = record {
    others = λ q f h ne. gone_on q f (λ e. ne (ap (λ (x : OpenFile). x.view) (same_file (map.get s.files q) h (ap (map.get s.files) e ∙ left.were handle file there)) ∙ of_view)) (left.others q f h ne);
    were = λ q f h. left.were q f (left_in now.files handle q f (sym (ap (λ (m : map.FinMap nat_cmp OpenFile). map.get m q) less) ∙ h)).0;
    next = next ∙ left.next;
  }

  module _ (pid stepper : ℕ) (all closed : Bool) (old mid new : Shown) (was : map.get s.files handle ≡ Some file) where
    closed_that : (r : Result (Unit {0}) Fault) → ClosedSoFar true s now view pid stepper all old mid → (file.pid == pid) ≡ true → Ran mid (doing stepper (call.Close file.fd)) r new → closed ≡ is_ok r → ClosedSoFar true s later view pid stepper (all && closed) old new
    closed_that r h same ran is = (
      h.0 ++ file.fd ∷ [],
      (λ q f k v p. by q f k v p (cases_eq q handle)),
      all_with (IsOpenIn s view pid) h.0 file.fd h.2 (record { handle = handle; file = file; is = was; view_is = of_view; pid_is = eqb-true file.pid pid same; fd_is = refl }),
      subst (λ (b : Bool). ClosesAll stepper (h.0 ++ file.fd ∷ []) (all && b) old new) (sym is) (closes_more stepper h.0 file.fd all r old mid new h.3 ran),
    )
      where
        by : (q : ℕ) (f : OpenFile) → map.get s.files q ≡ Some f → f.view ≡ view → f.pid ≡ pid → (q ≡ handle) ⊎ (q ≢ handle) → (map.get later.files q ≡ Some f) ⊎ (list_any (λ listed. listed == f.fd) (h.0 ++ file.fd ∷ []) ≡ true)
        by q f k v p (inl e) = inr (listed_last h.0 file.fd (λ listed. listed == f.fd) (ap (λ (n : ℕ). file.fd == n) (ap (λ (x : OpenFile). x.fd) (same_file (map.get s.files q) k (ap (map.get s.files) e ∙ was))) ∙ eq-eqb file.fd file.fd refl))
        by q f k v p (inr ne) = still (h.1 q f k v p)
          where
            still : (map.get now.files q ≡ Some f) ⊎ (list_any (λ listed. listed == f.fd) h.0 ≡ true) → (map.get later.files q ≡ Some f) ⊎ (list_any (λ listed. listed == f.fd) (h.0 ++ file.fd ∷ []) ≡ true)
            still (inl x) = inl (gone_on q f ne x)
            still (inr x) = inr (listed_still h.0 file.fd (λ listed. listed == f.fd) x)

    not_closed : ClosedSoFar true s now view pid stepper all old mid → (file.pid == pid) ≡ false → closed ≡ true → new ≡ mid → ClosedSoFar true s later view pid stepper (all && closed) old new
    not_closed h other is same = (
      h.0,
      (λ q f k v p. by q f k v p (cases_eq q handle)),
      h.2,
      subst (λ (v : Shown). ClosesAll stepper h.0 (all && closed) old v) (sym same) (subst (λ (b : Bool). ClosesAll stepper h.0 b old mid) (sym (ap (λ (b : Bool). all && b) is ∙ and_true all)) h.3),
    )
      where
        by : (q : ℕ) (f : OpenFile) → map.get s.files q ≡ Some f → f.view ≡ view → f.pid ≡ pid → (q ≡ handle) ⊎ (q ≢ handle) → (map.get later.files q ≡ Some f) ⊎ (list_any (λ listed. listed == f.fd) h.0 ≡ true)
        by q f k v p (inl e) = absurd (true_false (sym (eq-eqb file.pid pid (ap (λ (x : OpenFile). x.pid) (same_file (map.get s.files q) (ap (map.get s.files) e ∙ was) k) ∙ p)) ∙ other))
          where
            true_false : true ≡ false → ⊥
            true_false e = cc
        by q f k v p (inr ne) = still (h.1 q f k v p)
          where
            still : (map.get now.files q ≡ Some f) ⊎ (list_any (λ listed. listed == f.fd) h.0 ≡ true) → (map.get later.files q ≡ Some f) ⊎ (list_any (λ listed. listed == f.fd) h.0 ≡ true)
            still (inl x) = inl (gone_on q f ne x)
            still (inr x) = inr x

    by_pid : (b : Bool) → (file.pid == pid) ≡ b → ClosedSoFar true s now view pid stepper all old mid → ClosedIf b stepper file.fd closed mid new → ClosedSoFar true s later view pid stepper (all && closed) old new
    by_pid true same h k = closed_that k.0 h same k.1 k.2
    by_pid false other h k = not_closed h other k.0 k.1

    -- a file more is closed, where it may be open
    pub closed_more : (b : Bool) → ClosedSoFar b s now view pid stepper all old mid → ClosedIf (b && file.pid == pid) stepper file.fd closed mid new → ClosedSoFar b s later view pid stepper (all && closed) old new
    closed_more true h k = by_pid (file.pid == pid) refl h k
    closed_more false h k = (ap (λ (b : Bool). b && closed) h.0 ∙ k.0, k.1 ∙ h.1)

-- none is left
module _ (s now : Seen) (view : ℕ) (none : NoneIn view now.files) where
  pub without_files : AreLeft s now view → IsWithoutFiles s now view
  without_files left = record {
    others = left.others;
    none = λ handle file h. (left.were handle file h, none handle file h);
    next = left.next;
  }

  pub all_closed : (b : Bool) (pid stepper : ℕ) (all : Bool) (old new : Shown) → ClosedSoFar b s now view pid stepper all old new → Closed b s view pid stepper all old new
  all_closed true pid stepper all old new h = (h.0, record { each = λ fd o. each fd o (h.1 o.handle o.file o.is o.view_is o.pid_is); only = h.2 }, h.3)
    where
      each : (fd : ℕ) (o : IsOpenIn s view pid fd) → (map.get now.files o.handle ≡ Some o.file) ⊎ (list_any (λ listed. listed == o.file.fd) h.0 ≡ true) → list_any (λ listed. listed == fd) h.0 ≡ true
      each fd o (inl there) = absurd (none o.handle o.file there o.view_is)
      each fd o (inr listed) = subst (λ (n : ℕ). list_any (λ listed. listed == n) h.0 ≡ true) o.fd_is listed
  all_closed false pid stepper all old new h = h

-- what stands but for what is open
pub only_more : (s now later : Seen) → OnlyFiles s now → later ≡ record now { files = later.files; handles = later.handles; next_file = later.next_file } → later.next_file ≡ now.next_file → OnlyFiles s later
only_more s now later only rest next =
    rest
    ∙ ap (λ (n : ℕ). record now { files = later.files; handles = later.handles; next_file = n }) next
    ∙ ap (λ (z : Seen). record z { files = later.files; handles = later.handles }) only

-- a file more
pub go_on : (s now later : Seen) (view handle : ℕ) (file : OpenFile) (pid stepper by : ℕ) (b all closed now_all : Bool) (old mid new : Shown) → AreLeft s now view → OnlyFiles s now → ClosedSoFar b s now view pid stepper all old mid
    → map.get now.files handle ≡ Some file → file.view ≡ view → later.files ≡ map.remove now.files handle → later.next_file ≡ now.next_file → later ≡ record now { files = later.files; handles = later.handles; next_file = later.next_file }
    → by ≡ stepper → ClosedIf (b && file.pid == pid) by file.fd closed mid new → now_all ≡ (all && closed) → AreLeft s later view × OnlyFiles s later × ClosedSoFar b s later view pid stepper now_all old new
go_on s now later view handle file pid stepper by b all closed now_all old mid new left only so_far there of_view less next rest is_by closing is = (
  left_less s now later view handle file there of_view less left next,
  only_more s now later only rest next,
  subst (λ (a : Bool). ClosedSoFar b s later view pid stepper a old new) (sym is)
      (closed_more s now later view handle file there of_view less pid stepper all closed old mid new (left.were handle file there) b so_far
      (subst (λ (p : ℕ). ClosedIf (b && file.pid == pid) p file.fd closed mid new) is_by closing)),
)
