-- What is known where a transaction begins, and where none could.
use Rattle.std.proofs.Common.{◌≡◌, ℕ, ◌+◌, arith, List, refl, sym, ap, subst, ◌∙◌}
use Rattle.std.specs.Prelude.{Option, Some, None, is_some, Result, Ok, Err, IfErr, IsErrAnd, Bool, true, false, nat_lt, length, ◌-◌, if◌then◌else◌}
use Rattle.ids.specs.declared.limits.TheConstants.{NAME_LIMIT}
use Rattle.fuse.specs.declared.errno.Errno.TheVariants as errno
use Rattle.fuse.specs.declared.reply.Reply.{Reply}
use Rattle.std.specs.Cmp.{nat_cmp_total}
use Rattle.std.specs.Cmp.Lexicographic.{slice_cmp}
use Rattle.std.specs.Ordering.{nat_cmp}
use Rattle.std.proofs.lemmas.Cmp.{nat_list_cmp_total}
use Rattle.model.specs.FiniteMap as map
use Rattle.model.proofs.Laws.{get_same, name_exact}
use Rattle.machine.specs.Shown.{Shown}
use Rattle.mount_tables.specs.Rows.{replaced}
use Rattle.mount_tables.specs.Views.{started, unnamed, view_of_process}
use Rattle.mount_tables.specs.declared.processes.Role.{Role}
use Rattle.mount_tables.specs.declared.processes.Role.TheVariants.{Idle, Of}
use Rattle.mount_tables.specs.declared.views.State.TheVariants.{GivenUp}
use Rattle.mount_tables.specs.declared.views.View.{View}
use Rattle.mount_tables.specs.Numbers.{root_node}
use Rattle.mount_requests.specs.Failures.{error}
use Rattle.mount_requests.specs.Seen.{Seen}
use Rattle.mount_requests.specs.declared.failure.Failure.{Failure}
use Rattle.mounted.specs.Controls.{BeganBy, Begins, IsTaken, NotBegun, ShowsNode, control_of, level_of, level_planned, number_in, skipped, with_roles, with_view}
use Rattle.mounted.specs.Controls.Begins.{Begun, Failed, Lacking, Unplanned}
use Rattle.mounted.specs.Controls.NotBegun.{NoProcess, NotDone}
use Rattle.mounted.specs.Served.{Lacks}
use Rattle.mounted.specs.Controls.IsTaken.{Made, Waits}
use Rattle.mounted.specs.Sound.{IsSound, RolesStaySound}
use Rattle.mounted.proofs.Maps.{insert_over, insert_same, remove_inserted}
use Rattle.mounted.proofs.Sound.{Roles, Views, sound_begun}

abbrev pub Names : Type 0
Names = map.FinMap (slice_cmp nat_cmp) ℕ

-- all but views and roles stands
abbrev pub with_those : Seen → Views → Names → ℕ → Roles → Seen
with_those s views names next roles = record s { views = views; names = names; next_view = next; roles = roles }

pub same_those : (s : Seen) {views views' : Views} {names names' : Names} {next next' : ℕ} {roles roles' : Roles} → views ≡ views' → names ≡ names' → next ≡ next' → roles ≡ roles' → with_those s views names next roles ≡ with_those s views' names' next' roles'
same_those s a b c d i = with_those s (a i) (b i) (c i) (d i)

-- a view has a number and a name, and has not begun
abbrev pub added : Seen → List ℕ → ℕ → ℕ → Seen
added s name first level = record s {
  views = map.insert s.views s.next_view (view_of_process first level GivenUp);
  names = map.insert s.names name s.next_view;
  next_view = s.next_view + 1;
}

module _ (s later : Seen) (name : List ℕ) (first level : ℕ) (rest : later ≡ with_roles (added s name first level) later.roles) where
  abbrev view : View
  view = view_of_process first level GivenUp

  -- its transaction has begun
  pub begun_known : (pid : ℕ) {views : Views} {names : Names} {next : ℕ} {roles : Roles} → views ≡ started pid s.next_view (map.get later.views s.next_view) later.views → names ≡ later.names → next ≡ later.next_view
      → roles ≡ replaced pid (Of s.next_view) (map.get later.roles pid) later.roles → with_those later views names next roles ≡ with_view (with_roles s later.roles) name level pid
  begun_known pid {views} {names} {next} {roles} vs ns nx rs =
      ap (λ (z : Seen). with_those z views names next roles) rest
      ∙ same_those s (vs ∙ ap (λ (z : Seen). started pid s.next_view (map.get z.views s.next_view) z.views) rest ∙ ap (λ (o : Option View). started pid s.next_view o (map.insert s.views s.next_view view)) (get_same s.views s.next_view view) ∙ insert_over nat_cmp_total map.nat_cmp-IsAntisymmetric s.views s.next_view view _) (ns ∙ ap (λ (z : Seen). z.names) rest) (nx ∙ ap (λ (z : Seen). z.next_view) rest) rs

  -- or it could not, and the name is free again
  pub not_begun_known : map.get s.views s.next_view ≡ None → map.get s.names name ≡ None → {views : Views} {names : Names} {next : ℕ} {roles : Roles} → views ≡ unnamed (map.get later.names name) later.views → names ≡ map.remove later.names name → next ≡ later.next_view
      → roles ≡ later.roles → with_those later views names next roles ≡ with_roles (skipped s) later.roles
  not_begun_known free unused {views} {names} {next} {roles} vs ns nx rs =
      ap (λ (z : Seen). with_those z views names next roles) rest
      ∙ same_those s (vs ∙ ap (λ (z : Seen). unnamed (map.get z.names name) z.views) rest ∙ ap (λ (o : Option ℕ). unnamed o (map.insert s.views s.next_view view)) (insert_same nat_list_cmp_total name_exact s.names name s.next_view) ∙ remove_inserted nat_cmp_total map.nat_cmp-IsAntisymmetric s.views s.next_view view free) (ns ∙ ap (λ (z : Seen). map.remove z.names name) rest ∙ remove_inserted nat_list_cmp_total name_exact s.names name s.next_view unused) (nx ∙ ap (λ (z : Seen). z.next_view) rest) rs

-- ---- who serves whom

-- a process that was taken waits
pub waits : {level pid : ℕ} {roles known : Roles} {v w : Shown} → IsTaken level roles v pid known w → map.get known pid ≡ Some (Idle level)
waits {level} {pid} {roles} (Waits has same still) = ap (λ (r : Roles). map.get r pid) same ∙ has
waits {level} {pid} {roles} (Made ran child more) = ap (λ (r : Roles). map.get r pid) more ∙ get_same roles pid (Idle level)

pub view_sound : (s later : Seen) (name : List ℕ) (level pid : ℕ) (known : Roles) {v w : Shown} → RolesStaySound s.roles v known w → map.get known pid ≡ Some (Idle level) → later ≡ with_view (with_roles s known) name level pid → IsSound s v → IsSound later w
view_sound s later name level pid known {v} {w} sound idle is was =
    subst (λ (z : Seen). IsSound z w) (sym is)
    (sound_begun (with_roles s known) w pid level name _ (sound s refl was) idle refl refl (with_view (with_roles s known) name level pid) refl refl (ap (λ (o : Option Role). replaced pid (Of s.next_view) o known) idle))

-- a number of a view is given to none
pub skipped_sound : (s later : Seen) (known : Roles) {v w : Shown} → RolesStaySound s.roles v known w → later ≡ with_roles (skipped s) known → IsSound s v → IsSound later w
skipped_sound s later known {v} {w} sound is was =
    let h = sound s refl was in
    subst (λ (z : Seen). IsSound z w) (sym is) (record {
      views = h.views;
      levels = h.levels;
      made = h.made;
      waiting = h.waiting;
      numbers = λ number view there. (let low = h.numbers number view there in omega arith);
      first = h.first;
      levels_first = h.levels_first;
    })

-- ---- what is told of it

pub not_made : (s later : Seen) (level : ℕ) {e : Failure} {v w : Shown} (r : Result ℕ Failure) → IsErrAnd r (λ y. y ≡ e) → Lacks (level + 1) s later v w e → IfErr r (λ f. NotBegun level s.roles later.roles v w f)
not_made s later level (Err y) is h = NoProcess h.0 h.1 (ap (λ (z : Seen). z.roles) h.2) (is ∙ h.3)
not_made s later level (Ok x) is h = absurd is

pub not_planned : (s later : Seen) (name : List ℕ) {e : Failure} {v w : Shown} (r : Result Reply Failure) → Err e ≡ level_planned s name → w ≡ v → later ≡ s → IsErrAnd r (λ y. y ≡ e) → Begins s later name v w r
not_planned s later name {e} (Err y) planned same known is = Unplanned e (sym planned) same known (ap Err is)
not_planned s later name (Ok x) planned same known is = absurd is

module _ (s later : Seen) (name : List ℕ) (level : ℕ) (planned : Ok level ≡ level_planned s name) {v w : Shown} {roles known : Roles} (same : roles ≡ s.roles) where
  pub has_begun : (pid : ℕ) (r : Result Reply Failure) → BeganBy level roles known v w pid → later ≡ with_view (with_roles s known) name level pid → ShowsNode (Ok (root_node s.next_view)) r → Begins s later name v w r
  has_begun pid r h is shows = Begun level pid known h.0 (sym planned) (subst (λ (z : Roles). IsTaken level z v pid known h.0) same h.1) h.2 is shows

  pub has_not_begun : (f : Failure) → NotBegun level roles known v w f → later ≡ with_roles (skipped s) known → Begins s later name v w (Err f)
  has_not_begun f (NoProcess e ran none is) known_is = Lacking level e (sym planned) ran (known_is ∙ ap (with_roles (skipped s)) (none ∙ same)) (ap Err is)
  has_not_begun f (NotDone pid mid e taken ran is) known_is = Failed level pid known mid e (sym planned) (subst (λ (z : Roles). IsTaken level z v pid known mid) same taken) ran known_is (ap Err is)

  pub idle_then : (pid : ℕ) → BeganBy level roles known v w pid → map.get known pid ≡ Some (Idle level)
  idle_then pid h = waits h.1

none_by : (o : Option ℕ) → is_some o ≡ false → o ≡ None
none_by None is = refl
none_by (Some x) is = absurd cc

-- a name for which a transaction may begin leads nowhere
pub unused : (s : Seen) (name : List ℕ) (level : ℕ) → Ok level ≡ level_planned s name → map.get s.names name ≡ None
unused s name level planned = by_length (nat_lt (NAME_LIMIT - 4) (length name)) (is_some (control_of name)) planned
  where
    by_last : (b : Bool) → is_some (number_in s name) ≡ b → Ok level ≡ (if b then Err (error errno.EEXIST) else Ok (level_of name)) → map.get s.names name ≡ None
    by_last true is planned = absurd cc
    by_last false is planned = none_by (number_in s name) is

    by_length : (a b : Bool) → Ok level ≡ (if a then Err (error errno.ENAMETOOLONG) else if b then Err (error errno.EINVAL) else if is_some (number_in s name) then Err (error errno.EEXIST) else Ok (level_of name)) → map.get s.names name ≡ None
    by_length true b planned = absurd cc
    by_length false true planned = absurd cc
    by_length false false planned = by_last (is_some (number_in s name)) refl planned
