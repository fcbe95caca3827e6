-- What each request does to processes and views leaves them sound.
use Rattle.std.proofs.Common.{◌≡◌, ◌≢◌, ℕ, ◌+◌, ◌≤◌, arith, Bool, true, false, refl, sym, ap, subst, ◌∙◌}
use Rattle.std.specs.Prelude.{Option, Some, None, Result, Ok, Err, nat_lt, ◌==◌, if◌then◌else◌}
use Rattle.model.specs.FiniteMap as map
use Rattle.ids.specs.declared.aspect.Why.{Why}
use Rattle.machine.specs.Shown.{Shown}
use Rattle.course.specs.Hands.{IsChild, Stand}
use Rattle.course.specs.declared.fault.Fault.{Fault}
use Rattle.course.specs.declared.fault.Fault.TheVariants as fault
use Rattle.fuse.specs.declared.reply.Reply.{Reply}
use Rattle.mount_tables.specs.Views.{aborted, aborted_if, standing}
use Rattle.mount_tables.specs.Processes.{let_go}
use Rattle.mount_tables.specs.declared.open_files.OpenFile.{OpenFile}
use Rattle.mount_tables.specs.declared.processes.Role.{Role}
use Rattle.mount_tables.specs.declared.processes.Role.TheVariants.{Holder, Idle, Of}
use Rattle.mount_tables.specs.declared.views.State.{State}
use Rattle.mount_tables.specs.declared.views.State.TheVariants.{Live, Aborted, Committed, GivenUp}
use Rattle.mount_tables.specs.declared.views.View.{View}
use Rattle.fuse.specs.declared.request.Time.{Time}
use Rattle.view_times.specs.Known.{Known}
use Rattle.mount_requests.specs.Later.{with_aborted}
use Rattle.mount_requests.specs.Seen.{Seen}
use Rattle.mount_requests.specs.Times.{at_time}
use Rattle.mount_requests.specs.declared.failure.Failure.{Failure}
use Rattle.mount_requests.specs.declared.failure.Failure.TheVariants as failure
use Rattle.mounted.specs.declared.control.Order.{Order}
use Rattle.mounted.specs.Controls.{ended, state_by, times_by, with_roles}
use Rattle.mount_tables.specs.Files.{closed_once, key_of, unlinked}
use Rattle.mount_requests.specs.Found.{file_at}
use Rattle.mounted.specs.Served.{closed_by, kept_by, less_held, noted, released_by}
use Rattle.mounted.specs.Sound.{IsFor, IsSound, RolesStaySound, StaysSound}
use Rattle.mount_requests.specs.Keeping.{Keeps}
use Rattle.mount_requests.proofs.Keeping.{let_go_kept}
use Rattle.mounted.proofs.Sound.{AreThere, Roles, Views, kept_is, sound_kept, sound_made, sound_stands, there_as, there_same}

-- ---- steps

pub stand_same : (v : Shown) → Stand v v
stand_same v = record { made = omega arith; priority = λ pid le. refl }

pub stand_is : {v w : Shown} → w ≡ v → Stand v w
stand_is {v} e = subst (λ (x : Shown). Stand v x) (sym e) (stand_same v)

pub stand_then : {u v w : Shown} → Stand u v → Stand v w → Stand u w
stand_then a b = record {
  made = (let x = a.made in let y = b.made in omega arith);
  priority = λ pid le. b.priority pid (let x = a.made in omega arith) ∙ a.priority pid le;
}

-- ---- what is known stands

pub sound_same : {s later : Seen} {v w : Shown} → later ≡ s → Stand v w → StaysSound s v later w
sound_same {s} {later} {v} {w} e stand was = subst (λ (z : Seen). IsSound z w) (sym e) (sound_stands s v w was stand)

pub keeps_sound : {s later : Seen} {v w : Shown} → Keeps s later → Stand v w → StaysSound s v later w
keeps_sound {s} {later} {v} {w} k stand was = sound_kept s later v w was (there_same k.views) k.next k.roles stand

pub sound_then : {s known later : Seen} {u v w : Shown} → StaysSound s u known v → StaysSound known v later w → StaysSound s u later w
sound_then a b was = b (a was)

-- ---- roles

own_roles : (s : Seen) (roles : Roles) → s.roles ≡ roles → record s { roles = roles } ≡ s
own_roles s roles e = ap (λ (r : Roles). record s { roles = r }) (sym e)

pub roles_same : {roles known : Roles} {v w : Shown} → known ≡ roles → Stand v w → RolesStaySound roles v known w
roles_same {roles} {known} {v} {w} e stand s is was = sound_same (own_roles s known (is ∙ sym e)) stand was

pub roles_then : {roles known later : Roles} {u v w : Shown} → RolesStaySound roles u known v → RolesStaySound known v later w → RolesStaySound roles u later w
roles_then {known = known} a b s is was = b (record s { roles = known }) refl (a s is was)

no_view : (level : ℕ) (role : Role) → IsFor level role → (view : ℕ) → role ≢ Of view
no_view level (Idle wanted) is view e = cc
no_view level (Holder used) is view e = cc
no_view level (Of other) is view e = is

its_level : (level : ℕ) (role : Role) → IsFor level role → (wanted : ℕ) → role ≡ Idle wanted → wanted ≡ level
its_level level (Idle other) is wanted e = (let same : other ≡ wanted = cc in sym same) ∙ is
its_level level (Holder used) is wanted e = absurd cc
its_level level (Of other) is wanted e = absurd is

-- the first process of a priority made one
pub roles_made : {roles : Roles} {v w : Shown} (level pid : ℕ) (role : Role) → level ≤ 7 → IsFor level role → IsChild v (level + 1) pid w → Stand v w → RolesStaySound roles v (map.insert roles pid role) w
roles_made {roles} {v} {w} level pid role low for child stand s is was =
    subst (λ (r : Roles). IsSound (record s { roles = map.insert r pid role }) w) is
    (sound_made s v w (level + 1) pid role was child stand (no_view level role for)
    (λ wanted e. was.levels_first level (omega (arith, low)) ∙ sym (its_level level role for wanted e)))

-- from the roles to all that is known
pub stays_by_roles : {s later : Seen} {v w : Shown} → RolesStaySound s.roles v later.roles w → later ≡ with_roles s later.roles → StaysSound s v later w
stays_by_roles {s} {later} {v} {w} h e was = subst (λ (z : Seen). IsSound z w) (sym e) (h s refl was)

-- ---- views that stand otherwise

standing_there : (views : Views) (state : State) (number : ℕ) (o : Option View) → map.get views number ≡ o → AreThere views (standing state number o views)
standing_there views state number None is = there_same refl
standing_there views state number (Some view) is = there_as views number view (record view { state = state }) is refl refl

aborted_there : (views : Views) (why : Why) (number : ℕ) (o : Option View) → map.get views number ≡ o → AreThere views (aborted why number o views)
aborted_there views why number None is = there_same refl
aborted_there views why number (Some view) is = by view.state
  where
    by : (state : State) → AreThere views (aborted_if why number view state views)
    by Live = there_as views number view (record view { state = Aborted why }) is refl refl
    by (Aborted former) = there_same refl
    by Committed = there_same refl
    by GivenUp = there_same refl

-- all but views and times stands
views_kept : (s : Seen) (views : Views) (times : Known) {v w : Shown} → AreThere s.views views → Stand v w → StaysSound s v (record s { views = views; times = times }) w
views_kept s views times {v} {w} there stand was = sound_kept s (record s { views = views; times = times }) v w was there refl (kept_is refl) stand

pub sound_standing : (s : Seen) (state : State) (number : ℕ) (times : Known) {v w : Shown} → Stand v w → StaysSound s v (record s { views = standing state number (map.get s.views number) s.views; times = times }) w
sound_standing s state number times stand = views_kept s _ times (standing_there s.views state number (map.get s.views number) refl) stand

pub sound_aborted : (s : Seen) (why : Why) (number : ℕ) {v w : Shown} → Stand v w → StaysSound s v (with_aborted s number why) w
sound_aborted s why number stand = views_kept s _ _ (aborted_there s.views why number (map.get s.views number) refl) stand

-- the time of a request is no part of it
pub sound_at : (now : Time) (s u : Seen) {v : Shown} → u ≡ at_time now s → IsSound s v → IsSound u v
sound_at now s u {v} is was = subst (λ (z : Seen). IsSound z v) (sym is) (sound_kept s (at_time now s) v v was (there_same refl) refl (kept_is refl) (stand_same v))

pub roles_made_as : {roles known : Roles} {v w : Shown} (level pid : ℕ) (role : Role) → level ≤ 7 → IsFor level role → IsChild v (level + 1) pid w → Stand v w → known ≡ map.insert roles pid role → RolesStaySound roles v known w
roles_made_as {roles} {known} {v} {w} level pid role low for child stand is = subst (λ (r : Roles). RolesStaySound roles v r w) (sym is) (roles_made level pid role low for child stand)

-- roles that go by another name too
pub roles_from : {roles other known : Roles} {v w : Shown} → other ≡ roles → RolesStaySound other v known w → RolesStaySound roles v known w
roles_from {known = known} {v = v} {w = w} is h = subst (λ (r : Roles). RolesStaySound r v known w) is h

-- from what is known, which goes by another name too
pub sound_from : {s other later : Seen} {v w : Shown} → other ≡ s → StaysSound other v later w → StaysSound s v later w
sound_from {later = later} {v = v} {w = w} is h = subst (λ (z : Seen). StaysSound z v later w) is h

-- ---- files that were closed, orders that were obeyed

-- files may be any
released_if : (b : Bool) (s : Seen) (handle : ℕ) (file : OpenFile) {v w : Shown} → Stand v w
    → StaysSound s v (if b then record s { files = map.insert s.files handle (closed_once file) } else record s { files = map.remove s.files handle; handles = unlinked handle (key_of file) s.handles }) w
released_if true s handle file {v} {w} stand was = sound_kept s (record s { files = map.insert s.files handle (closed_once file) }) v w was (there_same refl) refl (kept_is refl) stand
released_if false s handle file {v} {w} stand was = sound_kept s (record s { files = map.remove s.files handle; handles = unlinked handle (key_of file) s.handles }) v w was (there_same refl) refl (kept_is refl) stand

pub sound_released : (s : Seen) (handle : ℕ) (o : Option OpenFile) {v w : Shown} → Stand v w → StaysSound s v (released_by s handle o) w
sound_released s handle None stand = λ was. sound_stands s _ _ was stand
sound_released s handle (Some file) stand = released_if (nat_lt 1 file.opens) s handle file stand

sound_left : (s : Seen) (handle : ℕ) (o : Option OpenFile) {v w : Shown} → Stand v w → StaysSound s v (kept_by s handle o) w
sound_left s handle o {v} {w} stand was = sound_kept s (kept_by s handle o) v w was (there_same refl) refl (kept_is refl) stand

closed_plain : (b : Bool) (s : Seen) (pid : ℕ) {v w : Shown} → Stand v w → StaysSound s v (less_held b pid s) w
closed_plain true s pid {v} {w} stand was = sound_kept s (record s { roles = let_go pid (map.get s.roles pid) s.roles }) v w was (there_same refl) refl (let_go_kept pid s.roles) stand
closed_plain false s pid stand was = sound_stands s _ _ was stand

pub sound_closed : (s : Seen) (handle : ℕ) (file : OpenFile) (r : Result (Unit {0}) Fault) {v w : Shown} → Stand v w → StaysSound s v (closed_by s handle file r) w
sound_closed s handle file (Ok done) {v} {w} stand = λ was. closed_plain (file.view == 0) (released_by s handle (file_at s handle)) file.pid (stand_same w) (sound_released s handle (file_at s handle) stand was)
sound_closed s handle file (Err (fault.Aborted why)) {v} {w} stand = λ was. sound_aborted (released_by s handle (file_at s handle)) why file.view (stand_same w) (sound_released s handle (file_at s handle) stand was)
sound_closed s handle file (Err (fault.Refused e)) stand = sound_left s handle (file_at s handle) stand
sound_closed s handle file (Err fault.Busy) stand = sound_left s handle (file_at s handle) stand
sound_closed s handle file (Err fault.NoMemory) stand = sound_left s handle (file_at s handle) stand
sound_closed s handle file (Err fault.Stale) stand = sound_left s handle (file_at s handle) stand
sound_closed s handle file (Err fault.Unexpected) stand = sound_left s handle (file_at s handle) stand

pub sound_ended : (s : Seen) (view : ℕ) (order : Order) (r : Result (Unit {0}) Fault) {v w : Shown} → Stand v w → StaysSound s v (ended s view order r) w
sound_ended s view order (Ok done) stand = sound_standing s (state_by order) view (times_by order view s.times) stand
sound_ended s view order (Err (fault.Aborted why)) stand = sound_aborted s why view stand
sound_ended s view order (Err (fault.Refused e)) stand = sound_same refl stand
sound_ended s view order (Err fault.Busy) stand = sound_same refl stand
sound_ended s view order (Err fault.NoMemory) stand = sound_same refl stand
sound_ended s view order (Err fault.Stale) stand = sound_same refl stand
sound_ended s view order (Err fault.Unexpected) stand = sound_same refl stand

-- a view whose transaction may be over then
pub sound_noted : (s : Seen) (view : ℕ) (r : Result Reply Failure) {v w : Shown} → Stand v w → StaysSound s v (noted s view r) w
sound_noted s view (Ok reply) stand = sound_same refl stand
sound_noted s view (Err (failure.Error e)) stand = sound_same refl stand
sound_noted s view (Err (failure.Aborted why)) stand = sound_aborted s why view stand

pub sound_into : {s known later : Seen} {v w : Shown} → later ≡ known → StaysSound s v known w → StaysSound s v later w
sound_into {s} {v = v} {w = w} is h = subst (λ (z : Seen). StaysSound s v z w) (sym is) h
