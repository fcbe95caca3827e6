-- A view that is taken away.
use Rattle.std.proofs.Common.{◌≡◌, ◌⊎◌, inl, inr, ℕ, List, Bool, true, false, refl, sym, ap, subst, ◌∙◌}
use Rattle.std.specs.Prelude.{Option, Some, None, option_and_then, if◌then◌else◌, Result, Ok, Err, IsErrAnd}
use Rattle.fuse.specs.declared.reply.Reply.{Reply}
use Rattle.model.specs.FiniteMap as map
use Rattle.machine.specs.Shown.{Shown}
use Rattle.course.specs.Course.{Ran}
use Rattle.course.specs.Courses.{giving_up}
use Rattle.course.specs.Hands.{Stand}
use Rattle.course.specs.declared.fault.Fault.{Fault}
use Rattle.mount_tables.specs.Rows.{replaced}
use Rattle.mount_tables.specs.Views.{unnamed}
use Rattle.mount_tables.specs.declared.processes.Role.{Role}
use Rattle.mount_tables.specs.declared.processes.Role.TheVariants.{Idle, Of}
use Rattle.mount_tables.specs.declared.views.View.{View}
use Rattle.mount_requests.specs.Seen.{Seen}
use Rattle.mount_requests.specs.declared.failure.Failure.{Failure}
use Rattle.mounted.specs.Controls.{LeavesAs, LeavesBy, Left, gone, leaving_by, leaving_in, number_in, standing_of}
use Rattle.mounted.specs.Sound.{IsSound, StaysSound}
use Rattle.mounted.specs.declared.transactions.Leaving.{Leaving}
use Rattle.mounted.specs.declared.transactions.Standing.{Standing}
use Rattle.mounted.specs.declared.transactions.Standing.TheVariants as leaves
use Rattle.mounted.proofs.Sound.{sound_removed, sound_stands}

-- the view that goes
pub record Goes (s : Seen) (name : List ℕ) (l : Leaving) : Type 0 where
  pub view : View
  pub number : number_in s name ≡ Some l.number
  pub there : map.get s.views l.number ≡ Some view
  pub pid : view.pid ≡ l.pid
  pub level : view.level ≡ l.level

by_view : (s : Seen) (name : List ℕ) (l : Leaving) (n : ℕ) (o : Option View) → number_in s name ≡ Some n → map.get s.views n ≡ o → leaving_by n o ≡ Some l → Goes s name l
by_view s name l n (Some v) named there is =
    let same : record { number = n; pid = v.pid; level = v.level; standing = standing_of v.state } ≡ l = cc in record {
      view = v;
      number = named ∙ ap (λ (x : Leaving). Some x.number) same;
      there = ap (λ (x : Leaving). map.get s.views x.number) (sym same) ∙ there;
      pid = ap (λ (x : Leaving). x.pid) same;
      level = ap (λ (x : Leaving). x.level) same;
    }
by_view s name l n None named there is = absurd cc

by_name : (s : Seen) (name : List ℕ) (l : Leaving) (o : Option ℕ) → number_in s name ≡ o → option_and_then (λ number. leaving_by number (map.get s.views number)) o ≡ Some l → Goes s name l
by_name s name l (Some n) named is = by_view s name l n (map.get s.views n) named refl is
by_name s name l None named is = absurd cc

pub goes : (s : Seen) (name : List ℕ) (l : Leaving) → leaving_in s name ≡ Some l → Goes s name l
goes s name l is = by_name s name l (number_in s name) refl is

-- the process of a view has a role
role_of : (s : Seen) (v : Shown) (name : List ℕ) (l : Leaving) → IsSound s v → Goes s name l → map.get s.roles l.pid ≡ Some (Of l.number)
role_of s v name l was g = ap (map.get s.roles) (sym g.pid) ∙ was.views l.number g.view g.there

pub view_removed : (s later : Seen) (name : List ℕ) (l : Leaving) (all : Bool) {v w : Shown} → leaving_in s name ≡ Some l → later.views ≡ unnamed (map.get s.names name) s.views → later.next_view ≡ s.next_view
    → later.roles ≡ (if all then replaced l.pid (Idle l.level) (map.get s.roles l.pid) s.roles else s.roles) → Stand v w → StaysSound s v later w
view_removed s later name l all {v} {w} found views next roles stand was =
    let g = goes s name l found in
    sound_stands later v w (sound_removed s v l.number g.view was g.there later (views ∙ ap (λ (o : Option ℕ). unnamed o s.views) g.number) next (by all roles)) stand
  where
    by : (b : Bool) → later.roles ≡ (if b then replaced l.pid (Idle l.level) (map.get s.roles l.pid) s.roles else s.roles) → (later.roles ≡ map.insert s.roles (goes s name l found).view.pid (Idle (goes s name l found).view.level)) ⊎ (later.roles ≡ s.roles)
    by true is = inl (is ∙ ap (λ (o : Option Role). replaced l.pid (Idle l.level) o s.roles) (role_of s v name l was (goes s name l found)) ∙ ap (λ (p : ℕ). map.insert s.roles p (Idle l.level)) (sym (goes s name l found).pid) ∙ ap (λ (n : ℕ). map.insert s.roles (goes s name l found).view.pid (Idle n)) (sym (goes s name l found).level))
    by false is = inr is

-- ---- a transaction that goes on is given up first

module _ (s later : Seen) (name : List ℕ) (l : Leaving) (standing : Standing) (is_live : standing ≡ leaves.Live) {done : Result (Unit {0}) Failure} {old mid : Shown}
    (gave : (given_up : Result (Unit {0}) Fault) × Ran old (giving_up l.pid) given_up mid × (done ≡ gone given_up)) where
  pub not_given_up : {e : Failure} (r : Result Reply Failure) → done ≡ Err e → IsErrAnd r (λ y. y ≡ e) → later ≡ s → LeavesAs standing s later name l old mid r
  not_given_up {e} (Err y) failed is same =
      subst (λ (z : Standing). LeavesAs z s later name l old mid (Err y)) (sym is_live)
      (gave.0, mid, gave.1, subst (λ (z : Result (Unit {0}) Failure). LeavesBy z s later name l mid mid (Err y)) (sym failed ∙ gave.2) (ap Err is, refl, same))
  not_given_up (Ok x) failed is same = absurd is

  pub given_up_then : {new : Shown} (from : Seen) (r : Result Reply Failure) → done ≡ Ok tt → from ≡ s → Left false from later name l mid new r → LeavesAs standing s later name l old new r
  given_up_then {new} from r over same h =
      subst (λ (z : Standing). LeavesAs z s later name l old new r) (sym is_live)
      (gave.0, mid, gave.1, subst (λ (z : Result (Unit {0}) Failure). LeavesBy z s later name l mid new r) (sym over ∙ gave.2) (subst (λ (z : Seen). Left false z later name l mid new r) same h))
