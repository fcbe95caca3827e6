-- Courses that are run.
use Rattle.std.proofs.Common.{◌≡◌, ℕ, List, [], Bool, true, false, not, ◌||◌, ◌==◌, refl, sym, subst, ap, inr}
use Rattle.std.specs.Prelude.{Option, Some, IfSome, option_map, Result, Ok, Err, IsErrAnd, if◌then◌else◌}
use Rattle.ids.specs.declared.call.Call.TheVariants as call
use Rattle.ids.specs.declared.reply.Kind.{Kind}
use Rattle.ids.specs.declared.reply.Stat.{Stat}
use Rattle.ids.specs.declared.rights.Rights.{Rights}
use Rattle.model.specs.Entries.{Op, Reply}
use Rattle.machine.specs.Shown.{Shown}
use Rattle.course.specs.declared.fault.Fault.{Fault}
use Rattle.course.specs.declared.fault.Fault.TheVariants as fault
use Rattle.course.specs.declared.files.Made.{Made}
use Rattle.course.specs.declared.names.Twice.{Twice}
use Rattle.course.specs.declared.place.Place.{Place}
use Rattle.course.specs.Course.{Began, Course, Give, Step, ◌>>=◌, HasBegun, HasRun, IsTaken, Ran, step}
use Rattle.course.specs.Courses.{by_descriptor, closing, closing_for, closing_spare, doing, done_with, finding_at, if_absent, if_found, if_listed, if_same, if_there, inside, listing, listing_at, on_ok, opening_file, seeing, stating, staying}
use Rattle.course.specs.Faults.{gives_none, is_abort, is_missing, is_there}

-- nothing is done
pub done : {A : Type 0} {v : Shown} {x : A} → Ran v (Give x) x v
done = record { is = (refl, refl) }

-- one step
pub one : {old new : Shown} (pid : ℕ) (op : Op) {reply : Reply} → IsTaken old new pid op reply → Ran old (step pid op) reply new
one {old} {new} pid op {reply} taken = record { is = (reply, new, taken, (refl, refl)) }

-- a course, and what comes behind it
all : {A B : Type 0} (m : Course A) (f : A → Course B) (old mid new : Shown) (x : A) (outcome : B) → HasRun old m x mid → HasRun mid (f x) outcome new → HasRun old (m >>= f) outcome new
all (Give y) f old mid new x outcome h k = subst (λ v. HasRun v (f y) outcome new) h.1 (subst (λ z. HasRun mid (f z) outcome new) h.0 k)
all (Step pid op next) f old mid new x outcome h k = (h.0, h.1, h.2, all (next h.0) f h.1 mid new x outcome h.3 k)

pub goes : {A B : Type 0} (m : Course A) (f : A → Course B) {old mid new : Shown} {x : A} {outcome : B} → Ran old m x mid → Ran mid (f x) outcome new → Ran old (m >>= f) outcome new
goes m f {old} {mid} {new} {x} {outcome} h k = record { is = all m f old mid new x outcome h.is k.is }

-- a course, and what its outcome comes to
pub gives : {A B : Type 0} (m : Course A) (g : A → B) {old new : Shown} {x : A} {outcome : B} → Ran old m x new → outcome ≡ g x → Ran old (m >>= (λ y. Give (g y))) outcome new
gives m g h e = goes m (λ y. Give (g y)) h (record { is = (e, refl) })

-- a course of a process that goes by another name too
pub by_pid : {A : Type 0} (c : ℕ → Course A) {p q : ℕ} {old new : Shown} {outcome : A} → p ≡ q → Ran old (c p) outcome new → Ran old (c q) outcome new
by_pid c {old = old} {new = new} {outcome = outcome} e h = subst (λ n. Ran old (c n) outcome new) e h

-- a course that gives something rights that go by another name too
pub by_rights : {A : Type 0} (c : Rights → Course A) {p q : Rights} {old new : Shown} {outcome : A} → p ≡ q → Ran old (c p) outcome new → Ran old (c q) outcome new
by_rights c {old = old} {new = new} {outcome = outcome} e h = subst (λ r. Ran old (c r) outcome new) e h

-- a course that fails, where what comes behind it needs its success
pub stops : {A B : Type 0} (m : Course (Result A Fault)) (f : A → Course (Result B Fault)) {old new : Shown} {e : Fault} (r : Result B Fault) → IsErrAnd r (λ y. y ≡ e) → Ran old m (Err e) new → Ran old (m >>= on_ok f) r new
stops m f (Err y) is h = goes m (on_ok f) h (record { is = (ap Err is, refl) })
stops m f (Ok y) is h = absurd is

-- a course that succeeds, and what comes behind it
pub goes_on : {A B : Type 0} (m : Course (Result A Fault)) (f : A → Course (Result B Fault)) {old mid new : Shown} {x : A} {r : Result B Fault} → Ran old m (Ok x) mid → Ran mid (f x) r new → Ran old (m >>= on_ok f) r new
goes_on m f h k = goes m (on_ok f) h k

-- a directory is not where it was
pub moved_off : {A : Type 0} (pid : ℕ) (place : Option Place) (named : Course (Result A Fault)) {old new : Shown} {e : Fault} (r : Result A Fault) → IsErrAnd r (λ y. y ≡ e) → Ran old (staying pid place) (Err e) new → Ran old (inside pid place named) r new
moved_off pid place named r is h = stops (staying pid place) (λ stays. named) r is h

-- it is there, and what is done in it, by another name of the process
pub stays_there : {A : Type 0} (place : Option Place) (named : ℕ → Course (Result A Fault)) {p q : ℕ} {old mid new : Shown} {x : Unit {0}} {r : Result A Fault} → p ≡ q → Ran old (staying q place) (Ok x) mid → Ran mid (named p) r new → Ran old (inside q place (named q)) r new
stays_there place named {p} {q} e h k = goes_on (staying q place) (λ stays. named q) h (by_pid named e k)

-- a descriptor is closed, for an error that is no abort, or it is an abort
pub closed : {A : Type 0} (pid fd : ℕ) (e : Fault) {old new : Shown} {outcome : Result A Fault} → is_abort e ≡ false → Ran old (closing_for pid fd e) outcome new → Ran old (closing pid fd e) outcome new
closed {A} pid fd e {old} {new} {outcome} x h = subst (λ (b : Bool). Ran {A = Result A Fault} old (if b then Give (Err e) else closing_for pid fd e) outcome new) (sym x) h

pub not_closed : {A : Type 0} (pid fd : ℕ) (e : Fault) {v : Shown} → is_abort e ≡ true → Ran {A = Result A Fault} v (closing pid fd e) (Err e) v
not_closed {A} pid fd e {v} x = subst (λ (b : Bool). Ran {A = Result A Fault} v (if b then Give (Err e) else closing_for pid fd e) (Err e) v) (sym x) done

-- the file is the one that was asked for, or another
pub same_file : (pid fd inode : ℕ) (stat : Stat) {v : Shown} → (stat.num == inode) ≡ true → Ran v (if_same pid fd inode (Ok stat)) (Ok fd) v
same_file pid fd inode stat {v} e = subst (λ (b : Bool). Ran v (if b then Give (Ok fd) else closing pid fd fault.Stale) (Ok fd) v) (sym e) done

pub other_file : (pid fd inode : ℕ) (stat : Stat) {old new : Shown} {r : Result ℕ Fault} → (stat.num == inode) ≡ false → Ran old (closing pid fd fault.Stale) r new → Ran old (if_same pid fd inode (Ok stat)) r new
other_file pid fd inode stat {old} {new} {r} e h = subst (λ (b : Bool). Ran old (if b then Give (Ok fd) else closing pid fd fault.Stale) r new) (sym e) h

-- the name is there, and may be
pub there : (pid : ℕ) (path : List ℕ) (exclusive : Bool) (rights : Rights) (e : Fault) (opened : Result ℕ Fault) {old new : Shown} {r : Result Made Fault} → opened ≡ Err e → exclusive ≡ false → is_there e ≡ true → Ran old (opening_file pid path >>= on_ok (seeing pid false)) r new → Ran old (if_there pid path exclusive rights opened) r new
there pid path exclusive rights e opened {old} {new} {r} o x y h = subst (λ (z : Result ℕ Fault). Ran old (if_there pid path exclusive rights z) r new) (sym o) (subst (λ (b : Bool). Ran old (if b || not (is_there e) then Give (Err e) else (opening_file pid path >>= on_ok (seeing pid false))) r new) (sym x) (subst (λ (b : Bool). Ran old (if false || not b then Give (Err e) else (opening_file pid path >>= on_ok (seeing pid false))) r new) (sym y) h))

-- a name is missing, and another error
pub missing : (pid : ℕ) (from to : List ℕ) (e : Fault) {old new : Shown} {r : Result (Unit {0}) Fault} → is_missing e ≡ true → Ran old (doing pid (call.Rename from to)) r new → Ran old (if_absent pid from to (Err e)) r new
missing pid from to e {old} {new} {r} x h = subst (λ (b : Bool). Ran old (if b then doing pid (call.Rename from to) else Give (Err e)) r new) (sym x) h

pub failing : (pid : ℕ) (from to : List ℕ) (e : Fault) {v : Shown} → is_missing e ≡ false → Ran v (if_absent pid from to (Err e)) (Err e) v
failing pid from to e {v} x = subst (λ (b : Bool). Ran v (if b then doing pid (call.Rename from to) else Give (Err e)) (Err e) v) (sym x) done

-- a file was open already
pub spare_closed : (pid : ℕ) (is_open : Bool) (made : Made) {old new : Shown} {r : Result Made Fault} → is_open ≡ true → Ran old (done_with pid made.fd made) r new → Ran old (closing_spare pid is_open made) r new
spare_closed pid is_open made {old} {new} {r} e h = subst (λ (b : Bool). Ran old (closing_spare pid b made) r new) (sym e) h

-- an object that is looked for by its path first
pub by_path : (pid : ℕ) (kind : Kind) (inode : ℕ) (fd : Option ℕ) (o : Option (List ℕ)) (path : List ℕ) {old new : Shown} {r : Result Stat Fault} → o ≡ Some path → Ran old (stating pid (call.Lstat path) >>= if_found pid kind inode fd) r new → Ran old (finding_at pid kind inode fd o) r new
by_path pid kind inode fd o path {old} {new} {r} e h = subst (λ (z : Option (List ℕ)). Ran old (finding_at pid kind inode fd z) r new) (sym e) h

-- the path gives the object, or another one, or none
pub found_same : (pid : ℕ) (kind : Kind) (inode : ℕ) (fd : Option ℕ) (stat : Stat) {v : Shown} → (stat.num == inode) ≡ true → Ran v (if_found pid kind inode fd (Ok stat)) (Ok stat) v
found_same pid kind inode fd stat {v} e = subst (λ (b : Bool). Ran v (if b then Give (Ok stat) else by_descriptor pid kind inode fd) (Ok stat) v) (sym e) done

pub found_other : (pid : ℕ) (kind : Kind) (inode : ℕ) (fd : Option ℕ) (stat : Stat) {old new : Shown} {r : Result Stat Fault} → (stat.num == inode) ≡ false → Ran old (by_descriptor pid kind inode fd) r new → Ran old (if_found pid kind inode fd (Ok stat)) r new
found_other pid kind inode fd stat {old} {new} {r} e h = subst (λ (b : Bool). Ran old (if b then Give (Ok stat) else by_descriptor pid kind inode fd) r new) (sym e) h

pub found_none : (pid : ℕ) (kind : Kind) (inode : ℕ) (fd : Option ℕ) (e : Fault) {old new : Shown} {r : Result Stat Fault} → gives_none e ≡ true → Ran old (by_descriptor pid kind inode fd) r new → Ran old (if_found pid kind inode fd (Err e)) r new
found_none pid kind inode fd e {old} {new} {r} x h = subst (λ (b : Bool). Ran old (if b then by_descriptor pid kind inode fd else Give (Err e)) r new) (sym x) h

pub found_not : (pid : ℕ) (kind : Kind) (inode : ℕ) (fd : Option ℕ) (e : Fault) {v : Shown} → gives_none e ≡ false → Ran v (if_found pid kind inode fd (Err e)) (Err e) v
found_not pid kind inode fd e {v} x = subst (λ (b : Bool). Ran v (if b then by_descriptor pid kind inode fd else Give (Err e)) (Err e) v) (sym x) done

-- the same for the names of a directory
pub listed_same : (pid : ℕ) (path : List ℕ) (inode : ℕ) (stat : Stat) {old new : Shown} {r : Result (List (List ℕ)) Fault} → (stat.num == inode) ≡ true → Ran old (listing pid path) r new → Ran old (if_listed pid path inode (Ok stat)) r new
listed_same pid path inode stat {old} {new} {r} e h = subst (λ (b : Bool). Ran old (if b then listing pid path else Give (Ok [])) r new) (sym e) h

pub listed_other : (pid : ℕ) (path : List ℕ) (inode : ℕ) (stat : Stat) {v : Shown} → (stat.num == inode) ≡ false → Ran v (if_listed pid path inode (Ok stat)) (Ok []) v
listed_other pid path inode stat {v} e = subst (λ (b : Bool). Ran v (if b then listing pid path else Give (Ok [])) (Ok []) v) (sym e) done

pub listed_none : (pid : ℕ) (path : List ℕ) (inode : ℕ) (e : Fault) {v : Shown} → gives_none e ≡ true → Ran v (if_listed pid path inode (Err e)) (Ok []) v
listed_none pid path inode e {v} x = subst (λ (b : Bool). Ran {A = Result (List (List ℕ)) Fault} v (if b then Give (Ok []) else Give (Err e)) (Ok []) v) (sym x) done

pub listed_not : (pid : ℕ) (path : List ℕ) (inode : ℕ) (e : Fault) {v : Shown} → gives_none e ≡ false → Ran v (if_listed pid path inode (Err e)) (Err e) v
listed_not pid path inode e {v} x = subst (λ (b : Bool). Ran {A = Result (List (List ℕ)) Fault} v (if b then Give (Ok []) else Give (Err e)) (Err e) v) (sym x) done

-- A course that was run has begun as well.
began : {A : Type 0} (c : Course A) (old new : Shown) (outcome : A) → HasRun old c outcome new → HasBegun old c new
began (Give x) old new outcome h = h.1
began (Step pid op next) old new outcome h = inr (h.0, h.1, h.2, began (next h.0) h.1 new outcome h.3)

pub ran_began : {A : Type 0} (c : Course A) {old new : Shown} {outcome : A} → Ran old c outcome new → Began old c new
ran_began c {old} {new} {outcome} h = record { is = began c old new outcome h.is }

-- the names of a directory by its path, which is told twice
pub listed_by : (pid inode : ℕ) (o : Option Twice) (p : Twice) {old new : Shown} {r : Result (List (List ℕ)) Fault} → o ≡ Some p → IfSome o (λ (p : Twice). p.second ≡ p.first) → Ran old (stating pid (call.Lstat p.first) >>= if_listed pid p.second inode) r new → Ran old (listing_at pid inode (option_map (λ (p : Twice). p.first) o)) r new
listed_by pid inode o p {old} {new} {r} e same h =
    let twice : p.second ≡ p.first = subst (λ (z : Option Twice). IfSome z (λ (p : Twice). p.second ≡ p.first)) e same in
    subst (λ (z : Option Twice). Ran old (listing_at pid inode (option_map (λ (p : Twice). p.first) z)) r new) (sym e) (subst (λ (path : List ℕ). Ran old (stating pid (call.Lstat p.first) >>= if_listed pid path inode) r new) twice h)
