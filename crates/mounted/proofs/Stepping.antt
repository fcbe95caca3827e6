-- What a process has done since it was bound, and what was done by several.
use Rattle.std.proofs.Common.{◌≡◌, ℕ, List, [], ◌++◌, sym, ap, subst, ◌∙◌, append_assoc}
use Rattle.std.proofs.lemmas.List.{append-nil}
use Rattle.ids.specs.declared.entry.Entry.{Entry}
use Rattle.machine.specs.Shown.{Shown}
use Rattle.course.specs.Course.{Course, Ran}
use Rattle.course.specs.Hands.{Held, IsChild, IsSince, Stand}
use Rattle.course.specs.declared.fault.Fault.{Fault}
use Rattle.std.specs.Prelude.{IfOk, Ok, Result}
use Rattle.mounted.specs.Server.{HasGrown}

-- since when, by what stays while a process is bound
module _ {p q : ℕ} {a b v : Shown} (kept : ◌≡◌ {A = ℕ × Shown} (p, a) (q, b)) (since : b ≡ v) where
  began : a ≡ v
  began = ap (λ (h : ℕ × Shown). h.1) kept ∙ since

  pub stands_since : {w : Shown} → Stand a w → Stand v w
  stands_since {w} stand = subst (λ (x : Shown). Stand x w) began stand

  pub grown_since : {w : Shown} → IsSince p a.log.entries w.log.entries → HasGrown v w
  grown_since s = record { more = s.more; is = s.is ∙ ap (λ (x : Shown). x.log.entries ++ s.more) began }

pub grown_same : (v : Shown) → HasGrown v v
grown_same v = record { more = []; is = sym (append-nil v.log.entries) }

pub grown_is : {v w : Shown} → w ≡ v → HasGrown v w
grown_is {v} e = subst (λ (x : Shown). HasGrown v x) (sym e) (grown_same v)

pub grown_then : {u v w : Shown} → HasGrown u v → HasGrown v w → HasGrown u w
grown_then {u} a b = record { more = a.more ++ b.more; is = b.is ∙ ap (λ (es : List Entry). es ++ b.more) a.is ∙ append_assoc u.log.entries a.more b.more }

-- a course of a process that goes by another name too, from a state that does
pub ran_by : {A : Type 0} (c : ℕ → Course A) {p pid : ℕ} {u v w : Shown} {r : A} → p ≡ pid → u ≡ v → Ran u (c p) r w → Ran v (c pid) r w
ran_by c {p} {pid} {u} {v} {w} {r} is same h = subst (λ (x : Shown). Ran x (c pid) r w) same (subst (λ (q : ℕ). Ran u (c q) r w) is h)

-- the same, with an outcome that goes by another name
pub ran_as : {A : Type 0} (c : ℕ → Course A) {p pid : ℕ} {u v w : Shown} {r q : A} → p ≡ pid → u ≡ v → r ≡ q → Ran u (c p) r w → Ran v (c pid) q w
ran_as {A} c {p} {pid} {u} {v} {w} {r} {q} is same told h = subst (λ (x : A). Ran v (c pid) x w) told (ran_by c is same h)

-- a child of a process that goes by another name too
pub child_as : {p maker pid : ℕ} {u v w : Shown} {r : Result ℕ Fault} → IfOk r (λ child. IsChild u p child w) → r ≡ Ok pid → p ≡ maker → u ≡ v → IsChild v maker pid w
child_as {p} {maker} {pid} {u} {v} {w} h told is same = subst (λ (x : Shown). IsChild x maker pid w) same (subst (λ (q : ℕ). IsChild u q pid w) is (subst (λ (z : Result ℕ Fault). IfOk z (λ child. IsChild u p child w)) told h))

-- nothing is done behind it
module _ {h k : Held} (same : h ≡ k) where
  pub ran_into : {A : Type 0} (c : ℕ → Course A) {p pid : ℕ} {u v : Shown} {r : A} → p ≡ pid → u ≡ v → Ran u (c p) r k.shown → Ran v (c pid) r h.shown
  ran_into c {p} {pid} {u} {v} {r} is at ran = subst (λ (x : Held). Ran v (c pid) r x.shown) (sym same) (ran_by c is at ran)

  pub stands_into : {v : Shown} → Stand v k.shown → Stand v h.shown
  stands_into {v} stand = subst (λ (x : Held). Stand v x.shown) (sym same) stand

  pub grown_into : {v : Shown} → HasGrown v k.shown → HasGrown v h.shown
  grown_into {v} grown = subst (λ (x : Held). HasGrown v x.shown) (sym same) grown
