-- The users of aspects, as one aspect's change.
use Rattle.std.proofs.Common.{◌≡◌, ◌∙◌, sym, refl, ap, Option, Some, None, ℕ, Bool, true, false, cond, not, ◌&&◌, List, []}
use Rattle.std.specs.Prelude.{Result, Ok, Err, OnOk, OnErr}
use Rattle.std.specs.Ordering.{is_eq, eq_by_cmp}
use Rattle.std.specs.HashMap.{HashMap, get}
use Rattle.std.specs.Map.{lookup}
use Rattle.ids.specs.Order.{aspect_cmp}
use Rattle.model.specs.Aspects.{Aspect}
use Rattle.model.specs.Steps.{Touch}
use Rattle.records.specs.Codes.{is_touch}
use Rattle.records.specs.Groups.{with_pid, without_pid, joined_if, left_if, alike}
use Rattle.records.specs.Index.{side, side_at, users_in}
use Rattle.records.specs.declared.users.Users.{Users}
use Rattle.records.proofs.Exact.{touch_from_tied}
use Rattle.records.proofs.Aspects.{aspect_from_tied, touch_by}

pub joined_sides : (u n : Users) (v : Bool) (p : ℕ) → n.writers.items ≡ joined_if v p u.writers.items → n.readers.items ≡ joined_if (not v) p u.readers.items → (w : Bool) → side w n ≡ cond (alike v w) (with_pid p (side w u)) (side w u)
joined_sides u n true p h k true = h
joined_sides u n true p h k false = k
joined_sides u n false p h k true = h
joined_sides u n false p h k false = k

pub left_sides : (u n : Users) (v : Bool) (p : ℕ) → n.writers.items ≡ left_if v p u.writers.items → n.readers.items ≡ left_if (not v) p u.readers.items → (w : Bool) → side w n ≡ cond (alike v w) (without_pid p (side w u)) (side w u)
left_sides u n true p h k true = h
left_sides u n true p h k false = k
left_sides u n false p h k true = h
left_sides u n false p h k false = k

-- the first user of an aspect
pub first_sides : (u n : Users) (v : Bool) (p : ℕ) → u.writers.items ≡ [] → u.readers.items ≡ [] → n.writers.items ≡ joined_if v p u.writers.items → n.readers.items ≡ joined_if (not v) p u.readers.items → (w : Bool) → side w n ≡ cond (alike v w) (with_pid p []) []
first_sides u n v p e f h k true = joined_sides u n v p h k true ∙ ap (λ x. cond (alike v true) (with_pid p x) x) e
first_sides u n v p e f h k false = joined_sides u n v p h k false ∙ ap (λ x. cond (alike v false) (with_pid p x) x) f

-- one aspect's users are others
pub changed_at : {S : Type 0} (m n : HashMap Aspect Users S) (t : Touch) (f : List ℕ → List ℕ) (o : Option Users) (new : Users) → get (eq_by_cmp aspect_cmp) m t.aspect ≡ o → ((w : Bool) → side w new ≡ cond (alike t.write w) (f (side_at w o)) (side_at w o)) → ((a : Aspect) → get (eq_by_cmp aspect_cmp) n a ≡ cond (is_eq (aspect_cmp t.aspect a)) (Some new) (get (eq_by_cmp aspect_cmp) m a)) → (u : Touch) → users_in n u ≡ cond (is_touch t u) (f (users_in m u)) (users_in m u)
changed_at m n t f o new is sides updates u =
    ap (side_at u.write) (updates u.aspect)
    ∙ at_case (is_eq (aspect_cmp t.aspect u.aspect)) refl
    ∙ ap (λ b. cond b (f (users_in m u)) (users_in m u)) (sym (touch_by t u))
  where
    at_case : (b : Bool) → is_eq (aspect_cmp t.aspect u.aspect) ≡ b → side_at u.write (cond b (Some new) (get (eq_by_cmp aspect_cmp) m u.aspect)) ≡ cond (b && alike t.write u.write) (f (users_in m u)) (users_in m u)
    at_case true h = sides u.write ∙ ap (λ x. cond (alike t.write u.write) (f (side_at u.write x)) (side_at u.write x)) (sym is ∙ ap (get (eq_by_cmp aspect_cmp) m) (aspect_from_tied t.aspect u.aspect h))
    at_case false h = refl

-- an aspect's users are the same
pub same_at : {S : Type 0} (m n : HashMap Aspect Users S) (t : Touch) (o : Option Users) (new : Users) → get (eq_by_cmp aspect_cmp) m t.aspect ≡ o → ((w : Bool) → side w new ≡ side_at w o) → ((a : Aspect) → get (eq_by_cmp aspect_cmp) n a ≡ cond (is_eq (aspect_cmp t.aspect a)) (Some new) (get (eq_by_cmp aspect_cmp) m a)) → (u : Touch) → users_in n u ≡ users_in m u
same_at m n t o new is sides updates u =
    ap (side_at u.write) (updates u.aspect) ∙ at_case (is_eq (aspect_cmp t.aspect u.aspect)) refl
  where
    at_case : (b : Bool) → is_eq (aspect_cmp t.aspect u.aspect) ≡ b → side_at u.write (cond b (Some new) (get (eq_by_cmp aspect_cmp) m u.aspect)) ≡ users_in m u
    at_case true h = sides u.write ∙ ap (side_at u.write) (sym is ∙ ap (get (eq_by_cmp aspect_cmp) m) (aspect_from_tied t.aspect u.aspect h))
    at_case false h = refl

-- an aspect without users is forgotten
pub forgotten_at : {S : Type 0} (m n : HashMap Aspect Users S) (a : Aspect) → ((u : Touch) → u.aspect ≡ a → users_in m u ≡ []) → ((b : Aspect) → get (eq_by_cmp aspect_cmp) n b ≡ cond (is_eq (aspect_cmp a b)) None (get (eq_by_cmp aspect_cmp) m b)) → (u : Touch) → users_in n u ≡ users_in m u
forgotten_at m n a nobody updates u =
    ap (side_at u.write) (updates u.aspect) ∙ at_case (is_eq (aspect_cmp a u.aspect)) refl
  where
    at_case : (b : Bool) → is_eq (aspect_cmp a u.aspect) ≡ b → side_at u.write (cond b None (get (eq_by_cmp aspect_cmp) m u.aspect)) ≡ users_in m u
    at_case true h = sym (nobody u (sym (aspect_from_tied a u.aspect h)))
    at_case false h = refl

-- where an aspect has no users, nobody goes
pub absent_at : {S : Type 0} (m n : HashMap Aspect Users S) (t : Touch) (p : ℕ) → get (eq_by_cmp aspect_cmp) m t.aspect ≡ None → n ≡ m → (u : Touch) → users_in n u ≡ cond (is_touch t u) (without_pid p (users_in m u)) (users_in m u)
absent_at m n t p none same u = ap (λ x. users_in x u) same ∙ at_case (is_touch t u) refl where
  at_case : (b : Bool) → is_touch t u ≡ b → users_in m u ≡ cond b (without_pid p (users_in m u)) (users_in m u)
  at_case true h =
      let empty : users_in m u ≡ [] = ap (λ v. users_in m v) (sym (touch_from_tied t u h)) ∙ ap (side_at t.write) none in
      empty ∙ sym (ap (without_pid p) empty)
  at_case false h = refl

pub both_ok : {T E : Type 0} (r : Result T E) (P Q R : Type 0) → (P → Q → R) → OnOk r P → OnOk r Q → OnOk r R
both_ok (Ok x) P Q R f p q = f p q
both_ok (Err e) P Q R f p q = tt

pub both_err : {T E : Type 0} (r : Result T E) (P Q R : Type 0) → (P → Q → R) → OnErr r P → OnErr r Q → OnErr r R
both_err (Ok x) P Q R f p q = tt
both_err (Err e) P Q R f p q = f p q

pub same_sides : (u n : Users) → n.writers.items ≡ u.writers.items → n.readers.items ≡ u.readers.items → (w : Bool) → side w n ≡ side w u
same_sides u n h k true = h
same_sides u n h k false = k

-- a table with no entries has no users
pub none_kept : {S : Type 0} (m : HashMap Aspect Users S) → m.entries ≡ [] → (u : Touch) → users_in m u ≡ []
none_kept m empty u = ap (λ es. side_at u.write (lookup (eq_by_cmp aspect_cmp u.aspect) es)) empty
