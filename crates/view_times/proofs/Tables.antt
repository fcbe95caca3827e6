-- What views have noted, when the table of one is changed, or those of all.
use Rattle.std.proofs.Common.{◌≡◌, ℕ, ◌+◌, ◌≤◌, ◌==◌, ◌&&◌, Bool, true, false, cond, List, [], ◌∷◌, Option, Some, None, nat_eq, nat_cmp, refl, sym, ap, subst, ◌∙◌, arith, eq-eqb, eqb-true}
use Rattle.std.specs.Map.{lookup}
use Rattle.std.specs.Map.Calls.{RetainsPairs}
use Rattle.std.proofs.lemmas.Bool.{cond-false, cond-true}
use Rattle.model.specs.FiniteMap.{FinMap, empty, get, get-empty, insert, remove}
use Rattle.view_times.specs.Kept.{note_at, note_by, notes_by, notes_in, room_by}
use Rattle.view_times.specs.Noted.{behind}
use Rattle.view_times.specs.Rows.{Rows}
use Rattle.view_times.specs.declared.noted.Notes.{Notes}
use Rattle.view_times.proofs.Written.{inserted_at, removed_at}

abbrev Table : Type 0
Table = Rows Notes

abbrev Tables : Type 0
Tables = FinMap nat_cmp Table

-- The table of one view was this and is this, and those of others are what they were. Then what holds of
-- what was and is, for that view, and for each other one of what it has, holds of all.
module _ (old new : Tables) (view : ℕ) (was now : Option Table) (there : get old view ≡ was) (is : (v : ℕ) → get new v ≡ cond (view == v) now (get old v)) where
  at_view : (v : ℕ) → (view == v) ≡ true → get new v ≡ now
  at_view v same = is v ∙ cond-true (view == v) now (get old v) same

  elsewhere : (v : ℕ) → (view == v) ≡ false → get new v ≡ get old v
  elsewhere v differ = is v ∙ cond-false (view == v) now (get old v) differ

  pub each : (P : ℕ → Option Table → Option Table → Type 0) → P view was now → ((v : ℕ) (o : Option Table) → (view == v) ≡ false → P v o o) → (v : ℕ) → P v (get old v) (get new v)
  each P here same v = by (view == v) refl
    where
      by : (b : Bool) → (view == v) ≡ b → P v (get old v) (get new v)
      by true e =
          let one : view ≡ v = eqb-true view v e in
          subst (λ (o : Option Table). P v (get old v) o) (sym (at_view v e))
          (subst (λ (w : ℕ). P w (get old w) now) one (subst (λ (o : Option Table). P view o now) (sym there) here))
      by false e = subst (λ (o : Option Table). P v (get old v) o) (sym (elsewhere v e)) (same v (get old v) e)

  pub here_now : get new view ≡ now
  here_now = at_view view (eq-eqb view view refl)

  -- what each view has noted stays
  pub notes_stay : ((q : ℕ) → note_by now q ≡ note_by was q) → (v q : ℕ) → note_at new v q ≡ note_at old v q
  notes_stay same v q = each (λ v o p. note_by p q ≡ note_by o q) (same q) (λ v o e. refl) v

  pub room_grows : room_by was ≤ room_by now → (v : ℕ) → room_by (get old v) ≤ room_by (get new v)
  room_grows more v = each (λ v o p. room_by o ≤ room_by p) more (λ v o e. omega arith) v

  pub room_falls : room_by was ≤ room_by now + 1 → (v : ℕ) → room_by (get old v) ≤ room_by (get new v) + 1
  room_falls less v = each (λ v o p. room_by o ≤ room_by p + 1) less (λ v o e. omega arith) v

-- one inode more, or again
module _ (old new : Tables) (view inode : ℕ) (notes : Notes) (table now : Table) (there : get old view ≡ Some table) (is : (v : ℕ) → get new v ≡ cond (view == v) (Some now) (get old v)) (rows : now.rows ≡ insert table.rows inode (behind notes (notes_by (get table.rows inode)))) where
  pub one_noted : (v q : ℕ) → note_at new v q ≡ cond (view == v && inode == q) (Some (behind notes (notes_in old view inode))) (note_at old v q)
  one_noted v q =
      each old new view (Some table) (Some now) there is
      (λ v o p. note_by p q ≡ cond (view == v && inode == q) (Some (behind notes (notes_in old view inode))) (note_by o q))
      here other v
    where
      same_notes : behind notes (notes_by (get table.rows inode)) ≡ behind notes (notes_in old view inode)
      same_notes = ap (λ (o : Option Table). behind notes (notes_by (note_by o inode))) (sym there)

      here : get now.rows q ≡ cond (view == view && inode == q) (Some (behind notes (notes_in old view inode))) (get table.rows q)
      here =
          ap (λ (m : FinMap nat_cmp Notes). get m q) rows
          ∙ inserted_at table.rows inode (behind notes (notes_by (get table.rows inode))) q
          ∙ ap (λ (n : Notes). cond (inode == q) (Some n) (get table.rows q)) same_notes
          ∙ sym (ap (λ b. cond (b && inode == q) (Some (behind notes (notes_in old view inode))) (get table.rows q)) (eq-eqb view view refl))

      other : (v : ℕ) (o : Option Table) → (view == v) ≡ false → note_by o q ≡ cond (view == v && inode == q) (Some (behind notes (notes_in old view inode))) (note_by o q)
      other v o differ = sym (ap (λ b. cond (b && inode == q) (Some (behind notes (notes_in old view inode))) (note_by o q)) differ)

-- a view that had no table gets an empty one
pub empty_notes : (table : Table) (q : ℕ) → table.rows ≡ empty → note_by (Some table) q ≡ None
empty_notes table q none = ap (λ (m : FinMap nat_cmp Notes). get m q) none ∙ get-empty nat_cmp q

-- what a view noted is gone, and what others noted stays
pub taken_notes : (views : Tables) (view v q : ℕ) → note_at (remove views view) v q ≡ cond (view == v) None (note_at views v q)
taken_notes views view v q = ap (λ (o : Option Table). note_by o q) (removed_at views view v) ∙ by (view == v)
  where
    by : (b : Bool) → note_by (cond b None (get views v)) q ≡ cond b None (note_at views v q)
    by true = refl
    by false = refl

-- ---- all tables, each changed alike

-- each row is there still, changed as R says
abbrev pub IsEach : (Table → Table → Type 0) → Option Table → Option Table → Type 0
IsEach R (Some was) (Some now) = R was now
IsEach R (Some was) None = ⊥
IsEach R None (Some now) = ⊥
IsEach R None None = Unit {0}

-- a closure that keeps each table, changes it as R says, and stays as it was
module _ {F : Type 0} (T : F → ℕ → Table → Bool → Table → F → Type 0) (R : Table → Table → Type 0) (f : F) (told : (k : ℕ) (was : Table) (b : Bool) (now : Table) (f' : F) → T f k was b now f' → (b ≡ true) × R was now × (f' ≡ f)) where
  pub all_kept : (es kept : List (ℕ × Table)) → RetainsPairs T f es kept → (q : ℕ) → IsEach R (lookup (nat_eq q) es) (lookup (nat_eq q) kept)
  all_kept [] kept retains q = subst (λ (fs : List (ℕ × Table)). IsEach R None (lookup (nat_eq q) fs)) (sym retains) tt
  all_kept (e ∷ es) kept retains q =
      let says = told e.0 e.1 retains.0 retains.1 retains.2 retains.4 in
      let rest : IsEach R (lookup (nat_eq q) es) (lookup (nat_eq q) retains.3) = all_kept es retains.3 (subst (λ (g : F). RetainsPairs T g es retains.3) says.2 retains.5) q in
      let whole : kept ≡ (e.0, retains.1) ∷ retains.3 = retains.6 ∙ cond-true retains.0 ((e.0, retains.1) ∷ retains.3) retains.3 says.0 in
      subst (λ (fs : List (ℕ × Table)). IsEach R (lookup (nat_eq q) (e ∷ es)) (lookup (nat_eq q) fs)) (sym whole)
      (by (nat_eq q e.0) e.1 retains.1 (lookup (nat_eq q) es) (lookup (nat_eq q) retains.3) says.1 rest)
    where
      by : (b : Bool) (was now : Table) (o p : Option Table) → R was now → IsEach R o p → IsEach R (cond b (Some was) o) (cond b (Some now) p)
      by true was now o p first rest = first
      by false was now o p first rest = rest

-- each table without an inode
abbrev pub Forgets : ℕ → Table → Table → Type 0
Forgets inode was now = (now.rows ≡ remove was.rows inode) × (was.room ≤ now.room)

none_left : (b : Bool) → ◌≡◌ {A = Option Notes} None (cond b None None)
none_left true = refl
none_left false = refl

pub forgotten_notes : (inode : ℕ) (o p : Option Table) → IsEach (Forgets inode) o p → (q : ℕ) → note_by p q ≡ cond (inode == q) None (note_by o q)
forgotten_notes inode (Some was) (Some now) alike q = ap (λ (m : FinMap nat_cmp Notes). get m q) alike.0 ∙ removed_at was.rows inode q
forgotten_notes inode (Some was) None alike q = absurd alike
forgotten_notes inode None (Some now) alike q = absurd alike
forgotten_notes inode None None alike q = none_left (inode == q)

pub forgotten_room : (inode : ℕ) (o p : Option Table) → IsEach (Forgets inode) o p → room_by o ≤ room_by p
forgotten_room inode (Some was) (Some now) alike = alike.1
forgotten_room inode (Some was) None alike = absurd alike
forgotten_room inode None (Some now) alike = absurd alike
forgotten_room inode None None alike = omega arith
