-- What is known of the map that entries make, when one of them is changed.
use Rattle.std.proofs.Common.{◌≡◌, ℕ, ◌+◌, List, [], ◌∷◌, length, Option, Some, None, cond, nat_eq, refl, sym, ap, ◌∙◌, add-one}
use Rattle.std.specs.Cmp.{nat_cmp_total, nat_eq_equiv, unsigned_ties}
use Rattle.std.specs.List.{IsDistinct}
use Rattle.std.specs.Map.{keys_of, lookup}
use Rattle.std.specs.Option.{is_some}
use Rattle.std.specs.Ordering.{nat_cmp}
use Rattle.std.proofs.lemmas.Map.{lookup-none}
use Rattle.std.proofs.lemmas.Map.Entries.{none_past_head}
use Rattle.std.proofs.lemmas.Map.Keys.{IsDistinct-tail}
use Rattle.model.specs.FiniteMap as finite
use Rattle.mount_tables.specs.Rows.{Rows}
use Rattle.model.proofs.Laws.{get_at, inserted}

-- the same table has the same map
module _ {X : Type 0} {r s : Rows X} (same : r ≡ s) where
  pub same_rows : r.rows ≡ s.rows
  same_rows = ap (λ (t : Rows X). t.rows) same

  pub same_room : r.room ≡ s.room
  same_room = ap (λ (t : Rows X). t.room) same

  pub same_get : (number : ℕ) → finite.get r.rows number ≡ finite.get s.rows number
  same_get number = ap (λ (t : Rows X). finite.get t.rows number) same

  pub same_insert : (number : ℕ) (row : X) → finite.insert r.rows number row ≡ finite.insert s.rows number row
  same_insert number row = ap (λ (t : Rows X). finite.insert t.rows number row) same

  pub same_remove : (number : ℕ) → finite.remove r.rows number ≡ finite.remove s.rows number
  same_remove number = ap (λ (t : Rows X). finite.remove t.rows number) same

-- What a number stands for was changed, if it stood for anything: what f tells of it is what became
-- of the map.
module _ {X : Type 0} (number : ℕ) (es : List (ℕ × X)) (f : Option X → finite.FinMap nat_cmp X) where
  given : finite.get {R = nat_cmp} (finite.from_entries es) number ≡ lookup (nat_eq number) es
  given = get_at nat_cmp_total finite.nat_cmp-IsAntisymmetric nat_eq unsigned_ties es number

  pub changed_at : (row now : X) (fs : List (ℕ × X)) → Some row ≡ lookup (nat_eq number) es → ((q : ℕ) → lookup (nat_eq q) fs ≡ cond (nat_eq number q) (Some now) (lookup (nat_eq q) es)) → finite.insert (finite.from_entries es) number now ≡ f (Some row) → finite.from_entries {R = nat_cmp} fs ≡ f (finite.get {R = nat_cmp} (finite.from_entries es) number)
  changed_at row now fs there others is =
      inserted nat_cmp_total finite.nat_cmp-IsAntisymmetric nat_eq unsigned_ties es fs number now others
      ∙ is
      ∙ ap f (there ∙ sym given)

  pub missing_at : None ≡ lookup (nat_eq number) es → f None ≡ f (finite.get {R = nat_cmp} (finite.from_entries es) number)
  missing_at none = ap f (none ∙ sym given)

-- as many as there are entries, since no two have the same key
len_by : {X : Type 0} (found : Option X) (len : ℕ) → found ≡ None → cond (is_some found) len (len + 1) ≡ len + 1
len_by None len is = refl
len_by (Some x) len is = absurd cc

pub counts : {X : Type 0} (es : List (ℕ × X)) → IsDistinct nat_eq (keys_of es) → length es ≡ finite.len (finite.from_entries {R = nat_cmp} es)
counts {X = X} [] apart = sym (finite.len-empty nat_cmp X)
counts {X = X} (e ∷ es) apart =
    let none : finite.get {R = nat_cmp} (finite.from_entries es) e.0 ≡ None
    = get_at nat_cmp_total finite.nat_cmp-IsAntisymmetric nat_eq unsigned_ties es e.0
    ∙ lookup-none (nat_eq e.0) es (none_past_head nat_eq_equiv e.0 e es apart (nat_eq_equiv.refl e.0)) in
    sym (add-one (length es))
    ∙ ap (λ (n : ℕ). n + 1) (counts es (IsDistinct-tail nat_eq e.0 (keys_of es) apart))
    ∙ sym (len_by (finite.get {R = nat_cmp} (finite.from_entries es) e.0) (finite.len (finite.from_entries {R = nat_cmp} es)) none)
    ∙ sym (finite.len-insert nat_cmp_total (finite.from_entries es) e.0 e.1)
