-- Records of beginnings.
use Rattle.std.proofs.Common.{◌≡◌, ℕ, zero, suc, ◌≤◌, List, [], ◌∷◌, ◌++◌, length, take, refl, sym, ap, subst, ◌∙◌, append_assoc, append-nil, arith}
use Rattle.std.proofs.Math.Seq.{take-nil}
use Rattle.model.specs.Steps.{Item}
use Rattle.model.specs.Entries.{Entry}
use Rattle.model.specs.Moments.{Moment, next, after_from, at_start}
use Rattle.model.specs.Legal.{IsBefore}
use Rattle.redo_records.specs.Records.{added, as_record, records_from}
use Rattle.redo_records.specs.Recovery.{BeginningsHaveRecords, RecordsGrow}

-- the same from any moment on
record HasFrom (m : Moment) (es : List Entry) (n : ℕ) (before : List Entry) : Type 0 where
  is_before : IsBefore before es
  same : records_from m before ≡ take n (records_from m es)
  longest : (first : List Entry) → IsBefore first es → length (records_from m first) ≤ n → IsBefore first before

heads : (x y : Entry) (xs ys : List Entry) → ◌≡◌ {A = List Entry} (x ∷ xs) (y ∷ ys) → x ≡ y
heads x y xs ys h = cc

tails : (x y : Entry) (xs ys : List Entry) → ◌≡◌ {A = List Entry} (x ∷ xs) (y ∷ ys) → xs ≡ ys
tails x y xs ys h = cc

no_less : (r : List Item) (rs : List (List Item)) → length (r ∷ rs) ≤ 0 → ⊥
no_less r rs low = absurd (omega arith)

one_less : (r : List Item) (rs : List (List Item)) (k : ℕ) → length (r ∷ rs) ≤ suc k → length rs ≤ k
one_less r rs k low = omega arith

none_before : (es : List Entry) → IsBefore [] es
none_before es = (es, refl)

behind : (e : Entry) (fs gs : List Entry) → IsBefore fs gs → IsBefore (e ∷ fs) (e ∷ gs)
behind e fs gs is = (is.0, ap (λ (hs : List Entry). e ∷ hs) is.1)

-- what holds of each beginning that goes on behind an entry holds of each that begins with it
longer : (m : Moment) (e : Entry) (es before : List Entry) (n : ℕ)
    → ((fs : List Entry) → IsBefore fs es → length (records_from m (e ∷ fs)) ≤ n → IsBefore fs before)
    → (first : List Entry) → IsBefore first (e ∷ es) → length (records_from m first) ≤ n → IsBefore first (e ∷ before)
longer m e es before n rest [] is low = none_before (e ∷ before)
longer m e es before n rest (d ∷ fs) is low =
    let met : d ≡ e = sym (heads e d es (fs ++ is.0) is.1) in
    subst (λ (x : Entry). IsBefore (x ∷ fs) (e ∷ before)) (sym met)
    (behind e fs before (rest fs (is.0, tails e d es (fs ++ is.0) is.1) (subst (λ (x : Entry). length (records_from m (x ∷ fs)) ≤ n) met low)))

only_none : (m : Moment) (e : Entry) (es : List Entry) (n : ℕ)
    → ((fs : List Entry) → length (records_from m (e ∷ fs)) ≤ n → ⊥)
    → (first : List Entry) → IsBefore first (e ∷ es) → length (records_from m first) ≤ n → IsBefore first []
only_none m e es n none [] is low = none_before []
only_none m e es n none (d ∷ fs) is low =
    let met : d ≡ e = sym (heads e d es (fs ++ is.0) is.1) in
    absurd (none fs (subst (λ (x : Entry). length (records_from m (x ∷ fs)) ≤ n) met low))

has_from : (m : Moment) (es : List Entry) (n : ℕ) → (before : List Entry) × HasFrom m es n before
has_from m [] n = ([], record { is_before = none_before []; same = sym (take-nil n); longest = λ first is low. is })
has_from m (e ∷ es) n = by (has_from (next m e) es) (added m e) refl n where
  by : ((n : ℕ) → (before : List Entry) × HasFrom (next m e) es n before) → (xs : List Item) → as_record (added m e) ≡ as_record xs → (n : ℕ) → (before : List Entry) × HasFrom m (e ∷ es) n before
  by later [] is n =
      let rest = later n in
      let more : (fs : List Entry) → records_from m (e ∷ fs) ≡ records_from (next m e) fs = λ fs. ap (λ rs. rs ++ records_from (next m e) fs) is in (
        e ∷ rest.0,
        record {
          is_before = behind e rest.0 es rest.1.is_before;
          same = more rest.0 ∙ rest.1.same ∙ ap (take n) (sym (more es));
          longest = longer m e es rest.0 n (λ fs begins low. rest.1.longest fs begins (subst (λ rs. length rs ≤ n) (more fs) low));
        },
      )
  by later (it ∷ its) is zero = (
    [],
    record {
      is_before = none_before (e ∷ es);
      same = refl;
      longest = only_none m e es 0 (λ fs low. no_less (it ∷ its) (records_from (next m e) fs) (subst (λ rs. length rs ≤ 0) (ap (λ rs. rs ++ records_from (next m e) fs) is) low));
    },
  )
  by later (it ∷ its) is (suc k) =
      let rest = later k in
      let more : (fs : List Entry) → records_from m (e ∷ fs) ≡ (it ∷ its) ∷ records_from (next m e) fs = λ fs. ap (λ rs. rs ++ records_from (next m e) fs) is in (
        e ∷ rest.0,
        record {
          is_before = behind e rest.0 es rest.1.is_before;
          same = more rest.0 ∙ ap (λ rs. (it ∷ its) ∷ rs) rest.1.same ∙ ap (take (suc k)) (sym (more es));
          longest = longer m e es rest.0 (suc k) (λ fs begins low. rest.1.longest fs begins (one_less (it ∷ its) (records_from (next m e) fs) k (subst (λ rs. length rs ≤ suc k) (more fs) low)));
        },
      )

pub beginnings_have_records : BeginningsHaveRecords
beginnings_have_records root setup es n =
    let it = has_from (at_start root setup) es n in
    (it.0, record { is_before = it.1.is_before; same = it.1.same; longest = it.1.longest })

grow_from : (m : Moment) (es : List Entry) (e : Entry) → records_from m (es ++ e ∷ []) ≡ records_from m es ++ as_record (added (after_from m es) e)
grow_from m [] e = append-nil (as_record (added m e))
grow_from m (d ∷ es) e = ap (λ rs. as_record (added m d) ++ rs) (grow_from (next m d) es e) ∙ sym (append_assoc (as_record (added m d)) (records_from (next m d) es) (as_record (added (after_from (next m d) es) e)))

-- one entry more
pub records_grow : RecordsGrow
records_grow root setup es e = grow_from (at_start root setup) es e
