-- The form of a setup: what is read is what the bytes are the form of, and what has it is read again.
use Rattle.std.proofs.Common.{◌≡◌, ℕ, zero, suc, ◌^◌, ◌<◌, ◌≤◌, Bool, true, false, cond, eqb, ltb, leb, ◌&&◌, List, [], ◌∷◌, ◌++◌, length, Result, Ok, Err, refl, sym, ap, subst, ◌∙◌, append_assoc, arith}
use Rattle.std.specs.Prelude.{IfOk}
use Rattle.std.specs.List.{flat_map, AllByRecursion}
use Rattle.std.specs.Int.{w32}
use Rattle.std.proofs.lemmas.Bool.{and_from, and_parts, eqb-true, leb-true, ltb-true, lt-ltb, le-leb}
use Rattle.std.proofs.lemmas.List.{append-nil, nil_from_length}
use Rattle.std.proofs.lemmas.List.Concat.{flat_map-cons}
use Rattle.ids.specs.declared.limits.Bounds.{Bounds}
use Rattle.ids.specs.declared.limits.TheConstants.{LARGEST_FILE, MAX_PROCESSES}
use Rattle.model.specs.Moments.{Setup}
use Rattle.entry_codec.specs.declared.fault.Fault.{Fault}
use Rattle.entry_codec.specs.declared.fault.Wrong.TheVariants as wrong
use Rattle.entry_codec.specs.Parts.{u32_bytes}
use Rattle.entry_codec.specs.Reading.{Read, ◌>>=◌, fault_at, number_at, items_at, two}
use Rattle.entry_codec.proofs.Formats.{IsBytes, Takes, Takes-then, IsFormat, bind_ok, holds_ok, ok_is, done, two_takes, two_again, three_takes, three_again}
use Rattle.entry_codec.proofs.PartForms.{byte_format, u32_format}
use Rattle.store_form.specs.declared.fault.SetupError.{SetupError}
use Rattle.store_form.specs.declared.fault.SetupError.TheVariants as why
use Rattle.store_form.specs.declared.read.Setup.{Setup as Made}
use Rattle.store_form.specs.Setups.{form, bounds_bytes, priority_bytes, priorities_bytes, body_bytes, setup_bytes, AreBounds, ArePriorities, IsSetup}
use Rattle.store_form.specs.ReadingSetups.{setup_of, in_range, file_bytes_at, bounds_from, bounds_at, count_at, priority_at, priorities_at, setup_from, body_in, or_fault, of_form, setup_in, GivesSetup}

-- ---- numbers in a range

in_range_ok : (n x : ℕ × List ℕ) (is_right : ℕ → Bool) → in_range n is_right ≡ Ok x → (is_right n.0 ≡ true) × (n ≡ x)
in_range_ok n x is_right e = holds_ok (is_right n.0) (fault_at wrong.Range n.1) n x e

-- a form of which only numbers that pass a test are taken
ranged_format : {f : ℕ → List ℕ} {F : ℕ → Type 0} {r : List ℕ → Read ℕ} (G : ℕ → Type 0) (is_right : ℕ → Bool) → IsFormat f F r
    → ((n : ℕ) → is_right n ≡ true → G n) → ((n : ℕ) → G n → is_right n ≡ true) → ((n : ℕ) → G n → F n) → IsFormat f G (λ bytes. r bytes >>= λ n. in_range n is_right)
ranged_format {f = f} {r = r} G is_right fa says shows within = record {
  takes = λ bytes x fits e.
      let a = bind_ok (r bytes) (λ n. in_range n is_right) x e in
      let g = in_range_ok a.0 x is_right a.2 in
      let t = fa.takes bytes a.0 fits a.1 in
      subst (λ (y : ℕ × List ℕ). Takes bytes (f y.0) y.1 × G y.0) g.1 (t.0, says a.0.0 g.0);
  again = λ n rest p.
      ap (λ (y : Read ℕ). y >>= λ n. in_range n is_right) (fa.again n rest (within n p)) ∙ rw (shows n p) refl;
}

-- ---- the bounds

narrow : (n : ℕ) → n ≤ LARGEST_FILE → n < 2 ^ 32
narrow n le = omega arith

file_bytes_format : IsFormat u32_bytes (λ n. n ≤ LARGEST_FILE) file_bytes_at
file_bytes_format = ranged_format (λ n. n ≤ LARGEST_FILE) (λ k. leb k LARGEST_FILE) u32_format (λ n h. leb-true n LARGEST_FILE h) (λ n h. le-leb n LARGEST_FILE h) narrow

bounds_take : (bytes : List ℕ) (x : Bounds × List ℕ) → IsBytes bytes → bounds_at bytes ≡ Ok x → Takes bytes (bounds_bytes x.0) x.1 × AreBounds x.0
bounds_take bytes x fits e =
    three_takes file_bytes_format u32_format u32_format bounds_from bytes x (λ (y : Bounds × List ℕ). Takes bytes (bounds_bytes y.0) y.1 × AreBounds y.0) fits e
    (λ file_bytes descriptors path_bytes rest t p q r. (t, record { file_bytes = p; descriptors = q; path_bytes = r }))

bounds_again : (bounds : Bounds) (rest : List ℕ) → AreBounds bounds → bounds_at (bounds_bytes bounds ++ rest) ≡ Ok (bounds, rest)
bounds_again bounds rest p = three_again file_bytes_format u32_format u32_format bounds_from bounds.file_bytes bounds.descriptors bounds.path_bytes rest p.file_bytes p.descriptors p.path_bytes

bounds_format : IsFormat bounds_bytes AreBounds bounds_at
bounds_format = record { takes = bounds_take; again = bounds_again }

-- ---- the priorities

abbrev IsCount : ℕ → Type 0
IsCount n = (0 < n) × (n ≤ MAX_PROCESSES)

counted : (n : ℕ) → (ltb 0 n && leb n MAX_PROCESSES) ≡ true → IsCount n
counted n h = let both = and_parts (ltb 0 n) (leb n MAX_PROCESSES) h in (ltb-true 0 n both.0, leb-true n MAX_PROCESSES both.1)

count_passes : (n : ℕ) → IsCount n → (ltb 0 n && leb n MAX_PROCESSES) ≡ true
count_passes n p = and_from (ltb 0 n) (leb n MAX_PROCESSES) (lt-ltb 0 n p.0) (le-leb n MAX_PROCESSES p.1)

count_fits : (n : ℕ) → IsCount n → n < 2 ^ 32
count_fits n p = let le : n ≤ MAX_PROCESSES = p.1 in omega arith

count_format : IsFormat u32_bytes IsCount count_at
count_format = ranged_format IsCount (λ k. ltb 0 k && leb k MAX_PROCESSES) u32_format counted count_passes count_fits

level_fits : (n : ℕ) → n < 8 → n < 256
level_fits n lt = omega arith

priority_format : IsFormat priority_bytes (λ p. p < 8) priority_at
priority_format = ranged_format (λ p. p < 8) (λ k. ltb k 8) byte_format (λ n h. ltb-true n 8 h) (λ n h. lt-ltb n 8 h) level_fits

levels_take : (n : ℕ) (bytes : List ℕ) (x : List ℕ × List ℕ) → IsBytes bytes → items_at priority_at n bytes ≡ Ok x
    → Takes bytes (flat_map priority_bytes x.0) x.1 × (length x.0 ≡ n) × AllByRecursion (λ p. p < 8) x.0
unfolding items_at
levels_take zero bytes x fits e =
    let made : List ℕ × List ℕ = ([], bytes) in
    subst (λ (y : List ℕ × List ℕ). Takes bytes (flat_map priority_bytes y.0) y.1 × (length y.0 ≡ 0) × AllByRecursion (λ p. p < 8) y.0) (ok_is made x e) (record { parts = refl; rest_fits = fits }, refl, tt)
levels_take (suc n) bytes x fits e =
    let a = bind_ok (priority_at bytes) (λ first. items_at priority_at n first.1 >>= λ others. Ok (first.0 ∷ others.0, others.1)) x e in
    let b = bind_ok (items_at priority_at n a.0.1) (λ others. Ok (a.0.0 ∷ others.0, others.1)) x a.2 in
    let first = priority_format.takes bytes a.0 fits a.1 in
    let others = levels_take n a.0.1 b.0 first.0.rest_fits b.1 in
    let both = Takes-then bytes (priority_bytes a.0.0) a.0.1 (flat_map priority_bytes b.0.0) b.0.1 first.0 others.0 in
    let made : List ℕ × List ℕ = (a.0.0 ∷ b.0.0, b.0.1) in
    subst (λ (y : List ℕ × List ℕ). Takes bytes (flat_map priority_bytes y.0) y.1 × (length y.0 ≡ suc n) × AllByRecursion (λ p. p < 8) y.0) (ok_is made x b.2) (rw flat_map-cons both, ap suc others.1, (first.1, others.2))

levels_again : (ps rest : List ℕ) → AllByRecursion (λ p. p < 8) ps → items_at priority_at (length ps) (flat_map priority_bytes ps ++ rest) ≡ Ok (ps, rest)
unfolding items_at
levels_again [] rest fits = refl
levels_again (p ∷ ps) rest fits =
    let regrouped : flat_map priority_bytes (p ∷ ps) ++ rest ≡ priority_bytes p ++ (flat_map priority_bytes ps ++ rest) = ap (λ (y : List ℕ). y ++ rest) (flat_map-cons priority_bytes p ps) ∙ append_assoc (priority_bytes p) (flat_map priority_bytes ps) rest in
    ap (items_at priority_at (suc (length ps))) regrouped
    ∙ ap (λ (y : Read ℕ). y >>= λ first. items_at priority_at (length ps) first.1 >>= λ others. Ok (first.0 ∷ others.0, others.1)) (priority_format.again p (flat_map priority_bytes ps ++ rest) fits.0)
    ∙ ap (λ (y : Read (List ℕ)). y >>= λ others. Ok (p ∷ others.0, others.1)) (levels_again ps rest fits.1)

priorities_take : (bytes : List ℕ) (x : List ℕ × List ℕ) → IsBytes bytes → priorities_at bytes ≡ Ok x → Takes bytes (priorities_bytes x.0) x.1 × ArePriorities x.0
priorities_take bytes x fits e =
    let a = bind_ok (count_at bytes) (λ count. items_at priority_at count.0 count.1) x e in
    let t = count_format.takes bytes a.0 fits a.1 in
    let u = levels_take a.0.0 a.0.1 x t.0.rest_fits a.2 in
    let both = Takes-then bytes (u32_bytes a.0.0) a.0.1 (flat_map priority_bytes x.0) x.1 t.0 u.0 in
    let whole : Takes bytes (priorities_bytes x.0) x.1 = subst (λ (k : ℕ). Takes bytes (u32_bytes k ++ flat_map priority_bytes x.0) x.1) (sym u.1) both in
    let count : IsCount (length x.0) = subst IsCount (sym u.1) t.1 in
    (whole, record { some = count.0; not_too_many = count.1; levels = u.2 })

priorities_again : (ps rest : List ℕ) → ArePriorities ps → priorities_at (priorities_bytes ps ++ rest) ≡ Ok (ps, rest)
priorities_again ps rest p =
    ap priorities_at (append_assoc (u32_bytes (length ps)) (flat_map priority_bytes ps) rest)
    ∙ ap (λ (y : Read ℕ). y >>= λ count. items_at priority_at count.0 count.1) (count_format.again (length ps) (flat_map priority_bytes ps ++ rest) (p.some, p.not_too_many))
    ∙ levels_again ps rest p.levels

priorities_format : IsFormat priorities_bytes ArePriorities priorities_at
priorities_format = record { takes = priorities_take; again = priorities_again }

-- ---- what stands behind the number of the form

abbrev all_of_it : Setup × List ℕ → Result Setup Fault
all_of_it setup = cond (eqb (length setup.1) 0) (Ok setup.0) (Err (fault_at wrong.Trailing setup.1))

fields_take : (bytes : List ℕ) (x : Setup × List ℕ) → IsBytes bytes → two setup_from bounds_at priorities_at bytes ≡ Ok x → Takes bytes (body_bytes x.0) x.1 × IsSetup x.0
fields_take bytes x fits e =
    two_takes bounds_format priorities_format setup_from bytes x (λ (y : Setup × List ℕ). Takes bytes (body_bytes y.0) y.1 × IsSetup y.0) fits e
    (λ bounds priorities rest t p q. (t, record { bounds = p; priorities = q }))

body_take : (bytes : List ℕ) (setup : Setup) → IsBytes bytes → body_in bytes ≡ Ok setup → (bytes ≡ body_bytes setup) × IsSetup setup
body_take bytes setup fits e =
    let a = bind_ok (two setup_from bounds_at priorities_at bytes) all_of_it setup e in
    let g = holds_ok (eqb (length a.0.1) 0) (fault_at wrong.Trailing a.0.1) a.0.0 setup a.2 in
    let t = fields_take bytes a.0 fits a.1 in
    let nothing : a.0.1 ≡ [] = nil_from_length a.0.1 (eqb-true _ _ g.0) in
    let whole : bytes ≡ body_bytes a.0.0 = t.0.parts ∙ ap (λ (r : List ℕ). body_bytes a.0.0 ++ r) nothing ∙ append-nil (body_bytes a.0.0) in
    subst (λ (y : Setup). (bytes ≡ body_bytes y) × IsSetup y) g.1 (whole, t.1)

body_again : (setup : Setup) → IsSetup setup → body_in (body_bytes setup) ≡ Ok setup
body_again setup p =
    ap body_in (sym (append-nil (body_bytes setup)))
    ∙ ap (λ (y : Read Setup). y >>= all_of_it) (two_again bounds_format priorities_format setup_from setup.bounds setup.priorities [] p.bounds p.priorities)

-- ---- a whole setup

told_ok : {X : Type 0} (r : Result X Fault) (f : X → Result Setup SetupError) (y : Setup) → or_fault r f ≡ Ok y → (x : X) × (r ≡ Ok x) × (f x ≡ Ok y)
told_ok (Ok x) f y e = (x, refl, e)
told_ok (Err d) f y e = absurd cc

same_form : (b : Bool) (r other : Result Setup SetupError) (y : Setup) (n : ℕ) → other ≡ Err (why.OtherForm n) → cond b r other ≡ Ok y → (b ≡ true) × (r ≡ Ok y)
same_form true r other y n is e = (refl, e)
same_form false r other y n is e = absurd cc

same_ok : (x y : Setup) → ◌≡◌ {A = Result Setup SetupError} (Ok x) (Ok y) → x ≡ y
same_ok x y h = cc

setup_takes : (bytes : List ℕ) (setup : Setup) → IsBytes bytes → setup_in bytes ≡ Ok setup → IsSetup setup × (bytes ≡ setup_bytes setup)
unfolding setup_in setup_bytes
setup_takes bytes setup fits e =
    let a = told_ok (number_at w32 bytes) of_form setup e in
    let n : ℕ = a.0.0 in
    let left : List ℕ = a.0.1 in
    let t = u32_format.takes bytes a.0 fits a.1 in
    let g = same_form (eqb n form) (or_fault (body_in left) (λ s. Ok s)) (Err (why.OtherForm n)) setup n refl a.2 in
    let b = told_ok (body_in left) (λ s. Ok s) setup g.1 in
    let is_first : n ≡ form = eqb-true n form g.0 in
    let read : body_in left ≡ Ok setup = b.1 ∙ ap (λ (s : Setup). done s) (same_ok b.0 setup b.2) in
    let body = body_take left setup t.0.rest_fits read in
    (body.1, t.0.parts ∙ ap (λ (k : ℕ). u32_bytes k ++ left) is_first ∙ ap (λ (r : List ℕ). u32_bytes form ++ r) body.0)

pub setup_again : (setup : Setup) → IsSetup setup → setup_in (setup_bytes setup) ≡ Ok setup
unfolding setup_in setup_bytes
setup_again setup p =
    let small : form < 2 ^ 32 = omega arith in
    ap (λ (y : Read ℕ). or_fault y of_form) (u32_format.again form (body_bytes setup) small)
    ∙ ap (λ (y : Result Setup Fault). or_fault y (λ s. Ok s)) (body_again setup p)

-- what is read is what the bytes are the form of
pub setup_found : (bytes : List ℕ) (r : Result Made SetupError) → IsBytes bytes → GivesSetup r (setup_in bytes) → IfOk r (λ made. IsSetup (setup_of made) × (bytes ≡ setup_bytes (setup_of made)))
setup_found bytes (Ok made) fits given = setup_takes bytes (setup_of made) fits given
setup_found bytes (Err e) fits given = tt

-- one setup has one form
pub one_setup : (setup other : Setup) → IsSetup setup → IsSetup other → setup_bytes setup ≡ setup_bytes other → setup ≡ other
one_setup setup other p q same = same_ok setup other (sym (setup_again setup p) ∙ ap setup_in same ∙ setup_again other q)
