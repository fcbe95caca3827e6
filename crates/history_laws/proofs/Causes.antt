-- What the losers of conflicts are told.
use Rattle.std.proofs.Common.{◌≡◌, ◌≢◌, ℕ, zero, suc, List, [], ◌∷◌, Option, Some, None, refl, sym, ◌∙◌, ap, ap₂, subst, true, false, Bool, inl, inr, eqb, arith}
use Rattle.std.specs.Prelude.{◌||◌, ◌&&◌, not, if◌then◌else◌}
use Rattle.std.specs.List.{Contains}
use Rattle.std.proofs.lemmas.Bool.{cases_Bool, or_cases, and_parts, and_from, or_left, or_right, not-true, not_from_false, both_ways, false≢true, eqb-true, eqb-false, eq-eqb}
use Rattle.model.specs.State.{Name}
use Rattle.model.specs.Paths.{same_name}
use Rattle.model.specs.Aspects.{Aspect, Entry, Names, Size, Block, Links, Ends, Offset, Front, Back, Target, Rights}
use Rattle.model.specs.Calls.{Call}
use Rattle.model.specs.Steps.{Touch}
use Rattle.model.specs.Entries.{Cause, Do, Entry as OneEntry}
use Rattle.model.specs.Clashes.{same_aspect, names_against, clash, clashes, any_clash, has_touch, name_lt, written_name, with_name, least_written, entry_or, by_names, clashing_touch, doomed_touch}
use Rattle.model.specs.Moments.{Moment, after, is_in, held_by, bound, counted_touches, dooming_touches, doom_cause, clashes_with, loses, loses_by, lowest_below, or_number, cause_or, losing_cause}
use Rattle.model.specs.Legal.{Alone, Taken}
use Rattle.history_laws.specs.Causes.{IsTold, DoomedAreToldTheirs, IsLost, LosersAreToldTheirs}
use Rattle.history_laws.proofs.Membership.{In}
use Rattle.history_laws.proofs.Marks.{passing, passed}
use Rattle.history_laws.proofs.lists.LiveLists.{same_aspect_turned}
use Rattle.history_laws.proofs.lists.Touches.{same_aspect_refl}
use Rattle.history_laws.proofs.entries.Moments.{below_passes}
use Rattle.history_laws.proofs.entries.Kinds.{Kind, Changes, Pushes, Commits, Begins, Settles, Rests, kind}

contained : {A : Type 0} (x : A) (xs : List A) → In x xs → Contains xs x
contained x [] i = absurd i
contained x (y ∷ xs) i = elim i [
  | inl e ↦ (0, omega arith, sym e)
  | inr r ↦ (let rest = contained x xs r in (suc rest.0, omega (arith, rest.1), rest.2))
]

same_name_is : (x y : Name) → same_name x y ≡ true → x ≡ y
same_name_is [] [] h = refl
same_name_is [] (b ∷ y) h = absurd (false≢true h)
same_name_is (a ∷ x) [] h = absurd (false≢true h)
same_name_is (a ∷ x) (b ∷ y) h = ap₂ (λ c z. c ∷ z) (eqb-true a b (and_parts (eqb a b) _ h).0) (same_name_is x y (and_parts (eqb a b) _ h).1)

same_aspect_is : (a b : Aspect) → same_aspect a b ≡ true → a ≡ b
same_aspect_is (Entry d x) (Entry e y) h = ap₂ Entry (eqb-true d e (and_parts (eqb d e) _ h).0) (same_name_is x y (and_parts (eqb d e) _ h).1)
same_aspect_is (Names d) (Names e) h = ap Names (eqb-true d e h)
same_aspect_is (Size d) (Size e) h = ap Size (eqb-true d e h)
same_aspect_is (Block d i) (Block e j) h = ap₂ Block (eqb-true d e (and_parts (eqb d e) _ h).0) (eqb-true i j (and_parts (eqb d e) _ h).1)
same_aspect_is (Links d) (Links e) h = ap Links (eqb-true d e h)
same_aspect_is (Ends d) (Ends e) h = ap Ends (eqb-true d e h)
same_aspect_is (Offset d) (Offset e) h = ap Offset (eqb-true d e h)
same_aspect_is (Front d) (Front e) h = ap Front (eqb-true d e h)
same_aspect_is (Back d) (Back e) h = ap Back (eqb-true d e h)
same_aspect_is (Target d) (Target e) h = ap Target (eqb-true d e h)
same_aspect_is (Rights d) (Rights e) h = ap Rights (eqb-true d e h)
same_aspect_is a b h = absurd (false≢true h)

abbrev touch : Aspect → Bool → Touch
touch a write = record { aspect = a; write = write }

-- the touch that has_touch finds
has_found : (a : Aspect) (write : Bool) (us : List Touch) → has_touch a write us ≡ true → In (touch a write) us
has_found a write us h =
    let found = passing (λ u. same_aspect u.aspect a && (if write then u.write else not u.write)) us h in
    let same : found.it.aspect ≡ a = same_aspect_is found.it.aspect a (and_parts (same_aspect found.it.aspect a) _ found.passes).0 in
    subst (λ u. In u us) (ap₂ touch same (written_so write found.it.write (and_parts (same_aspect found.it.aspect a) _ found.passes).1)) found.among
  where
    written_so : (w v : Bool) → (if w then v else not v) ≡ true → v ≡ w
    written_so true v h = h
    written_so false v h = not-true v h

has_it : (a : Aspect) (write : Bool) (us : List Touch) (u : Touch) → In u us → same_aspect u.aspect a ≡ true → (if write then u.write else not u.write) ≡ true → has_touch a write us ≡ true
has_it a write us u i same so = passed (λ u. same_aspect u.aspect a && (if write then u.write else not u.write)) us u i (and_from (same_aspect u.aspect a) _ same so)

some_of : {A : Type 0} → A → Option A → A
some_of other (Some x) = x
some_of other None = other

some_is : {A : Type 0} (x y : A) → Some x ≡ Some y → x ≡ y
unfolding some_of
some_is x y h = ap (some_of x) h

none_some : {A : Type 0} (x : A) → None ≡ Some x → ⊥
none_some x h = absurd cc

-- the written entries of a directory, and the least
written_is : (d : ℕ) (a : Aspect) (b : Bool) (x : Name) → written_name d a b ≡ Some x → touch a b ≡ touch (Entry d x) true
written_is d (Entry e y) true x h = by (eqb e d) refl h where
  by : (b : Bool) → eqb e d ≡ b → (if b then Some y else None) ≡ Some x → touch (Entry e y) true ≡ touch (Entry d x) true
  by true is g = ap₂ (λ n z. touch (Entry n z) true) (eqb-true e d is) (some_is y x g)
  by false is g = absurd (none_some x g)
written_is d a b x h = absurd (none_some x h)

least_in : (d : ℕ) (us : List Touch) (y : Name) → least_written d us ≡ Some y → In (touch (Entry d y) true) us
least_in d [] y h = absurd (none_some y h)
least_in d (u ∷ us) y h = by (written_name d u.aspect u.write) refl (least_written d us) refl (least_in d us) h where
  by : (w : Option Name) → written_name d u.aspect u.write ≡ w → (o : Option Name) → least_written d us ≡ o → ((z : Name) → least_written d us ≡ Some z → In (touch (Entry d z) true) us)
      → with_name w o ≡ Some y → In (touch (Entry d y) true) (u ∷ us)
  by None is o rest later g = inr (later y (rest ∙ g))
  by (Some x) is None rest later g = inl (sym (written_is d u.aspect u.write x is ∙ ap (λ z. touch (Entry d z) true) (some_is x y g)))
  by (Some x) is (Some z) rest later g = lower (name_lt z x) (some_is _ y g) where
    lower : (b : Bool) → (if b then z else x) ≡ y → In (touch (Entry d y) true) (u ∷ us)
    lower true e = inr (later y (rest ∙ ap Some e))
    lower false e = inl (sym (written_is d u.aspect u.write x is ∙ ap (λ z. touch (Entry d z) true) e))

least_there : (d : ℕ) (us : List Touch) (u : Touch) (x : Name) → In u us → written_name d u.aspect u.write ≡ Some x → least_written d us ≢ None
least_there d [] u x i is = absurd i
least_there d (v ∷ us) u x i is = elim i [
  | inl same ↦ here (written_name d v.aspect v.write) (ap (λ (t : Touch). written_name d t.aspect t.write) (sym same) ∙ is)
  | inr rest ↦ later (written_name d v.aspect v.write) (least_there d us u x rest is)
] where
  here : (w : Option Name) → w ≡ Some x → with_name w (least_written d us) ≢ None
  here (Some y) h g = absurd cc
  here None h g = none_some x h

  later : (w : Option Name) → least_written d us ≢ None → with_name w (least_written d us) ≢ None
  later (Some y) h g = absurd cc
  later None h g = h g

-- what one clashing touch of the caller tells
record Tells (t : Touch) (us : List Touch) (told : Touch) : Type 0 where
  held : In told us
  clashing : clash t told ≡ true

by_entry : (d : ℕ) (us : List Touch) (o : Option Name) → least_written d us ≡ o → o ≢ None → Tells (touch (Names d) false) us (entry_or d o)
by_entry d us (Some y) is there = record { held = least_in d us y is; clashing = or_right false _ (or_left (eqb d d) false (eq-eqb d d refl)) }
by_entry d us None is there = absurd (there refl)

-- where one reads names and the other writes an entry
record IsAgainst (first second : Touch) : Type 0 where
  directory : ℕ
  name : Name
  reads : first ≡ touch (Names directory) false
  writes : second ≡ touch (Entry directory name) true

against_is : (b : Aspect) (v : Bool) (a : Aspect) (w : Bool) → names_against b v a w ≡ true → IsAgainst (touch b v) (touch a w)
against_is (Names e) false (Entry f x) true h = record { directory = e; name = x; reads = refl; writes = ap (λ n. touch (Entry n x) true) (sym (eqb-true e f h)) }
against_is b v a w h = absurd (false≢true h)

written_itself : (d : ℕ) (x : Name) → written_name d (Entry d x) true ≡ Some x
written_itself d x = ap (λ b. if b then Some x else None) (eq-eqb d d refl)

reader_told : (t : Touch) (us : List Touch) (u : Touch) → In u us → IsAgainst t u → Tells t us (by_names t.aspect us)
reader_told t us u i is = subst (λ t. Tells t us (by_names t.aspect us)) (sym is.reads)
    (by_entry is.directory us (least_written is.directory us) refl (least_there is.directory us u is.name i (ap (λ (v : Touch). written_name is.directory v.aspect v.write) is.writes ∙ written_itself is.directory is.name)))

writer_told : (t : Touch) (us : List Touch) (u : Touch) → In u us → IsAgainst u t → Tells t us (by_names t.aspect us)
writer_told t us u i is = subst (λ t. Tells t us (by_names t.aspect us)) (sym is.writes)
    (record { held = subst (λ v. In v us) is.reads i; clashing = or_right false _ (or_right false (eqb is.directory is.directory) (eq-eqb is.directory is.directory refl)) })

tells : (t : Touch) (us : List Touch) → clashes t us ≡ true → Tells t us (clashing_touch t us)
tells t us h = by (has_touch t.aspect true us) refl (t.write && has_touch t.aspect false us) refl where
  left : (b : Bool) → (b || false) ≡ true → b ≡ true
  left true g = refl
  left false g = g

  none : (u : Touch) → In u us → (same_aspect t.aspect u.aspect && (t.write || u.write)) ≡ true → has_touch t.aspect true us ≡ false → (t.write && has_touch t.aspect false us) ≡ false → ⊥
  none u i both no_write no_read =
      let same : same_aspect u.aspect t.aspect ≡ true = same_aspect_turned u.aspect t.aspect ∙ (and_parts (same_aspect t.aspect u.aspect) (t.write || u.write) both).0 in
      elim (cases_Bool u.write) [
        | inl writes ↦ both_ways (has_touch t.aspect true us) no_write (has_it t.aspect true us u i same writes)
        | inr reads ↦
            let written : t.write ≡ true = left t.write (sym (ap (λ b. t.write || b) reads) ∙ (and_parts (same_aspect t.aspect u.aspect) (t.write || u.write) both).1) in
            both_ways (t.write && has_touch t.aspect false us) no_read (and_from t.write (has_touch t.aspect false us) written (has_it t.aspect false us u i same (not_from_false u.write reads)))
      ]

  by : (has_write : Bool) → has_touch t.aspect true us ≡ has_write → (has_read : Bool) → (t.write && has_touch t.aspect false us) ≡ has_read
      → Tells t us (if has_write then touch t.aspect true else if has_read then touch t.aspect false else by_names t.aspect us)
  by true e read f = record {
    held = has_found t.aspect true us e;
    clashing = or_left (same_aspect t.aspect t.aspect && (t.write || true)) _ (and_from (same_aspect t.aspect t.aspect) (t.write || true) (same_aspect_refl t.aspect) (or_right t.write true refl));
  }
  by false e true f = record {
    held = has_found t.aspect false us (and_parts t.write (has_touch t.aspect false us) f).1;
    clashing = or_left (same_aspect t.aspect t.aspect && (t.write || false)) _ (and_from (same_aspect t.aspect t.aspect) (t.write || false) (same_aspect_refl t.aspect) (or_left t.write false (and_parts t.write (has_touch t.aspect false us) f).0));
  }
  by false e false f =
      let u = passing (clash t) us h in
      elim (or_cases (same_aspect t.aspect u.it.aspect && (t.write || u.it.write)) _ u.passes) [
        | inl same ↦ absurd (none u.it u.among same e f)
        | inr names ↦ elim (or_cases (names_against t.aspect t.write u.it.aspect u.it.write) _ names) [
          | inl reads ↦ reader_told t us u.it u.among (against_is t.aspect t.write u.it.aspect u.it.write reads)
          | inr writes ↦ writer_told t us u.it u.among (against_is u.it.aspect u.it.write t.aspect t.write writes)
        ]
      ]

-- and what the first of the caller's touches that clashes tells
record Told (ts us : List Touch) (told : Touch) : Type 0 where
  it : Touch
  among : In it ts
  tells : Tells it us told

first_told : (ts us : List Touch) → any_clash ts us ≡ true → Told ts us (doomed_touch ts us)
first_told [] us h = absurd (false≢true h)
first_told (t ∷ ts) us h = by (clashes t us) refl (first_told ts us) h where
  by : (b : Bool) → clashes t us ≡ b → (any_clash ts us ≡ true → Told ts us (doomed_touch ts us)) → (b || any_clash ts us) ≡ true → Told (t ∷ ts) us (if b then clashing_touch t us else doomed_touch ts us)
  by true e later g = record { it = t; among = inl refl; tells = tells t us e }
  by false e later g = (let rest = later g in record { it = rest.it; among = inr rest.among; tells = rest.tells })

told_at : (m : Moment) (e : OneEntry) (call : Call) → e.op ≡ Do call → Taken m e call → (q : ℕ) → is_in q e.doomed ≡ true → IsTold m q (dooming_touches m e.pid e.op) (doom_cause m e.pid (dooming_touches m e.pid e.op) q).touch
told_at m e call is_op taken q doomed_too =
    let clashing : clashes_with m e.pid (counted_touches m e.pid call) q ≡ true = below_passes (clashes_with m e.pid (counted_touches m e.pid call)) (bound m) q (sym (ap (is_in q) taken.doomed) ∙ doomed_too) in
    let told = first_told (counted_touches m e.pid call) (held_by m q) (and_parts (not (eqb q e.pid)) _ clashing).1 in
    subst (λ ts. IsTold m q ts (doomed_touch ts (held_by m q))) (sym (ap (dooming_touches m e.pid) is_op))
    (record { held = contained _ _ told.tells.held; by = told.it; among = contained _ _ told.among; clashing = told.tells.clashing })

nobody_told : (m : Moment) (e : OneEntry) → Alone e → (q : ℕ) → is_in q e.doomed ≡ true → IsTold m q (dooming_touches m e.pid e.op) (doom_cause m e.pid (dooming_touches m e.pid e.op) q).touch
nobody_told m e alone q doomed_too = absurd (false≢true (sym (ap (is_in q) alone.doomed) ∙ doomed_too))

told_by : (m : Moment) (e : OneEntry) → Kind m e → (q : ℕ) → is_in q e.doomed ≡ true → IsTold m q (dooming_touches m e.pid e.op) (doom_cause m e.pid (dooming_touches m e.pid e.op) q).touch
told_by m e (Changes call is_s is_op taken) = told_at m e call is_op taken
told_by m e (Pushes flags age calls call is_s is_op inside taken) = told_at m e call is_op taken
told_by m e (Commits flags age calls is_s is_op is_reply alone) = nobody_told m e alone
told_by m e (Begins flags is_s is_op is_reply alone) = nobody_told m e alone
told_by m e (Settles s again is_phase holds some left) = nobody_told m e left.alone
told_by m e (Rests some left) = nobody_told m e left.alone

pub doomed_are_told_theirs : DoomedAreToldTheirs
doomed_are_told_theirs root setup limit es e legal right = told_by (after root setup es) e (kind limit (after root setup es) e right)

lowest_passes : (test : ℕ → Bool) (n q : ℕ) → lowest_below test n ≡ Some q → test q ≡ true
lowest_passes test zero q h = absurd (none_some q h)
lowest_passes test (suc n) q h = by (lowest_below test n) refl (test n) refl (lowest_passes test n q) h where
  by : (o : Option ℕ) → lowest_below test n ≡ o → (b : Bool) → test n ≡ b → (lowest_below test n ≡ Some q → test q ≡ true) → or_number o b n ≡ Some q → test q ≡ true
  by (Some found) e b f below g = below (e ∙ g)
  by None e true f below g = ap test (sym (some_is n q g)) ∙ f
  by None e false f below g = absurd (none_some q g)

lost_by : (m : Moment) (pid : ℕ) (t : Touch) (q : ℕ) → loses_by m pid t q ≡ true → (ts : List Touch) → Contains ts t → IsLost m pid ts (record { touch = t; other = q })
lost_by m pid t q h ts among =
    let both : (not (eqb q pid) && loses m pid q) ≡ true = (and_parts (not (eqb q pid) && loses m pid q) _ h).0 in
    record {
      among = among;
      other = eqb-false q pid (not-true (eqb q pid) (and_parts (not (eqb q pid)) _ both).0);
      loses = (and_parts (not (eqb q pid)) _ both).1;
      clashing = (and_parts (not (eqb q pid) && loses m pid q) _ h).1;
    }

farther : (x y : Touch) (xs : List Touch) → Contains xs x → Contains (y ∷ xs) x
farther x y xs h = (suc h.0, omega (arith, h.1), h.2)

pub losers_are_told_theirs : LosersAreToldTheirs
losers_are_told_theirs m pid [] cause h = absurd (nothing h) where
  nothing : ◌≡◌ {A = Option Cause} None (Some cause) → ⊥
  nothing e = absurd cc
losers_are_told_theirs m pid (t ∷ ts) cause h = by (lowest_below (loses_by m pid t) (bound m)) refl (losers_are_told_theirs m pid ts cause) h where
  by : (o : Option ℕ) → lowest_below (loses_by m pid t) (bound m) ≡ o → (losing_cause m pid ts ≡ Some cause → IsLost m pid ts cause) → cause_or t o (losing_cause m pid ts) ≡ Some cause → IsLost m pid (t ∷ ts) cause
  by (Some q) e later g = subst (IsLost m pid (t ∷ ts)) (ap (λ o. cause_of o) g) (lost_by m pid t q (lowest_passes (loses_by m pid t) (bound m) q e) (t ∷ ts) (0, omega arith, refl)) where
    cause_of : Option Cause → Cause
    cause_of (Some c) = c
    cause_of None = cause
  by None e later g = (let rest = later g in record { among = farther cause.touch t ts rest.among; other = rest.other; loses = rest.loses; clashing = rest.clashing })
