-- The first clash with a process has the touch that the process is told.
use Rattle.std.proofs.Common.{◌≡◌, ◌∙◌, sym, refl, ap, subst, ℕ, ◌≤◌, Bool, true, false, not, ◌&&◌, ◌||◌, ◌==◌, nat_lt, List, [], ◌∷◌, ◌++◌, map, zero, suc, Option, Some, None, is_some, if◌then◌else◌, ◌⊎◌, inl, inr, arith}
use Rattle.std.specs.List.{AllByRecursion}
use Rattle.std.specs.Option.{option_or}
use Rattle.std.proofs.lemmas.Bool.{false≢true, eqb-true, eq-eqb, and_parts, and_from, cases_Bool, or_cases, or_left, or_right, both_ways, ltb-true}
use Rattle.std.proofs.lemmas.List.Folds.{list_any-append}
use Rattle.model.specs.State.{Name}
use Rattle.model.specs.Aspects.{Aspect, Entry, Names}
use Rattle.model.specs.Steps.{Touch}
use Rattle.model.specs.Clashes.{same_aspect, names_against, clash, clashes, any_clash, has_touch, name_lt, least_written, entry_or, by_names, clashing_touch, doomed_touch}
use Rattle.records.specs.Touches.{touched_by}
use Rattle.conflict.specs.declared.found.Clash.{Clash}
use Rattle.conflict.specs.Clashing.{rank_of, name_of, is_before, AreInOrder, is_found, AreClashesOf, AreClashes}
use Rattle.ids.specs.declared.entry.Rank.{Rank}
use Rattle.model.specs.Moments.{all_below}
use Rattle.contention.specs.Losses.{is_with, first_touch, touch_or_none, cause_of_loss, told, told_below}
use Rattle.contention.proofs.Alike.{touch_on, alike, alike_itself, alike_is, aspect_itself, aspect_is, has_passes, or_none, iff, witness}
use Rattle.contention.proofs.Firsts.{first_touch-append, some_first}
use Rattle.contention.proofs.Least.{lt_itself, lt_turned, least_is, least_one, IsLeast}

-- a process is found exactly where it is another one of whose touches one clashes
pub pids_found : (all : List (List Touch)) (pid : ℕ) (t : Touch) (found : List Clash) → AreClashesOf all pid t found → (q : ℕ) → is_with q found ≡ (not (q == pid) && clashes t (touched_by all q))
pids_found all pid t found are q = iff (is_with q found) (not (q == pid) && clashes t (touched_by all q))
    (λ h.
    let w = witness (λ (c : Clash). c.other == q) found h in
    let u : Touch = w.it.theirs in
    let there : is_found q u found ≡ true = w.among (λ (c : Clash). (c.other == q) && has_touch u.aspect u.write (c.theirs ∷ [])) (and_from (w.it.other == q) (has_touch u.aspect u.write (u ∷ [])) w.passes (or_left (alike u.aspect u.write u) false (alike_itself u))) in
    let a = and_parts (not (q == pid)) (clash t u && has_touch u.aspect u.write (touched_by all q)) (sym (are.exact q u) ∙ there) in
    let b = and_parts (clash t u) (has_touch u.aspect u.write (touched_by all q)) a.1 in
    and_from (not (q == pid)) (clashes t (touched_by all q)) a.0 (has_passes (clash t) u (touched_by all q) b.1 b.0))
    (λ h.
    let a = and_parts (not (q == pid)) (clashes t (touched_by all q)) h in
    let v = witness (clash t) (touched_by all q) a.1 in
    let u : Touch = v.it in
    let there : has_touch u.aspect u.write (touched_by all q) ≡ true = v.among (alike u.aspect u.write) (alike_itself u) in
    let f : is_found q u found ≡ true = are.exact q u ∙ and_from (not (q == pid)) (clash t u && has_touch u.aspect u.write (touched_by all q)) a.0 (and_from (clash t u) (has_touch u.aspect u.write (touched_by all q)) v.passes there) in
    let w = witness (λ (c : Clash). (c.other == q) && has_touch u.aspect u.write (c.theirs ∷ [])) found f in
    w.among (λ (c : Clash). c.other == q) (and_parts (w.it.other == q) (has_touch u.aspect u.write (w.it.theirs ∷ [])) w.passes).0)

-- whether one of two touches of a process comes first
abbrev pub comes : Touch → Touch → Touch → Bool
comes t u v =
    nat_lt (rank_of t u) (rank_of t v)
    || ((rank_of t u == rank_of t v) && name_lt (name_of u.aspect) (name_of v.aspect))

comes_from : (t : Touch) (a b : Clash) (q : ℕ) → (a.other == q) ≡ true → (b.other == q) ≡ true → is_before t a b ≡ true → comes t a.theirs b.theirs ≡ true
comes_from t a b q e f h =
    let same : a.other ≡ b.other = eqb-true a.other q e ∙ sym (eqb-true b.other q f) in
    elim (or_cases (nat_lt a.other b.other) ((a.other == b.other) && comes t a.theirs b.theirs) h) [
      | inl below ↦ absurd (let l = ltb-true a.other b.other below in omega arith)
      | inr rest ↦ (and_parts (a.other == b.other) (comes t a.theirs b.theirs) rest).1
    ]

-- a touch that is found is that of a clash
only_it : (u v : Touch) → has_touch v.aspect v.write (u ∷ []) ≡ true → u ≡ v
only_it u v h = alike_is v.aspect v.write u (sym (or_none (alike v.aspect v.write u)) ∙ h)

comes_all : (t : Touch) (c : Clash) (q : ℕ) (v : Touch) (cs : List Clash) → (c.other == q) ≡ true → AllByRecursion (λ d. is_before t c d ≡ true) cs → is_found q v cs ≡ true → comes t c.theirs v ≡ true
comes_all t c q v [] e all h = absurd (false≢true h)
comes_all t c q v (d ∷ ds) e all h = elim (or_cases ((d.other == q) && has_touch v.aspect v.write (d.theirs ∷ [])) (is_found q v ds) h) [
  | inl here ↦
      let p = and_parts (d.other == q) (has_touch v.aspect v.write (d.theirs ∷ [])) here in
      ap (comes t c.theirs) (sym (only_it d.theirs v p.1)) ∙ comes_from t c d q e p.0 all.0
  | inr there ↦ comes_all t c q v ds e all.1 there
]

-- the first clash with q has a touch that comes before the others
pub record ComesFirst (t : Touch) (q : ℕ) (found : List Clash) (u : Touch) : Type 0 where
  pub there : is_found q u found ≡ true
  pub first : (v : Touch) → is_found q v found ≡ true → (u ≡ v) ⊎ (comes t u v ≡ true)

first_comes : (t : Touch) (q : ℕ) (found : List Clash) → AreInOrder t found → is_with q found ≡ true → ComesFirst t q found (touch_or_none (first_touch q found))
first_comes t q [] order h = absurd (false≢true h)
first_comes t q (c ∷ cs) order h = elim (cases_Bool (c.other == q)) [
  | inl e ↦ subst (ComesFirst t q (c ∷ cs)) (sym (ap (λ b. touch_or_none (if b then Some c.theirs else first_touch q cs)) e)) (record {
    there = or_left ((c.other == q) && has_touch c.theirs.aspect c.theirs.write (c.theirs ∷ [])) (is_found q c.theirs cs) (and_from (c.other == q) (has_touch c.theirs.aspect c.theirs.write (c.theirs ∷ [])) e (or_left (alike c.theirs.aspect c.theirs.write c.theirs) false (alike_itself c.theirs)));
    first = λ v f. elim (or_cases ((c.other == q) && has_touch v.aspect v.write (c.theirs ∷ [])) (is_found q v cs) f) [
      | inl here ↦ inl (only_it c.theirs v (and_parts (c.other == q) (has_touch v.aspect v.write (c.theirs ∷ [])) here).1)
      | inr there ↦ inr (comes_all t c q v cs e order.0 there)
    ];
  })
  | inr e ↦
      let h' : is_with q cs ≡ true = ap (λ b. b || is_with q cs) (sym e) ∙ h in
      let rest = first_comes t q cs order.1 h' in
      subst (ComesFirst t q (c ∷ cs)) (sym (ap (λ b. touch_or_none (if b then Some c.theirs else first_touch q cs)) e)) (record {
        there = or_right ((c.other == q) && has_touch (touch_or_none (first_touch q cs)).aspect (touch_or_none (first_touch q cs)).write (c.theirs ∷ [])) (is_found q (touch_or_none (first_touch q cs)) cs) rest.there;
        first = λ v f. rest.first v (ap (λ b. (b && has_touch v.aspect v.write (c.theirs ∷ [])) || is_found q v cs) (sym e) ∙ f);
      })
]

-- of the touches that clash with t, u comes first
pub record IsFirst (t : Touch) (us : List Touch) (u : Touch) : Type 0 where
  pub clashes : clash t u ≡ true
  pub there : has_touch u.aspect u.write us ≡ true
  pub first : (v : Touch) → clash t v ≡ true → has_touch v.aspect v.write us ≡ true → (u ≡ v) ⊎ (comes t u v ≡ true)

is_first : (all : List (List Touch)) (pid : ℕ) (t : Touch) (found : List Clash) (q : ℕ) (u : Touch) → not (q == pid) ≡ true → AreClashesOf all pid t found → ComesFirst t q found u → IsFirst t (touched_by all q) u
is_first all pid t found q u apart are comes_first =
    let a = and_parts (not (q == pid)) (clash t u && has_touch u.aspect u.write (touched_by all q)) (sym (are.exact q u) ∙ comes_first.there) in
    let b = and_parts (clash t u) (has_touch u.aspect u.write (touched_by all q)) a.1 in
    record {
      clashes = b.0;
      there = b.1;
      first = λ v h k. comes_first.first v (are.exact q v ∙ and_from (not (q == pid)) (clash t v && has_touch v.aspect v.write (touched_by all q)) apart (and_from (clash t v) (has_touch v.aspect v.write (touched_by all q)) h k));
    }

-- the ranks of a touch
lower_rank : (t u v : Touch) → comes t u v ≡ true → rank_of t u ≤ rank_of t v
lower_rank t u v h = elim (or_cases (nat_lt (rank_of t u) (rank_of t v)) ((rank_of t u == rank_of t v) && name_lt (name_of u.aspect) (name_of v.aspect)) h) [
  | inl below ↦ let l = ltb-true (rank_of t u) (rank_of t v) below in omega arith
  | inr same ↦ let e = eqb-true (rank_of t u) (rank_of t v) (and_parts (rank_of t u == rank_of t v) (name_lt (name_of u.aspect) (name_of v.aspect)) same).0 in omega arith
]

rank_on : (t : Touch) (w : Bool) → rank_of t (touch_on t.aspect w) ≡ (if w then 0 else 1)
rank_on t w = ap (λ b. if b then (if w then 0 else 1) else 2) (aspect_itself t.aspect)

apart_rank : (t u : Touch) → same_aspect t.aspect u.aspect ≡ false → rank_of t u ≡ 2
apart_rank t u e = ap (λ b. if b then (if u.write then 0 else 1) else 2) e

clash_on : (t : Touch) (w : Bool) → (t.write || w) ≡ true → clash t (touch_on t.aspect w) ≡ true
clash_on t w h = or_left (same_aspect t.aspect t.aspect && (t.write || w)) (names_against t.aspect t.write t.aspect w || names_against t.aspect w t.aspect t.write) (and_from (same_aspect t.aspect t.aspect) (t.write || w) (aspect_itself t.aspect) h)

-- a touch on the same aspect
on_same : (t u : Touch) → same_aspect t.aspect u.aspect ≡ true → u ≡ touch_on t.aspect u.write
on_same t u e = ap (λ a. touch_on a u.write) (sym (aspect_is t.aspect u.aspect e))

has_on : (u : Touch) (a : Aspect) (w : Bool) (us : List Touch) → u ≡ touch_on a w → has_touch u.aspect u.write us ≡ true → has_touch a w us ≡ true
has_on u a w us e h = ap (λ (v : Touch). has_touch v.aspect v.write us) (sym e) ∙ h

rank_same : (t u : Touch) → same_aspect t.aspect u.aspect ≡ true → rank_of t u ≡ (if u.write then 0 else 1)
rank_same t u e = ap (λ b. if b then (if u.write then 0 else 1) else 2) e

by_write : (t u : Touch) (w : Bool) → u ≡ touch_on t.aspect u.write → u.write ≡ w → u ≡ touch_on t.aspect w
by_write t u w e f = e ∙ ap (touch_on t.aspect) f

mid_rank : (t u : Touch) → rank_of t u ≤ 1 → (u ≡ touch_on t.aspect true) ⊎ (u ≡ touch_on t.aspect false)
mid_rank t u l = elim (cases_Bool (same_aspect t.aspect u.aspect)) [
  | inl e ↦ elim (cases_Bool u.write) [
    | inl w ↦ inl (by_write t u true (on_same t u e) w)
    | inr w ↦ inr (by_write t u false (on_same t u e) w)
  ]
  | inr e ↦ absurd (let r = apart_rank t u e in omega arith)
]

low_rank : (t u : Touch) → rank_of t u ≤ 0 → u ≡ touch_on t.aspect true
low_rank t u l = elim (cases_Bool (same_aspect t.aspect u.aspect)) [
  | inl e ↦ elim (cases_Bool u.write) [
    | inl w ↦ by_write t u true (on_same t u e) w
    | inr w ↦ absurd (let r : rank_of t u ≡ 1 = rank_same t u e ∙ ap (λ b. if b then 0 else 1) w in omega arith)
  ]
  | inr e ↦ absurd (let r = apart_rank t u e in omega arith)
]

-- its write comes first
as_written : (t u : Touch) (us : List Touch) → IsFirst t us u → has_touch t.aspect true us ≡ true → u ≡ touch_on t.aspect true
as_written t u us first has = elim (first.first (touch_on t.aspect true) (clash_on t true (or_right t.write true refl)) has) [
  | inl e ↦ e
  | inr c ↦ low_rank t u (let l = lower_rank t u (touch_on t.aspect true) c in let r = rank_on t true in omega arith)
]

-- and then its read
as_read : (t u : Touch) (us : List Touch) → IsFirst t us u → has_touch t.aspect true us ≡ false → t.write ≡ true → has_touch t.aspect false us ≡ true → u ≡ touch_on t.aspect false
as_read t u us first none write has = elim (first.first (touch_on t.aspect false) (clash_on t false (or_left t.write false write)) has) [
  | inl e ↦ e
  | inr c ↦ elim (mid_rank t u (let l = lower_rank t u (touch_on t.aspect false) c in let r = rank_on t false in omega arith)) [
    | inl e ↦ absurd (both_ways _ none (has_on u t.aspect true us e first.there))
    | inr e ↦ e
  ]
]

-- a touch by names is on another aspect
not_against : (a : Aspect) (w v : Bool) → names_against a w a v ≡ false
not_against (Names d) true v = refl
not_against (Names d) false v = refl
not_against a w v = refl

clash_read : (t : Touch) → clash t (touch_on t.aspect false) ≡ true → t.write ≡ true
clash_read t h = elim (or_cases (same_aspect t.aspect t.aspect && (t.write || false)) (names_against t.aspect t.write t.aspect false || names_against t.aspect false t.aspect t.write) h) [
  | inl same ↦ sym (or_none t.write) ∙ (and_parts (same_aspect t.aspect t.aspect) (t.write || false) same).1
  | inr names ↦ elim (or_cases (names_against t.aspect t.write t.aspect false) (names_against t.aspect false t.aspect t.write) names) [
    | inl n ↦ absurd (both_ways _ (not_against t.aspect t.write false) n)
    | inr n ↦ absurd (both_ways _ (not_against t.aspect false t.write) n)
  ]
]

is_apart : (t u : Touch) (us : List Touch) → IsFirst t us u → has_touch t.aspect true us ≡ false → (t.write && has_touch t.aspect false us) ≡ false → same_aspect t.aspect u.aspect ≡ true → ⊥
is_apart t u us first none neither e = elim (cases_Bool u.write) [
  | inl w ↦ both_ways _ none (has_on u t.aspect true us (by_write t u true (on_same t u e) w) first.there)
  | inr w ↦
      let is : u ≡ touch_on t.aspect false = by_write t u false (on_same t u e) w in
      both_ways _ neither (and_from t.write (has_touch t.aspect false us) (clash_read t (ap (clash t) (sym is) ∙ first.clashes)) (has_on u t.aspect false us is first.there))
]

-- the least of the entries
least_named : (d : ℕ) (x : Name) (us : List Touch) → IsFirst (touch_on (Names d) false) us (touch_on (Entry d x) true) → touch_on (Entry d x) true ≡ entry_or d (least_written d us)
least_named d x us first =
    let least : IsLeast d us (Some x) = (
      first.there,
      λ y h. elim (first.first (touch_on (Entry d y) true) (or_left (d == d) false (eq-eqb d d refl)) h) [
        | inl e ↦ ap (λ (u : Touch). name_lt y (name_of u.aspect)) e ∙ lt_itself y
        | inr c ↦ lt_turned x y c
      ],
    ) in
    ap (entry_or d) (least_one d us (Some x) (least_written d us) least (least_is d us))

named : (a : Aspect) (w : Bool) (b : Aspect) (v : Bool) (us : List Touch) → IsFirst (touch_on a w) us (touch_on b v) → names_against a w b v ≡ true → touch_on b v ≡ by_names a us
named (Names d) false (Entry e x) true us first h = subst (λ n. IsFirst (touch_on (Names d) false) us (touch_on (Entry n x) true) → touch_on (Entry n x) true ≡ entry_or d (least_written d us)) (eqb-true d e h) (least_named d x us) first
named a w b v us first h = absurd (false≢true h)

-- the names
named_back : (b : Aspect) (v : Bool) (a : Aspect) (w : Bool) (us : List Touch) → names_against b v a w ≡ true → touch_on b v ≡ by_names a us
named_back (Names d) false (Entry e x) true us h = ap (λ n. touch_on (Names n) false) (eqb-true d e h)
named_back b v a w us h = absurd (false≢true h)

as_named : (t u : Touch) (us : List Touch) → IsFirst t us u → has_touch t.aspect true us ≡ false → (t.write && has_touch t.aspect false us) ≡ false → u ≡ by_names t.aspect us
as_named t u us first none neither = elim (or_cases (same_aspect t.aspect u.aspect && (t.write || u.write)) (names_against t.aspect t.write u.aspect u.write || names_against u.aspect u.write t.aspect t.write) first.clashes) [
  | inl same ↦ absurd (is_apart t u us first none neither (and_parts (same_aspect t.aspect u.aspect) (t.write || u.write) same).0)
  | inr names ↦ elim (or_cases (names_against t.aspect t.write u.aspect u.write) (names_against u.aspect u.write t.aspect t.write) names) [
    | inl n ↦ named t.aspect t.write u.aspect u.write us first n
    | inr n ↦ named_back u.aspect u.write t.aspect t.write us n
  ]
]

first_is : (t u : Touch) (us : List Touch) → IsFirst t us u → u ≡ clashing_touch t us
first_is t u us first = elim (cases_Bool (has_touch t.aspect true us)) [
  | inl has ↦ as_written t u us first has ∙ sym (ap (λ b. if b then touch_on t.aspect true else if t.write && has_touch t.aspect false us then touch_on t.aspect false else by_names t.aspect us) has)
  | inr none ↦ elim (cases_Bool (t.write && has_touch t.aspect false us)) [
    | inl both ↦
        let p = and_parts t.write (has_touch t.aspect false us) both in
        as_read t u us first none p.0 p.1
        ∙ sym (ap (λ b. if b then touch_on t.aspect true else if t.write && has_touch t.aspect false us then touch_on t.aspect false else by_names t.aspect us) none ∙ ap (λ b. if b then touch_on t.aspect false else by_names t.aspect us) both)
    | inr neither ↦
        as_named t u us first none neither
        ∙ sym (ap (λ b. if b then touch_on t.aspect true else if t.write && has_touch t.aspect false us then touch_on t.aspect false else by_names t.aspect us) none ∙ ap (λ b. if b then touch_on t.aspect false else by_names t.aspect us) neither)
  ]
]

-- so of one touch's clashes
told_one : (all : List (List Touch)) (pid : ℕ) (t : Touch) (own : List Clash) (q : ℕ) → AreClashesOf all pid t own → not (q == pid) ≡ true → is_with q own ≡ true → touch_or_none (first_touch q own) ≡ clashing_touch t (touched_by all q)
told_one all pid t own q are apart h =
    first_is t (touch_or_none (first_touch q own)) (touched_by all q) (is_first all pid t own q (touch_or_none (first_touch q own)) apart are (first_comes t q own are.order h))

first_of_two : (o p : Option Touch) (b : Bool) → is_some o ≡ b → touch_or_none (option_or o p) ≡ (if b then touch_or_none o else touch_or_none p)
first_of_two None p b e = ap (λ b. if b then touch_or_none None else touch_or_none p) e
first_of_two (Some u) p b e = ap (λ b. if b then u else touch_or_none p) e

by_cases : (b : Bool) (u v w x : Touch) → (b ≡ true → u ≡ v) → w ≡ x → (if b then u else w) ≡ (if b then v else x)
by_cases true u v w x f e = f refl
by_cases false u v w x f e = e

-- the first clash with another process has the touch that the definitions tell
pub told_is : (all : List (List Touch)) (pid : ℕ) (ts : List Touch) (found : List Clash) (q : ℕ) → AreClashes all pid ts found → not (q == pid) ≡ true → touch_or_none (first_touch q found) ≡ doomed_touch ts (touched_by all q)
told_is all pid [] found q are apart = ap (λ cs. touch_or_none (first_touch q cs)) are
told_is all pid (t ∷ ts) found q are apart =
    let own : List Clash = are.0 in
    let rest : List Clash = are.1 in
    let same : is_with q own ≡ clashes t (touched_by all q) = pids_found all pid t own are.3 q ∙ ap (λ b. b && clashes t (touched_by all q)) apart in
    ap (λ cs. touch_or_none (first_touch q cs)) are.2
    ∙ ap touch_or_none (first_touch-append q own rest)
    ∙ first_of_two (first_touch q own) (first_touch q rest) (clashes t (touched_by all q)) (some_first q own ∙ same)
    ∙ by_cases (clashes t (touched_by all q)) (touch_or_none (first_touch q own)) (clashing_touch t (touched_by all q)) (touch_or_none (first_touch q rest)) (doomed_touch ts (touched_by all q)) (λ e. told_one all pid t own q are.3 apart (same ∙ e)) (told_is all pid ts rest q are.4 apart)

-- the processes clashed with are those of which a touch clashes with one of these
or_split : (a b c : Bool) → ((a && b) || (a && c)) ≡ (a && (b || c))
or_split true b c = refl
or_split false b c = refl

none_and : (a : Bool) → false ≡ (a && false)
none_and true = refl
none_and false = refl

pub all_found : (all : List (List Touch)) (pid : ℕ) (ts : List Touch) (found : List Clash) (q : ℕ) → AreClashes all pid ts found → is_with q found ≡ (not (q == pid) && any_clash ts (touched_by all q))
all_found all pid [] found q are = ap (is_with q) are ∙ none_and (not (q == pid))
all_found all pid (t ∷ ts) found q are =
    ap (is_with q) are.2
    ∙ list_any-append (λ (c : Clash). c.other == q) are.0 are.1
    ∙ ap (λ b. b || is_with q are.1) (pids_found all pid t are.0 are.3 q)
    ∙ ap (λ b. (not (q == pid) && clashes t (touched_by all q)) || b) (all_found all pid ts are.1 q are.4)
    ∙ or_split (not (q == pid)) (clashes t (touched_by all q)) (any_clash ts (touched_by all q))

-- without clashes nobody is told

nobody_below : (test : ℕ → Bool) (n : ℕ) → ((q : ℕ) → test q ≡ false) → all_below test n ≡ []
nobody_below test zero none = refl
nobody_below test (suc n) none = ap (λ b. if b then all_below test n ++ n ∷ [] else all_below test n) (none n) ∙ nobody_below test n none

pub nobody_told : (caller n : ℕ) (cs : List Clash) → cs ≡ [] → [] ≡ told_below caller cs n
nobody_told caller n cs none = sym (ap (λ cs. told_below caller cs n) none ∙ ap (map (told caller [])) (nobody_below (λ q. is_with q []) n (λ q. refl)))

pub loses_to_nobody : (own : Rank) (ranks : List Rank) (cs : List Clash) → cs ≡ [] → cause_of_loss own ranks cs ≡ None
loses_to_nobody own ranks cs none = ap (cause_of_loss own ranks) none
