-- The lists of live transactions over a committed state: each runs, and no two touch or number the same.
use Rattle.std.proofs.Common.{◌≡◌, ◌≢◌, ℕ, List, [], ◌∷◌, ◌++◌, refl, sym, ◌∙◌, ap, ap₂, subst, true, false, Bool, ◌⊎◌, inl, inr, eqb, append_assoc, append-nil}
use Rattle.std.specs.Prelude.{◌||◌, ◌&&◌}
use Rattle.std.proofs.lemmas.Bool.{cases_Bool, cases_eq, both_ways, false≢true, ne_eqb}
use Rattle.model.specs.State.{Kernel}
use Rattle.model.specs.Aspects.{Aspect, Entry, Names, Size, Block, Links, Ends, Offset, Front, Back, Target, Rights}
use Rattle.model.specs.Changes.{tidy}
use Rattle.model.specs.Paths.{same_name}
use Rattle.model.specs.State.{Name}
use Rattle.model.specs.Steps.{Touch, touches, reply, IsNowhere}
use Rattle.model.specs.Entries.{Executed, is_inside}
use Rattle.model.specs.Clashes.{clash, same_aspect, names_against}
use Rattle.model.specs.Moments.{after_one, numbers, is_alive, is_in}
use Rattle.call_laws.specs.CallLaws.{IsReady, CallLaws}
use Rattle.model.specs.Effects.{effects}
use Rattle.history_laws.proofs.Membership.{In, In-cases, out_left, out_right, out_both, in_either}
use Rattle.history_laws.proofs.lists.Touches.{NoClash}
use Rattle.history_laws.proofs.lists.UntidiedRuns.{loose, loose_touches, Goes, AllInside, Distinct, Fresh, goes_again, goes_tidied, goes_well, goes_nowhere, others_alive, others_own, left_alike, WritesApart}

eqb_turned : (n m : ℕ) → eqb n m ≡ eqb m n
eqb_turned n m = elim (cases_eq n m) [
  | inl e ↦ ap (λ i. eqb i m) e ∙ ap (λ i. eqb m i) (sym e)
  | inr ne ↦ ne_eqb n m ne ∙ sym (ne_eqb m n (λ e. ne (sym e)))
]

same_name_turned : (x y : Name) → same_name x y ≡ same_name y x
same_name_turned [] [] = refl
same_name_turned [] (b ∷ y) = refl
same_name_turned (a ∷ x) [] = refl
same_name_turned (a ∷ x) (b ∷ y) = ap₂ (λ (p q : Bool). p && q) (eqb_turned a b) (same_name_turned x y)

pub same_aspect_turned : (a b : Aspect) → same_aspect a b ≡ same_aspect b a
same_aspect_turned (Entry d x) (Entry e y) = ap₂ (λ (p q : Bool). p && q) (eqb_turned d e) (same_name_turned x y)
same_aspect_turned (Names d) (Names e) = eqb_turned d e
same_aspect_turned (Size d) (Size e) = eqb_turned d e
same_aspect_turned (Block d i) (Block e j) = ap₂ (λ (p q : Bool). p && q) (eqb_turned d e) (eqb_turned i j)
same_aspect_turned (Links d) (Links e) = eqb_turned d e
same_aspect_turned (Ends d) (Ends e) = eqb_turned d e
same_aspect_turned (Offset d) (Offset e) = eqb_turned d e
same_aspect_turned (Front d) (Front e) = eqb_turned d e
same_aspect_turned (Back d) (Back e) = eqb_turned d e
same_aspect_turned (Target d) (Target e) = eqb_turned d e
same_aspect_turned (Rights d) (Rights e) = eqb_turned d e
same_aspect_turned a b = refl

or_turned : (a b : Bool) → (a || b) ≡ (b || a)
or_turned true true = refl
or_turned true false = refl
or_turned false true = refl
or_turned false false = refl

pub clash_turned : (t u : Touch) → clash t u ≡ clash u t
clash_turned t u = ap₂ (λ (p q : Bool). p || q) (ap₂ (λ (p q : Bool). p && q) (same_aspect_turned t.aspect u.aspect) (or_turned t.write u.write)) (or_turned (names_against t.aspect t.write u.aspect u.write) (names_against u.aspect u.write t.aspect t.write))

pub no_clash_turned : (ts us : List Touch) → NoClash ts us → NoClash us ts
no_clash_turned ts us h u t a b = clash_turned u t ∙ h t u b a

pub record SoundOf (Well : Kernel → Type 0) (k : Kernel) (calls : ℕ → List Executed) : Type 0 where
  pub well : Well k
  pub tidied : tidy k ≡ k
  pub goes : (q : ℕ) → Goes Well k q (calls q)
  pub inside : (q : ℕ) → AllInside (calls q)
  pub fresh : (q : ℕ) → Fresh k (calls q)
  pub peace : (p q : ℕ) → p ≢ q → NoClash (loose_touches p (calls p) k) (loose_touches q (calls q) k)
  pub apart : (p q : ℕ) → p ≢ q → (n : ℕ) → is_in n (numbers (calls p)) ≡ true → is_in n (numbers (calls q)) ≡ false

-- a list that touches and does the same on the next state
abbrev pub SameList : Kernel → Kernel → ℕ → List Executed → List Executed → Type 0
SameList k k2 q es es2 = (loose_touches q es2 k2 ≡ loose_touches q es k) × (effects q es2 k2 ≡ effects q es k)

-- how a list stands on the next state
pub record Stands (Well : Kernel → Type 0) (k k2 : Kernel) (q : ℕ) (es es2 : List Executed) : Type 0 where
  pub goes : Goes Well k2 q es2
  pub inside : AllInside es2
  pub fresh : Fresh k2 es2
  pub touches : (t : Touch) → In t (loose_touches q es2 k2) → In t (loose_touches q es k)
  pub numbers_of : (n : ℕ) → is_in n (numbers es2) ≡ true → is_in n (numbers es) ≡ true
  pub same : es2 ≡ es → SameList k k2 q es es2

given_up : (Well : Kernel → Type 0) (k k2 : Kernel) (q : ℕ) (es : List Executed) → Stands Well k k2 q es []
given_up Well k k2 q es = record { goes = tt; inside = tt; fresh = record { nowhere = λ n h. absurd (false≢true h); distinct = tt }; touches = λ t i. absurd i; numbers_of = λ n h. absurd (false≢true h); same = λ e. subst (λ xs. SameList k k2 q xs []) e (refl, refl) }

unchanged : (Well : Kernel → Type 0) (k : Kernel) (calls : ℕ → List Executed) → SoundOf Well k calls → (q : ℕ) → Stands Well k k q (calls q) (calls q)
unchanged Well k calls s q = record { goes = s.goes q; inside = s.inside q; fresh = s.fresh q; touches = λ t i. i; numbers_of = λ n h. h; same = λ e. (refl, refl) }

-- so no two of them touch or number the same
all_stand : (Well : Kernel → Type 0) (k k2 : Kernel) (calls calls2 : ℕ → List Executed) → SoundOf Well k calls → Well k2 → tidy k2 ≡ k2 → ((q : ℕ) → Stands Well k k2 q (calls q) (calls2 q)) → SoundOf Well k2 calls2
all_stand Well k k2 calls calls2 s well tidied stand = record {
  well = well;
  tidied = tidied;
  goes = λ q. (stand q).goes;
  inside = λ q. (stand q).inside;
  fresh = λ q. (stand q).fresh;
  peace = λ p q ne t u i j. s.peace p q ne t u ((stand p).touches t i) ((stand q).touches u j);
  apart = λ p q ne n h. elim (cases_Bool (is_in n (numbers (calls2 q)))) [
    | inl both ↦ absurd (both_ways (is_in n (numbers (calls q))) (s.apart p q ne n ((stand p).numbers_of n h)) ((stand q).numbers_of n both))
    | inr out ↦ out
  ];
}

-- Nothing is committed: each list stays or is given up.
pub kept : (Well : Kernel → Type 0) (k : Kernel) (calls calls2 : ℕ → List Executed) → SoundOf Well k calls → ((q : ℕ) → (calls2 q ≡ []) ⊎ (calls2 q ≡ calls q)) → SoundOf Well k calls2
kept Well k calls calls2 s stays = all_stand Well k k calls calls2 s s.well s.tidied (λ q. elim (stays q) [
  | inl e ↦ subst (Stands Well k k q (calls q)) (sym e) (given_up Well k k q (calls q))
  | inr e ↦ subst (Stands Well k k q (calls q)) (sym e) (unchanged Well k calls s q)
])

-- a list that p's calls leave alone
pub record Spared (k : Kernel) (p : ℕ) (es : List Executed) (q : ℕ) (fs : List Executed) : Type 0 where
  pub other : q ≢ p
  pub apart : WritesApart (loose_touches p es k) (loose_touches q fs k)
  pub numbers_apart : (n : ℕ) → is_in n (numbers fs) ≡ true → is_in n (numbers es) ≡ false

pub tidied_alive : (k : Kernel) (q : ℕ) → is_alive k q ≡ true → is_alive (tidy k) q ≡ true
unfolding tidy
tidied_alive k q h = h

pub stands_on : (Well : Kernel → Type 0) (laws : CallLaws Well) (k : Kernel) (p : ℕ) (es : List Executed) (q : ℕ) (fs : List Executed) → Well k → Goes Well k p es
    → Goes Well k q fs → AllInside fs → Fresh k fs → Spared k p es q fs → Stands Well k (tidy (loose p es k)) q fs fs
stands_on Well laws k p es q [] well goes theirs inside fresh spared = given_up Well k (tidy (loose p es k)) q []
stands_on Well laws k p es q (f ∷ fs) well goes theirs inside fresh spared =
    let u : Kernel = loose p es k in
    let alive : is_alive k q ≡ true = theirs.0.0.alive in
    let well_u : Well u = goes_well Well laws p k es well goes in
    let alive_u : is_alive u q ≡ true = others_alive Well laws p k es q spared.other alive goes in
    let fresh_u : Fresh u (f ∷ fs) = record { nowhere = λ n h. goes_nowhere Well laws p k es n (spared.numbers_apart n h) (fresh.nowhere n h) goes; distinct = fresh.distinct } in
    let alike = left_alike Well laws k p es q (f ∷ fs) well goes theirs fresh spared.apart spared.numbers_apart in
    let on_u = goes_again Well laws q k u (f ∷ fs) well_u alive_u inside fresh_u (others_own Well laws p k es q spared.other alive goes) alike theirs in
    let fresh_t : Fresh (tidy u) (f ∷ fs) = record { nowhere = λ n h. laws.nowhere_tidy u n (fresh_u.nowhere n h); distinct = fresh.distinct } in
    let on_t = goes_tidied Well laws q u (tidy u) (f ∷ fs) (laws.well_tidy u well_u) (tidied_alive u q alive_u) inside fresh_t (laws.tidy_twice u well_u) on_u.0 in
    record { goes = on_t.0; inside = inside; fresh = fresh_t; touches = λ t i. subst (In t) (on_t.1 ∙ on_u.1) i; numbers_of = λ n h. h; same = λ e. (on_t.1 ∙ on_u.1, on_t.2 ∙ on_u.2) }

-- Calls of p are run on the committed state, one plain call or a whole list: each list is given up, or was left alone by them.
pub committed : (Well : Kernel → Type 0) (laws : CallLaws Well) (k : Kernel) (p : ℕ) (es : List Executed) (calls calls2 : ℕ → List Executed) → SoundOf Well k calls → Goes Well k p es
    → ((q : ℕ) → (calls2 q ≡ []) ⊎ ((calls2 q ≡ calls q) × Spared k p es q (calls q))) → SoundOf Well (tidy (loose p es k)) calls2
committed Well laws k p es calls calls2 s goes stays =
    let well_u = goes_well Well laws p k es s.well goes in
    all_stand Well k (tidy (loose p es k)) calls calls2 s (laws.well_tidy _ well_u) (laws.tidy_twice _ well_u) (λ q. elim (stays q) [
      | inl e ↦ subst (Stands Well k (tidy (loose p es k)) q (calls q)) (sym e) (given_up Well k (tidy (loose p es k)) q (calls q))
      | inr h ↦ subst (Stands Well k (tidy (loose p es k)) q (calls q)) (sym h.0) (stands_on Well laws k p es q (calls q) s.well goes (s.goes q) (s.inside q) (s.fresh q) h.1)
    ])

-- one call more of a list
pub goes_more : (Well : Kernel → Type 0) (k : Kernel) (p : ℕ) (es : List Executed) (d : Executed) → Goes Well k p es → IsReady Well (loose p es k) p d.call d.chosen → d.answer ≡ reply (loose p es k) p d.call → Goes Well k p (es ++ d ∷ [])
goes_more Well k p [] d goes ready answer = ((ready, answer), tt)
goes_more Well k p (e ∷ es) d goes ready answer = (goes.0, goes_more Well (after_one p e k) p es d goes.1 ready answer)

pub touches_more : (k : Kernel) (p : ℕ) (es : List Executed) (d : Executed) → loose_touches p (es ++ d ∷ []) k ≡ loose_touches p es k ++ touches (loose p es k) p d.call
touches_more k p [] d = append-nil (touches k p d.call)
touches_more k p (e ∷ es) d = ap (λ ts. touches k p e.call ++ ts) (touches_more (after_one p e k) p es d) ∙ sym (append_assoc (touches k p e.call) (loose_touches p es (after_one p e k)) _)

numbers_more : (es : List Executed) (d : Executed) → numbers (es ++ d ∷ []) ≡ numbers es ++ d.chosen
numbers_more [] d = append-nil d.chosen
numbers_more (e ∷ es) d = ap (λ ns. e.chosen ++ ns) (numbers_more es d) ∙ sym (append_assoc e.chosen (numbers es) d.chosen)

inside_more : (es : List Executed) (d : Executed) → AllInside es → is_inside d.call ≡ true → AllInside (es ++ d ∷ [])
inside_more [] d all is = (is, tt)
inside_more (e ∷ es) d all is = (all.0, inside_more es d all.1 is)

distinct_more : (es : List Executed) (d : Executed) → Distinct es → ((n : ℕ) → is_in n d.chosen ≡ true → is_in n (numbers es) ≡ false) → Distinct (es ++ d ∷ [])
distinct_more [] d all new = (λ n h. refl, tt)
distinct_more (e ∷ es) d all new = (here, distinct_more es d all.1 (λ n h. out_right n e.chosen (numbers es) (new n h))) where
  here : (n : ℕ) → is_in n e.chosen ≡ true → is_in n (numbers (es ++ d ∷ [])) ≡ false
  here n h = ap (is_in n) (numbers_more es d) ∙ out_both n (numbers es) d.chosen (all.0 n h) (elim (cases_Bool (is_in n d.chosen)) [
    | inl i ↦ absurd (both_ways (is_in n e.chosen) (out_left n e.chosen (numbers es) (new n i)) h)
    | inr o ↦ o
  ])

-- A call more of p's list, which clashes with none of the others and has new numbers.
pub record Pushes (Well : Kernel → Type 0) (k : Kernel) (calls : ℕ → List Executed) (p : ℕ) (d : Executed) : Type 0 where
  pub ready : IsReady Well (loose p (calls p) k) p d.call d.chosen
  pub answer : d.answer ≡ reply (loose p (calls p) k) p d.call
  pub inside : is_inside d.call ≡ true
  pub nowhere : (n : ℕ) → is_in n d.chosen ≡ true → IsNowhere k n
  pub apart : (q n : ℕ) → is_in n d.chosen ≡ true → is_in n (numbers (calls q)) ≡ false
  pub clear : (q : ℕ) → q ≢ p → NoClash (touches (loose p (calls p) k) p d.call) (loose_touches q (calls q) k)

pub pushed : (Well : Kernel → Type 0) (k : Kernel) (calls calls2 : ℕ → List Executed) (p : ℕ) (d : Executed) → SoundOf Well k calls → Pushes Well k calls p d
    → calls2 p ≡ calls p ++ d ∷ [] → ((q : ℕ) → q ≢ p → calls2 q ≡ calls q) → SoundOf Well k calls2
pushed Well k calls calls2 p d s new here others = record { well = s.well; tidied = s.tidied; goes = goes2; inside = inside2; fresh = fresh2; peace = peace2; apart = apart2 } where
  for_each : (P : ℕ → List Executed → Type 0) → P p (calls p ++ d ∷ []) → ((q : ℕ) → q ≢ p → P q (calls q)) → (q : ℕ) → P q (calls2 q)
  for_each P own rest q = elim (cases_eq q p) [
    | inl e ↦ subst (λ x. P x (calls2 x)) (sym e) (subst (P p) (sym here) own)
    | inr ne ↦ subst (P q) (sym (others q ne)) (rest q ne)
  ]

  goes2 : (q : ℕ) → Goes Well k q (calls2 q)
  goes2 = for_each (λ q es. Goes Well k q es) (goes_more Well k p (calls p) d (s.goes p) new.ready new.answer) (λ q ne. s.goes q)

  inside2 : (q : ℕ) → AllInside (calls2 q)
  inside2 = for_each (λ q es. AllInside es) (inside_more (calls p) d (s.inside p) new.inside) (λ q ne. s.inside q)

  nowhere2 : (n : ℕ) → is_in n (numbers (calls p ++ d ∷ [])) ≡ true → IsNowhere k n
  nowhere2 n h = elim (in_either n (numbers (calls p)) d.chosen (sym (ap (is_in n) (numbers_more (calls p) d)) ∙ h)) [
    | inl old ↦ (s.fresh p).nowhere n old
    | inr more ↦ new.nowhere n more
  ]

  fresh2 : (q : ℕ) → Fresh k (calls2 q)
  fresh2 = for_each (λ q es. Fresh k es) (record { nowhere = nowhere2; distinct = distinct_more (calls p) d (s.fresh p).distinct (new.apart p) }) (λ q ne. s.fresh q)

  mine : (t : Touch) → In t (loose_touches p (calls p ++ d ∷ []) k) → In t (loose_touches p (calls p) k) ⊎ In t (touches (loose p (calls p) k) p d.call)
  mine t i = In-cases t (loose_touches p (calls p) k) _ (subst (In t) (touches_more k p (calls p) d) i)

  from_p : (q : ℕ) → q ≢ p → NoClash (loose_touches p (calls p ++ d ∷ []) k) (loose_touches q (calls q) k)
  from_p q ne t u i j = elim (mine t i) [
    | inl old ↦ s.peace p q (λ e. ne (sym e)) t u old j
    | inr more ↦ new.clear q ne t u more j
  ]

  peace2 : (a b : ℕ) → a ≢ b → NoClash (loose_touches a (calls2 a) k) (loose_touches b (calls2 b) k)
  peace2 a b = for_each (λ a es. a ≢ b → NoClash (loose_touches a es k) (loose_touches b (calls2 b) k))
      (λ differ. for_each (λ b fs. p ≢ b → NoClash (loose_touches p (calls p ++ d ∷ []) k) (loose_touches b fs k)) (λ same. absurd (same refl)) (λ b ne same. from_p b ne) b differ)
      (λ a ne. for_each (λ b fs. a ≢ b → NoClash (loose_touches a (calls a) k) (loose_touches b fs k)) (λ differ. no_clash_turned _ _ (from_p a ne)) (λ b ne2 differ. s.peace a b differ) b)
      a

  apart_p : (q : ℕ) → q ≢ p → (n : ℕ) → is_in n (numbers (calls p ++ d ∷ [])) ≡ true → is_in n (numbers (calls q)) ≡ false
  apart_p q ne n h = elim (in_either n (numbers (calls p)) d.chosen (sym (ap (is_in n) (numbers_more (calls p) d)) ∙ h)) [
    | inl old ↦ s.apart p q (λ e. ne (sym e)) n old
    | inr more ↦ new.apart q n more
  ]

  turned : (xs ys : List ℕ) → ((n : ℕ) → is_in n xs ≡ true → is_in n ys ≡ false) → (n : ℕ) → is_in n ys ≡ true → is_in n xs ≡ false
  turned xs ys h n i = elim (cases_Bool (is_in n xs)) [ inl both ↦ absurd (both_ways (is_in n ys) (h n both) i) | inr out ↦ out ]

  apart2 : (a b : ℕ) → a ≢ b → (n : ℕ) → is_in n (numbers (calls2 a)) ≡ true → is_in n (numbers (calls2 b)) ≡ false
  apart2 a b = for_each (λ a es. a ≢ b → (n : ℕ) → is_in n (numbers es) ≡ true → is_in n (numbers (calls2 b)) ≡ false)
      (λ differ. for_each (λ b fs. p ≢ b → (n : ℕ) → is_in n (numbers (calls p ++ d ∷ [])) ≡ true → is_in n (numbers fs) ≡ false) (λ same. absurd (same refl)) (λ b ne same. apart_p b ne) b differ)
      (λ a ne. for_each (λ b fs. a ≢ b → (n : ℕ) → is_in n (numbers (calls a)) ≡ true → is_in n (numbers fs) ≡ false) (λ differ. turned (numbers (calls p ++ d ∷ [])) (numbers (calls a)) (apart_p a ne)) (λ b ne2 differ. s.apart a b differ) b)
      a
