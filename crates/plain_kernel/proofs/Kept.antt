-- A key in its place: what is found there, what an addition or a change makes, and what a removal leaves.
use Rattle.std.proofs.Common.{◌≡◌, ℕ, zero, suc, ◌+◌, ◌≤◌, Bool, true, false, cond, not, ◌&&◌, List, [], ◌∷◌, length, get_or, set, map, Option, Some, None, Result, Ok, Err, IsTrue, refl, sym, ap, subst, ◌∙◌, arith}
use Rattle.std.proofs.Math.Dec.{T}
use Rattle.std.specs.Option.{is_some}
use Rattle.std.specs.Result.{IsErr, MatchResult}
use Rattle.std.specs.List.{insert, remove, filter}
use Rattle.std.specs.Ordering.{match_ordering, is_eq, eq_by_cmp}
use Rattle.std.specs.declared.cmp.Ordering.{Ordering}
use Rattle.std.specs.declared.cmp.Ordering.TheVariants.{Less, Equal, Greater}
use Rattle.std.specs.Cmp.{IsTotalOrder}
use Rattle.model.specs.FiniteMap as finite
use Rattle.std.specs.FinMap.Entries.{by_order, find, put, where_key, is_sorted, below_all, is_sorted-put, is_sorted-where_key, length-put, length_without}
use Rattle.plain_kernel.specs.Indices.{rank, holds, IsIndexOf, IsIndexFor}

pub length-insert_at : {A : Type 0} (xs : List A) (n : ℕ) (x : A) → length (insert xs n x) ≡ suc (length xs)
length-insert_at [] zero x = refl
length-insert_at [] (suc n) x = refl
length-insert_at (y ∷ ys) zero x = refl
length-insert_at (y ∷ ys) (suc n) x = ap suc (length-insert_at ys n x)

not_some : (b : Bool) (n : ℕ) → suc n ≡ cond b n (n + 1) → b ≡ false
not_some true n h = absurd (omega arith)
not_some false n h = refl

none_of : {X : Type 0} (o : Option X) → is_some o ≡ false → o ≡ None
none_of None h = refl
none_of (Some x) h = absurd cc

pub as_test : (b : Bool) → IsTrue b → T b
as_test true h = tt
as_test false h = absurd cc

as_true : (b : Bool) → T b → IsTrue b
as_true true h = refl
as_true false h = absurd h

filter-short : {A : Type 0} (p : A → Bool) (xs : List A) → length (filter p xs) ≤ length xs
filter-short p [] = omega arith
filter-short p (x ∷ xs) = elim (p x) as (λ b. length (cond b (x ∷ filter p xs) (filter p xs)) ≤ suc (length xs)) [ true ↦ omega (arith, filter-short p xs) | false ↦ omega (arith, filter-short p xs) ]

filter-whole : {A : Type 0} (p : A → Bool) (xs : List A) → length (filter p xs) ≡ length xs → filter p xs ≡ xs
filter-whole p [] h = refl
filter-whole p (x ∷ xs) h =
    elim (p x) as (λ b. length (cond b (x ∷ filter p xs) (filter p xs)) ≡ suc (length xs) → cond b (x ∷ filter p xs) (filter p xs) ≡ x ∷ xs) [
      | true ↦ λ e. ap (λ ys. x ∷ ys) (filter-whole p xs (omega arith))
      | false ↦ λ e. absurd (omega (arith, filter-short p xs))
    ] h

pub is_err_where : (P Q : ℕ → Type 0) (r : Result ℕ ℕ) → ((at : ℕ) → P at → ⊥) → MatchResult r P Q → IsErr r
is_err_where P Q (Ok at) none h = absurd (none at h)
is_err_where P Q (Err at) none h = refl

module _ {K X : Type 0} {R : K → K → Ordering} {k : K} {at : ℕ} {es xs : List (K × X)} where
  -- a place in a list is the place in an equal one
  pub index_of_in : es ≡ xs → IsIndexOf R k es at → IsIndexOf R k xs at
  index_of_in e here = subst (λ (l : List (K × X)). IsIndexOf R k l at) e here

  pub index_for_in : es ≡ xs → IsIndexFor R k es at → IsIndexFor R k xs at
  index_for_in e here = subst (λ (l : List (K × X)). IsIndexFor R k l at) e here

module _ {K X : Type 0} {R : K → K → Ordering} (total : IsTotalOrder R) where
  -- what stands in its place is what a scan finds
  find-held : (k : K) (es : List (K × X)) (d : K × X) → holds R k es ≡ true → find R k es ≡ Some ((get_or es (rank R k es) d).1)
  find-held k [] d h = absurd cc
  find-held k (e ∷ es) d h =
      elim (R k e.0) as (λ o. match_ordering o false true (holds R k es) ≡ true → cond (is_eq o) (Some e.1) (find R k es) ≡ Some ((get_or (e ∷ es) (match_ordering o 0 0 (suc (rank R k es))) d).1)) [
        | Less ↦ λ p. absurd cc
        | Equal ↦ λ p. refl
        | Greater ↦ λ p. find-held k es d p
      ] h

  -- an addition goes to its place
  put-rank : (k : K) (v : X) (es : List (K × X)) → holds R k es ≡ false → put R k v es ≡ insert es (rank R k es) (k, v)
  put-rank k v [] h = refl
  put-rank k v (e ∷ es) h =
      elim (R k e.0) as (λ o. match_ordering o false true (holds R k es) ≡ false → by_order o ((k, v) ∷ e ∷ es) ((e.0, v) ∷ es) (e ∷ put R k v es) ≡ insert (e ∷ es) (match_ordering o 0 0 (suc (rank R k es))) (k, v)) [
        | Less ↦ λ p. refl
        | Equal ↦ λ p. absurd cc
        | Greater ↦ λ p. ap (λ xs. e ∷ xs) (put-rank k v es p)
      ] h

  -- a change of what stands there leaves the key
  put-held : (k : K) (v : X) (es : List (K × X)) (d : K × X) → holds R k es ≡ true → put R k v es ≡ set es (rank R k es) ((get_or es (rank R k es) d).0, v)
  put-held k v [] d h = absurd cc
  put-held k v (e ∷ es) d h =
      elim (R k e.0) as (λ o. match_ordering o false true (holds R k es) ≡ true → by_order o ((k, v) ∷ e ∷ es) ((e.0, v) ∷ es) (e ∷ put R k v es) ≡ set (e ∷ es) (match_ordering o 0 0 (suc (rank R k es))) ((get_or (e ∷ es) (match_ordering o 0 0 (suc (rank R k es))) d).0, v)) [
        | Less ↦ λ p. absurd cc
        | Equal ↦ λ p. refl
        | Greater ↦ λ p. ap (λ xs. e ∷ xs) (put-held k v es d p)
      ] h

  -- what does not stand in its place is nowhere
  find-absent : (k : K) (es : List (K × X)) → IsTrue (is_sorted R es) → holds R k es ≡ false → find R k es ≡ None
  find-absent k [] s h = refl
  find-absent k (e ∷ es) s h =
      none_of _ (not_some _ (length (e ∷ es)) (sym (ap length (put-rank k e.1 (e ∷ es) h) ∙ length-insert_at (e ∷ es) (rank R k (e ∷ es)) (k, e.1)) ∙ length-put R total k e.1 (e ∷ es) (as_test _ s)))

  -- what a key gives that stands there
  pub get-index : (k : K) (es : List (K × X)) (at : ℕ) (e : K × X) → IsTrue (is_sorted R es) → IsIndexOf R k es at → get_or es at e ≡ e → finite.get (finite.from_sorted {R = R} es) k ≡ Some e.1
  get-index k es at e s here is =
      finite.get-from_sorted R es k (as_test _ s) ∙ find-held k es e here.held
      ∙ ap (λ n. Some ((get_or es n e).1)) (sym here.index) ∙ ap (λ (e : K × X). Some e.1) is

  -- a key that would stand there gives nothing
  pub get-no_index : (k : K) (es : List (K × X)) (at : ℕ) → IsTrue (is_sorted R es) → IsIndexFor R k es at → finite.get (finite.from_sorted {R = R} es) k ≡ None
  get-no_index k es at s here = finite.get-from_sorted R es k (as_test _ s) ∙ find-absent k es s here.absent

  -- a key that gives nothing stands nowhere
  pub no_index : (k : K) (es : List (K × X)) (at : ℕ) → IsTrue (is_sorted R es) → finite.get (finite.from_sorted {R = R} es) k ≡ None → IsIndexOf R k es at → ⊥
  no_index k [] at s none here = let h : false ≡ true = here.held in cc
  no_index k (e ∷ es) at s none here =
      let found : Some ((get_or (e ∷ es) (rank R k (e ∷ es)) e).1) ≡ None = sym (finite.get-from_sorted R (e ∷ es) k (as_test _ s) ∙ find-held k (e ∷ es) e here.held) ∙ none in cc

  module _ (k : K) (v : X) (es : List (K × X)) (s : IsTrue (is_sorted R es)) where
    from_sorted-put : finite.from_sorted {R = R} (put R k v es) ≡ finite.insert (finite.from_sorted es) k v
    from_sorted-put = finite.same_entries_map _ _
        (finite.entries-from_sorted R (put R k v es) (is_sorted-put R total k v es (as_test _ s))
        ∙ sym (finite.entries-insert total (finite.from_sorted es) k v ∙ ap (put R k v) (finite.entries-from_sorted R es (as_test _ s))))

    made_sorted : (xs : List (K × X)) → put R k v es ≡ xs → IsTrue (is_sorted R xs)
    made_sorted xs e = subst (λ (xs : List (K × X)). IsTrue (is_sorted R xs)) e (as_true _ (is_sorted-put R total k v es (as_test _ s)))

    made_map : (xs : List (K × X)) → put R k v es ≡ xs → finite.from_sorted {R = R} xs ≡ finite.insert (finite.from_sorted es) k v
    made_map xs e = ap (finite.from_sorted {R = R}) (sym e) ∙ from_sorted-put

    module _ (at : ℕ) (here : IsIndexFor R k es at) where
      put-at : put R k v es ≡ insert es at (k, v)
      put-at = put-rank k v es here.absent ∙ ap (λ n. insert es n (k, v)) (sym here.index)

      pub is_sorted-insert : IsTrue (is_sorted R (insert es at (k, v)))
      is_sorted-insert = made_sorted _ put-at

      pub from_sorted-insert : finite.from_sorted {R = R} (insert es at (k, v)) ≡ finite.insert (finite.from_sorted es) k v
      from_sorted-insert = made_map _ put-at

    module _ (at : ℕ) (here : IsIndexOf R k es at) (e : K × X) (is : get_or es at e ≡ e) where
      set-at : put R k v es ≡ set es at (e.0, v)
      set-at = put-held k v es e here.held ∙ ap (λ n. set es n ((get_or es n e).0, v)) (sym here.index) ∙ ap (λ (d : K × X). set es at (d.0, v)) is

      pub is_sorted-set : IsTrue (is_sorted R (set es at (e.0, v)))
      is_sorted-set = made_sorted _ set-at

      pub from_sorted-set : finite.from_sorted {R = R} (set es at (e.0, v)) ≡ finite.insert (finite.from_sorted es) k v
      from_sorted-set = made_map _ set-at

  sorted_tail : (e : K × X) (es : List (K × X)) → IsTrue (is_sorted R (e ∷ es)) → IsTrue (is_sorted R es)
  sorted_tail e es s = elim (below_all R e.0 es) as (λ b. (b && is_sorted R es) ≡ true → is_sorted R es ≡ true) [ true ↦ λ p. p | false ↦ λ p. absurd cc ] s

  -- what is left without a key is the list without its place
  where-rank : (k : K) (es : List (K × X)) → IsTrue (is_sorted R es) → holds R k es ≡ true → where_key R (λ x. not (eq_by_cmp R k x)) es ≡ remove es (rank R k es)
  where-rank k [] s h = absurd cc
  where-rank k (e ∷ es) s h =
      let F : List (K × X) = where_key R (λ x. not (eq_by_cmp R k x)) es in
      elim (R k e.0) as (λ o. match_ordering o false true (holds R k es) ≡ true → cond (is_some (cond (is_eq o) (Some e.1) (find R k es))) 1 0 + length (cond (not (is_eq o)) (e ∷ F) F) ≡ suc (length es) → cond (not (is_eq o)) (e ∷ F) F ≡ remove (e ∷ es) (match_ordering o 0 0 (suc (rank R k es)))) [
        | Less ↦ λ p q. absurd cc
        | Equal ↦ λ p q. filter-whole (λ x. not (eq_by_cmp R k x.0)) es (omega arith)
        | Greater ↦ λ p q. ap (λ xs. e ∷ xs) (where-rank k es (sorted_tail e es s) p)
      ] h (length_without R total k (e ∷ es) (as_test _ s))

  module _ (k : K) (es : List (K × X)) (at : ℕ) (s : IsTrue (is_sorted R es)) (here : IsIndexOf R k es at) where
    without-at : where_key R (λ x. not (eq_by_cmp R k x)) es ≡ remove es at
    without-at = where-rank k es s here.held ∙ ap (remove es) (sym here.index)

    pub is_sorted-remove : IsTrue (is_sorted R (remove es at))
    is_sorted-remove = subst (λ (xs : List (K × X)). IsTrue (is_sorted R xs)) without-at (as_true _ (is_sorted-where_key R (λ x. not (eq_by_cmp R k x)) es (as_test _ s)))

    pub from_sorted-remove : finite.from_sorted {R = R} (remove es at) ≡ finite.remove (finite.from_sorted es) k
    from_sorted-remove =
        ap (finite.from_sorted {R = R}) (sym without-at)
        ∙ finite.same_entries_map _ _ (finite.entries-from_sorted R _ (is_sorted-where_key R (λ x. not (eq_by_cmp R k x)) es (as_test _ s)) ∙ sym (finite.entries-remove (finite.from_sorted es) k ∙ ap (where_key R (λ x. not (eq_by_cmp R k x))) (finite.entries-from_sorted R es (as_test _ s))))

  -- a map without a key stays as it is when that key is removed
  pub remove-absent : finite.IsAntisymmetric R → (m : finite.FinMap R X) (k : K) → finite.get m k ≡ None → m ≡ finite.remove m k
  remove-absent exact m k none =
      finite.same_map total exact _ _ (λ q. sym (finite.get-remove total m k q
      ∙ elim (R q k) as (λ o. R q k ≡ o → cond (is_eq o) None (finite.get m q) ≡ finite.get m q) [
        | Less ↦ λ e. refl
        | Equal ↦ λ e. sym (ap (finite.get m) (exact q k e) ∙ none)
        | Greater ↦ λ e. refl
      ] refl))

module _ {K X : Type 0} (R : K → K → Ordering) where
  pub from_sorted-none : finite.from_sorted {X = X} {R = R} [] ≡ finite.empty
  from_sorted-none = finite.same_entries_map _ _ (finite.entries-from_sorted R [] tt ∙ sym (finite.entries-empty R))

  pub entries-kept : (es : List (K × X)) → IsTrue (is_sorted R es) → finite.entries (finite.from_sorted {R = R} es) ≡ es
  entries-kept es s = finite.entries-from_sorted R es (as_test _ s)

  pub len-from_sorted : (es : List (K × X)) → IsTrue (is_sorted R es) → finite.len (finite.from_sorted {R = R} es) ≡ length es
  len-from_sorted es s = finite.len-entries _ ∙ ap length (entries-kept es s)

  pub keys-from_sorted : (es : List (K × X)) → IsTrue (is_sorted R es) → finite.keys (finite.from_sorted {R = R} es) ≡ map (λ e. e.0) es
  keys-from_sorted es s = ap (map (λ e. e.0)) (entries-kept es s)
