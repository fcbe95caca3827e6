-- What is kept of the positions of a transaction's calls.
use Rattle.std.proofs.Common.{◌≡◌, ◌≢◌, ◌⊎◌, ℕ, ◌+◌, ◌<◌, ◌≤◌, Bool, true, false, ◌==◌, List, [], ◌∷◌, ◌++◌, length, take, drop, Option, Some, None, inl, inr, refl, sym, ap, ap₂, subst, ◌∙◌, append_assoc, append-nil, length-append, arith}
use Rattle.std.specs.Prelude.{if◌then◌else◌}
use Rattle.std.proofs.lemmas.Bool.{cases_eq}
use Rattle.model.specs.Entries.{BeginFlags, Op, Do, Begin, End, Abort, Reply, Answers, Refuses, Begun, Committed, GivenUp, Aborted, Busy, InTransaction, NotInTransaction, HistoryFull, NoMemory, NoProcess, Entry}
use Rattle.model.specs.Moments.{Setup, Status, gone, idle, live, doomed, after, calls_of, is_in}
use Rattle.replay.specs.Transactions.{IsKept, call_first, calls_at_positions, with_position, begun_kept, begun_anew, settled_kept, own_kept, doomed_kept, next_kept}
use Rattle.replay.specs.Faults.{calls_before}
use Rattle.replay.specs.Ran.{IsNext, AreNext}
use Rattle.replay.specs.declared.transaction.Transaction.{Transaction}
use Rattle.replay.specs.declared.transaction.Transaction.TheVariants.{Live, Doomed}

pub calls-append : (es : List Entry) (ps qs : List ℕ) → calls_at_positions es (ps ++ qs) ≡ calls_at_positions es ps ++ calls_at_positions es qs
calls-append es [] qs = refl
calls-append es (p ∷ ps) qs = ap (λ cs. call_first (drop p es) ++ cs) (calls-append es ps qs) ∙ sym (append_assoc (call_first (drop p es)) (calls_at_positions es ps) (calls_at_positions es qs))

pub calls-more : (es : List Entry) (ps : List ℕ) (at : ℕ) → calls_at_positions es (ps ++ at ∷ []) ≡ calls_at_positions es ps ++ call_first (drop at es)
calls-more es ps at = calls-append es ps (at ∷ []) ∙ ap (λ cs. calls_at_positions es ps ++ cs) (append-nil (call_first (drop at es)))

-- the calls of a live list are those at its positions
pub live_calls : (es : List Entry) (flags : BeginFlags) (ps : List ℕ) (s : Status) → IsKept es (Some (Live flags ps)) s → calls_of s ≡ calls_at_positions es ps
live_calls es flags ps (live same age calls) h = h.1
live_calls es flags ps gone h = absurd h
live_calls es flags ps idle h = absurd h
live_calls es flags ps (doomed cause same age) h = absurd h

strictly : (a b : ℕ) → a ≤ b → a ≢ b → a < b
strictly a b h g = omega arith

none_ahead : (first rest : List ℕ) (p : ℕ) → ◌≡◌ {A = List ℕ} [] (first ++ p ∷ rest) → ⊥
none_ahead [] rest p h = cc
none_ahead (f ∷ first) rest p h = cc

-- where a position stands in a list with one more behind
snoc_split : (xs : List ℕ) (a : ℕ) (first rest : List ℕ) (p : ℕ) → xs ++ a ∷ [] ≡ first ++ p ∷ rest → ((first ≡ xs) × (p ≡ a)) ⊎ ((less : List ℕ) × (xs ≡ first ++ p ∷ less))
snoc_split [] a [] rest p h = let same : a ≡ p = cc in inl (refl, sym same)
snoc_split [] a (f ∷ first) rest p h = let none : [] ≡ first ++ p ∷ rest = cc in absurd (none_ahead first rest p none)
snoc_split (x ∷ xs) a [] rest p h = let same : x ≡ p = cc in inr (xs, ap (λ y. y ∷ xs) same)
snoc_split (x ∷ xs) a (f ∷ first) rest p h =
    let head : x ≡ f = cc in
    let tail : xs ++ a ∷ [] ≡ first ++ p ∷ rest = cc in
    elim (snoc_split xs a first rest p tail) [
      | inl last ↦ inl (ap₂ (λ y ys. y ∷ ys) (sym head) last.0, last.1)
      | inr more ↦ inr (more.0, ap₂ (λ y ys. y ∷ ys) head more.1)
    ]

module _ (root : ℕ) (setup : Setup) (es : List Entry) (q at : ℕ) where
  -- each position is that of a call before, or the one at which the entries stand now
  abbrev Shape : Option Transaction → Type 0
  Shape (Some (Live flags positions)) = (first rest : List ℕ) (position : ℕ) → positions ≡ first ++ position ∷ rest
      → IsNext root setup es q at first position ⊎ ((position ≡ at) × (length (calls_before root setup es q at) ≡ length (calls_at_positions es first)))
  Shape (Some (Doomed flags)) = Unit {0}
  Shape None = Unit {0}

  shape_same : (t : Option Transaction) → AreNext root setup es q at t → Shape t
  shape_same (Some (Live flags positions)) h = λ first rest position is. inl (h first rest position is)
  shape_same (Some (Doomed flags)) h = tt
  shape_same None h = tt

  shape_with : (t : Option Transaction) → IsKept es t ((after root setup (take at es)).phase q) → AreNext root setup es q at t → Shape (with_position at t)
  shape_with (Some (Live flags positions)) kept h = λ first rest position is. elim (snoc_split positions at first rest position is) [
    | inl last ↦ inr (last.1, ap length (live_calls es flags positions _ kept ∙ ap (calls_at_positions es) (sym last.0)))
    | inr more ↦ inl (h first more.0 position more.1)
  ]
  shape_with (Some (Doomed flags)) kept h = tt
  shape_with None kept h = tt

  shape_begun : (t : Option Transaction) (op : Op) → AreNext root setup es q at t → Shape (begun_kept t op)
  shape_begun None (Begin flags) h = λ first rest position is. absurd (none_ahead first rest position is)
  shape_begun None (Do call) h = tt
  shape_begun None End h = tt
  shape_begun None (Abort no_restart) h = tt
  shape_begun (Some (Live flags positions)) op h = shape_same (Some (Live flags positions)) h
  shape_begun (Some (Doomed flags)) op h = tt

  shape_anew : (flags : BeginFlags) (again : Bool) → Shape (begun_anew flags again)
  shape_anew flags true = λ first rest position is. absurd (none_ahead first rest position is)
  shape_anew flags false = tt

  shape_settled : (t : Option Transaction) (again : Bool) → Shape (settled_kept t again)
  shape_settled None again = tt
  shape_settled (Some (Live flags positions)) again = shape_anew flags again
  shape_settled (Some (Doomed flags)) again = shape_anew flags again

  module _ (t : Option Transaction) (kept : IsKept es t ((after root setup (take at es)).phase q)) (h : AreNext root setup es q at t) where
    shape_own : (op : Op) (reply : Reply) → Shape (own_kept at t op reply)
    shape_own op (Answers a) = shape_with t kept h
    shape_own op (Refuses e) = shape_with t kept h
    shape_own op Begun = shape_begun t op h
    shape_own op Committed = tt
    shape_own op (GivenUp again) = shape_settled t again
    shape_own op (Aborted why again) = shape_settled t again
    shape_own op (Busy cause) = shape_same t h
    shape_own op InTransaction = shape_same t h
    shape_own op NotInTransaction = shape_same t h
    shape_own op HistoryFull = shape_same t h
    shape_own op NoMemory = shape_same t h
    shape_own op NoProcess = shape_same t h

    shape_doomed : (x : Option Transaction) → Shape (doomed_kept x)
    shape_doomed (Some (Live flags positions)) = tt
    shape_doomed (Some (Doomed flags)) = tt
    shape_doomed None = tt

    shape_next : (e : Entry) → Shape (next_kept at e q t)
    shape_next e = by (q == e.pid) (is_in q e.doomed) where
      own : (b : Bool) → Shape (if b then own_kept at t e.op e.reply else t)
      own true = shape_own e.op e.reply
      own false = shape_same t h

      by : (b d : Bool) → Shape (if d then doomed_kept (if b then own_kept at t e.op e.reply else t) else (if b then own_kept at t e.op e.reply else t))
      by b true = shape_doomed _
      by b false = own b

  -- one entry more
  later : (x : Option Transaction) → IsKept es x ((after root setup (take (at + 1) es)).phase q) → Shape x → AreNext root setup es q (at + 1) x
  later (Some (Doomed flags)) kept h = tt
  later None kept h = tt
  later (Some (Live flags positions)) kept h = λ first rest position is.
      let parts : calls_before root setup es q (at + 1) ≡ calls_at_positions es (first ++ position ∷ []) ++ calls_at_positions es rest =
      live_calls es flags positions _ kept ∙ ap (calls_at_positions es) (is ∙ sym (append_assoc first (position ∷ []) rest)) ∙ calls-append es (first ++ position ∷ []) rest in
      let long : length (calls_at_positions es (first ++ position ∷ [])) ≤ length (calls_before root setup es q (at + 1)) =
      omega (arith, ap length parts, length-append (calls_at_positions es (first ++ position ∷ [])) (calls_at_positions es rest)) in
      elim (h first rest position is) [
        | inl old ↦ record {
          earlier = omega (arith, old.earlier);
          before = old.before;
          since = λ n low high. at_end first position n (at + 1) high long (λ less. old.since n low (omega arith));
        }
        | inr new ↦ record {
          earlier = omega (arith, new.0);
          before = subst (λ n. length (calls_before root setup es q n) ≡ length (calls_at_positions es first)) (sym new.0) new.1;
          since = λ n low high. at_end first position n (at + 1) high long (λ less. absurd (omega (arith, new.0)));
        }
      ]
    where
      at_end : (first : List ℕ) (position n end : ℕ) → n ≤ end → length (calls_at_positions es (first ++ position ∷ [])) ≤ length (calls_before root setup es q end)
          → (n < end → length (calls_at_positions es (first ++ position ∷ [])) ≤ length (calls_before root setup es q n))
          → length (calls_at_positions es (first ++ position ∷ [])) ≤ length (calls_before root setup es q n)
      at_end first position n end high long less = elim (cases_eq n end) [
        | inl same ↦ subst (λ m. length (calls_at_positions es (first ++ position ∷ [])) ≤ length (calls_before root setup es q m)) (sym same) long
        | inr apart ↦ less (strictly n end high apart)
      ]

  -- what is kept after an entry
  pub next_positions : (t : Option Transaction) (e : Entry) → IsKept es t ((after root setup (take at es)).phase q) → AreNext root setup es q at t
      → IsKept es (next_kept at e q t) ((after root setup (take (at + 1) es)).phase q) → AreNext root setup es q (at + 1) (next_kept at e q t)
  next_positions t e kept h then_kept = later (next_kept at e q t) then_kept (shape_next t kept h e)
