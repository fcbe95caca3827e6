-- What a window shows of a history.
use Rattle.std.proofs.Common.{◌≡◌, ◌≢◌, ℕ, zero, suc, ◌+◌, ◌-◌, ◌<◌, ◌≤◌, inl, inr, List, [], ◌∷◌, ◌++◌, length, drop, get_or, Option, None, Some, Result, Ok, Err, refl, sym, ap, subst, ◌∙◌, arith, true, false, Bool}
use Rattle.std.specs.Prelude.{if◌then◌else◌, ◌==◌, OnOk}
use Rattle.std.specs.List.{AllByRecursion}
use Rattle.std.specs.Ordering.{nat_cmp}
use Rattle.std.proofs.lemmas.List.{length-drop}
use Rattle.model.specs.Entries.{Op, Do, Begin, End, Abort, Reply, Answers, Refuses, Begun, Committed, GivenUp, Aborted, Busy, InTransaction, NotInTransaction, HistoryFull, NoMemory, NoProcess, Entry}
use Rattle.model.specs.Moments.{is_in}
use Rattle.std.proofs.lemmas.Bool.{cases_eq}
use Rattle.model.specs.FiniteMap.{FinMap, empty, get, get-empty, insert}
use Rattle.model.proofs.Laws.{get_other, get_same}
use Rattle.replay.specs.Faults.{HoldsEntry}
use Rattle.replay.specs.Checked.{AreHeld, AreThere, Grows}
use Rattle.replay.proofs.Following.{holds_entry}
use Rattle.replay.specs.Transactions.{begun_kept, doomed_kept, next_kept, own_kept, settled_kept, with_position}
use Rattle.replay.specs.Windows.{CanSee, CanSeeAll, CanSeeAny, CanSeeEach, Finds, Shows}
use Rattle.replay.specs.declared.transaction.Transaction.{Transaction}
use Rattle.replay.specs.declared.transaction.Transaction.TheVariants.{Live, Doomed}
use Rattle.replay.specs.declared.window.Window.{Window}

-- what is found before the part
pub seen_before : (es : List Entry) (w : Window) (position : ℕ) → Shows es w → CanSee w position → position < w.offset → (found : Option Entry) → found ≡ get w.kept.now position → Finds es position found
seen_before es w position shows sees before None is = absurd (lost sees) where
  lost : CanSee w position → ⊥
  lost (inl behind) = absurd (omega arith)
  lost (inr held) = held (sym is)
seen_before es w position shows sees before (Some e) is = shows.kept position e (sym is)

-- an entry of the part stands in the history behind those before the part
pub part_at : (es part : List Entry) (offset i : ℕ) (d : Entry) → drop offset es ≡ part → get_or es (offset + i) d ≡ get_or part i d
part_at es part offset i d is = get_or_drop es offset ∙ ap (λ xs. get_or xs i d) is where
  get_or_drop : (xs : List Entry) (n : ℕ) → get_or xs (n + i) d ≡ get_or (drop n xs) i d
  get_or_drop xs zero = ap (λ n. get_or xs n d) (omega arith)
  get_or_drop [] (suc n) = past where
    past : get_or [] (suc n + i) d ≡ get_or (drop (suc n) []) i d
    past = refl
  get_or_drop (x ∷ xs) (suc n) = (let more : suc n + i ≡ suc (n + i) = omega arith in ap (λ m. get_or (x ∷ xs) m d) more ∙ get_or_drop xs n)

-- a read within a list gives the same whatever stands for what is past it
pub same_read : (xs : List Entry) (i : ℕ) (d e : Entry) → i < length xs → get_or xs i d ≡ get_or xs i e
same_read [] i d e low = absurd (omega arith)
same_read (x ∷ xs) zero d e low = refl
same_read (x ∷ xs) (suc i) d e low = same_read xs i d e (omega arith)

-- the entry that is read of the part is that of the history
pub part_read : (es part : List Entry) (offset i at : ℕ) (d : Entry) → drop offset es ≡ part → i < length part → at ≡ offset + i → get_or part i d ≡ get_or es at (get_or part i d)
part_read es part offset i at d is low position =
    same_read part i d (get_or part i d) low ∙ sym (part_at es part offset i (get_or part i d) is) ∙ ap (λ n. get_or es n (get_or part i d)) (sym position)

pub part_within : (es part : List Entry) (offset i : ℕ) → drop offset es ≡ part → offset ≤ length es → i < length part → (at : ℕ) → at ≡ offset + i → at < length es
part_within es part offset i is within low at position =
    let left : length (drop offset es) ≡ length es - offset = length-drop offset es in
    let same : length (drop offset es) ≡ length part = ap length is in
    omega arith

-- what is found in the part, and that nothing is past it
pub seen_in : (es : List Entry) (w : Window) (position i : ℕ) (e : Entry) → Shows es w → w.offset + i ≡ position → i < length w.part.now → e ≡ get_or w.part.now i e → HoldsEntry es position e
seen_in es w position i e shows is low here =
    let within : position < length es = part_within es w.part.now w.offset i shows.part shows.within low position (sym is) in
    let read : e ≡ get_or es position e = here ∙ sym (part_at es w.part.now w.offset i e shows.part) ∙ ap (λ n. get_or es n e) is in
    holds_entry es position e within read

pub seen_past : (es : List Entry) (w : Window) (position : ℕ) → Shows es w → w.offset ≤ position → length w.part.now ≤ position - w.offset → length es ≤ position
seen_past es w position shows behind past =
    let left : length (drop w.offset es) ≡ length es - w.offset = length-drop w.offset es in
    let same : length (drop w.offset es) ≡ length w.part.now = ap length shows.part in
    omega arith

-- what is kept after an entry of the part can be looked at
module _ (w : Window) (at : ℕ) (behind : w.offset ≤ at) where
  sees_more : (ps : List ℕ) → CanSeeAll w ps → CanSeeAll w (ps ++ at ∷ [])
  sees_more [] all = (inl behind, tt)
  sees_more (p ∷ ps) all = (all.0, sees_more ps all.1)

  sees_placed : (kept : Option Transaction) → CanSeeEach w kept → CanSeeEach w (with_position at kept)
  sees_placed (Some (Live flags ps)) all = sees_more ps all
  sees_placed (Some (Doomed flags)) all = tt
  sees_placed None all = tt

  sees_begun : (kept : Option Transaction) (op : Op) → CanSeeEach w kept → CanSeeEach w (begun_kept kept op)
  sees_begun None (Begin flags) all = tt
  sees_begun None (Do call) all = tt
  sees_begun None End all = tt
  sees_begun None (Abort no_restart) all = tt
  sees_begun (Some t) op all = all

  sees_settled : (kept : Option Transaction) (again : Bool) → CanSeeEach w (settled_kept kept again)
  sees_settled None again = tt
  sees_settled (Some (Live flags ps)) true = tt
  sees_settled (Some (Live flags ps)) false = tt
  sees_settled (Some (Doomed flags)) true = tt
  sees_settled (Some (Doomed flags)) false = tt

  sees_own : (kept : Option Transaction) (op : Op) (reply : Reply) → CanSeeEach w kept → CanSeeEach w (own_kept at kept op reply)
  sees_own kept op (Answers a) all = sees_placed kept all
  sees_own kept op (Refuses e) all = sees_placed kept all
  sees_own kept op Begun all = sees_begun kept op all
  sees_own kept op Committed all = tt
  sees_own kept op (GivenUp again) all = sees_settled kept again
  sees_own kept op (Aborted why again) all = sees_settled kept again
  sees_own kept op (Busy cause) all = all
  sees_own kept op InTransaction all = all
  sees_own kept op NotInTransaction all = all
  sees_own kept op HistoryFull all = all
  sees_own kept op NoMemory all = all
  sees_own kept op NoProcess all = all

  sees_doomed : (kept : Option Transaction) → CanSeeEach w (doomed_kept kept)
  sees_doomed None = tt
  sees_doomed (Some (Live flags ps)) = tt
  sees_doomed (Some (Doomed flags)) = tt

  pub sees_next : (e : Entry) (old new : FinMap nat_cmp Transaction) → CanSeeAny w old → ((q : ℕ) → get new q ≡ next_kept at e q (get old q)) → CanSeeAny w new
  sees_next e old new all next q = subst (CanSeeEach w) (sym (next q)) (by (is_in q e.doomed) (q == e.pid)) where
    by : (dooms own : Bool) → CanSeeEach w (if dooms then doomed_kept (if own then own_kept at (get old q) e.op e.reply else get old q) else (if own then own_kept at (get old q) e.op e.reply else get old q))
    by true own = sees_doomed _
    by false true = sees_own (get old q) e.op e.reply (all q)
    by false false = all q

-- the whole history is a part of itself
pub all_shown : (es : List Entry) (w : Window) → w.part.now ≡ es → w.offset ≡ 0 → w.kept.now ≡ empty → Shows es w
all_shown es w part offset none = record {
  part = ap (λ n. drop n es) offset ∙ sym part;
  within = subst (λ n. n ≤ length es) (sym offset) (omega arith);
  kept = λ position e is. absurd (held position e is);
}
  where
    held : (position : ℕ) (e : Entry) → get w.kept.now position ≡ Some e → ⊥
    held position e is = (let nothing : None ≡ Some e = sym (ap (λ m. get m position) none ∙ get-empty nat_cmp position) ∙ is in absurd cc)

-- where there is no transaction
pub nothing_kept : (kept : FinMap nat_cmp Transaction) → kept ≡ empty → (q : ℕ) → get kept q ≡ None
nothing_kept kept none q = ap (λ m. get m q) none ∙ get-empty nat_cmp q

-- one entry more is kept
pub held_more : (es : List Entry) (old : FinMap nat_cmp Entry) (position : ℕ) (e : Entry) → AreHeld es old → HoldsEntry es position e → AreHeld es (insert old position e)
held_more es old position e held here p d is = elim (cases_eq p position) [
  | inl same ↦
      let found : Some e ≡ Some d = sym (ap (get (insert old position e)) same ∙ get_same old position e) ∙ is in
      subst (λ q. HoldsEntry es q d) (sym same) (subst (HoldsEntry es position) (cc found) here)
  | inr other ↦ held p d (sym (get_other old position p e other) ∙ is)
]

pub there_more : (old : FinMap nat_cmp Entry) (position : ℕ) (e : Entry) → get (insert old position e) position ≢ None
there_more old position e none = (let some : Some e ≡ None = sym (get_same old position e) ∙ none in absurd cc)

pub grows_more : (old : FinMap nat_cmp Entry) (position : ℕ) (e : Entry) → Grows old (insert old position e)
grows_more old position e p there none = elim (cases_eq p position) [
  | inl same ↦ there_more old position e (ap (get (insert old position e)) (sym same) ∙ none)
  | inr other ↦ there (sym (get_other old position p e other) ∙ none)
]

-- what follows where a result is good
pub on_ok : {X E A B : Type 0} (r : Result X E) → OnOk r A → (A → B) → OnOk r B
on_ok (Ok x) h f = f h
on_ok (Err e) h f = tt

-- one more of which each has a property, and each where another follows
pub all_more : {X : Type 0} (P : X → Type 0) (xs : List X) (x : X) → AllByRecursion P xs → P x → AllByRecursion P (xs ++ x ∷ [])
all_more P [] x all one = (one, tt)
all_more P (y ∷ xs) x all one = (all.0, all_more P xs x all.1 one)

pub all_so : {X : Type 0} (P Q : X → Type 0) (xs : List X) → ((x : X) → P x → Q x) → AllByRecursion P xs → AllByRecursion Q xs
all_so P Q [] f all = tt
all_so P Q (x ∷ xs) f all = (f x all.0, all_so P Q xs f all.1)

-- where no entry is kept
pub nothing_held : (es : List Entry) (kept : FinMap nat_cmp Entry) → kept ≡ empty → AreHeld es kept
nothing_held es kept none position e is = (let nothing : None ≡ Some e = sym (ap (λ m. get m position) none ∙ get-empty nat_cmp position) ∙ is in absurd cc)

-- what is there stays there
pub there_grows : (old new : FinMap nat_cmp Entry) (t : Option Transaction) → Grows old new → AreThere old t → AreThere new t
there_grows old new None grows all = tt
there_grows old new (Some (Doomed flags)) grows all = tt
there_grows old new (Some (Live flags positions)) grows all = all_so (λ p. get old p ≢ None) (λ p. get new p ≢ None) positions grows all
