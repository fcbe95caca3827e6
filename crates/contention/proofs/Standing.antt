-- A process's part of what is kept.
use Rattle.std.proofs.Common.{◌≡◌, ◌≢◌, ◌∙◌, sym, refl, ap, ℕ, zero, suc, List, [], ◌∷◌, ◌++◌, ◌+◌, ◌-◌, Option, Some, None, inl, inr, length, set, take, get_or, ◌<◌, arith}
use Rattle.std.proofs.lemmas.List.{get_or-set_same, get_or-set_other, length-set, length_push, get_or_push, get_or_append_left}
use Rattle.std.proofs.lemmas.Bool.{cases_eq}
use Rattle.std.specs.Option.{IfSome}
use Rattle.model.specs.Steps.{Touch}
use Rattle.records.specs.Touches.{touched_by, with_touches}
use Rattle.contention.specs.Contenders.{Contender, nobody, contender_at, SetsContender}
use Rattle.contention.specs.Ranks.{ranked, idle_rank, no_rank, rank_at, ranked_list}
use Rattle.ids.specs.declared.entry.Rank.{Rank}

pub ranked_count : (rs : List Rank) (tss : List (List Touch)) → length (ranked_list rs tss) ≡ length rs
ranked_count [] tss = refl
ranked_count (r ∷ rs) [] = ap suc (ranked_count rs [])
ranked_count (r ∷ rs) (ts ∷ tss) = ap suc (ranked_count rs tss)

pub ranked_there : (rs : List Rank) (tss : List (List Touch)) (q : ℕ) → length tss ≡ length rs → contender_at (ranked_list rs tss) q ≡ ranked (rank_at rs q) (touched_by tss q)
ranked_there [] [] q e = refl
ranked_there [] (ts ∷ tss) q e = absurd (omega arith)
ranked_there (r ∷ rs) [] q e = absurd (omega arith)
ranked_there (r ∷ rs) (ts ∷ tss) zero e = refl
ranked_there (r ∷ rs) (ts ∷ tss) (suc q) e = ranked_there rs tss q (omega arith)

-- one process's part changes
pub becomes : (rs ss : List Rank) (tss uss : List (List Touch)) (pid : ℕ) (h : Contender) → length tss ≡ length rs → length uss ≡ length ss → length ss ≡ length rs → ranked (rank_at ss pid) (touched_by uss pid) ≡ h → ((q : ℕ) → q ≢ pid → rank_at ss q ≡ rank_at rs q) → ((q : ℕ) → q ≢ pid → touched_by uss q ≡ touched_by tss q) → SetsContender (ranked_list rs tss) (ranked_list ss uss) pid h
becomes rs ss tss uss pid h e f g own ranks touches = record {
  count = ranked_count ss uss ∙ g ∙ sym (ranked_count rs tss);
  own = ranked_there ss uss pid f ∙ own;
  others = λ q ne. ranked_there ss uss q f ∙ ap (λ r. ranked r (touched_by uss q)) (ranks q ne) ∙ ap (ranked (rank_at rs q)) (touches q ne) ∙ sym (ranked_there rs tss q e);
}

-- a rank changes
pub rank_becomes : (rs : List Rank) (tss : List (List Touch)) (pid : ℕ) (r : Rank) (h : Contender) → length tss ≡ length rs → pid < length rs → ranked r (touched_by tss pid) ≡ h → SetsContender (ranked_list rs tss) (ranked_list (set rs pid r) tss) pid h
rank_becomes rs tss pid r h e within own = becomes rs (set rs pid r) tss tss pid h e (e ∙ sym (length-set rs pid r)) (length-set rs pid r) (ap (λ s. ranked s (touched_by tss pid)) (get_or-set_same rs pid r no_rank within) ∙ own) (λ q ne. get_or-set_other rs pid q r no_rank ne) (λ q ne. refl)

-- what it touched changes
pub touches_become : (rs : List Rank) (tss : List (List Touch)) (pid : ℕ) (ts : List Touch) (h : Contender) → length tss ≡ length rs → pid < length rs → ranked (rank_at rs pid) ts ≡ h → SetsContender (ranked_list rs tss) (ranked_list rs (set tss pid ts)) pid h
touches_become rs tss pid ts h e within own = becomes rs rs tss (set tss pid ts) pid h e (length-set tss pid ts ∙ e) refl (ap (ranked (rank_at rs pid)) (get_or-set_same tss pid ts [] (omega arith)) ∙ own) (λ q ne. refl) (λ q ne. get_or-set_other tss pid q ts [] ne)

pub both_become : (rs : List Rank) (tss : List (List Touch)) (pid : ℕ) (r : Rank) (ts : List Touch) (h : Contender) → length tss ≡ length rs → pid < length rs → ranked r ts ≡ h → SetsContender (ranked_list rs tss) (ranked_list (set rs pid r) (set tss pid ts)) pid h
both_become rs tss pid r ts h e within own = becomes rs (set rs pid r) tss (set tss pid ts) pid h e (length-set tss pid ts ∙ e ∙ sym (length-set rs pid r)) (length-set rs pid r) (ap (λ s. ranked s (touched_by (set tss pid ts) pid)) (get_or-set_same rs pid r no_rank within) ∙ ap (ranked r) (get_or-set_same tss pid ts [] (omega arith)) ∙ own) (λ q ne. get_or-set_other rs pid q r no_rank ne) (λ q ne. get_or-set_other tss pid q ts [] ne)

pub within_ranks : (rs : List Rank) (tss : List (List Touch)) (now : List Contender) (pid : ℕ) → ranked_list rs tss ≡ now → pid < length now → pid < length rs
within_ranks rs tss now pid e l = let c = ranked_count rs tss in let d = ap length e in omega arith

pub begin_becomes : (rs : List Rank) (tss : List (List Touch)) (pid : ℕ) (age : Option ℕ) → length tss ≡ length rs → pid < length rs → SetsContender (ranked_list rs tss) (ranked_list (set rs pid (record { priority = (rank_at rs pid).priority; age = age })) tss) pid (record { priority = (contender_at (ranked_list rs tss) pid).priority; age = age; touches = (contender_at (ranked_list rs tss) pid).touches })
begin_becomes rs tss pid age e within =
    let f : Contender → Contender = λ h. record { priority = h.priority; age = age; touches = h.touches } in
    rank_becomes rs tss pid (record { priority = (rank_at rs pid).priority; age = age }) _ e within (sym (ap f (ranked_there rs tss pid e)))

pub add_becomes : (rs : List Rank) (tss : List (List Touch)) (pid : ℕ) (more : List Touch) → length tss ≡ length rs → pid < length rs → SetsContender (ranked_list rs tss) (ranked_list rs (set tss pid (with_touches (touched_by tss pid) more))) pid (record { priority = (contender_at (ranked_list rs tss) pid).priority; age = (contender_at (ranked_list rs tss) pid).age; touches = with_touches (contender_at (ranked_list rs tss) pid).touches more })
add_becomes rs tss pid more e within =
    let f : Contender → Contender = λ h. record { priority = h.priority; age = h.age; touches = with_touches h.touches more } in
    touches_become rs tss pid (with_touches (touched_by tss pid) more) _ e within (sym (ap f (ranked_there rs tss pid e)))

pub keep_becomes : (rs : List Rank) (tss : List (List Touch)) (pid n : ℕ) → length tss ≡ length rs → pid < length rs → SetsContender (ranked_list rs tss) (ranked_list rs (set tss pid (take n (touched_by tss pid)))) pid (record { priority = (contender_at (ranked_list rs tss) pid).priority; age = (contender_at (ranked_list rs tss) pid).age; touches = take n (contender_at (ranked_list rs tss) pid).touches })
keep_becomes rs tss pid n e within =
    let f : Contender → Contender = λ h. record { priority = h.priority; age = h.age; touches = take n h.touches } in
    touches_become rs tss pid (take n (touched_by tss pid)) _ e within (sym (ap f (ranked_there rs tss pid e)))

pub release_becomes : (rs : List Rank) (tss : List (List Touch)) (pid : ℕ) → length tss ≡ length rs → pid < length rs → SetsContender (ranked_list rs tss) (ranked_list (set rs pid (record { priority = (rank_at rs pid).priority; age = None })) (set tss pid [])) pid (record { priority = (contender_at (ranked_list rs tss) pid).priority; age = None; touches = [] })
release_becomes rs tss pid e within =
    let f : Contender → Contender = λ h. record { priority = h.priority; age = None; touches = [] } in
    both_become rs tss pid (record { priority = (rank_at rs pid).priority; age = None }) [] _ e within (sym (ap f (ranked_there rs tss pid e)))

pub leave_becomes : (rs : List Rank) (tss : List (List Touch)) (pid : ℕ) → length tss ≡ length rs → pid < length rs → SetsContender (ranked_list rs tss) (ranked_list (set rs pid no_rank) (set tss pid [])) pid nobody
leave_becomes rs tss pid e within = both_become rs tss pid no_rank [] nobody e within refl

pub ranked_push : (rs : List Rank) (tss : List (List Touch)) (r : Rank) (ts : List Touch) → length tss ≡ length rs → ranked_list (rs ++ r ∷ []) (tss ++ ts ∷ []) ≡ ranked_list rs tss ++ ranked r ts ∷ []
ranked_push [] [] r ts e = refl
ranked_push [] (us ∷ tss) r ts e = absurd (omega arith)
ranked_push (s ∷ rs) [] r ts e = absurd (omega arith)
ranked_push (s ∷ rs) (us ∷ tss) r ts e = ap (λ xs. ranked s us ∷ xs) (ranked_push rs tss r ts (omega arith))

-- the last process is gone
pub ranked_take : (rs : List Rank) (tss : List (List Touch)) (n : ℕ) → length tss ≡ length rs → ranked_list (take n rs) (take n tss) ≡ take n (ranked_list rs tss)
ranked_take rs tss zero e = refl
ranked_take [] [] (suc n) e = refl
ranked_take [] (ts ∷ tss) (suc n) e = absurd (omega arith)
ranked_take (r ∷ rs) [] (suc n) e = absurd (omega arith)
ranked_take (r ∷ rs) (ts ∷ tss) (suc n) e = ap (λ xs. ranked r ts ∷ xs) (ranked_take rs tss n (omega arith))

-- the level that was unwrapped
pub level_is : (o : Option ℕ) (p n : ℕ) → o ≡ Some p → IfSome o (λ k. k ≡ n) → p ≡ n
level_is o p n is says = rw is at says

-- one process more
pub grown : (rs : List Rank) (tss : List (List Touch)) (priority : ℕ) → length tss ≡ length rs → ranked_list (rs ++ idle_rank priority ∷ []) (tss ++ [] ∷ []) ≡ ranked_list rs tss ++ record { priority = priority; age = None; touches = [] } ∷ []
grown rs tss priority e = ranked_push rs tss (idle_rank priority) [] e

pub length_within : (rs : List Rank) (tss : List (List Touch)) (now : List Contender) → ranked_list rs tss ≡ now → 0 < length now → 0 < length rs
length_within rs tss now e l = within_ranks rs tss now 0 e l

pub last_touches : (rs : List Rank) (tss : List (List Touch)) (now : List Contender) → length tss ≡ length rs → ranked_list rs tss ≡ now → (contender_at now (length now - 1)).touches ≡ [] → touched_by tss (length tss - 1) ≡ []
last_touches rs tss now same is none =
    let n : length now ≡ length tss = sym (ap length is) ∙ ranked_count rs tss ∙ sym same in
    ap (λ k. touched_by tss (k - 1)) (sym n)
    ∙ sym (ap (λ (p : Contender). p.touches) (ranked_there rs tss (length now - 1) same))
    ∙ ap (λ all. (contender_at all (length now - 1)).touches) is ∙ none

-- so many processes were made, none in a transaction
pub record AreMade (rs : List Rank) (tss : List (List Touch)) (priorities : List ℕ) (n : ℕ) : Type 0 where
  pub both : length tss ≡ length rs
  pub count : length rs ≡ suc n
  pub first : contender_at (ranked_list rs tss) 0 ≡ nobody
  pub each : (i : ℕ) → i < n → contender_at (ranked_list rs tss) (suc i) ≡ record { priority = get_or priorities i 0; age = None; touches = [] }

pub made_more : (rs : List Rank) (tss : List (List Touch)) (priorities : List ℕ) (n p : ℕ) → AreMade rs tss priorities n → p ≡ get_or priorities n 0 → AreMade (rs ++ record { priority = p; age = None } ∷ []) (tss ++ [] ∷ []) priorities (n + 1)
made_more rs tss priorities n p made is =
    let e : ranked_list (rs ++ record { priority = p; age = None } ∷ []) (tss ++ [] ∷ []) ≡ ranked_list rs tss ++ ranked (record { priority = p; age = None }) [] ∷ [] = ranked_push rs tss (record { priority = p; age = None }) [] made.both in
    let c : length (ranked_list rs tss) ≡ suc n = ranked_count rs tss ∙ made.count in
    record {
      both = length_push tss [] ∙ ap (λ k. k + 1) made.both ∙ sym (length_push rs (record { priority = p; age = None }));
      count = (let a = length_push rs (record { priority = p; age = None }) in let b = made.count in omega arith);
      first = ap (λ xs. contender_at xs 0) e ∙ get_or_append_left (ranked_list rs tss) (ranked (record { priority = p; age = None }) [] ∷ []) nobody 0 (omega arith) ∙ made.first;
      each = λ i l. ap (λ xs. contender_at xs (suc i)) e ∙ elim (cases_eq i n) [
        | inl same ↦ get_or_push (ranked_list rs tss) (ranked (record { priority = p; age = None }) []) nobody (suc i) (c ∙ ap suc (sym same)) ∙ ap (λ k. ranked (record { priority = k; age = None }) []) (is ∙ ap (λ k. get_or priorities k 0) (sym same))
        | inr apart ↦ get_or_append_left (ranked_list rs tss) (ranked (record { priority = p; age = None }) [] ∷ []) nobody (suc i) (omega arith) ∙ made.each i (omega arith)
      ];
    }
