-- Each step on the table keeps its rule. What a kernel is and which histories are legal plays no part.
use Rattle.std.proofs.Common.{◌≡◌, ◌≢◌, ℕ, zero, suc, ◌+◌, ◌<◌, ◌≤◌, ◌⊎◌, eqb, cond, MatchBool, Option, Some, List, [], ◌∷◌, ◌++◌, length, get_or, set, sym, refl, ap, ◌∙◌, subst, inl, inr, ⊎_elim, arith, length-set, get_or-set_same, eq-eqb, ne_eqb}
use mathlib.Core.Logic.{dite}
use mathlib.Core.Option.{none, some, some-injective, some-ne-none}
use mathlib.Core.Option as maybe
use native.Mathlib.Decide.{ℕ_discrete}
use lib.ListN.{get_elem?}
use prog.Atomic.{either}
use Rattle.atomic_table.specs.Table.{State, Me, Step, step, keeps, takes, gives, Allows, Arrives, Splits, Joins, opening}
use Rattle.atomic_table.proofs.Lists.{at_set, set_here, set_else}
use Rattle.history.specs.Log.{Log}
use Rattle.turnstile.specs.Histories.{Begins, own, made_of}
use Rattle.turnstile.proofs.Beginnings.{before_self, before_trans, before_linear, own_between}
use Rattle.turnstile.specs.Rule.{Follows, pass_state, having_seen, IsPass, Fits, IsHome, Kept, Learns, Got, took, closed, gave, gave_born, bore, born, Checked, closing_on, checked, dealt_on, dealt, collected, copied, informed, compared}
use Rattle.turnstile.specs.declared.rule.PassState.{PassState}
use Rattle.turnstile.specs.declared.rule.Role.{Role}
use Rattle.turnstile.specs.declared.rule.Role.TheVariants.{Nobody, Deals, Process, Takes, Bears, Knows, Meets, Closes, Checks}

at_end : {A : Type 0} (l : List A) (a b : A) (j : ℕ) → get_elem? (l ++ a ∷ []) j ≡ some b → ((j < length l) × (get_elem? l j ≡ some b)) ⊎ ((j ≡ length l) × (a ≡ b))
at_end [] a b zero e = inr (refl, some-injective a b e)
at_end [] a b (suc j) e = absurd (some-ne-none b (sym e))
at_end (x ∷ xs) a b zero e = inl (omega arith, e)
at_end (x ∷ xs) a b (suc j) e = ⊎_elim (λ t. let l = t.0 in inl (omega arith, t.1)) (λ t. inr (ap suc t.0, t.1)) (at_end xs a b j e)

seats_stay : (F : ℕ → Role → Type 0) (vs : List Role) (id : ℕ) (w : Role) → F id w → ((j : ℕ) (v : Role) → j ≢ id → get_elem? vs j ≡ some v → F j v)
    → (j : ℕ) (v : Role) → get_elem? (set vs id w) j ≡ some v → F j v
seats_stay F vs id w mine others j v e = ⊎_elim (λ (t : (j ≡ id) × (w ≡ v)). subst (λ (x : ℕ × Role). F x.0 x.1) (λ i. (sym t.0 i, t.1 i)) mine)
    (λ (t : (j ≢ id) × (get_elem? vs j ≡ some v)). others j v t.0 t.1) (at_set vs id j w v e)

seats_more : (F : ℕ → Role → Type 0) (vs : List Role) (w : Role) → F (length vs) w → ((j : ℕ) (v : Role) → j < length vs → get_elem? vs j ≡ some v → F j v)
    → (j : ℕ) (v : Role) → get_elem? (vs ++ w ∷ []) j ≡ some v → F j v
seats_more F vs w last others j v e = ⊎_elim (λ (t : (j < length vs) × (get_elem? vs j ≡ some v)). others j v t.0 t.1)
    (λ (t : (j ≡ length vs) × (w ≡ v)). subst (λ (x : ℕ × Role). F x.0 x.1) (λ i. (sym t.0 i, t.1 i)) last) (at_end vs w v j e)

module _ (key log log' : Log) (owner owner' : ℕ → ℕ) (j : ℕ) (longer : Begins log log') (more : made_of log ≤ made_of log') (key_made : made_of key ≤ made_of log)
    (same_owner : (q : ℕ) → q ≤ made_of log → owner q ≡ j → owner' q ≡ j) (same : (q : ℕ) → owner q ≡ j → own q log' ≡ own q log) where
  pass_fits : (o : PassState) → IsPass key log owner j o → IsPass key log' owner' j o
  pass_fits o f = let made = f.was_made in record {
    mine = same_owner o.pid f.was_made f.mine;
    was_made = omega arith;
    begun = f.begun;
    has_seen = before_trans o.seen log log' f.has_seen longer;
    entries = same o.pid f.mine ∙ f.entries;
  }

  -- a seat that does not step fits as before
  other_fits : (word word' holder holder' : ℕ) → (word ≢ 0 → holder ≡ j → (word' ≢ 0) × (holder' ≡ j) × (log' ≡ log))
      → (v : Role) → Fits key log word holder owner j v → Fits key log' word' holder' owner' j v
  other_fits word word' holder holder' keep Nobody f = tt
  other_fits word word' holder holder' keep (Deals next h) f = record {
    begun = f.begun;
    mine = λ p l m. same_owner p (omega arith) (f.mine p l m);
    entries = λ p l m. same p (f.mine p l m) ∙ f.entries p l m;
  }
  other_fits word word' holder holder' keep (Process o) f = pass_fits o f
  other_fits word word' holder holder' keep (Takes o) f = let k = keep f.1.taken f.1.holds in (pass_fits o f.0, record { taken = k.0; holds = k.1; whole = f.1.whole ∙ sym k.2 })
  other_fits word word' holder holder' keep (Bears o) f = let made = f.1.was_made in (
    pass_fits o f.0,
    record {
      mine = same_owner (made_of o.seen) f.1.was_made f.1.mine;
      was_made = omega arith;
      entries = same (made_of o.seen) f.1.mine ∙ f.1.entries;
    },
    f.2,
  )
  other_fits word word' holder holder' keep (Knows h) f = before_trans h log log' f longer
  other_fits word word' holder holder' keep (Meets o h) f = (pass_fits o f.0, before_trans h log log' f.1 longer)
  other_fits word word' holder holder' keep (Closes h) f = let k = keep f.taken f.holds in record { taken = k.0; holds = k.1; whole = f.whole ∙ sym k.2 }
  other_fits word word' holder holder' keep (Checks h o) f = let k = keep f.0.taken f.0.holds in (record { taken = k.0; holds = k.1; whole = f.0.whole ∙ sym k.2 }, f.1, f.2)

module _ {K : Type 0} (history : K → Log) (IsLawful : Log → Type 0) (key : Log) where
  abbrev St : Type 0
  St = State (Option K) Role

  abbrev M : Type 0
  M = Me (Option K) Role

  abbrev Rule : St → Type 0
  Rule = Kept history IsLawful key

  abbrev word : St → ℕ
  word s = get_or s.words 0 0

  -- the rule after a step that changes the history
  kept_as : (s : St) (r : Rule s) (ws : List ℕ) (x : ℕ) (homes : List (maybe.Option (Option K))) (views : List Role) (log : Log) (holder : ℕ) (owner : ℕ → ℕ)
      → length ws ≡ 1 → get_or ws 0 0 ≡ x → IsLawful log → Begins r.log log → made_of r.log ≤ made_of log → (x ≡ 0 → IsHome history IsLawful log homes)
      → ((j : ℕ) (v : Role) → get_elem? views j ≡ some v → Fits key log x holder owner j v) → ((p : ℕ) → made_of log < p → own p log ≡ own p key)
      → Rule record { words = ws; homes = homes; views = views }
  kept_as s r ws x homes views log holder owner one is lawful longer more home each unmade = let made = r.more_made in record {
    log = log;
    holder = holder;
    owner = owner;
    one_word = one;
    lawful = lawful;
    started = before_trans key r.log log r.started longer;
    more_made = omega arith;
    at_home = λ z. home (sym is ∙ z);
    each_seat = subst (λ (z : ℕ). (j : ℕ) (v : Role) → get_elem? views j ≡ some v → Fits key log z holder owner j v) (sym is) each;
    not_made = unmade;
  }

  -- the same where the history stays
  kept_still : (s : St) (r : Rule s) (ws : List ℕ) (x : ℕ) (homes : List (maybe.Option (Option K))) (views : List Role) (holder : ℕ) (owner : ℕ → ℕ)
      → length ws ≡ 1 → get_or ws 0 0 ≡ x → (x ≡ 0 → IsHome history IsLawful r.log homes)
      → ((j : ℕ) (v : Role) → get_elem? views j ≡ some v → Fits key r.log x holder owner j v)
      → Rule record { words = ws; homes = homes; views = views }
  kept_still s r ws x homes views holder owner one is home each = kept_as s r ws x homes views r.log holder owner one is r.lawful (before_self r.log) (omega arith) home each r.not_made

  -- a seat that does not step, where the history and the owners stay
  stays : (s : St) (r : Rule s) (x holder j : ℕ) → (word s ≢ 0 → r.holder ≡ j → (x ≢ 0) × (holder ≡ j)) → (v : Role) → get_elem? s.views j ≡ some v → Fits key r.log x holder r.owner j v
  stays s r x holder j keep v at = other_fits key r.log r.log r.owner r.owner j (before_self r.log) (omega arith) r.more_made (λ q _ e. e) (λ q _. refl) (word s) x r.holder holder
      (λ n e. let k = keep n e in (k.0, k.1, refl)) v (r.each_seat j v at)

  set_word : (s : St) (r : Rule s) (x : ℕ) → get_or (set s.words 0 x) 0 0 ≡ x
  set_word s r x = let one = r.one_word in get_or-set_same s.words 0 x 0 (omega arith)

  pub opens : (k : K) → history k ≡ key → IsLawful key → Rule (opening (0 ∷ []) (Some k ∷ []) (Deals 0 key))
  opens k is lawful = record {
    log = key;
    holder = 0;
    owner = λ _. 0;
    one_word = refl;
    lawful = lawful;
    started = before_self key;
    more_made = omega arith;
    at_home = λ _. (k, refl, is);
    each_seat = seats_more (Fits key key 0 0 (λ _. 0)) [] (Deals 0 key) record { begun = refl; mine = λ _ _ _. refl; entries = λ _ _ _. refl } (λ j v l e. absurd (omega arith));
    not_made = λ _ _. refl;
  }

  -- a pass takes the kernel where the word is 0, whatever it then makes of the word but 0
  takes_by : (f : ℕ → ℕ) → ((n : ℕ) → f n ≢ 0) → (st : Step (Option K)) (slots id : ℕ) (o : PassState) → Allows Rule slots id (Process o, []) 0 f (took history IsLawful st (Process o, []))
  takes_by f taken st slots id o s r wide at _ = let x : ℕ = f (word s) in dite (ℕ_discrete (word s) 0)
      (λ hit. let home = r.at_home hit in let k = home.0 in let f : IsPass key r.log r.owner id o = r.each_seat id (Process o) at in let w : Role = Takes (having_seen o r.log) in let act = takes 0 (Some k) in (
        w,
        act,
        home.1,
        kept_still s r (set s.words 0 x) x (set s.homes 0 none) (set s.views id w) id r.owner (length-set s.words 0 x ∙ r.one_word) (set_word s r x) (λ z. absurd (taken (word s) z))
            (seats_stay (Fits key r.log x id r.owner) s.views id w (record { mine = f.mine; was_made = f.was_made; begun = f.begun; has_seen = before_self r.log; entries = refl }, record { taken = taken (word s); holds = refl; whole = refl })
            (λ j v other e. stays s r x id j (λ t _. absurd (t hit)) v e)),
        subst (λ b. MatchBool b (Got history IsLawful (Process o, []) (w, (0, Some k) ∷ [])) (◌≡◌ {A = M} (w, (0, Some k) ∷ []) (Process o, []))) (sym (eq-eqb (word s) 0 hit)) (
          k,
          (λ i. (Takes (having_seen o (sym home.2 i)), (0, Some k) ∷ [])),
          subst (Learns IsLawful o) (sym home.2) record {
            lawful = r.lawful;
            before = f.has_seen;
            entries = f.entries;
            was_made = f.was_made;
            not_made = λ p l. r.not_made p l ∙ ap (own p) (sym f.begun);
          },
        ),
      ))
      (λ miss. let w : Role = Process o in (
        w,
        keeps,
        tt,
        kept_still s r (set s.words 0 x) x s.homes (set s.views id w) r.holder r.owner (length-set s.words 0 x ∙ r.one_word) (set_word s r x) (λ z. absurd (taken (word s) z))
            (seats_stay (Fits key r.log x r.holder r.owner) s.views id w (r.each_seat id w at) (λ j v _ e. stays s r x r.holder j (λ _ holds. (taken (word s), holds)) v e)),
        subst (λ b. MatchBool b (Got history IsLawful (Process o, []) (w, [])) (◌≡◌ {A = M} (w, []) (Process o, []))) (sym (ne_eqb (word s) 0 miss)) refl,
      ))

  taken_or_as_before : (n : ℕ) → either (eqb n 0) 1 n ≢ 0
  taken_or_as_before n = dite (ℕ_discrete n 0) (λ hit. subst (λ b. either b 1 n ≢ 0) (sym (eq-eqb n 0 hit)) (λ z. omega arith)) (λ miss. subst (λ b. either b 1 n ≢ 0) (sym (ne_eqb n 0 miss)) miss)

  pub gives_kernel : (slots id : ℕ) (o : PassState) (k : K) → slots ≡ 1 → IsLawful (history k) → Follows o.pid o.seen (history k)
      → Allows Rule slots id (Takes o, (0, Some k) ∷ []) 0 (λ _. 0) (gave history (step slots 0 0 0 none) (Takes o, (0, Some k) ∷ []))
  gives_kernel slots id o k one lawful follows s r wide at _ = let f = r.each_seat id (Takes o) at in let log : Log = history k in let w : Role = Process (having_seen o log) in
      let next : Follows o.pid r.log log = subst (λ x. Follows o.pid x log) f.1.whole follows in let here : 0 < length s.homes = omega arith in let more = next.more_made in let made = f.0.was_made in (
        w,
        gives,
        tt,
        kept_as s r (set s.words 0 0) 0 (set s.homes 0 (some (Some k))) (set s.views id w) log r.holder r.owner (length-set s.words 0 0 ∙ r.one_word) (set_word s r 0) lawful next.longer next.more_made
            (λ _. (k, set_here s.homes 0 (some (Some k)) here, refl))
            (seats_stay (Fits key log 0 r.holder r.owner) s.views id w record { mine = f.0.mine; was_made = omega arith; begun = f.0.begun; has_seen = before_self log; entries = refl }
            (λ j v other e. other_fits key r.log log r.owner r.owner j next.longer next.more_made r.more_made (λ _ _ q. q) (λ q is. next.others q (λ same. other (sym is ∙ (ap r.owner same ∙ f.0.mine))))
            (word s) 0 r.holder r.holder (λ _ holds. absurd (other (sym holds ∙ f.1.holds))) v (r.each_seat j v e)))
            (λ p l. next.others p (λ e. omega arith) ∙ r.not_made p (omega arith)),
        refl,
      )

  pub closes_kernel : (slots : ℕ) → Arrives Rule slots 0 (λ _. 1) (closed history IsLawful (step slots 0 1 0 none) (Deals 0 key, []))
  closes_kernel slots s r wide _ = dite (ℕ_discrete (word s) 0)
      (λ hit. let home = r.at_home hit in let k = home.0 in let w : Role = Closes r.log in let n : ℕ = length s.views in (
        w,
        takes 0 (Some k),
        home.1,
        kept_still s r (set s.words 0 1) 1 (set s.homes 0 none) (s.views ++ w ∷ []) n r.owner (length-set s.words 0 1 ∙ r.one_word) (set_word s r 1) (λ z. absurd (omega arith))
            (seats_more (Fits key r.log 1 n r.owner) s.views w record { taken = λ z. omega arith; holds = refl; whole = refl } (λ j v _ e. stays s r 1 n j (λ taken _. absurd (taken hit)) v e)),
        subst (λ b. MatchBool b ((k : K) × (◌≡◌ {A = M} (w, (0, Some home.0) ∷ []) (Closes (history k), (0, Some k) ∷ [])) × IsLawful (history k)) (Unit {0})) (sym (eq-eqb (word s) 0 hit))
            (k, (λ i. (Closes (sym home.2 i), (0, Some k) ∷ [])), subst IsLawful (sym home.2) r.lawful),
      ))
      (λ miss. let w : Role = Nobody in (
        w,
        keeps,
        tt,
        kept_still s r (set s.words 0 1) 1 s.homes (s.views ++ w ∷ []) r.holder r.owner (length-set s.words 0 1 ∙ r.one_word) (set_word s r 1) (λ z. absurd (omega arith))
            (seats_more (Fits key r.log 1 r.holder r.owner) s.views w tt (λ j v _ e. stays s r 1 r.holder j (λ _ holds. (λ z. omega arith, holds)) v e)),
        subst (λ b. MatchBool b ((k : K) × (◌≡◌ {A = M} (w, []) (Closes (history k), (0, Some k) ∷ [])) × IsLawful (history k)) (Unit {0})) (sym (ne_eqb (word s) 0 miss)) tt,
      ))

  pub checks : (slots id : ℕ) (h : Log) (o : PassState) (cs : List (ℕ × Option K)) → Allows Rule slots id (Checks h o, cs) 0 (λ n. n) (checked (step slots 0 0 0 none) (Checks h o, cs))
  checks slots id h o cs s r wide at _ = let f = r.each_seat id (Checks h o) at in let w : Role = Closes h in (
    w,
    keeps,
    tt,
    kept_still s r (set s.words 0 (word s)) (word s) s.homes (set s.views id w) r.holder r.owner (length-set s.words 0 (word s) ∙ r.one_word) (set_word s r (word s)) r.at_home
        (seats_stay (Fits key r.log (word s) r.holder r.owner) s.views id w f.0 (λ j v _ e. r.each_seat j v e)),
    (refl, (f.1, f.2)),
  )

  pub collects : (id other : ℕ) (h : Log) (o : PassState) → Joins Rule id (Closes h) other (Process o) (Checks h o) Nobody
  collects id other h o s r at apart there = let was = sym (set_else s.views id other (Checks h o) apart) ∙ there in let f = r.each_seat id (Closes h) at in let g : IsPass key r.log r.owner other o = r.each_seat other (Process o) was in
      kept_still s r s.words (word s) s.homes (set (set s.views id (Checks h o)) other Nobody) r.holder r.owner r.one_word refl r.at_home
      (seats_stay (Fits key r.log (word s) r.holder r.owner) (set s.views id (Checks h o)) other Nobody tt
      (λ j v _ e. seats_stay (Fits key r.log (word s) r.holder r.owner) s.views id (Checks h o)
      (f, subst (Begins o.seen) (sym f.whole) g.has_seen, ap (own o.pid) f.whole ∙ g.entries) (λ i u _ d. r.each_seat i u d) j v e))

  pub deals : (id next : ℕ) (h : Log) → next ≤ made_of key → Splits Rule id (Deals next h) (Deals (next + 1) h) (Process (pass_state next h h))
  deals id next h near s r at = let more = r.more_made in let f = r.each_seat id (Deals next h) at in let vs : List Role = set s.views id (Deals (next + 1) h) in let n : ℕ = length vs in
      let owner : ℕ → ℕ = λ q. cond (eqb q next) n (r.owner q) in
      let here : r.owner next ≡ id = f.mine next (omega arith) near in
      let else_same = λ (q : ℕ) (ne : q ≢ next). let e : owner q ≡ r.owner q = ap (λ b. cond b n (r.owner q)) (ne_eqb q next ne) in e in
      kept_still s r s.words (word s) s.homes (vs ++ Process (pass_state next h h) ∷ []) r.holder owner r.one_word refl r.at_home
      (seats_more (Fits key r.log (word s) r.holder owner) vs (Process (pass_state next h h))
      record {
        mine = ap (λ b. cond b n (r.owner next)) (eq-eqb next next refl);
        was_made = omega arith;
        begun = f.begun;
        has_seen = subst (λ x. Begins x r.log) (sym f.begun) r.started;
        entries = f.entries next (omega arith) near ∙ ap (own next) (sym f.begun);
      }
      (λ j v _ e. seats_stay (Fits key r.log (word s) r.holder owner) s.views id (Deals (next + 1) h)
      record {
        begun = f.begun;
        mine = λ p l m. else_same p (λ e. omega arith) ∙ f.mine p (omega arith) m;
        entries = λ p l m. f.entries p (omega arith) m;
      }
      (λ i u other d. other_fits key r.log r.log r.owner owner i (before_self r.log) (omega arith) r.more_made (λ q _ is. else_same q (λ e. other (sym is ∙ (ap r.owner e ∙ here))) ∙ is) (λ q _. refl)
      (word s) (word s) r.holder r.holder (λ taken holds. (taken, holds, refl)) u (r.each_seat i u d)) j v e))

  -- the same for a seat of which only an equation is known
  pub takes_at : (slots id : ℕ) (m : M) (o : PassState) → m ≡ (Process o, []) → Allows Rule slots id m 0 (λ n. either (eqb n 0) 1 n) (took history IsLawful (step slots 0 0 1 none) m)
  takes_at slots id m o is = subst (λ (m : M). Allows Rule slots id m 0 (λ n. either (eqb n 0) 1 n) (took history IsLawful (step slots 0 0 1 none) m)) (sym is)
      (takes_by (λ n. either (eqb n 0) 1 n) taken_or_as_before (step slots 0 0 1 none) slots id o)

  -- the same where the word becomes that of one that is awaited
  pub awaits_at : (slots id : ℕ) (m : M) (o : PassState) → m ≡ (Process o, []) → Allows Rule slots id m 0 (λ _. 2) (took history IsLawful (step slots 0 2 0 none) m)
  awaits_at slots id m o is = subst (λ (m : M). Allows Rule slots id m 0 (λ _. 2) (took history IsLawful (step slots 0 2 0 none) m)) (sym is)
      (takes_by (λ _. 2) (λ _ z. omega arith) (step slots 0 2 0 none) slots id o)

  pub gives_at : (slots id : ℕ) (m : M) (o : PassState) (k : K) → m ≡ (Takes o, (0, Some k) ∷ []) → slots ≡ 1 → IsLawful (history k) → Follows o.pid o.seen (history k)
      → Allows Rule slots id m 0 (λ _. 0) (gave history (step slots 0 0 0 none) m)
  gives_at slots id m o k is one lawful follows = subst (λ (m : M). Allows Rule slots id m 0 (λ _. 0) (gave history (step slots 0 0 0 none) m)) (sym is) (gives_kernel slots id o k one lawful follows)

  pub deals_at : (id next : ℕ) (v : Role) (h : Log) → v ≡ Deals next h → next ≤ made_of key → Splits Rule id v (dealt_on v) (dealt v)
  deals_at id next v h is near = subst (λ v. Splits Rule id v (dealt_on v) (dealt v)) (sym is) (deals id next h near)

  pub collects_at : (id other : ℕ) (v w : Role) (h : Log) (o : PassState) → v ≡ Closes h → w ≡ Process o → Joins Rule id v other w (collected v w) Nobody
  collects_at id other v w h o is at = subst (λ (x : Role × Role). Joins Rule id x.0 other x.1 (collected x.0 x.1) Nobody) (λ i. (sym is i, sym at i)) (collects id other h o)

  pub checks_at : (slots id : ℕ) (m : M) (h : Log) (o : PassState) → m.0 ≡ Checks h o → Allows Rule slots id m 0 (λ n. n) (checked (step slots 0 0 0 none) m)
  checks_at slots id m h o is = subst (λ v. Allows Rule slots id (v, m.1) 0 (λ n. n) (checked (step slots 0 0 0 none) (v, m.1))) (sym is) (checks slots id h o m.1)

  pub closed_hit : (st : Step (Option K)) (m m' : M) (n : ℕ) → n ≡ 0 → closed history IsLawful st m n m' → (k : K) × (m' ≡ (Closes (history k), (0, Some k) ∷ [])) × IsLawful (history k)
  closed_hit st m m' n hit then = subst (λ b. MatchBool b ((k : K) × (m' ≡ (Closes (history k), (0, Some k) ∷ [])) × IsLawful (history k)) (Unit {0})) (eq-eqb n 0 hit) then

  pub gives_born : (slots id : ℕ) (o : PassState) (k : K) → slots ≡ 1 → IsLawful (history k) → Follows o.pid o.seen (history k) → made_of o.seen < made_of (history k)
      → Allows Rule slots id (Takes o, (0, Some k) ∷ []) 0 (λ _. 0) (gave_born history (step slots 0 0 0 none) (Takes o, (0, Some k) ∷ []))
  gives_born slots id o k one lawful follows new s r wide at _ = let f = r.each_seat id (Takes o) at in let log : Log = history k in let child : ℕ = made_of log in let w : Role = Bears (having_seen o log) in
      let next : Follows o.pid r.log log = subst (λ x. Follows o.pid x log) f.1.whole follows in let newer : made_of r.log < child = subst (λ x. made_of x < child) f.1.whole new in
      let here : 0 < length s.homes = omega arith in let mine = f.0.was_made in
      let owner : ℕ → ℕ = λ q. cond (eqb q child) id (r.owner q) in
      let else_same = λ (q : ℕ) (ne : q ≢ child). let e : owner q ≡ r.owner q = ap (λ b. cond b id (r.owner q)) (ne_eqb q child ne) in e in (
        w,
        gives,
        tt,
        kept_as s r (set s.words 0 0) 0 (set s.homes 0 (some (Some k))) (set s.views id w) log r.holder owner (length-set s.words 0 0 ∙ r.one_word) (set_word s r 0) lawful next.longer next.more_made
            (λ _. (k, set_here s.homes 0 (some (Some k)) here, refl))
            (seats_stay (Fits key log 0 r.holder owner) s.views id w (
              record { mine = else_same o.pid (λ e. omega arith) ∙ f.0.mine; was_made = omega arith; begun = f.0.begun; has_seen = before_self log; entries = refl },
              record { mine = ap (λ b. cond b id (r.owner child)) (eq-eqb child child refl); was_made = omega arith; entries = refl },
              λ e. omega arith,
            )
            (λ j v other e. other_fits key r.log log r.owner owner j next.longer next.more_made r.more_made (λ q l is. else_same q (λ e. omega arith) ∙ is) (λ q is. next.others q (λ same. other (sym is ∙ (ap r.owner same ∙ f.0.mine))))
            (word s) 0 r.holder r.holder (λ _ holds. absurd (other (sym holds ∙ f.1.holds))) v (r.each_seat j v e)))
            (λ p l. next.others p (λ e. omega arith) ∙ r.not_made p (omega arith)),
        refl,
      )

  pub gives_born_at : (slots id : ℕ) (m : M) (o : PassState) (k : K) → m ≡ (Takes o, (0, Some k) ∷ []) → slots ≡ 1 → IsLawful (history k) → Follows o.pid o.seen (history k) → made_of o.seen < made_of (history k)
      → Allows Rule slots id m 0 (λ _. 0) (gave_born history (step slots 0 0 0 none) m)
  gives_born_at slots id m o k is one lawful follows new = subst (λ (m : M). Allows Rule slots id m 0 (λ _. 0) (gave_born history (step slots 0 0 0 none) m)) (sym is) (gives_born slots id o k one lawful follows new)

  bears : (id : ℕ) (o : PassState) → Splits Rule id (Bears o) (Process o) (Process (pass_state (made_of o.seen) o.seen o.start))
  bears id o s r at = let f = r.each_seat id (Bears o) at in let vs : List Role = set s.views id (Process o) in let n : ℕ = length vs in let child : ℕ = made_of o.seen in
      let owner : ℕ → ℕ = λ q. cond (eqb q child) n (r.owner q) in
      let else_same = λ (q : ℕ) (ne : q ≢ child). let e : owner q ≡ r.owner q = ap (λ b. cond b n (r.owner q)) (ne_eqb q child ne) in e in
      kept_still s r s.words (word s) s.homes (vs ++ Process (pass_state child o.seen o.start) ∷ []) r.holder owner r.one_word refl r.at_home
      (seats_more (Fits key r.log (word s) r.holder owner) vs (Process (pass_state child o.seen o.start))
      record {
        mine = ap (λ b. cond b n (r.owner child)) (eq-eqb child child refl);
        was_made = f.1.was_made;
        begun = f.0.begun;
        has_seen = f.0.has_seen;
        entries = f.1.entries;
      }
      (λ j v _ e. seats_stay (Fits key r.log (word s) r.holder owner) s.views id (Process o)
      record {
        mine = else_same o.pid f.2 ∙ f.0.mine;
        was_made = f.0.was_made;
        begun = f.0.begun;
        has_seen = f.0.has_seen;
        entries = f.0.entries;
      }
      (λ i u other d. other_fits key r.log r.log r.owner owner i (before_self r.log) (omega arith) r.more_made (λ q _ is. else_same q (λ e. other (sym is ∙ (ap r.owner e ∙ f.1.mine))) ∙ is) (λ q _. refl)
      (word s) (word s) r.holder r.holder (λ taken holds. (taken, holds, refl)) u (r.each_seat i u d)) j v e))

  pub bears_at : (id : ℕ) (v : Role) (o : PassState) → v ≡ Bears o → Splits Rule id v (bore v) (born v)
  bears_at id v o is = subst (λ v. Splits Rule id v (bore v) (born v)) (sym is) (bears id o)

  copies : (id : ℕ) (o : PassState) → Splits Rule id (Process o) (Process o) (Knows o.seen)
  copies id o s r at = let f : IsPass key r.log r.owner id o = r.each_seat id (Process o) at in let vs : List Role = set s.views id (Process o) in
      kept_still s r s.words (word s) s.homes (vs ++ Knows o.seen ∷ []) r.holder r.owner r.one_word refl r.at_home
      (seats_more (Fits key r.log (word s) r.holder r.owner) vs (Knows o.seen) f.has_seen
      (λ j v _ e. seats_stay (Fits key r.log (word s) r.holder r.owner) s.views id (Process o) f (λ i u _ d. r.each_seat i u d) j v e))

  pub copies_at : (id : ℕ) (v : Role) (o : PassState) → v ≡ Process o → Splits Rule id v v (copied v)
  copies_at id v o is = subst (λ v. Splits Rule id v v (copied v)) (sym is) (copies id o)

  informs : (id other : ℕ) (o : PassState) (h : Log) → Joins Rule id (Process o) other (Knows h) (Meets o h) Nobody
  informs id other o h s r at apart there = let was = sym (set_else s.views id other (Meets o h) apart) ∙ there in let f : IsPass key r.log r.owner id o = r.each_seat id (Process o) at in let g : Begins h r.log = r.each_seat other (Knows h) was in
      kept_still s r s.words (word s) s.homes (set (set s.views id (Meets o h)) other Nobody) r.holder r.owner r.one_word refl r.at_home
      (seats_stay (Fits key r.log (word s) r.holder r.owner) (set s.views id (Meets o h)) other Nobody tt
      (λ j v _ e. seats_stay (Fits key r.log (word s) r.holder r.owner) s.views id (Meets o h) (f, g) (λ i u _ d. r.each_seat i u d) j v e))

  pub informs_at : (id other : ℕ) (v w : Role) (o : PassState) (h : Log) → v ≡ Process o → w ≡ Knows h → Joins Rule id v other w (informed v w) Nobody
  informs_at id other v w o h is at = subst (λ (x : Role × Role). Joins Rule id x.0 other x.1 (informed x.0 x.1) Nobody) (λ i. (sym is i, sym at i)) (informs id other o h)

  compares : (slots id : ℕ) (o : PassState) (h : Log) (cs : List (ℕ × Option K)) → Allows Rule slots id (Meets o h, cs) 0 (λ n. n) (compared (step slots 0 0 0 none) (Meets o h, cs))
  compares slots id o h cs s r wide at _ = let f = r.each_seat id (Meets o h) at in let w : Role = Process o in (
    w,
    keeps,
    tt,
    kept_still s r (set s.words 0 (word s)) (word s) s.homes (set s.views id w) r.holder r.owner (length-set s.words 0 (word s) ∙ r.one_word) (set_word s r (word s)) r.at_home
        (seats_stay (Fits key r.log (word s) r.holder r.owner) s.views id w f.0 (λ j v _ e. r.each_seat j v e)),
    (refl, (λ before. own_between o.pid o.seen h r.log before f.1 f.0.entries, before_linear o.seen h r.log f.0.has_seen f.1)),
  )

  pub compares_at : (slots id : ℕ) (m : M) (o : PassState) (h : Log) → m.0 ≡ Meets o h → Allows Rule slots id m 0 (λ n. n) (compared (step slots 0 0 0 none) m)
  compares_at slots id m o h is = subst (λ v. Allows Rule slots id (v, m.1) 0 (λ n. n) (compared (step slots 0 0 0 none) (v, m.1))) (sym is) (compares slots id o h m.1)

module _ {K : Type 0} (history : K → Log) (IsLawful : Log → Type 0) (st : Step (Option K)) (m m' : Me (Option K) Role) (o : PassState) (is : m ≡ (Process o, [])) (n : ℕ) where
  pub took_hit : n ≡ 0 → took history IsLawful st m n m' → (k : K) × (m' ≡ (Takes (having_seen o (history k)), (0, Some k) ∷ [])) × Learns IsLawful o (history k)
  took_hit hit then = subst (λ (z : Me (Option K) Role). Got history IsLawful z m') is (subst (λ b. MatchBool b (Got history IsLawful m m') (m' ≡ m)) (eq-eqb n 0 hit) then)

  pub took_miss : n ≢ 0 → took history IsLawful st m n m' → m' ≡ m
  took_miss miss then = subst (λ b. MatchBool b (Got history IsLawful m m') (m' ≡ m)) (ne_eqb n 0 miss) then

pub checked_all : {S : Type 0} (st : Step S) (m m' : Me S Role) (n : ℕ) (h : Log) (o : PassState) → m.0 ≡ Checks h o → checked st m n m' → (m' ≡ (Closes h, m.1)) × Begins o.seen h × (own o.pid h ≡ own o.pid o.seen)
checked_all st m m' n h o is then = let k = subst Checked is then.1 in (then.0 ∙ (λ i. (closing_on (is i), m.1)), k.0, k.1)
