-- Runs, moments and what passes, of a list and of its beginnings.
use Rattle.std.proofs.Common.{◌≡◌, ℕ, zero, suc, ◌≤◌, true, List, [], ◌∷◌, ◌++◌, take, drop, refl, sym, ap, subst, ◌∙◌, append_assoc, append-nil, arith}
use Rattle.model.specs.State.{Kernel}
use Rattle.model.specs.Steps.{Item, Run}
use Rattle.model.specs.Entries.{Entry, Executed}
use Rattle.model.specs.Moments.{Setup, Moment, status, next, after, after_from, at_start, start, run_by}
use Rattle.model.specs.Legal.{items, serial, serial_from}
use Rattle.model.specs.Suits.{AllSuit, suits}
use Rattle.model.specs.Passing.{Passes}
use Rattle.replay.proofs.Running.{items_append, run_append}

-- a run of two lists
pub record Split (k : Kernel) (first rest : List Item) (after : Kernel) : Type 0 where
  pub mid : Kernel
  pub before : Run k first mid
  pub behind : Run mid rest after

pub run_split : (k : Kernel) (first rest : List Item) (after : Kernel) → Run k (first ++ rest) after → Split k first rest after
run_split k [] rest after run = record { mid = k; before = refl; behind = run }
run_split k (it ∷ first) rest after run =
    let more = run_split run.0 first rest after run.2 in
    record { mid = more.mid; before = (run.0, run.1, more.before); behind = more.behind }

-- a run leads to one state
pub run_same : (k a b : Kernel) (its : List Item) → Run k its a → Run k its b → a ≡ b
run_same k a b [] r q = r ∙ sym q
run_same k a b (it ∷ its) r q = run_same r.0 a b its r.2 (subst (λ m. Run m its b) (q.1.changed ∙ sym r.1.changed) q.2)

pub run_calls_split : (k : Kernel) (pid : ℕ) (xs ys : List Executed) (after : Kernel) → Run k (items pid (xs ++ ys)) after → Split k (items pid xs) (items pid ys) after
run_calls_split k pid xs ys after run = run_split k (items pid xs) (items pid ys) after (subst (λ its. Run k its after) (items_append pid xs ys) run)

pub run_calls_append : (k mid l : Kernel) (pid : ℕ) (xs ys : List Executed) → Run k (items pid xs) mid → Run mid (items pid ys) l → Run k (items pid (xs ++ ys)) l
run_calls_append k mid l pid xs ys r q = subst (λ its. Run k its l) (sym (items_append pid xs ys)) (run_append k mid l (items pid xs) (items pid ys) r q)

pub after_append : (m : Moment) (xs ys : List Entry) → after_from m (xs ++ ys) ≡ after_from (after_from m xs) ys
after_append m [] ys = refl
after_append m (x ∷ xs) ys = after_append (next m x) xs ys

pub serial_append : (m : Moment) (xs ys : List Entry) → serial_from m (xs ++ ys) ≡ serial_from m xs ++ serial_from (after_from m xs) ys
serial_append m [] ys = refl
serial_append m (x ∷ xs) ys =
    let its : List Item = items x.pid (run_by (status m x.pid) x.op x.reply x.chosen) in
    ap (λ is. its ++ is) (serial_append (next m x) xs ys) ∙ sym (append_assoc its (serial_from (next m x) xs) (serial_from (after_from (next m x) xs) ys))

suit_split : (m : Moment) (xs ys : List Entry) → AllSuit m (xs ++ ys) → AllSuit m xs × AllSuit (after_from m xs) ys
suit_split m [] ys h = (tt, h)
suit_split m (x ∷ xs) ys h = let rest = suit_split (next m x) xs ys h.1 in ((h.0, rest.0), rest.1)

module _ (root : ℕ) (setup : Setup) where
  -- what passes, of two lists
  record Parts (xs ys : List Entry) (l : Kernel) : Type 0 where
    suit : AllSuit (at_start root setup) xs × AllSuit (after root setup xs) ys
    run : Split (start root setup) (serial root setup xs) (serial_from (after root setup xs) ys) l

  parts : (xs ys : List Entry) (h : Passes root setup (xs ++ ys)) → Parts xs ys h.exists.committed
  parts xs ys h = record {
    suit = suit_split (at_start root setup) xs ys h.suit;
    run = run_split (start root setup) (serial root setup xs) (serial_from (after root setup xs) ys) h.exists.committed (subst (λ its. Run (start root setup) its h.exists.committed) (serial_append (at_start root setup) xs ys) h.exists.run);
  }

  -- a beginning passes too
  pub passes_before : (xs ys : List Entry) → Passes root setup (xs ++ ys) → Passes root setup xs
  passes_before xs ys h =
      let both = parts xs ys h in
      record { suit = both.suit.0; exists = record { committed = both.run.mid; run = both.run.before } }

  pub same_committed : (xs : List Entry) (h g : Passes root setup xs) → h.exists.committed ≡ g.exists.committed
  same_committed xs h g = run_same (start root setup) h.exists.committed g.exists.committed (serial root setup xs) h.exists.run g.exists.run

  -- one entry more passes
  pub record OneMore (xs : List Entry) (e : Entry) (k : Kernel) : Type 0 where
    pub suit : suits (status (after root setup xs) e.pid) e.op e.reply ≡ true
    pub later : Kernel
    pub run : Run k (items e.pid (run_by (status (after root setup xs) e.pid) e.op e.reply e.chosen)) later

  pub one_more : (xs : List Entry) (e : Entry) (h : Passes root setup xs) → Passes root setup (xs ++ e ∷ []) → OneMore xs e h.exists.committed
  one_more xs e h g =
      let both = parts xs (e ∷ []) g in
      let m : Moment = after root setup xs in
      let its : List Item = items e.pid (run_by (status m e.pid) e.op e.reply e.chosen) in
      record {
        suit = both.suit.1.0;
        later = g.exists.committed;
        run = subst (λ k. Run k its g.exists.committed) (run_same (start root setup) both.run.mid h.exists.committed (serial root setup xs) both.run.before h.exists.run)
            (subst (λ is. Run both.run.mid is g.exists.committed) (append-nil its) both.run.behind);
      }

pub take_next : (es : List Entry) (at : ℕ) (e : Entry) (rest : List Entry) → drop at es ≡ e ∷ rest → take (suc at) es ≡ take at es ++ e ∷ []
take_next [] zero e rest h = absurd cc
take_next (d ∷ es) zero e rest h = cc
take_next [] (suc at) e rest h = absurd cc
take_next (d ∷ es) (suc at) e rest h = ap (λ (xs : List Entry). d ∷ xs) (take_next es at e rest h)

-- a beginning begins each longer one
pub record Begins {A : Type 0} (xs ys : List A) : Type 0 where
  pub rest : List A
  pub is : ys ≡ xs ++ rest

pub take_begins : {A : Type 0} (xs : List A) (a b : ℕ) → a ≤ b → Begins (take a xs) (take b xs)
take_begins xs zero b h = record { rest = take b xs; is = refl }
take_begins xs (suc a) zero h = absurd (omega arith)
take_begins [] (suc a) (suc b) h = record { rest = []; is = refl }
take_begins (x ∷ xs) (suc a) (suc b) h = let more = take_begins xs a b (omega arith) in record { rest = more.rest; is = ap (λ ys. x ∷ ys) more.is }

pub passes_take : (root : ℕ) (setup : Setup) (es : List Entry) (a b : ℕ) → a ≤ b → Passes root setup (take b es) → Passes root setup (take a es)
passes_take root setup es a b h g =
    let more = take_begins es a b h in
    passes_before root setup (take a es) more.rest (subst (λ (xs : List Entry). Passes root setup xs) more.is g)
