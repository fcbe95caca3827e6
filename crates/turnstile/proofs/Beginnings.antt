-- Beginnings of histories, and what stays of a process's own entries.
use Rattle.std.proofs.Common.{◌≡◌, ◌≢◌, ℕ, ◌⊎◌, inl, inr, List, [], ◌∷◌, ◌++◌, length, length-append, refl, ap, sym, ◌∙◌, eq-eqb, ne_eqb, append-nil, arith}
use Rattle.std.specs.Prelude.{if◌then◌else◌}
use Rattle.history.specs.Log.{Log}
use Rattle.model.specs.Entries.{Op, Reply, Entry}
use Rattle.model.specs.Legal.{mine}
use Rattle.machine.specs.Steps.{Added}
use Rattle.history_laws.proofs.Laws.{before_is_an_order, own_entries_grow, own_entries_follow}
use Rattle.turnstile.specs.Histories.{Begins, own}

pub before_self : (a : Log) → Begins a a
before_self a = record { priorities = refl; limit = refl; forgotten = refl; bounds = refl; entries = before_is_an_order.itself a.entries }

pub before_trans : (a b c : Log) → Begins a b → Begins b c → Begins a c
before_trans a b c p q = record {
  priorities = q.priorities ∙ p.priorities;
  limit = q.limit ∙ p.limit;
  forgotten = q.forgotten ∙ p.forgotten;
  bounds = q.bounds ∙ p.bounds;
  entries = before_is_an_order.through a.entries b.entries c.entries p.entries q.entries;
}

-- of two beginnings of one history one begins the other
pub before_linear : (a b c : Log) → Begins a c → Begins b c → Begins a b ⊎ Begins b a
before_linear a b c p q = elim (before_is_an_order.either a.entries b.entries c.entries p.entries q.entries) [
  | inl t ↦ inl record { priorities = sym q.priorities ∙ p.priorities; limit = sym q.limit ∙ p.limit; forgotten = sym q.forgotten ∙ p.forgotten; bounds = sym q.bounds ∙ p.bounds; entries = t }
  | inr t ↦ inr record { priorities = sym p.priorities ∙ q.priorities; limit = sym p.limit ∙ q.limit; forgotten = sym p.forgotten ∙ q.forgotten; bounds = sym p.bounds ∙ q.bounds; entries = t }
]

nothing_more : (zs xs ys : List Entry) → (zs ++ xs) ++ ys ≡ zs → zs ++ xs ≡ zs
nothing_more zs [] ys e = append-nil zs
nothing_more zs (x ∷ xs) ys e = absurd (omega (arith, ap length e, length-append (zs ++ x ∷ xs) ys, length-append zs (x ∷ xs)))

-- what is all of a process's entries in the whole is all of them in between
pub own_between : (p : ℕ) (a b c : Log) → Begins a b → Begins b c → own p c ≡ own p a → own p b ≡ own p a
own_between p a b c ab bc e = let f : List Entry → List Entry = mine p in
    let one : own p b ≡ own p a ++ f ab.entries.0 = ap f ab.entries.1 ∙ own_entries_follow.append p a.entries ab.entries.0 in
    let two : own p c ≡ own p b ++ f bc.entries.0 = ap f bc.entries.1 ∙ own_entries_follow.append p b.entries bc.entries.0 in
    one ∙ nothing_more (own p a) (f ab.entries.0) (f bc.entries.0) (sym (ap (λ w. w ++ f bc.entries.0) one) ∙ (sym two ∙ e))

module _ (old new : Log) (pid : ℕ) (op : Op) (reply : Reply) (added : Added old new pid op reply) where
  abbrev pub last : Entry
  last = record { pid = pid; op = op; reply = reply; chosen = added.chosen; doomed = added.doomed }

  pub before_added : Begins old new
  before_added = record { priorities = ap (λ (l : Log). l.priorities) added.is; limit = ap (λ (l : Log). l.limit) added.is; forgotten = ap (λ (l : Log). l.forgotten) added.is; bounds = ap (λ (l : Log). l.bounds) added.is; entries = (last ∷ [], ap (λ (l : Log). l.entries) added.is) }

  pub own_added : own pid new ≡ own pid old ++ last ∷ []
  own_added = ap (own pid) added.is ∙ (own_entries_grow pid old.entries last ∙ ap (λ b. own pid old ++ (if b then last ∷ [] else [])) (eq-eqb pid pid refl))

  pub own_other : (p : ℕ) → p ≢ pid → own p new ≡ own p old
  own_other p not = ap (own p) added.is ∙ (own_entries_grow p old.entries last ∙ (ap (λ b. own p old ++ (if b then last ∷ [] else [])) (ne_eqb pid p (λ e. not (sym e))) ∙ append-nil (own p old)))
