-- Beginnings of histories, and the entries of one process.
use Rattle.std.proofs.Common.{◌≡◌, ℕ, List, [], ◌∷◌, ◌++◌, refl, sym, ◌∙◌, ap, true, false, Bool, ◌⊎◌, inl, inr, eqb, append-nil, append_assoc, length, arith, ◌+◌}
use Rattle.std.specs.Prelude.{if◌then◌else◌}
use Rattle.model.specs.Entries.{Entry}
use Rattle.model.specs.Forgetting.{Limit}
use Rattle.model.specs.Moments.{Moment, next, after_from, at_start}
use Rattle.model.specs.Legal.{ListsRun, LegalFrom, Legal, mine, IsBefore}
use Rattle.history_laws.specs.Beginnings.{BeforeIsAnOrder, OwnEntriesFollow, LegalityFollows}

through : (es fs gs : List Entry) → IsBefore es fs → IsBefore fs gs → IsBefore es gs
through es fs gs h g = (h.0 ++ g.0, g.1 ∙ ap (λ xs. xs ++ g.0) h.1 ∙ append_assoc es h.0 g.0)

head_or : Entry → List Entry → Entry
head_or d [] = d
head_or d (e ∷ es) = e

rest_of : List Entry → List Entry
rest_of [] = []
rest_of (e ∷ es) = es

same_head : (d e : Entry) (es fs : List Entry) → d ∷ es ≡ e ∷ fs → d ≡ e
unfolding head_or
same_head d e es fs h = ap (head_or d) h

same_rest : (d e : Entry) (es fs : List Entry) → d ∷ es ≡ e ∷ fs → es ≡ fs
unfolding rest_of
same_rest d e es fs h = ap rest_of h

none_left : (es : List Entry) (e : Entry) → [] ≡ e ∷ es → ⊥
none_left es e h = absurd cc

both : (es fs : List Entry) → IsBefore es fs → IsBefore fs es → es ≡ fs
both [] [] h g = refl
both [] (f ∷ fs) h g = absurd (none_left (fs ++ g.0) f g.1)
both (e ∷ es) [] h g = absurd (none_left (es ++ h.0) e h.1)
both (e ∷ es) (f ∷ fs) h g =
    let first : f ≡ e = same_head f e fs (es ++ h.0) h.1 in
    let rest : es ≡ fs = both es fs (h.0, same_rest f e fs (es ++ h.0) h.1) (g.0, same_rest e f es (fs ++ g.0) g.1) in
    ap (λ xs. e ∷ xs) rest ∙ ap (λ x. x ∷ fs) (sym first)

either : (es fs gs : List Entry) → IsBefore es gs → IsBefore fs gs → IsBefore es fs ⊎ IsBefore fs es
either [] fs gs h g = inl (fs, refl)
either (e ∷ es) [] gs h g = inr (e ∷ es, refl)
either (e ∷ es) (f ∷ fs) [] h g = absurd (none_left (es ++ h.0) e h.1)
either (e ∷ es) (f ∷ fs) (d ∷ gs) h g =
    let same : e ≡ f = sym (same_head d e gs (es ++ h.0) h.1) ∙ same_head d f gs (fs ++ g.0) g.1 in
    elim (either es fs gs (h.0, same_rest d e gs (es ++ h.0) h.1) (g.0, same_rest d f gs (fs ++ g.0) g.1)) [
      | inl b ↦ inl (b.0, ap (λ xs. f ∷ xs) b.1 ∙ ap (λ x. x ∷ (es ++ b.0)) (sym same))
      | inr b ↦ inr (b.0, ap (λ xs. e ∷ xs) b.1 ∙ ap (λ x. x ∷ (fs ++ b.0)) same)
    ]

pub before_is_an_order : BeforeIsAnOrder
before_is_an_order = record {
  itself = λ es. ([], sym (append-nil es));
  first = λ es. (es, refl);
  through = through;
  both = both;
  either = either;
}

mine_append : (pid : ℕ) (es fs : List Entry) → mine pid (es ++ fs) ≡ mine pid es ++ mine pid fs
mine_append pid [] fs = refl
mine_append pid (e ∷ es) fs = by (eqb e.pid pid) (mine_append pid es fs) where
  by : (b : Bool) → mine pid (es ++ fs) ≡ mine pid es ++ mine pid fs → (if b then e ∷ mine pid (es ++ fs) else mine pid (es ++ fs)) ≡ (if b then e ∷ mine pid es else mine pid es) ++ mine pid fs
  by true h = ap (λ xs. e ∷ xs) h
  by false h = h

pub own_entries_follow : OwnEntriesFollow
own_entries_follow = record {
  append = mine_append;
  before = λ pid es fs h. (mine pid h.0, ap (mine pid) h.1 ∙ mine_append pid es h.0);
}

after_append : (m : Moment) (es fs : List Entry) → after_from m (es ++ fs) ≡ after_from (after_from m es) fs
after_append m [] fs = refl
after_append m (e ∷ es) fs = after_append (next m e) es fs

pub entries_after : (m : Moment) (es : List Entry) → (after_from m es).entries ≡ m.entries + length es
entries_after m [] = omega arith
entries_after m (e ∷ es) = entries_after (next m e) es ∙ (let n = m.entries in omega arith)

-- at the end of a legal history the live lists run
lists_run : (limit : Limit) (m : Moment) (es : List Entry) → LegalFrom limit m es → ListsRun (after_from m es)
lists_run limit m [] legal = legal
lists_run limit m (e ∷ es) legal = lists_run limit (next m e) es legal.2

legal_rest : (limit : Limit) (m : Moment) (es fs : List Entry) → LegalFrom limit m (es ++ fs) → LegalFrom limit (after_from m es) fs
legal_rest limit m [] fs h = h
legal_rest limit m (e ∷ es) fs h = legal_rest limit (next m e) es fs h.2

legal_joined : (limit : Limit) (m : Moment) (es fs : List Entry) → LegalFrom limit m es → LegalFrom limit (after_from m es) fs → LegalFrom limit m (es ++ fs)
legal_joined limit m [] fs h g = g
legal_joined limit m (e ∷ es) fs h g = (h.0, h.1, legal_joined limit (next m e) es fs h.2 g)

pub legality_follows : LegalityFollows
unfolding Legal
legality_follows = record {
  moments = λ root setup es fs. after_append (at_start root setup) es fs;
  entries = λ root setup es. (let count : (after_from (at_start root setup) es).entries ≡ 0 + length es = entries_after (at_start root setup) es in omega arith);
  runs = λ root setup limit es legal. lists_run limit (at_start root setup) es legal;
  nothing = λ root setup limit q. refl;
  rest = λ root setup limit es fs h. legal_rest limit (at_start root setup) es fs h;
  joined = λ root setup limit es fs h g. legal_joined limit (at_start root setup) es fs h g;
}
