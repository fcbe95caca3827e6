-- What a step adds to the entries since a request began.
use Rattle.std.proofs.Common.{◌≡◌, ◌⊎◌, ℕ, Bool, true, false, List, [], ◌∷◌, ◌++◌, inl, inr, refl, sym, ap, subst, ◌∙◌, append_assoc}
use Rattle.std.proofs.lemmas.List.{append-nil}
use Rattle.std.specs.Prelude.{MatchBool}
use Rattle.std.specs.List.{AllByRecursion}
use Rattle.ids.specs.declared.entry.Entry.{Entry}
use Rattle.history.specs.Log.{Log}
use Rattle.model.specs.Entries.{Op, Reply}
use Rattle.machine.specs.Shown.{Shown}
use Rattle.machine.specs.Steps.{Added, IsStep, entry_of, forgetting, is_no_entry}
use Rattle.course.specs.Course.{IsTaken}
use Rattle.course.specs.Hands.{IsSince}

-- nothing was done
pub since_same : (pid : ℕ) (es : List Entry) → IsSince pid es es
since_same pid es = record { more = []; is = sym (append-nil es); by = tt }

both : (pid : ℕ) (es fs : List Entry) → AllByRecursion (λ (e : Entry). e.pid ≡ pid) es → AllByRecursion (λ (e : Entry). e.pid ≡ pid) fs → AllByRecursion (λ (e : Entry). e.pid ≡ pid) (es ++ fs)
both pid [] fs h k = k
both pid (e ∷ es) fs h k = (h.0, both pid es fs h.1 k)

-- one after the other
pub since_then : (pid : ℕ) (a b c : List Entry) → IsSince pid a b → IsSince pid b c → IsSince pid a c
since_then pid a b c h k = record {
  more = h.more ++ k.more;
  is = k.is ∙ ap (λ (es : List Entry). es ++ k.more) h.is ∙ append_assoc a h.more k.more;
  by = both pid h.more k.more h.by k.by;
}

by_entry : (old new : Shown) (pid : ℕ) (op : Op) (reply : Reply) (b : Bool) → MatchBool b (new ≡ old) (Added old.log new.log pid op reply) → IsSince pid old.log.entries new.log.entries
by_entry old new pid op reply true e = subst (λ (v : Shown). IsSince pid old.log.entries v.log.entries) (sym e) (since_same pid old.log.entries)
by_entry old new pid op reply false a = record {
  more = entry_of pid op reply a.chosen a.doomed ∷ [];
  is = ap (λ (l : Log). l.entries) a.is;
  by = (refl, tt);
}

stepped : (old new : Shown) (pid : ℕ) (op : Op) (reply : Reply) → IsStep old new pid op reply → IsSince pid old.log.entries new.log.entries
stepped old new pid op reply s = by_entry old new pid op reply (is_no_entry reply) s.entry

-- what one step of a process adds is of that process
pub since_taken : (old new : Shown) (pid : ℕ) (op : Op) (reply : Reply) → IsTaken old new pid op reply → IsSince pid old.log.entries new.log.entries
since_taken old new pid op reply (inl t) = stepped old new pid op reply t
since_taken old new pid op reply (inr t) = stepped (forgetting old) new pid op reply t

-- what was kept of the history was forgotten, or it was not
pub if_forgotten : (r : Bool) {old new : Shown} → (r ≡ true → new ≡ forgetting old) → (r ≡ false → new ≡ old) → (new ≡ old) ⊎ (new ≡ forgetting old)
if_forgotten true all none = inr (all refl)
if_forgotten false all none = inl (none refl)

pub taken_after : {old mid new : Shown} (pid : ℕ) (op : Op) (reply : Reply) → (mid ≡ old) ⊎ (mid ≡ forgetting old) → IsStep mid new pid op reply → IsTaken old new pid op reply
taken_after {new = new} pid op reply (inl same) h = inl (subst (λ (v : Shown). IsStep v new pid op reply) same h)
taken_after {new = new} pid op reply (inr same) h = inr (subst (λ (v : Shown). IsStep v new pid op reply) same h)
