-- A part of a history behind those that were checked.
use Rattle.std.proofs.Common.{◌≡◌, ◌≢◌, ℕ, ◌+◌, ◌<◌, inr, List, [], ◌∷◌, ◌++◌, length, drop, Option, None, Some, refl, sym, ap, subst, ◌∙◌, arith, cond, Bool, true, false}
use Rattle.std.specs.List.{AllByRecursion}
use Rattle.std.specs.Cmp.{nat_cmp_total}
use Rattle.std.specs.Ordering.{is_eq, nat_cmp}
use Rattle.std.specs.FinMap.Entries.{find}
use Rattle.std.proofs.Math.Seq.{drop-append_seam}
use Rattle.std.proofs.lemmas.List.{drop_all, length-append}
use Rattle.model.specs.Entries.{Entry}
use Rattle.model.specs.Moments.{Setup}
use Rattle.model.proofs.Laws.{all_entries}
use Rattle.model.specs.FiniteMap.{FinMap, empty, entries, get, get-entries}
use Rattle.replay.specs.Checked.{AreHeld, AreThere}
use Rattle.replay.specs.Faults.{HoldsEntry}
use Rattle.model.specs.State.{Kernel}
use Rattle.replay.specs.Ran.{AreNext, Follows}
use Rattle.replay.specs.Windows.{CanKeep, CanSee, CanSeeAny, CanSeeEach, Shows}
use Rattle.replay.specs.declared.transaction.Transaction.{Transaction}
use Rattle.replay.specs.declared.transaction.Transaction.TheVariants.{Live, Doomed}
use Rattle.replay.specs.declared.window.Window.{Window}
use Rattle.replay.proofs.Longer.{all_earlier, follows_longer, holds_longer}
use Rattle.replay.proofs.Seen.{all_so, nothing_held}

-- an entry stands before the end
holds_low : (es : List Entry) (p : ℕ) (e : Entry) → HoldsEntry es p e → p < length es
holds_low es p e held = elim (Rattle.std.proofs.lemmas.Bool.cases_lt p (length es)) [
  | Rattle.std.proofs.Common.inl low ↦ low
  | inr past ↦ (let none : [] ≡ e ∷ held.rest = sym (drop_all p es past) ∙ held.here in absurd cc)
]

-- a part behind those so far, of which the kept ones stand where they stood
pub shows_more : (es more : List Entry) (w : Window) → w.part.now ≡ more → w.offset ≡ length es → AreHeld es w.kept.now → Shows (es ++ more) w
shows_more es more w part offset held = record {
  part = ap (λ n. drop n (es ++ more)) offset ∙ drop-append_seam es more ∙ sym part;
  within = (let all = length-append es more in omega (arith, offset, all));
  kept = λ position e is. holds_longer es more position e (held position e is) (holds_low es position e (held position e is));
}

-- what is kept can be looked at
pub sees_there : (w : Window) (t : Option Transaction) → AreThere w.kept.now t → CanSeeEach w t
sees_there w None there = tt
sees_there w (Some (Doomed flags)) there = tt
sees_there w (Some (Live flags positions)) there = all_so (λ p. get w.kept.now p ≢ None) (CanSee w) positions (λ p held. inr held) there

all_both : (P Q : ℕ → Type 0) (xs : List ℕ) → AllByRecursion P xs → AllByRecursion Q xs → AllByRecursion (λ x. P x × Q x) xs
all_both P Q [] ps qs = tt
all_both P Q (x ∷ xs) ps qs = ((ps.0, qs.0), all_both P Q xs ps.1 qs.1)

-- at the end each call of a live transaction can be kept
pub can_keep : (es : List Entry) (root : ℕ) (setup : Setup) (q : ℕ) (w : Window) (t : Option Transaction) → CanSeeEach w t → AreNext root setup es q (length es) t → CanKeep es w t
can_keep es root setup q w None sees next = tt
can_keep es root setup q w (Some (Doomed flags)) sees next = tt
can_keep es root setup q w (Some (Live flags positions)) sees next = all_both (CanSee w) (λ p. p < length es) positions sees (all_earlier es [] root setup q flags positions next)

-- what holds of each entry of a map holds of what a number stands for
found_in : {X : Type 0} (P : X → Type 0) (q : ℕ) (v : X) (es : List (ℕ × X)) → AllByRecursion (λ e. P e.1) es → find nat_cmp q es ≡ Some v → P v
found_in P q v [] all is = absurd cc
found_in {X = X} P q v (e ∷ es) all is = step (is_eq (nat_cmp q e.0)) (found_in P q v es all.1) is where
  step : (b : Bool) → (find nat_cmp q es ≡ Some v → P v) → cond b (Some e.1) (find nat_cmp q es) ≡ Some v → P v
  step true later is = subst P (cc is) all.0
  step false later is = later is

all_found : {X : Type 0} (P : X → Type 0) (m : FinMap nat_cmp X) (q : ℕ) (v : X) → AllByRecursion (λ e. P e.1) (entries m) → get m q ≡ Some v → P v
all_found P m q v all is = found_in P q v (entries m) all (sym (get-entries m q) ∙ is)

-- the whole history up to a part, and with it
pub first_is : (es more : List Entry) (root : ℕ) (setup : Setup) (count : ℕ) (k : Kernel) (kept : FinMap nat_cmp Transaction) → count ≡ length es → Follows root setup es (length es) k kept → Follows root setup (es ++ more) count k kept
first_is es more root setup count k kept is f = subst (λ n. Follows root setup (es ++ more) n k kept) (sym is) (follows_longer es more root setup k kept f)

pub last_is : (es more : List Entry) (root : ℕ) (setup : Setup) (count end : ℕ) (k : Kernel) (kept : FinMap nat_cmp Transaction) → count ≡ length es → end ≡ count + length more → Follows root setup (es ++ more) end k kept
    → (end ≡ length (es ++ more)) × Follows root setup (es ++ more) (length (es ++ more)) k kept
last_is es more root setup count end k kept is all f =
    let both = length-append es more in
    let there : end ≡ length (es ++ more) = omega (arith, is, all, both) in
    (there, subst (λ n. Follows root setup (es ++ more) n k kept) there f)

-- a part begins with what is kept
pub begins_part : (es more : List Entry) (w : Window) (m : FinMap nat_cmp Transaction) → w.part.now ≡ more → w.offset ≡ length es → AreHeld es w.kept.now → ((q : ℕ) → AreThere w.kept.now (get m q)) → Shows (es ++ more) w × CanSeeAny w m
begins_part es more w m part offset held there = (shows_more es more w part offset held, λ q. sees_there w (get m q) (there q))

-- and at its end each call of a live transaction can be kept
pub ends_part : (es : List Entry) (root : ℕ) (setup : Setup) (w : Window) (m : FinMap nat_cmp Transaction) → Shows es w → CanSeeAny w m → ((q : ℕ) → AreNext root setup es q (length es) (get m q)) → Shows es w × ((q : ℕ) → CanKeep es w (get m q))
ends_part es root setup w m shows sees next = (shows, λ q. can_keep es root setup q w (get m q) (sees q) (next q))

pub needs_all : (es : List Entry) (w : Window) (m : FinMap nat_cmp Transaction) (slots : List (ℕ × Transaction)) (kept : FinMap nat_cmp Entry) → Shows es w → slots ≡ entries m → ((q : ℕ) → CanKeep es w (get m q)) → kept ≡ empty
    → Shows es w × (AllByRecursion (λ s. CanKeep es w (Some s.1)) slots × AreHeld es kept)
needs_all es w m slots kept shows are needs none =
    (shows, (subst (AllByRecursion (λ s. CanKeep es w (Some s.1))) (sym are) (all_entries nat_cmp_total (λ q t. CanKeep es w (Some t)) m (λ q t is. subst (CanKeep es w) is (needs q))), nothing_held es kept none))

pub there_all : (kept : FinMap nat_cmp Entry) (m : FinMap nat_cmp Transaction) (slots : List (ℕ × Transaction)) → slots ≡ entries m → AllByRecursion (λ s. AreThere kept (Some s.1)) slots → (q : ℕ) → AreThere kept (get m q)
there_all kept m slots are all q = by (get m q) refl where
  by : (t : Option Transaction) → get m q ≡ t → AreThere kept t
  by None is = tt
  by (Some t) is = all_found (λ v. AreThere kept (Some v)) m q t (subst (AllByRecursion (λ s. AreThere kept (Some s.1))) are all) is
