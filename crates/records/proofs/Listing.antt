-- The entries that are written, as a process enters the users of an aspect or leaves them.
use Rattle.std.proofs.Common.{◌≡◌, ◌∙◌, sym, refl, ap, ℕ, Bool, true, false, cond, not, ◌&&◌, ◌||◌, ◌==◌, List, [], ◌∷◌, ◌++◌, if◌then◌else◌}
use Rattle.std.specs.Ordering.{is_eq}
use Rattle.std.specs.HashMap.{HashMap}
use Rattle.std.specs.BTreeSet.{BTreeSet, contains}
use Rattle.std.proofs.lemmas.Bool.{eq-eqb, false≢true}
use Rattle.ids.specs.Order.{aspect_cmp}
use Rattle.model.specs.Aspects.{Aspect, Entry, Names, Size, Block, Links, Ends, Offset, Front, Back}
use Rattle.model.specs.Aspects.{Target, Rights}
use Rattle.model.specs.Steps.{Touch}
use Rattle.records.specs.Codes.{is_touch}
use Rattle.records.specs.Groups.{among, with_pid, without_pid}
use Rattle.records.specs.Index.{users_in, users_on, holds, is_written_entry}
use Rattle.records.specs.Marks.{mark_of}
use Rattle.records.specs.Ranges.{touch_on}
use Rattle.records.specs.declared.index.Index.{Index}
use Rattle.records.specs.declared.mark.Mark.{Mark}
use Rattle.records.specs.declared.users.Users.{Users}
use Rattle.records.proofs.Exact.{touch_from_tied}
use Rattle.records.proofs.Aspects.{aspect_from_tied}
use Rattle.records.proofs.Indexing.{Enters, Leaves, left_test}

-- each entry that somebody writes is listed
abbrev Lists : Index → Type 0
Lists s = (m : Mark) → is_written_entry m.touch.aspect m.touch.write ≡ true → holds s m ≡ true → contains aspect_cmp s.written m.touch.aspect ≡ true

-- what was among the entries still is
abbrev pub Keeps : BTreeSet Aspect → BTreeSet Aspect → Type 0
Keeps before after = (a : Aspect) → contains aspect_cmp before a ≡ true → contains aspect_cmp after a ≡ true

pub listed_entered : (s n : Index) (t : Touch) (p : ℕ) → Lists s → Enters p t s n → Keeps s.written n.written → (is_written_entry t.aspect t.write ≡ true → contains aspect_cmp n.written t.aspect ≡ true) → Lists n
listed_entered s n t p listed enters keeps own m e h = by (is_touch t m.touch) refl where
  by : (b : Bool) → is_touch t m.touch ≡ b → contains aspect_cmp n.written m.touch.aspect ≡ true
  by true k =
      let same = touch_from_tied t m.touch k in
      ap (λ (v : Touch). contains aspect_cmp n.written v.aspect) (sym same) ∙ own (ap (λ (v : Touch). is_written_entry v.aspect v.write) same ∙ e)
  by false k = keeps m.touch.aspect (listed m e (sym (ap (λ b. among m.pid (cond b (with_pid p (users_on s m.touch)) (users_on s m.touch))) k) ∙ sym (ap (among m.pid) (enters m.touch)) ∙ h))

-- where the process was there already
pub listed_again : (s n : Index) (t : Touch) (p : ℕ) → among p (users_on s t) ≡ true → Enters p t s n → Keeps s.written n.written → Lists s → Lists n
listed_again s n t p there enters keeps listed = listed_entered s n t p listed enters keeps (λ e. keeps t.aspect (listed (mark_of p t) e there))

-- where the users are the same
pub listed_same : (s n : Index) → ((u : Touch) → users_on n u ≡ users_on s u) → Keeps s.written n.written → Lists s → Lists n
listed_same s n same keeps listed m e h = keeps m.touch.aspect (listed m e (sym (ap (among m.pid) (same m.touch)) ∙ h))

not_left : (b c : Bool) → cond b false c ≡ true → c ≡ true
not_left true c h = absurd (false≢true h)
not_left false c h = h

is_write : (a : Aspect) (w : Bool) → is_written_entry a w ≡ true → w ≡ true
is_write a true h = refl
is_write a false h = absurd (false≢true (sym (never a) ∙ h)) where
  never : (a : Aspect) → is_written_entry a false ≡ false
  never (Entry d x) = refl
  never (Names d) = refl
  never (Size n) = refl
  never (Block n i) = refl
  never (Links n) = refl
  never (Ends p) = refl
  never (Offset d) = refl
  never (Front p) = refl
  never (Back p) = refl
  never (Target p) = refl
  never (Rights p) = refl

pub listed_left : (s n : Index) (t : Touch) (p : ℕ) → Leaves p t s n → ((a : Aspect) → contains aspect_cmp s.written a ≡ true → (users_on n (touch_on a true) ≡ [] → ⊥) → contains aspect_cmp n.written a ≡ true) → Lists s → Lists n
listed_left s n t p leaves keeps listed m e h = keeps m.touch.aspect
    (listed m e (not_left (is_touch t m.touch && (p == m.pid)) (holds s m) (sym (left_test m.pid p (users_on s m.touch) (is_touch t m.touch)) ∙ sym (ap (among m.pid) (leaves m.touch)) ∙ h)))
    (λ none. false≢true (sym (ap (among m.pid) (ap (λ w. users_on n (touch_on m.touch.aspect w)) (is_write m.touch.aspect m.touch.write e) ∙ none)) ∙ h))

or_left : (a b : Bool) → (a || b) ≡ false → a ≡ false
or_left false b h = refl
or_left true b h = absurd (false≢true (sym h))

or_right : (a b : Bool) → (a || b) ≡ false → b ≡ false
or_right false b h = h
or_right true b h = absurd (false≢true (sym h))

pushed_out : (p : ℕ) (ps : List ℕ) → among p ps ≡ false → without_pid p (ps ++ p ∷ []) ≡ ps
pushed_out p [] h = ap (λ b. if not b then p ∷ [] else []) (eq-eqb p p refl)
pushed_out p (q ∷ ps) h =
    ap (λ b. if not b then q ∷ without_pid p (ps ++ p ∷ []) else without_pid p (ps ++ p ∷ [])) (or_left (q == p) (among p ps) h)
    ∙ ap (λ l. q ∷ l) (pushed_out p ps (or_right (q == p) (among p ps) h))

with_out : (p : ℕ) (ps : List ℕ) → among p ps ≡ false → without_pid p (with_pid p ps) ≡ ps
with_out p ps h = ap (λ b. without_pid p (if b then ps else ps ++ p ∷ [])) h ∙ pushed_out p ps h

-- a process that was not there is entered and goes again
pub undone : {S : Type 0} (s n o : HashMap Aspect Users S) (t : Touch) (p : ℕ) → among p (users_in s t) ≡ false → ((u : Touch) → users_in n u ≡ cond (is_touch t u) (with_pid p (users_in s u)) (users_in s u)) → ((u : Touch) → users_in o u ≡ cond (is_touch t u) (without_pid p (users_in n u)) (users_in n u)) → (u : Touch) → users_in o u ≡ users_in s u
undone s n o t p none enters leaves u =
    leaves u ∙ ap (λ ps. cond (is_touch t u) (without_pid p ps) ps) (enters u) ∙ by (is_touch t u) refl
  where
    by : (b : Bool) → is_touch t u ≡ b → cond b (without_pid p (cond b (with_pid p (users_in s u)) (users_in s u))) (cond b (with_pid p (users_in s u)) (users_in s u)) ≡ users_in s u
    by true k = with_out p (users_in s u) (ap (λ v. among p (users_in s v)) (sym (touch_from_tied t u k)) ∙ none)
    by false k = refl

-- an entry is taken out
pub unlisted : (before after : BTreeSet Aspect) (b : Aspect) (a : Aspect) → contains aspect_cmp after a ≡ cond (is_eq (aspect_cmp b a)) false (contains aspect_cmp before a) → contains aspect_cmp before a ≡ true → (a ≡ b → ⊥) → contains aspect_cmp after a ≡ true
unlisted before after b a updates there other = updates ∙ by (is_eq (aspect_cmp b a)) refl where
  by : (c : Bool) → is_eq (aspect_cmp b a) ≡ c → cond c false (contains aspect_cmp before a) ≡ true
  by true k = absurd (other (sym (aspect_from_tied b a k)))
  by false k = there

-- where nobody uses anything, no entry has to be listed
pub listed_cleared : (n : Index) → ((u : Touch) → users_on n u ≡ []) → Lists n
listed_cleared n none m e h = absurd (false≢true (sym (ap (among m.pid) (none m.touch)) ∙ h))
