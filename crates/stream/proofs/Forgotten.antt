-- What is forgotten, and what a checker has checked.
use Rattle.std.proofs.Common.{◌≡◌, ℕ, ◌+◌, ◌-◌, ◌<◌, ◌≤◌, ◌^◌, ◌↔◌, Bool, true, false, List, [], ◌∷◌, ◌++◌, Option, Some, None, Result, length, take, drop, get_or, refl, ap, ap₂, sym, ◌∙◌, subst, arith, append-nil, inl, inr, slice_get}
use Rattle.std.specs.Prelude.{sum}
use Rattle.std.proofs.Math.Seq.{drop-append-add}
use Rattle.std.proofs.lemmas.List.{drop_all, length-append, length-drop, length-take, take-append-drop, take-append-le, take_all, get_or-drop, get_or_at}
use Rattle.std.proofs.lemmas.List.Sums.{sum_by-append}
use Rattle.std.proofs.lemmas.Option.{get_or_from_slice_get, slice_get-get_or}
use Rattle.history.specs.Log.{Log, all_forgotten, kept}
use Rattle.ids.specs.declared.call.Op.{Op}
use Rattle.ids.specs.declared.entry.Entry.{Entry}
use Rattle.machine.specs.Shown.{Shown, Kept, setup_of}
use Rattle.machine.specs.Steps.{forgetting, with_entry}
use Rattle.replay.specs.Checked.{IsFaultFor}
use Rattle.replay.specs.SoFar.{Checked, with_more}
use Rattle.replay.specs.declared.checking.CheckFault.{CheckFault}
use Rattle.replay.specs.declared.checking.CheckFault.TheVariants as fault
use Rattle.script.specs.declared.read.Line.{Line}
use Rattle.script.specs.declared.faults.ScriptFault.{ScriptFault}
use Rattle.transcript.specs.Line.{line_of}
use Rattle.stream.specs.Doing.{Took}
use Rattle.stream.specs.Heard.{CannotForget, ComesFurther, Follows, Forgets, HasCheckedAll, HasCheckedFirst, HasDone, HasFollowed, HasGrown, IsLastLine, fault_of_check}
use Rattle.stream.specs.declared.follower.Follower.{Follower}
use Rattle.stream.specs.declared.heard.Heard.{Heard}
use Rattle.stream.specs.declared.heard.Heard.TheVariants as heard

-- how many are forgotten where all that are kept are
sum_all : (log : Log) → sum log.forgotten ≤ length log.entries → sum (all_forgotten log).forgotten ≡ length log.entries
sum_all log forgot =
    let n : ℕ = length (kept log) in
    let left : n ≡ length log.entries - sum log.forgotten = length-drop (sum log.forgotten) log.entries in
    let more : sum (log.forgotten ++ n ∷ []) ≡ sum log.forgotten + sum (n ∷ []) = sum_by-append (λ (x : ℕ). x) log.forgotten (n ∷ []) in
    let one : sum (n ∷ []) ≡ 0 + n = refl in
    omega arith

-- what a check of these entries of a history comes to
abbrev checked_of : Log → List Entry → Checked
checked_of log es = record { root = 0; setup = setup_of log; entries = es }

-- a follower that has checked all entries has checked the first ones, as many as it counts
first_of_all : (follower : Follower) (log : Log) → HasCheckedAll follower log → follower.checker ≡ checked_of log (take follower.count log.entries)
first_of_all follower log h =
    let count = h.count in
    h.checked ∙ ap (checked_of log) (sym (take_all follower.count log.entries (omega arith)))

-- it follows the history where all that is kept is forgotten, and where nothing is
follows-forgetting : (follower : Option Follower) (log : Log) → sum log.forgotten ≤ length log.entries → HasFollowed follower log → Follows follower (all_forgotten log)
follows-forgetting None log forgot h = tt
follows-forgetting (Some follower) log forgot h =
    let count = h.count in
    let all = sum_all log forgot in
    let first : HasCheckedFirst follower (all_forgotten log) = record { checked = first_of_all follower log h; forgotten = omega arith; made = omega arith } in
    first

follows-keeping : (follower : Option Follower) (log : Log) → sum log.forgotten ≤ length log.entries → HasFollowed follower log → Follows follower log
follows-keeping None log forgot h = tt
follows-keeping (Some follower) log forgot h =
    let count = h.count in
    let first : HasCheckedFirst follower log = record { checked = first_of_all follower log h; forgotten = omega arith; made = omega arith } in
    first

-- what a kernel that answers whether it has forgotten has done
pub forgets_by : (old new : Shown) (answer : Bool) → ((answer ≡ true) ↔ (length old.log.entries < 2 ^ 63)) → (answer ≡ true → new ≡ forgetting old)
    → (answer ≡ false → new ≡ old) → Forgets old new
forgets_by old new true exactly done same = inl (done refl)
forgets_by old new false exactly done same =
    let few : length old.log.entries < 2 ^ 63 → ⊥ = λ less. absurd (cc (exactly.1 less)) in
    inr (same refl, omega (arith, few))

pub follows-settled : (follower : Option Follower) (old new : Shown) → sum old.log.forgotten ≤ length old.log.entries → Forgets old new → HasFollowed follower old.log → Follows follower new.log
follows-settled follower old new forgot (inl e) h = subst (λ (k : Shown). Follows follower k.log) (sym e) (follows-forgetting follower old.log forgot h)
follows-settled follower old new forgot (inr none) h = subst (λ (k : Shown). Follows follower k.log) (sym none.0) (follows-keeping follower old.log forgot h)

-- the entries behind so many, by those that are kept
behind_in : (gone count : ℕ) (es : List Entry) → gone ≤ count → count ≤ length es → drop (count - gone) (drop gone es) ≡ drop count es
behind_in gone count es less made =
    let front : length (take gone es) ≡ gone = length-take gone es ∙ omega arith in
    let index : length (take gone es) + (count - gone) ≡ count = omega arith in
    sym (drop-append-add (take gone es) (drop gone es) (count - gone))
    ∙ ap (λ (n : ℕ). drop n (take gone es ++ drop gone es)) index
    ∙ ap (drop count) (take-append-drop gone es)

-- the first entries, as many as a follower counts, and those that it has not checked yet, are all
whole_of : (follower : Follower) (log : Log) → HasCheckedFirst follower log → take follower.count log.entries ++ drop (follower.count - sum log.forgotten) (kept log) ≡ log.entries
whole_of follower log h =
    ap (λ (es : List Entry). take follower.count log.entries ++ es) (behind_in (sum log.forgotten) follower.count log.entries h.forgotten h.made)
    ∙ take-append-drop follower.count log.entries

-- nothing is kept of a history of which all is forgotten
none_kept : (log : Log) → kept (all_forgotten log) ≡ []
none_kept log =
    let n : ℕ = length (kept log) in
    let left : n ≡ length log.entries - sum log.forgotten = length-drop (sum log.forgotten) log.entries in
    let more : sum (log.forgotten ++ n ∷ []) ≡ sum log.forgotten + sum (n ∷ []) = sum_by-append (λ (x : ℕ). x) log.forgotten (n ∷ []) in
    let one : sum (n ∷ []) ≡ 0 + n = refl in
    let all : length log.entries ≤ sum (all_forgotten log).forgotten = omega arith in
    drop_all (sum (all_forgotten log).forgotten) log.entries all

pub none_kept_in : (old new : Shown) → new ≡ forgetting old → kept new.log ≡ []
none_kept_in old new e = ap (λ (k : Shown). kept k.log) e ∙ none_kept old.log

-- a kernel that does nothing
pub grown_none : (kernel : Shown) → Kept kernel → HasGrown kernel kernel []
grown_none kernel sound = record {
  sound = sound;
  same_priorities = refl;
  same_limit = refl;
  same_bounds = refl;
  entries = sym (append-nil kernel.log.entries);
}

-- a kernel that is as it was
pub grown_same : (old new : Shown) → Kept new → new ≡ old → HasGrown old new []
grown_same old new sound e = record {
  sound = sound;
  same_priorities = ap (λ (k : Shown). k.log.priorities) e;
  same_limit = ap (λ (k : Shown). k.log.limit) e;
  same_bounds = ap (λ (k : Shown). k.log.bounds) e;
  entries = ap (λ (k : Shown). k.log.entries) e ∙ sym (append-nil old.log.entries);
}

-- a kernel that forgets
grown_forgetting : (old new : Shown) → Kept new → new ≡ forgetting old → HasGrown old new []
grown_forgetting old new sound e = record {
  sound = sound;
  same_priorities = ap (λ (k : Shown). k.log.priorities) e;
  same_limit = ap (λ (k : Shown). k.log.limit) e;
  same_bounds = ap (λ (k : Shown). k.log.bounds) e;
  entries = ap (λ (k : Shown). k.log.entries) e ∙ sym (append-nil old.log.entries);
}

-- a kernel that forgets what it keeps, where that can be
pub grown_settled : (old new : Shown) → Kept new → Forgets old new → HasGrown old new []
grown_settled old new sound (inl e) = grown_forgetting old new sound e
grown_settled old new sound (inr none) = grown_same old new sound none.0

-- a follower of a history follows it with one entry more
follows_entry : (follower : Option Follower) (log : Log) (entry : Entry) → Follows follower log → Follows follower (with_entry log entry)
follows_entry None log entry h = tt
follows_entry (Some follower) log entry h =
    let made = h.made in
    let longer = length-append log.entries (entry ∷ []) in
    let first : HasCheckedFirst follower (with_entry log entry) = record {
      checked = h.checked ∙ ap (checked_of log) (sym (take-append-le follower.count log.entries (entry ∷ []) made));
      forgotten = h.forgotten;
      made = omega arith;
    } in
    first

pub follows_took : (follower : Option Follower) (old new : Shown) (pid : ℕ) (op : Op) → Took old.log new.log pid op → Follows follower old.log → Follows follower new.log
follows_took follower old new pid op took h =
    let entry : Entry = record { pid = pid; op = op; reply = took.reply; chosen = took.added.chosen; doomed = took.added.doomed } in
    subst (λ (l : Log). Follows follower l) (sym took.added.is) (follows_entry follower old.log entry h)

pub follows_same : (follower : Option Follower) (old new : Shown) → new ≡ old → Follows follower old.log → Follows follower new.log
follows_same follower old new e h = subst (λ (k : Shown). Follows follower k.log) (sym e) h

-- a follower that has checked what it had not yet has checked all
pub followed_by : (former behind : Follower) (log : Log) (part : List Entry)
    → HasCheckedFirst former log → part ≡ drop (former.count - sum log.forgotten) (kept log) → behind.checker ≡ with_more former.checker part → behind.count ≡ length log.entries
    → HasCheckedAll behind log
followed_by former behind log part h e is count = record {
  checked =
      is
      ∙ ap (λ (es : List Entry). with_more former.checker es) e
      ∙ ap (λ (c : Checked). with_more c (drop (former.count - sum log.forgotten) (kept log))) h.checked
      ∙ ap (checked_of log) (whole_of former log h);
  count = count;
}

-- why what is kept is not forgotten, by the checker's fault
pub cannot_forget : (former : Follower) (log : Log) (part : List Entry) (why : CheckFault)
    → HasCheckedFirst former log → part ≡ drop (former.count - sum log.forgotten) (kept log)
    → IsFaultFor former.checker.root former.checker.setup (former.checker.entries ++ part) why → CannotForget log (fault_of_check why)
cannot_forget former log part fault.NoMemory h e wrong = tt
cannot_forget former log part (fault.Wrong position) h e wrong =
    let rest : List Entry = drop (former.count - sum log.forgotten) (kept log) in
    let first = subst (λ (es : List Entry). IsFaultFor former.checker.root former.checker.setup (former.checker.entries ++ es) (fault.Wrong position)) e wrong in
    let then_is = subst (λ (c : Checked). IsFaultFor c.root c.setup (c.entries ++ rest) (fault.Wrong position)) h.checked first in
    subst (λ (es : List Entry). IsFaultFor 0 (setup_of log) es (fault.Wrong position)) (whole_of former log h) then_is

-- no entry, and then some
grown-then : (a b c : Shown) (more : List Entry) → HasGrown a b [] → HasGrown b c more → HasGrown a c more
grown-then a b c more g h = record {
  sound = h.sound;
  same_priorities = h.same_priorities ∙ g.same_priorities;
  same_limit = h.same_limit ∙ g.same_limit;
  same_bounds = h.same_bounds ∙ g.same_bounds;
  entries = h.entries ∙ ap (λ (es : List Entry). es ++ more) (g.entries ∙ append-nil a.log.entries);
}

-- what a line comes to once its kernel has forgotten
pub comes-then : (said : Result (Option Line) ScriptFault) (a b c : Shown) (what : Heard) → HasGrown a b [] → ComesFurther said b c what → ComesFurther said a c what
comes-then said a b c heard.Nothing g h = (h.0, grown-then a b c [] g h.1)
comes-then said a b c (heard.Fault why) g h = (h.0, grown-then a b c [] g h.1)
comes-then said a b c heard.Operation g h = record {
  line = h.line;
  asks = h.asks;
  done = record {
    entry = h.done.entry;
    same_pid = h.done.same_pid;
    same_op = h.done.same_op;
    grown = grown-then a b c (h.done.entry ∷ []) g h.done.grown;
    here = h.done.here;
  };
}

-- one entry more is kept
pub done_by : (old new : Shown) (pid : ℕ) (op : Op) → Kept old → Kept new → Took old.log new.log pid op → HasDone pid op old new
done_by old new pid op before sound took =
    let entry : Entry = record { pid = pid; op = op; reply = took.reply; chosen = took.added.chosen; doomed = took.added.doomed } in
    let entries : new.log.entries ≡ old.log.entries ++ entry ∷ [] = ap (λ (l : Log). l.entries) took.added.is in
    let forgotten : sum new.log.forgotten ≡ sum old.log.forgotten = ap (λ (l : Log). sum l.forgotten) took.added.is in
    let longer : length new.log.entries ≡ length old.log.entries + 1 = ap (λ (es : List Entry). length es) entries ∙ length-append old.log.entries (entry ∷ []) in
    let forgot = before.forgot in
    record {
      entry = entry;
      same_pid = refl;
      same_op = refl;
      grown = record {
        sound = sound;
        same_priorities = ap (λ (l : Log). l.priorities) took.added.is;
        same_limit = ap (λ (l : Log). l.limit) took.added.is;
        same_bounds = ap (λ (l : Log). l.bounds) took.added.is;
        entries = entries;
      };
      here = omega arith;
    }

-- the last entry is the last of those that are kept
last_kept : (log : Log) (before : List Entry) (entry other : Entry) → log.entries ≡ before ++ entry ∷ [] → sum log.forgotten < length log.entries
    → other ≡ get_or (kept log) (length (kept log) - 1) other → other ≡ entry
last_kept log before entry other e some is =
    let gone : ℕ = sum log.forgotten in
    let all : length log.entries ≡ length before + 1 = ap (λ (es : List Entry). length es) e ∙ length-append before (entry ∷ []) in
    let left : length (kept log) ≡ length log.entries - gone = length-drop gone log.entries in
    let index : gone + (length (kept log) - 1) ≡ length before = omega arith in
    is
    ∙ get_or-drop gone log.entries (length (kept log) - 1) other
    ∙ ap (λ (n : ℕ). get_or log.entries n other) index
    ∙ ap (λ (es : List Entry). get_or es (length before) other) e
    ∙ get_or_at before entry [] other (length before) refl

-- the line of the last of the entries that are kept is that of the last entry
pub last_line : (log : Log) (other : Entry) (count : ℕ) → count ≡ length log.entries → Some other ≡ slice_get (kept log) (length (kept log) - 1)
    → IsLastLine log (line_of count other)
last_line log other count counted here before entry e some =
    let index : ℕ = length (kept log) - 1 in
    let is : get_or (kept log) index other ≡ other = get_or_from_slice_get (kept log) index other other (sym here) in
    let all : length log.entries ≡ length before + 1 = ap (λ (es : List Entry). length es) e ∙ length-append before (entry ∷ []) in
    ap₂ line_of (counted ∙ all) (last_kept log before entry other e some (sym is))

-- where nothing is kept the last entry is not
pub no_last : (log : Log) (entry : Entry) → sum log.forgotten < length log.entries → None ≡ slice_get (kept log) (length (kept log) - 1) → ⊥
no_last log entry some none =
    let index : ℕ = length (kept log) - 1 in
    let left : length (kept log) ≡ length log.entries - sum log.forgotten = length-drop (sum log.forgotten) log.entries in
    let inside : index < length (kept log) = omega arith in
    let here : slice_get (kept log) index ≡ Some (get_or (kept log) index entry) = slice_get-get_or (kept log) index entry inside in
    cc (none ∙ here)
