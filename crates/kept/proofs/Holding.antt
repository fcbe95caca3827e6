-- A store goes on holding what it took.
use Rattle.std.proofs.Common.{◌≡◌, ℕ, suc, ◌+◌, ◌-◌, ◌<◌, List, [], ◌∷◌, ◌++◌, length, map, take, drop, refl, sym, ap, subst, subst₂, ◌∙◌, append_assoc, append-nil, inl, take_all, length-take-le, arith}
use Rattle.std.proofs.lemmas.List.{drop_all, length-append, length-drop}
use Rattle.sqlite_disk.specs.declared.Disk.{Ghosts}
use Rattle.model.specs.Steps.{Item}
use Rattle.history.specs.Log.{Log}
use Rattle.machine.specs.Shown.{setup_of}
use Rattle.commit_log.specs.File.{Reads}
use Rattle.commit_log.specs.Log.{CrashLeaves, Stands, disk_of, key_of}
use Rattle.redo_records.specs.Recording.{Tell, entries_of}
use Rattle.redo_records.specs.declared.recorder.Record.{Record}
use Rattle.recording.specs.Recorded.{AreRest, records_of}
use Rattle.store_form.specs.Laws.{told_records}
use Rattle.store_form.specs.Setups.{setup_bytes, IsSetup}
use Rattle.store_form.specs.Stores.{IsStore}
use Rattle.kept.specs.Appending.{IsOfFirst}
use Rattle.kept.specs.First.{EachTells, GoesOn}
use Rattle.kept.specs.Holds.{Holds, LeavesFirst}
use Rattle.kept.specs.declared.store.Store.{Store}
use Rattle.kept.proofs.Telling.{all_kept, all_told, each_more, each_on, first_taken, next_of, no_fewer, setup_alone, Next}

-- the records behind the first n, of the first so many
abbrev pub Behind : Log → ℕ → ℕ → List Record → Type 0
Behind log n taken rs = Tell (drop n (take taken (records_of log))) (map entries_of rs)

-- where a crash leaves logs of just these payloads
abbrev pub AllRead : {D : Type 0} {g : Ghosts D} → Store D g → List (List ℕ) → Type 0
AllRead {g = g} store payloads = (file : List ℕ) → g.may_leave (disk_of store.log) file → Reads (key_of store.log) file payloads

all_read : {D : Type 0} {g : Ghosts D} (store : Store D g) (payloads : List (List ℕ)) → AllRead store payloads → CrashLeaves store.log payloads []
all_read store payloads all file left = inl (record { count = 0; no_more = omega arith; reads = subst (Reads (key_of store.log) file) (sym (append-nil payloads)) (all file left) })

-- ---- one record is appended

module _ {D : Type 0} {g : Ghosts D} (old : Store D g) (log : Log) (kept appended : List (List ℕ)) (holds : Holds old log kept appended) (payload : List ℕ) (of : IsOfFirst old.waiting.items payload) where
  next_one : Next (holds.count + length appended) old.taken (records_of log) (entries_of of.made) (map entries_of of.rest)
  next_one = next_of (holds.count + length appended) old.taken (records_of log) (entries_of of.made) (map entries_of of.rest) (subst (Behind log (holds.count + length appended) old.taken) of.first holds.waiting)

  tell_one : EachTells log kept (appended ++ payload ∷ []) holds.count
  tell_one =
      let below : holds.count + length appended < length (records_of log) = omega (arith, next_one.below, holds.low) in
      subst (λ (p : List ℕ). EachTells log kept (appended ++ p ∷ []) holds.count) (sym of.is) (each_more log kept appended holds.count next_one.item next_one.later (entries_of of.made) next_one.is next_one.tell of.fits below holds.tell)

  -- the others wait from then on
  pub holds_one : (new : Store D g) → new.waiting.items ≡ drop 1 old.waiting.items → new.taken ≡ old.taken → Stands new.log kept (appended ++ payload ∷ []) → CrashLeaves new.log kept (appended ++ payload ∷ []) → Holds new log kept (appended ++ payload ∷ [])
  holds_one new behind taken stands leaves =
      let same : new.waiting.items ≡ of.rest = behind ∙ ap (drop 1) of.first in
      let number : holds.count + length (appended ++ payload ∷ []) ≡ suc (holds.count + length appended) = omega (arith, length-append appended (payload ∷ [])) in
      let rest : Behind log (suc (holds.count + length appended)) new.taken new.waiting.items = subst₂ (λ (t : ℕ) (rs : List Record). Behind log (suc (holds.count + length appended)) t rs) (sym taken) (sym same) next_one.rest in
      record {
        stands = stands;
        leaves = leaves;
        count = holds.count;
        tell = tell_one;
        order = omega (arith, number, taken, next_one.below);
        low = omega (arith, taken, holds.low);
        waiting = subst (λ (n : ℕ). Behind log n new.taken new.waiting.items) (sym number) rest;
      }

  -- whatever a crash leaves of one that may be there
  pub leaves_one : (new : Store D g) → CrashLeaves new.log kept (appended ++ payload ∷ []) → LeavesFirst new log kept appended
  leaves_one new leaves = record { more = payload ∷ []; count = holds.count; tell = tell_one; leaves = leaves }

-- ---- a crash

module _ {D : Type 0} {g : Ghosts D} (log : Log) (kept appended : List (List ℕ)) where
  -- nothing more was written
  pub leaves_these : (old new : Store D g) → Holds old log kept appended → CrashLeaves new.log kept appended → LeavesFirst new log kept appended
  leaves_these old new holds leaves =
      let same : appended ≡ appended ++ [] = sym (append-nil appended) in
      record {
        more = [];
        count = holds.count;
        tell = subst (λ (ps : List (List ℕ)). EachTells log kept ps holds.count) same holds.tell;
        leaves = subst (λ (ps : List (List ℕ)). CrashLeaves new.log kept ps) same leaves;
      }

  pub leaves_held : (store : Store D g) → Holds store log kept appended → LeavesFirst store log kept appended
  leaves_held store holds = leaves_these store store holds holds.leaves

  -- of more that may be there
  pub leaves_wider : (store : Store D g) (more : List (List ℕ)) → LeavesFirst store log kept (appended ++ more) → LeavesFirst store log kept appended
  leaves_wider store more leaves =
      let same : (appended ++ more) ++ leaves.more ≡ appended ++ (more ++ leaves.more) = append_assoc appended more leaves.more in
      record {
        more = more ++ leaves.more;
        count = leaves.count;
        tell = subst (λ (ps : List (List ℕ)). EachTells log kept ps leaves.count) same leaves.tell;
        leaves = subst (λ (ps : List (List ℕ)). CrashLeaves store.log kept ps) same leaves.leaves;
      }

-- ---- what goes on from a store

-- It has what it had, and more was appended.
abbrev pub Appends : {D : Type 0} {g : Ghosts D} → Store D g → Store D g → Log → List (List ℕ) → List (List ℕ) → Type 0
Appends old new log kept appended = Holds old log kept appended → (more : List (List ℕ)) × Holds new log kept (appended ++ more)

module _ {D : Type 0} {g : Ghosts D} (log : Log) (kept : List (List ℕ)) where
  pub appends_none : (old : Store D g) (appended : List (List ℕ)) → Appends old old log kept appended
  appends_none old appended holds = ([], subst (λ (ps : List (List ℕ)). Holds old log kept ps) (sym (append-nil appended)) holds)

  pub appends_both : (old mid new : Store D g) → ((appended : List (List ℕ)) → Appends old mid log kept appended) → ((appended : List (List ℕ)) → Appends mid new log kept appended) → (appended : List (List ℕ)) → Appends old new log kept appended
  appends_both old mid new first second appended holds =
      let one = first appended holds in
      let two = second (appended ++ one.0) one.1 in
      (one.0 ++ two.0, subst (λ (ps : List (List ℕ)). Holds new log kept ps) (append_assoc appended one.0 two.0) two.1)

  pub appends_same : (old mid new : Store D g) (appended : List (List ℕ)) → new ≡ mid → Appends old mid log kept appended → Appends old new log kept appended
  appends_same old mid new appended same h = subst (λ (s : Store D g). Appends old s log kept appended) (sym same) h

-- the log is the same, and nothing else has changed
pub holds_same : {D : Type 0} {g : Ghosts D} (old new : Store D g) (log : Log) (kept appended : List (List ℕ)) → new.log ≡ old.log → new.waiting.items ≡ old.waiting.items → new.taken ≡ old.taken → Holds old log kept appended → Holds new log kept appended
holds_same old new log kept appended same waiting taken holds = record {
  stands = subst (λ l. Stands l kept appended) (sym same) holds.stands;
  leaves = subst (λ l. CrashLeaves l kept appended) (sym same) holds.leaves;
  count = holds.count;
  tell = holds.tell;
  order = omega (arith, taken, holds.order);
  low = omega (arith, taken, holds.low);
  waiting = subst₂ (λ (t : ℕ) (rs : List Record). Behind log (holds.count + length appended) t rs) (sym taken) (sym waiting) holds.waiting;
}

-- ---- records are taken

tell_none : (rs : List (List Item)) → Tell rs [] → rs ≡ []
tell_none [] h = refl
tell_none (r ∷ rs) h = absurd h

module _ {D : Type 0} {g : Ghosts D} (old new : Store D g) (log : Log) (kept appended : List (List ℕ)) (holds : Holds old log kept appended) (none : old.waiting.items ≡ []) where
  pub all_behind : holds.count + length appended ≡ old.taken
  all_behind =
      let empty : drop (holds.count + length appended) (take old.taken (records_of log)) ≡ [] = tell_none _ (subst (Behind log (holds.count + length appended) old.taken) none holds.waiting) in
      omega (arith, holds.order, ap length empty, length-drop (holds.count + length appended) (take old.taken (records_of log)), length-take-le old.taken (records_of log) holds.low)

  pub holds_taken : (records : List Record) → new.log ≡ old.log → new.waiting.items ≡ records → new.taken ≡ length (records_of log) → AreRest log old.taken records → Holds new log kept appended
  holds_taken records same waiting taken rest =
      let whole : take new.taken (records_of log) ≡ records_of log = take_all new.taken (records_of log) (omega (arith, taken)) in
      let from : old.taken ≡ holds.count + length appended = sym all_behind in
      let behind : Tell (drop (holds.count + length appended) (records_of log)) (map entries_of new.waiting.items) = subst₂ (λ (n : ℕ) (rs : List Record). Tell (drop n (records_of log)) (map entries_of rs)) from (sym waiting) rest.tell in
      record {
        stands = subst (λ l. Stands l kept appended) (sym same) holds.stands;
        leaves = subst (λ l. CrashLeaves l kept appended) (sym same) holds.leaves;
        count = holds.count;
        tell = holds.tell;
        order = omega (arith, from, rest.order, taken);
        low = omega (arith, taken);
        waiting = subst (λ (rs : List (List Item)). Tell (drop (holds.count + length appended) rs) (map entries_of new.waiting.items)) (sym whole) behind;
      }

-- ---- all that was appended is kept

module _ {D : Type 0} {g : Ghosts D} (old new : Store D g) (log : Log) (kept appended : List (List ℕ)) where
  pub holds_kept : Holds old log kept appended → new.waiting.items ≡ old.waiting.items → new.taken ≡ old.taken → Stands new.log (kept ++ appended) [] → AllRead new (kept ++ appended) → Holds new log (kept ++ appended) []
  holds_kept holds waiting taken stands all =
      let number : holds.count + length appended ≡ holds.count + length appended + 0 = omega arith in
      let behind : Behind log (holds.count + length appended) new.taken new.waiting.items = subst₂ (λ (t : ℕ) (rs : List Record). Behind log (holds.count + length appended) t rs) (sym taken) (sym waiting) holds.waiting in
      record {
        stands = stands;
        leaves = all_read new (kept ++ appended) all;
        count = holds.count + length appended;
        tell = all_kept log kept appended holds.count holds.tell;
        order = omega (arith, taken, holds.order);
        low = omega (arith, taken, holds.low);
        waiting = subst (λ (n : ℕ). Behind log n new.taken new.waiting.items) number behind;
      }

-- ---- how it begins

module _ {D : Type 0} {g : Ghosts D} (store : Store D g) (log : Log) where
  pub holds_begun : IsSetup (setup_of log) → Stands store.log (setup_bytes (setup_of log) ∷ []) [] → AllRead store (setup_bytes (setup_of log) ∷ []) → store.taken ≡ 0 → store.waiting.items ≡ [] → Holds store log (setup_bytes (setup_of log) ∷ []) []
  holds_begun is stands all taken none = record {
    stands = stands;
    leaves = all_read store (setup_bytes (setup_of log) ∷ []) all;
    count = 0;
    tell = setup_alone log is;
    order = omega arith;
    low = omega (arith, taken);
    waiting = subst₂ (λ (t : ℕ) (rs : List Record). Behind log 0 t rs) (sym taken) (sym none) tt;
  }

  pub holds_resumed : (payloads : List (List ℕ)) → IsStore (setup_of log) payloads (told_records (records_of log)) → Stands store.log payloads [] → AllRead store payloads → store.taken ≡ length (records_of log) → store.waiting.items ≡ [] → Holds store log payloads []
  holds_resumed payloads is stands all taken none =
      let n : ℕ = length (records_of log) in
      let past : drop (length (records_of log) + 0) (take store.taken (records_of log)) ≡ [] = drop_all (length (records_of log) + 0) (take store.taken (records_of log)) (omega (arith, taken, length-take-le store.taken (records_of log) (omega (arith, taken)))) in
      record {
        stands = stands;
        leaves = all_read store payloads all;
        count = length (records_of log);
        tell = all_told log payloads is;
        order = omega (arith, taken);
        low = omega (arith, taken);
        waiting = subst₂ (λ (xs : List (List Item)) (rs : List Record). Tell xs (map entries_of rs)) (sym past) (sym none) tt;
      }

-- ---- the history goes on

module _ {D : Type 0} {g : Ghosts D} (store : Store D g) (old new : Log) (on : GoesOn old new) (kept appended : List (List ℕ)) where
  pub holds_on : Holds store old kept appended → Holds store new kept appended
  holds_on holds = record {
    stands = holds.stands;
    leaves = holds.leaves;
    count = holds.count;
    tell = each_on old new kept appended holds.count on holds.tell;
    order = holds.order;
    low = omega (arith, holds.low, no_fewer old new on);
    waiting = subst (λ (xs : List (List Item)). Tell (drop (holds.count + length appended) xs) (map entries_of store.waiting.items)) (sym (first_taken old new store.taken on holds.low)) holds.waiting;
  }

  pub leaves_on : LeavesFirst store old kept appended → LeavesFirst store new kept appended
  leaves_on leaves = record {
    more = leaves.more;
    count = leaves.count;
    tell = each_on old new kept (appended ++ leaves.more) leaves.count on leaves.tell;
    leaves = leaves.leaves;
  }
