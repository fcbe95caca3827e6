-- A machine with a store goes on.
use Rattle.std.proofs.Common.{◌≡◌, ℕ, ◌+◌, ◌≤◌, Bool, true, false, List, [], ◌++◌, take, Option, Some, None, refl, sym, subst, append-nil, append_assoc, inl, inr, take_all, arith}
use Rattle.std.specs.Prelude.{MatchBool}
use Rattle.sqlite_disk.specs.declared.Disk.{Ghosts}
use Rattle.history.specs.Log.{Log}
use Rattle.model.specs.Entries.{Op, Reply}
use Rattle.model.specs.Steps.{Item}
use Rattle.machine.specs.Shown.{Shown, limit_of, moment, setup_of}
use Rattle.machine.specs.Steps.{Added, IsStep, entry_of, forgetting, is_no_entry}
use Rattle.redo_records.specs.Records.{added, as_record}
use Rattle.redo_records.proofs.Laws.{records_grow}
use Rattle.recording.specs.Recorded.{records_of}
use Rattle.store_form.specs.Laws.{told_records}
use Rattle.store_form.specs.Stores.{IsStore}
use Rattle.store_form.proofs.Laws.{records_run_to_the_state}
use Rattle.kept.specs.First.{GoesOn}
use Rattle.kept.specs.Holds.{Holds, IsUpToDate, LeavesFirst}
use Rattle.kept.specs.Faults.{remembered, UnlessOfLog}
use Rattle.kept.specs.Keeps.{HoldsMore, IsKept, StandsFor, WhatIsKeptIsWhole}
use Rattle.kept.specs.declared.fault.StoreFault.{StoreFault}
use Rattle.kept.specs.declared.fault.StoreFault.TheVariants as fault
use Rattle.kept.specs.declared.store.Store.{Store}
use Rattle.kept.proofs.Holding.{all_behind, holds_on, leaves_on}

-- ---- histories go on

pub stays_on : (log : Log) → GoesOn log log
stays_on log = record { same = refl; more = []; grown = sym (append-nil (records_of log)) }

entry_on : (old new : Log) (pid : ℕ) (op : Op) (reply : Reply) → Added old new pid op reply → GoesOn old new
entry_on old new pid op reply a =
    let e = entry_of pid op reply a.chosen a.doomed in
    subst (GoesOn old) (sym a.is) (record { same = refl; more = as_record (added (moment old) e); grown = records_grow 0 (setup_of old) old.entries e })

pub step_on : (old new : Shown) (pid : ℕ) (op : Op) (reply : Reply) → IsStep old new pid op reply → GoesOn old.log new.log
step_on old new pid op reply step = by (is_no_entry reply) step.entry where
  by : (b : Bool) → MatchBool b (new ≡ old) (Added old.log new.log pid op reply) → GoesOn old.log new.log
  by true same = subst (λ (v : Shown). GoesOn old.log v.log) (sym same) (stays_on old.log)
  by false a = entry_on old.log new.log pid op reply a

pub forget_on : (old new : Shown) (b : Bool) → (b ≡ true → new ≡ forgetting old) → (b ≡ false → new ≡ old) → GoesOn old.log new.log
forget_on old new true forgets stays = subst (λ (v : Shown). GoesOn old.log v.log) (sym (forgets refl)) (record { same = refl; more = []; grown = sym (append-nil (records_of old.log)) })
forget_on old new false forgets stays = subst (λ (v : Shown). GoesOn old.log v.log) (sym (stays refl)) (stays_on old.log)

-- ---- a store stands for the history that has gone on

module _ {D : Type 0} {g : Ghosts D} where
  pub stands_on : (fault : Option StoreFault) (store : Option (Store D g)) (old new : Log) (kept : List (List ℕ)) → GoesOn old new → StandsFor fault store old kept → StandsFor fault store new kept
  stands_on None (Some store) old new kept on s = record { more = s.more; appended = s.appended; holds = holds_on store old new on (kept ++ s.more) s.appended s.holds }
  stands_on None None old new kept on s = record { more = s.more; appended = s.appended; holds = tt }
  stands_on (Some fault) (Some store) old new kept on s = record { more = s.more; appended = s.appended; leaves = leaves_on store old new on (kept ++ s.more) s.appended s.leaves }
  stands_on (Some fault) None old new kept on s = record { more = s.more; appended = s.appended; leaves = tt }

  -- a store that holds the history
  pub held_stands : (store : Store D g) (log : Log) (kept appended : List (List ℕ)) → Holds store log kept appended → HoldsMore (Some store) log kept
  held_stands store log kept appended holds = record { more = []; appended = appended; holds = subst (λ (ps : List (List ℕ)). Holds store log ps appended) (sym (append-nil kept)) holds }

  -- what was met is remembered
  pub remembered_stands : (e : StoreFault) (store : Store D g) (log : Log) (kept before appended : List (List ℕ))
      → UnlessOfLog e ((more : List (List ℕ)) × Holds store log (kept ++ before) (appended ++ more)) → LeavesFirst store log (kept ++ before) appended → StandsFor (remembered e) (Some store) log kept
  remembered_stands fault.NoMemory store log kept before appended goes leaves = record { more = before; appended = appended ++ goes.0; holds = goes.1 }
  remembered_stands fault.Lost store log kept before appended goes leaves = record { more = before; appended = appended; leaves = leaves }
  remembered_stands fault.OutOfStep store log kept before appended goes leaves = record { more = before; appended = appended; leaves = leaves }
  remembered_stands (fault.Log e) store log kept before appended goes leaves = record { more = before; appended = appended; leaves = leaves }

  -- all is on the disk
  pub is_kept : (store : Store D g) (log : Log) (kept before later : List (List ℕ)) → Holds store log ((kept ++ before) ++ later) [] → IsUpToDate store log → IsKept (Some store) log kept
  is_kept store log kept before later holds all = record {
    more = before ++ later;
    holds = subst (λ (ps : List (List ℕ)). Holds store log ps []) (append_assoc kept before later) holds;
    all = all;
  }

  -- all that is kept stands
  pub kept_stands : (store : Option (Store D g)) (log : Log) (kept : List (List ℕ)) → IsKept store log kept → StandsFor None store log kept
  kept_stands store log kept all = record { more = all.more; appended = []; holds = all.holds }

-- ---- what is kept is recovered

module _ {D : Type 0} (g : Ghosts D) where
  pub what_is_kept_is_whole : WhatIsKeptIsWhole g
  what_is_kept_is_whole store log kept legal all file left = elim (all.holds.leaves file left) [
    | inl reads ↦ inl (
        let count : all.holds.count + 0 ≡ store.taken = all_behind store store log (kept ++ all.more) [] all.holds all.all.none in
        let none : reads.count ≤ 0 = reads.no_more in
        let whole : take (all.holds.count + reads.count) (records_of log) ≡ records_of log = take_all (all.holds.count + reads.count) (records_of log) (omega (arith, count, all.all.all)) in
        record {
          payloads = (kept ++ all.more) ++ take reads.count [];
          reads = reads.reads;
          store = subst (λ (rs : List (List Item)). IsStore (setup_of log) ((kept ++ all.more) ++ take reads.count []) (told_records rs)) whole (all.holds.tell reads.count reads.no_more).store;
          runs = records_run_to_the_state (setup_of log) (limit_of log) log.entries legal;
        }
        )
    | inr forged ↦ inr (kept ++ all.more, forged)
  ]
