-- What a crash leaves of a store runs to what was committed after a beginning of the history.
use Rattle.std.proofs.Common.{◌≡◌, ℕ, zero, suc, ◌+◌, ◌≤◌, ◌<◌, List, [], ◌∷◌, ◌++◌, length, take, ap, subst₂, ◌∙◌, append-nil, inl, inr, arith}
use Rattle.std.specs.List.{AllByRecursion}
use Rattle.std.proofs.lemmas.List.{length-append, length-map}
use Rattle.sqlite_disk.specs.declared.Disk.{Ghosts}
use Rattle.model.specs.Steps.{Item}
use Rattle.model.specs.Entries.{Entry}
use Rattle.model.specs.Moments.{Moment, at_start, next}
use Rattle.model.specs.Legal.{Legal}
use Rattle.history.specs.Log.{Log}
use Rattle.machine.specs.Shown.{limit_of, setup_of}
use Rattle.commit_log.specs.Kept.{ReadsFirst}
use Rattle.commit_log.specs.Log.{key_of}
use Rattle.redo_records.specs.Records.{added, as_record, records_from}
use Rattle.recording.specs.Recorded.{records_of}
use Rattle.store_form.specs.Laws.{told_records}
use Rattle.store_form.specs.Stores.{told_item}
use Rattle.store_form.proofs.Laws.{first_records_run_to_a_beginning, stores_are_told_apart}
use Rattle.kept.specs.First.{EachTells, TellFirst}
use Rattle.kept.specs.Holds.{CrashesLeaveBeginnings, IsRecovered}
use Rattle.kept.proofs.Telling.{told_append}

-- ---- each record has a call, so fewer records tell fewer calls

abbrev IsSome : List Item → Type 0
IsSome r = 0 < length r

some_in : (its : List Item) → AllByRecursion IsSome (as_record its)
some_in [] = tt
some_in (it ∷ its) = (omega arith, tt)

both : (rs qs : List (List Item)) → AllByRecursion IsSome rs → AllByRecursion IsSome qs → AllByRecursion IsSome (rs ++ qs)
both [] qs p q = q
both (r ∷ rs) qs p q = (p.0, both rs qs p.1 q)

some_from : (m : Moment) (es : List Entry) → AllByRecursion IsSome (records_from m es)
some_from m [] = tt
some_from m (e ∷ es) = both (as_record (added m e)) (records_from (next m e) es) (some_in (added m e)) (some_from (next m e) es)

more_told : (r : List Item) (rs : List (List Item)) → length (told_records (r ∷ rs)) ≡ length r + length (told_records rs)
more_told r rs =
    ap length (told_append (r ∷ []) rs) ∙ length-append (told_records (r ∷ [])) (told_records rs)
    ∙ ap (λ n. n + length (told_records rs)) (length-map (r ++ []) told_item ∙ ap length (append-nil r))

-- of the first n and the first k: where the former tell no more, they are no more
fewer : (rs : List (List Item)) → AllByRecursion IsSome rs → (n k : ℕ) → n ≤ length rs → length (told_records (take n rs)) ≤ length (told_records (take k rs)) → n ≤ k
fewer rs p zero k low h = omega arith
fewer [] p (suc n) k low h = absurd (omega (arith, low))
fewer (r ∷ rs) p (suc n) zero low h = absurd (omega (arith, h, p.0, more_told r (take n rs)))
fewer (r ∷ rs) p (suc n) (suc k) low h =
    let rest : n ≤ k = fewer rs p.1 n k (omega (arith, low)) (omega (arith, h, more_told r (take n rs), more_told r (take k rs))) in
    omega (arith, rest)

-- payloads tell one number of first records
one_number : (log : Log) (payloads : List (List ℕ)) (n k : ℕ) → TellFirst log payloads n → TellFirst log payloads k → n ≤ k
one_number log payloads n k first other =
    let told : told_records (take n (records_of log)) ≡ told_records (take k (records_of log)) = (stores_are_told_apart (setup_of log) (setup_of log) payloads _ _ first.store other.store).1 in
    fewer (records_of log) (some_from (at_start 0 (setup_of log)) log.entries) n k first.low (omega (arith, ap length told))

-- the kept ones alone
first_kept : (log : Log) (kept others : List (List ℕ)) (count : ℕ) → EachTells log kept others count → TellFirst log kept count
first_kept log kept others count tell =
    let number : count + 0 ≡ count = omega arith in
    subst₂ (TellFirst log) (append-nil kept) number (tell 0 (omega arith))

recovered : (key : ℕ) (log : Log) (kept others : List (List ℕ)) (count : ℕ) (file : List ℕ) → Legal 0 (setup_of log) (limit_of log) log.entries → EachTells log kept others count → ReadsFirst key kept others file → IsRecovered key log kept file
recovered key log kept others count file legal tell reads =
    let reached = first_records_run_to_a_beginning (setup_of log) (limit_of log) log.entries (count + reads.count) legal in
    record {
      payloads = kept ++ take reads.count others;
      reads = reads.reads;
      count = count + reads.count;
      tells = tell reads.count reads.no_more;
      before = reached.0;
      reached = reached.1;
      least = λ n own. omega (arith, one_number log kept n count own (first_kept log kept others count tell));
    }

-- ---- whatever a crash leaves

module _ {D : Type 0} (g : Ghosts D) where
  pub crashes_leave_beginnings : CrashesLeaveBeginnings g
  crashes_leave_beginnings store log kept appended legal leaves file left = elim (leaves.leaves file left) [
    | inl reads ↦ inl (recovered (key_of store.log) log kept (appended ++ leaves.more) leaves.count file legal leaves.tell reads)
    | inr forged ↦ inr (leaves.more, forged)
  ]
