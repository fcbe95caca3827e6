-- Payloads that tell first records of a history.
use Rattle.std.proofs.Common.{◌≡◌, ℕ, zero, suc, ◌+◌, ◌≤◌, ◌<◌, List, [], ◌∷◌, ◌++◌, length, map, take, drop, refl, sym, ap, subst, subst₂, ◌∙◌, append_assoc, append-nil, inl, inr, take_all, arith}
use Rattle.std.proofs.lemmas.Bool.{cases_lt}
use Rattle.std.proofs.lemmas.Grind.{flat_map-append}
use Rattle.std.proofs.lemmas.List.{length-append, map-append, take-append-le}
use Rattle.model.specs.Steps.{Item}
use Rattle.model.specs.Entries.{Entry}
use Rattle.model.specs.Moments.{Setup, at_start}
use Rattle.history.specs.Log.{Log}
use Rattle.machine.specs.Shown.{setup_of}
use Rattle.entry_codec.specs.Entries.{AreEntries, entries_bytes}
use Rattle.redo_records.specs.Kept.{AreOf}
use Rattle.redo_records.specs.Records.{all_of}
use Rattle.redo_records.specs.Recording.{Tell}
use Rattle.recording.specs.Recorded.{records_of}
use Rattle.store_form.specs.Laws.{told_records, AreChanges}
use Rattle.store_form.specs.Setups.{setup_bytes, IsSetup}
use Rattle.store_form.specs.Stores.{told_item, IsStore}
use Rattle.store_form.proofs.Laws.{records_are_changes, stores_grow}
use Rattle.kept.specs.First.{EachTells, GoesOn, TellFirst}

-- ---- the history goes on

-- the first records stay
pub first_taken : (old new : Log) (n : ℕ) → GoesOn old new → n ≤ length (records_of old) → take n (records_of new) ≡ take n (records_of old)
first_taken old new n on low = ap (take n) on.grown ∙ take-append-le n (records_of old) on.more low

pub no_fewer : (old new : Log) → GoesOn old new → length (records_of old) ≤ length (records_of new)
no_fewer old new on =
    let long : length (records_of new) ≡ length (records_of old) + length on.more = ap length on.grown ∙ length-append (records_of old) on.more in
    omega (arith, long)

pub first_on : (old new : Log) (payloads : List (List ℕ)) (n : ℕ) → GoesOn old new → TellFirst old payloads n → TellFirst new payloads n
first_on old new payloads n on tell = record {
  low = omega (arith, tell.low, no_fewer old new on);
  store = subst₂ (λ (s : Setup) (rs : List (List Item)). IsStore s payloads (told_records rs)) (sym on.same) (sym (first_taken old new n on tell.low)) tell.store;
}

pub each_on : (old new : Log) (kept others : List (List ℕ)) (count : ℕ) → GoesOn old new → EachTells old kept others count → EachTells new kept others count
each_on old new kept others count on tell = λ more low. first_on old new (kept ++ take more others) (count + more) on (tell more low)

-- ---- the next record

-- what stands behind the first n of the first so many records, where it is told
pub record Next (n taken : ℕ) (rs : List (List Item)) (es : List Entry) (ess : List (List Entry)) : Type 0 where
  pub item : List Item
  pub later : List (List Item)
  pub is : drop n rs ≡ item ∷ later
  pub tell : AreOf item es
  pub rest : Tell (drop (suc n) (take taken rs)) ess
  pub below : n < taken

pub next_of : (n taken : ℕ) (rs : List (List Item)) (es : List Entry) (ess : List (List Entry)) → Tell (drop n (take taken rs)) (es ∷ ess) → Next n taken rs es ess
next_of zero zero rs es ess h = absurd h
next_of (suc n) zero rs es ess h = absurd h
next_of zero (suc taken) [] es ess h = absurd h
next_of (suc n) (suc taken) [] es ess h = absurd h
next_of zero (suc taken) (r ∷ rs) es ess h = record { item = r; later = rs; is = refl; tell = h.0; rest = h.1; below = omega arith }
next_of (suc n) (suc taken) (r ∷ rs) es ess h =
    let behind = next_of n taken rs es ess h in
    record { item = behind.item; later = behind.later; is = behind.is; tell = behind.tell; rest = behind.rest; below = omega (arith, behind.below) }

-- one more is taken
taken_more : (n : ℕ) (rs : List (List Item)) (r : List Item) (later : List (List Item)) → drop n rs ≡ r ∷ later → take (suc n) rs ≡ take n rs ++ r ∷ []
taken_more zero [] r later is = absurd cc
taken_more (suc n) [] r later is = absurd cc
taken_more zero (q ∷ rs) r later is = let same : q ≡ r = cc in ap (λ (x : List Item). x ∷ []) same
taken_more (suc n) (q ∷ rs) r later is = ap (λ (xs : List (List Item)). q ∷ xs) (taken_more n rs r later is)

all_behind : (n : ℕ) (rs : List (List Item)) → AreChanges rs → AreChanges (drop n rs)
all_behind zero rs p = p
all_behind (suc n) [] p = tt
all_behind (suc n) (r ∷ rs) p = all_behind n rs p.1

is_change : (log : Log) (n : ℕ) (r : List Item) (later : List (List Item)) → drop n (records_of log) ≡ r ∷ later → AreChanges (r ∷ [])
is_change log n r later is = ((subst AreChanges is (all_behind n (records_of log) (records_are_changes (at_start 0 (setup_of log)) log.entries))).0, tt)

pub told_append : (rs qs : List (List Item)) → told_records (rs ++ qs) ≡ told_records rs ++ told_records qs
told_append rs qs = ap (map told_item) (flat_map-append (λ (r : List Item). r) rs qs) ∙ map-append told_item (all_of rs) (all_of qs)

-- the bytes of the next record, behind payloads that tell the first n
pub first_more : (log : Log) (payloads : List (List ℕ)) (n : ℕ) (r : List Item) (later : List (List Item)) (es : List Entry) → drop n (records_of log) ≡ r ∷ later → AreOf r es → AreEntries es → n < length (records_of log) → TellFirst log payloads n
    → TellFirst log (payloads ++ entries_bytes es ∷ []) (suc n)
first_more log payloads n r later es is tells fits below tell =
    let first : List (List Item) = take n (records_of log) in
    let grown = stores_grow (setup_of log) payloads (told_records first) (r ∷ []) (es ∷ []) tell.store (is_change log n r later is) (tells, tt) (fits, tt) in
    let told : told_records first ++ told_records (r ∷ []) ≡ told_records (take (suc n) (records_of log)) = sym (told_append first (r ∷ [])) ∙ sym (ap told_records (taken_more n (records_of log) r later is)) in
    record { low = omega arith; store = subst (IsStore (setup_of log) (payloads ++ entries_bytes es ∷ [])) told grown }

-- a payload more tells the next record
pub each_more : (log : Log) (kept others : List (List ℕ)) (count : ℕ) (r : List Item) (later : List (List Item)) (es : List Entry) → drop (count + length others) (records_of log) ≡ r ∷ later → AreOf r es → AreEntries es → count + length others < length (records_of log)
    → EachTells log kept others count → EachTells log kept (others ++ entries_bytes es ∷ []) count
each_more log kept others count r later es is tells fits below tell = λ more low. elim (cases_lt (length others) more) [
  | inl past ↦ (let all : more ≡ suc (length others) = omega (arith, past, low, length-append others (entries_bytes es ∷ [])) in
      let whole : TellFirst log (kept ++ others) (count + length others) = subst (λ (ps : List (List ℕ)). TellFirst log (kept ++ ps) (count + length others)) (take_all (length others) others (omega arith)) (tell (length others) (omega arith)) in
      let grown = first_more log (kept ++ others) (count + length others) r later es is tells fits below whole in
      let taken : take more (others ++ entries_bytes es ∷ []) ≡ others ++ entries_bytes es ∷ [] = take_all more (others ++ entries_bytes es ∷ []) (omega (arith, past, length-append others (entries_bytes es ∷ []))) in
      let payloads : (kept ++ others) ++ entries_bytes es ∷ [] ≡ kept ++ take more (others ++ entries_bytes es ∷ []) = append_assoc kept others (entries_bytes es ∷ []) ∙ ap (λ (ps : List (List ℕ)). kept ++ ps) (sym taken) in
      let number : suc (count + length others) ≡ count + more = omega (arith, all) in
      subst₂ (TellFirst log) payloads number grown)
  | inr within ↦ subst (λ (ps : List (List ℕ)). TellFirst log (kept ++ ps) (count + more)) (sym (take-append-le more others (entries_bytes es ∷ []) within)) (tell more within)
]

-- ---- all of them are kept

pub all_kept : (log : Log) (kept others : List (List ℕ)) (count : ℕ) → EachTells log kept others count → (more : ℕ) → more ≤ 0 → TellFirst log ((kept ++ others) ++ take more []) (count + length others + more)
all_kept log kept others count tell zero low =
    let payloads : kept ++ take (length others) others ≡ (kept ++ others) ++ [] = ap (λ (ps : List (List ℕ)). kept ++ ps) (take_all (length others) others (omega arith)) ∙ sym (append-nil (kept ++ others)) in
    let number : count + length others ≡ count + length others + 0 = omega arith in
    subst₂ (TellFirst log) payloads number (tell (length others) (omega arith))
all_kept log kept others count tell (suc more) low = absurd (omega (arith, low))

-- ---- how it begins

-- the setup alone
pub setup_alone : (log : Log) → IsSetup (setup_of log) → (more : ℕ) → more ≤ 0 → TellFirst log ((setup_bytes (setup_of log) ∷ []) ++ take more []) (0 + more)
setup_alone log is zero low = record { low = omega arith; store = record { is_setup = is; records = []; each = tt; bytes = refl; tell = refl } }
setup_alone log is (suc more) low = absurd (omega (arith, low))

-- payloads that tell all records
pub all_told : (log : Log) (payloads : List (List ℕ)) → IsStore (setup_of log) payloads (told_records (records_of log)) → (more : ℕ) → more ≤ 0 → TellFirst log (payloads ++ take more []) (length (records_of log) + more)
all_told log payloads store zero low =
    let whole : take (length (records_of log)) (records_of log) ≡ records_of log = take_all (length (records_of log)) (records_of log) (omega arith) in
    let first : TellFirst log payloads (length (records_of log)) = record { low = omega arith; store = subst (λ (rs : List (List Item)). IsStore (setup_of log) payloads (told_records rs)) (sym whole) store } in
    let number : length (records_of log) ≡ length (records_of log) + 0 = omega arith in
    subst₂ (TellFirst log) (sym (append-nil payloads)) number first
all_told log payloads store (suc more) low = absurd (omega (arith, low))
