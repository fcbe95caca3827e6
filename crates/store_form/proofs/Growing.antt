-- Records of a history, and stores that grow by them.
use Rattle.std.proofs.Common.{◌≡◌, ℕ, zero, suc, Bool, true, false, cond, List, [], ◌∷◌, ◌++◌, map, take, refl, sym, ap, ◌∙◌}
use Rattle.std.specs.List.{flat_map, AllByRecursion}
use Rattle.std.proofs.lemmas.Grind.{flat_map-append}
use Rattle.std.proofs.lemmas.List.{map-append}
use Rattle.model.specs.Steps.{Item}
use Rattle.model.specs.Entries.{Entry}
use Rattle.model.specs.Moments.{Moment, status, run_by, next}
use Rattle.model.specs.Legal.{items}
use Rattle.entry_codec.specs.Entries.{AreEntries, entries_bytes}
use Rattle.redo_records.specs.Changing.{changes, changing}
use Rattle.redo_records.specs.Kept.{AreOf}
use Rattle.redo_records.specs.Recording.{Tell}
use Rattle.redo_records.specs.Records.{added, as_record, records_from, all_of}
use Rattle.redo_records.proofs.Laws.{are_items}
use Rattle.store_form.specs.Setups.{setup_bytes}
use Rattle.store_form.specs.Stores.{Told, told_item, told_of, IsOfChange, IsRecord}
use Rattle.store_form.specs.Laws.{told_records, AreChanges, StoresGrow, ToldRecordsAreChanges}

abbrev Changes : Item → Type 0
Changes it = changes it.call it.answer ≡ true

-- all of two lists
pub all_of_both : {X : Type 0} (P : X → Type 0) (xs ys : List X) → AllByRecursion P xs → AllByRecursion P ys → AllByRecursion P (xs ++ ys)
all_of_both P [] ys p q = q
all_of_both P (x ∷ xs) ys p q = (p.0, all_of_both P xs ys p.1 q)

all_of_first : {X : Type 0} (P : X → Type 0) (n : ℕ) (xs : List X) → AllByRecursion P xs → AllByRecursion P (take n xs)
all_of_first P zero xs p = tt
all_of_first P (suc n) [] p = tt
all_of_first P (suc n) (x ∷ xs) p = (p.0, all_of_first P n xs p.1)

-- what passes a test
kept_by : (b : Bool) (it : Item) (its : List Item) → changes it.call it.answer ≡ b → AllByRecursion Changes its → AllByRecursion Changes (cond b (it ∷ its) its)
kept_by true it its is p = (is, p)
kept_by false it its is p = p

are_changing : (its : List Item) → AllByRecursion Changes (changing its)
are_changing [] = tt
are_changing (it ∷ its) = kept_by (changes it.call it.answer) it (changing its) refl (are_changing its)

one_record : (its : List Item) → AllByRecursion Changes its → AreChanges (as_record its)
one_record [] p = tt
one_record (it ∷ its) p = (p, tt)

pub records_are_changes : (m : Moment) (es : List Entry) → AreChanges (records_from m es)
records_are_changes m [] = tt
records_are_changes m (e ∷ es) =
    let own = items e.pid (run_by (status m e.pid) e.op e.reply e.chosen) in
    all_of_both (AllByRecursion Changes) (as_record (added m e)) (records_from (next m e) es) (one_record (added m e) (are_changing own)) (records_are_changes (next m e) es)

pub told_records_are_changes : ToldRecordsAreChanges
told_records_are_changes m es n =
    let all = records_are_changes m es in
    record { all = all; first = all_of_first (AllByRecursion Changes) n (records_from m es) all }

-- ---- entries that tell records

of_changes : (its : List Item) (es : List Entry) → AreOf its es → AllByRecursion Changes its → AllByRecursion IsOfChange es
of_changes [] [] h p = tt
of_changes [] (e ∷ es) h p = absurd h
of_changes (it ∷ its) [] h p = absurd h
of_changes (it ∷ its) (e ∷ es) h p = ((it, h.0, p.0), of_changes its es h.1 p.1)

are_records : (rs : List (List Item)) (ess : List (List Entry)) → Tell rs ess → AreChanges rs → AllByRecursion AreEntries ess → AllByRecursion IsRecord ess
are_records [] [] h p q = tt
are_records [] (es ∷ ess) h p q = absurd h
are_records (r ∷ rs) [] h p q = absurd h
are_records (r ∷ rs) (es ∷ ess) h p q = (record { each = of_changes r es h.0 p.0; fits = q.0 }, are_records rs ess h.1 p.1 q.1)

told_same : (rs : List (List Item)) (ess : List (List Entry)) → Tell rs ess → flat_map told_of ess ≡ told_records rs
told_same [] [] h = refl
told_same [] (es ∷ ess) h = absurd h
told_same (r ∷ rs) [] h = absurd h
told_same (r ∷ rs) (es ∷ ess) h =
    ap (λ (xs : List Item). map told_item xs ++ flat_map told_of ess) (are_items r es h.0)
    ∙ ap (λ (ts : List Told). map told_item r ++ ts) (told_same rs ess h.1)
    ∙ sym (map-append told_item r (all_of rs))

pub stores_grow : StoresGrow
stores_grow setup payloads told rs ess store changed tells fit = record {
  is_setup = store.is_setup;
  records = store.records ++ ess;
  each = all_of_both IsRecord store.records ess store.each (are_records rs ess tells changed fit);
  bytes = ap (λ (ps : List (List ℕ)). ps ++ map entries_bytes ess) store.bytes
      ∙ ap (λ (ps : List (List ℕ)). setup_bytes setup ∷ ps) (sym (map-append entries_bytes store.records ess));
  tell = ap (λ (ts : List Told). ts ++ told_records rs) store.tell
      ∙ ap (λ (ts : List Told). flat_map told_of store.records ++ ts) (sym (told_same rs ess tells))
      ∙ sym (flat_map-append told_of store.records ess);
}
