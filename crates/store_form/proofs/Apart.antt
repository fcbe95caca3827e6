-- Payloads are one store.
use Rattle.std.proofs.Common.{◌≡◌, ℕ, List, [], ◌∷◌, map, refl, sym, ap, ◌∙◌}
use Rattle.std.specs.List.{flat_map, AllByRecursion}
use Rattle.model.specs.Entries.{Entry}
use Rattle.entry_codec.specs.Entries.{entries_bytes}
use Rattle.entry_codec.proofs.EntryForms.{one_record}
use Rattle.store_form.specs.Setups.{setup_bytes}
use Rattle.store_form.specs.Stores.{told_of, IsRecord}
use Rattle.store_form.specs.Laws.{StoresAreToldApart}
use Rattle.store_form.proofs.Forms.{one_setup}

heads : (x y : List ℕ) (xs ys : List (List ℕ)) → ◌≡◌ {A = List (List ℕ)} (x ∷ xs) (y ∷ ys) → x ≡ y
heads x y xs ys h = cc

tails : (x y : List ℕ) (xs ys : List (List ℕ)) → ◌≡◌ {A = List (List ℕ)} (x ∷ xs) (y ∷ ys) → xs ≡ ys
tails x y xs ys h = cc

both_same : (r q : List Entry) (rs qs : List (List Entry)) → r ≡ q → rs ≡ qs → ◌≡◌ {A = List (List Entry)} (r ∷ rs) (q ∷ qs)
both_same r q rs qs h g = cc

same_records : (rs qs : List (List Entry)) → AllByRecursion IsRecord rs → AllByRecursion IsRecord qs → map entries_bytes rs ≡ map entries_bytes qs → rs ≡ qs
same_records [] [] p o h = refl
same_records [] (q ∷ qs) p o h = absurd cc
same_records (r ∷ rs) [] p o h = absurd cc
same_records (r ∷ rs) (q ∷ qs) p o h =
    both_same r q rs qs
    (one_record r q p.0.fits o.0.fits (heads (entries_bytes r) (entries_bytes q) (map entries_bytes rs) (map entries_bytes qs) h))
    (same_records rs qs p.1 o.1 (tails (entries_bytes r) (entries_bytes q) (map entries_bytes rs) (map entries_bytes qs) h))

pub stores_are_told_apart : StoresAreToldApart
stores_are_told_apart setup other payloads told others p q =
    let same : setup_bytes setup ∷ map entries_bytes p.records ≡ setup_bytes other ∷ map entries_bytes q.records = sym p.bytes ∙ q.bytes in
    let records = same_records p.records q.records p.each q.each (tails (setup_bytes setup) (setup_bytes other) (map entries_bytes p.records) (map entries_bytes q.records) same) in (
      one_setup setup other p.is_setup q.is_setup (heads (setup_bytes setup) (setup_bytes other) (map entries_bytes p.records) (map entries_bytes q.records) same),
      p.tell ∙ ap (λ (rs : List (List Entry)). flat_map told_of rs) records ∙ sym q.tell,
    )
