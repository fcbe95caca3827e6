-- What a process sees of itself in a renamed state.
use Rattle.std.proofs.Common.{◌≡◌, ◌≢◌, ℕ, Bool, true, false, cond, ◌||◌, if◌then◌else◌, ◌==◌, List, [], ◌∷◌, ◌++◌, map, flat_map, Option, Some, None, refl, sym, ap, ap₂, ◌∙◌}
use Rattle.std.specs.List.{AllByRecursion, list_any}
use Rattle.std.specs.Map.{lookup}
use Rattle.std.specs.Cmp.{nat_cmp_total}
use Rattle.std.proofs.lemmas.List.{map-append}
use Rattle.model.specs.FiniteMap.{get, entries, nat_cmp-IsAntisymmetric}
use Rattle.model.specs.State.{Kernel, Description, Process, mapped}
use Rattle.model.specs.Changes.{process_of}
use Rattle.model.specs.Calls.{Call, Fork, Slot, Own, slot_of, birth_of, own}
use Rattle.model.specs.Plans.{free_from, free, open_limit, slot_at, is_pipe, pipe_in, each_once, pipes_in}
use Rattle.model.proofs.Laws.{all_entries}
use Rattle.renaming_laws.specs.Renaming.{IsRenaming, renamed_description, renamed}
use Rattle.renaming_laws.specs.Renamed.{renamed_slot, renamed_own}
use Rattle.renaming_laws.specs.Laws.{SlotsAreThere}
use Rattle.renaming_laws.proofs.Maps.{entries-with_values}
use Rattle.renaming_laws.proofs.States.{same_test, description_at, kind_at, process_at}

abbrev with_seen : Kernel → ℕ × ℕ → ℕ × Slot
with_seen k e = (e.0, slot_of k e.1 (get k.descriptions e.1))

abbrev with_renamed : (ℕ → ℕ) → ℕ × Slot → ℕ × Slot
with_renamed f e = (e.0, renamed_slot f e.1)

module _ (f : ℕ → ℕ) (r : IsRenaming f) where
  slot_renamed : (k : Kernel) (d : ℕ) (o : Option Description) → o ≢ None → slot_of (renamed f k) (f d) (mapped (renamed_description f) o) ≡ renamed_slot f (slot_of k d o)
  slot_renamed k d None there = absurd (there refl)
  slot_renamed k d (Some it) there = λ i. record {
    description = f d;
    inode = f it.inode;
    kind = kind_at f r k it.inode i;
    reading = it.reading;
    writing = it.writing;
    appending = it.appending;
  }

  seen_slots : (k : Kernel) (es : List (ℕ × ℕ)) → AllByRecursion (λ e. get k.descriptions e.1 ≢ None) es → map (with_seen (renamed f k)) (map (λ e. (e.0, f e.1)) es) ≡ map (with_renamed f) (map (with_seen k) es)
  seen_slots k [] there = refl
  seen_slots k (e ∷ es) there =
      ap₂ (λ (s : Slot) (rest : List (ℕ × Slot)). (e.0, s) ∷ rest)
      (ap (slot_of (renamed f k) (f e.1)) (description_at f r k e.1) ∙ slot_renamed k e.1 (get k.descriptions e.1) there.0)
      (seen_slots k es there.1)

  table_seen : (k : Kernel) → SlotsAreThere k → (pid : ℕ) → map (with_seen (renamed f k)) (entries (process_of (renamed f k) pid).table) ≡ map (with_renamed f) (map (with_seen k) (entries (process_of k pid).table))
  table_seen k slots pid =
      ap (λ (process : Process). map (with_seen (renamed f k)) (entries process.table)) (process_at f r k pid)
      ∙ ap (map (with_seen (renamed f k))) (entries-with_values nat_cmp_total nat_cmp-IsAntisymmetric f (process_of k pid).table)
      ∙ seen_slots k (entries (process_of k pid).table) (all_entries nat_cmp_total (λ fd d. get k.descriptions d ≢ None) (process_of k pid).table (λ fd d. slots.there pid fd d))

  birth_seen : (k : Kernel) (pid : ℕ) (call : Call) → birth_of (renamed f k) pid call ≡ birth_of k pid call
  birth_seen k pid Fork = ap (λ (process : Process). Some (k.made, process.priority)) (process_at f r k pid)
  birth_seen k pid _ = refl

  pub own_renamed : (k : Kernel) → SlotsAreThere k → (pid : ℕ) (call : Call) → own (renamed f k) pid call ≡ renamed_own f (own k pid call)
  own_renamed k slots pid call = λ i. record { root = f k.root; bounds = k.bounds; pid = pid; table = table_seen k slots pid i; birth = birth_seen k pid call i }

  -- a renamed table
  taken_still : (fd : ℕ) (table : List (ℕ × Slot)) → list_any (λ e. e.0 == fd) (map (with_renamed f) table) ≡ list_any (λ e. e.0 == fd) table
  taken_still fd [] = refl
  taken_still fd (e ∷ table) = ap (λ b. (e.0 == fd) || b) (taken_still fd table)

  free_from_still : (table : List (ℕ × Slot)) (fd more : ℕ) → free_from (map (with_renamed f) table) fd more ≡ free_from table fd more
  free_from_still table fd ℕ.zero = refl
  free_from_still table fd (ℕ.suc more) = ap₂ (λ (b : Bool) (rest : List ℕ). if b then rest else fd ∷ rest) (taken_still fd table) (free_from_still table (ℕ.suc fd) more)

  pub free_still : (own : Own) → free (renamed_own f own) ≡ free own
  free_still own = free_from_still own.table 0 (open_limit own)

  found_renamed : (fd : ℕ) (table : List (ℕ × Slot)) → lookup (λ g. g == fd) (map (with_renamed f) table) ≡ mapped (renamed_slot f) (lookup (λ g. g == fd) table)
  found_renamed fd [] = refl
  found_renamed fd (e ∷ table) = by_test (e.0 == fd) (found_renamed fd table)
    where
      by_test : (b : Bool) → lookup (λ g. g == fd) (map (with_renamed f) table) ≡ mapped (renamed_slot f) (lookup (λ g. g == fd) table)
          → cond b (Some (renamed_slot f e.1)) (lookup (λ g. g == fd) (map (with_renamed f) table)) ≡ mapped (renamed_slot f) (cond b (Some e.1) (lookup (λ g. g == fd) table))
      by_test true rest = refl
      by_test false rest = rest

  pub slot_found : (own : Own) (fd : ℕ) → slot_at (renamed_own f own) fd ≡ mapped (renamed_slot f) (slot_at own fd)
  slot_found own fd = found_renamed fd own.table

  -- the pipes that it has open
  pub pipe_renamed : (o : Option Slot) → pipe_in (mapped (renamed_slot f) o) ≡ map f (pipe_in o)
  pipe_renamed None = refl
  pipe_renamed (Some s) = by_test (is_pipe s.kind)
    where
      by_test : (b : Bool) → ◌≡◌ {A = List ℕ} (if b then f s.inode ∷ [] else []) (map f (if b then s.inode ∷ [] else []))
      by_test true = refl
      by_test false = refl

  all_pipes : (table : List (ℕ × Slot)) → flat_map (λ e. pipe_in (Some e.1)) (map (with_renamed f) table) ≡ map f (flat_map (λ e. pipe_in (Some e.1)) table)
  all_pipes [] = refl
  all_pipes (e ∷ table) = ap₂ (λ (xs : List ℕ) (ys : List ℕ). xs ++ ys) (pipe_renamed (Some e.1)) (all_pipes table) ∙ sym (map-append f (pipe_in (Some e.1)) (flat_map (λ e. pipe_in (Some e.1)) table))

  listed_still : (n : ℕ) (ns : List ℕ) → list_any (λ m. m == f n) (map f ns) ≡ list_any (λ m. m == n) ns
  listed_still n [] = refl
  listed_still n (m ∷ ns) = ap₂ (λ a b. a || b) (same_test f r m n) (listed_still n ns)

  once_renamed : (before ns : List ℕ) → each_once (map f before) (map f ns) ≡ map f (each_once before ns)
  once_renamed before [] = refl
  once_renamed before (n ∷ ns) =
      ap (λ b. if b then each_once (map f before) (map f ns) else f n ∷ each_once (map f (n ∷ before)) (map f ns)) (listed_still n before)
      ∙ by_test (list_any (λ m. m == n) before) (once_renamed before ns) (once_renamed (n ∷ before) ns)
    where
      by_test : (b : Bool) → each_once (map f before) (map f ns) ≡ map f (each_once before ns) → each_once (map f (n ∷ before)) (map f ns) ≡ map f (each_once (n ∷ before) ns)
          → (if b then each_once (map f before) (map f ns) else f n ∷ each_once (map f (n ∷ before)) (map f ns)) ≡ map f (if b then each_once before ns else n ∷ each_once (n ∷ before) ns)
      by_test true without with_it = without
      by_test false without with_it = ap (λ rest. f n ∷ rest) with_it

  pub pipes_renamed : (own : Own) → pipes_in (renamed_own f own) ≡ map f (pipes_in own)
  pipes_renamed own = ap (each_once []) (all_pipes own.table) ∙ once_renamed [] (flat_map (λ e. pipe_in (Some e.1)) own.table)
