-- No call writes all names of a directory. So of what transactions touched, the marks say what the
-- definitions say.
use Rattle.std.proofs.Common.{◌≡◌, ℕ, ◌+◌, ◌==◌, nat_lt, refl, sym, ◌∙◌, true, false, Bool, List, [], ◌∷◌, ◌++◌, map, length, if◌then◌else◌}
use Rattle.std.specs.Prelude.{◌||◌}
use Rattle.std.specs.List.{list_any, flat_map, AllByRecursion}
use Rattle.std.proofs.lemmas.List.Folds.{list_any-append}
use Rattle.model.specs.State.{Kernel}
use Rattle.model.specs.Aspects.{Aspect, Entry, Names, Size, Block, Links, Ends, Offset, Front, Back}
use Rattle.model.specs.Aspects.{Target, Rights}
use Rattle.model.specs.Changes.{Edit, Make_directory, Make_file, Make_fixed, Name_file, Unname_file, Unname_directory, Swap, Wipe, Move, Put_bytes, Cut, Take, Append, Set_offset, Set_rights, Share_slot, Clear_slot, New_process, End_process, marks, file_replaced}
use Rattle.model.specs.Calls.{Call}
use Rattle.model.specs.Entries.{Executed}
use Rattle.model.specs.Steps.{Touch, reads, writes, edits, touches}
use Rattle.model.specs.Moments.{Moment, after_step, list_touches, calls_at, held_by}
use Rattle.model.specs.Modes.{writes_entry, is_writer}
use Rattle.model.proofs.Laws.{append-all}
use Rattle.marked_records.specs.Marks.{changes_names}

module _ (d : ℕ) where
  abbrev marked : Touch → Bool
  marked t = changes_names d t.aspect t.write

  abbrev written : Touch → Bool
  written t = writes_entry d t.aspect t.write

  abbrev IsSame : Aspect → Type 0
  IsSame a = changes_names d a true ≡ writes_entry d a true

  all_map : {A : Type 0} (f : A → Aspect) → ((x : A) → IsSame (f x)) → (xs : List A) → AllByRecursion IsSame (map f xs)
  all_map f same [] = tt
  all_map f same (x ∷ xs) = (same x, all_map f same xs)

  optional : (b : Bool) (n : ℕ) → AllByRecursion IsSame (if b then Size n ∷ [] else [])
  optional true n = (refl, tt)
  optional false n = tt

  unless : (b : Bool) (n : ℕ) → AllByRecursion IsSame (if b then [] else Size n ∷ [])
  unless true n = tt
  unless false n = (refl, tt)

  edit_same : (e : Edit) → AllByRecursion IsSame (marks e)
  edit_same (Make_directory e x i) = (refl, tt)
  edit_same (Make_file e x i) = (refl, tt)
  edit_same (Make_fixed e x fixed i) = (refl, tt)
  edit_same (Name_file e x n) = (refl, (refl, tt))
  edit_same (Unname_file e x n) = (refl, (refl, tt))
  edit_same (Unname_directory e x n) = (refl, tt)
  edit_same (Move e x f y n replaced) = (refl, (refl, all_map Links (λ x. refl) (file_replaced replaced)))
  edit_same (Swap e x n f y m) = (refl, (refl, tt))
  edit_same (Put_bytes n place bytes before) = append-all IsSame _ _ (optional (nat_lt before (place + length bytes)) n) (all_map (Block n) (λ x. refl) _)
  edit_same (Wipe n place count) = all_map (Block n) (λ x. refl) _
  edit_same (Cut n before after) = append-all IsSame _ _ (unless (before == after) n) (all_map (Block n) (λ x. refl) _)
  edit_same (Take p count) = (refl, tt)
  edit_same (Append p bytes) = (refl, tt)
  edit_same (Set_offset e place) = (refl, tt)
  edit_same (Set_rights n rights) = (refl, tt)
  edit_same (Share_slot pid f e pipes) = all_map Ends (λ x. refl) pipes
  edit_same (Clear_slot pid f pipes) = all_map Ends (λ x. refl) pipes
  edit_same (New_process child parent pipes) = all_map Ends (λ x. refl) pipes
  edit_same (End_process pid pipes) = all_map Ends (λ x. refl) pipes
  edit_same e = tt

  edits_same : (es : List Edit) → AllByRecursion IsSame (flat_map marks es)
  edits_same [] = tt
  edits_same (e ∷ es) = append-all IsSame (marks e) (flat_map marks es) (edit_same e) (edits_same es)

  none_changed : (a : Aspect) → changes_names d a false ≡ writes_entry d a false
  none_changed (Entry e x) = refl
  none_changed (Names e) = refl
  none_changed (Size n) = refl
  none_changed (Block n i) = refl
  none_changed (Links n) = refl
  none_changed (Ends n) = refl
  none_changed (Offset n) = refl
  none_changed (Front n) = refl
  none_changed (Back n) = refl
  none_changed (Target n) = refl
  none_changed (Rights n) = refl

  any_read : (seen : List Aspect) → list_any marked (map (λ a. record { aspect = a; write = false }) seen) ≡ list_any written (map (λ a. record { aspect = a; write = false }) seen)
  any_read [] = refl
  any_read (a ∷ seen) = λ i. none_changed a i || any_read seen i

  any_written : (seen : List Aspect) → AllByRecursion IsSame seen → list_any marked (map (λ a. record { aspect = a; write = true }) seen) ≡ list_any written (map (λ a. record { aspect = a; write = true }) seen)
  any_written [] h = refl
  any_written (a ∷ seen) h = λ i. h.0 i || any_written seen h.1 i

  of_parts : (xs ys : List Touch) → list_any marked xs ≡ list_any written xs → list_any marked ys ≡ list_any written ys → list_any marked (xs ++ ys) ≡ list_any written (xs ++ ys)
  of_parts xs ys f g = list_any-append marked xs ys ∙ (λ i. f i || g i) ∙ sym (list_any-append written xs ys)

  of_call : (k : Kernel) (pid : ℕ) (call : Call) → list_any marked (touches k pid call) ≡ list_any written (touches k pid call)
  of_call k pid call = of_parts (map (λ a. record { aspect = a; write = false }) (reads k pid call)) (map (λ a. record { aspect = a; write = true }) (writes k pid call)) (any_read (reads k pid call)) (any_written (writes k pid call) (edits_same (edits k pid call)))

  of_list : (pid : ℕ) (es : List Executed) (k : Kernel) → list_any marked (list_touches pid es k) ≡ list_any written (list_touches pid es k)
  of_list pid [] k = refl
  of_list pid (e ∷ es) k = of_parts (touches k pid e.call) (list_touches pid es (after_step pid e k)) (of_call k pid e.call) (of_list pid es (after_step pid e k))

  -- what a live transaction touched
  pub writer_held : (m : Moment) (q : ℕ) → list_any marked (held_by m q) ≡ is_writer d (held_by m q)
  writer_held m q = of_list q (calls_at m q) m.committed
