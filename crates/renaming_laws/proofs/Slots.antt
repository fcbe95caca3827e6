-- Each descriptor gives a description that is there, also after a step.
use Rattle.std.proofs.Common.{◌≡◌, ◌≢◌, ◌⊎◌, ℕ, ◌+◌, cond, List, [], ◌∷◌, Option, Some, None, sym, ap, ◌∙◌, nat_cmp, inl, inr}
use Rattle.std.specs.List.{AllByRecursion}
use Rattle.std.proofs.lemmas.Bool.{cases_eq}
use Rattle.model.specs.FiniteMap.{FinMap, get, insert, remove}
use Rattle.model.specs.State.{Kernel, Inode, Pipe, Description, Process}
use Rattle.model.specs.Changes.{Edit, Mode, Make_directory, Make_file, Make_fixed, Name_file, Unname_file, Unname_directory, Swap, Wipe, Move, Put_bytes, Cut, Take, Append, Set_offset, Set_rights, Open_inode, Make_pipe, Share_slot, Clear_slot, New_process, End_process, number, Made, or_new, process_of, set_inode, set_process, set_description, set_offset, with_slot, without_slot, at_start, open_at, to_read, to_write, is_held, applied, all_applied, tidy}
use Rattle.model.specs.Moments.{Setup, start}
use Rattle.model.proofs.Laws.{get_same, get_other, removed_same, removed_other}
use Rattle.call_laws.proofs.Laws.{calls_are_lawful_lem, empty_gives, get_retained, held_by, not_none, some_same, stays_inserted}
use Rattle.renaming_laws.specs.Laws.{SlotsAreThere}
use Rattle.renaming_laws.proofs.Sound.{SharesThere}

abbrev table_in : Option Process → FinMap nat_cmp ℕ
table_in x = (or_new x).table

slot_from : (table : FinMap nat_cmp ℕ) (fd d other e : ℕ) → get (insert table fd d) other ≡ Some e → (d ≡ e) ⊎ (get table other ≡ Some e)
slot_from table fd d other e is =
    elim (cases_eq other fd) [
      | inl same ↦ inl (some_same d e (sym (ap (get (insert table fd d)) same ∙ get_same table fd d) ∙ is))
      | inr away ↦ inr (sym (get_other table fd other d away) ∙ is)
    ]

slot_left : (table : FinMap nat_cmp ℕ) (fd other e : ℕ) → get (remove table fd) other ≡ Some e → get table other ≡ Some e
slot_left table fd other e is =
    elim (cases_eq other fd) [
      | inl same ↦ absurd (not_none e (sym is ∙ ap (get (remove table fd)) same ∙ removed_same table fd))
      | inr away ↦ sym (removed_other table fd other away) ∙ is
    ]

process_put : (pid : ℕ) (process : Process) (k : Kernel) → SlotsAreThere k → ((fd d : ℕ) → get process.table fd ≡ Some d → get k.descriptions d ≢ None) → SlotsAreThere (set_process pid process k)
process_put pid process k slots own = record {
  there = λ q fd d is. elim (cases_eq q pid) [
    | inl same ↦ own fd d (ap (λ x. get (table_in x) fd) (sym (ap (get (insert k.processes pid process)) same ∙ get_same k.processes pid process)) ∙ is)
    | inr away ↦ slots.there q fd d (ap (λ x. get (table_in x) fd) (sym (get_other k.processes pid q process away)) ∙ is)
  ];
}

description_put : (d : ℕ) (it : Description) (k : Kernel) → SlotsAreThere k → SlotsAreThere (set_description d it k)
description_put d it k slots = record { there = λ pid fd e is. stays_inserted k.descriptions d it e (slots.there pid fd e is) }

offset_put : (d place : ℕ) (o : Option Description) (k : Kernel) → SlotsAreThere k → SlotsAreThere (set_offset d place o k)
offset_put d place None k slots = slots
offset_put d place (Some old) k slots = description_put d (record old { offset = place }) k slots

-- a slot for a description that is there
shared : (pid fd d : ℕ) (k : Kernel) → SlotsAreThere k → get k.descriptions d ≢ None → SlotsAreThere (set_process pid (with_slot fd d (process_of k pid)) k)
shared pid fd d k slots there = process_put pid (with_slot fd d (process_of k pid)) k slots (λ other e is none.
    elim (slot_from (process_of k pid).table fd d other e is) [
      | inl same ↦ there (ap (get k.descriptions) same ∙ none)
      | inr before ↦ slots.there pid other e before none
    ])

opened : (d n : ℕ) (mode : Mode) (pid fd : ℕ) (k : Kernel) → SlotsAreThere k → SlotsAreThere (open_at d n mode pid fd k)
opened d n mode pid fd k slots = shared pid fd d (set_description d (at_start n mode) k) (description_put d (at_start n mode) k slots) (λ none. not_none (at_start n mode) (sym (get_same k.descriptions d (at_start n mode)) ∙ none))

-- other inodes
inode_put : (n : ℕ) (inode : Inode) (k : Kernel) → SlotsAreThere k → SlotsAreThere (set_inode n inode k)
inode_put n inode k slots = record { there = slots.there }

edit_keeps : (chosen : List ℕ) (k : Kernel) (e : Edit) → SharesThere k e → SlotsAreThere k → SlotsAreThere (applied chosen e k)
unfolding applied
edit_keeps chosen k (Make_directory d x i) h slots = record { there = slots.there }
edit_keeps chosen k (Make_file d x i) h slots = record { there = slots.there }
edit_keeps chosen k (Make_fixed d x fixed i) h slots = record { there = slots.there }
edit_keeps chosen k (Name_file d x n) h slots = record { there = slots.there }
edit_keeps chosen k (Unname_file d x n) h slots = record { there = slots.there }
edit_keeps chosen k (Unname_directory d x n) h slots = record { there = slots.there }
edit_keeps chosen k (Move d x e y n replaced) h slots = record { there = slots.there }
edit_keeps chosen k (Swap d x n e y m) h slots = record { there = slots.there }
edit_keeps chosen k (Put_bytes n place bytes before) h slots = record { there = slots.there }
edit_keeps chosen k (Wipe n place count) h slots = record { there = slots.there }
edit_keeps chosen k (Cut n before after) h slots = record { there = slots.there }
edit_keeps chosen k (Take p count) h slots = record { there = slots.there }
edit_keeps chosen k (Append p bytes) h slots = record { there = slots.there }
edit_keeps chosen k (Set_offset d place) h slots = offset_put d place (get k.descriptions d) k slots
edit_keeps chosen k (Set_rights n set) h slots = record { there = slots.there }
edit_keeps chosen k (Open_inode i inode mode pid fd) h slots = opened (number chosen (Made i)) (number chosen inode) mode pid fd k slots
edit_keeps chosen k (Make_pipe i pid reader writer) h slots =
    let p : ℕ = number chosen (Made i) in
    let made : Kernel = set_inode p (Pipe []) k in
    opened (number chosen (Made (i + 2))) p to_write pid writer (open_at (number chosen (Made (i + 1))) p to_read pid reader made) (opened (number chosen (Made (i + 1))) p to_read pid reader made (inode_put p (Pipe []) k slots))
edit_keeps chosen k (Share_slot pid fd d pipes) h slots = shared pid fd d k slots h
edit_keeps chosen k (Clear_slot pid fd pipes) h slots = process_put pid (without_slot fd (process_of k pid)) k slots (λ other e is. slots.there pid other e (slot_left (process_of k pid).table fd other e is))
edit_keeps chosen k (New_process child parent pipes) h slots =
    let put : SlotsAreThere (set_process child (process_of k parent) k) = process_put child (process_of k parent) k slots (λ fd d is. slots.there parent fd d is) in
    record { there = put.there }
edit_keeps chosen k (End_process pid pipes) h slots = record {
  there = λ q fd d is. elim (cases_eq q pid) [
    | inl same ↦ absurd (empty_gives nat_cmp fd d (ap (λ x. get (table_in x) fd) (sym (ap (get (remove k.processes pid)) same ∙ removed_same k.processes pid)) ∙ is))
    | inr away ↦ slots.there q fd d (ap (λ x. get (table_in x) fd) (sym (removed_other k.processes pid q away)) ∙ is)
  ];
}

-- before tidying no description goes
offset_stays : (d place : ℕ) (o : Option Description) (k : Kernel) (e : ℕ) → get k.descriptions e ≢ None → get (set_offset d place o k).descriptions e ≢ None
offset_stays d place None k e there = there
offset_stays d place (Some old) k e there = stays_inserted k.descriptions d (record old { offset = place }) e there

description_stays : (chosen : List ℕ) (k : Kernel) (e : Edit) (d : ℕ) → get k.descriptions d ≢ None → get (applied chosen e k).descriptions d ≢ None
unfolding applied
description_stays chosen k (Set_offset e place) d there = offset_stays e place (get k.descriptions e) k d there
description_stays chosen k (Open_inode i inode mode pid fd) d there = stays_inserted k.descriptions (number chosen (Made i)) (at_start (number chosen inode) mode) d there
description_stays chosen k (Make_pipe i pid reader writer) d there =
    stays_inserted (insert k.descriptions (number chosen (Made (i + 1))) (at_start (number chosen (Made i)) to_read)) (number chosen (Made (i + 2))) (at_start (number chosen (Made i)) to_write) d
    (stays_inserted k.descriptions (number chosen (Made (i + 1))) (at_start (number chosen (Made i)) to_read) d there)
description_stays chosen k _ d there = there

still_shared : (chosen : List ℕ) (k : Kernel) (e other : Edit) → SharesThere k other → SharesThere (applied chosen e k) other
still_shared chosen k e (Share_slot pid fd d pipes) h = description_stays chosen k e d h
still_shared chosen k e _ h = tt

all_still : (chosen : List ℕ) (k : Kernel) (e : Edit) (es : List Edit) → AllByRecursion (SharesThere k) es → AllByRecursion (SharesThere (applied chosen e k)) es
all_still chosen k e [] h = tt
all_still chosen k e (other ∷ es) h = (still_shared chosen k e other h.0, all_still chosen k e es h.1)

pub edits_keep : (chosen : List ℕ) (k : Kernel) (es : List Edit) → AllByRecursion (SharesThere k) es → SlotsAreThere k → SlotsAreThere (all_applied chosen es k)
edits_keep chosen k [] h slots = slots
edits_keep chosen k (e ∷ es) h slots = edits_keep chosen (applied chosen e k) es (all_still chosen k e es h.1) (edit_keeps chosen k e h.0 slots)

-- tidying leaves what a descriptor gives
pub tidying_keeps : (k : Kernel) → SlotsAreThere k → SlotsAreThere (tidy k)
unfolding tidy
tidying_keeps k slots = record {
  there = λ pid fd d is none. slots.there pid fd d is (sym (get_retained k.descriptions (is_held k) d ∙ ap (λ b. cond b (get k.descriptions d) None) (held_by k pid fd d is)) ∙ none);
}

pub slots_at_start : (root : ℕ) (setup : Setup) → SlotsAreThere (start root setup)
slots_at_start root setup = record {
  there = λ pid fd d is none. let it = (calls_are_lawful_lem.well_start root setup).slots pid fd d is in not_none it.0 (sym it.1 ∙ none);
}
