-- A well-formed state stays so through each edit that fits it.
use Rattle.std.proofs.Common.{◌≡◌, ◌≢◌, ◌⊎◌, ℕ, suc, ◌<◌, ◌≤◌, true, false, List, [], ◌∷◌, ◌++◌, drop, replicate, Option, Some, None, is_some, refl, sym, ap, subst, ◌∙◌, arith, nat_cmp, inl, inr}
use Rattle.std.specs.Cmp.Lexicographic.{nat_list_cmp_total}
use Rattle.std.proofs.lemmas.Bool.{cases_eq}
use Rattle.model.specs.FiniteMap.{FinMap, get, empty, insert, remove}
use Rattle.model.specs.State.{Name, Kind, A_file, A_directory, A_pipe, Kernel, Inode, File, Directory, Pipe, Fixed, Description, Process, Fixed_content, Link_to, Fifo, Socket, Rights, kind_of, names_of, file_of, pipe_of, links}
use Rattle.ids.specs.Fixed.{fixed_kind}
use Rattle.model.specs.Moments.{is_alive}
use Rattle.model.specs.Changes.{Edit, Made, number, Mode, Make_directory, Make_file, Make_fixed, Name_file, Unname_file, Unname_directory, Move, Swap, Put_bytes, Wipe, Cut, Take, Append, Set_offset, Set_rights, Open_inode, Make_pipe, Share_slot, Clear_slot, New_process, End_process, applied, all_applied, process_of, set_inode, set_name, clear_name, set_rights, set_process, set_description, at_offset, at_start, with_slot, without_slot, open_at, to_read, to_write, sized, written}
use Rattle.call_laws.specs.WellFormed.{WellFormed, CanBeNamed, CanBeOpened, most_descriptors}
use Rattle.call_laws.specs.Fits.{Fits, FitsAll, table_of, IsAlive, CanPipe}
use Rattle.model.proofs.Laws.{get_same, get_other}
use Rattle.call_laws.proofs.Maps.{not_none, from_insert, from_remove, removed_same, removed_other, empty_gives, none_by_keys}
use Rattle.call_laws.proofs.edits.Names.{has_names}
use Rattle.call_laws.proofs.edits.Contents.{HasBytes, has_bytes, no_names_file, no_names_pipe}
use Rattle.call_laws.proofs.edits.NamesAlike.{IsNew, is_new, kept_kind}
use Rattle.call_laws.proofs.edits.Offsets.{set_there}
use Rattle.call_laws.proofs.edits.Processes.{table_in, table_here, table_there}
use Rattle.call_laws.proofs.edits.Ends.{without_process}
use Rattle.call_laws.proofs.edits.SlotsAlike.{with_tables, pipe_at}
use Rattle.call_laws.proofs.edits.InodeMarks.{linked_is_other, still_gives, other_old}
use Rattle.call_laws.proofs.law.There.{edit_grows}
use Rattle.call_laws.proofs.edits.NamesWell.{NamesAreWell, bytes_names, made_names, linked_names, unnamed_names, moved_names, new_names, has_names_in}
use Rattle.call_laws.proofs.edits.Swapped.{swapped_names, swapped_tree}
use Rattle.call_laws.proofs.edits.Tree.{HasPaths, same_tree, made_tree, linked_tree, unnamed_tree, bytes_tree, moved_tree, new_tree}

-- what is of some kind stays so
abbrev pub KindsStay : Kernel → Kernel → Type 0
KindsStay k after = (t : ℕ) (what : Kind) → kind_of k t ≡ Some what → kind_of after t ≡ Some what

-- what must be seen of slots, descriptions and processes
pub record TablesAreWell (k : Kernel) : Type 0 where
  pub slots : (pid f d : ℕ) → get (table_of k pid) f ≡ Some d → (it : Description) × (get k.descriptions d ≡ Some it)
  pub low : (pid f d : ℕ) → get (table_of k pid) f ≡ Some d → f < most_descriptors k
  pub descriptions : (d : ℕ) (it : Description) → get k.descriptions d ≡ Some it → CanBeOpened (kind_of k it.inode)
  pub counted : (pid : ℕ) → is_alive k pid ≡ true → pid ≤ k.made

pub tables_of : (k : Kernel) → WellFormed k → TablesAreWell k
tables_of k well = record { slots = well.slots; low = well.low; descriptions = well.descriptions; counted = well.counted }

pub tree_of : (k : Kernel) → WellFormed k → HasPaths k
tree_of k well = record { leads = well.leads }

there_still : (k after : Kernel) → KindsStay k after → (n : ℕ) → kind_of k n ≢ None → kind_of after n ≢ None
there_still k after stay n there none = there (by_kind (kind_of k n) refl)
  where
    by_kind : (o : Option Kind) → kind_of k n ≡ o → o ≡ None
    by_kind None e = refl
    by_kind (Some what) e = absurd (not_none what (sym (stay n what e) ∙ none))

well_by : (k after : Kernel) → after.root ≡ k.root → after.rights ≡ k.rights → KindsStay k after → WellFormed k → NamesAreWell k after → HasPaths after → TablesAreWell after → WellFormed after
well_by k after root kept stay well names tree tables = record {
  root = ap (kind_of after) root ∙ stay k.root A_directory well.root;
  root_unnamed = ap (links after) root ∙ names.root_unnamed;
  names = names.named;
  one_name = names.one_name;
  parents = λ d x n is none. names.parent d x n is none ∙ sym root;
  leads = tree.leads;
  slots = tables.slots;
  low = tables.low;
  descriptions = tables.descriptions;
  rights = λ n set is. there_still k after stay n (well.rights n set (ap (λ rs. get rs n) (sym kept) ∙ is));
  counted = tables.counted;
}

pub opened_stays : (x y : Option Kind) → ((what : Kind) → x ≡ Some what → y ≡ Some what) → CanBeOpened x → CanBeOpened y
opened_stays None y stays h = absurd h
opened_stays (Some what) y stays h = subst CanBeOpened (sym (stays what refl)) h

-- other inodes
inode_tables : (k : Kernel) (n : ℕ) (new : Inode) → KindsStay k (set_inode n new k) → TablesAreWell k → TablesAreWell (set_inode n new k)
inode_tables k n new stay tables = record {
  slots = tables.slots;
  low = tables.low;
  descriptions = λ d it is. opened_stays _ _ (stay it.inode) (tables.descriptions d it is);
  counted = tables.counted;
}

-- what a slot gives after a process has a new table
slot_after : (k : Kernel) (q : ℕ) (x : Process) (pid g e : ℕ) → get (table_of (set_process q x k) pid) g ≡ Some e → (get x.table g ≡ Some e) ⊎ (get (table_of k pid) g ≡ Some e)
slot_after k q x pid g e is =
    elim (cases_eq pid q) [
      | inl same ↦ inl (ap (λ (t : FinMap nat_cmp ℕ). get t g) (sym (table_here k q x)) ∙ ap (λ pid. get (table_of (set_process q x k) pid) g) (sym same) ∙ is)
      | inr away ↦ inr (ap (λ (t : FinMap nat_cmp ℕ). get t g) (sym (table_there k q x pid away)) ∙ is)
    ]

-- a slot that is right: it gives a description, and its descriptor is low
abbrev IsSlot : Kernel → ℕ → ℕ → Type 0
IsSlot k g e = ((it : Description) × (get k.descriptions e ≡ Some it)) × (g < most_descriptors k)

-- a new table for a process, each slot of it right
process_tables : (k : Kernel) (q : ℕ) (x : Process) (made : ℕ) → ((g e : ℕ) → get x.table g ≡ Some e → IsSlot k g e) → q ≤ made → k.made ≤ made → TablesAreWell k
    → TablesAreWell (with_tables k k.descriptions (insert k.processes q x) made)
process_tables k q x made each enough more tables = record {
  slots = λ pid g e is. elim (slot_after k q x pid g e is) [ inl here ↦ (each g e here).0 | inr there ↦ tables.slots pid g e there ];
  low = λ pid g e is. elim (slot_after k q x pid g e is) [ inl here ↦ (each g e here).1 | inr there ↦ tables.low pid g e there ];
  descriptions = tables.descriptions;
  counted = λ pid alive. elim (cases_eq pid q) [
    | inl same ↦ (let same' : pid ≡ q = same in omega arith)
    | inr away ↦ (let was : pid ≤ k.made = tables.counted pid (ap is_some (sym (get_other k.processes q pid x away)) ∙ alive) in omega arith)
  ];
}

pub some_alive : (k : Kernel) (pid : ℕ) → IsAlive k pid → is_alive k pid ≡ true
some_alive k pid alive = by_process (get k.processes pid) refl
  where
    by_process : (x : Option Process) → get k.processes pid ≡ x → is_some x ≡ true
    by_process None e = absurd (alive e)
    by_process (Some process) e = refl

pub alive_some : (k : Kernel) (pid : ℕ) → is_alive k pid ≡ true → IsAlive k pid
alive_some k pid alive none = false_is_true (sym (ap is_some none) ∙ alive)
  where
    false_is_true : false ≡ true → ⊥
    false_is_true h = absurd cc

described_tables : (k : Kernel) (d : ℕ) (it : Description) → CanBeOpened (kind_of k it.inode) → TablesAreWell k → TablesAreWell (set_description d it k)
described_tables k d it can tables = record {
  slots = λ pid g e is. elim (cases_eq e d) [
    | inl same ↦ (it, ap (get (insert k.descriptions d it)) same ∙ get_same k.descriptions d it)
    | inr away ↦ (let there = tables.slots pid g e is in (there.0, get_other k.descriptions d e it away ∙ there.1))
  ];
  low = tables.low;
  descriptions = λ e other is. elim (from_insert k.descriptions d e it other is) [
    | inl here ↦ subst (λ (x : Description). CanBeOpened (kind_of k x.inode)) here.1 can
    | inr there ↦ tables.descriptions e other there.1
  ];
  counted = tables.counted;
}

open_tables : (k : Kernel) (d n : ℕ) (how : Mode) (pid f : ℕ) → CanBeOpened (kind_of k n) → IsAlive k pid → f < most_descriptors k → TablesAreWell k → TablesAreWell (open_at d n how pid f k)
open_tables k d n how pid f can alive low tables =
    let mid : TablesAreWell (set_description d (at_start n how) k) = described_tables k d (at_start n how) can tables in
    process_tables (set_description d (at_start n how) k) pid (with_slot f d (process_of k pid)) k.made
    (λ g e is. elim (from_insert (table_of k pid) f g d e is) [
      | inl here ↦ ((at_start n how, ap (get (insert k.descriptions d (at_start n how))) (sym here.1) ∙ get_same k.descriptions d (at_start n how)), subst (λ g. g < most_descriptors k) (sym here.0) low)
      | inr there ↦ (mid.slots pid g e there.1, tables.low pid g e there.1)
    ])
    (tables.counted pid (some_alive k pid alive)) (omega arith) mid

alive_open : (k : Kernel) (d n : ℕ) (how : Mode) (pid f : ℕ) → IsAlive (open_at d n how pid f k) pid
alive_open k d n how pid f none = not_none (with_slot f d (process_of k pid)) (sym (get_same k.processes pid (with_slot f d (process_of k pid))) ∙ none)

pipe_tables : (chosen : List ℕ) (k : Kernel) (p d e pid f g : ℕ) → CanPipe chosen k p d e pid f g → TablesAreWell k → TablesAreWell (pipe_at p d e pid f g k)
pipe_tables chosen k p d e pid f g can tables =
    let new : IsNew k (set_inode p (Pipe []) k) p A_pipe = is_new k p (Pipe []) can.pipe.inode refl refl refl in
    let first : TablesAreWell (set_inode p (Pipe []) k) = inode_tables k p (Pipe []) (λ t what is. kept_kind k p t (Pipe []) what can.pipe.inode is) tables in
    let is_open : CanBeOpened (kind_of (set_inode p (Pipe []) k) p) = subst CanBeOpened (sym new.here) tt in
    open_tables (open_at d p to_read pid f (set_inode p (Pipe []) k)) e p to_write pid g is_open (alive_open (set_inode p (Pipe []) k) d p to_read pid f) can.other.low
    (open_tables (set_inode p (Pipe []) k) d p to_read pid f is_open can.slot.alive can.slot.low first)

end_tables : (k : Kernel) (q : ℕ) → TablesAreWell k → TablesAreWell (without_process q k)
end_tables k q tables = record {
  slots = λ pid g e is. tables.slots pid g e (kept pid g e is);
  low = λ pid g e is. tables.low pid g e (kept pid g e is);
  descriptions = tables.descriptions;
  counted = λ pid alive. elim (cases_eq pid q) [
    | inl same ↦ absurd (alive_some (without_process q k) pid alive (ap (get (remove k.processes q)) same ∙ removed_same k.processes q))
    | inr away ↦ tables.counted pid (ap is_some (sym (removed_other k.processes q pid away)) ∙ alive)
  ];
}
  where
    kept : (pid g e : ℕ) → get (table_of (without_process q k) pid) g ≡ Some e → get (table_of k pid) g ≡ Some e
    kept pid g e is = elim (cases_eq pid q) [
      | inl same ↦ absurd (empty_gives nat_cmp g e (sym (ap (λ x. get (table_in x) g) (removed_same k.processes q)) ∙ ap (λ pid. get (table_of (without_process q k) pid) g) (sym same) ∙ is))
      | inr away ↦ ap (λ x. get (table_in x) g) (sym (removed_other k.processes q pid away)) ∙ is
    ]

-- names are as they were under other slots, descriptions and processes
names_over : (k mid : Kernel) (ds : FinMap nat_cmp Description) (ps : FinMap nat_cmp Process) (made : ℕ) → NamesAreWell k mid → NamesAreWell k (with_tables mid ds ps made)
unfolding links
names_over k mid ds ps made names = record { root_unnamed = names.root_unnamed; named = names.named; parent = names.parent; one_name = names.one_name }

tree_over : (k : Kernel) (ds : FinMap nat_cmp Description) (ps : FinMap nat_cmp Process) (made : ℕ) → HasPaths k → HasPaths (with_tables k ds ps made)
unfolding links
tree_over k ds ps made tree = same_tree k (with_tables k ds ps made) refl (λ t. refl) (λ t. refl) (λ t. refl) tree

names_here : (k : Kernel) → WellFormed k → NamesAreWell k k
names_here k well = record { root_unnamed = well.root_unnamed; named = well.names; parent = well.parents; one_name = well.one_name }

-- other slots, descriptions and processes over the same inodes
well_over : (k : Kernel) (ds : FinMap nat_cmp Description) (ps : FinMap nat_cmp Process) (made : ℕ) → WellFormed k → TablesAreWell (with_tables k ds ps made) → WellFormed (with_tables k ds ps made)
well_over k ds ps made well tables = well_by k (with_tables k ds ps made) refl refl (λ t what is. is) well (names_over k k ds ps made (names_here k well)) (tree_over k ds ps made (tree_of k well)) tables

-- the rights of an inode that is there
rights_well : (k : Kernel) (n : ℕ) (rights : Rights) → kind_of k n ≢ None → WellFormed k → WellFormed (set_rights n rights k)
unfolding links
rights_well k n rights there well = record {
  root = well.root;
  root_unnamed = well.root_unnamed;
  names = well.names;
  one_name = well.one_name;
  parents = well.parents;
  leads = (same_tree k (set_rights n rights k) refl (λ t. refl) (λ t. refl) (λ t. refl) (tree_of k well)).leads;
  slots = well.slots;
  low = well.low;
  descriptions = well.descriptions;
  rights = λ m set is. elim (from_insert k.rights n m rights set is) [
    | inl here ↦ subst (λ m. kind_of k m ≢ None) (sym here.0) there
    | inr other ↦ well.rights m set other.1
  ];
  counted = well.counted;
}

-- what never changes may be named
fixed_named : (fixed : Fixed_content) → CanBeNamed (Some (fixed_kind fixed))
fixed_named (Link_to target) = tt
fixed_named Fifo = tt
fixed_named Socket = tt

-- a new inode with its name
well_made : (chosen : List ℕ) (k : Kernel) (d : ℕ) (x : Name) (n : ℕ) (new : Inode) → WellFormed k → KindsStay k (set_name d x n (set_inode n new k)) → NamesAreWell k (set_name d x n (set_inode n new k)) → HasPaths (set_name d x n (set_inode n new k))
    → get k.inodes n ≡ None → kind_of k d ≡ Some A_directory → WellFormed (set_name d x n (set_inode n new k))
well_made chosen k d x n new well stay names tree none is =
    let is_still : kind_of (set_inode n new k) d ≡ Some A_directory = kept_kind k n d new A_directory none is in
    well_by k (set_name d x n (set_inode n new k)) refl refl stay well names tree
    (inode_tables (set_inode n new k) d _ (λ t what e. (has_names (set_inode n new k) d _ is_still).kinds t ∙ e) (inode_tables k n new (λ t what e. kept_kind k n t new what none e) (tables_of k well)))

bytes_well : (k : Kernel) (n : ℕ) (new : Inode) → WellFormed k → HasBytes k (set_inode n new k) → WellFormed (set_inode n new k)
bytes_well k n new well has = well_by k (set_inode n new k) refl refl (λ t what e. has.kinds t ∙ e) well (bytes_names k n new well has) (bytes_tree k n new has (tree_of k well)) (inode_tables k n new (λ t what e. has.kinds t ∙ e) (tables_of k well))

pub well_stays : (chosen : List ℕ) (k : Kernel) (e : Edit) → WellFormed k → Fits chosen k e → WellFormed (applied chosen e k)
unfolding applied
well_stays chosen k (Make_directory d x i) well f =
    let n : ℕ = number chosen (Made i) in
    let stay : KindsStay k (applied chosen (Make_directory d x i) k) = (edit_grows chosen k (Make_directory d x i) f).kinds in
    let new : IsNew k (set_inode n (Directory empty) k) n A_directory = is_new k n (Directory empty) f.1.inode refl refl refl in
    well_made chosen k d x n (Directory empty) well stay (made_names k d x n (Directory empty) well stay f.1 new tt f.0.parent f.0.free) (made_tree k d x n (Directory empty) f.1.inode new f.0.parent f.0.free (tree_of k well)) f.1.inode f.0.parent.directory
well_stays chosen k (Make_file d x i) well f =
    let n : ℕ = number chosen (Made i) in
    let stay : KindsStay k (applied chosen (Make_file d x i) k) = (edit_grows chosen k (Make_file d x i) f).kinds in
    let new : IsNew k (set_inode n (File []) k) n A_file = is_new k n (File []) f.1.inode refl refl refl in
    well_made chosen k d x n (File []) well stay (made_names k d x n (File []) well stay f.1 new tt f.0.parent f.0.free) (made_tree k d x n (File []) f.1.inode new f.0.parent f.0.free (tree_of k well)) f.1.inode f.0.parent.directory
well_stays chosen k (Make_fixed d x fixed i) well f =
    let n : ℕ = number chosen (Made i) in
    let stay : KindsStay k (applied chosen (Make_fixed d x fixed i) k) = (edit_grows chosen k (Make_fixed d x fixed i) f).kinds in
    let new : IsNew k (set_inode n (Fixed fixed) k) n (fixed_kind fixed) = is_new k n (Fixed fixed) f.1.inode refl refl refl in
    well_made chosen k d x n (Fixed fixed) well stay (made_names k d x n (Fixed fixed) well stay f.1 new (fixed_named fixed) f.0.parent f.0.free) (made_tree k d x n (Fixed fixed) f.1.inode new f.0.parent f.0.free (tree_of k well)) f.1.inode f.0.parent.directory
well_stays chosen k (Name_file d x n) well f =
    let stay : KindsStay k (set_name d x n k) = (edit_grows chosen k (Name_file d x n) f).kinds in
    well_by k (set_name d x n k) refl refl stay well (linked_names k d x n well f.0.parent f.0.free f.1) (linked_tree k d x n f.0.parent f.0.free f.1 (tree_of k well)) (inode_tables k d _ stay (tables_of k well))
well_stays chosen k (Unname_file d x n) well f =
    let stay : KindsStay k (clear_name d x k) = (edit_grows chosen k (Unname_file d x n) f).kinds in
    let bare : (y : Name) (m : ℕ) → get (names_of k n) y ≢ Some m = λ y m e. linked_is_other k n n (has_names_in k n y m e) f.kind refl in
    well_by k (clear_name d x k) refl refl stay well (unnamed_names k d x n well f.parent.directory f.gives bare) (unnamed_tree k d x n well f.parent.directory f.gives bare (well.one_name n) (tree_of k well)) (inode_tables k d _ stay (tables_of k well))
well_stays chosen k (Unname_directory d x n) well f =
    let stay : KindsStay k (clear_name d x k) = (edit_grows chosen k (Unname_directory d x n) f).kinds in
    let bare : (y : Name) (m : ℕ) → get (names_of k n) y ≢ Some m = λ y m e. not_none m (sym e ∙ none_by_keys nat_list_cmp_total (names_of k n) f.1 y) in
    well_by k (clear_name d x k) refl refl stay well (unnamed_names k d x n well f.0.parent.directory f.0.gives bare) (unnamed_tree k d x n well f.0.parent.directory f.0.gives bare (well.one_name n) (tree_of k well)) (inode_tables k d _ stay (tables_of k well))
well_stays chosen k (Move d x e y n replaced) well f =
    let stay : KindsStay k (set_name e y n (clear_name d x k)) = (edit_grows chosen k (Move d x e y n replaced) f).kinds in
    let still : get (names_of (clear_name d x k) e) y ≡ f.old = still_gives k d x e y n f.old f.from.parent.directory f.from.gives f.gives (other_old k n f.old replaced f.replaces) in
    let from_stay : KindsStay k (clear_name d x k) = λ t what is. (has_names k d (remove (names_of k d) x) f.from.parent.directory).kinds t ∙ is in
    well_by k (set_name e y n (clear_name d x k)) refl refl stay well
    (moved_names k d x e y n f.old replaced well f.from.parent.directory f.onto f.from.gives f.gives still f.replaces)
    (moved_tree k d x e y n f.old replaced well f.from.parent.directory f.onto f.from.gives f.gives still f.replaces f.no_ring (tree_of k well))
    (inode_tables (clear_name d x k) e _ (λ t what is. (has_names (clear_name d x k) e _ (from_stay e A_directory f.onto.directory)).kinds t ∙ is) (inode_tables k d _ from_stay (tables_of k well)))
well_stays chosen k (Swap d x n e y m) well f =
    let stay : KindsStay k (set_name e y n (set_name d x m k)) = (edit_grows chosen k (Swap d x n e y m) f).kinds in
    let mid_stay : KindsStay k (set_name d x m k) = λ t what is. (has_names k d (insert (names_of k d) x m) f.first.parent.directory).kinds t ∙ is in
    well_by k (set_name e y n (set_name d x m k)) refl refl stay well
    (swapped_names k d x n e y m well f.first.parent f.second.parent f.first.gives f.second.gives f.apart)
    (swapped_tree k d x n e y m well f.first.parent f.second.parent f.first.gives f.second.gives f.apart f.no_ring f.no_ring_back (tree_of k well))
    (inode_tables (set_name d x m k) e _ (λ t what is. (has_names (set_name d x m k) e _ (mid_stay e A_directory f.second.parent.directory)).kinds t ∙ is) (inode_tables k d _ mid_stay (tables_of k well)))
well_stays chosen k (Put_bytes n place bytes before) well f = bytes_well k n (File (written (file_of k n) place bytes)) well (has_bytes k n _ (sym f.0) refl (no_names_file _ f.0))
well_stays chosen k (Wipe n place count) well f = bytes_well k n (File (written (file_of k n) place (replicate count 0))) well (has_bytes k n _ (sym f.0) refl (no_names_file _ f.0))
well_stays chosen k (Cut n before after) well f = bytes_well k n (File (sized after (file_of k n))) well (has_bytes k n _ (sym f.0) refl (no_names_file _ f.0))
well_stays chosen k (Take p count) well f = bytes_well k p (Pipe (drop count (pipe_of k p))) well (has_bytes k p _ (sym f.0) refl (no_names_pipe _ f.0))
well_stays chosen k (Append p bytes) well f = bytes_well k p (Pipe (pipe_of k p ++ bytes)) well (has_bytes k p _ (sym f.0) refl (no_names_pipe _ f.0))
well_stays chosen k (Set_offset d place) well f = subst WellFormed (sym (set_there k d place f.0 f.1))
    (well_over k (insert k.descriptions d (at_offset place f.0)) k.processes k.made well (described_tables k d (at_offset place f.0) (well.descriptions d f.0 f.1) (tables_of k well)))
well_stays chosen k (Set_rights n rights) well f = rights_well k n rights f well
well_stays chosen k (Open_inode i inode how q f) well can = well_over k _ _ k.made well (open_tables k _ _ how q f (subst CanBeOpened (sym can.kind) tt) can.slot.alive can.slot.low (tables_of k well))
well_stays chosen k (Make_pipe i q f g) well can =
    let p : ℕ = number chosen (Made i) in
    let new : IsNew k (set_inode p (Pipe []) k) p A_pipe = is_new k p (Pipe []) can.pipe.inode refl refl refl in
    let other : A_pipe ≢ A_directory = λ e. absurd cc in
    let stay : KindsStay k (set_inode p (Pipe []) k) = λ t what is. kept_kind k p t (Pipe []) what can.pipe.inode is in
    well_by k (applied chosen (Make_pipe i q f g) k) refl refl stay well
    (names_over k (set_inode p (Pipe []) k) _ _ k.made (new_names k p (Pipe []) well can.pipe.inode new stay other))
    (tree_over (set_inode p (Pipe []) k) _ _ k.made (new_tree k p (Pipe []) new other (tree_of k well)))
    (pipe_tables chosen k _ _ _ q f g can (tables_of k well))
well_stays chosen k (Share_slot q f d pipes) well can = well_over k _ _ k.made well (process_tables k q (with_slot f d (process_of k q)) k.made
    (λ g e is. elim (from_insert (table_of k q) f g d e is) [
      | inl here ↦ (subst (λ e. (it : Description) × (get k.descriptions e ≡ Some it)) here.1 (well.slots q can.from d can.held), subst (λ g. g < most_descriptors k) (sym here.0) can.low)
      | inr there ↦ (well.slots q g e there.1, well.low q g e there.1)
    ])
    (well.counted q (some_alive k q can.alive)) (omega arith) (tables_of k well))
well_stays chosen k (Clear_slot q f pipes) well can = well_over k _ _ k.made well (process_tables k q (without_slot f (process_of k q)) k.made
    (λ g e is. let there : get (table_of k q) g ≡ Some e = (from_remove (table_of k q) f g e is).1 in (well.slots q g e there, well.low q g e there))
    (well.counted q (some_alive k q can.alive)) (omega arith) (tables_of k well))
well_stays chosen k (New_process child parent pipes) well can = well_over k _ _ child well (process_tables k child (process_of k parent) child
    (λ g e is. (well.slots parent g e is, well.low parent g e is)) (omega arith) (let next : child ≡ suc k.made = can.next in omega arith) (tables_of k well))
well_stays chosen k (End_process q pipes) well can = well_over k _ _ k.made well (end_tables k q (tables_of k well))

pub all_well : (chosen : List ℕ) (es : List Edit) (k : Kernel) → WellFormed k → FitsAll chosen k es → WellFormed (all_applied chosen es k)
all_well chosen [] k well f = well
all_well chosen (e ∷ es) k well f = all_well chosen es (applied chosen e k) (well_stays chosen k e well f.0) f.1
