-- Each edit, and tidying, in a renamed state.
use Rattle.std.proofs.Common.{◌≡◌, ℕ, ◌+◌, ◌||◌, nat_lt, List, [], ◌∷◌, ◌++◌, map, length, get_or, drop, replicate, Option, Some, None, refl, sym, ap, ap₂, ◌∙◌, arith}
use Rattle.std.specs.List.{AllByRecursion}
use Rattle.std.specs.Cmp.{nat_cmp_total}
use Rattle.std.specs.Cmp.Lexicographic.{nat_list_cmp_total}
use Rattle.std.proofs.lemmas.List.{get_or-map}
use Rattle.model.specs.FiniteMap.{get, empty, insert, remove, nat_cmp-IsAntisymmetric}
use Rattle.model.specs.State.{Name, Kernel, Inode, File, Directory, Pipe, Fixed, Description, Process, Rights, mapped, names_of, file_of, pipe_of}
use Rattle.model.specs.Changes.{Which, There, Made, Mode, Edit, Make_directory, Make_file, Make_fixed, Name_file, Unname_file, Unname_directory, Swap, Wipe, Move, Put_bytes, Cut, Take, Append, Set_offset, Set_rights, Open_inode, Make_pipe, Share_slot, Clear_slot, New_process, End_process, number, sized, written, set_inode, set_name, clear_name, set_process, set_offset, set_rights, process_of, with_slot, without_slot, at_start, set_description, open_at, to_read, to_write, applied, all_applied, is_held, is_reached, without_descriptions, without_inodes, tidy}
use Rattle.model.proofs.Laws.{name_exact}
use Rattle.renaming_laws.specs.Renaming.{IsRenaming, renamed_inode, renamed_description, renamed_process, renamed}
use Rattle.renaming_laws.specs.Renamed.{renamed_which, renamed_edit}
use Rattle.renaming_laws.specs.Laws.{IsAmong, HasNumbers, EditsAreRenamed}
use Rattle.renaming_laws.proofs.Maps.{renamed-empty, renamed-insert, renamed-remove, renamed-retain_keys}
use Rattle.renaming_laws.proofs.States.{same_test, description_at, names_at, file_at, pipe_at, process_at, links_at, holders_at, openings_at}

module _ (f : ℕ → ℕ) (r : IsRenaming f) where
  number_at : (chosen : List ℕ) (w : Which) → IsAmong (length chosen) w → number (map f chosen) (renamed_which f w) ≡ f (number chosen w)
  number_at chosen (There n) h = refl
  number_at chosen (Made i) h = get_or-map f chosen i 0 0 h

  inode_set : (n : ℕ) (inode : Inode) (k : Kernel) → set_inode (f n) (renamed_inode f inode) (renamed f k) ≡ renamed f (set_inode n inode k)
  inode_set n inode k = λ i. record (renamed f k) { inodes = sym (renamed-insert nat_cmp_total nat_cmp-IsAntisymmetric f r.again (renamed_inode f) k.inodes n inode) i }

  name_set : (d : ℕ) (x : Name) (n : ℕ) (k : Kernel) → set_name (f d) x (f n) (renamed f k) ≡ renamed f (set_name d x n k)
  name_set d x n k =
      ap (λ names. set_inode (f d) (Directory names) (renamed f k)) (ap (λ names. insert names x (f n)) (names_at f r k d) ∙ sym (renamed-insert nat_list_cmp_total name_exact (λ x. x) (λ x. refl) f (names_of k d) x n))
      ∙ inode_set d (Directory (insert (names_of k d) x n)) k

  name_cleared : (d : ℕ) (x : Name) (k : Kernel) → clear_name (f d) x (renamed f k) ≡ renamed f (clear_name d x k)
  name_cleared d x k =
      ap (λ names. set_inode (f d) (Directory names) (renamed f k)) (ap (λ names. remove names x) (names_at f r k d) ∙ sym (renamed-remove nat_list_cmp_total name_exact (λ x. x) (λ x. refl) f (names_of k d) x))
      ∙ inode_set d (Directory (remove (names_of k d) x)) k

  -- a new inode with its name, where the renamed one is what it becomes
  named_new : (d : ℕ) (x : Name) (c c' : ℕ) (inode inode' : Inode) (k : Kernel) → c' ≡ f c → inode' ≡ renamed_inode f inode
      → set_name (f d) x c' (set_inode c' inode' (renamed f k)) ≡ renamed f (set_name d x c (set_inode c inode k))
  named_new d x c c' inode inode' k number same =
      ap₂ (λ n (what : Inode). set_name (f d) x n (set_inode n what (renamed f k))) number same
      ∙ ap (set_name (f d) x (f c)) (inode_set c inode k) ∙ name_set d x c (set_inode c inode k)

  process_set : (pid : ℕ) (process : Process) (k : Kernel) → set_process pid (renamed_process f process) (renamed f k) ≡ renamed f (set_process pid process k)
  process_set pid process k = λ i. record (renamed f k) { processes = sym (renamed-insert nat_cmp_total nat_cmp-IsAntisymmetric (λ x. x) (λ x. refl) (renamed_process f) k.processes pid process) i }

  slot_set : (fd d : ℕ) (process : Process) → with_slot fd (f d) (renamed_process f process) ≡ renamed_process f (with_slot fd d process)
  slot_set fd d process = λ i. record { table = sym (renamed-insert nat_cmp_total nat_cmp-IsAntisymmetric (λ x. x) (λ x. refl) f process.table fd d) i; priority = process.priority }

  slot_cleared : (fd : ℕ) (process : Process) → without_slot fd (renamed_process f process) ≡ renamed_process f (without_slot fd process)
  slot_cleared fd process = λ i. record { table = sym (renamed-remove nat_cmp_total nat_cmp-IsAntisymmetric (λ x. x) (λ x. refl) f process.table fd) i; priority = process.priority }

  shared : (pid fd d : ℕ) (k : Kernel) → set_process pid (with_slot fd (f d) (process_of (renamed f k) pid)) (renamed f k) ≡ renamed f (set_process pid (with_slot fd d (process_of k pid)) k)
  shared pid fd d k =
      ap (λ process. set_process pid (with_slot fd (f d) process) (renamed f k)) (process_at f r k pid)
      ∙ ap (λ process. set_process pid process (renamed f k)) (slot_set fd d (process_of k pid)) ∙ process_set pid (with_slot fd d (process_of k pid)) k

  cleared : (pid fd : ℕ) (k : Kernel) → set_process pid (without_slot fd (process_of (renamed f k) pid)) (renamed f k) ≡ renamed f (set_process pid (without_slot fd (process_of k pid)) k)
  cleared pid fd k =
      ap (λ process. set_process pid (without_slot fd process) (renamed f k)) (process_at f r k pid)
      ∙ ap (λ process. set_process pid process (renamed f k)) (slot_cleared fd (process_of k pid)) ∙ process_set pid (without_slot fd (process_of k pid)) k

  description_set : (d : ℕ) (it : Description) (k : Kernel) → set_description (f d) (renamed_description f it) (renamed f k) ≡ renamed f (set_description d it k)
  description_set d it k = λ i. record (renamed f k) { descriptions = sym (renamed-insert nat_cmp_total nat_cmp-IsAntisymmetric f r.again (renamed_description f) k.descriptions d it) i }

  offset_set : (d place : ℕ) (o : Option Description) (k : Kernel) → set_offset (f d) place (mapped (renamed_description f) o) (renamed f k) ≡ renamed f (set_offset d place o k)
  offset_set d place None k = refl
  offset_set d place (Some old) k = description_set d (record old { offset = place }) k

  rights_set : (n : ℕ) (set : Rights) (k : Kernel) → set_rights (f n) set (renamed f k) ≡ renamed f (set_rights n set k)
  rights_set n set k = λ i. record (renamed f k) { rights = sym (renamed-insert nat_cmp_total nat_cmp-IsAntisymmetric f r.again (λ (set : Rights). set) k.rights n set) i }

  opened : (d d' n n' : ℕ) (mode : Mode) (pid fd : ℕ) (k : Kernel) → d' ≡ f d → n' ≡ f n → open_at d' n' mode pid fd (renamed f k) ≡ renamed f (open_at d n mode pid fd k)
  opened d d' n n' mode pid fd k is_d is_n =
      ap₂ (λ (d : ℕ) (n : ℕ). open_at d n mode pid fd (renamed f k)) is_d is_n
      ∙ ap (λ state. set_process pid (with_slot fd (f d) (process_of (renamed f k) pid)) state) (description_set d (at_start n mode) k)
      ∙ shared pid fd d (set_description d (at_start n mode) k)

  pub edit_renamed : (k : Kernel) (chosen : List ℕ) (e : Edit) → HasNumbers (length chosen) e → applied (map f chosen) (renamed_edit f e) (renamed f k) ≡ renamed f (applied chosen e k)
  unfolding applied
  edit_renamed k chosen (Make_directory d x i) h =
      named_new d x (get_or chosen i 0) (get_or (map f chosen) i 0) (Directory empty) (Directory empty) k (number_at chosen (Made i) h) (ap Directory (sym (renamed-empty nat_list_cmp_total name_exact (λ x. x) (λ x. refl) f)))
  edit_renamed k chosen (Make_file d x i) h = named_new d x (get_or chosen i 0) (get_or (map f chosen) i 0) (File []) (File []) k (number_at chosen (Made i) h) refl
  edit_renamed k chosen (Make_fixed d x fixed i) h = named_new d x (get_or chosen i 0) (get_or (map f chosen) i 0) (Fixed fixed) (Fixed fixed) k (number_at chosen (Made i) h) refl
  edit_renamed k chosen (Name_file d x n) h = name_set d x n k
  edit_renamed k chosen (Unname_file d x n) h = name_cleared d x k
  edit_renamed k chosen (Unname_directory d x n) h = name_cleared d x k
  edit_renamed k chosen (Move d x e y n replaced) h = ap (set_name (f e) y (f n)) (name_cleared d x k) ∙ name_set e y n (clear_name d x k)
  edit_renamed k chosen (Swap d x n e y m) h = ap (set_name (f e) y (f n)) (name_set d x m k) ∙ name_set e y n (set_name d x m k)
  edit_renamed k chosen (Put_bytes n place bytes before) h = ap (λ old. set_inode (f n) (File (written old place bytes)) (renamed f k)) (file_at f r k n) ∙ inode_set n (File (written (file_of k n) place bytes)) k
  edit_renamed k chosen (Wipe n place count) h = ap (λ old. set_inode (f n) (File (written old place (replicate count 0))) (renamed f k)) (file_at f r k n) ∙ inode_set n (File (written (file_of k n) place (replicate count 0))) k
  edit_renamed k chosen (Cut n before after) h = ap (λ old. set_inode (f n) (File (sized after old)) (renamed f k)) (file_at f r k n) ∙ inode_set n (File (sized after (file_of k n))) k
  edit_renamed k chosen (Take p count) h = ap (λ old. set_inode (f p) (Pipe (drop count old)) (renamed f k)) (pipe_at f r k p) ∙ inode_set p (Pipe (drop count (pipe_of k p))) k
  edit_renamed k chosen (Append p bytes) h = ap (λ old. set_inode (f p) (Pipe (old ++ bytes)) (renamed f k)) (pipe_at f r k p) ∙ inode_set p (Pipe (pipe_of k p ++ bytes)) k
  edit_renamed k chosen (Set_offset d place) h = ap (λ o. set_offset (f d) place o (renamed f k)) (description_at f r k d) ∙ offset_set d place (get k.descriptions d) k
  edit_renamed k chosen (Set_rights n set) h = rights_set n set k
  edit_renamed k chosen (Open_inode i inode mode pid fd) h =
      opened (number chosen (Made i)) (number (map f chosen) (Made i)) (number chosen inode) (number (map f chosen) (renamed_which f inode)) mode pid fd k (number_at chosen (Made i) h.0) (number_at chosen inode h.1)
  edit_renamed k chosen (Make_pipe i pid reader writer) h =
      let p : ℕ = get_or chosen i 0 in
      let p' : ℕ = get_or (map f chosen) i 0 in
      let is_p : p' ≡ f p = number_at chosen (Made i) (omega arith) in
      let d : ℕ = get_or chosen (i + 1) 0 in
      let d' : ℕ = get_or (map f chosen) (i + 1) 0 in
      let is_d : d' ≡ f d = number_at chosen (Made (i + 1)) (omega arith) in
      let e : ℕ = get_or chosen (i + 2) 0 in
      let e' : ℕ = get_or (map f chosen) (i + 2) 0 in
      let is_e : e' ≡ f e = number_at chosen (Made (i + 2)) h in
      let made : Kernel = set_inode p (Pipe []) k in
      ap (λ state. open_at e' p' to_write pid writer (open_at d' p' to_read pid reader state)) (ap (λ n. set_inode n (Pipe []) (renamed f k)) is_p ∙ inode_set p (Pipe []) k)
      ∙ ap (open_at e' p' to_write pid writer) (opened d d' p p' to_read pid reader made is_d is_p)
      ∙ opened e e' p p' to_write pid writer (open_at d p to_read pid reader made) is_e is_p
  edit_renamed k chosen (Share_slot pid fd d pipes) h = shared pid fd d k
  edit_renamed k chosen (Clear_slot pid fd pipes) h = cleared pid fd k
  edit_renamed k chosen (New_process child parent pipes) h = λ i. record (renamed f k) {
    processes = (ap (insert (renamed f k).processes child) (process_at f r k parent) ∙ sym (renamed-insert nat_cmp_total nat_cmp-IsAntisymmetric (λ x. x) (λ x. refl) (renamed_process f) k.processes child (process_of k parent))) i;
    made = child;
  }
  edit_renamed k chosen (End_process pid pipes) h = λ i. record (renamed f k) { processes = sym (renamed-remove nat_cmp_total nat_cmp-IsAntisymmetric (λ x. x) (λ x. refl) (renamed_process f) k.processes pid) i }

  pub edits_renamed : (k : Kernel) (chosen : List ℕ) (es : List Edit) → AllByRecursion (HasNumbers (length chosen)) es → all_applied (map f chosen) (map (renamed_edit f) es) (renamed f k) ≡ renamed f (all_applied chosen es k)
  edits_renamed k chosen [] h = refl
  edits_renamed k chosen (e ∷ es) h = ap (all_applied (map f chosen) (map (renamed_edit f) es)) (edit_renamed k chosen e h.0) ∙ edits_renamed (applied chosen e k) chosen es h.1

  -- tidying goes by counts
  held_at : (k : Kernel) (d : ℕ) → is_held (renamed f k) (f d) ≡ is_held k d
  held_at k d = ap (nat_lt 0) (holders_at f r k d)

  reached_at : (k : Kernel) (n : ℕ) → is_reached (renamed f k) (f n) ≡ is_reached k n
  reached_at k n = λ i. same_test f r n k.root i || (nat_lt 0 (links_at f r k n i) || nat_lt 0 (openings_at f r k n i))

  descriptions_tidied : (k : Kernel) → without_descriptions (renamed f k) ≡ renamed f (without_descriptions k)
  descriptions_tidied k = λ i. record (renamed f k) { descriptions = sym (renamed-retain_keys nat_cmp_total nat_cmp-IsAntisymmetric f r.again (renamed_description f) k.descriptions (is_held k) (is_held (renamed f k)) (held_at k)) i }

  inodes_tidied : (k : Kernel) → without_inodes (renamed f k) ≡ renamed f (without_inodes k)
  inodes_tidied k = λ i. record (renamed f k) {
    inodes = sym (renamed-retain_keys nat_cmp_total nat_cmp-IsAntisymmetric f r.again (renamed_inode f) k.inodes (is_reached k) (is_reached (renamed f k)) (reached_at k)) i;
    rights = sym (renamed-retain_keys nat_cmp_total nat_cmp-IsAntisymmetric f r.again (λ (set : Rights). set) k.rights (is_reached k) (is_reached (renamed f k)) (reached_at k)) i;
  }

  pub tidy_renamed : (k : Kernel) → tidy (renamed f k) ≡ renamed f (tidy k)
  unfolding tidy
  tidy_renamed k = ap without_inodes (descriptions_tidied k) ∙ inodes_tidied (without_descriptions k)

pub edits_are_renamed : (f : ℕ → ℕ) → IsRenaming f → EditsAreRenamed f
edits_are_renamed f r = record { one = edit_renamed f r; all = edits_renamed f r; tidy = tidy_renamed f r }
