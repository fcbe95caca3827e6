-- A run never chooses its root's number, since the root is always there.
use Rattle.std.proofs.Common.{◌≡◌, ◌≢◌, ℕ, cond, List, [], ◌∷◌, ◌++◌, drop, replicate, Option, Some, None, refl, sym, ap, subst, ◌∙◌}
use Rattle.std.specs.List.{AllByRecursion}
use Rattle.model.specs.FiniteMap.{get, empty, insert, remove}
use Rattle.model.specs.State.{Kernel, Inode, File, Directory, Pipe, Fixed, Description, names_of, file_of, pipe_of}
use Rattle.model.specs.Changes.{Edit, Make_directory, Make_file, Make_fixed, Name_file, Unname_file, Unname_directory, Swap, Wipe, Move, Put_bytes, Cut, Take, Append, Set_offset, Set_rights, Open_inode, Make_pipe, Share_slot, Clear_slot, New_process, End_process, number, Made, sized, written, set_inode, set_name, clear_name, set_offset, applied, all_applied, tidy}
use Rattle.model.specs.Steps.{edits, IsNowhere, Item, Run}
use Rattle.model.specs.Moments.{Setup, start}
use Rattle.model.proofs.Laws.{get_same}
use Rattle.call_laws.proofs.Laws.{all-mapped, get_tidy, not_none, rooted_reached, stays_inserted}
use Rattle.renaming_laws.specs.Laws.{RootIsNeverChosen}

pub record HasRoot (root : ℕ) (k : Kernel) : Type 0 where
  pub is : k.root ≡ root
  pub there : get k.inodes root ≢ None

module _ (root : ℕ) where
  inode_put : (n : ℕ) (inode : Inode) (k : Kernel) → HasRoot root k → HasRoot root (set_inode n inode k)
  inode_put n inode k h = record { is = h.is; there = stays_inserted k.inodes n inode root h.there }

  name_put : (d : ℕ) (x : List ℕ) (n : ℕ) (k : Kernel) → HasRoot root k → HasRoot root (set_name d x n k)
  name_put d x n k h = inode_put d (Directory (insert (names_of k d) x n)) k h

  name_cleared : (d : ℕ) (x : List ℕ) (k : Kernel) → HasRoot root k → HasRoot root (clear_name d x k)
  name_cleared d x k h = inode_put d (Directory (remove (names_of k d) x)) k h

  offset_put : (d place : ℕ) (o : Option Description) (k : Kernel) → HasRoot root k → HasRoot root (set_offset d place o k)
  offset_put d place None k h = h
  offset_put d place (Some old) k h = record { is = h.is; there = h.there }

  edit_keeps : (chosen : List ℕ) (k : Kernel) (e : Edit) → HasRoot root k → HasRoot root (applied chosen e k)
  unfolding applied
  edit_keeps chosen k (Make_directory d x i) h = name_put d x (number chosen (Made i)) (set_inode (number chosen (Made i)) (Directory empty) k) (inode_put (number chosen (Made i)) (Directory empty) k h)
  edit_keeps chosen k (Make_file d x i) h = name_put d x (number chosen (Made i)) (set_inode (number chosen (Made i)) (File []) k) (inode_put (number chosen (Made i)) (File []) k h)
  edit_keeps chosen k (Make_fixed d x fixed i) h = name_put d x (number chosen (Made i)) (set_inode (number chosen (Made i)) (Fixed fixed) k) (inode_put (number chosen (Made i)) (Fixed fixed) k h)
  edit_keeps chosen k (Name_file d x n) h = name_put d x n k h
  edit_keeps chosen k (Unname_file d x n) h = name_cleared d x k h
  edit_keeps chosen k (Unname_directory d x n) h = name_cleared d x k h
  edit_keeps chosen k (Move d x e y n replaced) h = name_put e y n (clear_name d x k) (name_cleared d x k h)
  edit_keeps chosen k (Swap d x n e y m) h = name_put e y n (set_name d x m k) (name_put d x m k h)
  edit_keeps chosen k (Put_bytes n place bytes before) h = inode_put n (File (written (file_of k n) place bytes)) k h
  edit_keeps chosen k (Wipe n place count) h = inode_put n (File (written (file_of k n) place (replicate count 0))) k h
  edit_keeps chosen k (Cut n before after) h = inode_put n (File (sized after (file_of k n))) k h
  edit_keeps chosen k (Take p count) h = inode_put p (Pipe (drop count (pipe_of k p))) k h
  edit_keeps chosen k (Append p bytes) h = inode_put p (Pipe (pipe_of k p ++ bytes)) k h
  edit_keeps chosen k (Set_offset d place) h = offset_put d place (get k.descriptions d) k h
  edit_keeps chosen k (Set_rights n set) h = record { is = h.is; there = h.there }
  edit_keeps chosen k (Open_inode i inode mode pid fd) h = record { is = h.is; there = h.there }
  edit_keeps chosen k (Make_pipe i pid reader writer) h =
      let made : HasRoot root (set_inode (number chosen (Made i)) (Pipe []) k) = inode_put (number chosen (Made i)) (Pipe []) k h in
      record { is = made.is; there = made.there }
  edit_keeps chosen k (Share_slot pid fd d pipes) h = record { is = h.is; there = h.there }
  edit_keeps chosen k (Clear_slot pid fd pipes) h = record { is = h.is; there = h.there }
  edit_keeps chosen k (New_process child parent pipes) h = record { is = h.is; there = h.there }
  edit_keeps chosen k (End_process pid pipes) h = record { is = h.is; there = h.there }

  pub edits_keep : (chosen : List ℕ) (k : Kernel) (es : List Edit) → HasRoot root k → HasRoot root (all_applied chosen es k)
  edits_keep chosen k [] h = h
  edits_keep chosen k (e ∷ es) h = edits_keep chosen (applied chosen e k) es (edit_keeps chosen k e h)

  root_kept : (k : Kernel) → (tidy k).root ≡ k.root
  unfolding tidy
  root_kept k = refl

  pub tidying_keeps : (k : Kernel) → HasRoot root k → HasRoot root (tidy k)
  tidying_keeps k h = record {
    is = root_kept k ∙ h.is;
    there = λ none. h.there (sym (get_tidy k root ∙ ap (λ b. cond b (get k.inodes root) None) (rooted_reached k root (λ _. sym h.is))) ∙ none);
  }

  pub away : (k : Kernel) → HasRoot root k → (n : ℕ) → IsNowhere k n → n ≢ root
  away k h n nowhere e = h.there (ap (get k.inodes) (sym e) ∙ nowhere.inode)

  never_chosen : (k : Kernel) → HasRoot root k → (items : List Item) (after : Kernel) → Run k items after → AllByRecursion (λ it. AllByRecursion (λ n. n ≢ root) it.chosen) items
  never_chosen k h [] after run = tt
  never_chosen k h (it ∷ items) after run =
      let step = run.1 in
      let mid : HasRoot root run.0 = subst (HasRoot root) (sym step.changed) (tidying_keeps (all_applied it.chosen (edits k it.pid it.call) k) (edits_keep it.chosen k (edits k it.pid it.call) h)) in
      (all-mapped it.chosen (λ n nowhere. away k h n nowhere) step.numbers.unused, never_chosen run.0 mid items after run.2)

pub root_at_start : (root : ℕ) (setup : Setup) → HasRoot root (start root setup)
root_at_start root setup = record { is = refl; there = λ none. not_none (Directory empty) (sym (get_same empty root (Directory empty)) ∙ none) }

pub root_is_never_chosen : RootIsNeverChosen
root_is_never_chosen root setup items after run =
    never_chosen root (start root setup) (root_at_start root setup) items after run
