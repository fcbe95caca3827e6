-- What the code makes of a kernel by each edit is what the edit makes.
use Rattle.std.proofs.Common.{◌≡◌, ℕ, ◌+◌, ◌≤◌, List, [], ◌++◌, length, get_or, drop, replicate, ap, sym, subst, ◌∙◌}
use Rattle.model.specs.FiniteMap.{FinMap, get, empty, insert, remove}
use Rattle.model.specs.State.{Name, name_cmp, Kernel, Inode, File, Directory, Pipe, Fixed, Fixed_content, Description, Rights, file_of, pipe_of}
use Rattle.model.specs.Changes.{Edit, Which, Mode, Replaced, Make_directory, Make_file, Make_fixed, Name_file, Unname_file, Unname_directory, Move, Swap, Put_bytes, Wipe, Cut, Take, Append, Set_offset, Set_rights, Open_inode, Make_pipe, Share_slot, Clear_slot, New_process, End_process}
use Rattle.model.specs.Changes.{applied, at_start, clear_name, number, open_at, process_of, set_description, set_inode, set_name, set_offset, set_process, set_rights, sized, to_read, to_write, with_slot, without_slot, written}
use Rattle.model.specs.Limits.{largest_file}
use Rattle.plain_kernel.specs.Edits.{EndsWithin}

module _ (chosen : List ℕ) (k after : Kernel) where
  pub edited : (e f : Edit) → e ≡ f → after ≡ applied chosen f k → after ≡ applied chosen e k
  edited e f is h = h ∙ ap (λ (x : Edit). applied chosen x k) (sym is)

  pub makes_directory : (d : ℕ) (x : Name) (i n : ℕ) (inode : Inode) (names : FinMap name_cmp ℕ) → n ≡ get_or chosen i 0 → inode ≡ Directory names → names ≡ empty
      → after ≡ set_name d x n (set_inode n inode k) → after ≡ applied chosen (Make_directory d x i) k
  unfolding applied
  makes_directory d x i n inode names number is none h =
      h ∙ ap (λ (it : Inode). set_name d x n (set_inode n it k)) (is ∙ ap Directory none) ∙ ap (λ (m : ℕ). set_name d x m (set_inode m (Directory empty) k)) number

  pub makes_file : (d : ℕ) (x : Name) (i n : ℕ) (inode : Inode) (bytes : List ℕ) → n ≡ get_or chosen i 0 → inode ≡ File bytes → bytes ≡ []
      → after ≡ set_name d x n (set_inode n inode k) → after ≡ applied chosen (Make_file d x i) k
  unfolding applied
  makes_file d x i n inode bytes number is none h =
      h ∙ ap (λ (it : Inode). set_name d x n (set_inode n it k)) (is ∙ ap File none) ∙ ap (λ (m : ℕ). set_name d x m (set_inode m (File []) k)) number

  pub makes_fixed : (d : ℕ) (x : Name) (fixed copy : Fixed_content) (i n : ℕ) (inode : Inode) → n ≡ get_or chosen i 0 → inode ≡ Fixed copy → copy ≡ fixed
      → after ≡ set_name d x n (set_inode n inode k) → after ≡ applied chosen (Make_fixed d x fixed i) k
  unfolding applied
  makes_fixed d x fixed copy i n inode number is same h =
      h ∙ ap (λ (it : Inode). set_name d x n (set_inode n it k)) (is ∙ ap Fixed same) ∙ ap (λ (m : ℕ). set_name d x m (set_inode m (Fixed fixed) k)) number

  pub names_file : (d : ℕ) (x : Name) (n : ℕ) → after ≡ set_name d x n k → after ≡ applied chosen (Name_file d x n) k
  unfolding applied
  names_file d x n h = h

  pub unnames_file : (d : ℕ) (x : Name) (n : ℕ) → after ≡ clear_name d x k → after ≡ applied chosen (Unname_file d x n) k
  unfolding applied
  unnames_file d x n h = h

  pub unnames_directory : (d : ℕ) (x : Name) (n : ℕ) → after ≡ clear_name d x k → after ≡ applied chosen (Unname_directory d x n) k
  unfolding applied
  unnames_directory d x n h = h

  pub moves : (d : ℕ) (x : Name) (e : ℕ) (y : Name) (n : ℕ) (replaced : Replaced) → after ≡ set_name e y n (clear_name d x k) → after ≡ applied chosen (Move d x e y n replaced) k
  unfolding applied
  moves d x e y n replaced h = h

  pub swaps : (d : ℕ) (x : Name) (n e : ℕ) (y : Name) (m : ℕ) → after ≡ set_name e y n (set_name d x m k) → after ≡ applied chosen (Swap d x n e y m) k
  unfolding applied
  swaps d x n e y m h = h

  pub wipes : (n offset count : ℕ) → after ≡ set_inode n (File (written (file_of k n) offset (replicate count 0))) k → after ≡ applied chosen (Wipe n offset count) k
  unfolding applied
  wipes n offset count h = h

  pub puts : (n offset : ℕ) (bytes old : List ℕ) (before : ℕ) → old ≡ bytes → after ≡ set_inode n (File (written (file_of k n) offset old)) k → after ≡ applied chosen (Put_bytes n offset bytes before) k
  unfolding applied
  puts n offset bytes old before same h = h ∙ ap (λ (bs : List ℕ). set_inode n (File (written (file_of k n) offset bs)) k) same

  pub cuts : (n before len : ℕ) → after ≡ set_inode n (File (sized len (file_of k n))) k → after ≡ applied chosen (Cut n before len) k
  unfolding applied
  cuts n before len h = h

  pub takes : (p count : ℕ) → after ≡ set_inode p (Pipe (drop count (pipe_of k p))) k → after ≡ applied chosen (Take p count) k
  unfolding applied
  takes p count h = h

  pub appends : (p : ℕ) (bytes old : List ℕ) → old ≡ bytes → after ≡ set_inode p (Pipe (pipe_of k p ++ old)) k → after ≡ applied chosen (Append p bytes) k
  unfolding applied
  appends p bytes old same h = h ∙ ap (λ (bs : List ℕ). set_inode p (Pipe (pipe_of k p ++ bs)) k) same

  pub sets_offset : (d offset : ℕ) → after ≡ set_offset d offset (get k.descriptions d) k → after ≡ applied chosen (Set_offset d offset) k
  unfolding applied
  sets_offset d offset h = h

  pub sets_rights : (n : ℕ) (rights : Rights) → after ≡ set_rights n rights k → after ≡ applied chosen (Set_rights n rights) k
  unfolding applied
  sets_rights n rights h = h

  pub opens : (i : ℕ) (inode : Which) (mode : Mode) (pid f d n : ℕ) (it : Description) → d ≡ get_or chosen i 0 → n ≡ number chosen inode → it ≡ at_start n mode
      → after ≡ set_process pid (with_slot f d (process_of k pid)) (set_description d it k) → after ≡ applied chosen (Open_inode i inode mode pid f) k
  unfolding applied
  opens i inode mode pid f d n it made there is h =
      h ∙ ap (λ (x : Description). set_process pid (with_slot f d (process_of k pid)) (set_description d x k)) (is ∙ ap (λ (m : ℕ). at_start m mode) there)
      ∙ ap (λ (e : ℕ). open_at e (number chosen inode) mode pid f k) made

  pub makes_pipe : (i pid f g p r w : ℕ) → p ≡ get_or chosen i 0 → r ≡ get_or chosen (i + 1) 0 → w ≡ get_or chosen (i + 2) 0
      → after ≡ open_at w p to_write pid g (open_at r p to_read pid f (set_inode p (Pipe []) k)) → after ≡ applied chosen (Make_pipe i pid f g) k
  unfolding applied
  makes_pipe i pid f g p r w pipe reader writer h =
      h ∙ ap (λ (x : ℕ). open_at x p to_write pid g (open_at r p to_read pid f (set_inode p (Pipe []) k))) writer
      ∙ ap (λ (x : ℕ). open_at (get_or chosen (i + 2) 0) p to_write pid g (open_at x p to_read pid f (set_inode p (Pipe []) k))) reader
      ∙ ap (λ (x : ℕ). open_at (get_or chosen (i + 2) 0) x to_write pid g (open_at (get_or chosen (i + 1) 0) x to_read pid f (set_inode x (Pipe []) k))) pipe

  pub shares : (pid f d : ℕ) (pipes : List ℕ) → after ≡ set_process pid (with_slot f d (process_of k pid)) k → after ≡ applied chosen (Share_slot pid f d pipes) k
  unfolding applied
  shares pid f d pipes h = h

  pub clears : (pid f : ℕ) (pipes : List ℕ) → after ≡ set_process pid (without_slot f (process_of k pid)) k → after ≡ applied chosen (Clear_slot pid f pipes) k
  unfolding applied
  clears pid f pipes h = h

  pub forks : (child parent : ℕ) (pipes : List ℕ) → after ≡ record k { processes = insert k.processes child (process_of k parent); made = child } → after ≡ applied chosen (New_process child parent pipes) k
  unfolding applied
  forks child parent pipes h = h

  pub ends : (pid : ℕ) (pipes : List ℕ) → after ≡ record k { processes = remove k.processes pid } → after ≡ applied chosen (End_process pid pipes) k
  unfolding applied
  ends pid pipes h = h

-- a write or a cut among edits that end so
pub put_ends : (e : Edit) (n offset : ℕ) (bytes old : List ℕ) (before : ℕ) → e ≡ Put_bytes n offset bytes before → old ≡ bytes → EndsWithin e → offset + length old ≤ largest_file
put_ends e n offset bytes old before is same h = subst (λ (bs : List ℕ). offset + length bs ≤ largest_file) (sym same) (subst EndsWithin is h)

pub wipe_ends : (e : Edit) (n offset count : ℕ) → e ≡ Wipe n offset count → EndsWithin e → offset + count ≤ largest_file
wipe_ends e n offset count is h = subst EndsWithin is h

pub cut_ends : (e : Edit) (n before len : ℕ) → e ≡ Cut n before len → EndsWithin e → len ≤ largest_file
cut_ends e n before len is h = subst EndsWithin is h
