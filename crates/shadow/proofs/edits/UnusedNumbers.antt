-- What an edit makes of a state does not hang on numbers of the call that the edit does not use,
-- nor on
-- what it says of the state before.
use Rattle.std.proofs.Common.{◌≡◌, ℕ, ◌+◌, List, [], ◌∷◌, Option, Some, None, false, refl, sym, ap, ◌∙◌}
use Rattle.ids.specs.declared.edit.Mode.{Mode}
use Rattle.model.specs.State.{Directory, File, Fixed, Fixed_content, Kernel, Name, Pipe, Rights}
use Rattle.model.specs.FiniteMap.{empty}
use Rattle.model.specs.Changes.{Append, Cut, Edit, Make_directory, Make_file, Make_fixed, Make_pipe, Open_inode}
use Rattle.model.specs.Changes.{Move, Name_file, Put_bytes, Replaced, There, Which, applied, number}
use Rattle.model.specs.Changes.{Set_rights, Swap, Take, Wipe, open_at, to_read, to_write}
use Rattle.model.specs.Changes.{set_inode, set_name, tidy}
use Rattle.call_laws.specs.Fits.{Fits}
use Rattle.freeing_laws.specs.Sweep.{IsTidied, loses}
use Rattle.freeing_laws.proofs.Laws.{sweep_is_tidy_lem}
use Rattle.notes.specs.declared.change.Made.{Made as What}
use Rattle.notes.specs.declared.change.Made.TheVariants.{Directory as A_directory, File as A_file, Pipe as A_pipe, Fixed as A_fixed}
use Rattle.notes.specs.Steps.{new_in, slotting, unnaming}

-- a new object by its own number alone
module _ (chosen : List ℕ) (d : ℕ) (x : Name) (n i : ℕ) (first : i ≡ 0) (new : n ≡ new_in chosen 0)
    (k : Kernel) where
  pub same_directory : applied (n ∷ []) (Make_directory d x 0) k
      ≡ applied chosen (Make_directory d x i) k
  unfolding applied
  same_directory = ap (λ n. set_name d x n (set_inode n (Directory empty) k))
      (new ∙ sym (ap (new_in chosen) first))

  pub same_file : applied (n ∷ []) (Make_file d x 0) k ≡ applied chosen (Make_file d x i) k
  unfolding applied
  same_file = ap (λ n. set_name d x n (set_inode n (File []) k))
      (new ∙ sym (ap (new_in chosen) first))

  pub same_fixed : (fixed : Fixed_content)
      → applied (n ∷ []) (Make_fixed d x fixed 0) k ≡ applied chosen (Make_fixed d x fixed i) k
  unfolding applied
  same_fixed fixed = ap (λ n. set_name d x n (set_inode n (Fixed fixed) k))
      (new ∙ sym (ap (new_in chosen) first))

pub same_opening : (chosen : List ℕ) (i : ℕ) (inode : Which) (mode : Mode) (pid f n m : ℕ)
    → n ≡ new_in chosen i → m ≡ number chosen inode → (k : Kernel)
    → applied (n ∷ []) (Open_inode 0 (There m) mode pid f) k
    ≡ applied chosen (Open_inode i inode mode pid f) k
unfolding applied
same_opening chosen i inode mode pid f n m new is k = ap (λ n. open_at n m mode pid f k) new
    ∙ ap (λ m. open_at (new_in chosen i) m mode pid f k) is

-- a new pipe, its reader and its writer
pub same_pipe : (chosen : List ℕ) (i pid f g p r w : ℕ) → p ≡ new_in chosen i
    → r ≡ new_in chosen (i + 1) → w ≡ new_in chosen (i + 2) → (k : Kernel)
    → applied (p ∷ r ∷ w ∷ []) (Make_pipe 0 pid f g) k ≡ applied chosen (Make_pipe i pid f g) k
unfolding applied
same_pipe chosen i pid f g p r w first second third k =
    ap (λ p. open_at w p to_write pid g (open_at r p to_read pid f (set_inode p (Pipe []) k))) first
    ∙ ap (λ r. open_at w (new_in chosen i) to_write pid g
    (open_at r (new_in chosen i) to_read pid f (set_inode (new_in chosen i) (Pipe []) k))) second
    ∙ ap (λ w. open_at w (new_in chosen i) to_write pid g (open_at (new_in chosen (i + 1))
    (new_in chosen i) to_read pid f (set_inode (new_in chosen i) (Pipe []) k))) third

-- edits that make nothing
module _ (chosen : List ℕ) (k : Kernel) where
  pub same_unnaming : (what : What) (d : ℕ) (x : Name) (n : ℕ)
      → applied [] (unnaming what d x n) k ≡ applied chosen (unnaming what d x n) k
  unfolding applied
  same_unnaming A_directory d x n = refl
  same_unnaming A_file d x n = refl
  same_unnaming A_pipe d x n = refl
  same_unnaming A_fixed d x n = refl

  pub same_linking : (d : ℕ) (x : Name) (n : ℕ)
      → applied [] (Name_file d x n) k ≡ applied chosen (Name_file d x n) k
  unfolding applied
  same_linking d x n = refl

  pub same_moving : (d : ℕ) (x : Name) (e : ℕ) (y : Name) (n : ℕ) (replaced : Replaced)
      → applied [] (Move d x e y n replaced) k ≡ applied chosen (Move d x e y n replaced) k
  unfolding applied
  same_moving d x e y n replaced = refl

  pub same_bytes_put : (n place : ℕ) (bytes : List ℕ) (before : ℕ)
      → applied [] (Put_bytes n place bytes before) k
      ≡ applied chosen (Put_bytes n place bytes before) k
  unfolding applied
  same_bytes_put n place bytes before = refl

  pub same_cut : (n before after : ℕ)
      → applied [] (Cut n before after) k ≡ applied chosen (Cut n before after) k
  unfolding applied
  same_cut n before after = refl

  pub same_wipe : (n place count : ℕ)
      → applied [] (Wipe n place count) k ≡ applied chosen (Wipe n place count) k
  unfolding applied
  same_wipe n place count = refl

  pub same_swap : (d : ℕ) (x : Name) (n e : ℕ) (y : Name) (m : ℕ)
      → applied [] (Swap d x n e y m) k ≡ applied chosen (Swap d x n e y m) k
  unfolding applied
  same_swap d x n e y m = refl

  pub same_take : (n count : ℕ) → applied [] (Take n count) k ≡ applied chosen (Take n count) k
  unfolding applied
  same_take n count = refl

  pub same_append : (n : ℕ) (bytes : List ℕ)
      → applied [] (Append n bytes) k ≡ applied chosen (Append n bytes) k
  unfolding applied
  same_append n bytes = refl

  pub same_set_rights : (n : ℕ) (rights : Rights)
      → applied [] (Set_rights n rights) k ≡ applied chosen (Set_rights n rights) k
  unfolding applied
  same_set_rights n rights = refl

  pub same_slotting : (given : Option ℕ) (pid f : ℕ) (pipes : List ℕ)
      → applied [] (slotting given pid f pipes) k ≡ applied chosen (slotting given pid f pipes) k
  unfolding applied
  same_slotting (Some d) pid f pipes = refl
  same_slotting None pid f pipes = refl

-- after an edit that loses nothing, nothing is to go
pub none_goes : (chosen : List ℕ) (k : Kernel) (e : Edit) → IsTidied k → Fits chosen k e
    → loses e ≡ false → applied chosen e k ≡ tidy (applied chosen e k)
none_goes chosen k e tidied fits none = sym (sweep_is_tidy_lem.none chosen k e tidied fits none)
