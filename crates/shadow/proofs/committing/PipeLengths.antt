-- A pipe that is no longer than pipes get is so after the changes of a transaction.
use Rattle.std.proofs.Common.{◌≡◌, ℕ, ◌-◌, ◌+◌, ◌≤◌, List, [], ◌∷◌, ◌++◌, length, drop, Some, sym, ap, subst, ◌∙◌, arith, inl, inr, length-append, length-drop}
use Rattle.std.proofs.lemmas.Bool.{cases_eq}
use Rattle.model.specs.FiniteMap.{empty, get}
use Rattle.model.specs.Limits.{capacity}
use Rattle.model.specs.State.{Directory, File, Fixed, Inode, Kernel, Pipe, pipe_of, pipe_of_inode}
use Rattle.model.specs.Changes.{Edit, Made, Make_directory, Make_file, Make_fixed, Name_file, Unname_file, Unname_directory, Move, Put_bytes, Cut, Take, Append, Set_offset, Set_rights, Open_inode, Make_pipe, Share_slot, Clear_slot, New_process, End_process, Swap, Wipe, all_applied, applied, clear_name, number, set_inode, set_name}
use Rattle.model.specs.Effects.{Effect, all_done}
use Rattle.model.proofs.Laws.{get_same, get_other}
use Rattle.call_laws.specs.Fits.{Fits, FitsAll}
use Rattle.call_laws.proofs.Laws.{set_there}
use Rattle.freeing_laws.specs.Sweep.{AllFit}

module _ (p : ℕ) where
  abbrev IsShortIn : Kernel → Type 0
  IsShortIn k = length (pipe_of k p) ≤ capacity

  -- an inode changes, and where it is this one, the new one is short
  set_short : (k : Kernel) (n : ℕ) (new : Inode) → (p ≡ n → length (pipe_of_inode (Some new)) ≤ capacity) → length (pipe_of k p) ≤ capacity → length (pipe_of (set_inode n new k) p) ≤ capacity
  set_short k n new low short = elim (cases_eq p n) [
    | inl same ↦ subst (λ o. length (pipe_of_inode o) ≤ capacity) (sym (ap (get (set_inode n new k).inodes) same ∙ get_same k.inodes n new)) (low same)
    | inr away ↦ subst (λ o. length (pipe_of_inode o) ≤ capacity) (sym (get_other k.inodes n p new away)) short
  ]

  none : (n : ℕ) → p ≡ n → 0 ≤ capacity
  none n same = omega arith

  one : (chosen : List ℕ) (k : Kernel) (e : Edit) → Fits chosen k e → length (pipe_of k p) ≤ capacity → length (pipe_of (applied chosen e k) p) ≤ capacity
  unfolding applied
  one chosen k (Make_directory d x i) f short = set_short (set_inode (number chosen (Made i)) (Directory empty) k) d _ (none d) (set_short k (number chosen (Made i)) (Directory empty) (none (number chosen (Made i))) short)
  one chosen k (Make_file d x i) f short = set_short (set_inode (number chosen (Made i)) (File []) k) d _ (none d) (set_short k (number chosen (Made i)) (File []) (none (number chosen (Made i))) short)
  one chosen k (Make_fixed d x fixed i) f short = set_short (set_inode (number chosen (Made i)) (Fixed fixed) k) d _ (none d) (set_short k (number chosen (Made i)) (Fixed fixed) (none (number chosen (Made i))) short)
  one chosen k (Name_file d x n) f short = set_short k d _ (none d) short
  one chosen k (Unname_file d x n) f short = set_short k d _ (none d) short
  one chosen k (Unname_directory d x n) f short = set_short k d _ (none d) short
  one chosen k (Move d x e y n replaced) f short = set_short (clear_name d x k) e _ (none e) (set_short k d _ (none d) short)
  one chosen k (Put_bytes n place bytes before) f short = set_short k n _ (none n) short
  one chosen k (Wipe n place count) f short = set_short k n _ (none n) short
  one chosen k (Swap d x n e y m) f short = set_short (set_name d x m k) e _ (none e) (set_short k d _ (none d) short)
  one chosen k (Cut n before after) f short = set_short k n _ (none n) short
  one chosen k (Take q count) f short = set_short k q (Pipe (drop count (pipe_of k q))) (λ same.
      let less : length (drop count (pipe_of k q)) ≡ length (pipe_of k q) - count = length-drop count (pipe_of k q) in
      let low : length (pipe_of k q) ≤ capacity = subst (λ n. length (pipe_of k n) ≤ capacity) same short in omega arith) short
  one chosen k (Append q bytes) f short = set_short k q (Pipe (pipe_of k q ++ bytes)) (λ same.
      let more : length (pipe_of k q ++ bytes) ≡ length (pipe_of k q) + length bytes = length-append (pipe_of k q) bytes in
      let low : length (pipe_of k q) + length bytes ≤ capacity = f.1 in omega arith) short
  one chosen k (Set_offset d place) f short = subst (λ (k : Kernel). length (pipe_of k p) ≤ capacity) (sym (set_there k d place f.0 f.1)) short
  one chosen k (Set_rights n rights) f short = short
  one chosen k (Open_inode i inode how q s) can short = short
  one chosen k (Make_pipe i q f g) can short = set_short k (number chosen (Made i)) (Pipe []) (none (number chosen (Made i))) short
  one chosen k (Share_slot q f d pipes) can short = short
  one chosen k (Clear_slot q f pipes) can short = short
  one chosen k (New_process child parent pipes) can short = short
  one chosen k (End_process q pipes) can short = short

  all : (chosen : List ℕ) (es : List Edit) (k : Kernel) → FitsAll chosen k es → length (pipe_of k p) ≤ capacity → length (pipe_of (all_applied chosen es k) p) ≤ capacity
  all chosen [] k f short = short
  all chosen (e ∷ es) k f short = all chosen es (applied chosen e k) f.1 (one chosen k e f.0 short)

  pub stays_short : (fs : List Effect) (k : Kernel) → AllFit fs k → length (pipe_of k p) ≤ capacity → length (pipe_of (all_done fs k) p) ≤ capacity
  stays_short [] k f low = low
  stays_short (d ∷ fs) k f low = stays_short fs (all_applied d.chosen d.edits k) f.1 (all d.chosen d.edits k f.0 low)
