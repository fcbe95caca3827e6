-- What is freed of a plain kernel, one object after the other.
use Rattle.std.proofs.Common.{◌≡◌, ℕ, zero, suc, ◌+◌, ◌<◌, true, false, List, [], ◌∷◌, ◌++◌, length, get_or, drop, nat_cmp, sym, ap, ◌∙◌, append_assoc, arith}
use Rattle.std.specs.List.{AllByRecursion}
use Rattle.std.specs.Prelude.{if◌then◌else◌}
use Rattle.std.proofs.lemmas.List.{drop_more}
use Rattle.model.specs.FiniteMap.{FinMap, get, remove}
use Rattle.model.specs.State.{Kernel, Inode, Rights}
use Rattle.model.specs.Changes.{Edit, applied, is_held, is_reached}
use Rattle.freeing_laws.specs.Counts.{free_description, free_inode, let_go, unnamed}
use Rattle.freeing_laws.specs.Sweep.{all_freed, freed, free_descriptions, free_inodes, inode_in, inodes_of}

abbrev less_description : ℕ → Kernel → Kernel
less_description d k = record k { descriptions = remove k.descriptions d }

abbrev less_inode : ℕ → Kernel → Kernel
less_inode n k = record k { inodes = remove k.inodes n; rights = remove k.rights n }

-- `a` is what the fields say, `k` the kernel that they are
pub description_freed : (k after : Kernel) (d : ℕ) → is_held k d ≡ false → after ≡ record k { descriptions = remove k.descriptions d } → after ≡ free_description d k
unfolding free_description
description_freed k after d free is = is ∙ sym (ap (λ b. if b then k else less_description d k) free)

pub description_kept : (k : Kernel) (d : ℕ) → is_held k d ≡ true → k ≡ free_description d k
unfolding free_description
description_kept k d held = sym (ap (λ b. if b then k else less_description d k) held)

pub inode_left : (a k : Kernel) (n : ℕ) (m : FinMap nat_cmp Inode) (r : FinMap nat_cmp Rights) → a ≡ k → m ≡ remove a.inodes n → r ≡ remove a.rights n
    → record a { inodes = m; rights = r } ≡ record k { inodes = remove k.inodes n; rights = remove k.rights n }
inode_left a k n m r e is unset =
    ap (λ (x : FinMap nat_cmp Inode). record a { inodes = x; rights = r }) is ∙ ap (λ (x : FinMap nat_cmp Rights). record a { inodes = remove a.inodes n; rights = x }) unset ∙ ap (less_inode n) e

pub inode_freed : (k after : Kernel) (n : ℕ) → is_reached k n ≡ false → after ≡ record k { inodes = remove k.inodes n; rights = remove k.rights n } → after ≡ free_inode n k
unfolding free_inode
inode_freed k after n free is = is ∙ sym (ap (λ b. if b then k else less_inode n k) free)

pub inode_kept : (k : Kernel) (n : ℕ) → is_reached k n ≡ true → k ≡ free_inode n k
unfolding free_inode
inode_kept k n reached = sym (ap (λ b. if b then k else less_inode n k) reached)

-- the next object of a list
module _ (nums : List ℕ) (i n : ℕ) (low : i < length nums) (is : n ≡ get_or nums i n) where
  next_num : drop i nums ≡ n ∷ drop (i + 1) nums
  next_num = drop_more nums i n low ∙ ap (λ (x : ℕ). x ∷ drop (i + 1) nums) (sym is)

  pub descriptions_step : (first k l : Kernel) → first ≡ free_descriptions (drop i nums) k → l ≡ free_description n k → first ≡ free_descriptions (drop (i + 1) nums) l
  descriptions_step first k l e made = e ∙ ap (λ (xs : List ℕ). free_descriptions xs k) next_num ∙ ap (free_descriptions (drop (i + 1) nums)) (sym made)

  pub inodes_step : (first k l : Kernel) → first ≡ free_inodes (drop i nums) k → l ≡ free_inode n k → first ≡ free_inodes (drop (i + 1) nums) l
  inodes_step first k l e made = e ∙ ap (λ (xs : List ℕ). free_inodes xs k) next_num ∙ ap (free_inodes (drop (i + 1) nums)) (sym made)

  pub opened_step : (k : Kernel) (first so_far more : List ℕ) → first ≡ so_far ++ inodes_of k (drop i nums) → more ≡ so_far ++ inode_in (get k.descriptions n) → first ≡ more ++ inodes_of k (drop (i + 1) nums)
  opened_step k first so_far more e made =
      e ∙ ap (λ (xs : List ℕ). so_far ++ inodes_of k xs) next_num ∙ sym (append_assoc so_far (inode_in (get k.descriptions n)) (inodes_of k (drop (i + 1) nums)))
      ∙ ap (λ (xs : List ℕ). xs ++ inodes_of k (drop (i + 1) nums)) (sym made)

-- the next edit of a list
pub edits_step : (chosen : List ℕ) (edits : List Edit) (i : ℕ) (e : Edit) → i < length edits → e ≡ get_or edits i e
    → (first k l : Kernel) → first ≡ all_freed chosen (drop i edits) k → l ≡ freed chosen e k → first ≡ all_freed chosen (drop (i + 1) edits) l
edits_step chosen edits i e low is first k l so made =
    so ∙ ap (λ (xs : List Edit). all_freed chosen xs k) (drop_more edits i e low ∙ ap (λ (x : Edit). x ∷ drop (i + 1) edits) (sym is)) ∙ ap (all_freed chosen (drop (i + 1) edits)) (sym made)

-- one of a list of which each has a property
pub all_at : {X : Type 0} (P : X → Type 0) (xs : List X) (i : ℕ) (d : X) → AllByRecursion P xs → i < length xs → P (get_or xs i d)
all_at P [] i d all low = absurd (omega arith)
all_at P (x ∷ xs) zero d all low = all.0
all_at P (x ∷ xs) (suc i) d all low = all_at P xs i d all.1 (omega arith)

-- an edit, and then what it let go
pub edit_freed : (chosen : List ℕ) (e : Edit) (k edited closed left : Kernel) (ds ns : List ℕ) → ds ≡ let_go k e → ns ≡ unnamed e ++ inodes_of k (let_go k e)
    → edited ≡ applied chosen e k → closed ≡ free_descriptions ds edited → left ≡ free_inodes ns closed → left ≡ freed chosen e k
edit_freed chosen e k edited closed left ds ns gone lost edits closes frees =
    frees ∙ ap (free_inodes ns) (closes ∙ ap (free_descriptions ds) edits ∙ ap (λ (xs : List ℕ). free_descriptions xs (applied chosen e k)) gone)
    ∙ ap (λ (xs : List ℕ). free_inodes xs (free_descriptions (let_go k e) (applied chosen e k))) lost
