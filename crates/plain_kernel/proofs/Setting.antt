-- What a write to one map of a kernel makes of it.
use Rattle.std.proofs.Common.{◌≡◌, ℕ, [], Option, Some, None, MatchOption, Result, Ok, Err, IfOk, OnOk, nat_cmp, ap, ◌∙◌}
use Rattle.model.specs.FiniteMap.{FinMap, get, insert, remove}
use Rattle.model.specs.State.{Kernel, Inode, File, Description, Process, Rights}
use Rattle.model.specs.Changes.{Mode, at_offset, at_start, open_at, process_of, set_description, set_inode, set_offset, set_process, set_rights, with_slot, without_slot}
use Rattle.plain_kernel.proofs.Maps.{set_twice}

-- `a` is what the fields say, `k` the kernel that they are
pub inode_set : (a k : Kernel) (n : ℕ) (i : Inode) (m : FinMap nat_cmp Inode) → a ≡ k → m ≡ insert a.inodes n i → record a { inodes = m } ≡ set_inode n i k
inode_set a k n i m e f = ap (λ (x : FinMap nat_cmp Inode). record a { inodes = x }) f ∙ ap (set_inode n i) e

-- its rights
pub rights_set : (a k : Kernel) (n : ℕ) (rights : Rights) (m : FinMap nat_cmp Rights) → a ≡ k → m ≡ insert a.rights n rights → record a { rights = m } ≡ set_rights n rights k
rights_set a k n rights m e f = ap (λ (x : FinMap nat_cmp Rights). record a { rights = x }) f ∙ ap (set_rights n rights) e

-- an inode that was taken out, and is set again
pub inode_replaced : (k mid after : Kernel) (d : ℕ) (i j : Inode) → mid ≡ set_inode d (File []) k → after ≡ set_inode d i mid → i ≡ j → after ≡ set_inode d j k
inode_replaced k mid after d i j e f g = f ∙ ap (set_inode d i) e ∙ set_twice k d (File []) i ∙ ap (λ (x : Inode). set_inode d x k) g

-- the offset of a description that is there, and of one that is not
offset_by : (k : Kernel) (n offset : ℕ) (o : Option Description) (m : FinMap nat_cmp Description)
    → MatchOption o (m ≡ k.descriptions) (λ old. m ≡ insert k.descriptions n (at_offset offset old)) → record k { descriptions = m } ≡ set_offset n offset o k
offset_by k n offset None m is = ap (λ (x : FinMap nat_cmp Description). record k { descriptions = x }) is
offset_by k n offset (Some old) m is = ap (λ (x : FinMap nat_cmp Description). record k { descriptions = x }) is

pub offset_set : (a k : Kernel) (m : FinMap nat_cmp Description) (n offset : ℕ) → a ≡ k
    → MatchOption (get a.descriptions n) (m ≡ a.descriptions) (λ old. m ≡ insert a.descriptions n (at_offset offset old)) → record a { descriptions = m } ≡ set_offset n offset (get k.descriptions n) k
offset_set a k m n offset e is = offset_by a n offset (get a.descriptions n) m is ∙ ap (λ (x : Kernel). set_offset n offset (get x.descriptions n) x) e

-- a description at its beginning, with its slot
pub opened_at : (k after : Kernel) (d n : ℕ) (m mode : Mode) (pid f : ℕ) (it : Description) → it ≡ at_start n m → m ≡ mode
    → after ≡ set_process pid (with_slot f d (process_of k pid)) (set_description d it k) → after ≡ open_at d n mode pid f k
opened_at k after d n m mode pid f it is same h =
    h ∙ ap (λ (x : Description). set_process pid (with_slot f d (process_of k pid)) (set_description d x k)) (is ∙ ap (at_start n) same)

-- a descriptor more or less; `a` is what the fields of a process say
module _ (a p : Process) (f g : ℕ) (m : FinMap nat_cmp ℕ) where
  pub slot_set : (d : ℕ) → a ≡ p → g ≡ f → m ≡ insert a.table g d → record a { table = m } ≡ with_slot f d p
  slot_set d e same h = ap (λ (x : FinMap nat_cmp ℕ). record a { table = x }) (h ∙ ap (λ (x : ℕ). insert a.table x d) same) ∙ ap (with_slot f d) e

  pub slot_left : a ≡ p → g ≡ f → m ≡ remove a.table g → record a { table = m } ≡ without_slot f p
  slot_left e same h = ap (λ (x : FinMap nat_cmp ℕ). record a { table = x }) (h ∙ ap (remove a.table) same) ∙ ap (without_slot f) e

-- what follows of the value of a call that has succeeded
pub ok_then : {A E : Type 0} (r : Result A E) {P Q : A → Type 0} → IfOk r P → ((x : A) → P x → Q x) → IfOk r Q
ok_then (Ok x) h f = f x h
ok_then (Err e) h f = tt

pub if_ok : {A E P Q : Type 0} (r : Result A E) → OnOk r P → (P → Q) → OnOk r Q
if_ok (Ok x) h f = f h
if_ok (Err e) h f = tt
