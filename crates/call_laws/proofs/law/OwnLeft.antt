-- What a process sees of itself is left alone by the edits of another.
use Rattle.std.proofs.Common.{◌≡◌, ◌≢◌, ℕ, Bool, List, [], Option, Some, None, refl, sym, ap, subst, ◌∙◌, nat_cmp}
use Rattle.model.specs.FiniteMap.{FinMap, get, empty}
use Rattle.model.specs.State.{Name, A_directory, Kernel, Inode, File, Directory, Pipe, Fixed, Description, kind, kind_of, mapped}
use Rattle.model.specs.Calls.{slot_of}
use Rattle.model.specs.Changes.{Edit, Mode, Make_directory, Make_file, Make_fixed, Name_file, Unname_file, Unname_directory, Move, Swap, Put_bytes, Wipe, Cut, Take, Append, Set_offset, Set_rights, Open_inode, Make_pipe, Share_slot, Clear_slot, New_process, End_process, applied, process_of, set_inode, set_name, clear_name, set_description, at_start, with_slot, open_at, to_read, to_write}
use Rattle.call_laws.specs.Fits.{table_of, fixed_of, IsAlive, IsUnused, OwnAlike, Fits, IsBy}
use Rattle.call_laws.specs.WellFormed.{WellFormed, CanBeOpened}
use Rattle.model.proofs.Laws.{get_other, unchanged_by}
use Rattle.call_laws.proofs.Maps.{not_none, removed_other}
use Rattle.call_laws.proofs.edits.Processes.{table_in, table_there}
use Rattle.call_laws.proofs.edits.Ends.{without_process}
use Rattle.call_laws.proofs.edits.SlotsAlike.{pipe_at}
use Rattle.call_laws.proofs.law.OwnAlike.{own_trans, offset_alone, other_fixed, other_alone, fresh_apart}

-- the fixed parts that stand on kinds that stay
fixed_same : (k : Kernel) (n : ℕ) (new : Inode) (d : ℕ) → ((it : Description) → get k.descriptions d ≡ Some it → kind_of (set_inode n new k) it.inode ≡ kind_of k it.inode) → fixed_of (set_inode n new k) d ≡ fixed_of k d
fixed_same k n new d kinds = by_description (get k.descriptions d) refl
  where
    by_description : (x : Option Description) → get k.descriptions d ≡ x → mapped (λ it. slot_of (set_inode n new k) d (Some it)) x ≡ mapped (λ it. slot_of k d (Some it)) x
    by_description None e = refl
    by_description (Some it) e = ap (λ what. Some (record { description = d; inode = it.inode; kind = what; reading = it.reading; writing = it.writing; appending = it.appending })) (kinds it e)

-- an inode of the same kind
inode_alone : (k : Kernel) (pid n : ℕ) (new : Inode) → kind_of k n ≡ Some (kind new) → OwnAlike k (set_inode n new k) pid
inode_alone k pid n new is = record { root = refl; bounds = refl; table = refl; fixed = λ f d gives. fixed_same k n new d (λ it e. unchanged_by (mapped kind) k n new (sym is) it.inode) }

-- a number that no description has open
open_apart : (k : Kernel) (n : ℕ) → WellFormed k → get k.inodes n ≡ None → (d : ℕ) (it : Description) → get k.descriptions d ≡ Some it → it.inode ≢ n
open_apart k n well none d it is same = subst CanBeOpened (ap (kind_of k) same ∙ ap (mapped kind) none) (well.descriptions d it is)

-- an inode that was not there
new_alone : (k : Kernel) (pid n : ℕ) (new : Inode) → WellFormed k → get k.inodes n ≡ None → OwnAlike k (set_inode n new k) pid
new_alone k pid n new well none = record { root = refl; bounds = refl; table = refl; fixed = λ f d gives. fixed_same k n new d (λ it e. ap (mapped kind) (get_other k.inodes n it.inode new (open_apart k n well none d it e))) }

directory_apart : (k : Kernel) (n d : ℕ) → get k.inodes n ≡ None → kind_of k d ≡ Some A_directory → d ≢ n
directory_apart k n d none is e = not_none A_directory (sym is ∙ ap (kind_of k) e ∙ ap (mapped kind) none)

make_alone : (k : Kernel) (pid d : ℕ) (x : Name) (n : ℕ) (new : Inode) → WellFormed k → get k.inodes n ≡ None → kind_of k d ≡ Some A_directory → OwnAlike k (set_name d x n (set_inode n new k)) pid
make_alone k pid d x n new well none is =
    own_trans k (set_inode n new k) (set_name d x n (set_inode n new k)) pid (new_alone k pid n new well none)
    (inode_alone (set_inode n new k) pid d _ (ap (mapped kind) (get_other k.inodes n d new (directory_apart k n d none is)) ∙ is))

open_alone : (k : Kernel) (d n : ℕ) (how : Mode) (q f pid : ℕ) → pid ≢ q → ((g : ℕ) → get (table_of k pid) g ≢ Some d) → OwnAlike k (open_at d n how q f k) pid
open_alone k d n how q f pid away unheld = record {
  root = refl;
  bounds = refl;
  table = table_there (set_description d (at_start n how) k) q (with_slot f d (process_of k q)) pid away;
  fixed = λ g e is. other_fixed k d n how q f e (λ same. unheld g (is ∙ ap Some same));
}

pipe_alone : (k : Kernel) (p d e q f g pid : ℕ) → pid ≢ q → WellFormed k → get k.inodes p ≡ None → IsUnused k d → IsUnused k e → OwnAlike k (pipe_at p d e q f g k) pid
pipe_alone k p d e q f g pid away well none one two =
    let first : OwnAlike k (set_inode p (Pipe []) k) pid = new_alone k pid p (Pipe []) well none in
    let second : OwnAlike (set_inode p (Pipe []) k) (open_at d p to_read q f (set_inode p (Pipe []) k)) pid = open_alone (set_inode p (Pipe []) k) d p to_read q f pid away (one.unheld pid) in
    let third : OwnAlike (open_at d p to_read q f (set_inode p (Pipe []) k)) (pipe_at p d e q f g k) pid =
    open_alone (open_at d p to_read q f (set_inode p (Pipe []) k)) e p to_write q g pid away (λ h is. two.unheld pid h (ap (λ (t : FinMap nat_cmp ℕ). get t h) (sym second.table) ∙ is)) in
    own_trans k (open_at d p to_read q f (set_inode p (Pipe []) k)) (pipe_at p d e q f g k) pid (own_trans k (set_inode p (Pipe []) k) (open_at d p to_read q f (set_inode p (Pipe []) k)) pid first second) third

end_alone : (k : Kernel) (pid q : ℕ) → pid ≢ q → OwnAlike k (without_process q k) pid
end_alone k pid q away = record { root = refl; bounds = refl; table = ap table_in (removed_other k.processes q pid away); fixed = λ f d is. refl }

pub own_is_left_alone : (chosen : List ℕ) (k : Kernel) (e : Edit) (pid other : ℕ) (inside : Bool) → IsBy other inside e → pid ≢ other → IsAlive k pid → WellFormed k → Fits chosen k e → OwnAlike k (applied chosen e k) pid
unfolding applied
own_is_left_alone chosen k (Make_directory d x i) pid other inside by away alive well f = make_alone k pid d x _ (Directory empty) well f.1.inode f.0.parent.directory
own_is_left_alone chosen k (Make_file d x i) pid other inside by away alive well f = make_alone k pid d x _ (File []) well f.1.inode f.0.parent.directory
own_is_left_alone chosen k (Make_fixed d x fixed i) pid other inside by away alive well f = make_alone k pid d x _ (Fixed fixed) well f.1.inode f.0.parent.directory
own_is_left_alone chosen k (Name_file d x n) pid other inside by away alive well f = inode_alone k pid d _ f.0.parent.directory
own_is_left_alone chosen k (Unname_file d x n) pid other inside by away alive well f = inode_alone k pid d _ f.parent.directory
own_is_left_alone chosen k (Unname_directory d x n) pid other inside by away alive well f = inode_alone k pid d _ f.0.parent.directory
own_is_left_alone chosen k (Move d x e y n replaced) pid other inside by away alive well f =
    own_trans k (clear_name d x k) (set_name e y n (clear_name d x k)) pid (inode_alone k pid d _ f.from.parent.directory)
    (inode_alone (clear_name d x k) pid e _ (unchanged_by (mapped kind) k d _ (sym f.from.parent.directory) e ∙ f.onto.directory))
own_is_left_alone chosen k (Swap d x n e y m) pid other inside by away alive well f =
    own_trans k (set_name d x m k) (set_name e y n (set_name d x m k)) pid (inode_alone k pid d _ f.first.parent.directory)
    (inode_alone (set_name d x m k) pid e _ (unchanged_by (mapped kind) k d _ (sym f.first.parent.directory) e ∙ f.second.parent.directory))
own_is_left_alone chosen k (Put_bytes n place bytes before) pid other inside by away alive well f = inode_alone k pid n _ f.0
own_is_left_alone chosen k (Wipe n place count) pid other inside by away alive well f = inode_alone k pid n _ f.0
own_is_left_alone chosen k (Cut n before after) pid other inside by away alive well f = inode_alone k pid n _ f.0
own_is_left_alone chosen k (Take p count) pid other inside by away alive well f = inode_alone k pid p _ f.0
own_is_left_alone chosen k (Append p bytes) pid other inside by away alive well f = inode_alone k pid p _ f.0
own_is_left_alone chosen k (Set_offset d place) pid other inside by away alive well f = offset_alone k pid d place (get k.descriptions d) refl
own_is_left_alone chosen k (Set_rights n rights) pid other inside by away alive well f = record { root = refl; bounds = refl; table = refl; fixed = λ t d is. refl }
own_is_left_alone chosen k (Open_inode i inode how q f) pid other inside by away alive well can = open_alone k _ _ how q f pid (λ e. away (e ∙ by)) (can.unused.unheld pid)
own_is_left_alone chosen k (Make_pipe i q f g) pid other inside by away alive well can = pipe_alone k _ _ _ q f g pid (λ e. away (e ∙ by)) well can.pipe.inode can.reader can.writer
own_is_left_alone chosen k (Share_slot q f d pipes) pid other inside by away alive well can = other_alone k pid q _ k.made (λ e. away (e ∙ by))
own_is_left_alone chosen k (Clear_slot q f pipes) pid other inside by away alive well can = other_alone k pid q _ k.made (λ e. away (e ∙ by))
own_is_left_alone chosen k (New_process child parent pipes) pid other inside by away alive well can = other_alone k pid child _ child (fresh_apart k pid child alive can.fresh)
own_is_left_alone chosen k (End_process q pipes) pid other inside by away alive well can = end_alone k pid q (λ e. away (e ∙ by.0))
