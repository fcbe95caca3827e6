-- What a process sees of itself stays alike in two states through its own edits.
use Rattle.std.proofs.Common.{◌≡◌, ◌≢◌, ℕ, ◌+◌, Bool, List, [], cond, Option, Some, None, refl, sym, ap, subst, ◌∙◌, ◌==◌, eq-eqb, ne_eqb, nat_cmp, inl, inr}
use Rattle.model.specs.FiniteMap.{FinMap, get, empty, insert, get-empty}
use Rattle.std.proofs.lemmas.Bool.{cases_eq}
use Rattle.model.specs.State.{Kind, Kernel, Inode, File, Directory, Pipe, Fixed, Description, Process, kind, kind_of, mapped}
use Rattle.model.specs.Calls.{Slot, slot_of}
use Rattle.model.specs.Changes.{Edit, Made, number, Mode, Make_directory, Make_file, Make_fixed, Name_file, Unname_file, Unname_directory, Move, Swap, Put_bytes, Wipe, Cut, Take, Append, Set_offset, Set_rights, Open_inode, Make_pipe, Share_slot, Clear_slot, New_process, End_process, applied, process_of, set_inode, set_offset, at_offset, set_process, set_description, at_start, with_slot, without_slot, open_at, to_read, to_write}
use Rattle.call_laws.specs.Fits.{table_of, fixed_of, IsAlive, OwnAlike, Fits, IsBy}
use Rattle.model.proofs.Laws.{get_same, get_other}
use Rattle.call_laws.proofs.Maps.{not_none, from_insert, removed_same}
use Rattle.call_laws.proofs.edits.Processes.{table_in, table_here, table_there}
use Rattle.call_laws.proofs.edits.Ends.{without_process}
use Rattle.call_laws.proofs.edits.SlotsAlike.{with_tables, TablesAlike, own_tables, shared_alike, cleared_alike, pipe_at}

-- a changed inode changes the kinds in fixed parts
renewed : ℕ → Kind → Slot → Slot
renewed n what s = record s { kind = cond (s.inode == n) (Some what) s.kind }

kind_renewed : (k : Kernel) (n : ℕ) (new : Inode) (t : ℕ) → kind_of (set_inode n new k) t ≡ cond (t == n) (Some (kind new)) (kind_of k t)
kind_renewed k n new t =
    elim (cases_eq t n) [
      | inl is ↦ ap (kind_of (set_inode n new k)) is ∙ ap (mapped kind) (get_same k.inodes n new) ∙ ap (λ b. cond b (Some (kind new)) (kind_of k t)) (sym (eq-eqb t n is))
      | inr away ↦ ap (mapped kind) (get_other k.inodes n t new away) ∙ ap (λ b. cond b (Some (kind new)) (kind_of k t)) (sym (ne_eqb t n away))
    ]

fixed_renewed : (k : Kernel) (n : ℕ) (new : Inode) (d : ℕ) → fixed_of (set_inode n new k) d ≡ mapped (renewed n (kind new)) (fixed_of k d)
unfolding renewed
fixed_renewed k n new d = by_description (get k.descriptions d)
  where
    by_description : (x : Option Description) → mapped (λ it. slot_of (set_inode n new k) d (Some it)) x ≡ mapped (renewed n (kind new)) (mapped (λ it. slot_of k d (Some it)) x)
    by_description None = refl
    by_description (Some it) = ap (λ what. Some (record { description = d; inode = it.inode; kind = what; reading = it.reading; writing = it.writing; appending = it.appending })) (kind_renewed k n new it.inode)

-- two inodes of one kind, whatever they hold
inode_stays : (now later : Kernel) (pid n : ℕ) (new other : Inode) → kind other ≡ kind new → OwnAlike now later pid → OwnAlike (set_inode n new now) (set_inode n other later) pid
inode_stays now later pid n new other same h = record {
  root = h.root;
  bounds = h.bounds;
  table = h.table;
  fixed = λ f d is. fixed_renewed later n other d ∙ ap (λ what. mapped (renewed n what) (fixed_of later d)) same ∙ ap (mapped (renewed n (kind new))) (h.fixed f d is) ∙ sym (fixed_renewed now n new d);
}

-- alike on the way from one state to a third
pub own_trans : (a b c : Kernel) (pid : ℕ) → OwnAlike a b pid → OwnAlike b c pid → OwnAlike a c pid
own_trans a b c pid g h = record {
  root = h.root ∙ g.root;
  bounds = h.bounds ∙ g.bounds;
  table = h.table ∙ g.table;
  fixed = λ f d is. h.fixed f d (ap (λ (t : FinMap nat_cmp ℕ). get t f) g.table ∙ is) ∙ g.fixed f d is;
}

pub own_sym : (a b : Kernel) (pid : ℕ) → OwnAlike a b pid → OwnAlike b a pid
own_sym a b pid h = record {
  root = sym h.root;
  bounds = sym h.bounds;
  table = sym h.table;
  fixed = λ f d is. sym (h.fixed f d (ap (λ (t : FinMap nat_cmp ℕ). get t f) (sym h.table) ∙ is));
}

-- an offset is no fixed part
offset_fixed : (k : Kernel) (d place : ℕ) (old : Description) → get k.descriptions d ≡ Some old → (e : ℕ) → fixed_of (set_description d (at_offset place old) k) e ≡ fixed_of k e
offset_fixed k d place old is e =
    elim (cases_eq e d) [
      | inl same ↦ ap (λ e. fixed_of (set_description d (at_offset place old) k) e) same ∙ ap (mapped (λ it. slot_of k d (Some it))) (get_same k.descriptions d (at_offset place old))
          ∙ sym (ap (mapped (λ it. slot_of k d (Some it))) is) ∙ ap (fixed_of k) (sym same)
      | inr away ↦ ap (mapped (λ it. slot_of k e (Some it))) (get_other k.descriptions d e (at_offset place old) away)
    ]

pub offset_alone : (k : Kernel) (pid d place : ℕ) (x : Option Description) → get k.descriptions d ≡ x → OwnAlike k (set_offset d place x k) pid
offset_alone k pid d place None is = record { root = refl; bounds = refl; table = refl; fixed = λ f e gives. refl }
offset_alone k pid d place (Some old) is = record { root = refl; bounds = refl; table = refl; fixed = λ f e gives. offset_fixed k d place old is e }

-- a new description with its slot
opened_fixed : (k : Kernel) (d n : ℕ) (how : Mode) (pid f : ℕ) → fixed_of (open_at d n how pid f k) d ≡ Some (record { description = d; inode = n; kind = kind_of k n; reading = how.reading; writing = how.writing; appending = how.appending })
opened_fixed k d n how pid f = ap (mapped (λ it. slot_of k d (Some it))) (get_same k.descriptions d (at_start n how))

pub other_fixed : (k : Kernel) (d n : ℕ) (how : Mode) (pid f e : ℕ) → e ≢ d → fixed_of (open_at d n how pid f k) e ≡ fixed_of k e
other_fixed k d n how pid f e away = ap (mapped (λ it. slot_of k e (Some it))) (get_other k.descriptions d e (at_start n how) away)

open_stays : (now later : Kernel) (d n : ℕ) (how : Mode) (pid f : ℕ) → kind_of later n ≡ kind_of now n → OwnAlike now later pid → OwnAlike (open_at d n how pid f now) (open_at d n how pid f later) pid
open_stays now later d n how pid f kinds h = record {
  root = h.root;
  bounds = h.bounds;
  table = table_here (set_description d (at_start n how) later) pid (with_slot f d (process_of later pid)) ∙ ap (λ (t : FinMap nat_cmp ℕ). insert t f d) h.table
      ∙ sym (table_here (set_description d (at_start n how) now) pid (with_slot f d (process_of now pid)));
  fixed = λ g e is. elim (cases_eq e d) [
    | inl same ↦ ap (fixed_of (open_at d n how pid f later)) same ∙ opened_fixed later d n how pid f
        ∙ ap (λ what. Some (record { description = d; inode = n; kind = what; reading = how.reading; writing = how.writing; appending = how.appending })) kinds
        ∙ sym (ap (fixed_of (open_at d n how pid f now)) same ∙ opened_fixed now d n how pid f)
    | inr away ↦ elim (from_insert (table_of now pid) f g d e (ap (λ (t : FinMap nat_cmp ℕ). get t g) (sym (table_here (set_description d (at_start n how) now) pid (with_slot f d (process_of now pid)))) ∙ is)) [
      | inl here ↦ absurd (away (sym here.1))
      | inr there ↦ other_fixed later d n how pid f e away ∙ h.fixed g e there.1 ∙ sym (other_fixed now d n how pid f e away)
    ]
  ];
}

pipe_stays : (now later : Kernel) (p d e pid f g : ℕ) → OwnAlike now later pid → OwnAlike (pipe_at p d e pid f g now) (pipe_at p d e pid f g later) pid
pipe_stays now later p d e pid f g h =
    let kinds : kind_of (set_inode p (Pipe []) later) p ≡ kind_of (set_inode p (Pipe []) now) p = ap (mapped kind) (get_same later.inodes p (Pipe [])) ∙ sym (ap (mapped kind) (get_same now.inodes p (Pipe []))) in
    open_stays (open_at d p to_read pid f (set_inode p (Pipe []) now)) (open_at d p to_read pid f (set_inode p (Pipe []) later)) e p to_write pid g kinds
    (open_stays (set_inode p (Pipe []) now) (set_inode p (Pipe []) later) d p to_read pid f kinds (inode_stays now later pid p (Pipe []) (Pipe []) refl h))

-- a process's new table
table_stays : (now later : Kernel) (pid : ℕ) (x y : Process) → later.root ≡ now.root → later.bounds ≡ now.bounds → TablesAlike now later x.table y.table → OwnAlike (set_process pid x now) (set_process pid y later) pid
table_stays now later pid x y root bounds alike = record {
  root = root;
  bounds = bounds;
  table = table_here later pid y ∙ alike.same ∙ sym (table_here now pid x);
  fixed = λ f d is. alike.fixed f d (ap (λ (t : FinMap nat_cmp ℕ). get t f) (sym (table_here now pid x)) ∙ is);
}

-- another process's new table, and a new count of processes
pub other_alone : (k : Kernel) (pid q : ℕ) (x : Process) (made : ℕ) → pid ≢ q → OwnAlike k (with_tables k k.descriptions (insert k.processes q x) made) pid
other_alone k pid q x made away = record { root = refl; bounds = refl; table = table_there k q x pid away; fixed = λ f d is. refl }

pub fresh_apart : (k : Kernel) (pid child : ℕ) → IsAlive k pid → get k.processes child ≡ None → pid ≢ child
fresh_apart k pid child alive fresh e = alive (ap (get k.processes) e ∙ fresh)

gone_table : (k : Kernel) (pid : ℕ) → table_of (without_process pid k) pid ≡ empty
gone_table k pid = ap table_in (removed_same k.processes pid)

end_stays : (now later : Kernel) (pid : ℕ) → later.root ≡ now.root → later.bounds ≡ now.bounds → OwnAlike (without_process pid now) (without_process pid later) pid
end_stays now later pid root bounds = record {
  root = root;
  bounds = bounds;
  table = gone_table later pid ∙ sym (gone_table now pid);
  fixed = λ f d is. absurd (not_none d (sym is ∙ ap (λ (t : FinMap nat_cmp ℕ). get t f) (gone_table now pid) ∙ get-empty nat_cmp f));
}

pub own_stays_alike : (chosen : List ℕ) (now later : Kernel) (e : Edit) (pid : ℕ) (inside : Bool) → IsBy pid inside e → Fits chosen now e → Fits chosen later e → OwnAlike now later pid → OwnAlike (applied chosen e now) (applied chosen e later) pid
unfolding applied
own_stays_alike chosen now later (Make_directory d x i) pid inside by f g h = inode_stays _ _ pid d _ _ refl (inode_stays now later pid _ (Directory empty) (Directory empty) refl h)
own_stays_alike chosen now later (Make_file d x i) pid inside by f g h = inode_stays _ _ pid d _ _ refl (inode_stays now later pid _ (File []) (File []) refl h)
own_stays_alike chosen now later (Make_fixed d x fixed i) pid inside by f g h = inode_stays _ _ pid d _ _ refl (inode_stays now later pid _ (Fixed fixed) (Fixed fixed) refl h)
own_stays_alike chosen now later (Name_file d x n) pid inside by f g h = inode_stays now later pid d _ _ refl h
own_stays_alike chosen now later (Unname_file d x n) pid inside by f g h = inode_stays now later pid d _ _ refl h
own_stays_alike chosen now later (Unname_directory d x n) pid inside by f g h = inode_stays now later pid d _ _ refl h
own_stays_alike chosen now later (Move d x e y n replaced) pid inside by f g h = inode_stays _ _ pid e _ _ refl (inode_stays now later pid d _ _ refl h)
own_stays_alike chosen now later (Swap d x n e y m) pid inside by f g h = inode_stays _ _ pid e _ _ refl (inode_stays now later pid d _ _ refl h)
own_stays_alike chosen now later (Put_bytes n place bytes before) pid inside by f g h = inode_stays now later pid n _ _ refl h
own_stays_alike chosen now later (Wipe n place count) pid inside by f g h = inode_stays now later pid n _ _ refl h
own_stays_alike chosen now later (Cut n before after) pid inside by f g h = inode_stays now later pid n _ _ refl h
own_stays_alike chosen now later (Take p count) pid inside by f g h = inode_stays now later pid p _ _ refl h
own_stays_alike chosen now later (Append p bytes) pid inside by f g h = inode_stays now later pid p _ _ refl h
own_stays_alike chosen now later (Set_offset d place) pid inside by f g h =
    own_trans _ later _ pid (own_trans _ now later pid (own_sym now _ pid (offset_alone now pid d place (get now.descriptions d) refl)) h) (offset_alone later pid d place (get later.descriptions d) refl)
own_stays_alike chosen now later (Set_rights n rights) pid inside by f g h = record { root = h.root; bounds = h.bounds; table = h.table; fixed = h.fixed }
own_stays_alike chosen now later (Open_inode i inode how q f) pid inside by can could h =
    subst (OwnAlike (applied chosen (Open_inode i inode how q f) now) (applied chosen (Open_inode i inode how q f) later)) by (open_stays now later (number chosen (Made i)) (number chosen inode) how q f (could.kind ∙ sym can.kind) (subst (OwnAlike now later) (sym by) h))
own_stays_alike chosen now later (Make_pipe i q f g) pid inside by can could h =
    subst (OwnAlike (applied chosen (Make_pipe i q f g) now) (applied chosen (Make_pipe i q f g) later)) by (pipe_stays now later (number chosen (Made i)) (number chosen (Made (i + 1))) (number chosen (Made (i + 2))) q f g (subst (OwnAlike now later) (sym by) h))
own_stays_alike chosen now later (Share_slot q f d pipes) pid inside by can could h =
    subst (OwnAlike (applied chosen (Share_slot q f d pipes) now) (applied chosen (Share_slot q f d pipes) later)) by
    (table_stays now later q (with_slot f d (process_of now q)) (with_slot f d (process_of later q)) h.root h.bounds
    (shared_alike now later q f d can.from can.held (own_tables now later q (subst (OwnAlike now later) (sym by) h))))
own_stays_alike chosen now later (Clear_slot q f pipes) pid inside by can could h =
    subst (OwnAlike (applied chosen (Clear_slot q f pipes) now) (applied chosen (Clear_slot q f pipes) later)) by
    (table_stays now later q (without_slot f (process_of now q)) (without_slot f (process_of later q)) h.root h.bounds (cleared_alike now later q f (own_tables now later q (subst (OwnAlike now later) (sym by) h))))
own_stays_alike chosen now later (New_process child parent pipes) pid inside by can could h =
    own_trans _ later _ pid
    (own_trans _ now later pid (own_sym now _ pid (other_alone now pid child (process_of now parent) child (fresh_apart now pid child (subst (IsAlive now) by can.alive) can.fresh))) h)
    (other_alone later pid child (process_of later parent) child (fresh_apart later pid child (subst (IsAlive later) by could.alive) could.fresh))
own_stays_alike chosen now later (End_process q pipes) pid inside by can could h =
    subst (OwnAlike (without_process q now) (without_process q later)) by.0 (end_stays now later q h.root h.bounds)
