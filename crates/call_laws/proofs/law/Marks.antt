-- Of what was there an edit changes only what it marks: for each edit.
use Rattle.std.proofs.Common.{◌≡◌, ◌≢◌, ℕ, ◌+◌, List, [], ◌++◌, map, take, drop, cond, Some, nat_cmp, refl, sym, ap, subst, ◌∙◌, arith}
use Rattle.std.specs.List.{AllByRecursion}
use Rattle.std.proofs.lemmas.List.{take-append-drop}
use Rattle.model.specs.FiniteMap.{get, empty, insert, remove, get-empty}
use Rattle.model.specs.State.{A_file, A_pipe, Kernel, File, Directory, Fixed, kind_of, pipe_of, links}
use Rattle.model.specs.Aspects.{Links, Ends}
use Rattle.model.specs.Changes.{Edit, Make_directory, Make_file, Make_fixed, Name_file, Unname_file, Unname_directory, Move, Swap, Put_bytes, Wipe, Cut, Take, Append, Set_offset, Set_rights, Open_inode, Make_pipe, Share_slot, Clear_slot, New_process, End_process, applied, process_of, set_name, clear_name, with_slot, without_slot}
use Rattle.call_laws.specs.Objects.{IsThere, LeavesAlone}
use Rattle.call_laws.specs.Fits.{table_of, EditMarks}
use Rattle.model.proofs.Laws.{weight}
use Rattle.call_laws.proofs.Maps.{not_none}
use Rattle.call_laws.proofs.edits.Offsets.{offset_marks}
use Rattle.call_laws.proofs.edits.Rights.{rights_mark}
use Rattle.call_laws.proofs.edits.NamesAlike.{is_new}
use Rattle.call_laws.proofs.edits.Processes.{table_in}
use Rattle.call_laws.proofs.edits.Ends.{end_count, held, held-insert, held-remove, held-none}
use Rattle.call_laws.proofs.edits.InodeMarks.{made_marks, named_mark, unnamed_mark, for_links, same_when_named, same_when_unnamed, linked_is_other, moved_marks, still_gives, other_old, put_marks, wipe_marks, cut_marks, pipe_marks}
use Rattle.call_laws.proofs.edits.Swapped.{swapped_marks}
use Rattle.call_laws.proofs.edits.SlotMarks.{open_marks, offset_apart, made_pipe_marks, no_end, not_marked, process_marks, end_marks, slot_counts}

pub edit_marks : (chosen : List ℕ) (k : Kernel) (e : Edit) → EditMarks chosen k e
unfolding applied
edit_marks chosen k (Make_directory d x i) f a there alone = made_marks k d x _ (Directory empty) f.1 (is_new k _ (Directory empty) f.1.inode refl refl refl) f.0.parent.directory f.0.free a there alone.0
edit_marks chosen k (Make_file d x i) f a there alone = made_marks k d x _ (File []) f.1 (is_new k _ (File []) f.1.inode refl refl refl) f.0.parent.directory f.0.free a there alone.0
edit_marks chosen k (Make_fixed d x fixed i) f a there alone = made_marks k d x _ (Fixed fixed) f.1 (is_new k _ (Fixed fixed) f.1.inode refl refl refl) f.0.parent.directory f.0.free a there alone.0
edit_marks chosen k (Name_file d x n) f a there alone = named_mark k d x n f.0.parent.directory a
    (for_links a (λ m. links (set_name d x n k) m ≡ links k m) (λ m e. same_when_named k d x n m f.0.parent.directory f.0.free (λ same. alone.1.0 (ap Links same ∙ sym e)))) alone.0
edit_marks chosen k (Unname_file d x n) f a there alone = unnamed_mark k d x f.parent.directory a
    (for_links a (λ m. links (clear_name d x k) m ≡ links k m) (λ m e. same_when_unnamed k d x n m f.parent.directory f.gives (λ same. alone.1.0 (ap Links same ∙ sym e)))) alone.0
edit_marks chosen k (Unname_directory d x n) f a there alone = unnamed_mark k d x f.0.parent.directory a
    (for_links a (λ m. links (clear_name d x k) m ≡ links k m) (λ m e. same_when_unnamed k d x n m f.0.parent.directory f.0.gives (linked_is_other k n m f.0.kind (subst (IsThere k) e there)))) alone.0
edit_marks chosen k (Move d x e y n replaced) f a there alone = moved_marks k d x e y n f.old replaced f.from.parent.directory f.onto.directory f.from.gives
    (still_gives k d x e y n f.old f.from.parent.directory f.from.gives f.gives (other_old k n f.old replaced f.replaces)) f.replaces a there alone.0 alone.1.0 alone.1.1
edit_marks chosen k (Swap d x n e y m) f a there alone = swapped_marks k d x n e y m f.first.parent.directory f.second.parent.directory f.first.gives f.second.gives f.apart a alone.0 alone.1.0
edit_marks chosen k (Put_bytes n place bytes before) f a there alone = put_marks k n place bytes before f.0 f.1 a alone
edit_marks chosen k (Wipe n place count) f a there alone = wipe_marks k n place count f.0 f.1 a alone
edit_marks chosen k (Cut n before after) f a there alone = cut_marks k n before after f.0 f.1 a alone
edit_marks chosen k (Take p count) f a there alone = pipe_marks k p (drop count (pipe_of k p)) f.0 a (λ e. absurd (alone.0 (sym e))) (λ e. (take count (pipe_of k p), sym (take-append-drop count (pipe_of k p))))
edit_marks chosen k (Append p bytes) f a there alone = pipe_marks k p (pipe_of k p ++ bytes) f.0 a (λ e. (bytes, refl)) (λ e. absurd (alone.0 (sym e)))
edit_marks chosen k (Set_offset d place) f a there alone = offset_marks k d place f.0 f.1 a alone.0
edit_marks chosen k (Set_rights n rights) f a there alone = rights_mark k n rights a alone.0
edit_marks chosen k (Open_inode i inode how q f) can a there alone = open_marks k _ _ how q f can.unused can.slot.free a
    (offset_apart k _ a can.unused.description there)
    (λ p is same. differ (sym can.kind ∙ ap (kind_of k) same ∙ subst (IsThere k) is there))
  where
    differ : Some A_file ≡ Some A_pipe → ⊥
    differ e = absurd cc
edit_marks chosen k (Make_pipe i q f g) can a there alone = made_pipe_marks chosen k _ _ _ q f g can a there
edit_marks chosen k (Share_slot q f d pipes) can a there alone = process_marks k q (with_slot f d (process_of k q)) k.made a (λ p is mode.
    let none : AllByRecursion (λ q. q ≢ p) pipes = not_marked pipes p (subst (λ a. AllByRecursion (λ w. LeavesAlone w a) (map Ends pipes)) is alone) in
    let kind : kind_of k p ≡ Some A_pipe = subst (IsThere k) is there in
    let more : held k p mode (insert (table_of k q) f d) + weight (end_count k p mode) (get (table_of k q) f) ≡ held k p mode (table_of k q) + end_count k p mode d = held-insert k p mode (table_of k q) f d in
    let old : weight (end_count k p mode) (get (table_of k q) f) ≡ 0 = slot_counts k q f pipes p mode can.goes kind none in
    let new : end_count k p mode d ≡ 0 = ap (λ b. cond b 1 0) (no_end k pipes d p mode can.comes kind none) in
    omega arith)
edit_marks chosen k (Clear_slot q f pipes) can a there alone = process_marks k q (without_slot f (process_of k q)) k.made a (λ p is mode.
    let none : AllByRecursion (λ q. q ≢ p) pipes = not_marked pipes p (subst (λ a. AllByRecursion (λ w. LeavesAlone w a) (map Ends pipes)) is alone) in
    let less : weight (end_count k p mode) (get (table_of k q) f) + held k p mode (remove (table_of k q) f) ≡ held k p mode (table_of k q) = held-remove k p mode (table_of k q) f in
    let old : weight (end_count k p mode) (get (table_of k q) f) ≡ 0 = slot_counts k q f pipes p mode can.goes (subst (IsThere k) is there) none in
    omega arith)
edit_marks chosen k (New_process child parent pipes) can a there alone = process_marks k child (process_of k parent) child a (λ p is mode.
    let none : AllByRecursion (λ q. q ≢ p) pipes = not_marked pipes p (subst (λ a. AllByRecursion (λ w. LeavesAlone w a) (map Ends pipes)) is alone) in
    held-none k p mode (table_of k parent) (λ f d gives. no_end k pipes d p mode (can.shared f d gives) (subst (IsThere k) is there) none)
    ∙ sym (held-none k p mode (table_of k child) (λ f d gives. absurd (not_none d (sym gives ∙ ap (λ x. get (table_in x) f) can.fresh ∙ get-empty nat_cmp f)))))
edit_marks chosen k (End_process q pipes) can a there alone = end_marks k q a (λ p is mode.
    let none : AllByRecursion (λ q. q ≢ p) pipes = not_marked pipes p (subst (λ a. AllByRecursion (λ w. LeavesAlone w a) (map Ends pipes)) is alone) in
    held-none k p mode (table_of k q) (λ f d gives. no_end k pipes d p mode (can.shared f d gives) (subst (IsThere k) is there) none))
