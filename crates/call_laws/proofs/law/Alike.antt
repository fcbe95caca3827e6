-- What two states have alike they have alike after the same edit: for each edit.
use Rattle.std.proofs.Common.{◌≡◌, ℕ, List, [], refl, sym, subst, ◌∙◌}
use Rattle.model.specs.FiniteMap.{empty}
use Rattle.model.specs.State.{A_directory, Kernel, File, Directory, Fixed}
use Rattle.model.specs.Changes.{Edit, Make_directory, Make_file, Make_fixed, Name_file, Unname_file, Unname_directory, Move, Swap, Put_bytes, Wipe, Cut, Take, Append, Set_offset, Set_rights, Open_inode, Make_pipe, Share_slot, Clear_slot, New_process, End_process, applied, process_of, with_slot, without_slot}
use Rattle.call_laws.specs.Fits.{table_of, OwnAlike, EditKeeps}
use Rattle.call_laws.proofs.edits.Contents.{take_keeps, append_keeps}
use Rattle.call_laws.proofs.edits.Blocks.{put_keeps, wipe_keeps, cut_keeps}
use Rattle.call_laws.proofs.edits.Swapped.{swapped_keeps}
use Rattle.call_laws.proofs.edits.Offsets.{offset_keeps}
use Rattle.call_laws.proofs.edits.Rights.{rights_keep}
use Rattle.call_laws.proofs.edits.NamesAlike.{is_new, kept_kind, made_keeps, named_keeps, unnamed_keeps, moved_keeps, same_kind}
use Rattle.call_laws.proofs.edits.SlotsAlike.{TablesAlike, own_tables, open_keeps, pipe_keeps, process_keeps, end_keeps, shared_alike, cleared_alike, none_alike}

own_of : (now later : Kernel) (pid q : ℕ) → q ≡ pid → OwnAlike now later pid → TablesAlike now later (table_of now q) (table_of later q)
own_of now later pid q by own = subst (λ q. TablesAlike now later (table_of now q) (table_of later q)) (sym by) (own_tables now later pid own)

pub edit_keeps : (chosen : List ℕ) (now later : Kernel) (e : Edit) → EditKeeps chosen now later e
unfolding applied
edit_keeps chosen now later (Make_directory d x i) pid inside by own f g same marked = made_keeps now later d x _ (Directory empty) (is_new now _ (Directory empty) f.1.inode refl refl refl) (is_new later _ (Directory empty) g.1.inode refl refl refl) (g.1.rights ∙ sym f.1.rights)
    (kept_kind now _ d (Directory empty) A_directory f.1.inode f.0.parent.directory) (kept_kind later _ d (Directory empty) A_directory g.1.inode g.0.parent.directory) marked.0
edit_keeps chosen now later (Make_file d x i) pid inside by own f g same marked = made_keeps now later d x _ (File []) (is_new now _ (File []) f.1.inode refl refl refl) (is_new later _ (File []) g.1.inode refl refl refl) (g.1.rights ∙ sym f.1.rights)
    (kept_kind now _ d (File []) A_directory f.1.inode f.0.parent.directory) (kept_kind later _ d (File []) A_directory g.1.inode g.0.parent.directory) marked.0
edit_keeps chosen now later (Make_fixed d x fixed i) pid inside by own f g same marked = made_keeps now later d x _ (Fixed fixed) (is_new now _ (Fixed fixed) f.1.inode refl refl refl) (is_new later _ (Fixed fixed) g.1.inode refl refl refl) (g.1.rights ∙ sym f.1.rights)
    (kept_kind now _ d (Fixed fixed) A_directory f.1.inode f.0.parent.directory) (kept_kind later _ d (Fixed fixed) A_directory g.1.inode g.0.parent.directory) marked.0
edit_keeps chosen now later (Name_file d x n) pid inside by own f g same marked = named_keeps now later d x n f.0.parent.directory g.0.parent.directory marked.0 same
edit_keeps chosen now later (Unname_file d x n) pid inside by own f g same marked = unnamed_keeps now later d x f.parent.directory g.parent.directory marked.0
edit_keeps chosen now later (Unname_directory d x n) pid inside by own f g same marked = unnamed_keeps now later d x f.0.parent.directory g.0.parent.directory marked.0
edit_keeps chosen now later (Move d x e y n replaced) pid inside by own f g same marked =
    moved_keeps now later d x e y n f.from.parent.directory g.from.parent.directory f.onto.directory g.onto.directory (same_kind now later d x n f.from.gives g.from.gives marked.0) marked.0 marked.1.0
edit_keeps chosen now later (Swap d x n e y m) pid inside by own f g same marked =
    swapped_keeps now later d x n e y m f.first.parent.directory g.first.parent.directory f.second.parent.directory g.second.parent.directory (same_kind now later d x n f.first.gives g.first.gives marked.0) (same_kind now later e y m f.second.gives g.second.gives marked.1.0) marked.0 marked.1.0
edit_keeps chosen now later (Put_bytes n place bytes before) pid inside by own f g same marked = put_keeps now later n place bytes f.0 g.0 (g.1 ∙ sym f.1)
edit_keeps chosen now later (Wipe n place count) pid inside by own f g same marked = wipe_keeps now later n place count f.0 g.0
edit_keeps chosen now later (Cut n before after) pid inside by own f g same marked = cut_keeps now later n after f.0 g.0
edit_keeps chosen now later (Take p count) pid inside by own f g same marked = take_keeps now later p count f.0 g.0 f.1 marked.0
edit_keeps chosen now later (Append p bytes) pid inside by own f g same marked = append_keeps now later p bytes f.0 g.0 marked.0
edit_keeps chosen now later (Set_offset d place) pid inside by own f g same marked = offset_keeps now later d place f.0 g.0 f.1 g.1
edit_keeps chosen now later (Set_rights n rights) pid inside by own f g same marked = rights_keep now later n rights
edit_keeps chosen now later (Open_inode i inode how q f) pid inside by own can could same marked = open_keeps now later _ _ how q f can.unused could.unused can.slot.free could.slot.free
edit_keeps chosen now later (Make_pipe i q f g) pid inside by own can could same marked = pipe_keeps chosen now later _ _ _ q f g can could
edit_keeps chosen now later (Share_slot q f d pipes) pid inside by own can could same marked =
    process_keeps now later q (with_slot f d (process_of now q)) (with_slot f d (process_of later q)) now.made later.made (own_of now later pid q by own) (shared_alike now later q f d can.from can.held (own_of now later pid q by own))
edit_keeps chosen now later (Clear_slot q f pipes) pid inside by own can could same marked =
    process_keeps now later q (without_slot f (process_of now q)) (without_slot f (process_of later q)) now.made later.made (own_of now later pid q by own) (cleared_alike now later q f (own_of now later pid q by own))
edit_keeps chosen now later (New_process child parent pipes) pid inside by own can could same marked =
    process_keeps now later child (process_of now parent) (process_of later parent) child child (none_alike now later child can.fresh could.fresh) (own_of now later pid parent by own)
edit_keeps chosen now later (End_process q pipes) pid inside by own can could same marked = end_keeps now later q (own_of now later pid q by.0 own)
