-- No edit names the bounds.
use Rattle.std.proofs.Common.{◌≡◌, ℕ, List, [], ◌∷◌, Option, Some, None, refl, ◌∙◌}
use Rattle.model.specs.FiniteMap.{get}
use Rattle.model.specs.State.{Kernel, Description}
use Rattle.model.specs.Changes.{Edit, Make_directory, Make_file, Make_fixed, Name_file, Unname_file, Unname_directory, Move, Swap, Put_bytes, Wipe, Cut, Take, Append, Set_offset, Set_rights, Open_inode, Make_pipe, Share_slot, Clear_slot, New_process, End_process, set_offset, applied, all_applied, tidy}
use Rattle.model.specs.Entries.{Executed}
use Rattle.model.specs.Steps.{edits}
use Rattle.model.specs.Moments.{after_one, after_list, loose}
use Rattle.call_laws.specs.Bounds.{BoundsStay}

set_stays : (d place : ℕ) (x : Option Description) (k : Kernel) → (set_offset d place x k).bounds ≡ k.bounds
set_stays d place (Some old) k = refl
set_stays d place None k = refl

one_stays : (chosen : List ℕ) (e : Edit) (k : Kernel) → (applied chosen e k).bounds ≡ k.bounds
unfolding applied
one_stays chosen (Make_directory d x i) k = refl
one_stays chosen (Make_file d x i) k = refl
one_stays chosen (Make_fixed d x fixed i) k = refl
one_stays chosen (Name_file d x n) k = refl
one_stays chosen (Unname_file d x n) k = refl
one_stays chosen (Unname_directory d x n) k = refl
one_stays chosen (Move d x e y n replaced) k = refl
one_stays chosen (Swap d x n e y m) k = refl
one_stays chosen (Put_bytes n place bytes before) k = refl
one_stays chosen (Wipe n place count) k = refl
one_stays chosen (Cut n before after) k = refl
one_stays chosen (Take p count) k = refl
one_stays chosen (Append p bytes) k = refl
one_stays chosen (Set_offset d place) k = set_stays d place (get k.descriptions d) k
one_stays chosen (Set_rights n rights) k = refl
one_stays chosen (Open_inode i inode mode pid f) k = refl
one_stays chosen (Make_pipe i pid f g) k = refl
one_stays chosen (Share_slot pid f d pipes) k = refl
one_stays chosen (Clear_slot pid f pipes) k = refl
one_stays chosen (New_process child parent pipes) k = refl
one_stays chosen (End_process pid pipes) k = refl

pub all_stay : (chosen : List ℕ) (es : List Edit) (k : Kernel) → (all_applied chosen es k).bounds ≡ k.bounds
all_stay chosen [] k = refl
all_stay chosen (e ∷ es) k = all_stay chosen es (applied chosen e k) ∙ one_stays chosen e k

pub tidied_stays : (k : Kernel) → (tidy k).bounds ≡ k.bounds
unfolding tidy
tidied_stays k = refl

pub listed_stays : (pid : ℕ) (es : List Executed) (k : Kernel) → (after_list pid es k).bounds ≡ k.bounds
listed_stays pid [] k = refl
listed_stays pid (e ∷ es) k = listed_stays pid es (tidy (after_one pid e k)) ∙ tidied_stays (after_one pid e k) ∙ all_stay e.chosen (edits k pid e.call) k

loose_stays : (pid : ℕ) (es : List Executed) (k : Kernel) → (loose pid es k).bounds ≡ k.bounds
loose_stays pid [] k = refl
loose_stays pid (e ∷ es) k = loose_stays pid es (after_one pid e k) ∙ all_stay e.chosen (edits k pid e.call) k

pub the_bounds_stay : BoundsStay
the_bounds_stay = record { all = all_stay; tidied = tidied_stays; listed = listed_stays; loosely = loose_stays }
