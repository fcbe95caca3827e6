-- Processes stay alive through each edit, but for one that ends itself.
use Rattle.std.proofs.Common.{◌≡◌, ◌≢◌, ◌⊎◌, ℕ, Bool, true, List, [], ◌∷◌, sym, subst, ◌∙◌, inl, inr}
use Rattle.std.specs.List.{AllByRecursion}
use Rattle.model.specs.FiniteMap.{insert}
use Rattle.model.specs.State.{Kernel}
use Rattle.model.specs.Changes.{Edit, Make_directory, Make_file, Make_fixed, Name_file, Unname_file, Unname_directory, Move, Swap, Put_bytes, Wipe, Cut, Take, Append, Set_offset, Set_rights, Open_inode, Make_pipe, Share_slot, Clear_slot, New_process, End_process, applied, all_applied, tidy}
use Rattle.model.specs.Moments.{is_alive}
use Rattle.call_laws.specs.Fits.{Fits, FitsAll, IsBy, IsAlive}
use Rattle.call_laws.proofs.Maps.{true_is_false, stays_inserted, removed_other}
use Rattle.call_laws.proofs.edits.Offsets.{set_there}

pub alive_stays : (chosen : List ℕ) (k : Kernel) (e : Edit) (pid : ℕ) (inside : Bool) (q : ℕ) → IsBy pid inside e → (q ≢ pid) ⊎ (inside ≡ true) → Fits chosen k e → IsAlive k q → IsAlive (applied chosen e k) q
unfolding applied
alive_stays chosen k (Make_directory d x i) pid inside q by other f alive = alive
alive_stays chosen k (Make_file d x i) pid inside q by other f alive = alive
alive_stays chosen k (Make_fixed d x fixed i) pid inside q by other f alive = alive
alive_stays chosen k (Name_file d x n) pid inside q by other f alive = alive
alive_stays chosen k (Unname_file d x n) pid inside q by other f alive = alive
alive_stays chosen k (Unname_directory d x n) pid inside q by other f alive = alive
alive_stays chosen k (Move d x e y n replaced) pid inside q by other f alive = alive
alive_stays chosen k (Swap d x n e y m) pid inside q by other f alive = alive
alive_stays chosen k (Put_bytes n place bytes before) pid inside q by other f alive = alive
alive_stays chosen k (Wipe n place count) pid inside q by other f alive = alive
alive_stays chosen k (Cut n before after) pid inside q by other f alive = alive
alive_stays chosen k (Take p count) pid inside q by other f alive = alive
alive_stays chosen k (Append p bytes) pid inside q by other f alive = alive
alive_stays chosen k (Set_offset d place) pid inside q by other f alive = subst (λ k. IsAlive k q) (sym (set_there k d place f.0 f.1)) alive
alive_stays chosen k (Set_rights n rights) pid inside q by other f alive = alive
alive_stays chosen k (Open_inode i inode how p g) pid inside q by other f alive = stays_inserted k.processes p _ q alive
alive_stays chosen k (Make_pipe i p g h) pid inside q by other f alive = stays_inserted (insert k.processes p _) p _ q (stays_inserted k.processes p _ q alive)
alive_stays chosen k (Share_slot p g d pipes) pid inside q by other f alive = stays_inserted k.processes p _ q alive
alive_stays chosen k (Clear_slot p g pipes) pid inside q by other f alive = stays_inserted k.processes p _ q alive
alive_stays chosen k (New_process child parent pipes) pid inside q by other f alive = stays_inserted k.processes child _ q alive
alive_stays chosen k (End_process p pipes) pid inside q by other f alive = elim other [
  | inl away ↦ λ none. alive (sym (removed_other k.processes p q (λ e. away (e ∙ by.0))) ∙ none)
  | inr in_transaction ↦ absurd (true_is_false (sym in_transaction ∙ by.1))
]

pub all_alive : (chosen : List ℕ) (es : List Edit) (k : Kernel) (pid : ℕ) (inside : Bool) (q : ℕ) → AllByRecursion (IsBy pid inside) es → (q ≢ pid) ⊎ (inside ≡ true) → FitsAll chosen k es → IsAlive k q → IsAlive (all_applied chosen es k) q
all_alive chosen [] k pid inside q by other f alive = alive
all_alive chosen (e ∷ es) k pid inside q by other f alive = all_alive chosen es (applied chosen e k) pid inside q by.1 other f.1 (alive_stays chosen k e pid inside q by.0 other f.0 alive)

-- tidying ends no process
pub alive_tidy : (k : Kernel) (pid : ℕ) → is_alive k pid ≡ true → is_alive (tidy k) pid ≡ true
unfolding tidy
alive_tidy k pid alive = alive
