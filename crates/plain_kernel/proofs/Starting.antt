-- The state before any entry.
use Rattle.std.proofs.Common.{◌≡◌, ℕ, ◌+◌, ◌<◌, add-one, List, ◌∷◌, length, get_or, drop, nat_cmp, sym, ap, ◌∙◌}
use Rattle.std.proofs.lemmas.List.{drop_more}
use Rattle.model.specs.FiniteMap.{FinMap, empty, insert}
use Rattle.model.specs.State.{Kernel, Inode, Directory, Description, Process, Rights}
use Rattle.model.specs.Moments.{Setup, start, with_processes}

-- one process more
pub one_process : (ps : List ℕ) (i p level : ℕ) (t : FinMap nat_cmp ℕ) (m new : FinMap nat_cmp Process) → i < length ps → p ≡ get_or ps i p
    → t ≡ empty → level ≡ p → new ≡ insert m (i + 1) (record { table = t; priority = level })
    → with_processes i (drop i ps) m ≡ with_processes (i + 1) (drop (i + 1) ps) new
one_process ps i p level t m new low is none same made =
    let process : ℕ → Process = λ (n : ℕ). record { table = empty; priority = n } in
    let now : new ≡ insert m (i + 1) (process p) = made ∙ ap (λ (x : FinMap nat_cmp ℕ). insert m (i + 1) (record { table = x; priority = level })) none ∙ ap (λ n. insert m (i + 1) (process n)) same in
    ap (λ (xs : List ℕ). with_processes i xs m) (drop_more ps i p low ∙ ap (λ (x : ℕ). x ∷ drop (i + 1) ps) (sym is))
    ∙ ap (λ n. with_processes n (drop (i + 1) ps) (insert m n (process p))) (sym (add-one i))
    ∙ ap (with_processes (i + 1) (drop (i + 1) ps)) (sym now)

-- the state of these parts
pub started : (root made : ℕ) (setup : Setup) (is : FinMap nat_cmp Inode) (rs : FinMap nat_cmp Rights) (ds : FinMap nat_cmp Description) (ps : FinMap nat_cmp Process)
    → is ≡ insert empty root (Directory empty) → rs ≡ empty → ds ≡ empty → ps ≡ with_processes 0 setup.priorities empty → made ≡ length setup.priorities
    → ◌≡◌ {A = Kernel} (record { root = root; inodes = is; rights = rs; descriptions = ds; processes = ps; made = made; bounds = setup.bounds }) (start root setup)
started root made setup is rs ds ps inodes unset none processes count = λ i. record {
  root = root;
  inodes = inodes i;
  rights = unset i;
  descriptions = none i;
  processes = processes i;
  made = count i;
  bounds = setup.bounds;
}
