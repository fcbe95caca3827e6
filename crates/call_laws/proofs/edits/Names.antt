-- Names that come and go.
use Rattle.std.proofs.Common.{◌≡◌, ◌≢◌, ℕ, ◌+◌, Bool, true, false, cond, [], ◌++◌, length, get_or, Option, Some, None, refl, sym, ap, ◌∙◌, arith, ◌==◌, ◌<◌, eq-eqb, sum_by, inl, inr}
use Rattle.std.specs.Ordering.{eq_by_cmp}
use Rattle.std.specs.Cmp.Lexicographic.{nat_list_cmp_total}
use Rattle.model.specs.FiniteMap.{FinMap, get, insert, remove, keys, values, get-insert, get-remove, nat_cmp-IsAntisymmetric}
use Rattle.std.specs.Cmp.{nat_cmp_total}
use Rattle.std.proofs.lemmas.Bool.{cases_eq}
use Rattle.model.specs.State.{Name, name_cmp, Kind, A_directory, Kernel, Inode, File, Directory, Pipe, Fixed, Link_to, Fifo, Socket, kind, names_of, file_of, pipe_of, target_of, kind_of, entry_of, links, ends, mapped, names_of_inode, file_of_inode, pipe_of_inode, target_of_inode, rights_or}
use Rattle.model.specs.Aspects.{Aspect, Entry, Names, Size, Block, Links, Ends, Offset, Front, Back, Target, Rights, Keeps}
use Rattle.model.specs.Changes.{set_inode, set_name, clear_name}
use Rattle.model.proofs.Laws.{weight, sum-insert, sum-remove, name_exact, get_same, get_other, unchanged_by, given_in, weighed, links-set_inode}

no_file : (x : Option Inode) → mapped kind x ≡ Some A_directory → [] ≡ file_of_inode x
no_file None e = refl
no_file (Some (File bytes)) e = absurd cc
no_file (Some (Directory names)) e = refl
no_file (Some (Pipe bytes)) e = refl
no_file (Some (Fixed fixed)) e = refl

no_pipe : (x : Option Inode) → mapped kind x ≡ Some A_directory → [] ≡ pipe_of_inode x
no_pipe None e = refl
no_pipe (Some (File bytes)) e = refl
no_pipe (Some (Directory names)) e = refl
no_pipe (Some (Pipe bytes)) e = absurd cc
no_pipe (Some (Fixed fixed)) e = refl

no_target : (x : Option Inode) → mapped kind x ≡ Some A_directory → [] ≡ target_of_inode x
no_target None e = refl
no_target (Some (File bytes)) e = refl
no_target (Some (Directory names)) e = refl
no_target (Some (Pipe bytes)) e = refl
no_target (Some (Fixed (Link_to target))) e = absurd cc
no_target (Some (Fixed Fifo)) e = refl
no_target (Some (Fixed Socket)) e = refl

-- one state is another with other names in one directory
pub record HasNames (k after : Kernel) (d : ℕ) (names : FinMap name_cmp ℕ) : Type 0 where
  pub kinds : (t : ℕ) → kind_of after t ≡ kind_of k t
  pub files : (t : ℕ) → file_of after t ≡ file_of k t
  pub pipes : (t : ℕ) → pipe_of after t ≡ pipe_of k t
  pub targets : (t : ℕ) → target_of after t ≡ target_of k t
  pub here : names_of after d ≡ names
  pub there : (t : ℕ) → t ≢ d → names_of after t ≡ names_of k t
  pub links : (m : ℕ) → links after m + given_in m (names_of k d) ≡ links k m + given_in m names

pub has_names : (k : Kernel) (d : ℕ) (names : FinMap name_cmp ℕ) → kind_of k d ≡ Some A_directory → HasNames k (set_inode d (Directory names) k) d names
has_names k d names e = record {
  kinds = unchanged_by (mapped kind) k d (Directory names) (sym e);
  files = unchanged_by file_of_inode k d (Directory names) (no_file _ e);
  pipes = unchanged_by pipe_of_inode k d (Directory names) (no_pipe _ e);
  targets = unchanged_by target_of_inode k d (Directory names) (no_target _ e);
  here = ap names_of_inode (get_same k.inodes d (Directory names));
  there = λ t h. ap names_of_inode (get_other k.inodes d t (Directory names) h);
  links = links-set_inode k d (Directory names);
}

-- what names give, with its kind
abbrev pub with_kind : Kernel → Option ℕ → Option (ℕ × Option Kind)
with_kind k o = mapped (λ n. (n, kind_of k n)) o

pub same_kinds : (k after : Kernel) → ((t : ℕ) → kind_of after t ≡ kind_of k t) → (o : Option ℕ) → with_kind after o ≡ with_kind k o
same_kinds k after h None = refl
same_kinds k after h (Some t) = λ i. Some (t, h t i)

pub entry_here : (k after : Kernel) (d : ℕ) (names : FinMap name_cmp ℕ) → HasNames k after d names → (x : Name) → entry_of after d x ≡ with_kind k (get names x)
entry_here k after d names h x = same_kinds k after h.kinds (get (names_of after d) x) ∙ ap (λ (ns : FinMap name_cmp ℕ). with_kind k (get ns x)) h.here

pub entry_there : (k after : Kernel) (d : ℕ) (names : FinMap name_cmp ℕ) → HasNames k after d names → (t : ℕ) → t ≢ d → (x : Name) → entry_of after t x ≡ entry_of k t x
entry_there k after d names h t away x = same_kinds k after h.kinds (get (names_of after t) x) ∙ ap (λ (ns : FinMap name_cmp ℕ). with_kind k (get ns x)) (h.there t away)

-- a name that comes
pub entry_named : (k : Kernel) (d : ℕ) (x : Name) (n : ℕ) → kind_of k d ≡ Some A_directory → (y : Name) → entry_of (set_name d x n k) d y ≡ cond (eq_by_cmp name_cmp y x) (Some (n, kind_of k n)) (entry_of k d y)
entry_named k d x n e y = entry_here k (set_name d x n k) d (insert (names_of k d) x n) (has_names k d _ e) y
    ∙ ap (with_kind k) (get-insert nat_list_cmp_total (names_of k d) x n y) ∙ within (eq_by_cmp name_cmp y x)
  where
    within : (b : Bool) → with_kind k (cond b (Some n) (get (names_of k d) y)) ≡ cond b (Some (n, kind_of k n)) (entry_of k d y)
    within true = refl
    within false = refl

-- a name that goes
pub entry_unnamed : (k : Kernel) (d : ℕ) (x : Name) → kind_of k d ≡ Some A_directory → (y : Name) → entry_of (clear_name d x k) d y ≡ cond (eq_by_cmp name_cmp y x) None (entry_of k d y)
entry_unnamed k d x e y = entry_here k (clear_name d x k) d (remove (names_of k d) x) (has_names k d _ e) y
    ∙ ap (with_kind k) (get-remove nat_list_cmp_total (names_of k d) x y) ∙ within (eq_by_cmp name_cmp y x)
  where
    within : (b : Bool) → with_kind k (cond b None (get (names_of k d) y)) ≡ cond b None (entry_of k d y)
    within true = refl
    within false = refl

-- counts of names: what a name gives is counted at that number alone
abbrev pub one : ℕ → ℕ → ℕ
one n m = cond (n == m) 1 0

abbrev pub counted : ℕ → Option ℕ → ℕ
counted m o = weight (λ v. one v m) o

-- one more of n, and one less of what the name gave
pub links_named : (k : Kernel) (d : ℕ) (x : Name) (n : ℕ) → kind_of k d ≡ Some A_directory → (m : ℕ) → links (set_name d x n k) m + counted m (get (names_of k d) x) ≡ links k m + one n m
links_named k d x n e m =
    let moved : links (set_name d x n k) m + given_in m (names_of k d) ≡ links k m + given_in m (insert (names_of k d) x n) = (has_names k d (insert (names_of k d) x n) e).links m in
    let more : given_in m (insert (names_of k d) x n) + counted m (get (names_of k d) x) ≡ given_in m (names_of k d) + one n m = sum-insert nat_list_cmp_total name_exact (λ v. cond (v == m) 1 0) (names_of k d) x n in
    omega arith

pub links_unnamed : (k : Kernel) (d : ℕ) (x : Name) → kind_of k d ≡ Some A_directory → (m : ℕ) → links (clear_name d x k) m + counted m (get (names_of k d) x) ≡ links k m
links_unnamed k d x e m =
    let moved : links (clear_name d x k) m + given_in m (names_of k d) ≡ links k m + given_in m (remove (names_of k d) x) = (has_names k d (remove (names_of k d) x) e).links m in
    let less : counted m (get (names_of k d) x) + given_in m (remove (names_of k d) x) ≡ given_in m (names_of k d) = sum-remove nat_list_cmp_total name_exact (λ v. cond (v == m) 1 0) (names_of k d) x in
    omega arith

-- a name that gives n is counted
pub named_counted : (k : Kernel) (d : ℕ) (x : Name) (n : ℕ) → get (names_of k d) x ≡ Some n → 0 < links k n
unfolding links
named_counted k d x n e =
    let here : counted n (get (names_of k d) x) + given_in n (remove (names_of k d) x) ≡ given_in n (names_of k d) = sum-remove nat_list_cmp_total name_exact (λ v. cond (v == n) 1 0) (names_of k d) x in
    let one_here : counted n (get (names_of k d) x) ≡ 1 = ap (counted n) e ∙ ap (λ b. cond b 1 0) (eq-eqb n n refl) in
    let all : weight (λ inode. given_in n (names_of_inode (Some inode))) (get k.inodes d) + sum_by (λ inode. given_in n (names_of_inode (Some inode))) (values (remove k.inodes d)) ≡ links k n = sum-remove nat_cmp_total nat_cmp-IsAntisymmetric (λ inode. given_in n (names_of_inode (Some inode))) k.inodes d in
    let part : weight (λ inode. given_in n (names_of_inode (Some inode))) (get k.inodes d) ≡ given_in n (names_of k d) = weighed n (get k.inodes d) in
    omega arith

-- two states keep alike what is not about names
pub same_rest : (now later : Kernel) (d : ℕ) (names other : FinMap name_cmp ℕ) → kind_of now d ≡ Some A_directory → kind_of later d ≡ Some A_directory
    → ((x : Name) → entry_of later d x ≡ entry_of now d x → with_kind later (get other x) ≡ with_kind now (get names x))
    → (keys (names_of later d) ≡ keys (names_of now d) → keys other ≡ keys names)
    → ((m : ℕ) → links later m ≡ links now m → links (set_inode d (Directory other) later) m ≡ links (set_inode d (Directory names) now) m)
    → (a : Aspect) → Keeps now later a → Keeps (set_inode d (Directory names) now) (set_inode d (Directory other) later) a
unfolding ends
same_rest now later d names other e f entry listed counted (Entry t x) h =
    elim (cases_eq t d) [
      | inl is ↦ ap (λ t. entry_of (set_inode d (Directory other) later) t x) is ∙ entry_here later _ d other (has_names later d other f) x
          ∙ entry x (ap (λ t. entry_of later t x) (sym is) ∙ h ∙ ap (λ t. entry_of now t x) is)
          ∙ sym (ap (λ t. entry_of (set_inode d (Directory names) now) t x) is ∙ entry_here now _ d names (has_names now d names e) x)
      | inr away ↦ entry_there later _ d other (has_names later d other f) t away x ∙ h ∙ sym (entry_there now _ d names (has_names now d names e) t away x)
    ]
same_rest now later d names other e f entry listed counted (Names t) h =
    elim (cases_eq t d) [
      | inl is ↦ ap (λ t. keys (names_of (set_inode d (Directory other) later) t)) is ∙ ap keys (has_names later d other f).here
          ∙ listed (ap (λ t. keys (names_of later t)) (sym is) ∙ h ∙ ap (λ t. keys (names_of now t)) is)
          ∙ sym (ap (λ t. keys (names_of (set_inode d (Directory names) now) t)) is ∙ ap keys (has_names now d names e).here)
      | inr away ↦ ap keys ((has_names later d other f).there t away) ∙ h ∙ ap keys (sym ((has_names now d names e).there t away))
    ]
same_rest now later d names other e f entry listed counted (Size n) h = ap length ((has_names later d other f).files n) ∙ h ∙ ap length (sym ((has_names now d names e).files n))
same_rest now later d names other e f entry listed counted (Block n block) h = λ i is. ap (λ bytes. get_or bytes i 0) ((has_names later d other f).files n) ∙ h i is ∙ ap (λ bytes. get_or bytes i 0) (sym ((has_names now d names e).files n))
same_rest now later d names other e f entry listed counted (Links n) h = counted n h
same_rest now later d names other e f entry listed counted (Ends p) h = h
same_rest now later d names other e f entry listed counted (Offset t) h = h
same_rest now later d names other e f entry listed counted (Front p) h = (h.0, (has_names later d other f).pipes p ∙ h.1 ∙ ap (λ bytes. bytes ++ h.0) (sym ((has_names now d names e).pipes p)))
same_rest now later d names other e f entry listed counted (Back p) h = (h.0, (has_names now d names e).pipes p ∙ h.1 ∙ ap (λ bytes. h.0 ++ bytes) (sym ((has_names later d other f).pipes p)))
same_rest now later d names other e f entry listed counted (Target n) h = (has_names later d other f).targets n ∙ h ∙ sym ((has_names now d names e).targets n)
same_rest now later d names other e f entry listed counted (Rights n) h = ap (rights_or (get later.rights n)) ((has_names later d other f).kinds n) ∙ h ∙ sym (ap (rights_or (get now.rights n)) ((has_names now d names e).kinds n))
