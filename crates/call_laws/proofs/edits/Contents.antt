-- Bytes that come and go in files and pipes keep alike what is alike.
use Rattle.std.proofs.Common.{◌≡◌, ◌≢◌, ℕ, ◌+◌, ◌≤◌, List, [], ◌++◌, length, get_or, drop, Option, Some, None, refl, sym, ap, subst, ◌∙◌, arith, inl, inr, append-nil, append_assoc}
use Rattle.model.specs.FiniteMap.{FinMap, get, empty, keys}
use Rattle.std.proofs.lemmas.Bool.{cases_eq}
use Rattle.std.proofs.lemmas.List.{drop-append-le}
use Rattle.model.specs.State.{Name, name_cmp, A_file, A_pipe, Kernel, Inode, File, Directory, Pipe, Fixed, Link_to, Fifo, Socket, kind, names_of, file_of, pipe_of, target_of, kind_of, entry_of, links, ends, mapped, names_of_inode, file_of_inode, pipe_of_inode, target_of_inode, rights_or}
use Rattle.model.specs.Aspects.{Aspect, Entry, Names, Size, Block, Links, Ends, Offset, Front, Back, Target, Rights, Keeps}
use Rattle.model.specs.Changes.{set_inode}
use Rattle.model.proofs.Laws.{same_by_ends, get_same, get_other, unchanged_by, given_in, links-set_inode}
use Rattle.call_laws.proofs.edits.Names.{with_kind, same_kinds}

-- a file's bytes, or a pipe's, are new ones
pub record HasBytes (k after : Kernel) : Type 0 where
  pub kinds : (t : ℕ) → kind_of after t ≡ kind_of k t
  pub names : (t : ℕ) → names_of after t ≡ names_of k t
  pub links : (m : ℕ) → links after m ≡ links k m

pub no_names_file : (x : Option Inode) → mapped kind x ≡ Some A_file → empty ≡ names_of_inode x
no_names_file None e = refl
no_names_file (Some (File bytes)) e = refl
no_names_file (Some (Directory names)) e = absurd cc
no_names_file (Some (Pipe bytes)) e = refl
no_names_file (Some (Fixed fixed)) e = refl

pub no_names_pipe : (x : Option Inode) → mapped kind x ≡ Some A_pipe → empty ≡ names_of_inode x
no_names_pipe None e = refl
no_names_pipe (Some (File bytes)) e = refl
no_names_pipe (Some (Directory names)) e = absurd cc
no_names_pipe (Some (Pipe bytes)) e = refl
no_names_pipe (Some (Fixed fixed)) e = refl

pub no_pipe_file : (x : Option Inode) → mapped kind x ≡ Some A_file → [] ≡ pipe_of_inode x
no_pipe_file None e = refl
no_pipe_file (Some (File bytes)) e = refl
no_pipe_file (Some (Directory names)) e = refl
no_pipe_file (Some (Pipe bytes)) e = absurd cc
no_pipe_file (Some (Fixed fixed)) e = refl

pub no_file_pipe : (x : Option Inode) → mapped kind x ≡ Some A_pipe → [] ≡ file_of_inode x
no_file_pipe None e = refl
no_file_pipe (Some (File bytes)) e = absurd cc
no_file_pipe (Some (Directory names)) e = refl
no_file_pipe (Some (Pipe bytes)) e = refl
no_file_pipe (Some (Fixed fixed)) e = refl

pub no_target_file : (x : Option Inode) → mapped kind x ≡ Some A_file → [] ≡ target_of_inode x
no_target_file None e = refl
no_target_file (Some (File bytes)) e = refl
no_target_file (Some (Directory names)) e = refl
no_target_file (Some (Pipe bytes)) e = refl
no_target_file (Some (Fixed (Link_to target))) e = absurd cc
no_target_file (Some (Fixed Fifo)) e = refl
no_target_file (Some (Fixed Socket)) e = refl

pub no_target_pipe : (x : Option Inode) → mapped kind x ≡ Some A_pipe → [] ≡ target_of_inode x
no_target_pipe None e = refl
no_target_pipe (Some (File bytes)) e = refl
no_target_pipe (Some (Directory names)) e = refl
no_target_pipe (Some (Pipe bytes)) e = refl
no_target_pipe (Some (Fixed (Link_to target))) e = absurd cc
no_target_pipe (Some (Fixed Fifo)) e = refl
no_target_pipe (Some (Fixed Socket)) e = refl

pub has_bytes : (k : Kernel) (n : ℕ) (new : Inode) → Some (kind new) ≡ kind_of k n → names_of_inode (Some new) ≡ empty → empty ≡ names_of k n → HasBytes k (set_inode n new k)
has_bytes k n new same none none_before = record {
  kinds = unchanged_by (mapped kind) k n new same;
  names = unchanged_by names_of_inode k n new (none ∙ none_before);
  links = λ m.
      let moved : links (set_inode n new k) m + given_in m (names_of k n) ≡ links k m + given_in m (names_of_inode (Some new)) = links-set_inode k n new m in
      let as_before : given_in m (names_of k n) ≡ given_in m (names_of_inode (Some new)) = ap (given_in m) (sym none_before ∙ sym none) in
      omega arith;
}

pub entry_same : (k after : Kernel) → HasBytes k after → (d : ℕ) (x : Name) → entry_of after d x ≡ entry_of k d x
entry_same k after h d x = same_kinds k after h.kinds (get (names_of after d) x) ∙ ap (λ (ns : FinMap name_cmp ℕ). with_kind k (get ns x)) (h.names d)

-- an answer about the inode that is set, and about another
pub here_by : {B : Type 0} (f : Option Inode → B) (k : Kernel) (n : ℕ) (new : Inode) (m : ℕ) → m ≡ n → f (get (set_inode n new k).inodes m) ≡ f (Some new)
here_by f k n new m is = ap (λ m. f (get (set_inode n new k).inodes m)) is ∙ ap f (get_same k.inodes n new)

pub there_by : {B : Type 0} (f : Option Inode → B) (k : Kernel) (n : ℕ) (new : Inode) (m : ℕ) → m ≢ n → f (get (set_inode n new k).inodes m) ≡ f (get k.inodes m)
there_by f k n new m away = ap f (get_other k.inodes n m new away)

-- Two states stay alike where a pipe gets new bytes in both, and its front and back stay alike.
pipe_keeps : (now later : Kernel) (p : ℕ) (new other : List ℕ) → kind_of now p ≡ Some A_pipe → kind_of later p ≡ Some A_pipe
    → (Keeps now later (Front p) → (more : List ℕ) × (other ≡ new ++ more))
    → (Keeps now later (Back p) → (gone : List ℕ) × (new ≡ gone ++ other))
    → (a : Aspect) → Keeps now later a → Keeps (set_inode p (Pipe new) now) (set_inode p (Pipe other) later) a
unfolding ends
pipe_keeps now later p new other e f front back a = by_aspect a
  where
    one : HasBytes now (set_inode p (Pipe new) now)
    one = has_bytes now p (Pipe new) (sym e) refl (no_names_pipe _ e)

    two : HasBytes later (set_inode p (Pipe other) later)
    two = has_bytes later p (Pipe other) (sym f) refl (no_names_pipe _ f)

    files_one : (t : ℕ) → file_of (set_inode p (Pipe new) now) t ≡ file_of now t
    files_one = unchanged_by file_of_inode now p (Pipe new) (no_file_pipe _ e)

    files_two : (t : ℕ) → file_of (set_inode p (Pipe other) later) t ≡ file_of later t
    files_two = unchanged_by file_of_inode later p (Pipe other) (no_file_pipe _ f)

    targets_one : (t : ℕ) → target_of (set_inode p (Pipe new) now) t ≡ target_of now t
    targets_one = unchanged_by target_of_inode now p (Pipe new) (no_target_pipe _ e)

    targets_two : (t : ℕ) → target_of (set_inode p (Pipe other) later) t ≡ target_of later t
    targets_two = unchanged_by target_of_inode later p (Pipe other) (no_target_pipe _ f)

    by_aspect : (a : Aspect) → Keeps now later a → Keeps (set_inode p (Pipe new) now) (set_inode p (Pipe other) later) a
    by_aspect (Entry d x) h = entry_same later _ two d x ∙ h ∙ sym (entry_same now _ one d x)
    by_aspect (Names d) h = ap keys (two.names d) ∙ h ∙ sym (ap keys (one.names d))
    by_aspect (Size n) h = ap length (files_two n) ∙ h ∙ ap length (sym (files_one n))
    by_aspect (Block n block) h = λ i is. ap (λ bytes. get_or bytes i 0) (files_two n) ∙ h i is ∙ ap (λ bytes. get_or bytes i 0) (sym (files_one n))
    by_aspect (Links n) h = two.links n ∙ h ∙ sym (one.links n)
    by_aspect (Ends q) h = h
    by_aspect (Offset d) h = h
    by_aspect (Target n) h = targets_two n ∙ h ∙ sym (targets_one n)
    by_aspect (Rights n) h = ap (rights_or (get later.rights n)) (two.kinds n) ∙ h ∙ sym (ap (rights_or (get now.rights n)) (one.kinds n))
    by_aspect (Front q) h = elim (cases_eq q p) [
      | inl is ↦
          let kept = front (subst (λ q. Keeps now later (Front q)) is h) in
          (kept.0, here_by pipe_of_inode later p (Pipe other) q is ∙ kept.1 ∙ ap (λ bytes. bytes ++ kept.0) (sym (here_by pipe_of_inode now p (Pipe new) q is)))
      | inr away ↦ (h.0, there_by pipe_of_inode later p (Pipe other) q away ∙ h.1 ∙ ap (λ bytes. bytes ++ h.0) (sym (there_by pipe_of_inode now p (Pipe new) q away)))
    ]
    by_aspect (Back q) h = elim (cases_eq q p) [
      | inl is ↦
          let kept = back (subst (λ q. Keeps now later (Back q)) is h) in
          (kept.0, here_by pipe_of_inode now p (Pipe new) q is ∙ kept.1 ∙ ap (λ bytes. kept.0 ++ bytes) (sym (here_by pipe_of_inode later p (Pipe other) q is)))
      | inr away ↦ (h.0, there_by pipe_of_inode now p (Pipe new) q away ∙ h.1 ∙ ap (λ bytes. h.0 ++ bytes) (sym (there_by pipe_of_inode later p (Pipe other) q away)))
    ]

-- bytes taken from the front, where the front is alike
pub take_keeps : (now later : Kernel) (p count : ℕ) → kind_of now p ≡ Some A_pipe → kind_of later p ≡ Some A_pipe → count ≤ length (pipe_of now p) → Keeps now later (Front p)
    → (a : Aspect) → Keeps now later a → Keeps (set_inode p (Pipe (drop count (pipe_of now p))) now) (set_inode p (Pipe (drop count (pipe_of later p))) later) a
take_keeps now later p count e f enough front = pipe_keeps now later p _ _ e f
    (λ h. (h.0, ap (drop count) h.1 ∙ drop-append-le count (pipe_of now p) h.0 enough))
    (λ h. ([], ap (drop count) (sym (same_by_ends _ _ _ _ front.1 h.1))))

-- bytes appended, where the back is alike
pub append_keeps : (now later : Kernel) (p : ℕ) (bytes : List ℕ) → kind_of now p ≡ Some A_pipe → kind_of later p ≡ Some A_pipe → Keeps now later (Back p)
    → (a : Aspect) → Keeps now later a → Keeps (set_inode p (Pipe (pipe_of now p ++ bytes)) now) (set_inode p (Pipe (pipe_of later p ++ bytes)) later) a
append_keeps now later p bytes e f back = pipe_keeps now later p _ _ e f
    (λ h. ([], ap (λ b. b ++ bytes) (same_by_ends _ _ _ _ h.1 back.1) ∙ sym (append-nil _)))
    (λ h. (h.0, ap (λ b. b ++ bytes) h.1 ∙ append_assoc h.0 (pipe_of later p) bytes))
