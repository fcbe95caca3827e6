-- No name and no description gives the root, also after a step that gives it to none.
use Rattle.std.proofs.Common.{◌≡◌, ◌≢◌, ℕ, ◌+◌, ◌<◌, Bool, true, false, cond, List, [], ◌∷◌, ◌++◌, length, get_or, drop, replicate, Option, Some, None, refl, sym, ap, ◌∙◌, arith, inl, inr, nat_cmp}
use Rattle.std.specs.List.{AllByRecursion}
use Rattle.std.specs.Prelude.{⊤}
use Rattle.std.specs.Ordering.{eq_by_cmp}
use Rattle.std.specs.Cmp.Lexicographic.{nat_list_cmp_total}
use Rattle.std.proofs.lemmas.Bool.{cases_eq}
use Rattle.model.specs.FiniteMap.{get, empty, insert, remove, get-empty, get-insert, get-remove}
use Rattle.model.specs.State.{Name, name_cmp, Kernel, Inode, File, Directory, Pipe, Fixed, Fixed_content, Description, names_of_inode, names_of, file_of, pipe_of}
use Rattle.model.specs.Changes.{Edit, There, Made, Mode, Make_directory, Make_file, Make_fixed, Name_file, Unname_file, Unname_directory, Swap, Wipe, Move, Put_bytes, Cut, Take, Append, Set_offset, Set_rights, Open_inode, Make_pipe, Share_slot, Clear_slot, New_process, End_process, number, sized, written, set_inode, set_name, clear_name, set_offset, set_description, at_start, open_at, to_read, to_write, is_held, applied, all_applied, tidy}
use Rattle.model.specs.Moments.{Setup, start}
use Rattle.model.proofs.Laws.{get_same, get_other}
use Rattle.call_laws.proofs.Laws.{empty_gives, get_tidy, reached, retained_some, some_same}
use Rattle.renaming_laws.specs.Laws.{HasNumbers}

-- an edit that does not give a number to a name or to a description
abbrev pub GivesNot : ℕ → Edit → Type 0
GivesNot root (Name_file d x n) = n ≢ root
GivesNot root (Move d x e y n replaced) = n ≢ root
GivesNot root (Swap d x n e y m) = (n ≢ root) × (m ≢ root)
GivesNot root (Open_inode i (There n) mode pid fd) = n ≢ root
GivesNot root _ = ⊤

pub record IsApart (root : ℕ) (k : Kernel) : Type 0 where
  pub unnamed : (d : ℕ) (x : Name) → get (names_of k d) x ≢ Some root
  pub unopened : (d : ℕ) (it : Description) → get k.descriptions d ≡ Some it → it.inode ≢ root

at_place : (root : ℕ) (ns : List ℕ) (i : ℕ) → AllByRecursion (λ n. n ≢ root) ns → i < length ns → get_or ns i 0 ≢ root
at_place root [] i h low = absurd (omega arith)
at_place root (n ∷ ns) ℕ.zero h low = h.0
at_place root (n ∷ ns) (ℕ.suc i) h low = at_place root ns i h.1 (omega arith)

module _ (root : ℕ) where
  Unnamed : Inode → Type 0
  Unnamed inode = (x : Name) → get (names_of_inode (Some inode)) x ≢ Some root

  no_names : (x : Name) → get {R = name_cmp} empty x ≢ Some root
  no_names x e = empty_gives name_cmp x root e

  inode_put : (n : ℕ) (inode : Inode) (k : Kernel) → IsApart root k → Unnamed inode → IsApart root (set_inode n inode k)
  unfolding Unnamed
  inode_put n inode k h fine = record {
    unnamed = λ d x e. elim (cases_eq d n) [
      | inl same ↦ fine x (ap (λ o. get (names_of_inode o) x) (sym (ap (get (insert k.inodes n inode)) same ∙ get_same k.inodes n inode)) ∙ e)
      | inr away ↦ h.unnamed d x (ap (λ o. get (names_of_inode o) x) (sym (get_other k.inodes n d inode away)) ∙ e)
    ];
    unopened = h.unopened;
  }

  bytes_put : (n : ℕ) (bytes : List ℕ) (k : Kernel) → IsApart root k → IsApart root (set_inode n (File bytes) k)
  unfolding Unnamed
  bytes_put n bytes k h = inode_put n (File bytes) k h no_names

  pipe_put : (n : ℕ) (bytes : List ℕ) (k : Kernel) → IsApart root k → IsApart root (set_inode n (Pipe bytes) k)
  unfolding Unnamed
  pipe_put n bytes k h = inode_put n (Pipe bytes) k h no_names

  fixed_put : (n : ℕ) (fixed : Fixed_content) (k : Kernel) → IsApart root k → IsApart root (set_inode n (Fixed fixed) k)
  unfolding Unnamed
  fixed_put n fixed k h = inode_put n (Fixed fixed) k h no_names

  directory_put : (n : ℕ) (k : Kernel) → IsApart root k → IsApart root (set_inode n (Directory empty) k)
  unfolding Unnamed
  directory_put n k h = inode_put n (Directory empty) k h no_names

  either_name : (b : Bool) (n : ℕ) (o : Option ℕ) → n ≢ root → o ≢ Some root → cond b (Some n) o ≢ Some root
  either_name true n o away h e = away (some_same n root e)
  either_name false n o away h e = h e

  none_or : (b : Bool) (o : Option ℕ) → o ≢ Some root → cond b None o ≢ Some root
  none_or true o h e = absurd cc
  none_or false o h e = h e

  name_put : (d : ℕ) (x : Name) (n : ℕ) (k : Kernel) → n ≢ root → IsApart root k → IsApart root (set_name d x n k)
  unfolding Unnamed
  name_put d x n k away h = inode_put d (Directory (insert (names_of k d) x n)) k h (λ y e.
      either_name (eq_by_cmp name_cmp y x) n (get (names_of k d) y) away (h.unnamed d y) (sym (get-insert nat_list_cmp_total (names_of k d) x n y) ∙ e))

  name_cleared : (d : ℕ) (x : Name) (k : Kernel) → IsApart root k → IsApart root (clear_name d x k)
  unfolding Unnamed
  name_cleared d x k h = inode_put d (Directory (remove (names_of k d) x)) k h (λ y e.
      none_or (eq_by_cmp name_cmp y x) (get (names_of k d) y) (h.unnamed d y) (sym (get-remove nat_list_cmp_total (names_of k d) x y) ∙ e))

  description_put : (d : ℕ) (it : Description) (k : Kernel) → it.inode ≢ root → IsApart root k → IsApart root (set_description d it k)
  description_put d it k away h = record {
    unnamed = h.unnamed;
    unopened = λ e other is same. elim (cases_eq e d) [
      | inl here ↦ away (ap (λ (it : Description). it.inode) (some_same it other (sym (ap (get (insert k.descriptions d it)) here ∙ get_same k.descriptions d it) ∙ is)) ∙ same)
      | inr off ↦ h.unopened e other (sym (get_other k.descriptions d e it off) ∙ is) same
    ];
  }

  offset_put : (d place : ℕ) (o : Option Description) (k : Kernel) → get k.descriptions d ≡ o → IsApart root k → IsApart root (set_offset d place o k)
  offset_put d place None k is h = h
  offset_put d place (Some old) k is h = description_put d (record old { offset = place }) k (h.unopened d old is) h

  opened : (d n : ℕ) (mode : Mode) (pid fd : ℕ) (k : Kernel) → n ≢ root → IsApart root k → IsApart root (open_at d n mode pid fd k)
  opened d n mode pid fd k away h =
      let put : IsApart root (set_description d (at_start n mode) k) = description_put d (at_start n mode) k away h in
      record { unnamed = put.unnamed; unopened = put.unopened }

  edit_keeps : (chosen : List ℕ) (k : Kernel) (e : Edit) → AllByRecursion (λ n. n ≢ root) chosen → HasNumbers (length chosen) e → GivesNot root e → IsApart root k → IsApart root (applied chosen e k)
  unfolding applied
  edit_keeps chosen k (Make_directory d x i) away low give h = name_put d x (number chosen (Made i)) (set_inode (number chosen (Made i)) (Directory empty) k) (at_place root chosen i away low) (directory_put (number chosen (Made i)) k h)
  edit_keeps chosen k (Make_file d x i) away low give h = name_put d x (number chosen (Made i)) (set_inode (number chosen (Made i)) (File []) k) (at_place root chosen i away low) (bytes_put (number chosen (Made i)) [] k h)
  edit_keeps chosen k (Make_fixed d x fixed i) away low give h = name_put d x (number chosen (Made i)) (set_inode (number chosen (Made i)) (Fixed fixed) k) (at_place root chosen i away low) (fixed_put (number chosen (Made i)) fixed k h)
  edit_keeps chosen k (Name_file d x n) away low give h = name_put d x n k give h
  edit_keeps chosen k (Unname_file d x n) away low give h = name_cleared d x k h
  edit_keeps chosen k (Unname_directory d x n) away low give h = name_cleared d x k h
  edit_keeps chosen k (Move d x e y n replaced) away low give h = name_put e y n (clear_name d x k) give (name_cleared d x k h)
  edit_keeps chosen k (Swap d x n e y m) away low give h = name_put e y n (set_name d x m k) give.0 (name_put d x m k give.1 h)
  edit_keeps chosen k (Put_bytes n place bytes before) away low give h = bytes_put n (written (file_of k n) place bytes) k h
  edit_keeps chosen k (Wipe n place count) away low give h = bytes_put n (written (file_of k n) place (replicate count 0)) k h
  edit_keeps chosen k (Cut n before after) away low give h = bytes_put n (sized after (file_of k n)) k h
  edit_keeps chosen k (Take p count) away low give h = pipe_put p (drop count (pipe_of k p)) k h
  edit_keeps chosen k (Append p bytes) away low give h = pipe_put p (pipe_of k p ++ bytes) k h
  edit_keeps chosen k (Set_offset d place) away low give h = offset_put d place (get k.descriptions d) k refl h
  edit_keeps chosen k (Set_rights n set) away low give h = record { unnamed = h.unnamed; unopened = h.unopened }
  edit_keeps chosen k (Open_inode i (There n) mode pid fd) away low give h = opened (number chosen (Made i)) n mode pid fd k give h
  edit_keeps chosen k (Open_inode i (Made j) mode pid fd) away low give h = opened (number chosen (Made i)) (number chosen (Made j)) mode pid fd k (at_place root chosen j away low.1) h
  edit_keeps chosen k (Make_pipe i pid reader writer) away low give h =
      let p : ℕ = number chosen (Made i) in
      let off : p ≢ root = at_place root chosen i away (omega arith) in
      let made : Kernel = set_inode p (Pipe []) k in
      opened (number chosen (Made (i + 2))) p to_write pid writer (open_at (number chosen (Made (i + 1))) p to_read pid reader made) off (opened (number chosen (Made (i + 1))) p to_read pid reader made off (pipe_put p [] k h))
  edit_keeps chosen k (Share_slot pid fd d pipes) away low give h = record { unnamed = h.unnamed; unopened = h.unopened }
  edit_keeps chosen k (Clear_slot pid fd pipes) away low give h = record { unnamed = h.unnamed; unopened = h.unopened }
  edit_keeps chosen k (New_process child parent pipes) away low give h = record { unnamed = h.unnamed; unopened = h.unopened }
  edit_keeps chosen k (End_process pid pipes) away low give h = record { unnamed = h.unnamed; unopened = h.unopened }

  pub edits_keep : (chosen : List ℕ) (k : Kernel) (es : List Edit) → AllByRecursion (λ n. n ≢ root) chosen → AllByRecursion (HasNumbers (length chosen)) es → AllByRecursion (GivesNot root) es → IsApart root k → IsApart root (all_applied chosen es k)
  edits_keep chosen k [] away low give h = h
  edits_keep chosen k (e ∷ es) away low give h = edits_keep chosen (applied chosen e k) es away low.1 give.1 (edit_keeps chosen k e away low.0 give.0 h)

  still_unnamed : (b : Bool) (o : Option Inode) (x : Name) → get (names_of_inode o) x ≢ Some root → get (names_of_inode (cond b o None)) x ≢ Some root
  still_unnamed true o x h = h
  still_unnamed false o x h = no_names x

  names_tidied : (k : Kernel) (d : ℕ) (x : Name) → IsApart root k → get (names_of (tidy k) d) x ≢ Some root
  names_tidied k d x h e = still_unnamed (reached k d) (get k.inodes d) x (h.unnamed d x) (ap (λ o. get (names_of_inode o) x) (sym (get_tidy k d)) ∙ e)

  pub tidying_keeps : (k : Kernel) → IsApart root k → IsApart root (tidy k)
  unfolding tidy
  tidying_keeps k h = record {
    unnamed = λ d x. names_tidied k d x h;
    unopened = λ d it is. h.unopened d it (retained_some k.descriptions (is_held k) d it is).1;
  }

  pub apart_at_start : (setup : Setup) → IsApart root (start root setup)
  apart_at_start setup = record {
    unnamed = λ d x e. elim (cases_eq d root) [
      | inl same ↦ no_names x (ap (λ o. get (names_of_inode o) x) (sym (ap (get (start root setup).inodes) same ∙ get_same empty root (Directory empty))) ∙ e)
      | inr away ↦ no_names x (ap (λ o. get (names_of_inode o) x) (sym (get_other empty root d (Directory empty) away ∙ nothing d)) ∙ e)
    ];
    unopened = λ d it is. absurd (empty_gives nat_cmp d it is);
  }
    where
      nothing : (d : ℕ) → get {X = Inode} {R = nat_cmp} empty d ≡ None
      nothing d = get-empty nat_cmp d
