-- What a renamed state gives, answers and counts.
use Rattle.std.proofs.Common.{◌≡◌, ℕ, Bool, cond, ◌&&◌, ◌==◌, List, length, take, drop, min, ◌-◌, Option, Some, None, sum_by, count_by, refl, sym, ap, ap₂, ◌∙◌, eq-eqb, eqb-true, nat_cmp}
use Rattle.std.specs.declared.cmp.Ordering.{Ordering}
use Rattle.std.specs.Cmp.{IsTotalOrder, nat_cmp_total}
use Rattle.std.specs.Cmp.Lexicographic.{nat_list_cmp_total}
use Rattle.model.specs.FiniteMap.{FinMap, get, empty, keys, values, nat_cmp-IsAntisymmetric, IsAntisymmetric}
use Rattle.model.specs.State.{Name, name_cmp, Kind, Kernel, Inode, File, Directory, Pipe, Fixed, Description, Process, Rights, kind, mapped, names_of_inode, file_of_inode, pipe_of_inode, target_of_inode, names_of, file_of, pipe_of, target_of, kind_of, rights_or, rights_of, entry_of, offset_in, offset_of, links, ends, is_end}
use Rattle.model.specs.Holes.{alike_from}
use Rattle.model.specs.Plan.{Look, List_names, Measure, Read_file, Count_links, Count_ends, Find_offset, Read_pipe, Fit, Read_target, Find_rights, Pass_blocks, capacity}
use Rattle.model.specs.Changes.{or_new, process_of, holders, openings}
use Rattle.model.proofs.Laws.{name_exact}
use Rattle.call_laws.proofs.Laws.{sum-empty}
use Rattle.renaming_laws.specs.Renaming.{IsRenaming, with_values, renamed_inode, renamed_description, renamed_process, renamed}
use Rattle.renaming_laws.specs.Renamed.{renamed_place}
use Rattle.renaming_laws.specs.Laws.{QuestionsAreRenamed}
use Rattle.renaming_laws.proofs.Maps.{same_bool, get_at, renamed-empty, sum-renamed, keys-with_values}

module _ (f : ℕ → ℕ) (r : IsRenaming f) where
  pub same_test : (m n : ℕ) → (f m == f n) ≡ (m == n)
  same_test m n = same_bool _ _
      (λ e. eq-eqb m n (sym (r.again m) ∙ ap f (eqb-true (f m) (f n) e) ∙ r.again n))
      (λ e. eq-eqb (f m) (f n) (ap f (eqb-true m n e)))

  -- what a number stands for
  pub inode_at : (k : Kernel) (n : ℕ) → get (renamed f k).inodes (f n) ≡ mapped (renamed_inode f) (get k.inodes n)
  inode_at k n = get_at nat_cmp_total nat_cmp-IsAntisymmetric f r.again (renamed_inode f) k.inodes n

  pub description_at : (k : Kernel) (d : ℕ) → get (renamed f k).descriptions (f d) ≡ mapped (renamed_description f) (get k.descriptions d)
  description_at k d = get_at nat_cmp_total nat_cmp-IsAntisymmetric f r.again (renamed_description f) k.descriptions d

  no_names : with_values {R = name_cmp} f empty ≡ empty
  no_names = renamed-empty nat_list_cmp_total name_exact (λ x. x) (λ x. refl) f

  pub no_slots : with_values {R = nat_cmp} f empty ≡ empty
  no_slots = renamed-empty nat_cmp_total nat_cmp-IsAntisymmetric (λ x. x) (λ x. refl) f

  names_renamed : (x : Option Inode) → names_of_inode (mapped (renamed_inode f) x) ≡ with_values f (names_of_inode x)
  names_renamed None = sym no_names
  names_renamed (Some (File bytes)) = sym no_names
  names_renamed (Some (Directory names)) = refl
  names_renamed (Some (Pipe bytes)) = sym no_names
  names_renamed (Some (Fixed fixed)) = sym no_names

  file_renamed : (x : Option Inode) → file_of_inode (mapped (renamed_inode f) x) ≡ file_of_inode x
  file_renamed None = refl
  file_renamed (Some (File bytes)) = refl
  file_renamed (Some (Directory names)) = refl
  file_renamed (Some (Pipe bytes)) = refl
  file_renamed (Some (Fixed fixed)) = refl

  pipe_renamed : (x : Option Inode) → pipe_of_inode (mapped (renamed_inode f) x) ≡ pipe_of_inode x
  pipe_renamed None = refl
  pipe_renamed (Some (File bytes)) = refl
  pipe_renamed (Some (Directory names)) = refl
  pipe_renamed (Some (Pipe bytes)) = refl
  pipe_renamed (Some (Fixed fixed)) = refl

  target_renamed : (x : Option Inode) → target_of_inode (mapped (renamed_inode f) x) ≡ target_of_inode x
  target_renamed None = refl
  target_renamed (Some (File bytes)) = refl
  target_renamed (Some (Directory names)) = refl
  target_renamed (Some (Pipe bytes)) = refl
  target_renamed (Some (Fixed fixed)) = refl

  kind_renamed : (x : Option Inode) → mapped kind (mapped (renamed_inode f) x) ≡ mapped kind x
  kind_renamed None = refl
  kind_renamed (Some (File bytes)) = refl
  kind_renamed (Some (Directory names)) = refl
  kind_renamed (Some (Pipe bytes)) = refl
  kind_renamed (Some (Fixed fixed)) = refl

  pub names_at : (k : Kernel) (d : ℕ) → names_of (renamed f k) (f d) ≡ with_values f (names_of k d)
  names_at k d = ap names_of_inode (inode_at k d) ∙ names_renamed (get k.inodes d)

  pub file_at : (k : Kernel) (n : ℕ) → file_of (renamed f k) (f n) ≡ file_of k n
  file_at k n = ap file_of_inode (inode_at k n) ∙ file_renamed (get k.inodes n)

  pub pipe_at : (k : Kernel) (p : ℕ) → pipe_of (renamed f k) (f p) ≡ pipe_of k p
  pipe_at k p = ap pipe_of_inode (inode_at k p) ∙ pipe_renamed (get k.inodes p)

  pub target_at : (k : Kernel) (n : ℕ) → target_of (renamed f k) (f n) ≡ target_of k n
  target_at k n = ap target_of_inode (inode_at k n) ∙ target_renamed (get k.inodes n)

  pub kind_at : (k : Kernel) (n : ℕ) → kind_of (renamed f k) (f n) ≡ kind_of k n
  kind_at k n = ap (mapped kind) (inode_at k n) ∙ kind_renamed (get k.inodes n)

  mapped_same : {A : Type 0} (o : Option A) → mapped (λ (x : A). x) o ≡ o
  mapped_same None = refl
  mapped_same (Some x) = refl

  pub set_at : (k : Kernel) (n : ℕ) → get (renamed f k).rights (f n) ≡ get k.rights n
  set_at k n = get_at nat_cmp_total nat_cmp-IsAntisymmetric f r.again (λ (set : Rights). set) k.rights n ∙ mapped_same (get k.rights n)

  rights_at : (k : Kernel) (n : ℕ) → rights_of (renamed f k) (f n) ≡ rights_of k n
  rights_at k n = ap (λ o. rights_or o (kind_of (renamed f k) (f n))) (set_at k n) ∙ ap (rights_or (get k.rights n)) (kind_at k n)

  -- the number that a name gives
  pub given_at : (k : Kernel) (d : ℕ) (x : Name) → get (names_of (renamed f k) (f d)) x ≡ mapped f (get (names_of k d) x)
  given_at k d x = ap (λ names. get names x) (names_at k d) ∙ get_at nat_list_cmp_total name_exact (λ x. x) (λ x. refl) f (names_of k d) x

  place_at : (k : Kernel) (o : Option ℕ) → mapped (λ n. (n, kind_of (renamed f k) n)) (mapped f o) ≡ mapped (renamed_place f) (mapped (λ n. (n, kind_of k n)) o)
  place_at k None = refl
  place_at k (Some n) = ap (λ (what : Option Kind). Some (f n, what)) (kind_at k n)

  entry_at : (k : Kernel) (d : ℕ) (x : Name) → entry_of (renamed f k) (f d) x ≡ mapped (renamed_place f) (entry_of k d x)
  entry_at k d x = ap (mapped (λ n. (n, kind_of (renamed f k) n))) (given_at k d x) ∙ place_at k (get (names_of k d) x)

  offset_renamed : (x : Option Description) → offset_in (mapped (renamed_description f) x) ≡ offset_in x
  offset_renamed None = refl
  offset_renamed (Some d) = refl

  offset_at : (k : Kernel) (d : ℕ) → offset_of (renamed f k) (f d) ≡ offset_of k d
  offset_at k d = ap offset_in (description_at k d) ∙ offset_renamed (get k.descriptions d)

  -- the processes keep their numbers
  pub process_got : (k : Kernel) (pid : ℕ) → get (renamed f k).processes pid ≡ mapped (renamed_process f) (get k.processes pid)
  process_got k pid = get_at nat_cmp_total nat_cmp-IsAntisymmetric (λ x. x) (λ x. refl) (renamed_process f) k.processes pid

  new_renamed : (x : Option Process) → or_new (mapped (renamed_process f) x) ≡ renamed_process f (or_new x)
  new_renamed None = λ i. record { table = sym no_slots i; priority = 0 }
  new_renamed (Some process) = refl

  pub process_at : (k : Kernel) (pid : ℕ) → process_of (renamed f k) pid ≡ renamed_process f (process_of k pid)
  process_at k pid = ap or_new (process_got k pid) ∙ new_renamed (get k.processes pid)

  -- how many values are a number
  counted_still : {K : Type 0} {R : K → K → Ordering} (o : IsTotalOrder R) (exact : IsAntisymmetric R) (m : FinMap R ℕ) (n : ℕ) → count_by (λ v. v == f n) (values (with_values f m)) ≡ count_by (λ v. v == n) (values m)
  counted_still o exact m n =
      sum-renamed o exact (λ x. x) (λ x. refl) f (λ v. cond (v == f n) 1 0) m ∙ (λ i. sum_by (λ v. cond (same_test v n i) 1 0) (values m))

  none_counted : (n : ℕ) → count_by (λ v. v == f n) (values (empty {R = name_cmp})) ≡ count_by (λ v. v == n) (values (empty {R = name_cmp}))
  none_counted n = sum-empty name_cmp (λ v. cond (v == f n) 1 0) ∙ sym (sum-empty name_cmp (λ v. cond (v == n) 1 0))

  links_in : (n : ℕ) (inode : Inode) → count_by (λ m. m == f n) (values (names_of_inode (Some (renamed_inode f inode)))) ≡ count_by (λ m. m == n) (values (names_of_inode (Some inode)))
  links_in n (File bytes) = none_counted n
  links_in n (Directory names) = counted_still nat_list_cmp_total name_exact names n
  links_in n (Pipe bytes) = none_counted n
  links_in n (Fixed fixed) = none_counted n

  pub links_at : (k : Kernel) (n : ℕ) → links (renamed f k) (f n) ≡ links k n
  unfolding links
  links_at k n =
      sum-renamed nat_cmp_total nat_cmp-IsAntisymmetric f r.again (renamed_inode f) (λ inode. count_by (λ m. m == f n) (values (names_of_inode (Some inode)))) k.inodes
      ∙ (λ i. sum_by (λ inode. links_in n inode i) (values k.inodes))

  end_renamed : (mode : Description → Bool) → ((d : Description) → mode (renamed_description f d) ≡ mode d) → (p : ℕ) (x : Option Description) → is_end mode (f p) (mapped (renamed_description f) x) ≡ is_end mode p x
  end_renamed mode same p None = refl
  end_renamed mode same p (Some d) = ap₂ (λ a b. a && b) (same_test d.inode p) (same d)

  ends_in : (mode : Description → Bool) → ((d : Description) → mode (renamed_description f d) ≡ mode d) → (k : Kernel) (p : ℕ) (process : Process)
      → count_by (λ d. is_end mode (f p) (get (renamed f k).descriptions d)) (values (with_values f process.table)) ≡ count_by (λ d. is_end mode p (get k.descriptions d)) (values process.table)
  ends_in mode same k p process =
      sum-renamed nat_cmp_total nat_cmp-IsAntisymmetric (λ x. x) (λ x. refl) f (λ d. cond (is_end mode (f p) (get (renamed f k).descriptions d)) 1 0) process.table
      ∙ (λ i. sum_by (λ d. cond ((ap (is_end mode (f p)) (description_at k d) ∙ end_renamed mode same p (get k.descriptions d)) i) 1 0) (values process.table))

  ends_at : (mode : Description → Bool) → ((d : Description) → mode (renamed_description f d) ≡ mode d) → (k : Kernel) (p : ℕ) → ends (renamed f k) (f p) mode ≡ ends k p mode
  unfolding ends
  ends_at mode same k p =
      sum-renamed nat_cmp_total nat_cmp-IsAntisymmetric (λ x. x) (λ x. refl) (renamed_process f) (λ process. count_by (λ d. is_end mode (f p) (get (renamed f k).descriptions d)) (values process.table)) k.processes
      ∙ (λ i. sum_by (λ process. ends_in mode same k p process i) (values k.processes))

  pub holders_at : (k : Kernel) (d : ℕ) → holders (renamed f k) (f d) ≡ holders k d
  unfolding holders
  holders_at k d =
      sum-renamed nat_cmp_total nat_cmp-IsAntisymmetric (λ x. x) (λ x. refl) (renamed_process f) (λ process. count_by (λ e. e == f d) (values process.table)) k.processes
      ∙ (λ i. sum_by (λ (process : Process). counted_still nat_cmp_total nat_cmp-IsAntisymmetric process.table d i) (values k.processes))

  pub openings_at : (k : Kernel) (n : ℕ) → openings (renamed f k) (f n) ≡ openings k n
  unfolding openings
  openings_at k n =
      sum-renamed nat_cmp_total nat_cmp-IsAntisymmetric f r.again (renamed_description f) (λ d. cond (d.inode == f n) 1 0) k.descriptions
      ∙ (λ i. sum_by (λ (d : Description). cond (same_test d.inode n i) 1 0) (values k.descriptions))

pub questions_are_renamed : QuestionsAreRenamed
questions_are_renamed f r k (Look d x) = entry_at f r k d x
questions_are_renamed f r k (List_names d) = ap keys (names_at f r k d) ∙ keys-with_values nat_list_cmp_total name_exact f (names_of k d)
questions_are_renamed f r k (Measure n) = ap length (file_at f r k n)
questions_are_renamed f r k (Read_file n place count) = ap (λ bytes. take count (drop place bytes)) (file_at f r k n)
questions_are_renamed f r k (Count_links n) = links_at f r k n
questions_are_renamed f r k (Count_ends p) = λ i. (ends_at f r (λ d. d.reading) (λ d. refl) k p i, ends_at f r (λ d. d.writing) (λ d. refl) k p i)
questions_are_renamed f r k (Find_offset d) = offset_at f r k d
questions_are_renamed f r k (Read_pipe p count) = ap (take count) (pipe_at f r k p)
questions_are_renamed f r k (Fit p count) = ap (λ (bytes : List ℕ). min count (capacity - length bytes)) (pipe_at f r k p)
questions_are_renamed f r k (Read_target n) = target_at f r k n
questions_are_renamed f r k (Find_rights n) = rights_at f r k n
questions_are_renamed f r k (Pass_blocks holes n first count) = ap (λ bytes. alike_from holes bytes first count) (file_at f r k n)
