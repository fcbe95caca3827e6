-- By how much each edit changes the counts.
use Rattle.std.proofs.Common.{◌≡◌, ◌≢◌, ℕ, ◌+◌, ◌==◌, Bool, cond, ◌&&◌, List, Option, [], ◌∷◌, ◌++◌, drop, replicate, Some, None, refl, sym, ap, ◌∙◌, arith, nat_cmp}
use Rattle.model.specs.FiniteMap.{FinMap, get, empty, insert, remove, values}
use Rattle.model.specs.State.{Name, name_cmp, A_directory, A_pipe, Kernel, Inode, File, Directory, Pipe, Fixed, Description, Process, Rights, kind, names_of, file_of, pipe_of, kind_of, links, ends, is_end}
use Rattle.model.specs.Changes.{Edit, Made, number, Make_directory, Make_file, Make_fixed, Name_file, Unname_file, Unname_directory, Swap, Wipe, Move, Put_bytes, Cut, Take, Append, Set_offset, Set_rights, Open_inode, Make_pipe, Share_slot, Clear_slot, New_process, End_process, Mode, to_read, to_write, applied, process_of, set_inode, set_name, clear_name, at_offset, at_start, open_at, set_offset, set_rights, set_process, without_slot, sized, written, holders, openings}
use Rattle.model.proofs.Laws.{get_same, get_other}
use Rattle.call_laws.specs.Fits.{Fits, CanBeReplaced, CanMove, CanSwap, CanPipe, IsUnused, table_of}
use Rattle.call_laws.proofs.Laws.{swapped_links}
use Rattle.model.specs.Changes.{Replaced, Over_nothing, Over_file, Over_directory, inode_replaced}
use Rattle.call_laws.proofs.Laws.{has_names, one, counted, links_named, links_unnamed, same_links, IsNew, is_new, kept_kind, HasBytes, has_bytes, no_names_file, no_names_pipe, still_gives, other_old, set_there, ends_unmoved, with_tables, pipe_at, unused_after, free_after, end_count, ends-open_at, without_process}
use Rattle.freeing_laws.specs.Counts.{times, listed, named, unnamed, opened, taken, let_go, ends_among, EditCounts}
use Rattle.freeing_laws.proofs.Times.{times_one, times_cons, times_listed}
use Rattle.freeing_laws.proofs.Slots.{ends_one, ends_two, holders_shared, holders_cleared, holders_forked, holders_ended, holders_opened, holders_moved, ends_shared, ends_cleared, ends_forked, ends_ended, openings_opened, openings_moved}

inode_openings : (k : Kernel) (m : FinMap nat_cmp Inode) (n : ℕ) → openings (record k { inodes = m }) n ≡ openings k n
unfolding openings
inode_openings k m n = refl

inode_holders : (k : Kernel) (m : FinMap nat_cmp Inode) (d : ℕ) → holders (record k { inodes = m }) d ≡ holders k d
unfolding holders
inode_holders k m d = refl

inode_ends : (k : Kernel) (m : FinMap nat_cmp Inode) (p : ℕ) (mode : Description → Bool) → ends (record k { inodes = m }) p mode ≡ ends k p mode
unfolding ends
inode_ends k m p mode = refl

-- an edit of inodes alone
by_inodes : (chosen : List ℕ) (k : Kernel) (e : Edit) (m : FinMap nat_cmp Inode) → applied chosen e k ≡ record k { inodes = m } → opened chosen e ≡ [] → taken chosen k e ≡ [] → let_go k e ≡ []
    → ((n : ℕ) → links (record k { inodes = m }) n + times n (unnamed e) ≡ links k n + times n (named chosen e)) → EditCounts chosen k e
by_inodes chosen k e m is no_opened no_taken no_let_go linked = record {
  links = λ n. ap (λ s. links s n + times n (unnamed e)) is ∙ linked n;
  openings = λ n.
      let same : openings (applied chosen e k) n ≡ openings k n = ap (λ s. openings s n) is ∙ inode_openings k m n in
      let none : times n (opened chosen e) ≡ 0 = ap (times n) no_opened in
      omega arith;
  holders = λ d.
      let same : holders (applied chosen e k) d ≡ holders k d = ap (λ s. holders s d) is ∙ inode_holders k m d in
      let none : times d (taken chosen k e) ≡ 0 = ap (times d) no_taken in
      let none_too : times d (let_go k e) ≡ 0 = ap (times d) no_let_go in
      omega arith;
  ends = λ p mode _.
      let same : ends (applied chosen e k) p mode ≡ ends k p mode = ap (λ s. ends s p mode) is ∙ inode_ends k m p mode in
      let none : ends_among (applied chosen e k) p mode (taken chosen k e) ≡ 0 = ap (ends_among (applied chosen e k) p mode) no_taken in
      let none_too : ends_among k p mode (let_go k e) ≡ 0 = ap (ends_among k p mode) no_let_go in
      omega arith;
}

table_links : (k : Kernel) (ds : FinMap nat_cmp Description) (ps : FinMap nat_cmp Process) (made n : ℕ) → links (with_tables k ds ps made) n ≡ links k n
unfolding links
table_links k ds ps made n = refl

table_openings : (k : Kernel) (ps : FinMap nat_cmp Process) (made n : ℕ) → openings (with_tables k k.descriptions ps made) n ≡ openings k n
unfolding openings
table_openings k ps made n = refl

-- an edit of processes alone
by_processes : (chosen : List ℕ) (k : Kernel) (e : Edit) (ps : FinMap nat_cmp Process) (made : ℕ) → applied chosen e k ≡ with_tables k k.descriptions ps made → opened chosen e ≡ [] → named chosen e ≡ [] → unnamed e ≡ []
    → ((d : ℕ) → holders (with_tables k k.descriptions ps made) d + times d (let_go k e) ≡ holders k d + times d (taken chosen k e))
    → ((p : ℕ) (mode : Description → Bool) → ends (with_tables k k.descriptions ps made) p mode + ends_among k p mode (let_go k e) ≡ ends k p mode + ends_among k p mode (taken chosen k e))
    → EditCounts chosen k e
by_processes chosen k e ps made is no_opened no_named no_unnamed held ended = record {
  links = λ n.
      let same : links (applied chosen e k) n ≡ links k n = ap (λ s. links s n) is ∙ table_links k k.descriptions ps made n in
      let none : times n (named chosen e) ≡ 0 = ap (times n) no_named in
      let none_too : times n (unnamed e) ≡ 0 = ap (times n) no_unnamed in
      omega arith;
  openings = λ n.
      let same : openings (applied chosen e k) n ≡ openings k n = ap (λ s. openings s n) is ∙ table_openings k ps made n in
      let none : times n (opened chosen e) ≡ 0 = ap (times n) no_opened in
      omega arith;
  holders = λ d. ap (λ s. holders s d + times d (let_go k e)) is ∙ held d;
  ends = λ p mode _. ap (λ s. ends s p mode + ends_among k p mode (let_go k e)) is ∙ ended p mode ∙ ap (λ s. ends k p mode + ends_among s p mode (taken chosen k e)) (sym is);
}

-- names: a new inode with its name, a name more, a name less, and a name that moves
made_links : (k : Kernel) (d : ℕ) (x : Name) (n : ℕ) (new : Inode) → get k.inodes n ≡ None → IsNew k (set_inode n new k) n (kind new) → kind_of k d ≡ Some A_directory → get (names_of k d) x ≡ None
    → (m : ℕ) → links (set_name d x n (set_inode n new k)) m + times m [] ≡ links k m + times m (n ∷ [])
made_links k d x n new none f is free m =
    let mid : Kernel = set_inode n new k in
    let come : links (set_name d x n mid) m ≡ links mid m + one n m = same_links mid d x n m (kept_kind k n d new A_directory none is) (ap (λ (ns : FinMap name_cmp ℕ). get ns x) (f.names d) ∙ free) in
    let same : links mid m ≡ links k m = f.links m in
    let o : times m (n ∷ []) ≡ one n m = times_one m n in
    omega arith

named_links : (k : Kernel) (d : ℕ) (x : Name) (n : ℕ) → kind_of k d ≡ Some A_directory → get (names_of k d) x ≡ None → (m : ℕ) → links (set_name d x n k) m + times m [] ≡ links k m + times m (n ∷ [])
named_links k d x n is free m =
    let come : links (set_name d x n k) m ≡ links k m + one n m = same_links k d x n m is free in
    let o : times m (n ∷ []) ≡ one n m = times_one m n in
    omega arith

unnamed_links : (k : Kernel) (d : ℕ) (x : Name) (n : ℕ) → kind_of k d ≡ Some A_directory → get (names_of k d) x ≡ Some n → (m : ℕ) → links (clear_name d x k) m + times m (n ∷ []) ≡ links k m + times m []
unnamed_links k d x n is gives m =
    let gone : links (clear_name d x k) m + one n m ≡ links k m = ap (λ c. links (clear_name d x k) m + c) (sym (ap (counted m) gives)) ∙ links_unnamed k d x is m in
    let o : times m (n ∷ []) ≡ one n m = times_one m n in
    omega arith

-- what is listed as replaced is what had the name
old_is_replaced : (k : Kernel) (n : ℕ) (old : Option ℕ) (replaced : Replaced) → CanBeReplaced k n old replaced → inode_replaced replaced ≡ listed old
old_is_replaced k n None Over_nothing can = refl
old_is_replaced k n None (Over_file r) can = absurd can
old_is_replaced k n None (Over_directory r) can = absurd can
old_is_replaced k n (Some m) Over_nothing can = absurd can
old_is_replaced k n (Some m) (Over_file r) can = ap (λ r. r ∷ []) can.2
old_is_replaced k n (Some m) (Over_directory r) can = ap (λ r. r ∷ []) can.2

moved_links : (k : Kernel) (d : ℕ) (x : Name) (e : ℕ) (y : Name) (n : ℕ) (replaced : Replaced) → CanMove k d x e y n replaced → (m : ℕ) → links (set_name e y n (clear_name d x k)) m + times m (inode_replaced replaced) ≡ links k m + times m []
moved_links k d x e y n replaced can m =
    let mid : Kernel = clear_name d x k in
    let is : kind_of k d ≡ Some A_directory = can.from.parent.directory in
    let is_too : kind_of mid e ≡ Some A_directory = (has_names k d (remove (names_of k d) x) is).kinds e ∙ can.onto.directory in
    let still : get (names_of mid e) y ≡ can.old = still_gives k d x e y n can.old is can.from.gives can.gives (other_old k n can.old replaced can.replaces) in
    let gone : links mid m + one n m ≡ links k m = ap (λ c. links mid m + c) (sym (ap (counted m) can.from.gives)) ∙ links_unnamed k d x is m in
    let come : links (set_name e y n mid) m + counted m can.old ≡ links mid m + one n m = ap (λ c. links (set_name e y n mid) m + c) (sym (ap (counted m) still)) ∙ links_named mid e y n is_too m in
    let o : times m (inode_replaced replaced) ≡ counted m can.old = ap (times m) (old_is_replaced k n can.old replaced can.replaces) ∙ times_listed m can.old in
    omega arith

exchanged_links : (k : Kernel) (d : ℕ) (x : Name) (n e : ℕ) (y : Name) (m : ℕ) → CanSwap k d x n e y m → (t : ℕ) → links (set_name e y n (set_name d x m k)) t + times t [] ≡ links k t + times t []
exchanged_links k d x n e y m can t = let same : links (set_name e y n (set_name d x m k)) t ≡ links k t = swapped_links k d x n e y m can.first.parent.directory can.second.parent.directory can.first.gives can.second.gives can.apart t in omega arith

bytes_links : (k : Kernel) (n : ℕ) (new : Inode) → HasBytes k (set_inode n new k) → (m : ℕ) → links (set_inode n new k) m + times m [] ≡ links k m + times m []
bytes_links k n new has m = let same : links (set_inode n new k) m ≡ links k m = has.links m in omega arith

-- a new description with its slot
open_counts : (chosen : List ℕ) (k : Kernel) (e : Edit) (d n : ℕ) (how : Mode) (q f : ℕ) → applied chosen e k ≡ open_at d n how q f k → named chosen e ≡ [] → unnamed e ≡ [] → let_go k e ≡ [] → opened chosen e ≡ n ∷ [] → taken chosen k e ≡ d ∷ []
    → IsUnused k d → get (table_of k q) f ≡ None → EditCounts chosen k e
open_counts chosen k e d n how q f is no_named no_unnamed no_let_go opens takes unused free =
    let after : Kernel = open_at d n how q f k in
    record {
      links = λ m.
          let same : links (applied chosen e k) m ≡ links k m = ap (λ s. links s m) is ∙ table_links k after.descriptions after.processes k.made m in
          let none : times m (named chosen e) ≡ 0 = ap (times m) no_named in
          let none_too : times m (unnamed e) ≡ 0 = ap (times m) no_unnamed in
          omega arith;
      openings = λ m.
          let more : openings (applied chosen e k) m ≡ openings k m + one n m = ap (λ s. openings s m) is ∙ openings_opened k d n how q f unused.description m in
          let o : times m (opened chosen e) ≡ one n m = ap (times m) opens ∙ times_one m n in
          omega arith;
      holders = λ c.
          let more : holders (applied chosen e k) c ≡ holders k c + one d c = ap (λ s. holders s c) is ∙ holders_opened k d n how q f free c in
          let o : times c (taken chosen k e) ≡ one d c = ap (times c) takes ∙ times_one c d in
          let none : times c (let_go k e) ≡ 0 = ap (times c) no_let_go in
          omega arith;
      ends = λ p mode _.
          let more : ends (applied chosen e k) p mode ≡ ends k p mode + cond ((n == p) && mode (at_start n how)) 1 0 = ap (λ s. ends s p mode) is ∙ ends-open_at k d n how q f unused free p mode in
          let o : ends_among (applied chosen e k) p mode (taken chosen k e) ≡ cond ((n == p) && mode (at_start n how)) 1 0 = ap (ends_among (applied chosen e k) p mode) takes ∙ ap (λ s. ends_among s p mode (d ∷ [])) is ∙ opened_end p mode in
          let none : ends_among k p mode (let_go k e) ≡ 0 = ap (ends_among k p mode) no_let_go in
          omega arith;
    }
  where
    opened_end : (p : ℕ) (mode : Description → Bool) → ends_among (open_at d n how q f k) p mode (d ∷ []) ≡ cond ((n == p) && mode (at_start n how)) 1 0
    opened_end p mode = ends_one (open_at d n how q f k) p mode d ∙ ap (λ o. cond (is_end mode p o) 1 0) (get_same k.descriptions d (at_start n how))

-- a pipe with its two descriptions
unused_still : (k : Kernel) (p d : ℕ) (new : Inode) → IsUnused k d → IsUnused (set_inode p new k) d
unused_still k p d new u = record { description = u.description; unheld = u.unheld }

pipe_links : (k : Kernel) (p d e q f g : ℕ) → IsNew k (set_inode p (Pipe []) k) p A_pipe → (m : ℕ) → links (pipe_at p d e q f g k) m ≡ links k m
pipe_links k p d e q f g new m =
    let after : Kernel = pipe_at p d e q f g k in
    table_links (set_inode p (Pipe []) k) after.descriptions after.processes k.made m ∙ new.links m

pipe_openings : (k : Kernel) (p d e q f g : ℕ) → IsUnused k d → IsUnused k e → d ≢ e → (m : ℕ) → openings (pipe_at p d e q f g k) m ≡ openings k m + times m (p ∷ p ∷ [])
pipe_openings k p d e q f g reader writer apart m =
    let first : Kernel = set_inode p (Pipe []) k in
    let second : Kernel = open_at d p to_read q f first in
    let same : openings first m ≡ openings k m = inode_openings k first.inodes m in
    let one_more : openings second m ≡ openings first m + one p m = openings_opened first d p to_read q f reader.description m in
    let two_more : openings (pipe_at p d e q f g k) m ≡ openings second m + one p m = openings_opened second e p to_write q g (unused_after first d p to_read q f e (unused_still k p e (Pipe []) writer) apart).description m in
    let o : times m (p ∷ p ∷ []) ≡ one p m + times m (p ∷ []) = times_cons m p (p ∷ []) in
    let o_too : times m (p ∷ []) ≡ one p m = times_one m p in
    omega arith

pipe_holders : (k : Kernel) (p d e q f g : ℕ) → get (table_of k q) f ≡ None → get (table_of k q) g ≡ None → f ≢ g → (c : ℕ) → holders (pipe_at p d e q f g k) c ≡ holders k c + times c (d ∷ e ∷ [])
pipe_holders k p d e q f g free free_too apart c =
    let first : Kernel = set_inode p (Pipe []) k in
    let second : Kernel = open_at d p to_read q f first in
    let same : holders first c ≡ holders k c = inode_holders k first.inodes c in
    let one_more : holders second c ≡ holders first c + one d c = holders_opened first d p to_read q f free c in
    let two_more : holders (pipe_at p d e q f g k) c ≡ holders second c + one e c = holders_opened second e p to_write q g (free_after first d p to_read q f g free_too apart) c in
    let o : times c (d ∷ e ∷ []) ≡ one d c + times c (e ∷ []) = times_cons c d (e ∷ []) in
    let o_too : times c (e ∷ []) ≡ one e c = times_one c e in
    omega arith

pipe_ends : (k : Kernel) (p d e q f g : ℕ) → IsUnused k d → IsUnused k e → d ≢ e → get (table_of k q) f ≡ None → get (table_of k q) g ≡ None → f ≢ g → (r : ℕ) (mode : Description → Bool)
    → ends (pipe_at p d e q f g k) r mode ≡ ends k r mode + ends_among (pipe_at p d e q f g k) r mode (d ∷ e ∷ [])
pipe_ends k p d e q f g reader writer apart free free_too apart_too r mode =
    let first : Kernel = set_inode p (Pipe []) k in
    let second : Kernel = open_at d p to_read q f first in
    let after : Kernel = pipe_at p d e q f g k in
    let same : ends first r mode ≡ ends k r mode = inode_ends k first.inodes r mode in
    let one_more : ends second r mode ≡ ends first r mode + cond ((p == r) && mode (at_start p to_read)) 1 0 = ends-open_at first d p to_read q f (unused_still k p d (Pipe []) reader) free r mode in
    let two_more : ends after r mode ≡ ends second r mode + cond ((p == r) && mode (at_start p to_write)) 1 0 = ends-open_at second e p to_write q g (unused_after first d p to_read q f e (unused_still k p e (Pipe []) writer) apart) (free_after first d p to_read q f g free_too apart_too) r mode in
    let o : ends_among after r mode (d ∷ e ∷ []) ≡ end_count after r mode d + end_count after r mode e = ends_two after r mode d e in
    let here : end_count after r mode e ≡ cond ((p == r) && mode (at_start p to_write)) 1 0 = ap (λ o. cond (is_end mode r o) 1 0) (get_same second.descriptions e (at_start p to_write)) in
    let there : end_count after r mode d ≡ cond ((p == r) && mode (at_start p to_read)) 1 0 = ap (λ o. cond (is_end mode r o) 1 0) (get_other second.descriptions e d (at_start p to_write) apart ∙ get_same first.descriptions d (at_start p to_read)) in
    omega arith

pipe_counts : (chosen : List ℕ) (k : Kernel) (i q f g : ℕ) → CanPipe chosen k (number chosen (Made i)) (number chosen (Made (i + 1))) (number chosen (Made (i + 2))) q f g → EditCounts chosen k (Make_pipe i q f g)
unfolding applied
pipe_counts chosen k i q f g can =
    let p : ℕ = number chosen (Made i) in
    let d : ℕ = number chosen (Made (i + 1)) in
    let e : ℕ = number chosen (Made (i + 2)) in
    record {
      links = λ m. let same : links (pipe_at p d e q f g k) m ≡ links k m = pipe_links k p d e q f g (is_new k p (Pipe []) can.pipe.inode refl refl refl) m in ap (λ c. c + 0) same;
      openings = pipe_openings k p d e q f g can.reader can.writer can.different;
      holders = λ c. let more : holders (pipe_at p d e q f g k) c ≡ holders k c + times c (d ∷ e ∷ []) = pipe_holders k p d e q f g can.slot.free can.other.free can.apart c in omega arith;
      ends = λ r mode _. let more : ends (pipe_at p d e q f g k) r mode ≡ ends k r mode + ends_among (pipe_at p d e q f g k) r mode (d ∷ e ∷ []) = pipe_ends k p d e q f g can.reader can.writer can.different can.slot.free can.other.free can.apart r mode in omega arith;
    }

-- an offset is in no count
offset_counts : (chosen : List ℕ) (k : Kernel) (d place : ℕ) (it : Description) → get k.descriptions d ≡ Some it → EditCounts chosen k (Set_offset d place)
unfolding applied
offset_counts chosen k d place it is =
    let there = set_there k d place it is in
    record {
      links = λ m. ap (λ s. links s m + 0) there ∙ ap (λ c. c + 0) (table_links k (insert k.descriptions d (at_offset place it)) k.processes k.made m);
      openings = λ m. let same : openings (set_offset d place (get k.descriptions d) k) m ≡ openings k m = ap (λ s. openings s m) there ∙ openings_moved k d place it is m in omega arith;
      holders = λ c. let same : holders (set_offset d place (get k.descriptions d) k) c ≡ holders k c = ap (λ s. holders s c) there ∙ holders_moved k d place it c in omega arith;
      ends = λ p mode is_mode. let same : ends (set_offset d place (get k.descriptions d) k) p mode ≡ ends k p mode = ap (λ s. ends s p mode) there ∙ ends_unmoved k d place it is p mode (is_mode place it) in omega arith;
    }

-- rights are in no count
rights_links : (k : Kernel) (n : ℕ) (rights : Rights) (m : ℕ) → links (set_rights n rights k) m ≡ links k m
unfolding links
rights_links k n rights m = refl

rights_openings : (k : Kernel) (n : ℕ) (rights : Rights) (m : ℕ) → openings (set_rights n rights k) m ≡ openings k m
unfolding openings
rights_openings k n rights m = refl

rights_holders : (k : Kernel) (n : ℕ) (rights : Rights) (d : ℕ) → holders (set_rights n rights k) d ≡ holders k d
unfolding holders
rights_holders k n rights d = refl

rights_ends : (k : Kernel) (n : ℕ) (rights : Rights) (p : ℕ) (mode : Description → Bool) → ends (set_rights n rights k) p mode ≡ ends k p mode
unfolding ends
rights_ends k n rights p mode = refl

rights_counts : (chosen : List ℕ) (k : Kernel) (n : ℕ) (rights : Rights) → EditCounts chosen k (Set_rights n rights)
unfolding applied
rights_counts chosen k n rights = record {
  links = λ m. ap (λ c. c + 0) (rights_links k n rights m);
  openings = λ m. let same : openings (set_rights n rights k) m ≡ openings k m = rights_openings k n rights m in omega arith;
  holders = λ d. let same : holders (set_rights n rights k) d ≡ holders k d = rights_holders k n rights d in omega arith;
  ends = λ p mode _. let same : ends (set_rights n rights k) p mode ≡ ends k p mode = rights_ends k n rights p mode in omega arith;
}

-- how many processes were made is in no count
forked_holders : (k : Kernel) (child parent d : ℕ) → holders (set_process child (process_of k parent) k) d ≡ holders k d + times d (values (table_of k parent))
    → holders (with_tables k k.descriptions (insert k.processes child (process_of k parent)) child) d + times d [] ≡ holders k d + times d (values (table_of k parent))
unfolding holders
forked_holders k child parent d e = let same : holders (with_tables k k.descriptions (insert k.processes child (process_of k parent)) child) d ≡ holders k d + times d (values (table_of k parent)) = e in omega arith

forked_ends : (k : Kernel) (child parent p : ℕ) (mode : Description → Bool) → ends (set_process child (process_of k parent) k) p mode ≡ ends k p mode + ends_among k p mode (values (table_of k parent))
    → ends (with_tables k k.descriptions (insert k.processes child (process_of k parent)) child) p mode + ends_among k p mode [] ≡ ends k p mode + ends_among k p mode (values (table_of k parent))
unfolding ends
forked_ends k child parent p mode e = let same : ends (with_tables k k.descriptions (insert k.processes child (process_of k parent)) child) p mode ≡ ends k p mode + ends_among k p mode (values (table_of k parent)) = e in omega arith

pub counts_change : (chosen : List ℕ) (k : Kernel) (e : Edit) → Fits chosen k e → EditCounts chosen k e
unfolding applied
counts_change chosen k (Make_directory d x i) f = by_inodes chosen k (Make_directory d x i) _ refl refl refl refl
    (made_links k d x (number chosen (Made i)) (Directory empty) f.1.inode (is_new k _ (Directory empty) f.1.inode refl refl refl) f.0.parent.directory f.0.free)
counts_change chosen k (Make_file d x i) f = by_inodes chosen k (Make_file d x i) _ refl refl refl refl
    (made_links k d x (number chosen (Made i)) (File []) f.1.inode (is_new k _ (File []) f.1.inode refl refl refl) f.0.parent.directory f.0.free)
counts_change chosen k (Make_fixed d x fixed i) f = by_inodes chosen k (Make_fixed d x fixed i) _ refl refl refl refl
    (made_links k d x (number chosen (Made i)) (Fixed fixed) f.1.inode (is_new k _ (Fixed fixed) f.1.inode refl refl refl) f.0.parent.directory f.0.free)
counts_change chosen k (Name_file d x n) f = by_inodes chosen k (Name_file d x n) _ refl refl refl refl (named_links k d x n f.0.parent.directory f.0.free)
counts_change chosen k (Unname_file d x n) f = by_inodes chosen k (Unname_file d x n) _ refl refl refl refl (unnamed_links k d x n f.parent.directory f.gives)
counts_change chosen k (Unname_directory d x n) f = by_inodes chosen k (Unname_directory d x n) _ refl refl refl refl (unnamed_links k d x n f.0.parent.directory f.0.gives)
counts_change chosen k (Move d x e y n replaced) f = by_inodes chosen k (Move d x e y n replaced) _ refl refl refl refl (moved_links k d x e y n replaced f)
counts_change chosen k (Swap d x n e y m) f = by_inodes chosen k (Swap d x n e y m) _ refl refl refl refl (exchanged_links k d x n e y m f)
counts_change chosen k (Put_bytes n place bytes before) f = by_inodes chosen k (Put_bytes n place bytes before) _ refl refl refl refl (bytes_links k n (File (written (file_of k n) place bytes)) (has_bytes k n _ (sym f.0) refl (no_names_file _ f.0)))
counts_change chosen k (Wipe n place count) f = by_inodes chosen k (Wipe n place count) _ refl refl refl refl (bytes_links k n (File (written (file_of k n) place (replicate count 0))) (has_bytes k n _ (sym f.0) refl (no_names_file _ f.0)))
counts_change chosen k (Cut n before after) f = by_inodes chosen k (Cut n before after) _ refl refl refl refl (bytes_links k n (File (sized after (file_of k n))) (has_bytes k n _ (sym f.0) refl (no_names_file _ f.0)))
counts_change chosen k (Take p count) f = by_inodes chosen k (Take p count) _ refl refl refl refl (bytes_links k p (Pipe (drop count (pipe_of k p))) (has_bytes k p _ (sym f.0) refl (no_names_pipe _ f.0)))
counts_change chosen k (Append p bytes) f = by_inodes chosen k (Append p bytes) _ refl refl refl refl (bytes_links k p (Pipe (pipe_of k p ++ bytes)) (has_bytes k p _ (sym f.0) refl (no_names_pipe _ f.0)))
counts_change chosen k (Set_offset d place) f = offset_counts chosen k d place f.0 f.1
counts_change chosen k (Set_rights n rights) f = rights_counts chosen k n rights
counts_change chosen k (Open_inode i inode how q f) can = open_counts chosen k (Open_inode i inode how q f) (number chosen (Made i)) (number chosen inode) how q f refl refl refl refl refl refl can.unused can.slot.free
counts_change chosen k (Make_pipe i q f g) can = pipe_counts chosen k i q f g can
counts_change chosen k (Share_slot q f d pipes) can = by_processes chosen k (Share_slot q f d pipes) _ k.made refl refl refl refl (holders_shared k q f d) (ends_shared k q f d)
counts_change chosen k (Clear_slot q f pipes) can = by_processes chosen k (Clear_slot q f pipes) _ k.made refl refl refl refl
    (λ d. let less : holders (set_process q (without_slot f (process_of k q)) k) d + times d (listed (get (table_of k q) f)) ≡ holders k d = holders_cleared k q f d in omega arith)
    (λ p mode. let less : ends (set_process q (without_slot f (process_of k q)) k) p mode + ends_among k p mode (listed (get (table_of k q) f)) ≡ ends k p mode = ends_cleared k q f p mode in omega arith)
counts_change chosen k (New_process child parent pipes) can = by_processes chosen k (New_process child parent pipes) _ child refl refl refl refl
    (λ d. let more : holders (set_process child (process_of k parent) k) d ≡ holders k d + times d (values (table_of k parent)) = holders_forked k child (process_of k parent) d can.fresh in forked_holders k child parent d more)
    (λ p mode. let more : ends (set_process child (process_of k parent) k) p mode ≡ ends k p mode + ends_among k p mode (values (table_of k parent)) = ends_forked k child (process_of k parent) p mode can.fresh in forked_ends k child parent p mode more)
counts_change chosen k (End_process q pipes) can = by_processes chosen k (End_process q pipes) _ k.made refl refl refl refl
    (λ d. let less : holders (without_process q k) d + times d (values (table_of k q)) ≡ holders k d = holders_ended k q d in omega arith)
    (λ p mode. let less : ends (without_process q k) p mode + ends_among k p mode (values (table_of k q)) ≡ ends k p mode = ends_ended k q p mode in omega arith)
