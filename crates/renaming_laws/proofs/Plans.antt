-- The plan of each call, in a renamed state.
use Rattle.std.proofs.Common.{◌≡◌, ℕ, suc, ◌+◌, ◌-◌, ◌/◌, ℤ, pos, negsuc, ◌+ℤ◌, Bool, true, false, not, ◌&&◌, ◌||◌, nat_lt, nat_le, ◌==◌, if◌then◌else◌, List, [], ◌∷◌, ◌++◌, map, length, take, min, Option, Some, None, refl, sym, ap, ap₂, subst, ◌∙◌}
use Rattle.std.proofs.lemmas.List.{map-append}
use Rattle.std.specs.List.{list_any}
use Rattle.ids.specs.Fixed.{special_object}
use Rattle.ids.specs.Rights.{permitted, owned}
use Rattle.ids.specs.Flags.{is_reading, is_writing, is_creating, is_exclusive, is_truncating}
use Rattle.model.specs.State.{Kind, A_file, A_directory, A_pipe, A_link, A_fifo, A_socket, Link_to, Rights, Kernel, mapped}
use Rattle.model.specs.Plan.{Errno, EAGAIN, EBADF, EBUSY, EEXIST, EFBIG, EINVAL, EISDIR, ELOOP, EMFILE, ENAMETOOLONG, ENXIO, ENOENT, ENOTDIR, ENOTEMPTY, EPERM, EPIPE, ESPIPE, List_names, Measure, Read_file, Count_links, Count_ends, Find_offset, Read_pipe, Fit, Read_target, Find_rights, Pass_blocks, block_length, Plan, Give, ◌>>=◌, ◌>>◌, ask, refuse_if, or_refuse}
use Rattle.model.specs.Holes.{behind_blocks}
use Rattle.model.specs.Paths.{is_empty, is_below}
use Rattle.model.specs.Walks.{parsed, walk, Last, last_of, Place, is_directory, is_link}
use Rattle.model.specs.Changes.{Made, There, Edit, Make_directory, Make_file, Make_fixed, Name_file, Unname_file, Unname_directory, Swap, Wipe, Cut, Move, Put_bytes, Take, Append, Over_nothing, Over_file, Over_directory, Set_offset, Set_rights, Open_inode, Make_pipe, Share_slot, Clear_slot, New_process, End_process}
use Rattle.model.specs.Calls.{OpenFlags, Whence, From_start, From_offset, From_end, To_data, To_hole, Call, Open, Close, Read, Pread, Write, Pwrite, Lseek, Ftruncate, Truncate, Stat, Fstat, Link, Unlink, Rename, Exchange, Fallocate, Space, Grow, Keep, Punch, Mkdir, Rmdir, List_directory, Symlink, Readlink, Lstat, Mknod, Chmod, Chown, Fchmod, Fchown, Dup, Dup2, Open_pipe, Fork, Exit, Answer, Done, Descriptor, Count, New_place, Bytes, Pair, Stated, Listing, Child, Slot, Own}
use Rattle.model.specs.Plans.{Change, changed, free, first_of_free, slot_at, slot, is_pipe, pipe_in, pipes_in, stated, status, revised, is_special, target_limit, mode, cut_to, opened, read_pipe, read_some, place_to_write, room, write_some, offset_named, read_from, write_from, sought, found_from, aimed, length_named, spaced, swapped, replaced_by_name, move_onto, moved, absent, duplicated, piped, forked, plan, most_moved, most_processes, whole_write, open_limit}
use Rattle.renaming_laws.specs.Renaming.{IsRenaming}
use Rattle.renaming_laws.specs.Renamed.{renamed_place, renamed_slot, renamed_own, renamed_replaced, renamed_edit, renamed_answer, renamed_change}
use Rattle.renaming_laws.proofs.States.{same_test}
use Rattle.renaming_laws.proofs.Own.{free_still, slot_found, pipe_renamed, pipes_renamed}
use Rattle.renaming_laws.proofs.Rules.{Goes, goes_on, goes_give, goes_refuse, goes_ask, goes_unless, goes_either, goes_or, goes_parsed, directory_still, link_still, renamed_last, walk_goes, last_of_goes}

special_still : (f : ℕ → ℕ) (place : Place) → is_special (renamed_place f place) ≡ is_special place
special_still f (n, None) = refl
special_still f (n, Some A_file) = refl
special_still f (n, Some A_directory) = refl
special_still f (n, Some A_pipe) = refl
special_still f (n, Some A_link) = refl
special_still f (n, Some A_fifo) = refl
special_still f (n, Some A_socket) = refl

module _ (f : ℕ → ℕ) (r : IsRenaming f) (k : Kernel) where
  -- how a call ends
  goes_changed : (answer : Answer) (es es' : List Edit) → es' ≡ map (renamed_edit f) es → Goes f k (renamed_change f) (changed answer es) (changed (renamed_answer f answer) es')
  goes_changed answer es es' same = goes_give f r k (renamed_change f) (record { reply = answer; edits = es }) (record { reply = renamed_answer f answer; edits = es' }) (λ i. record { reply = renamed_answer f answer; edits = same i })

  slot_goes : (own : Own) (fd : ℕ) → Goes f k (renamed_slot f) (slot own fd) (slot (renamed_own f own) fd)
  slot_goes own fd = subst (λ o. Goes f k (renamed_slot f) (slot own fd) (or_refuse EBADF o)) (sym (slot_found f r own fd)) (goes_or f r k (renamed_slot f) EBADF (slot_at own fd))

  with_slot : (own : Own) (fd : ℕ) (p q : Slot → Plan Change) → ((it : Slot) → Goes f k (renamed_change f) (p it) (q (renamed_slot f it))) → Goes f k (renamed_change f) (slot own fd >>= p) (slot (renamed_own f own) fd >>= q)
  with_slot own fd p q rest = goes_on f r k (renamed_slot f) (renamed_change f) (slot own fd) (slot (renamed_own f own) fd) p q (slot_goes own fd) rest

  unless : (b : Bool) (e : Errno) (m n : Plan Change) → Goes f k (renamed_change f) m n → Goes f k (renamed_change f) (refuse_if b e >> m) (refuse_if b e >> n)
  unless b e m n way = goes_unless f r k (renamed_change f) b b refl e m n way

  -- a question whose answer tells no number
  asked : {A B C : Type 0} (h : B → C) (m n : Plan A) (p : A → Plan B) (q : A → Plan C) → Goes f k (λ x. x) m n → ((x : A) → Goes f k h (p x) (q x)) → Goes f k h (m >>= p) (n >>= q)
  asked h m n p q way rest = goes_on f r k (λ x. x) h m n p q way rest

  stated_goes : (what : Kind) (n size links : ℕ) → Goes f k (renamed_change f) (stated what n size links) (stated what (f n) size links)
  stated_goes what n size links =
      asked (renamed_change f) (ask (Find_rights n)) (ask (Find_rights (f n))) _ _ (goes_ask f r k (Find_rights n)) (λ rights.
      goes_changed (Stated (record { kind = what; num = n; size = size; links = links; rights = rights })) [] [] refl)

  -- what is told with how many names it has
  linked_goes : (what : Kind) (n size : ℕ) → Goes f k (renamed_change f) (ask (Count_links n) >>= (λ links. stated what n size links)) (ask (Count_links (f n)) >>= (λ links. stated what (f n) size links))
  linked_goes what n size = asked (renamed_change f) (ask (Count_links n)) (ask (Count_links (f n))) _ _ (goes_ask f r k (Count_links n)) (λ links. stated_goes what n size links)

  status_goes : (n : ℕ) (what : Option Kind) → Goes f k (renamed_change f) (status (n, what)) (status (f n, what))
  status_goes n None = goes_refuse f r k (renamed_change f) ENOENT
  status_goes n (Some A_file) = asked (renamed_change f) (ask (Measure n)) (ask (Measure (f n))) _ _ (goes_ask f r k (Measure n)) (λ size. linked_goes A_file n size)
  status_goes n (Some A_directory) = stated_goes A_directory n 0 1
  status_goes n (Some A_pipe) = stated_goes A_pipe n 0 0
  status_goes n (Some A_link) = asked (renamed_change f) (ask (Read_target n)) (ask (Read_target (f n))) _ _ (goes_ask f r k (Read_target n)) (λ target. linked_goes A_link n (length target))
  status_goes n (Some A_fifo) = linked_goes A_fifo n 0
  status_goes n (Some A_socket) = linked_goes A_socket n 0

  -- rights that are made others
  revised_goes : (n : ℕ) (change : Rights → Rights) → Goes f k (renamed_change f) (revised n change) (revised (f n) change)
  revised_goes n change = asked (renamed_change f) (ask (Find_rights n)) (ask (Find_rights (f n))) _ _ (goes_ask f r k (Find_rights n)) (λ rights. goes_changed Done (Set_rights n (change rights) ∷ []) _ refl)

  -- what is no link, and no FIFO and no socket
  unless_link : (place : Place) (m n : Plan Change) → Goes f k (renamed_change f) m n → Goes f k (renamed_change f) (refuse_if (is_link place) ELOOP >> m) (refuse_if (is_link (renamed_place f place)) ELOOP >> n)
  unless_link place m n way = goes_unless f r k (renamed_change f) (is_link place) (is_link (renamed_place f place)) (link_still f place) ELOOP m n way

  unless_special : (place : Place) (e : Errno) (m n : Plan Change) → Goes f k (renamed_change f) m n → Goes f k (renamed_change f) (refuse_if (is_special place) e >> m) (refuse_if (is_special (renamed_place f place)) e >> n)
  unless_special place e m n way = goes_unless f r k (renamed_change f) (is_special place) (is_special (renamed_place f place)) (special_still f place) e m n way

  cut_goes : (n len : ℕ) → Goes f k (map (renamed_edit f)) (cut_to n len) (cut_to (f n) len)
  cut_goes n len = asked (map (renamed_edit f)) (ask (Measure n)) (ask (Measure (f n))) _ _ (goes_ask f r k (Measure n)) (λ size. goes_give f r k (map (renamed_edit f)) _ _ refl)

  opened_goes : (own : Own) (flags : OpenFlags) (fd : ℕ) (at : Last) (found : Option Place) → Goes f k (renamed_change f) (opened own flags fd at found) (opened (renamed_own f own) flags fd (renamed_last f at) (mapped (renamed_place f) found))
  opened_goes own flags fd at None =
      unless (not (is_creating flags)) ENOENT _ _ (goes_changed (Descriptor fd) (Make_file at.parent at.name 0 ∷ Open_inode 1 (Made 0) (mode flags) own.pid fd ∷ []) _ refl)
  opened_goes own flags fd at (Some place) =
      unless (is_creating flags && is_exclusive flags) EEXIST _ _
      (goes_unless f r k (renamed_change f) (is_directory place) (is_directory (renamed_place f place)) (directory_still f place) EISDIR _ _
      (unless_link place _ _ (unless_special place ENXIO _ _
      (goes_on f r k (map (renamed_edit f)) (renamed_change f) (if is_truncating flags then cut_to place.0 0 else Give []) (if is_truncating flags then cut_to (f place.0) 0 else Give []) _ _
      (goes_either f r k (map (renamed_edit f)) (is_truncating flags) (is_truncating flags) refl _ _ _ _ (cut_goes place.0 0) (goes_give f r k (map (renamed_edit f)) [] [] refl)) (λ cut.
      goes_changed (Descriptor fd) (cut ++ Open_inode 0 (There place.0) (mode flags) own.pid fd ∷ []) (map (renamed_edit f) cut ++ Open_inode 0 (There (f place.0)) (mode flags) own.pid fd ∷ []) (sym (map-append (renamed_edit f) cut (Open_inode 0 (There place.0) (mode flags) own.pid fd ∷ []))))))))

  read_pipe_goes : (p : ℕ) (bytes : List ℕ) → Goes f k (renamed_change f) (read_pipe p bytes) (read_pipe (f p) bytes)
  read_pipe_goes p [] = asked (renamed_change f) (ask (Count_ends p)) (ask (Count_ends (f p))) _ _ (goes_ask f r k (Count_ends p)) (λ ends. unless (nat_lt 0 ends.1) EAGAIN _ _ (goes_changed (Bytes []) [] [] refl))
  read_pipe_goes p (b ∷ bytes) = goes_changed (Bytes (b ∷ bytes)) (Take p (length (b ∷ bytes)) ∷ []) (Take (f p) (length (b ∷ bytes)) ∷ []) refl

  offset_moved : (d place : ℕ) (b : Bool) → (if b then [] else Set_offset (f d) place ∷ []) ≡ map (renamed_edit f) (if b then [] else Set_offset d place ∷ [])
  offset_moved d place true = refl
  offset_moved d place false = refl

  read_goes : (it : Slot) (count : ℕ) → Goes f k (renamed_change f) (read_some it count) (read_some (renamed_slot f it) count)
  read_goes it count = goes_either f r k (renamed_change f) (is_pipe it.kind) (is_pipe it.kind) refl _ _ _ _
      (asked (renamed_change f) (ask (Read_pipe it.inode count)) (ask (Read_pipe (f it.inode) count)) _ _ (goes_ask f r k (Read_pipe it.inode count)) (λ bytes. read_pipe_goes it.inode bytes))
      (asked (renamed_change f) (ask (Find_offset it.description)) (ask (Find_offset (f it.description))) _ _ (goes_ask f r k (Find_offset it.description)) (λ offset.
      asked (renamed_change f) (ask (Read_file it.inode offset (min count most_moved))) (ask (Read_file (f it.inode) offset (min count most_moved))) _ _ (goes_ask f r k (Read_file it.inode offset (min count most_moved))) (λ bytes.
      goes_changed (Bytes bytes) _ _ (offset_moved it.description (offset + length bytes) (is_empty bytes)))))

  place_goes : (it : Slot) (b : Bool) → Goes f k (λ place. place) (place_to_write it b) (place_to_write (renamed_slot f it) b)
  place_goes it true = goes_ask f r k (Measure it.inode)
  place_goes it false = goes_ask f r k (Find_offset it.description)

  write_goes : (largest : ℕ) (it : Slot) (bytes : List ℕ) → Goes f k (renamed_change f) (write_some largest it bytes) (write_some largest (renamed_slot f it) bytes)
  write_goes largest it bytes = goes_either f r k (renamed_change f) (is_pipe it.kind) (is_pipe it.kind) refl _ _ _ _
      (asked (renamed_change f) (ask (Count_ends it.inode)) (ask (Count_ends (f it.inode))) _ _ (goes_ask f r k (Count_ends it.inode)) (λ ends.
      unless (ends.0 == 0) EPIPE _ _
      (asked (renamed_change f) (ask (Fit it.inode (length bytes))) (ask (Fit (f it.inode) (length bytes))) _ _ (goes_ask f r k (Fit it.inode (length bytes))) (λ fitting.
      unless (nat_lt fitting (length bytes) && nat_le (length bytes) whole_write) EAGAIN _ _
      (unless (fitting == 0) EAGAIN _ _ (goes_changed (Count fitting) (Append it.inode (take fitting bytes) ∷ []) _ refl))))))
      (asked (renamed_change f) (place_to_write it it.appending) (place_to_write (renamed_slot f it) it.appending) _ _ (place_goes it it.appending) (λ place.
      unless (nat_le largest place) EFBIG _ _
      (asked (renamed_change f) (ask (Measure it.inode)) (ask (Measure (f it.inode))) _ _ (goes_ask f r k (Measure it.inode)) (λ size.
      goes_changed (Count (length (take (room largest place) bytes))) (Put_bytes it.inode place (take (room largest place) bytes) size ∷ Set_offset it.description (place + length (take (room largest place) bytes)) ∷ []) _ refl))))

  -- an offset that a call names tells no number
  named_goes : (offset : ℤ) (p q : ℕ → Plan Change) → ((at : ℕ) → Goes f k (renamed_change f) (p at) (q at)) → Goes f k (renamed_change f) (or_refuse EINVAL (offset_named offset) >>= p) (or_refuse EINVAL (offset_named offset) >>= q)
  named_goes (pos at) p q rest = rest at
  named_goes (negsuc n) p q rest = goes_refuse f r k (renamed_change f) EINVAL

  read_from_goes : (n offset count : ℕ) → Goes f k (renamed_change f) (read_from n offset count) (read_from (f n) offset count)
  read_from_goes n offset count = asked (renamed_change f) (ask (Read_file n offset (min count most_moved))) (ask (Read_file (f n) offset (min count most_moved))) _ _ (goes_ask f r k (Read_file n offset (min count most_moved))) (λ bytes. goes_changed (Bytes bytes) [] [] refl)

  write_from_goes : (largest n offset : ℕ) (bytes : List ℕ) → Goes f k (renamed_change f) (write_from largest n offset bytes) (write_from largest (f n) offset bytes)
  write_from_goes largest n offset bytes = unless (nat_le largest offset) EFBIG _ _
      (asked (renamed_change f) (ask (Measure n)) (ask (Measure (f n))) _ _ (goes_ask f r k (Measure n)) (λ size.
      goes_changed (Count (length (take (room largest offset) bytes))) (Put_bytes n offset (take (room largest offset) bytes) size ∷ []) _ refl))

  sought_goes : (largest : ℕ) (it : Slot) (z : ℤ) → Goes f k (renamed_change f) (sought largest it z) (sought largest (renamed_slot f it) z)
  sought_goes largest it (pos place) = unless (nat_lt largest place) EINVAL _ _ (goes_changed (New_place place) (Set_offset it.description place ∷ []) _ refl)
  sought_goes largest it (negsuc place) = goes_refuse f r k (renamed_change f) EINVAL

  found_goes : (holes : Bool) (n from : ℕ) → Goes f k (λ place. place) (found_from holes n from) (found_from holes (f n) from)
  found_goes holes n from = asked (λ place. place) (ask (Measure n)) (ask (Measure (f n))) _ _ (goes_ask f r k (Measure n)) (λ size.
      goes_unless f r k (λ place. place) (nat_le size from) (nat_le size from) refl ENXIO _ _
      (asked (λ place. place) (ask (Pass_blocks (not holes) n (from / block_length) (suc ((size - 1) / block_length - from / block_length)))) (ask (Pass_blocks (not holes) (f n) (from / block_length) (suc ((size - 1) / block_length - from / block_length)))) _ _
      (goes_ask f r k (Pass_blocks (not holes) n (from / block_length) (suc ((size - 1) / block_length - from / block_length)))) (λ passed.
      goes_unless f r k (λ place. place) (not holes && nat_le size (behind_blocks from passed)) (not holes && nat_le size (behind_blocks from passed)) refl ENXIO _ _
      (goes_give f r k (λ place. place) (min size (behind_blocks from passed)) (min size (behind_blocks from passed)) refl))))

  found_named : (holes : Bool) (n : ℕ) (move : ℤ) → Goes f k (λ sum. sum) (or_refuse ENXIO (offset_named move) >>= (λ from. found_from holes n from >>= (λ place. Give (pos place)))) (or_refuse ENXIO (offset_named move) >>= (λ from. found_from holes (f n) from >>= (λ place. Give (pos place))))
  found_named holes n (pos from) = asked (λ sum. sum) (found_from holes n from) (found_from holes (f n) from) _ _ (found_goes holes n from) (λ place. goes_give f r k (λ sum. sum) (pos place) (pos place) refl)
  found_named holes n (negsuc from) = goes_refuse f r k (λ sum. sum) ENXIO

  aimed_goes : (it : Slot) (move : ℤ) (whence : Whence) → Goes f k (λ sum. sum) (aimed it move whence) (aimed (renamed_slot f it) move whence)
  aimed_goes it move From_start = goes_give f r k (λ sum. sum) move move refl
  aimed_goes it move From_offset = asked (λ sum. sum) (ask (Find_offset it.description)) (ask (Find_offset (f it.description))) _ _ (goes_ask f r k (Find_offset it.description)) (λ offset. goes_give f r k (λ sum. sum) (pos offset +ℤ move) (pos offset +ℤ move) refl)
  aimed_goes it move From_end = asked (λ sum. sum) (ask (Measure it.inode)) (ask (Measure (f it.inode))) _ _ (goes_ask f r k (Measure it.inode)) (λ size. goes_give f r k (λ sum. sum) (pos size +ℤ move) (pos size +ℤ move) refl)
  aimed_goes it move To_data = found_named false it.inode move
  aimed_goes it move To_hole = found_named true it.inode move

  -- a length that a call names tells no number
  long_goes : (len : ℤ) (p q : ℕ → Plan Change) → ((count : ℕ) → Goes f k (renamed_change f) (p count) (q count)) → Goes f k (renamed_change f) (or_refuse EINVAL (length_named len) >>= p) (or_refuse EINVAL (length_named len) >>= q)
  long_goes (pos ℕ.zero) p q rest = goes_refuse f r k (renamed_change f) EINVAL
  long_goes (pos (suc more)) p q rest = rest (suc more)
  long_goes (negsuc more) p q rest = goes_refuse f r k (renamed_change f) EINVAL

  -- an edit that there may be
  edit_if : (b : Bool) (e : Edit) → (if b then renamed_edit f e ∷ [] else []) ≡ map (renamed_edit f) (if b then e ∷ [] else [])
  edit_if true e = refl
  edit_if false e = refl

  spaced_goes : (n at count : ℕ) (space : Space) → Goes f k (renamed_change f) (spaced n at count space) (spaced (f n) at count space)
  spaced_goes n at count Grow = asked (renamed_change f) (ask (Measure n)) (ask (Measure (f n))) _ _ (goes_ask f r k (Measure n)) (λ size. goes_changed Done _ _ (edit_if (nat_lt size (at + count)) (Cut n size (at + count))))
  spaced_goes n at count Keep = goes_changed Done [] [] refl
  spaced_goes n at count Punch = asked (renamed_change f) (ask (Measure n)) (ask (Measure (f n))) _ _ (goes_ask f r k (Measure n)) (λ size. goes_changed Done _ _ (edit_if (nat_lt at size) (Wipe n at (min count (size - at)))))

  swapped_goes : (at : Last) (what : Place) (onto : Last) (other : Place) → Goes f k (renamed_change f) (swapped at what onto other) (swapped (renamed_last f at) (renamed_place f what) (renamed_last f onto) (renamed_place f other))
  swapped_goes at what onto other = goes_either f r k (renamed_change f) (what.0 == other.0) (f what.0 == f other.0) (same_test f r what.0 other.0) _ _ _ _ (goes_changed Done [] [] refl)
      (goes_changed Done (Swap at.parent at.name what.0 onto.parent onto.name other.0 ∷ []) _ refl)

  replaced_goes : (n : ℕ) (b : Bool) → Goes f k (renamed_replaced f) (replaced_by_name n b) (replaced_by_name (f n) b)
  replaced_goes n true = asked (renamed_replaced f) (ask (List_names n)) (ask (List_names (f n))) _ _ (goes_ask f r k (List_names n)) (λ names.
      goes_unless f r k (renamed_replaced f) (not (is_empty names)) (not (is_empty names)) refl ENOTEMPTY _ _ (goes_give f r k (renamed_replaced f) (Over_directory n) (Over_directory (f n)) refl))
  replaced_goes n false = goes_give f r k (renamed_replaced f) (Over_file n) (Over_file (f n)) refl

  onto_goes : (from : Last) (what : Place) (to : Last) (old : Place) → Goes f k (renamed_change f) (move_onto from what to old) (move_onto (renamed_last f from) (renamed_place f what) (renamed_last f to) (renamed_place f old))
  onto_goes from what to old = goes_either f r k (renamed_change f) (what.0 == old.0) (f what.0 == f old.0) (same_test f r what.0 old.0) _ _ _ _ (goes_changed Done [] [] refl)
      (goes_unless f r k (renamed_change f) (not (is_directory what) && is_directory old) _ (ap₂ (λ a b. not a && b) (directory_still f what) (directory_still f old)) EISDIR _ _
      (goes_unless f r k (renamed_change f) (is_directory what && not (is_directory old)) _ (ap₂ (λ a b. a && not b) (directory_still f what) (directory_still f old)) ENOTDIR _ _
      (goes_on f r k (renamed_replaced f) (renamed_change f) (replaced_by_name old.0 (is_directory old)) (replaced_by_name (f old.0) (is_directory (renamed_place f old))) _ _
      (subst (λ b. Goes f k (renamed_replaced f) (replaced_by_name old.0 (is_directory old)) (replaced_by_name (f old.0) b)) (sym (directory_still f old)) (replaced_goes old.0 (is_directory old))) (λ replaced.
      goes_changed Done (Move from.parent from.name to.parent to.name what.0 replaced ∷ []) _ refl))))

  moved_goes : (from : Last) (what : Place) (to : Last) (o : Option Place) → Goes f k (renamed_change f) (moved from what to o) (moved (renamed_last f from) (renamed_place f what) (renamed_last f to) (mapped (renamed_place f) o))
  moved_goes from what to None = goes_changed Done (Move from.parent from.name to.parent to.name what.0 Over_nothing ∷ []) _ refl
  moved_goes from what to (Some old) = onto_goes from what to old

  if_absent : (o : Option Place) (m n : Plan Change) → Goes f k (renamed_change f) m n → Goes f k (renamed_change f) (absent o >> m) (absent (mapped (renamed_place f) o) >> n)
  if_absent None m n way = way
  if_absent (Some place) m n way = goes_refuse f r k (renamed_change f) EEXIST

  duplicated_goes : (own : Own) (it : Slot) (fds : List ℕ) → Goes f k (renamed_change f) (duplicated own it fds) (duplicated (renamed_own f own) (renamed_slot f it) fds)
  duplicated_goes own it [] = goes_refuse f r k (renamed_change f) EMFILE
  duplicated_goes own it (fd ∷ fds) = goes_changed (Descriptor fd) (Share_slot own.pid fd it.description (pipe_in (Some it)) ∷ []) _ (ap (λ pipes. Share_slot own.pid fd (f it.description) pipes ∷ []) (pipe_renamed f r (Some it)))

  piped_goes : (own : Own) (fds : List ℕ) → Goes f k (renamed_change f) (piped own fds) (piped (renamed_own f own) fds)
  piped_goes own [] = goes_refuse f r k (renamed_change f) EMFILE
  piped_goes own (fd ∷ []) = goes_refuse f r k (renamed_change f) EMFILE
  piped_goes own (fd ∷ other ∷ fds) = goes_changed (Pair fd other) (Make_pipe 0 own.pid fd other ∷ []) _ refl

  forked_goes : (own : Own) (birth : Option (ℕ × ℕ)) → Goes f k (renamed_change f) (forked own birth) (forked (renamed_own f own) birth)
  forked_goes own (Some (made, priority)) = unless (nat_le most_processes made) EAGAIN _ _ (goes_changed (Child (ℕ.suc made)) (New_process (ℕ.suc made) own.pid (pipes_in own) ∷ []) _ (ap (λ pipes. New_process (ℕ.suc made) own.pid pipes ∷ []) (pipes_renamed f r own)))
  forked_goes own None = goes_refuse f r k (renamed_change f) EAGAIN

  -- the first free descriptor is the same
  first_goes : (own : Own) → Goes f k (λ fd. fd) (first_of_free (free own)) (first_of_free (free (renamed_own f own)))
  first_goes own = subst (λ fds. Goes f k (λ fd. fd) (first_of_free (free own)) (first_of_free fds)) (sym (free_still f r own)) (by_list (free own))
    where
      by_list : (fds : List ℕ) → Goes f k (λ fd. fd) (first_of_free fds) (first_of_free fds)
      by_list [] = goes_refuse f r k (λ fd. fd) EMFILE
      by_list (fd ∷ fds) = goes_give f r k (λ fd. fd) fd fd refl

  pub walked : (root : ℕ) (names : List (List ℕ)) (p q : Place → Plan Change) → ((place : Place) → Goes f k (renamed_change f) (p place) (q (renamed_place f place)))
      → Goes f k (renamed_change f) (walk (root, Some A_directory) names >>= p) (walk (f root, Some A_directory) names >>= q)
  walked root names p q rest = goes_on f r k (renamed_place f) (renamed_change f) (walk (root, Some A_directory) names) (walk (f root, Some A_directory) names) p q (walk_goes f r k (root, Some A_directory) names) rest

  at_last : (root : ℕ) (e : Errno) (names : List (List ℕ)) (p q : Last → Plan Change) → ((at : Last) → Goes f k (renamed_change f) (p at) (q (renamed_last f at)))
      → Goes f k (renamed_change f) (last_of root e names >>= p) (last_of (f root) e names >>= q)
  at_last root e names p q rest = goes_on f r k (renamed_last f) (renamed_change f) (last_of root e names) (last_of (f root) e names) p q (last_of_goes f r k root e names) rest

  by_path : (most : ℕ) (path : List ℕ) (p q : List (List ℕ) → Plan Change) → ((names : List (List ℕ)) → Goes f k (renamed_change f) (p names) (q names)) → Goes f k (renamed_change f) (parsed most path >>= p) (parsed most path >>= q)
  by_path most path p q rest = asked (renamed_change f) (parsed most path) (parsed most path) p q (goes_parsed f r k most path) rest

  where_found : (e : Errno) (o : Option Place) (p q : Place → Plan Change) → ((place : Place) → Goes f k (renamed_change f) (p place) (q (renamed_place f place)))
      → Goes f k (renamed_change f) (or_refuse e o >>= p) (or_refuse e (mapped (renamed_place f) o) >>= q)
  where_found e o p q rest = goes_on f r k (renamed_place f) (renamed_change f) (or_refuse e o) (or_refuse e (mapped (renamed_place f) o)) p q (goes_or f r k (renamed_place f) e o) rest

  -- a test of a place's kind
  of_kind : (test : Bool → Bool) (place : Place) (e : Errno) (m n : Plan Change) → Goes f k (renamed_change f) m n
      → Goes f k (renamed_change f) (refuse_if (test (is_directory place)) e >> m) (refuse_if (test (is_directory (renamed_place f place))) e >> n)
  of_kind test place e m n way = goes_unless f r k (renamed_change f) (test (is_directory place)) (test (is_directory (renamed_place f place))) (ap test (directory_still f place)) e m n way

  pub plan_goes : (own : Own) (call : Call) → Goes f k (renamed_change f) (plan own call) (plan (renamed_own f own) call)
  plan_goes own (Open path flags) =
      unless (not (is_reading flags || is_writing flags)) EINVAL _ _
      (unless (is_exclusive flags && not (is_creating flags)) EINVAL _ _
      (unless (is_truncating flags && not (is_writing flags)) EINVAL _ _
      (by_path own.bounds.path_bytes path _ _ (λ names.
      asked (renamed_change f) (first_of_free (free own)) (first_of_free (free (renamed_own f own))) _ _ (first_goes own) (λ fd.
      at_last own.root (if is_creating flags && is_exclusive flags then EEXIST else EISDIR) names _ _ (λ at. opened_goes own flags fd at at.found))))))
  plan_goes own (Close fd) = with_slot own fd _ _ (λ it. goes_changed Done (Clear_slot own.pid fd (pipe_in (Some it)) ∷ []) _ (ap (λ pipes. Clear_slot own.pid fd pipes ∷ []) (pipe_renamed f r (Some it))))
  plan_goes own (Read fd count) = with_slot own fd _ _ (λ it.
      unless (not it.reading) EBADF _ _ (goes_either f r k (renamed_change f) (count == 0) (count == 0) refl _ _ _ _ (goes_changed (Bytes []) [] [] refl) (read_goes it count)))
  plan_goes own (Pread fd count offset) = with_slot own fd _ _ (λ it.
      unless (not it.reading) EBADF _ _ (unless (is_pipe it.kind) ESPIPE _ _ (named_goes offset _ _ (λ at.
      goes_either f r k (renamed_change f) (count == 0) (count == 0) refl _ _ _ _ (goes_changed (Bytes []) [] [] refl) (read_from_goes it.inode at count)))))
  plan_goes own (Write fd bytes) = with_slot own fd _ _ (λ it.
      unless (not it.writing) EBADF _ _ (goes_either f r k (renamed_change f) (is_empty bytes) (is_empty bytes) refl _ _ _ _ (goes_changed (Count 0) [] [] refl) (write_goes own.bounds.file_bytes it bytes)))
  plan_goes own (Pwrite fd bytes offset) = with_slot own fd _ _ (λ it.
      unless (not it.writing) EBADF _ _ (unless (is_pipe it.kind) ESPIPE _ _ (named_goes offset _ _ (λ at.
      goes_either f r k (renamed_change f) (is_empty bytes) (is_empty bytes) refl _ _ _ _ (goes_changed (Count 0) [] [] refl) (write_from_goes own.bounds.file_bytes it.inode at bytes)))))
  plan_goes own (Lseek fd move whence) = with_slot own fd _ _ (λ it.
      unless (is_pipe it.kind) ESPIPE _ _ (asked (renamed_change f) (aimed it move whence) (aimed (renamed_slot f it) move whence) _ _ (aimed_goes it move whence) (λ sum. sought_goes own.bounds.file_bytes it sum)))
  plan_goes own (Fallocate fd offset len space) = with_slot own fd _ _ (λ it. named_goes offset _ _ (λ at. long_goes len _ _ (λ count.
      unless (not it.writing) EBADF _ _ (unless (is_pipe it.kind) ESPIPE _ _ (unless (nat_lt own.bounds.file_bytes (at + count)) EFBIG _ _ (spaced_goes it.inode at count space))))))
  plan_goes own (Ftruncate fd len) = with_slot own fd _ _ (λ it.
      unless (not it.writing) EBADF _ _ (unless (is_pipe it.kind) EINVAL _ _ (unless (nat_lt own.bounds.file_bytes len) EFBIG _ _
      (goes_on f r k (map (renamed_edit f)) (renamed_change f) (cut_to it.inode len) (cut_to (f it.inode) len) (λ cut. changed Done cut) (λ cut. changed Done cut) (cut_goes it.inode len) (λ cut. goes_changed Done cut (map (renamed_edit f) cut) refl)))))
  plan_goes own (Truncate path len) = by_path own.bounds.path_bytes path _ _ (λ names. walked own.root names _ _ (λ place.
      of_kind (λ b. b) place EISDIR _ _ (unless_link place _ _ (unless_special place EINVAL _ _ (unless (nat_lt own.bounds.file_bytes len) EFBIG _ _
      (goes_on f r k (map (renamed_edit f)) (renamed_change f) (cut_to place.0 len) (cut_to (f place.0) len) (λ cut. changed Done cut) (λ cut. changed Done cut) (cut_goes place.0 len) (λ cut. goes_changed Done cut (map (renamed_edit f) cut) refl)))))))
  plan_goes own (Stat path) = by_path own.bounds.path_bytes path _ _ (λ names. walked own.root names _ _ (λ place. unless_link place _ _ (status_goes place.0 place.1)))
  plan_goes own (Fstat fd) = with_slot own fd _ _ (λ it. status_goes it.inode it.kind)
  plan_goes own (Link old path) = by_path own.bounds.path_bytes old _ _ (λ from. by_path own.bounds.path_bytes path _ _ (λ to. walked own.root from _ _ (λ what.
      of_kind (λ b. b) what EPERM _ _ (at_last own.root EEXIST to _ _ (λ at. if_absent at.found _ _ (goes_changed Done (Name_file at.parent at.name what.0 ∷ []) _ refl))))))
  plan_goes own (Unlink path) = by_path own.bounds.path_bytes path _ _ (λ names. at_last own.root EPERM names _ _ (λ at. where_found ENOENT at.found _ _ (λ what.
      of_kind (λ b. b) what EPERM _ _ (goes_changed Done (Unname_file at.parent at.name what.0 ∷ []) _ refl))))
  plan_goes own (Rename old path) = by_path own.bounds.path_bytes old _ _ (λ from. by_path own.bounds.path_bytes path _ _ (λ to.
      unless (is_empty from || is_empty to) EBUSY _ _ (at_last own.root EBUSY from _ _ (λ at. where_found ENOENT at.found _ _ (λ what.
      of_kind (λ b. b && is_below from to) what EINVAL _ _ (at_last own.root EBUSY to _ _ (λ onto. moved_goes at what onto onto.found)))))))
  plan_goes own (Exchange old path) = by_path own.bounds.path_bytes old _ _ (λ from. by_path own.bounds.path_bytes path _ _ (λ to.
      unless (is_empty from || is_empty to) EBUSY _ _ (at_last own.root EBUSY from _ _ (λ at. at_last own.root EBUSY to _ _ (λ onto. where_found ENOENT at.found _ _ (λ what. where_found ENOENT onto.found _ _ (λ other.
      of_kind (λ b. b && is_below from to) what EINVAL _ _ (of_kind (λ b. b && is_below to from) other EINVAL _ _ (swapped_goes at what onto other)))))))))
  plan_goes own (Mkdir path) = by_path own.bounds.path_bytes path _ _ (λ names. at_last own.root EEXIST names _ _ (λ at. if_absent at.found _ _ (goes_changed Done (Make_directory at.parent at.name 0 ∷ []) _ refl)))
  plan_goes own (Rmdir path) = by_path own.bounds.path_bytes path _ _ (λ names. at_last own.root EBUSY names _ _ (λ at. where_found ENOENT at.found _ _ (λ what.
      of_kind not what ENOTDIR _ _ (asked (renamed_change f) (ask (List_names what.0)) (ask (List_names (f what.0))) _ _ (goes_ask f r k (List_names what.0)) (λ entries.
      unless (not (is_empty entries)) ENOTEMPTY _ _ (goes_changed Done (Unname_directory at.parent at.name what.0 ∷ []) _ refl))))))
  plan_goes own (List_directory path) = by_path own.bounds.path_bytes path _ _ (λ names. walked own.root names _ _ (λ place.
      unless_link place _ _ (of_kind not place ENOTDIR _ _ (asked (renamed_change f) (ask (List_names place.0)) (ask (List_names (f place.0))) _ _ (goes_ask f r k (List_names place.0)) (λ entries. goes_changed (Listing entries) [] [] refl)))))
  plan_goes own (Symlink target path) =
      unless (is_empty target) ENOENT _ _ (unless (nat_lt target_limit (length target)) ENAMETOOLONG _ _ (unless (list_any (λ b. b == 0) target) EINVAL _ _
      (by_path own.bounds.path_bytes path _ _ (λ names. at_last own.root EEXIST names _ _ (λ at. if_absent at.found _ _ (goes_changed Done (Make_fixed at.parent at.name (Link_to target) 0 ∷ []) _ refl))))))
  plan_goes own (Readlink path) = by_path own.bounds.path_bytes path _ _ (λ names. walked own.root names _ _ (λ place.
      goes_unless f r k (renamed_change f) (not (is_link place)) (not (is_link (renamed_place f place))) (ap not (link_still f place)) EINVAL _ _
      (asked (renamed_change f) (ask (Read_target place.0)) (ask (Read_target (f place.0))) _ _ (goes_ask f r k (Read_target place.0)) (λ target. goes_changed (Bytes target) [] [] refl))))
  plan_goes own (Lstat path) = by_path own.bounds.path_bytes path _ _ (λ names. walked own.root names _ _ (λ place. status_goes place.0 place.1))
  plan_goes own (Mknod path special) = by_path own.bounds.path_bytes path _ _ (λ names. at_last own.root EEXIST names _ _ (λ at. if_absent at.found _ _ (goes_changed Done (Make_fixed at.parent at.name (special_object special) 0 ∷ []) _ refl)))
  plan_goes own (Chmod path permissions) = by_path own.bounds.path_bytes path _ _ (λ names. walked own.root names _ _ (λ place. unless_link place _ _ (revised_goes place.0 (permitted permissions))))
  plan_goes own (Chown path owner) = by_path own.bounds.path_bytes path _ _ (λ names. walked own.root names _ _ (λ place. revised_goes place.0 (owned place.1 owner)))
  plan_goes own (Fchmod fd permissions) = with_slot own fd _ _ (λ it. revised_goes it.inode (permitted permissions))
  plan_goes own (Fchown fd owner) = with_slot own fd _ _ (λ it. revised_goes it.inode (owned it.kind owner))
  plan_goes own (Dup fd) = with_slot own fd _ _ (λ it. subst (λ fds. Goes f k (renamed_change f) (duplicated own it (free own)) (duplicated (renamed_own f own) (renamed_slot f it) fds)) (sym (free_still f r own)) (duplicated_goes own it (free own)))
  plan_goes own (Dup2 fd other) = with_slot own fd _ _ (λ it.
      unless (nat_le (open_limit own) other) EBADF _ _ (goes_either f r k (renamed_change f) (fd == other) (fd == other) refl _ _ _ _ (goes_changed (Descriptor fd) [] [] refl)
      (goes_changed (Descriptor other) (Share_slot own.pid other it.description (pipe_in (Some it) ++ pipe_in (slot_at own other)) ∷ []) _
      (ap (λ pipes. Share_slot own.pid other (f it.description) pipes ∷ [])
      (ap₂ (λ (xs : List ℕ) (ys : List ℕ). xs ++ ys) (pipe_renamed f r (Some it)) (ap pipe_in (slot_found f r own other) ∙ pipe_renamed f r (slot_at own other)) ∙ sym (map-append f (pipe_in (Some it)) (pipe_in (slot_at own other))))))))
  plan_goes own Open_pipe = subst (λ fds. Goes f k (renamed_change f) (piped own (free own)) (piped (renamed_own f own) fds)) (sym (free_still f r own)) (piped_goes own (free own))
  plan_goes own Fork = forked_goes own own.birth
  plan_goes own Exit = goes_changed Done (End_process own.pid (pipes_in own) ∷ []) _ (ap (λ pipes. End_process own.pid pipes ∷ []) (pipes_renamed f r own))
