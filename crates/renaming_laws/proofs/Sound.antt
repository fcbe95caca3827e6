-- The edits of a call speak of new numbers that are chosen, and share descriptions that are there.
use Rattle.std.proofs.Common.{◌≢◌, ℕ, ◌+◌, ◌-◌, Bool, true, false, cond, not, ◌&&◌, ◌||◌, nat_lt, nat_le, ◌==◌, if◌then◌else◌, ℤ, pos, negsuc, List, [], ◌∷◌, ◌++◌, map, length, min, Option, Some, None, Result, Ok, Err, IfOk, sum_by, arith}
use Rattle.std.specs.Prelude.{⊤}
use Rattle.std.specs.List.{AllByRecursion, list_any}
use Rattle.std.specs.Map.{lookup}
use Rattle.std.specs.Cmp.{nat_cmp_total}
use Rattle.ids.specs.Flags.{is_reading, is_writing, is_creating, is_exclusive, is_truncating}
use Rattle.model.specs.FiniteMap.{get, entries}
use Rattle.model.specs.State.{A_file, A_directory, A_pipe, A_link, A_fifo, A_socket, Kernel, Description}
use Rattle.model.specs.Plan.{Errno, EAGAIN, EBADF, EBUSY, EEXIST, EFBIG, EINVAL, EISDIR, ELOOP, ENXIO, ENAMETOOLONG, ENOENT, ENOTDIR, ENOTEMPTY, EPERM, EPIPE, ESPIPE, List_names, Measure, Read_pipe, Count_ends, Find_offset, Read_file, Fit, Read_target, Plan, Give, given, ◌>>=◌, ◌>>◌, refuse_if, or_refuse, answer}
use Rattle.model.specs.Paths.{is_empty, is_below}
use Rattle.model.specs.Walks.{parsed, walk, Last, last_of, Place, is_directory, is_link}
use Rattle.model.specs.Changes.{There, Edit, Wipe, Cut, Open_inode, Set_offset, Share_slot, news, process_of}
use Rattle.model.specs.Calls.{OpenFlags, Call, Open, Close, Read, Pread, Write, Pwrite, Lseek, Ftruncate, Truncate, Stat, Fstat, Link, Unlink, Rename, Exchange, Fallocate, Space, Grow, Keep, Punch, Mkdir, Rmdir, List_directory, Symlink, Readlink, Lstat, Mknod, Chmod, Chown, Fchmod, Fchown, Dup, Dup2, Open_pipe, Fork, Exit, Answer, Done, Descriptor, Count, Bytes, Listing, Slot, Own, slot_of, own}
use Rattle.model.specs.Plans.{Change, changed, free, first_of_free, slot, is_pipe, status, is_special, target_limit, mode, cut_to, opened, read_pipe, read_some, place_to_write, write_some, offset_named, sought, length_named, aimed, spaced, moved, replaced_by_name, absent, duplicated, piped, forked, most_moved, whole_write, most_processes, open_limit}
use Rattle.model.specs.Steps.{outcome, edits_of}
use Rattle.model.proofs.Laws.{all_entries}
use Rattle.call_laws.proofs.Laws.{after_bind, allowed, either_given, weaken, whatever}
use Rattle.renaming_laws.specs.Laws.{SlotsAreThere, HasNumbers}

abbrev pub SharesThere : Kernel → Edit → Type 0
SharesThere k (Share_slot pid fd d pipes) = get k.descriptions d ≢ None
SharesThere k _ = ⊤

pub record IsSound (k : Kernel) (c : Change) : Type 0 where
  pub numbers : AllByRecursion (HasNumbers (sum_by news c.edits)) c.edits
  pub shares : AllByRecursion (SharesThere k) c.edits

abbrev Held : Kernel → Slot → Type 0
Held k it = get k.descriptions it.description ≢ None

module _ (k : Kernel) where
  -- what a descriptor gives is there
  held : (d : ℕ) (o : Option Description) → get k.descriptions d ≢ None → Held k (slot_of k d o)
  held d None there = there
  held d (Some it) there = there

  all_held : (es : List (ℕ × ℕ)) → AllByRecursion (λ (e : ℕ × ℕ). get k.descriptions e.1 ≢ None) es → AllByRecursion (λ (e : ℕ × Slot). Held k e.1) (map (λ (e : ℕ × ℕ). (e.0, slot_of k e.1 (get k.descriptions e.1))) es)
  all_held [] there = tt
  all_held (e ∷ es) there = (held e.1 (get k.descriptions e.1) there.0, all_held es there.1)

  pub found_all : (P : Slot → Type 0) (fd : ℕ) (table : List (ℕ × Slot)) → AllByRecursion (λ (e : ℕ × Slot). P e.1) table → IfOk (given k (or_refuse EBADF (lookup (λ g. g == fd) table))) P
  found_all P fd [] there = tt
  found_all P fd (e ∷ table) there = by_test (e.0 == fd) (found_all P fd table there.1)
    where
      by_test : (b : Bool) → IfOk (given k (or_refuse EBADF (lookup (λ g. g == fd) table))) P → IfOk (given k (or_refuse EBADF (cond b (Some e.1) (lookup (λ g. g == fd) table)))) P
      by_test true rest = there.0
      by_test false rest = rest

  slot_held : SlotsAreThere k → (pid fd : ℕ) (call : Call) → IfOk (given k (slot (own k pid call) fd)) (Held k)
  slot_held slots pid fd call = found_all (Held k) fd (own k pid call).table (all_held (entries (process_of k pid).table) (all_entries nat_cmp_total (λ fd d. get k.descriptions d ≢ None) (process_of k pid).table (λ fd d. slots.there pid fd d)))

  -- what comes after a part of a plan, whatever that gives
  then_whatever : {A : Type 0} (m : Plan A) (p : A → Plan Change) → ((x : A) → IfOk (given k (p x)) (IsSound k)) → IfOk (given k (m >>= p)) (IsSound k)
  then_whatever m p h = after_bind k (IsSound k) m p (whatever (given k m) h)

  unless : (b : Bool) (e : Errno) (m : Plan Change) → IfOk (given k m) (IsSound k) → IfOk (given k (refuse_if b e >> m)) (IsSound k)
  unless b e m h = allowed k (IsSound k) b e m (λ _. h)

  either : (b : Bool) (m n : Plan Change) → IfOk (given k m) (IsSound k) → IfOk (given k n) (IsSound k) → IfOk (given k (if b then m else n)) (IsSound k)
  either b m n h g = either_given k (IsSound k) b m n (λ _. h) (λ _. g)

  with_slot : SlotsAreThere k → (pid fd : ℕ) (call : Call) (p : Slot → Plan Change) → ((it : Slot) → Held k it → IfOk (given k (p it)) (IsSound k)) → IfOk (given k (slot (own k pid call) fd >>= p)) (IsSound k)
  with_slot slots pid fd call p h = after_bind k (IsSound k) (slot (own k pid call) fd) p (weaken (given k (slot (own k pid call) fd)) (slot_held slots pid fd call) h)

  -- an answer alone
  unchanged_sound : (reply : Answer) → IsSound k (record { reply = reply; edits = [] })
  unchanged_sound reply = record { numbers = tt; shares = tt }

  status_sound : (place : Place) → IfOk (given k (status place)) (IsSound k)
  status_sound (n, None) = tt
  status_sound (n, Some A_file) = unchanged_sound _
  status_sound (n, Some A_directory) = unchanged_sound _
  status_sound (n, Some A_pipe) = unchanged_sound _
  status_sound (n, Some A_link) = unchanged_sound _
  status_sound (n, Some A_fifo) = unchanged_sound _
  status_sound (n, Some A_socket) = unchanged_sound _

  open_sound : (own : Own) (flags : OpenFlags) (fd : ℕ) (at : Last) (found : Option Place) → IfOk (given k (opened own flags fd at found)) (IsSound k)
  open_sound own flags fd at None = unless (not (is_creating flags)) ENOENT _ (record { numbers = (omega arith, ((omega arith, omega arith), tt)); shares = (tt, (tt, tt)) })
  open_sound own flags fd at (Some place) = unless (is_creating flags && is_exclusive flags) EEXIST _ (unless (is_directory place) EISDIR _ (unless (is_link place) ELOOP _ (unless (is_special place) ENXIO _ (by_test (is_truncating flags)))))
    where
      by_test : (b : Bool) → IfOk (given k ((if b then cut_to place.0 0 else Give []) >>= (λ cut. changed (Descriptor fd) (cut ++ Open_inode 0 (There place.0) (mode flags) own.pid fd ∷ [])))) (IsSound k)
      by_test true = record { numbers = (tt, ((omega arith, tt), tt)); shares = (tt, (tt, tt)) }
      by_test false = record { numbers = ((omega arith, tt), tt); shares = (tt, tt) }

  read_pipe_sound : (p : ℕ) (bytes : List ℕ) → IfOk (given k (read_pipe p bytes)) (IsSound k)
  read_pipe_sound p [] = unless (nat_lt 0 (answer k (Count_ends p)).1) EAGAIN _ (unchanged_sound (Bytes []))
  read_pipe_sound p (b ∷ bytes) = record { numbers = (tt, tt); shares = (tt, tt) }

  offset_sound : (reply : Answer) (d place : ℕ) (b : Bool) → IsSound k (record { reply = reply; edits = if b then [] else Set_offset d place ∷ [] })
  offset_sound reply d place true = record { numbers = tt; shares = tt }
  offset_sound reply d place false = record { numbers = (tt, tt); shares = (tt, tt) }

  read_sound : (it : Slot) (count : ℕ) → IfOk (given k (read_some it count)) (IsSound k)
  read_sound it count = either (is_pipe it.kind) _ _
      (read_pipe_sound it.inode (answer k (Read_pipe it.inode count)))
      (let offset : ℕ = answer k (Find_offset it.description) in
      let bytes : List ℕ = answer k (Read_file it.inode offset (min count most_moved)) in
      offset_sound (Bytes bytes) it.description (offset + length bytes) (is_empty bytes))

  write_sound : (largest : ℕ) (it : Slot) (bytes : List ℕ) → IfOk (given k (write_some largest it bytes)) (IsSound k)
  write_sound largest it bytes = either (is_pipe it.kind) _ _
      (let fitting : ℕ = answer k (Fit it.inode (length bytes)) in
      unless ((answer k (Count_ends it.inode)).0 == 0) EPIPE _ (unless (nat_lt fitting (length bytes) && nat_le (length bytes) whole_write) EAGAIN _ (unless (fitting == 0) EAGAIN _ (record { numbers = (tt, tt); shares = (tt, tt) }))))
      (then_whatever (place_to_write it it.appending) _ (λ place. unless (nat_le largest place) EFBIG _ (record { numbers = (tt, (tt, tt)); shares = (tt, (tt, tt)) })))

  sought_sound : (largest : ℕ) (it : Slot) (z : ℤ) → IfOk (given k (sought largest it z)) (IsSound k)
  sought_sound largest it (pos place) = unless (nat_lt largest place) EINVAL _ (record { numbers = (tt, tt); shares = (tt, tt) })
  sought_sound largest it (negsuc place) = tt

  moved_sound : (from : Last) (what : Place) (to : Last) (o : Option Place) → IfOk (given k (moved from what to o)) (IsSound k)
  moved_sound from what to None = record { numbers = (tt, tt); shares = (tt, tt) }
  moved_sound from what to (Some old) = either (what.0 == old.0) _ _ (unchanged_sound Done)
      (unless (not (is_directory what) && is_directory old) EISDIR _ (unless (is_directory what && not (is_directory old)) ENOTDIR _
      (then_whatever (replaced_by_name old.0 (is_directory old)) _ (λ replaced. record { numbers = (tt, tt); shares = (tt, tt) }))))

  -- an edit that there may be
  edit_sound : (b : Bool) (e : Edit) → ((count : ℕ) → HasNumbers count e) → SharesThere k e → IsSound k (record { reply = Done; edits = if b then e ∷ [] else [] })
  edit_sound true e h g = record { numbers = (h _, tt); shares = (g, tt) }
  edit_sound false e h g = unchanged_sound Done

  -- a range of a file
  spaced_sound : (n at count : ℕ) (space : Space) → IfOk (given k (spaced n at count space)) (IsSound k)
  spaced_sound n at count Grow = edit_sound (nat_lt (answer k (Measure n)) (at + count)) (Cut n (answer k (Measure n)) (at + count)) (λ _. tt) tt
  spaced_sound n at count Keep = unchanged_sound Done
  spaced_sound n at count Punch = edit_sound (nat_lt at (answer k (Measure n))) (Wipe n at (min count (answer k (Measure n) - at))) (λ _. tt) tt

  duplicated_sound : (own : Own) (it : Slot) → Held k it → (fds : List ℕ) → IfOk (given k (duplicated own it fds)) (IsSound k)
  duplicated_sound own it there [] = tt
  duplicated_sound own it there (fd ∷ fds) = record { numbers = (tt, tt); shares = (there, tt) }

  piped_sound : (own : Own) (fds : List ℕ) → IfOk (given k (piped own fds)) (IsSound k)
  piped_sound own [] = tt
  piped_sound own (fd ∷ []) = tt
  piped_sound own (fd ∷ other ∷ fds) = record { numbers = (omega arith, tt); shares = (tt, tt) }

  forked_sound : (own : Own) (birth : Option (ℕ × ℕ)) → IfOk (given k (forked own birth)) (IsSound k)
  forked_sound own (Some (made, priority)) = unless (nat_le most_processes made) EAGAIN _ (record { numbers = (tt, tt); shares = (tt, tt) })
  forked_sound own None = tt

  pub call_sound : SlotsAreThere k → (pid : ℕ) (call : Call) → IfOk (outcome k pid call) (IsSound k)
  call_sound slots pid (Open path flags) =
      unless (not (is_reading flags || is_writing flags)) EINVAL _ (unless (is_exclusive flags && not (is_creating flags)) EINVAL _ (unless (is_truncating flags && not (is_writing flags)) EINVAL _
      (then_whatever (parsed k.bounds.path_bytes path) _ (λ names. then_whatever (first_of_free (free (own k pid (Open path flags)))) _ (λ fd.
      then_whatever (last_of k.root (if is_creating flags && is_exclusive flags then EEXIST else EISDIR) names) _ (λ at. open_sound (own k pid (Open path flags)) flags fd at at.found))))))
  call_sound slots pid (Close fd) = with_slot slots pid fd (Close fd) _ (λ it there. record { numbers = (tt, tt); shares = (tt, tt) })
  call_sound slots pid (Read fd count) = with_slot slots pid fd (Read fd count) _ (λ it there. unless (not it.reading) EBADF _ (either (count == 0) _ _ (unchanged_sound (Bytes [])) (read_sound it count)))
  call_sound slots pid (Pread fd count offset) = with_slot slots pid fd (Pread fd count offset) _ (λ it there. unless (not it.reading) EBADF _ (unless (is_pipe it.kind) ESPIPE _ (then_whatever (or_refuse EINVAL (offset_named offset)) _ (λ at.
      either (count == 0) _ _ (unchanged_sound (Bytes [])) (unchanged_sound (Bytes (answer k (Read_file it.inode at (min count most_moved)))))))))
  call_sound slots pid (Write fd bytes) = with_slot slots pid fd (Write fd bytes) _ (λ it there. unless (not it.writing) EBADF _ (either (is_empty bytes) _ _ (unchanged_sound (Count 0)) (write_sound k.bounds.file_bytes it bytes)))
  call_sound slots pid (Pwrite fd bytes offset) = with_slot slots pid fd (Pwrite fd bytes offset) _ (λ it there. unless (not it.writing) EBADF _ (unless (is_pipe it.kind) ESPIPE _ (then_whatever (or_refuse EINVAL (offset_named offset)) _ (λ at.
      either (is_empty bytes) _ _ (unchanged_sound (Count 0)) (unless (nat_le k.bounds.file_bytes at) EFBIG _ (record { numbers = (tt, tt); shares = (tt, tt) }))))))
  call_sound slots pid (Lseek fd move whence) = with_slot slots pid fd (Lseek fd move whence) _ (λ it there. unless (is_pipe it.kind) ESPIPE _ (then_whatever (aimed it move whence) _ (λ sum. sought_sound k.bounds.file_bytes it sum)))
  call_sound slots pid (Fallocate fd offset len space) = with_slot slots pid fd (Fallocate fd offset len space) _ (λ it there. then_whatever (or_refuse EINVAL (offset_named offset)) _ (λ at. then_whatever (or_refuse EINVAL (length_named len)) _ (λ count.
      unless (not it.writing) EBADF _ (unless (is_pipe it.kind) ESPIPE _ (unless (nat_lt k.bounds.file_bytes (at + count)) EFBIG _ (spaced_sound it.inode at count space))))))
  call_sound slots pid (Ftruncate fd len) = with_slot slots pid fd (Ftruncate fd len) _ (λ it there.
      unless (not it.writing) EBADF _ (unless (is_pipe it.kind) EINVAL _ (unless (nat_lt k.bounds.file_bytes len) EFBIG _ (record { numbers = (tt, tt); shares = (tt, tt) }))))
  call_sound slots pid (Truncate path len) = then_whatever (parsed k.bounds.path_bytes path) _ (λ names. then_whatever (walk (k.root, Some A_directory) names) _ (λ place.
      unless (is_directory place) EISDIR _ (unless (is_link place) ELOOP _ (unless (is_special place) EINVAL _ (unless (nat_lt k.bounds.file_bytes len) EFBIG _ (record { numbers = (tt, tt); shares = (tt, tt) }))))))
  call_sound slots pid (Stat path) = then_whatever (parsed k.bounds.path_bytes path) _ (λ names. then_whatever (walk (k.root, Some A_directory) names) _ (λ place. unless (is_link place) ELOOP _ (status_sound place)))
  call_sound slots pid (Fstat fd) = with_slot slots pid fd (Fstat fd) _ (λ it there. status_sound (it.inode, it.kind))
  call_sound slots pid (Link old path) = then_whatever (parsed k.bounds.path_bytes old) _ (λ from. then_whatever (parsed k.bounds.path_bytes path) _ (λ to. then_whatever (walk (k.root, Some A_directory) from) _ (λ what.
      unless (is_directory what) EPERM _ (then_whatever (last_of k.root EEXIST to) _ (λ at. then_whatever (absent at.found) _ (λ _. record { numbers = (tt, tt); shares = (tt, tt) }))))))
  call_sound slots pid (Unlink path) = then_whatever (parsed k.bounds.path_bytes path) _ (λ names. then_whatever (last_of k.root EPERM names) _ (λ at. then_whatever (or_refuse ENOENT at.found) _ (λ what.
      unless (is_directory what) EPERM _ (record { numbers = (tt, tt); shares = (tt, tt) }))))
  call_sound slots pid (Rename old path) = then_whatever (parsed k.bounds.path_bytes old) _ (λ from. then_whatever (parsed k.bounds.path_bytes path) _ (λ to. unless (is_empty from || is_empty to) EBUSY _
      (then_whatever (last_of k.root EBUSY from) _ (λ at. then_whatever (or_refuse ENOENT at.found) _ (λ what. unless (is_directory what && is_below from to) EINVAL _
      (then_whatever (last_of k.root EBUSY to) _ (λ onto. moved_sound at what onto onto.found)))))))
  call_sound slots pid (Exchange old path) = then_whatever (parsed k.bounds.path_bytes old) _ (λ from. then_whatever (parsed k.bounds.path_bytes path) _ (λ to. unless (is_empty from || is_empty to) EBUSY _
      (then_whatever (last_of k.root EBUSY from) _ (λ at. then_whatever (last_of k.root EBUSY to) _ (λ onto. then_whatever (or_refuse ENOENT at.found) _ (λ what. then_whatever (or_refuse ENOENT onto.found) _ (λ other.
      unless (is_directory what && is_below from to) EINVAL _ (unless (is_directory other && is_below to from) EINVAL _ (either (what.0 == other.0) _ _ (unchanged_sound Done) (record { numbers = (tt, tt); shares = (tt, tt) }))))))))))
  call_sound slots pid (Mkdir path) = then_whatever (parsed k.bounds.path_bytes path) _ (λ names. then_whatever (last_of k.root EEXIST names) _ (λ at. then_whatever (absent at.found) _ (λ _. record { numbers = (omega arith, tt); shares = (tt, tt) })))
  call_sound slots pid (Rmdir path) = then_whatever (parsed k.bounds.path_bytes path) _ (λ names. then_whatever (last_of k.root EBUSY names) _ (λ at. then_whatever (or_refuse ENOENT at.found) _ (λ what.
      unless (not (is_directory what)) ENOTDIR _ (unless (not (is_empty (answer k (List_names what.0)))) ENOTEMPTY _ (record { numbers = (tt, tt); shares = (tt, tt) })))))
  call_sound slots pid (List_directory path) = then_whatever (parsed k.bounds.path_bytes path) _ (λ names. then_whatever (walk (k.root, Some A_directory) names) _ (λ place.
      unless (is_link place) ELOOP _ (unless (not (is_directory place)) ENOTDIR _ (unchanged_sound (Listing (answer k (List_names place.0)))))))
  call_sound slots pid (Symlink target path) =
      unless (is_empty target) ENOENT _ (unless (nat_lt target_limit (length target)) ENAMETOOLONG _ (unless (list_any (λ b. b == 0) target) EINVAL _
      (then_whatever (parsed k.bounds.path_bytes path) _ (λ names. then_whatever (last_of k.root EEXIST names) _ (λ at. then_whatever (absent at.found) _ (λ _. record { numbers = (omega arith, tt); shares = (tt, tt) }))))))
  call_sound slots pid (Readlink path) = then_whatever (parsed k.bounds.path_bytes path) _ (λ names. then_whatever (walk (k.root, Some A_directory) names) _ (λ place.
      unless (not (is_link place)) EINVAL _ (unchanged_sound (Bytes (answer k (Read_target place.0))))))
  call_sound slots pid (Lstat path) = then_whatever (parsed k.bounds.path_bytes path) _ (λ names. then_whatever (walk (k.root, Some A_directory) names) _ (λ place. status_sound place))
  call_sound slots pid (Mknod path special) = then_whatever (parsed k.bounds.path_bytes path) _ (λ names. then_whatever (last_of k.root EEXIST names) _ (λ at. then_whatever (absent at.found) _ (λ _. record { numbers = (omega arith, tt); shares = (tt, tt) })))
  call_sound slots pid (Chmod path permissions) = then_whatever (parsed k.bounds.path_bytes path) _ (λ names. then_whatever (walk (k.root, Some A_directory) names) _ (λ place. unless (is_link place) ELOOP _ (record { numbers = (tt, tt); shares = (tt, tt) })))
  call_sound slots pid (Chown path owner) = then_whatever (parsed k.bounds.path_bytes path) _ (λ names. then_whatever (walk (k.root, Some A_directory) names) _ (λ place. record { numbers = (tt, tt); shares = (tt, tt) }))
  call_sound slots pid (Fchmod fd permissions) = then_whatever (slot (own k pid (Fchmod fd permissions)) fd) _ (λ it. record { numbers = (tt, tt); shares = (tt, tt) })
  call_sound slots pid (Fchown fd owner) = then_whatever (slot (own k pid (Fchown fd owner)) fd) _ (λ it. record { numbers = (tt, tt); shares = (tt, tt) })
  call_sound slots pid (Dup fd) = with_slot slots pid fd (Dup fd) _ (λ it there. duplicated_sound (own k pid (Dup fd)) it there (free (own k pid (Dup fd))))
  call_sound slots pid (Dup2 fd other) = with_slot slots pid fd (Dup2 fd other) _ (λ it there.
      unless (nat_le (open_limit (own k pid (Dup2 fd other))) other) EBADF _ (either (fd == other) _ _ (unchanged_sound (Descriptor fd)) (record { numbers = (tt, tt); shares = (there, tt) })))
  call_sound slots pid Open_pipe = piped_sound (own k pid Open_pipe) (free (own k pid Open_pipe))
  call_sound slots pid Fork = forked_sound (own k pid Fork) (own k pid Fork).birth
  call_sound slots pid Exit = record { numbers = (tt, tt); shares = (tt, tt) }

-- and so do those of a refused call, which are none
pub edits_sound : (k : Kernel) (o : Result Change Errno) → IfOk o (IsSound k) → IsSound k (record { reply = Done; edits = edits_of o })
edits_sound k (Ok c) h = record { numbers = h.numbers; shares = h.shares }
edits_sound k (Err e) h = record { numbers = tt; shares = tt }
