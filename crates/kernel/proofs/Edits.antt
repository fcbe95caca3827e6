-- What each call edits, in a well-formed state whose files the layers can hold.
use Rattle.std.proofs.Common.{◌≡◌, ℕ, zero, suc, ◌+◌, ◌-◌, ◌<◌, ◌≤◌, ◌⊎◌, ◌==◌, nat_le, nat_lt, not, Bool, true, false, if◌then◌else◌, List, [], ◌∷◌, map, length, take, min, Option, Some, None, Result, Ok, Err, IfOk, refl, sym, subst, arith, inl, inr, eqb-true}
use Rattle.std.specs.Prelude.{ℤ, pos, negsuc, ◌+ℤ◌, ◌++◌, ◌&&◌, ◌||◌}
use Rattle.std.proofs.Math.Nat.{min-le_left}
use Rattle.std.specs.List.{AllByRecursion, list_any}
use Rattle.std.specs.Map.{lookup}
use Rattle.std.specs.Cmp.{nat_cmp_total}
use Rattle.std.proofs.lemmas.Bool.{false≢true}
use Rattle.model.specs.FiniteMap.{entries, get}
use Rattle.model.specs.State.{A_file, A_directory, A_pipe, A_link, A_fifo, A_socket, Kernel}
use Rattle.model.specs.Limits.{largest_file}
use Rattle.model.specs.Plan.{Errno, Plan, Give, answer as answer_to, given, ◌>>=◌, ◌>>◌, ENOENT, ENOTDIR, ENOTEMPTY, EEXIST, EBUSY, EISDIR, EINVAL, EBADF, EFBIG, ELOOP, ENAMETOOLONG, ENXIO, EPERM, ESPIPE, EPIPE, EAGAIN, List_names, refuse_if, or_refuse}
use Rattle.model.specs.Entries.{is_inside}
use Rattle.kernel.specs.States.{CanChange}
use Rattle.model.specs.Calls.{Call, Dup, Dup2, Open, Close, Read, Pread, Write, Pwrite, Lseek, Ftruncate, Truncate, Stat, Fstat, Link, Unlink, Rename, Exchange, Fallocate, Space, Grow, Keep, Punch, Mkdir, Rmdir, List_directory, Symlink, Readlink, Lstat, Mknod, Chmod, Chown, Fchmod, Fchown, Open_pipe, Fork, Exit, Child, OpenFlags, Own, Slot, slot_of, own}
use Rattle.model.specs.Changes.{process_of, There, New_process}
use Rattle.model.specs.Paths.{is_empty, is_below}
use Rattle.model.specs.Walks.{Place, Last, parsed, walk, last_of, is_directory, is_link}
use Rattle.model.specs.Plans.{Change, duplicated, plan, status as told_status, absent, slot, free, free_from, first_of_free, is_pipe, is_special, opened, cut_to, read_some, write_some, offset_named, write_from, read_pipe, piped, pipes_in, whole_write, most_processes, place_to_write, length_named, aimed, spaced, swapped, sought, moved, replaced_by_name, room, most_moved, descriptor_limit, target_limit, open_limit}
use Rattle.model.specs.Steps.{edits, edits_of, reply, reply_of}
use Rattle.ids.specs.Flags.{is_reading, is_writing, is_creating, is_exclusive, is_truncating}
use Rattle.model.proofs.Laws.{all_entries}
use Rattle.call_laws.specs.WellFormed.{WellFormed, most_descriptors}
use Rattle.call_laws.proofs.Laws.{after_bind, allowed, either_given, weaken, whatever}
use Rattle.notes.specs.Steps.{CanEdit}

-- the edits of what a plan gives are those that are there
abbrev Edits : Change → Type 0
Edits change = CanEdit change.edits

-- whatever the first part of a plan gives
after : {A : Type 0} (k : Kernel) (m : Plan A) (f : A → Plan Change) → ((x : A) → IfOk (given k (f x)) Edits) → IfOk (given k (m >>= f)) Edits
after k m f h = after_bind k Edits m f (whatever (given k m) h)

unless : (k : Kernel) (refused : Bool) (e : Errno) (m : Plan Change) → IfOk (given k m) Edits → IfOk (given k (refuse_if refused e >> m)) Edits
unless k refused e m h = allowed k Edits refused e m (λ _. h)

tells : (k : Kernel) (place : Place) → IfOk (given k (told_status place)) Edits
tells k (n, Some A_file) = tt
tells k (n, Some A_directory) = tt
tells k (n, Some A_pipe) = tt
tells k (n, Some A_link) = tt
tells k (n, Some A_fifo) = tt
tells k (n, Some A_socket) = tt
tells k (n, None) = tt

abbrev slots_of : Kernel → List (ℕ × ℕ) → List (ℕ × Slot)
slots_of k es = map (λ e. (e.0, slot_of k e.1 (get k.descriptions e.1))) es

-- a descriptor that is open is below the limit
found : (k : Kernel) (f : ℕ) (es : List (ℕ × ℕ)) → AllByRecursion (λ e. e.0 < descriptor_limit) es → IfOk (given k (or_refuse EBADF (lookup (λ g. g == f) (slots_of k es)))) (λ it. f < descriptor_limit)
found k f [] low = tt
found k f (e ∷ es) low = by_test (e.0 == f) refl (found k f es low.1)
  where
    by_test : (b : Bool) → (e.0 == f) ≡ b → IfOk (given k (or_refuse EBADF (lookup (λ g. g == f) (slots_of k es)))) (λ it. f < descriptor_limit)
        → IfOk (given k (or_refuse EBADF (if b then Some (slot_of k e.1 (get k.descriptions e.1)) else lookup (λ g. g == f) (slots_of k es)))) (λ it. f < descriptor_limit)
    by_test true is rest = subst (λ n. n < descriptor_limit) (eqb-true e.0 f is) low.0
    by_test false is rest = rest

module _ (k : Kernel) (pid : ℕ) (well : WellFormed k) where
  opened_slot : (call : Call) (f : ℕ) → IfOk (given k (slot (own k pid call) f)) (λ it. f < descriptor_limit)
  opened_slot call f = found k f (entries (process_of k pid).table) (all_entries nat_cmp_total (λ g d. g < descriptor_limit) (process_of k pid).table (λ g d is. let low : g < most_descriptors k = well.low pid g d is in omega arith))

  -- of a call on an open descriptor
  on : (call : Call) (f : ℕ) (m : Slot → Plan Change) → ((it : Slot) → f < descriptor_limit → IfOk (given k (m it)) Edits) → IfOk (given k (slot (own k pid call) f >>= m)) Edits
  on call f m h = after_bind k Edits (slot (own k pid call) f) m (weaken (given k (slot (own k pid call) f)) (opened_slot call f) h)

-- free descriptors are below the limit
all_free : (table : List (ℕ × Slot)) (f more : ℕ) → AllByRecursion (λ g. g < f + more) (free_from table f more)
all_free table f zero = tt
all_free table f (suc more) = by_test (list_any (λ e. e.0 == f) table) (higher (free_from table (suc f) more) (all_free table (suc f) more))
  where
    higher : (gs : List ℕ) → AllByRecursion (λ g. g < suc f + more) gs → AllByRecursion (λ g. g < f + suc more) gs
    higher [] all = tt
    higher (g ∷ gs) all = ((let low : g < suc f + more = all.0 in omega arith), higher gs all.1)

    by_test : (b : Bool) → AllByRecursion (λ g. g < f + suc more) (free_from table (suc f) more) → AllByRecursion (λ g. g < f + suc more) (if b then free_from table (suc f) more else f ∷ free_from table (suc f) more)
    by_test true rest = rest
    by_test false rest = (omega arith, rest)

-- what is below a kernel's own number is below the greatest
below_limit : (o : Own) (fs : List ℕ) → AllByRecursion (λ g. g < 0 + open_limit o) fs → AllByRecursion (λ g. g < descriptor_limit) fs
below_limit o [] all = tt
below_limit o (f ∷ fs) all = ((let low : f < 0 + open_limit o = all.0 in omega arith), below_limit o fs all.1)

first_low : (k : Kernel) (fs : List ℕ) → AllByRecursion (λ g. g < descriptor_limit) fs → IfOk (given k (first_of_free fs)) (λ f. f < descriptor_limit)
first_low k [] all = tt
first_low k (f ∷ fs) all = all.0

open_edits : (k : Kernel) (o : Own) (flags : OpenFlags) (f : ℕ) → f < descriptor_limit → (at : Last) (there : Option Place) → IfOk (given k (opened o flags f at there)) Edits
open_edits k o flags f low at None = unless k (not (is_creating flags)) ENOENT _ (refl, refl, (refl, omega arith, low))
open_edits k o flags f low at (Some place) =
    unless k (is_creating flags && is_exclusive flags) EEXIST _ (unless k (is_directory place) EISDIR _ (
    unless k (is_link place) ELOOP _ (unless k (is_special place) ENXIO _ (
    either_given_bind (is_truncating flags)))))
  where
    either_given_bind : (b : Bool) → IfOk (given k ((if b then cut_to place.0 0 else Give []) >>= (λ es. Rattle.model.specs.Plans.changed (Rattle.model.specs.Calls.Descriptor f) (es ++ Rattle.model.specs.Changes.Open_inode 0 (There place.0) (Rattle.model.specs.Plans.mode flags) o.pid f ∷ [])))) Edits
    either_given_bind true = (omega arith, refl, (refl, tt, low))
    either_given_bind false = inr (refl, tt, low)

pipe_read_edits : (k : Kernel) (p : ℕ) (bytes : List ℕ) → IfOk (given k (read_pipe p bytes)) Edits
pipe_read_edits k p [] = unless k (nat_lt 0 (answer_to k (Rattle.model.specs.Plan.Count_ends p)).1) EAGAIN _ tt
pipe_read_edits k p (b ∷ bytes) = inl tt

read_edits : (k : Kernel) (it : Slot) (count : ℕ) → IfOk (given k (read_some it count)) Edits
read_edits k it count = either_given k Edits (is_pipe it.kind) _ _ (λ pipe. pipe_read_edits k it.inode (answer_to k (Rattle.model.specs.Plan.Read_pipe it.inode count))) (λ _. by_test (is_empty (answer_to k (Rattle.model.specs.Plan.Read_file it.inode (answer_to k (Rattle.model.specs.Plan.Find_offset it.description)) (min count most_moved)))) _ _)
  where
    by_test : (b : Bool) (d place : ℕ) → CanEdit (if b then [] else Rattle.model.specs.Changes.Set_offset d place ∷ [])
    by_test true d place = tt
    by_test false d place = inr tt

not_above : (a b : ℕ) → nat_le a b ≡ false → b < a
not_above a b e = search (arith, e)

not_below : (a b : ℕ) → nat_lt a b ≡ false → b ≤ a
not_below a b e = search (arith, e)

shared_edits : (k : Kernel) (o : Own) (it : Slot) (fs : List ℕ) → AllByRecursion (λ g. g < descriptor_limit) fs → IfOk (given k (duplicated o it fs)) Edits
shared_edits k o it [] low = tt
shared_edits k o it (f ∷ fs) low = inr low.0

-- what fits at a place ends at the largest file, and so where any file may end
room_ends : (largest place : ℕ) (bytes : List ℕ) → largest ≤ largest_file → place < largest → place + length (take (room largest place) bytes) ≤ largest_file
room_ends largest place bytes low below =
    let few : length (take (room largest place) bytes) ≤ room largest place = take_few (room largest place) bytes in
    let least : room largest place ≤ largest - place = min-le_left (largest - place) most_moved in
    omega arith
  where
    take_few : (n : ℕ) (xs : List ℕ) → length (take n xs) ≤ n
    take_few zero xs = omega arith
    take_few (suc n) [] = omega arith
    take_few (suc n) (x ∷ xs) = let rest : length (take n xs) ≤ n = take_few n xs in omega arith

write_edits : (k : Kernel) (largest : ℕ) → largest ≤ largest_file → (it : Slot) (bytes : List ℕ) → IfOk (given k (write_some largest it bytes)) Edits
write_edits k largest low it bytes = either_given k Edits (is_pipe it.kind) _ _ (λ pipe. unless k ((answer_to k (Rattle.model.specs.Plan.Count_ends it.inode)).0 == 0) EPIPE _ (
    let fitting = answer_to k (Rattle.model.specs.Plan.Fit it.inode (length bytes)) in
    unless k (nat_lt fitting (length bytes) && nat_le (length bytes) whole_write) EAGAIN _ (unless k (fitting == 0) EAGAIN _ (inl tt))))
    (λ _. after k (place_to_write it it.appending) _ (λ place. allowed k Edits (nat_le largest place) EFBIG _ (λ below. (room_ends largest place bytes low (not_above largest place below), refl, tt))))

put_edits : (k : Kernel) (largest : ℕ) → largest ≤ largest_file → (n offset : ℕ) (bytes : List ℕ) → IfOk (given k (write_from largest n offset bytes)) Edits
put_edits k largest low n offset bytes = allowed k Edits (nat_le largest offset) EFBIG _ (λ below. inl (room_ends largest offset bytes low (not_above largest offset below)))

space_edits : (k : Kernel) (n at count : ℕ) (space : Space) → at + count ≤ largest_file → IfOk (given k (spaced n at count space)) Edits
space_edits k n at count Grow low = by_test (nat_lt (answer_to k (Rattle.model.specs.Plan.Measure n)) (at + count))
  where
    by_test : (b : Bool) → CanEdit (if b then Rattle.model.specs.Changes.Cut n (answer_to k (Rattle.model.specs.Plan.Measure n)) (at + count) ∷ [] else [])
    by_test true = inl low
    by_test false = tt
space_edits k n at count Keep low = tt
space_edits k n at count Punch low = by_test (nat_lt at (answer_to k (Rattle.model.specs.Plan.Measure n)))
  where
    by_test : (b : Bool) → CanEdit (if b then Rattle.model.specs.Changes.Wipe n at (min count (answer_to k (Rattle.model.specs.Plan.Measure n) - at)) ∷ [] else [])
    by_test true = inl (omega arith)
    by_test false = tt

seek_edits : (k : Kernel) (largest : ℕ) (it : Slot) (place : ℤ) → IfOk (given k (sought largest it place)) Edits
seek_edits k largest it (pos place) = unless k (nat_lt largest place) EINVAL _ (inr tt)
seek_edits k largest it (negsuc place) = tt

move_edits : (k : Kernel) (from : Last) (what : Place) (to : Last) (there : Option Place) → IfOk (given k (moved from what to there)) Edits
move_edits k from what to None = inl tt
move_edits k from what to (Some old) = either_given k Edits (what.0 == old.0) _ _ (λ _. tt) (λ _.
    unless k (not (is_directory what) && is_directory old) EISDIR _ (unless k (is_directory what && not (is_directory old)) ENOTDIR _ (
    after k (replaced_by_name old.0 (is_directory old)) _ (λ replaced. inl tt))))

pair_edits : (k : Kernel) (o : Own) (fs : List ℕ) → AllByRecursion (λ g. g < descriptor_limit) fs → IfOk (given k (piped o fs)) Edits
pair_edits k o [] low = tt
pair_edits k o (f ∷ []) low = tt
pair_edits k o (f ∷ g ∷ fs) low = inl (refl, low.0, low.1.0)

module _ (k : Kernel) (pid : ℕ) (well : WellFormed k) (low : k.bounds.file_bytes ≤ largest_file) where
  planned : (call : Call) → is_inside call ≡ true → IfOk (given k (plan (own k pid call) call)) Edits
  planned (Open path flags) h =
      unless k (not (is_reading flags || is_writing flags)) EINVAL _ (unless k (is_exclusive flags && not (is_creating flags)) EINVAL _ (unless k (is_truncating flags && not (is_writing flags)) EINVAL _ (
      after k (parsed k.bounds.path_bytes path) _ (λ names. after_bind k Edits (first_of_free (free (own k pid (Open path flags)))) _ (weaken (given k (first_of_free (free (own k pid (Open path flags)))))
      (first_low k (free (own k pid (Open path flags))) (below_limit (own k pid (Open path flags)) (free (own k pid (Open path flags))) (all_free (own k pid (Open path flags)).table 0 (open_limit (own k pid (Open path flags))))))
      (λ f low. after k (last_of k.root (if is_creating flags && is_exclusive flags then EEXIST else EISDIR) names) _ (λ at. open_edits k (own k pid (Open path flags)) flags f low at at.found)))))))
  planned (Close f) h = on k pid well (Close f) f _ (λ it opened. inr opened)
  planned (Read f count) h = on k pid well (Read f count) f _ (λ it opened. unless k (not it.reading) EBADF _ (either_given k Edits (count == 0) _ _ (λ _. tt) (λ _. read_edits k it count)))
  planned (Pread f count offset) h = on k pid well (Pread f count offset) f _ (λ it opened. unless k (not it.reading) EBADF _ (unless k (is_pipe it.kind) ESPIPE _ (after k (or_refuse EINVAL (offset_named offset)) _ (λ at. either_given k Edits (count == 0) _ _ (λ _. tt) (λ _. tt)))))
  planned (Write f bytes) h = on k pid well (Write f bytes) f _ (λ it opened. unless k (not it.writing) EBADF _ (either_given k Edits (is_empty bytes) _ _ (λ _. tt) (λ _. write_edits k k.bounds.file_bytes low it bytes)))
  planned (Pwrite f bytes offset) h = on k pid well (Pwrite f bytes offset) f _ (λ it opened. unless k (not it.writing) EBADF _ (unless k (is_pipe it.kind) ESPIPE _ (after k (or_refuse EINVAL (offset_named offset)) _ (λ at. either_given k Edits (is_empty bytes) _ _ (λ _. tt) (λ _. put_edits k k.bounds.file_bytes low it.inode at bytes)))))
  planned (Lseek f move whence) h = on k pid well (Lseek f move whence) f _ (λ it opened. unless k (is_pipe it.kind) ESPIPE _ (after k (aimed it move whence) _ (λ sum. seek_edits k k.bounds.file_bytes it sum)))
  planned (Fallocate f offset len space) h = on k pid well (Fallocate f offset len space) f _ (λ it opened. after k (or_refuse EINVAL (offset_named offset)) _ (λ at. after k (or_refuse EINVAL (length_named len)) _ (λ count.
      unless k (not it.writing) EBADF _ (unless k (is_pipe it.kind) ESPIPE _ (allowed k Edits (nat_lt k.bounds.file_bytes (at + count)) EFBIG _ (λ fits. space_edits k it.inode at count space (let within : at + count ≤ k.bounds.file_bytes = not_below k.bounds.file_bytes (at + count) fits in omega arith)))))))
  planned (Ftruncate f len) h = on k pid well (Ftruncate f len) f _ (λ it opened. unless k (not it.writing) EBADF _ (unless k (is_pipe it.kind) EINVAL _ (allowed k Edits (nat_lt k.bounds.file_bytes len) EFBIG _ (λ fits. inl (let within : len ≤ k.bounds.file_bytes = not_below k.bounds.file_bytes len fits in omega arith)))))
  planned (Truncate path len) h = after k (parsed k.bounds.path_bytes path) _ (λ names. after k (walk (k.root, Some A_directory) names) _ (λ place. unless k (is_directory place) EISDIR _ (unless k (is_link place) ELOOP _ (unless k (is_special place) EINVAL _ (
      allowed k Edits (nat_lt k.bounds.file_bytes len) EFBIG _ (λ fits. inl (let within : len ≤ k.bounds.file_bytes = not_below k.bounds.file_bytes len fits in omega arith)))))))
  planned (Fstat f) h = on k pid well (Fstat f) f _ (λ it opened. tells k (it.inode, it.kind))
  planned (Stat path) h = after k (parsed k.bounds.path_bytes path) _ (λ names. after k (walk (k.root, Some A_directory) names) _ (λ place. unless k (is_link place) ELOOP _ (tells k place)))
  planned (Link old path) h =
      after k (parsed k.bounds.path_bytes old) _ (λ from. after k (parsed k.bounds.path_bytes path) _ (λ to. after k (walk (k.root, Some A_directory) from) _ (λ what. unless k (is_directory what) EPERM _ (
      after k (last_of k.root EEXIST to) _ (λ at. after k (absent at.found) _ (λ _. inl tt))))))
  planned (Unlink path) h =
      after k (parsed k.bounds.path_bytes path) _ (λ names. after k (last_of k.root EPERM names) _ (λ at. after k (or_refuse ENOENT at.found) _ (λ what. unless k (is_directory what) EPERM _ (inl tt))))
  planned (Rename old path) h =
      after k (parsed k.bounds.path_bytes old) _ (λ from. after k (parsed k.bounds.path_bytes path) _ (λ to. unless k (is_empty from || is_empty to) EBUSY _ (
      after k (last_of k.root EBUSY from) _ (λ at. after k (or_refuse ENOENT at.found) _ (λ what. unless k (is_directory what && is_below from to) EINVAL _ (
      after k (last_of k.root EBUSY to) _ (λ onto. move_edits k at what onto onto.found)))))))
  planned (Exchange old path) h =
      after k (parsed k.bounds.path_bytes old) _ (λ from. after k (parsed k.bounds.path_bytes path) _ (λ to. unless k (is_empty from || is_empty to) EBUSY _ (
      after k (last_of k.root EBUSY from) _ (λ at. after k (last_of k.root EBUSY to) _ (λ onto. after k (or_refuse ENOENT at.found) _ (λ what. after k (or_refuse ENOENT onto.found) _ (λ other.
      unless k (is_directory what && is_below from to) EINVAL _ (unless k (is_directory other && is_below to from) EINVAL _ (either_given k Edits (what.0 == other.0) _ _ (λ _. tt) (λ _. inl tt))))))))))
  planned (Mkdir path) h = after k (parsed k.bounds.path_bytes path) _ (λ names. after k (last_of k.root EEXIST names) _ (λ at. after k (absent at.found) _ (λ _. inl refl)))
  planned (Rmdir path) h =
      after k (parsed k.bounds.path_bytes path) _ (λ names. after k (last_of k.root EBUSY names) _ (λ at. after k (or_refuse ENOENT at.found) _ (λ what. unless k (not (is_directory what)) ENOTDIR _ (unless k (not (is_empty (answer_to k (List_names what.0)))) ENOTEMPTY _ (inl tt)))))
  planned (List_directory path) h = after k (parsed k.bounds.path_bytes path) _ (λ names. after k (walk (k.root, Some A_directory) names) _ (λ place. unless k (is_link place) ELOOP _ (unless k (not (is_directory place)) ENOTDIR _ tt)))
  planned (Symlink target path) h =
      unless k (is_empty target) ENOENT _ (unless k (nat_lt target_limit (length target)) ENAMETOOLONG _ (unless k (list_any (λ b. b == 0) target) EINVAL _ (
      after k (parsed k.bounds.path_bytes path) _ (λ names. after k (last_of k.root EEXIST names) _ (λ at. after k (absent at.found) _ (λ _. inl refl))))))
  planned (Readlink path) h = after k (parsed k.bounds.path_bytes path) _ (λ names. after k (walk (k.root, Some A_directory) names) _ (λ place. unless k (not (is_link place)) EINVAL _ tt))
  planned (Lstat path) h = after k (parsed k.bounds.path_bytes path) _ (λ names. after k (walk (k.root, Some A_directory) names) _ (tells k))
  planned (Mknod path special) h = after k (parsed k.bounds.path_bytes path) _ (λ names. after k (last_of k.root EEXIST names) _ (λ at. after k (absent at.found) _ (λ _. inl refl)))
  planned (Chmod path permissions) h = after k (parsed k.bounds.path_bytes path) _ (λ names. after k (walk (k.root, Some A_directory) names) _ (λ place. unless k (is_link place) ELOOP _ (inl tt)))
  planned (Chown path owner) h = after k (parsed k.bounds.path_bytes path) _ (λ names. after k (walk (k.root, Some A_directory) names) _ (λ place. inl tt))
  planned (Fchmod f permissions) h = on k pid well (Fchmod f permissions) f _ (λ it opened. inl tt)
  planned (Fchown f owner) h = on k pid well (Fchown f owner) f _ (λ it opened. inl tt)
  planned (Dup f) h = on k pid well (Dup f) f _ (λ it opened. shared_edits k (own k pid (Dup f)) it (free (own k pid (Dup f))) (below_limit (own k pid (Dup f)) (free (own k pid (Dup f))) (all_free (own k pid (Dup f)).table 0 (open_limit (own k pid (Dup f))))))
  planned (Dup2 f g) h = on k pid well (Dup2 f g) f _ (λ it opened. allowed k Edits (nat_le (open_limit (own k pid (Dup2 f g))) g) EBADF _ (λ low. either_given k Edits (f == g) _ _ (λ _. tt) (λ _. inr (let few : g < open_limit (own k pid (Dup2 f g)) = not_above (open_limit (own k pid (Dup2 f g))) g low in omega arith))))
  planned Open_pipe h = pair_edits k (own k pid Open_pipe) (free (own k pid Open_pipe)) (below_limit (own k pid Open_pipe) (free (own k pid Open_pipe)) (all_free (own k pid Open_pipe).table 0 (open_limit (own k pid Open_pipe))))
  planned call h = absurd (false≢true h)

  pub calls_edit : (call : Call) → is_inside call ≡ true → CanEdit (edits k pid call)
  calls_edit call h = by (given k (plan (own k pid call) call)) (planned call h) where
    by : (r : Result Change Errno) → IfOk r Edits → CanEdit (edits_of r)
    by (Ok change) is = is
    by (Err e) is = tt

-- what a fork comes to that is refused, or is not
abbrev forked_if : Kernel → ℕ → Bool → Result Change Errno
forked_if k pid refused = given k (refuse_if refused EAGAIN >> Rattle.model.specs.Plans.changed (Child (suc k.made)) (New_process (suc k.made) pid (pipes_in (own k pid Fork)) ∷ []))

-- a fork is refused where as many processes were made as can be, and else makes a child
pub fork_comes : (k : Kernel) (pid : ℕ) → ((reply k pid Fork ≡ Err EAGAIN) × (edits k pid Fork ≡ []))
    ⊎ ((k.made < most_processes) × (reply k pid Fork ≡ Ok (Child (suc k.made))) × (pipes : List ℕ) × (edits k pid Fork ≡ New_process (suc k.made) pid pipes ∷ []))
fork_comes k pid = by (nat_le most_processes k.made) refl
  where
    by : (b : Bool) → nat_le most_processes k.made ≡ b → ((reply_of (forked_if k pid b) ≡ Err EAGAIN) × (edits_of (forked_if k pid b) ≡ []))
        ⊎ ((k.made < most_processes) × (reply_of (forked_if k pid b) ≡ Ok (Child (suc k.made))) × (pipes : List ℕ) × (edits_of (forked_if k pid b) ≡ New_process (suc k.made) pid pipes ∷ []))
    by true full = inl (refl, refl)
    by false few = inr (not_above most_processes k.made few, refl, pipes_in (own k pid Fork), refl)

-- what a process edits that is in no transaction can be done
pub calls_change : (k : Kernel) (pid : ℕ) → WellFormed k → k.bounds.file_bytes ≤ largest_file → (call : Call) → CanChange k pid None (edits k pid call)
calls_change k pid well low Fork = elim (fork_comes k pid) [
  | inl refused ↦ inl (subst CanEdit (sym refused.1) tt)
  | inr made ↦ inr (inl (made.0, made.2, made.3))
]
calls_change k pid well low Exit = inr (inr (pipes_in (own k pid Exit), refl))
calls_change k pid well low call = inl (calls_edit k pid well low call refl)
