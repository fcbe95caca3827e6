-- What a call writes or cuts ends where a file can end.
use Rattle.std.proofs.Common.{◌≡◌, ℕ, zero, suc, ◌+◌, ◌-◌, ◌<◌, ◌≤◌, ◌==◌, nat_le, nat_lt, not, Bool, true, false, if◌then◌else◌, List, [], ◌∷◌, length, take, min, Option, Some, None, Result, Ok, Err, IfOk, arith}
use Rattle.std.specs.Prelude.{ℤ, pos, negsuc, ◌++◌, ◌&&◌, ◌||◌}
use Rattle.std.proofs.Math.Nat.{min-le_left}
use Rattle.std.specs.List.{AllByRecursion, list_any}
use Rattle.model.specs.State.{A_file, A_directory, A_pipe, A_link, A_fifo, A_socket, Kernel}
use Rattle.model.specs.Limits.{largest_file}
use Rattle.model.specs.Plan.{Errno, Plan, Give, answer as answer_to, given, ◌>>=◌, ◌>>◌, ENOENT, ENOTDIR, ENOTEMPTY, EEXIST, EBUSY, EISDIR, EINVAL, ELOOP, ENAMETOOLONG, ENXIO, EBADF, EFBIG, EPERM, ESPIPE, EPIPE, EAGAIN, List_names, Measure, Count_ends, Find_offset, Read_pipe, Read_file, Fit, refuse_if, or_refuse}
use Rattle.model.specs.Calls.{Call, Dup, Dup2, Open, Close, Read, Pread, Write, Pwrite, Lseek, Ftruncate, Truncate, Stat, Fstat, Link, Unlink, Rename, Exchange, Fallocate, Space, Grow, Keep, Punch, Mkdir, Rmdir, List_directory, Symlink, Readlink, Lstat, Mknod, Chmod, Chown, Fchmod, Fchown, Open_pipe, Fork, Exit, Descriptor, OpenFlags, Own, Slot, own}
use Rattle.model.specs.Changes.{There, Open_inode, Set_offset, Wipe, Cut}
use Rattle.model.specs.Paths.{is_empty, is_below}
use Rattle.model.specs.Walks.{Place, Last, parsed, walk, last_of, is_directory, is_link}
use Rattle.model.specs.Plans.{Change, changed, is_special, target_limit, duplicated, plan, status as told_status, absent, slot, free, first_of_free, is_pipe, mode, opened, cut_to, read_some, write_some, offset_named, write_from, read_pipe, piped, forked, whole_write, most_processes, place_to_write, length_named, aimed, spaced, sought, moved, replaced_by_name, room, most_moved, open_limit}
use Rattle.model.specs.Steps.{edits, edits_of}
use Rattle.ids.specs.Flags.{is_reading, is_writing, is_creating, is_exclusive, is_truncating}
use Rattle.call_laws.proofs.Laws.{after_bind, allowed, either_given, whatever}
use Rattle.plain_kernel.specs.Edits.{EndsWithin}

-- the edits of what a plan gives end so
abbrev Within : Change → Type 0
Within change = AllByRecursion EndsWithin change.edits

after : {A : Type 0} (k : Kernel) (m : Plan A) (f : A → Plan Change) → ((x : A) → IfOk (given k (f x)) Within) → IfOk (given k (m >>= f)) Within
after k m f h = after_bind k Within m f (whatever (given k m) h)

unless : (k : Kernel) (refused : Bool) (e : Errno) (m : Plan Change) → IfOk (given k m) Within → IfOk (given k (refuse_if refused e >> m)) Within
unless k refused e m h = allowed k Within refused e m (λ _. h)

tells : (k : Kernel) (place : Place) → IfOk (given k (told_status place)) Within
tells k (n, Some A_file) = tt
tells k (n, Some A_directory) = tt
tells k (n, Some A_pipe) = tt
tells k (n, Some A_link) = tt
tells k (n, Some A_fifo) = tt
tells k (n, Some A_socket) = tt
tells k (n, None) = tt

opens : (k : Kernel) (o : Own) (flags : OpenFlags) (f : ℕ) (at : Last) (there : Option Place) → IfOk (given k (opened o flags f at there)) Within
opens k o flags f at None = unless k (not (is_creating flags)) ENOENT _ (tt, (tt, tt))
opens k o flags f at (Some place) =
    unless k (is_creating flags && is_exclusive flags) EEXIST _ (unless k (is_directory place) EISDIR _ (unless k (is_link place) ELOOP _ (unless k (is_special place) ENXIO _ (by_test (is_truncating flags)))))
  where
    by_test : (b : Bool) → IfOk (given k ((if b then cut_to place.0 0 else Give []) >>= (λ es. changed (Descriptor f) (es ++ Open_inode 0 (There place.0) (mode flags) o.pid f ∷ [])))) Within
    by_test true = (omega arith, (tt, tt))
    by_test false = (tt, tt)

reads_pipe : (k : Kernel) (p : ℕ) (bytes : List ℕ) → IfOk (given k (read_pipe p bytes)) Within
reads_pipe k p [] = unless k (nat_lt 0 (answer_to k (Count_ends p)).1) EAGAIN _ tt
reads_pipe k p (b ∷ bytes) = (tt, tt)

reads : (k : Kernel) (it : Slot) (count : ℕ) → IfOk (given k (read_some it count)) Within
reads k it count = either_given k Within (is_pipe it.kind) _ _ (λ _. reads_pipe k it.inode (answer_to k (Read_pipe it.inode count))) (λ _. by_test (is_empty (answer_to k (Read_file it.inode (answer_to k (Find_offset it.description)) (min count most_moved)))) _ _)
  where
    by_test : (b : Bool) (d offset : ℕ) → AllByRecursion EndsWithin (if b then [] else Set_offset d offset ∷ [])
    by_test true d offset = tt
    by_test false d offset = (tt, tt)

shares : (k : Kernel) (o : Own) (it : Slot) (fs : List ℕ) → IfOk (given k (duplicated o it fs)) Within
shares k o it [] = tt
shares k o it (f ∷ fs) = (tt, tt)

pairs : (k : Kernel) (o : Own) (fs : List ℕ) → IfOk (given k (piped o fs)) Within
pairs k o [] = tt
pairs k o (f ∷ []) = tt
pairs k o (f ∷ g ∷ fs) = (tt, tt)

forks : (k : Kernel) (o : Own) (birth : Option (ℕ × ℕ)) → IfOk (given k (forked o birth)) Within
forks k o None = tt
forks k o (Some (made, priority)) = unless k (nat_le most_processes made) EAGAIN _ (tt, tt)

-- what fits at a place ends at the largest file, and so where any file can end
room_ends : (largest offset : ℕ) (bytes : List ℕ) → largest ≤ largest_file → nat_le largest offset ≡ false → offset + length (take (room largest offset) bytes) ≤ largest_file
room_ends largest offset bytes low above =
    let below : offset < largest = search (arith, above) in
    let few : length (take (room largest offset) bytes) ≤ room largest offset = take_few (room largest offset) bytes in
    let least : room largest offset ≤ largest - offset = min-le_left (largest - offset) most_moved in
    omega arith
  where
    take_few : (n : ℕ) (xs : List ℕ) → length (take n xs) ≤ n
    take_few zero xs = omega arith
    take_few (suc n) [] = omega arith
    take_few (suc n) (x ∷ xs) = let rest : length (take n xs) ≤ n = take_few n xs in omega arith

writes : (k : Kernel) (largest : ℕ) → largest ≤ largest_file → (it : Slot) (bytes : List ℕ) → IfOk (given k (write_some largest it bytes)) Within
writes k largest low it bytes = either_given k Within (is_pipe it.kind) _ _ (λ _. unless k ((answer_to k (Count_ends it.inode)).0 == 0) EPIPE _ (
    let fitting = answer_to k (Fit it.inode (length bytes)) in
    unless k (nat_lt fitting (length bytes) && nat_le (length bytes) whole_write) EAGAIN _ (unless k (fitting == 0) EAGAIN _ (tt, tt))))
    (λ _. after k (place_to_write it it.appending) _ (λ offset. allowed k Within (nat_le largest offset) EFBIG _ (λ above. (room_ends largest offset bytes low above, (tt, tt)))))

puts : (k : Kernel) (largest : ℕ) → largest ≤ largest_file → (n offset : ℕ) (bytes : List ℕ) → IfOk (given k (write_from largest n offset bytes)) Within
puts k largest low n offset bytes = allowed k Within (nat_le largest offset) EFBIG _ (λ above. (room_ends largest offset bytes low above, tt))

seeks : (k : Kernel) (largest : ℕ) (it : Slot) (offset : ℤ) → IfOk (given k (sought largest it offset)) Within
seeks k largest it (pos offset) = unless k (nat_lt largest offset) EINVAL _ (tt, tt)
seeks k largest it (negsuc offset) = tt

len_ends : (largest len : ℕ) → largest ≤ largest_file → nat_lt largest len ≡ false → len ≤ largest_file
len_ends largest len low above = let within : len ≤ largest = search (arith, above) in omega arith

spaces : (k : Kernel) (n at count : ℕ) (space : Space) → at + count ≤ largest_file → IfOk (given k (spaced n at count space)) Within
spaces k n at count Grow low = by_test (nat_lt (answer_to k (Measure n)) (at + count))
  where
    by_test : (b : Bool) → AllByRecursion EndsWithin (if b then Cut n (answer_to k (Measure n)) (at + count) ∷ [] else [])
    by_test true = (low, tt)
    by_test false = tt
spaces k n at count Keep low = tt
spaces k n at count Punch low = by_test (nat_lt at (answer_to k (Measure n)))
  where
    by_test : (b : Bool) → AllByRecursion EndsWithin (if b then Wipe n at (min count (answer_to k (Measure n) - at)) ∷ [] else [])
    by_test true = (omega arith, tt)
    by_test false = tt

moves : (k : Kernel) (from : Last) (what : Place) (to : Last) (there : Option Place) → IfOk (given k (moved from what to there)) Within
moves k from what to None = (tt, tt)
moves k from what to (Some old) = either_given k Within (what.0 == old.0) _ _ (λ _. tt) (λ _.
    unless k (not (is_directory what) && is_directory old) EISDIR _ (unless k (is_directory what && not (is_directory old)) ENOTDIR _ (
    after k (replaced_by_name old.0 (is_directory old)) _ (λ replaced. (tt, tt)))))

planned : (k : Kernel) (pid : ℕ) → k.bounds.file_bytes ≤ largest_file → (call : Call) → IfOk (given k (plan (own k pid call) call)) Within
planned k pid low (Open path flags) =
    unless k (not (is_reading flags || is_writing flags)) EINVAL _ (unless k (is_exclusive flags && not (is_creating flags)) EINVAL _ (unless k (is_truncating flags && not (is_writing flags)) EINVAL _ (
    after k (parsed k.bounds.path_bytes path) _ (λ names. after k (first_of_free (free (own k pid (Open path flags)))) _ (λ f. after k (last_of k.root (if is_creating flags && is_exclusive flags then EEXIST else EISDIR) names) _ (λ at. opens k (own k pid (Open path flags)) flags f at at.found))))))
planned k pid low (Close f) = after k (slot (own k pid (Close f)) f) _ (λ it. (tt, tt))
planned k pid low (Read f count) = after k (slot (own k pid (Read f count)) f) _ (λ it. unless k (not it.reading) EBADF _ (either_given k Within (count == 0) _ _ (λ _. tt) (λ _. reads k it count)))
planned k pid low (Pread f count offset) = after k (slot (own k pid (Pread f count offset)) f) _ (λ it. unless k (not it.reading) EBADF _ (unless k (is_pipe it.kind) ESPIPE _ (after k (or_refuse EINVAL (offset_named offset)) _ (λ at. either_given k Within (count == 0) _ _ (λ _. tt) (λ _. tt)))))
planned k pid low (Write f bytes) = after k (slot (own k pid (Write f bytes)) f) _ (λ it. unless k (not it.writing) EBADF _ (either_given k Within (is_empty bytes) _ _ (λ _. tt) (λ _. writes k k.bounds.file_bytes low it bytes)))
planned k pid low (Pwrite f bytes offset) = after k (slot (own k pid (Pwrite f bytes offset)) f) _ (λ it. unless k (not it.writing) EBADF _ (unless k (is_pipe it.kind) ESPIPE _ (after k (or_refuse EINVAL (offset_named offset)) _ (λ at. either_given k Within (is_empty bytes) _ _ (λ _. tt) (λ _. puts k k.bounds.file_bytes low it.inode at bytes)))))
planned k pid low (Lseek f move whence) = after k (slot (own k pid (Lseek f move whence)) f) _ (λ it. unless k (is_pipe it.kind) ESPIPE _ (after k (aimed it move whence) _ (λ sum. seeks k k.bounds.file_bytes it sum)))
planned k pid low (Fallocate f offset len space) = after k (slot (own k pid (Fallocate f offset len space)) f) _ (λ it. after k (or_refuse EINVAL (offset_named offset)) _ (λ at. after k (or_refuse EINVAL (length_named len)) _ (λ count.
    unless k (not it.writing) EBADF _ (unless k (is_pipe it.kind) ESPIPE _ (allowed k Within (nat_lt k.bounds.file_bytes (at + count)) EFBIG _ (λ above. spaces k it.inode at count space (len_ends k.bounds.file_bytes (at + count) low above)))))))
planned k pid low (Ftruncate f len) = after k (slot (own k pid (Ftruncate f len)) f) _ (λ it. unless k (not it.writing) EBADF _ (unless k (is_pipe it.kind) EINVAL _ (allowed k Within (nat_lt k.bounds.file_bytes len) EFBIG _ (λ above. (len_ends k.bounds.file_bytes len low above, tt)))))
planned k pid low (Truncate path len) = after k (parsed k.bounds.path_bytes path) _ (λ names. after k (walk (k.root, Some A_directory) names) _ (λ place. unless k (is_directory place) EISDIR _ (unless k (is_link place) ELOOP _ (unless k (is_special place) EINVAL _ (allowed k Within (nat_lt k.bounds.file_bytes len) EFBIG _ (λ above. (len_ends k.bounds.file_bytes len low above, tt)))))))
planned k pid low (Fstat f) = after k (slot (own k pid (Fstat f)) f) _ (λ it. tells k (it.inode, it.kind))
planned k pid low (Stat path) = after k (parsed k.bounds.path_bytes path) _ (λ names. after k (walk (k.root, Some A_directory) names) _ (λ place. unless k (is_link place) ELOOP _ (tells k place)))
planned k pid low (Link old path) =
    after k (parsed k.bounds.path_bytes old) _ (λ from. after k (parsed k.bounds.path_bytes path) _ (λ to. after k (walk (k.root, Some A_directory) from) _ (λ what. unless k (is_directory what) EPERM _ (
    after k (last_of k.root EEXIST to) _ (λ at. after k (absent at.found) _ (λ _. (tt, tt)))))))
planned k pid low (Unlink path) =
    after k (parsed k.bounds.path_bytes path) _ (λ names. after k (last_of k.root EPERM names) _ (λ at. after k (or_refuse ENOENT at.found) _ (λ what. unless k (is_directory what) EPERM _ (tt, tt))))
planned k pid low (Rename old path) =
    after k (parsed k.bounds.path_bytes old) _ (λ from. after k (parsed k.bounds.path_bytes path) _ (λ to. unless k (is_empty from || is_empty to) EBUSY _ (
    after k (last_of k.root EBUSY from) _ (λ at. after k (or_refuse ENOENT at.found) _ (λ what. unless k (is_directory what && is_below from to) EINVAL _ (
    after k (last_of k.root EBUSY to) _ (λ onto. moves k at what onto onto.found)))))))
planned k pid low (Exchange old path) =
    after k (parsed k.bounds.path_bytes old) _ (λ from. after k (parsed k.bounds.path_bytes path) _ (λ to. unless k (is_empty from || is_empty to) EBUSY _ (
    after k (last_of k.root EBUSY from) _ (λ at. after k (last_of k.root EBUSY to) _ (λ onto. after k (or_refuse ENOENT at.found) _ (λ what. after k (or_refuse ENOENT onto.found) _ (λ other.
    unless k (is_directory what && is_below from to) EINVAL _ (unless k (is_directory other && is_below to from) EINVAL _ (either_given k Within (what.0 == other.0) _ _ (λ _. tt) (λ _. (tt, tt)))))))))))
planned k pid low (Mkdir path) = after k (parsed k.bounds.path_bytes path) _ (λ names. after k (last_of k.root EEXIST names) _ (λ at. after k (absent at.found) _ (λ _. (tt, tt))))
planned k pid low (Rmdir path) =
    after k (parsed k.bounds.path_bytes path) _ (λ names. after k (last_of k.root EBUSY names) _ (λ at. after k (or_refuse ENOENT at.found) _ (λ what. unless k (not (is_directory what)) ENOTDIR _ (unless k (not (is_empty (answer_to k (List_names what.0)))) ENOTEMPTY _ (tt, tt)))))
planned k pid low (List_directory path) = after k (parsed k.bounds.path_bytes path) _ (λ names. after k (walk (k.root, Some A_directory) names) _ (λ place. unless k (is_link place) ELOOP _ (unless k (not (is_directory place)) ENOTDIR _ tt)))
planned k pid low (Symlink target path) = unless k (is_empty target) ENOENT _ (unless k (nat_lt target_limit (length target)) ENAMETOOLONG _ (unless k (list_any (λ b. b == 0) target) EINVAL _ (
    after k (parsed k.bounds.path_bytes path) _ (λ names. after k (last_of k.root EEXIST names) _ (λ at. after k (absent at.found) _ (λ _. (tt, tt)))))))
planned k pid low (Readlink path) = after k (parsed k.bounds.path_bytes path) _ (λ names. after k (walk (k.root, Some A_directory) names) _ (λ place. unless k (not (is_link place)) EINVAL _ tt))
planned k pid low (Lstat path) = after k (parsed k.bounds.path_bytes path) _ (λ names. after k (walk (k.root, Some A_directory) names) _ (tells k))
planned k pid low (Mknod path special) = after k (parsed k.bounds.path_bytes path) _ (λ names. after k (last_of k.root EEXIST names) _ (λ at. after k (absent at.found) _ (λ _. (tt, tt))))
planned k pid low (Chmod path permissions) = after k (parsed k.bounds.path_bytes path) _ (λ names. after k (walk (k.root, Some A_directory) names) _ (λ place. unless k (is_link place) ELOOP _ (tt, tt)))
planned k pid low (Chown path owner) = after k (parsed k.bounds.path_bytes path) _ (λ names. after k (walk (k.root, Some A_directory) names) _ (λ place. (tt, tt)))
planned k pid low (Fchmod f permissions) = after k (slot (own k pid (Fchmod f permissions)) f) _ (λ it. (tt, tt))
planned k pid low (Fchown f owner) = after k (slot (own k pid (Fchown f owner)) f) _ (λ it. (tt, tt))
planned k pid low (Dup f) = after k (slot (own k pid (Dup f)) f) _ (λ it. shares k (own k pid (Dup f)) it (free (own k pid (Dup f))))
planned k pid low (Dup2 f g) = after k (slot (own k pid (Dup2 f g)) f) _ (λ it. unless k (nat_le (open_limit (own k pid (Dup2 f g))) g) EBADF _ (either_given k Within (f == g) _ _ (λ _. tt) (λ _. (tt, tt))))
planned k pid low Open_pipe = pairs k (own k pid Open_pipe) (free (own k pid Open_pipe))
planned k pid low Fork = forks k (own k pid Fork) (own k pid Fork).birth
planned k pid low Exit = (tt, tt)

-- what a call edits ends within a file that can be
pub edits_end : (k : Kernel) (pid : ℕ) → k.bounds.file_bytes ≤ largest_file → (call : Call) → AllByRecursion EndsWithin (edits k pid call)
edits_end k pid low call = by (given k (plan (own k pid call) call)) (planned k pid low call)
  where
    by : (r : Result Change Errno) → IfOk r Within → AllByRecursion EndsWithin (edits_of r)
    by (Ok change) is = is
    by (Err e) is = tt
