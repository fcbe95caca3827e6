-- Of the edits of one call only the last loses anything.
use Rattle.std.proofs.Common.{◌≡◌, ℕ, ◌+◌, ◌-◌, ℤ, pos, negsuc, Bool, true, false, not, ◌&&◌, ◌||◌, if◌then◌else◌, List, [], ◌∷◌, ◌++◌, Option, Some, None, Result, Ok, Err, IfOk, nat_lt, nat_le, ◌==◌, length, min, refl}
use Rattle.std.specs.Prelude.{⊤}
use Rattle.std.specs.List.{list_any}
use Rattle.model.specs.State.{A_file, A_directory, A_pipe, A_link, A_fifo, A_socket, Kernel, ends}
use Rattle.model.specs.Plan.{Errno, EAGAIN, EBADF, EBUSY, EEXIST, EFBIG, EINVAL, EISDIR, ELOOP, ENXIO, ENAMETOOLONG, ENOENT, ENOTDIR, ENOTEMPTY, EPERM, EPIPE, ESPIPE, Plan, Give, given, answer, or_refuse, List_names, Measure, Read_file, Count_ends, Find_offset, Read_pipe, Fit, ◌>>=◌, refuse_if}
use Rattle.model.specs.Paths.{is_empty, is_below}
use Rattle.model.specs.Walks.{Last, Place, parsed, walk, last_of, is_directory, is_link}
use Rattle.model.specs.Changes.{Edit, Unname_file, Unname_directory, Swap, Wipe, Move, Share_slot, Clear_slot, End_process, Make_directory, Make_file, Make_fixed, Name_file, Put_bytes, Cut, Take, Append, Set_offset, Set_rights, Open_inode, Make_pipe, New_process}
use Rattle.model.specs.Calls.{Call, Open, Close, Read, Pread, Write, Pwrite, Lseek, Ftruncate, Truncate, Stat, Fstat, Link, Unlink, Rename, Exchange, Fallocate, Space, Grow, Keep, Punch, Mkdir, Rmdir, List_directory, Symlink, Readlink, Lstat, Mknod, Chmod, Chown, Fchmod, Fchown, Dup, Dup2, Open_pipe, Fork, Exit, OpenFlags, Slot, Own, own}
use Rattle.ids.specs.Flags.{is_reading, is_writing, is_creating, is_exclusive, is_truncating}
use Rattle.model.specs.Plans.{Change, target_limit, is_special, is_pipe, most_moved, status, slot, opened, cut_to, read_pipe, read_some, place_to_write, write_some, offset_named, sought, length_named, aimed, spaced, replaced_by_name, moved, absent, duplicated, piped, forked, first_of_free, free, plan, open_limit}
use Rattle.model.specs.Steps.{edits, edits_of, outcome}
use Rattle.call_laws.proofs.Laws.{after_bind, whatever, weaken, either_given}
use Rattle.freeing_laws.specs.Sweep.{nothing, lost_by, loses}

pub loses_nothing : (k : Kernel) (e : Edit) → loses e ≡ false → lost_by k e ≡ nothing
loses_nothing k (Make_directory d x i) lasts = refl
loses_nothing k (Make_file d x i) lasts = refl
loses_nothing k (Make_fixed d x fixed i) lasts = refl
loses_nothing k (Name_file d x n) lasts = refl
loses_nothing k (Swap d x n e y m) lasts = refl
loses_nothing k (Put_bytes n place bytes before) lasts = refl
loses_nothing k (Wipe n place count) lasts = refl
loses_nothing k (Cut n before after) lasts = refl
loses_nothing k (Take p count) lasts = refl
loses_nothing k (Append p bytes) lasts = refl
loses_nothing k (Set_offset d place) lasts = refl
loses_nothing k (Set_rights n rights) lasts = refl
loses_nothing k (Open_inode i inode how q f) lasts = refl
loses_nothing k (Make_pipe i q f g) lasts = refl
loses_nothing k (New_process child parent pipes) lasts = refl
loses_nothing k (Unname_file d x n) lasts = absurd cc
loses_nothing k (Unname_directory d x n) lasts = absurd cc
loses_nothing k (Move d x e y n replaced) lasts = absurd cc
loses_nothing k (Share_slot pid f d pipes) lasts = absurd cc
loses_nothing k (Clear_slot pid f pipes) lasts = absurd cc
loses_nothing k (End_process pid pipes) lasts = absurd cc

abbrev pub OnlyLastLoses : List Edit → Type 0
OnlyLastLoses [] = ⊤
OnlyLastLoses (e ∷ []) = ⊤
OnlyLastLoses (e ∷ f ∷ es) = (loses e ≡ false) × OnlyLastLoses (f ∷ es)

abbrev Fine : Change → Type 0
Fine c = OnlyLastLoses c.edits

module _ (k : Kernel) where
  -- whatever the first plan gives
  pass : {A : Type 0} (m : Plan A) (f : A → Plan Change) → ((x : A) → IfOk (given k (f x)) Fine) → IfOk (given k (m >>= f)) Fine
  pass m f h = after_bind k Fine m f (whatever (given k m) h)

  status_fine : (place : Place) → IfOk (given k (status place)) Fine
  status_fine (n, None) = tt
  status_fine (n, Some A_file) = tt
  status_fine (n, Some A_directory) = tt
  status_fine (n, Some A_pipe) = tt
  status_fine (n, Some A_link) = tt
  status_fine (n, Some A_fifo) = tt
  status_fine (n, Some A_socket) = tt

  cut_fine : (b : Bool) (n : ℕ) → IfOk (given k (if b then cut_to n 0 else Give [])) (λ es. (last : Edit) → OnlyLastLoses (es ++ last ∷ []))
  cut_fine true n = λ last. (refl, tt)
  cut_fine false n = λ last. tt

  opened_fine : (me : Own) (flags : OpenFlags) (f : ℕ) (at : Last) (o : Option Place) → IfOk (given k (opened me flags f at o)) Fine
  opened_fine me flags f at None = pass (refuse_if (not (is_creating flags)) ENOENT) _ (λ _. (refl, tt))
  opened_fine me flags f at (Some place) = pass (refuse_if (is_creating flags && is_exclusive flags) EEXIST) _ (λ _. pass (refuse_if (is_directory place) EISDIR) _ (λ _. pass (refuse_if (is_link place) ELOOP) _ (λ _. pass (refuse_if (is_special place) ENXIO) _ (λ _.
      after_bind k Fine (if is_truncating flags then cut_to place.0 0 else Give []) _ (weaken (given k (if is_truncating flags then cut_to place.0 0 else Give [])) (cut_fine (is_truncating flags) place.0) (λ es h. h _))))))

  read_pipe_fine : (p : ℕ) (bytes : List ℕ) → IfOk (given k (read_pipe p bytes)) Fine
  read_pipe_fine p [] = pass (refuse_if (nat_lt 0 (ends k p (λ d. d.writing))) EAGAIN) _ (λ _. tt)
  read_pipe_fine p (b ∷ bytes) = tt

  at_most_one : (b : Bool) (e : Edit) → OnlyLastLoses (if b then [] else e ∷ [])
  at_most_one true e = tt
  at_most_one false e = tt

  one_if : (b : Bool) (e : Edit) → OnlyLastLoses (if b then e ∷ [] else [])
  one_if true e = tt
  one_if false e = tt

  spaced_fine : (n at count : ℕ) (space : Space) → IfOk (given k (spaced n at count space)) Fine
  spaced_fine n at count Grow = one_if (nat_lt (answer k (Measure n)) (at + count)) (Cut n (answer k (Measure n)) (at + count))
  spaced_fine n at count Keep = tt
  spaced_fine n at count Punch = one_if (nat_lt at (answer k (Measure n))) (Wipe n at (min count (answer k (Measure n) - at)))

  read_fine : (it : Slot) (count : ℕ) → IfOk (given k (read_some it count)) Fine
  read_fine it count = either_given k Fine (is_pipe it.kind) _ _ (λ _. read_pipe_fine it.inode (answer k (Read_pipe it.inode count)))
      (λ _. at_most_one (is_empty (answer k (Read_file it.inode (answer k (Find_offset it.description)) (min count most_moved)))) _)

  write_fine : (largest : ℕ) (it : Slot) (bytes : List ℕ) → IfOk (given k (write_some largest it bytes)) Fine
  write_fine largest it bytes = either_given k Fine (is_pipe it.kind) _ _
      (λ _. pass (refuse_if ((answer k (Count_ends it.inode)).0 == 0) EPIPE) _ (λ _.
      pass (refuse_if (nat_lt (answer k (Fit it.inode (length bytes))) (length bytes) && nat_le (length bytes) 512) EAGAIN) _ (λ _.
      pass (refuse_if (answer k (Fit it.inode (length bytes)) == 0) EAGAIN) _ (λ _. tt))))
      (λ _. pass (place_to_write it it.appending) _ (λ place. pass (refuse_if (nat_le largest place) EFBIG) _ (λ _. (refl, tt))))

  moved_fine : (from : Last) (what : Place) (to : Last) (o : Option Place) → IfOk (given k (moved from what to o)) Fine
  moved_fine from what to None = tt
  moved_fine from what to (Some old) = either_given k Fine (what.0 == old.0) _ _ (λ _. tt) (λ _.
      pass (refuse_if (not (is_directory what) && is_directory old) EISDIR) _ (λ _. pass (refuse_if (is_directory what && not (is_directory old)) ENOTDIR) _ (λ _. pass (replaced_by_name old.0 (is_directory old)) _ (λ _. tt))))

  sought_fine : (largest : ℕ) (it : Slot) (place : ℤ) → IfOk (given k (sought largest it place)) Fine
  sought_fine largest it (pos place) = pass (refuse_if (nat_lt largest place) EINVAL) _ (λ _. tt)
  sought_fine largest it (negsuc place) = tt

  dup_fine : (me : Own) (it : Slot) (fs : List ℕ) → IfOk (given k (duplicated me it fs)) Fine
  dup_fine me it [] = tt
  dup_fine me it (f ∷ fs) = tt

  pipe_fine : (me : Own) (fs : List ℕ) → IfOk (given k (piped me fs)) Fine
  pipe_fine me [] = tt
  pipe_fine me (f ∷ []) = tt
  pipe_fine me (f ∷ g ∷ fs) = tt

  fork_fine : (me : Own) (o : Option (ℕ × ℕ)) → IfOk (given k (forked me o)) Fine
  fork_fine me None = tt
  fork_fine me (Some (made, priority)) = pass (refuse_if (nat_le 4096 made) EAGAIN) _ (λ _. tt)

  plan_fine : (me : Own) (call : Call) → IfOk (given k (plan me call)) Fine
  plan_fine me (Open path flags) = pass (refuse_if (not (is_reading flags || is_writing flags)) EINVAL) _ (λ _. pass (refuse_if (is_exclusive flags && not (is_creating flags)) EINVAL) _ (λ _.
      pass (refuse_if (is_truncating flags && not (is_writing flags)) EINVAL) _ (λ _. pass (parsed me.bounds.path_bytes path) _ (λ names. pass (first_of_free (free me)) _ (λ f.
      pass (last_of me.root (if is_creating flags && is_exclusive flags then EEXIST else EISDIR) names) _ (λ at. opened_fine me flags f at at.found))))))
  plan_fine me (Close f) = pass (slot me f) _ (λ _. tt)
  plan_fine me (Read f count) = pass (slot me f) _ (λ it. pass (refuse_if (not it.reading) EBADF) _ (λ _. either_given k Fine (count == 0) _ _ (λ _. tt) (λ _. read_fine it count)))
  plan_fine me (Pread f count offset) = pass (slot me f) _ (λ it. pass (refuse_if (not it.reading) EBADF) _ (λ _. pass (refuse_if (is_pipe it.kind) ESPIPE) _ (λ _. pass (or_refuse EINVAL (offset_named offset)) _ (λ at. either_given k Fine (count == 0) _ _ (λ _. tt) (λ _. tt)))))
  plan_fine me (Write f bytes) = pass (slot me f) _ (λ it. pass (refuse_if (not it.writing) EBADF) _ (λ _. either_given k Fine (is_empty bytes) _ _ (λ _. tt) (λ _. write_fine me.bounds.file_bytes it bytes)))
  plan_fine me (Pwrite f bytes offset) = pass (slot me f) _ (λ it. pass (refuse_if (not it.writing) EBADF) _ (λ _. pass (refuse_if (is_pipe it.kind) ESPIPE) _ (λ _. pass (or_refuse EINVAL (offset_named offset)) _ (λ at. either_given k Fine (is_empty bytes) _ _ (λ _. tt) (λ _.
      pass (refuse_if (nat_le me.bounds.file_bytes at) EFBIG) _ (λ _. tt))))))
  plan_fine me (Lseek f move whence) = pass (slot me f) _ (λ it. pass (refuse_if (is_pipe it.kind) ESPIPE) _ (λ _. pass (aimed it move whence) _ (λ sum. sought_fine me.bounds.file_bytes it sum)))
  plan_fine me (Fallocate f offset len space) = pass (slot me f) _ (λ it. pass (or_refuse EINVAL (offset_named offset)) _ (λ at. pass (or_refuse EINVAL (length_named len)) _ (λ count.
      pass (refuse_if (not it.writing) EBADF) _ (λ _. pass (refuse_if (is_pipe it.kind) ESPIPE) _ (λ _. pass (refuse_if (nat_lt me.bounds.file_bytes (at + count)) EFBIG) _ (λ _. spaced_fine it.inode at count space))))))
  plan_fine me (Ftruncate f len) = pass (slot me f) _ (λ it. pass (refuse_if (not it.writing) EBADF) _ (λ _. pass (refuse_if (is_pipe it.kind) EINVAL) _ (λ _. pass (refuse_if (nat_lt me.bounds.file_bytes len) EFBIG) _ (λ _. tt))))
  plan_fine me (Truncate path len) = pass (parsed me.bounds.path_bytes path) _ (λ names. pass (walk (me.root, Some A_directory) names) _ (λ place. pass (refuse_if (is_directory place) EISDIR) _ (λ _. pass (refuse_if (is_link place) ELOOP) _ (λ _. pass (refuse_if (is_special place) EINVAL) _ (λ _. pass (refuse_if (nat_lt me.bounds.file_bytes len) EFBIG) _ (λ _. tt))))))
  plan_fine me (Stat path) = pass (parsed me.bounds.path_bytes path) _ (λ names. pass (walk (me.root, Some A_directory) names) _ (λ place. pass (refuse_if (is_link place) ELOOP) _ (λ _. status_fine place)))
  plan_fine me (Fstat f) = pass (slot me f) _ (λ it. status_fine (it.inode, it.kind))
  plan_fine me (Link old path) = pass (parsed me.bounds.path_bytes old) _ (λ from. pass (parsed me.bounds.path_bytes path) _ (λ to. pass (walk (me.root, Some A_directory) from) _ (λ what. pass (refuse_if (is_directory what) EPERM) _ (λ _. pass (last_of me.root EEXIST to) _ (λ at. pass (absent at.found) _ (λ _. tt))))))
  plan_fine me (Unlink path) = pass (parsed me.bounds.path_bytes path) _ (λ names. pass (last_of me.root EPERM names) _ (λ at. pass (or_refuse ENOENT at.found) _ (λ what. pass (refuse_if (is_directory what) EPERM) _ (λ _. tt))))
  plan_fine me (Rename old path) = pass (parsed me.bounds.path_bytes old) _ (λ from. pass (parsed me.bounds.path_bytes path) _ (λ to. pass (refuse_if (is_empty from || is_empty to) EBUSY) _ (λ _. pass (last_of me.root EBUSY from) _ (λ at. pass (or_refuse ENOENT at.found) _ (λ what.
      pass (refuse_if (is_directory what && is_below from to) EINVAL) _ (λ _. pass (last_of me.root EBUSY to) _ (λ onto. moved_fine at what onto onto.found)))))))
  plan_fine me (Exchange old path) = pass (parsed me.bounds.path_bytes old) _ (λ from. pass (parsed me.bounds.path_bytes path) _ (λ to. pass (refuse_if (is_empty from || is_empty to) EBUSY) _ (λ _. pass (last_of me.root EBUSY from) _ (λ at. pass (last_of me.root EBUSY to) _ (λ onto.
      pass (or_refuse ENOENT at.found) _ (λ what. pass (or_refuse ENOENT onto.found) _ (λ other. pass (refuse_if (is_directory what && is_below from to) EINVAL) _ (λ _. pass (refuse_if (is_directory other && is_below to from) EINVAL) _ (λ _.
      either_given k Fine (what.0 == other.0) _ _ (λ _. tt) (λ _. tt))))))))))
  plan_fine me (Mkdir path) = pass (parsed me.bounds.path_bytes path) _ (λ names. pass (last_of me.root EEXIST names) _ (λ at. pass (absent at.found) _ (λ _. tt)))
  plan_fine me (Rmdir path) = pass (parsed me.bounds.path_bytes path) _ (λ names. pass (last_of me.root EBUSY names) _ (λ at. pass (or_refuse ENOENT at.found) _ (λ what. pass (refuse_if (not (is_directory what)) ENOTDIR) _ (λ _.
      pass (refuse_if (not (is_empty (answer k (List_names what.0)))) ENOTEMPTY) _ (λ _. tt)))))
  plan_fine me (List_directory path) = pass (parsed me.bounds.path_bytes path) _ (λ names. pass (walk (me.root, Some A_directory) names) _ (λ place. pass (refuse_if (is_link place) ELOOP) _ (λ _. pass (refuse_if (not (is_directory place)) ENOTDIR) _ (λ _. tt))))
  plan_fine me (Symlink target path) = pass (refuse_if (is_empty target) ENOENT) _ (λ _. pass (refuse_if (nat_lt target_limit (length target)) ENAMETOOLONG) _ (λ _. pass (refuse_if (list_any (λ b. b == 0) target) EINVAL) _ (λ _.
      pass (parsed me.bounds.path_bytes path) _ (λ names. pass (last_of me.root EEXIST names) _ (λ at. pass (absent at.found) _ (λ _. tt))))))
  plan_fine me (Readlink path) = pass (parsed me.bounds.path_bytes path) _ (λ names. pass (walk (me.root, Some A_directory) names) _ (λ place. pass (refuse_if (not (is_link place)) EINVAL) _ (λ _. tt)))
  plan_fine me (Lstat path) = pass (parsed me.bounds.path_bytes path) _ (λ names. pass (walk (me.root, Some A_directory) names) _ (λ place. status_fine place))
  plan_fine me (Mknod path special) = pass (parsed me.bounds.path_bytes path) _ (λ names. pass (last_of me.root EEXIST names) _ (λ at. pass (absent at.found) _ (λ _. tt)))
  plan_fine me (Chmod path permissions) = pass (parsed me.bounds.path_bytes path) _ (λ names. pass (walk (me.root, Some A_directory) names) _ (λ place. pass (refuse_if (is_link place) ELOOP) _ (λ _. tt)))
  plan_fine me (Chown path owner) = pass (parsed me.bounds.path_bytes path) _ (λ names. pass (walk (me.root, Some A_directory) names) _ (λ place. tt))
  plan_fine me (Fchmod f permissions) = pass (slot me f) _ (λ it. tt)
  plan_fine me (Fchown f owner) = pass (slot me f) _ (λ it. tt)
  plan_fine me (Dup f) = pass (slot me f) _ (λ it. dup_fine me it (free me))
  plan_fine me (Dup2 f g) = pass (slot me f) _ (λ it. pass (refuse_if (nat_le (open_limit me) g) EBADF) _ (λ _. either_given k Fine (f == g) _ _ (λ _. tt) (λ _. tt)))
  plan_fine me Open_pipe = pipe_fine me (free me)
  plan_fine me Fork = fork_fine me me.birth
  plan_fine me Exit = tt

fine_edits : (r : Result Change Errno) → IfOk r Fine → OnlyLastLoses (edits_of r)
fine_edits (Ok c) h = h
fine_edits (Err e) h = tt

pub only_last : (k : Kernel) (pid : ℕ) (call : Call) → OnlyLastLoses (edits k pid call)
only_last k pid call = fine_edits (outcome k pid call) (plan_fine k (own k pid call) call)
