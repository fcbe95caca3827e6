-- The edits of each call fit a well-formed state, are the caller's own, and mark objects that are there.
use Rattle.std.proofs.Common.{◌+◌, ◌≢◌, ◌∙◌, ℕ, true, false, not, ◌&&◌, ◌||◌, List, [], if◌then◌else◌, Option, Some, None, IfOk, refl, sym, ◌==◌, nat_lt, length, nat_le}
use Rattle.std.specs.List.{list_any}
use Rattle.model.specs.State.{Kind, A_directory, Rights, Kernel, Link_to, kind_of}
use Rattle.model.specs.Plan.{given, ENAMETOOLONG, ENOENT, ENOTDIR, EEXIST, EBUSY, ELOOP, EPERM, EINVAL, EISDIR, EBADF, EFBIG, ESPIPE, or_refuse}
use Rattle.model.specs.Paths.{is_empty}
use Rattle.model.specs.Walks.{Place, parsed, walk, is_directory, is_link, last_of}
use Rattle.ids.specs.Fixed.{special_object}
use Rattle.ids.specs.Flags.{is_reading, is_writing, is_creating, is_exclusive, is_truncating}
use Rattle.model.specs.Calls.{Call, Open, Close, Read, Pread, Write, Pwrite, Lseek, Ftruncate, Truncate, Stat, Fstat, Link, Unlink, Rename, Exchange, Fallocate, Mkdir, Rmdir, List_directory, Symlink, Readlink, Lstat, Mknod, Chmod, Chown, Fchmod, Fchown, Dup, Dup2, Open_pipe, Fork, Exit, Count, Bytes, Slot, own}
use Rattle.ids.specs.Rights.{permitted, owned}
use Rattle.model.specs.Plans.{target_limit, revised, unchanged, is_pipe, read_some, write_some, offset_named, length_named, read_from, write_from, aimed, free, first_of_free, open_limit}
use Rattle.model.specs.Steps.{outcome}
use Rattle.model.specs.Entries.{is_inside}
use Rattle.call_laws.specs.WellFormed.{CanBeNamed, CanBeOpened, WellFormed}
use Rattle.call_laws.specs.Fits.{IsAlive}
use Rattle.call_laws.proofs.edits.InodeMarks.{linked_is_other}
use Rattle.call_laws.proofs.calls.Rules.{after_bind, whatever, weaken, allowed, either_given, IsPlace, IsLast, root_place, last_of_right, walk_right}
use Rattle.call_laws.proofs.calls.NoRing.{IsLedTo, last_of_led}
use Rattle.call_laws.proofs.calls.OwnSlots.{IsFreeIn, all_free, free_different}
use Rattle.call_laws.proofs.calls.OpenSlots.{IsOpen, is_open, with_slot}
use Rattle.call_laws.proofs.calls.WillFit.{WillFit, both_ok, unchanged_fits}
use Rattle.call_laws.proofs.calls.NamesFit.{mkdir_at, fixed_at, rmdir_at, status_fits, not_directory, file_alone, link_at, unlink_at, rename_at, exchange_at}
use Rattle.call_laws.proofs.calls.ContentsFit.{read_at, write_at, put_from, seek_at, truncated, cut_fits, spaced_in}
use Rattle.call_laws.proofs.calls.SlotsFit.{close_at, dup_with, dup2_at, pipe_with, fork_at, exit_at, open_at_last, first_free}

-- the rights of an inode that is there can be set
revised_fits : (k : Kernel) (pid : ℕ) (chosen : List ℕ) (n : ℕ) (change : Rights → Rights) → kind_of k n ≢ None → IfOk (given k (revised n change)) (WillFit k pid true chosen)
revised_fits k pid chosen n change there = record { fits = λ can. (there, tt); by = (tt, tt); there = (there, tt) }

named_there : (o : Option Kind) → CanBeNamed o → o ≢ None
named_there None h e = h
named_there (Some what) h e = absurd cc

opened_there : (o : Option Kind) → CanBeOpened o → o ≢ None
opened_there None h e = h
opened_there (Some what) h e = absurd cc

place_there : (k : Kernel) (place : Place) → IsPlace k place → kind_of k place.0 ≢ None
place_there k place r none = named_there place.1 r.can_be_named (r.right ∙ none)

slot_there : (k : Kernel) (s : Slot) → IsOpen k s → kind_of k s.inode ≢ None
slot_there k s held none = opened_there s.kind held.can_be_opened (held.kind ∙ none)

-- the plan's change fits, whatever call it is
pub call_fits : (k : Kernel) (pid : ℕ) (call : Call) (chosen : List ℕ) → WellFormed k → IsAlive k pid → IfOk (outcome k pid call) (WillFit k pid (is_inside call) chosen)
call_fits k pid (Open path flags) chosen well alive =
    allowed k (WillFit k pid true chosen) (not (is_reading flags || is_writing flags)) EINVAL _ (λ _.
    allowed k (WillFit k pid true chosen) (is_exclusive flags && not (is_creating flags)) EINVAL _ (λ _.
    allowed k (WillFit k pid true chosen) (is_truncating flags && not (is_writing flags)) EINVAL _ (λ _.
    after_bind k (WillFit k pid true chosen) (parsed k.bounds.path_bytes path) _ (whatever (given k (parsed k.bounds.path_bytes path)) (λ names.
    after_bind k (WillFit k pid true chosen) (first_of_free (free (own k pid (Open path flags)))) _ (weaken (given k (first_of_free (free (own k pid (Open path flags)))))
    (first_free k well pid alive true chosen (IsFreeIn (own k pid (Open path flags)).table 0 (open_limit (own k pid (Open path flags)))) (free (own k pid (Open path flags))) (all_free (own k pid (Open path flags)).table 0 (open_limit (own k pid (Open path flags))))) (λ f is_free.
    after_bind k (WillFit k pid true chosen) (last_of k.root (if is_creating flags && is_exclusive flags then EEXIST else EISDIR) names) _
    (weaken (given k (last_of k.root (if is_creating flags && is_exclusive flags then EEXIST else EISDIR) names)) (last_of_right k well (if is_creating flags && is_exclusive flags then EEXIST else EISDIR) names) (λ at last.
    open_at_last k well pid alive true chosen (Open path flags) flags f at is_free last at.found refl)))))))))
call_fits k pid (Close f) chosen well alive = with_slot k pid (Close f) f (WillFit k pid true chosen) _ (λ s held. close_at k well pid alive true chosen f s held)
call_fits k pid (Read f count) chosen well alive = with_slot k pid (Read f count) f (WillFit k pid true chosen) _ (λ s held.
    allowed k (WillFit k pid true chosen) (not s.reading) EBADF _ (λ _.
    either_given k (WillFit k pid true chosen) (count == 0) (unchanged (Bytes [])) (read_some s count) (λ _. unchanged_fits k pid true chosen (Bytes [])) (λ _. read_at k well pid alive true chosen s count (is_open k well pid f s held))))
call_fits k pid (Pread f count offset) chosen well alive = with_slot k pid (Pread f count offset) f (WillFit k pid true chosen) _ (λ s held.
    allowed k (WillFit k pid true chosen) (not s.reading) EBADF _ (λ _.
    allowed k (WillFit k pid true chosen) (is_pipe s.kind) ESPIPE _ (λ _.
    after_bind k (WillFit k pid true chosen) (or_refuse EINVAL (offset_named offset)) _ (whatever (given k (or_refuse EINVAL (offset_named offset))) (λ at.
    either_given k (WillFit k pid true chosen) (count == 0) (unchanged (Bytes [])) (read_from s.inode at count) (λ _. unchanged_fits k pid true chosen (Bytes [])) (λ _. unchanged_fits k pid true chosen _))))))
call_fits k pid (Write f bytes) chosen well alive = with_slot k pid (Write f bytes) f (WillFit k pid true chosen) _ (λ s held.
    allowed k (WillFit k pid true chosen) (not s.writing) EBADF _ (λ _.
    either_given k (WillFit k pid true chosen) (is_empty bytes) (unchanged (Count 0)) (write_some k.bounds.file_bytes s bytes) (λ _. unchanged_fits k pid true chosen (Count 0)) (λ _. write_at k well pid alive true chosen s bytes (is_open k well pid f s held))))
call_fits k pid (Pwrite f bytes offset) chosen well alive = with_slot k pid (Pwrite f bytes offset) f (WillFit k pid true chosen) _ (λ s held.
    allowed k (WillFit k pid true chosen) (not s.writing) EBADF _ (λ _.
    allowed k (WillFit k pid true chosen) (is_pipe s.kind) ESPIPE _ (λ file.
    after_bind k (WillFit k pid true chosen) (or_refuse EINVAL (offset_named offset)) _ (whatever (given k (or_refuse EINVAL (offset_named offset))) (λ at.
    either_given k (WillFit k pid true chosen) (is_empty bytes) (unchanged (Count 0)) (write_from k.bounds.file_bytes s.inode at bytes) (λ _. unchanged_fits k pid true chosen (Count 0)) (λ _. put_from k well pid alive true chosen s bytes (is_open k well pid f s held) file at))))))
call_fits k pid (Lseek f move whence) chosen well alive = with_slot k pid (Lseek f move whence) f (WillFit k pid true chosen) _ (λ s held.
    allowed k (WillFit k pid true chosen) (is_pipe s.kind) ESPIPE _ (λ _.
    after_bind k (WillFit k pid true chosen) (aimed s move whence) _ (whatever (given k (aimed s move whence)) (λ sum. seek_at k well pid alive true chosen s sum (is_open k well pid f s held)))))
call_fits k pid (Fallocate f offset len space) chosen well alive = with_slot k pid (Fallocate f offset len space) f (WillFit k pid true chosen) _ (λ s held.
    after_bind k (WillFit k pid true chosen) (or_refuse EINVAL (offset_named offset)) _ (whatever (given k (or_refuse EINVAL (offset_named offset))) (λ at.
    after_bind k (WillFit k pid true chosen) (or_refuse EINVAL (length_named len)) _ (whatever (given k (or_refuse EINVAL (length_named len))) (λ count.
    allowed k (WillFit k pid true chosen) (not s.writing) EBADF _ (λ _.
    allowed k (WillFit k pid true chosen) (is_pipe s.kind) ESPIPE _ (λ file.
    allowed k (WillFit k pid true chosen) (nat_lt k.bounds.file_bytes (at + count)) EFBIG _ (λ _. spaced_in k well pid alive true chosen s at count space (is_open k well pid f s held) file))))))))
call_fits k pid (Ftruncate f len) chosen well alive = with_slot k pid (Ftruncate f len) f (WillFit k pid true chosen) _ (λ s held.
    allowed k (WillFit k pid true chosen) (not s.writing) EBADF _ (λ _.
    allowed k (WillFit k pid true chosen) (is_pipe s.kind) EINVAL _ (λ file.
    allowed k (WillFit k pid true chosen) (nat_lt k.bounds.file_bytes len) EFBIG _ (λ _. truncated k well pid alive true chosen s len (is_open k well pid f s held) file))))
call_fits k pid (Truncate path len) chosen well alive =
    after_bind k (WillFit k pid true chosen) (parsed k.bounds.path_bytes path) _ (whatever (given k (parsed k.bounds.path_bytes path)) (λ names.
    after_bind k (WillFit k pid true chosen) (walk (k.root, Some A_directory) names) _ (weaken (given k (walk (k.root, Some A_directory) names)) (walk_right k well k.root (Some A_directory) names (root_place k well)) (λ place right.
    file_alone k well pid alive true chosen (WillFit k pid true chosen) place EISDIR ELOOP EINVAL _ right (λ file.
    allowed k (WillFit k pid true chosen) (nat_lt k.bounds.file_bytes len) EFBIG _ (λ _. cut_fits k well pid alive true chosen place.0 len file))))))
call_fits k pid (Stat path) chosen well alive =
    after_bind k (WillFit k pid true chosen) (parsed k.bounds.path_bytes path) _ (whatever (given k (parsed k.bounds.path_bytes path)) (λ names.
    after_bind k (WillFit k pid true chosen) (walk (k.root, Some A_directory) names) _ (whatever (given k (walk (k.root, Some A_directory) names)) (λ place.
    allowed k (WillFit k pid true chosen) (is_link place) ELOOP _ (λ _. status_fits k well pid alive true chosen place)))))
call_fits k pid (Fstat f) chosen well alive = with_slot k pid (Fstat f) f (WillFit k pid true chosen) _ (λ s held. status_fits k well pid alive true chosen (s.inode, s.kind))
call_fits k pid (Link old path) chosen well alive =
    after_bind k (WillFit k pid true chosen) (parsed k.bounds.path_bytes old) _ (whatever (given k (parsed k.bounds.path_bytes old)) (λ from.
    after_bind k (WillFit k pid true chosen) (parsed k.bounds.path_bytes path) _ (whatever (given k (parsed k.bounds.path_bytes path)) (λ to.
    after_bind k (WillFit k pid true chosen) (walk (k.root, Some A_directory) from) _ (weaken (given k (walk (k.root, Some A_directory) from)) (walk_right k well k.root (Some A_directory) from (root_place k well)) (λ what place.
    not_directory k well pid alive true chosen (WillFit k pid true chosen) what EPERM _ place (λ linked.
    after_bind k (WillFit k pid true chosen) (last_of k.root EEXIST to) _ (weaken (given k (last_of k.root EEXIST to)) (last_of_right k well EEXIST to) (λ at last.
    link_at k well pid alive true chosen what.0 at linked (λ none. linked_is_other k k.root what.0 well.root linked (sym (place.rooted none))) last at.found refl)))))))))
call_fits k pid (Unlink path) chosen well alive =
    after_bind k (WillFit k pid true chosen) (parsed k.bounds.path_bytes path) _ (whatever (given k (parsed k.bounds.path_bytes path)) (λ names.
    after_bind k (WillFit k pid true chosen) (last_of k.root EPERM names) _ (weaken (given k (last_of k.root EPERM names)) (last_of_right k well EPERM names) (λ at last. unlink_at k well pid alive true chosen at last at.found refl))))
call_fits k pid (Rename old path) chosen well alive =
    after_bind k (WillFit k pid true chosen) (parsed k.bounds.path_bytes old) _ (whatever (given k (parsed k.bounds.path_bytes old)) (λ from.
    after_bind k (WillFit k pid true chosen) (parsed k.bounds.path_bytes path) _ (whatever (given k (parsed k.bounds.path_bytes path)) (λ to.
    allowed k (WillFit k pid true chosen) (is_empty from || is_empty to) EBUSY _ (λ _.
    after_bind k (WillFit k pid true chosen) (last_of k.root EBUSY from) _
    (weaken (given k (last_of k.root EBUSY from)) (both_ok (IsLast k) (IsLedTo k k.root from) (given k (last_of k.root EBUSY from)) (last_of_right k well EBUSY from) (last_of_led k EBUSY from)) (λ at both.
    rename_at k well pid alive true chosen from to at both.0 both.1 at.found refl)))))))
call_fits k pid (Exchange old path) chosen well alive =
    after_bind k (WillFit k pid true chosen) (parsed k.bounds.path_bytes old) _ (whatever (given k (parsed k.bounds.path_bytes old)) (λ from.
    after_bind k (WillFit k pid true chosen) (parsed k.bounds.path_bytes path) _ (whatever (given k (parsed k.bounds.path_bytes path)) (λ to.
    allowed k (WillFit k pid true chosen) (is_empty from || is_empty to) EBUSY _ (λ _.
    after_bind k (WillFit k pid true chosen) (last_of k.root EBUSY from) _
    (weaken (given k (last_of k.root EBUSY from)) (both_ok (IsLast k) (IsLedTo k k.root from) (given k (last_of k.root EBUSY from)) (last_of_right k well EBUSY from) (last_of_led k EBUSY from)) (λ at both.
    after_bind k (WillFit k pid true chosen) (last_of k.root EBUSY to) _
    (weaken (given k (last_of k.root EBUSY to)) (both_ok (IsLast k) (IsLedTo k k.root to) (given k (last_of k.root EBUSY to)) (last_of_right k well EBUSY to) (last_of_led k EBUSY to)) (λ onto both_too.
    exchange_at k well pid alive true chosen from to at onto both.0 both.1 both_too.0 both_too.1 at.found onto.found refl refl)))))))))
call_fits k pid (Mkdir path) chosen well alive =
    after_bind k (WillFit k pid true chosen) (parsed k.bounds.path_bytes path) _ (whatever (given k (parsed k.bounds.path_bytes path)) (λ names.
    after_bind k (WillFit k pid true chosen) (last_of k.root EEXIST names) _ (weaken (given k (last_of k.root EEXIST names)) (last_of_right k well EEXIST names) (λ at last. mkdir_at k well pid alive true chosen at last at.found refl))))
call_fits k pid (Rmdir path) chosen well alive =
    after_bind k (WillFit k pid true chosen) (parsed k.bounds.path_bytes path) _ (whatever (given k (parsed k.bounds.path_bytes path)) (λ names.
    after_bind k (WillFit k pid true chosen) (last_of k.root EBUSY names) _ (weaken (given k (last_of k.root EBUSY names)) (last_of_right k well EBUSY names) (λ at last. rmdir_at k well pid alive true chosen at last at.found refl))))
call_fits k pid (List_directory path) chosen well alive =
    after_bind k (WillFit k pid true chosen) (parsed k.bounds.path_bytes path) _ (whatever (given k (parsed k.bounds.path_bytes path)) (λ names.
    after_bind k (WillFit k pid true chosen) (walk (k.root, Some A_directory) names) _ (whatever (given k (walk (k.root, Some A_directory) names)) (λ place.
    allowed k (WillFit k pid true chosen) (is_link place) ELOOP _ (λ _.
    allowed k (WillFit k pid true chosen) (not (is_directory place)) ENOTDIR _ (λ _. unchanged_fits k pid true chosen _))))))
call_fits k pid (Symlink target path) chosen well alive =
    allowed k (WillFit k pid true chosen) (is_empty target) ENOENT _ (λ _.
    allowed k (WillFit k pid true chosen) (nat_lt target_limit (length target)) ENAMETOOLONG _ (λ _.
    allowed k (WillFit k pid true chosen) (list_any (λ b. b == 0) target) EINVAL _ (λ _.
    after_bind k (WillFit k pid true chosen) (parsed k.bounds.path_bytes path) _ (whatever (given k (parsed k.bounds.path_bytes path)) (λ names.
    after_bind k (WillFit k pid true chosen) (last_of k.root EEXIST names) _ (weaken (given k (last_of k.root EEXIST names)) (last_of_right k well EEXIST names) (λ at last. fixed_at k well pid alive true chosen at (Link_to target) last at.found refl)))))))
call_fits k pid (Readlink path) chosen well alive =
    after_bind k (WillFit k pid true chosen) (parsed k.bounds.path_bytes path) _ (whatever (given k (parsed k.bounds.path_bytes path)) (λ names.
    after_bind k (WillFit k pid true chosen) (walk (k.root, Some A_directory) names) _ (whatever (given k (walk (k.root, Some A_directory) names)) (λ place.
    allowed k (WillFit k pid true chosen) (not (is_link place)) EINVAL _ (λ _. unchanged_fits k pid true chosen _)))))
call_fits k pid (Lstat path) chosen well alive =
    after_bind k (WillFit k pid true chosen) (parsed k.bounds.path_bytes path) _ (whatever (given k (parsed k.bounds.path_bytes path)) (λ names.
    after_bind k (WillFit k pid true chosen) (walk (k.root, Some A_directory) names) _ (whatever (given k (walk (k.root, Some A_directory) names)) (λ place. status_fits k well pid alive true chosen place))))
call_fits k pid (Mknod path special) chosen well alive =
    after_bind k (WillFit k pid true chosen) (parsed k.bounds.path_bytes path) _ (whatever (given k (parsed k.bounds.path_bytes path)) (λ names.
    after_bind k (WillFit k pid true chosen) (last_of k.root EEXIST names) _ (weaken (given k (last_of k.root EEXIST names)) (last_of_right k well EEXIST names) (λ at last. fixed_at k well pid alive true chosen at (special_object special) last at.found refl))))
call_fits k pid (Chmod path permissions) chosen well alive =
    after_bind k (WillFit k pid true chosen) (parsed k.bounds.path_bytes path) _ (whatever (given k (parsed k.bounds.path_bytes path)) (λ names.
    after_bind k (WillFit k pid true chosen) (walk (k.root, Some A_directory) names) _ (weaken (given k (walk (k.root, Some A_directory) names)) (walk_right k well k.root (Some A_directory) names (root_place k well)) (λ place right.
    allowed k (WillFit k pid true chosen) (is_link place) ELOOP _ (λ _. revised_fits k pid chosen place.0 (permitted permissions) (place_there k place right))))))
call_fits k pid (Chown path owner) chosen well alive =
    after_bind k (WillFit k pid true chosen) (parsed k.bounds.path_bytes path) _ (whatever (given k (parsed k.bounds.path_bytes path)) (λ names.
    after_bind k (WillFit k pid true chosen) (walk (k.root, Some A_directory) names) _ (weaken (given k (walk (k.root, Some A_directory) names)) (walk_right k well k.root (Some A_directory) names (root_place k well)) (λ place right.
    revised_fits k pid chosen place.0 (owned place.1 owner) (place_there k place right)))))
call_fits k pid (Fchmod f permissions) chosen well alive = with_slot k pid (Fchmod f permissions) f (WillFit k pid true chosen) _ (λ s held. revised_fits k pid chosen s.inode (permitted permissions) (slot_there k s (is_open k well pid f s held)))
call_fits k pid (Fchown f owner) chosen well alive = with_slot k pid (Fchown f owner) f (WillFit k pid true chosen) _ (λ s held. revised_fits k pid chosen s.inode (owned s.kind owner) (slot_there k s (is_open k well pid f s held)))
call_fits k pid (Dup f) chosen well alive = with_slot k pid (Dup f) f (WillFit k pid true chosen) _ (λ s held. dup_with k well pid alive true chosen f (Dup f) s held (free (own k pid (Dup f))) (all_free (own k pid (Dup f)).table 0 (open_limit (own k pid (Dup f)))))
call_fits k pid (Dup2 f g) chosen well alive = with_slot k pid (Dup2 f g) f (WillFit k pid true chosen) _ (λ s held. dup2_at k well pid alive true chosen f g s held (nat_le (open_limit (own k pid (Dup2 f g))) g) refl (f == g))
call_fits k pid Open_pipe chosen well alive = pipe_with k well pid alive true chosen Open_pipe (free (own k pid Open_pipe)) (all_free (own k pid Open_pipe).table 0 (open_limit (own k pid Open_pipe))) (free_different (own k pid Open_pipe).table 0 (open_limit (own k pid Open_pipe)))
call_fits k pid Fork chosen well alive = fork_at k well pid alive false chosen
call_fits k pid Exit chosen well alive = exit_at k well pid alive false chosen refl
