-- What a call gives one more name is what it has found: only `link` gives one, and by one edit.
use Rattle.std.proofs.Common.{◌≡◌, ℕ, ◌+◌, ◌-◌, min, ℤ, pos, negsuc, Bool, true, false, not, ◌&&◌, ◌||◌, ◌==◌, List, [], ◌∷◌, ◌++◌, length, take, if◌then◌else◌, nat_lt, nat_le, Option, Some, None, Result, Ok, Err, IfOk, refl, sym, ap, subst, ◌∙◌}
use Rattle.std.specs.Prelude.{⊤}
use Rattle.std.specs.List.{list_any}
use Rattle.model.specs.FiniteMap.{keys}
use Rattle.model.specs.State.{Name, A_file, A_directory, A_pipe, A_link, A_fifo, A_socket, Kernel, names_of}
use Rattle.model.specs.Aspects.{Keeps, KeepsAll}
use Rattle.model.specs.Plan.{Errno, Plan, Measure, Count_ends, Fit, Give, Refuse, Ask, shown, answer, seen, given, ◌>>=◌, ◌>>◌, refuse_if, or_refuse, EINVAL, ENOENT, ENAMETOOLONG, EEXIST, EBUSY, EBADF, EPERM, ENOTDIR, ENOTEMPTY, EISDIR, ELOOP, ENXIO, EFBIG, ESPIPE, EPIPE, EAGAIN}
use Rattle.model.specs.Changes.{Mode, There, Name_file, Unname_directory, Append, Open_inode, Set_offset, Wipe, Cut}
use Rattle.model.specs.Paths.{is_empty, is_below, path_names}
use Rattle.model.specs.Walks.{Place, Last, told, parsed, walk, last_of, is_directory, is_link}
use Rattle.ids.specs.Flags.{is_reading, is_writing, is_creating, is_exclusive, is_truncating}
use Rattle.model.specs.Calls.{OpenFlags, Call, Open, Close, Read, Pread, Write, Pwrite, Lseek, Ftruncate, Truncate, Stat, Fstat, Link, Unlink, Rename, Exchange, Fallocate, Space, Grow, Keep, Punch, Mkdir, Rmdir, List_directory, Symlink, Readlink, Lstat, Mknod, Chmod, Chown, Fchmod, Fchown, Dup, Dup2, Open_pipe, Fork, Exit, Done, Descriptor, Count, Bytes, Slot, Own, own}
use Rattle.model.specs.Plans.{Change, changed, unchanged, target_limit, most_processes, mode, cut_to, absent, status, is_special, slot, is_pipe, read_pipe, read_some, place_to_write, write_some, offset_named, length_named, aimed, sought, spaced, replaced_by_name, moved, opened, free, first_of_free, duplicated, piped, open_limit}
use Rattle.model.specs.Steps.{outcome, reads, edits_of, edits}
use Rattle.model.proofs.Laws.{all-append, append-all, goes_the_same_way}
use Rattle.call_laws.specs.WellFormed.{WellFormed}
use Rattle.call_laws.specs.Fits.{LinksFirst, OfOneKind}
use Rattle.call_laws.proofs.calls.ContentsFit.{write_pipe, put_at}
use Rattle.call_laws.proofs.calls.Rules.{after_bind, whatever, weaken, allowed, either_given, IsPlace, root_place, walk_right}

-- a plan's change gives a further name to such a number alone
abbrev Fine : (ℕ → Type 0) → Change → Type 0
Fine P c = LinksFirst P c.edits

module _ (k : Kernel) (P : ℕ → Type 0) where
  status_links : (place : Place) → IfOk (given k (status place)) (Fine P)
  status_links (n, None) = tt
  status_links (n, Some A_file) = tt
  status_links (n, Some A_directory) = tt
  status_links (n, Some A_pipe) = tt
  status_links (n, Some A_link) = tt
  status_links (n, Some A_fifo) = tt
  status_links (n, Some A_socket) = tt

  absent_links : (o : Option Place) (c : Change) → Fine P c → IfOk (given k (absent o >>= (λ _. Give c))) (Fine P)
  absent_links None c h = h
  absent_links (Some place) c h = tt

  offset_links : (b : Bool) (d place : ℕ) → LinksFirst P (if b then [] else Set_offset d place ∷ [])
  offset_links true d place = tt
  offset_links false d place = (tt, tt)

  read_pipe_links : (p : ℕ) (bytes : List ℕ) → IfOk (given k (read_pipe p bytes)) (Fine P)
  read_pipe_links p [] = allowed k (Fine P) (nat_lt 0 (answer k (Count_ends p)).1) EAGAIN (unchanged (Bytes [])) (λ _. tt)
  read_pipe_links p (b ∷ bytes) = (tt, tt)

  read_links : (s : Slot) (count : ℕ) → IfOk (given k (read_some s count)) (Fine P)
  read_links s count = either_given k (Fine P) (is_pipe s.kind) _ _ (λ _. read_pipe_links s.inode _) (λ _. offset_links _ s.description _)

  pipe_links : (s : Slot) (bytes : List ℕ) → IfOk (given k (write_pipe s bytes)) (Fine P)
  pipe_links s bytes =
      let fitting : ℕ = answer k (Fit s.inode (length bytes)) in
      allowed k (Fine P) ((answer k (Count_ends s.inode)).0 == 0) EPIPE _ (λ _.
      allowed k (Fine P) (nat_lt fitting (length bytes) && nat_le (length bytes) 512) EAGAIN (refuse_if (fitting == 0) EAGAIN >> changed (Count fitting) (Append s.inode (take fitting bytes) ∷ [])) (λ _.
      allowed k (Fine P) (fitting == 0) EAGAIN (changed (Count fitting) (Append s.inode (take fitting bytes) ∷ [])) (λ _. (tt, tt))))

  write_links : (s : Slot) (bytes : List ℕ) → IfOk (given k (write_some k.bounds.file_bytes s bytes)) (Fine P)
  write_links s bytes = either_given k (Fine P) (is_pipe s.kind) (write_pipe s bytes) (place_to_write s s.appending >>= put_at k.bounds.file_bytes s bytes)
      (λ _. pipe_links s bytes)
      (λ _. after_bind k (Fine P) (place_to_write s s.appending) (put_at k.bounds.file_bytes s bytes) (whatever (given k (place_to_write s s.appending)) (λ place. allowed k (Fine P) (nat_le k.bounds.file_bytes place) EFBIG _ (λ _. (tt, (tt, tt))))))

  sought_links : (s : Slot) (to : ℤ) → IfOk (given k (sought k.bounds.file_bytes s to)) (Fine P)
  sought_links s (pos place) = allowed k (Fine P) (nat_lt k.bounds.file_bytes place) EINVAL _ (λ _. (tt, tt))
  sought_links s (negsuc place) = tt

  cut_links : (f n pid : ℕ) (how : Mode) (b : Bool) → IfOk (given k ((if b then cut_to n 0 else Give []) >>= (λ cut. changed (Descriptor f) (cut ++ Open_inode 0 (There n) how pid f ∷ [])))) (Fine P)
  cut_links f n pid how true = (tt, (tt, tt))
  cut_links f n pid how false = (tt, tt)

  opened_links : (own : Own) (flags : OpenFlags) (f : ℕ) (at : Last) (o : Option Place) → IfOk (given k (opened own flags f at o)) (Fine P)
  opened_links own flags f at None = allowed k (Fine P) (not (is_creating flags)) ENOENT _ (λ _. (tt, (tt, tt)))
  opened_links own flags f at (Some place) =
      allowed k (Fine P) (is_creating flags && is_exclusive flags) EEXIST _ (λ _.
      allowed k (Fine P) (is_directory place) EISDIR _ (λ _.
      allowed k (Fine P) (is_link place) ELOOP _ (λ _.
      allowed k (Fine P) (is_special place) ENXIO _ (λ _. cut_links f place.0 own.pid (mode flags) (is_truncating flags)))))

  duplicated_links : (own : Own) (s : Slot) (fs : List ℕ) → IfOk (given k (duplicated own s fs)) (Fine P)
  duplicated_links own s [] = tt
  duplicated_links own s (f ∷ fs) = (tt, tt)

  piped_links : (own : Own) (fs : List ℕ) → IfOk (given k (piped own fs)) (Fine P)
  piped_links own [] = tt
  piped_links own (f ∷ []) = tt
  piped_links own (f ∷ g ∷ fs) = (tt, tt)

  moved_links : (from : Last) (what : Place) (to : Last) (o : Option Place) → IfOk (given k (moved from what to o)) (Fine P)
  moved_links from what to None = (tt, tt)
  moved_links from what to (Some old) =
      either_given k (Fine P) (what.0 == old.0) _ _ (λ _. tt) (λ _.
      allowed k (Fine P) (not (is_directory what) && is_directory old) EISDIR _ (λ _.
      allowed k (Fine P) (is_directory what && not (is_directory old)) ENOTDIR _ (λ _.
      after_bind k (Fine P) (replaced_by_name old.0 (is_directory old)) _ (whatever (given k (replaced_by_name old.0 (is_directory old))) (λ replaced. (tt, tt))))))

  spaced_links : (n at count : ℕ) (space : Space) → IfOk (given k (spaced n at count space)) (Fine P)
  spaced_links n at count Grow = grown (nat_lt (answer k (Measure n)) (at + count))
    where
      grown : (b : Bool) → Fine P (record { reply = Done; edits = if b then Cut n (answer k (Measure n)) (at + count) ∷ [] else [] })
      grown true = (tt, tt)
      grown false = tt
  spaced_links n at count Keep = tt
  spaced_links n at count Punch = wiped (nat_lt at (answer k (Measure n)))
    where
      wiped : (b : Bool) → Fine P (record { reply = Done; edits = if b then Wipe n at (min count (answer k (Measure n) - at)) ∷ [] else [] })
      wiped true = (tt, tt)
      wiped false = tt

  -- a path with its names, a slot, a last name, what is found, a walk
  with_path : (path : List ℕ) (f : List Name → Plan Change) → ((names : List Name) → path_names k.bounds.path_bytes path ≡ Ok names → IfOk (given k (f names)) (Fine P)) → IfOk (given k (parsed k.bounds.path_bytes path >>= f)) (Fine P)
  with_path path f h = by_result (path_names k.bounds.path_bytes path) refl
    where
      by_result : (r : Result (List Name) Errno) → path_names k.bounds.path_bytes path ≡ r → IfOk (given k (told r >>= f)) (Fine P)
      by_result (Ok names) e = h names e
      by_result (Err e) is = tt

  with_any : {A : Type 0} (m : Plan A) (f : A → Plan Change) → ((x : A) → IfOk (given k (f x)) (Fine P)) → IfOk (given k (m >>= f)) (Fine P)
  with_any m f h = after_bind k (Fine P) m f (whatever (given k m) h)

  -- what `link` finds at its first path
  abbrev Finds : Call → Type 0
  Finds (Link old path) = (from to : List Name) → path_names k.bounds.path_bytes old ≡ Ok from → path_names k.bounds.path_bytes path ≡ Ok to → IfOk (given k (walk (k.root, Some A_directory) from)) (λ what. P what.0)
  Finds call = ⊤

  links_first : (pid : ℕ) (call : Call) → Finds call → IfOk (outcome k pid call) (Fine P)
  links_first pid (Open path flags) h =
      allowed k (Fine P) (not (is_reading flags || is_writing flags)) EINVAL _ (λ _.
      allowed k (Fine P) (is_exclusive flags && not (is_creating flags)) EINVAL _ (λ _.
      allowed k (Fine P) (is_truncating flags && not (is_writing flags)) EINVAL _ (λ _.
      with_path path _ (λ names _.
      with_any (first_of_free (free (own k pid (Open path flags)))) _ (λ f.
      with_any (last_of k.root (if is_creating flags && is_exclusive flags then EEXIST else EISDIR) names) _ (λ at.
      opened_links (own k pid (Open path flags)) flags f at at.found))))))
  links_first pid (Close f) h = with_any (slot (own k pid (Close f)) f) _ (λ s. (tt, tt))
  links_first pid (Read f count) h = with_any (slot (own k pid (Read f count)) f) _ (λ s.
      allowed k (Fine P) (not s.reading) EBADF _ (λ _. either_given k (Fine P) (count == 0) _ _ (λ _. tt) (λ _. read_links s count)))
  links_first pid (Pread f count offset) h = with_any (slot (own k pid (Pread f count offset)) f) _ (λ s.
      allowed k (Fine P) (not s.reading) EBADF _ (λ _.
      allowed k (Fine P) (is_pipe s.kind) ESPIPE _ (λ _.
      with_any (or_refuse EINVAL (offset_named offset)) _ (λ at. either_given k (Fine P) (count == 0) _ _ (λ _. tt) (λ _. tt)))))
  links_first pid (Write f bytes) h = with_any (slot (own k pid (Write f bytes)) f) _ (λ s.
      allowed k (Fine P) (not s.writing) EBADF _ (λ _. either_given k (Fine P) (is_empty bytes) _ _ (λ _. tt) (λ _. write_links s bytes)))
  links_first pid (Pwrite f bytes offset) h = with_any (slot (own k pid (Pwrite f bytes offset)) f) _ (λ s.
      allowed k (Fine P) (not s.writing) EBADF _ (λ _.
      allowed k (Fine P) (is_pipe s.kind) ESPIPE _ (λ _.
      with_any (or_refuse EINVAL (offset_named offset)) _ (λ at.
      either_given k (Fine P) (is_empty bytes) _ _ (λ _. tt) (λ _. allowed k (Fine P) (nat_le k.bounds.file_bytes at) EFBIG _ (λ _. (tt, tt)))))))
  links_first pid (Lseek f move whence) h = with_any (slot (own k pid (Lseek f move whence)) f) _ (λ s.
      allowed k (Fine P) (is_pipe s.kind) ESPIPE _ (λ _. with_any (aimed s move whence) _ (λ sum. sought_links s sum)))
  links_first pid (Fallocate f offset len space) h = with_any (slot (own k pid (Fallocate f offset len space)) f) _ (λ s.
      with_any (or_refuse EINVAL (offset_named offset)) _ (λ at. with_any (or_refuse EINVAL (length_named len)) _ (λ count.
      allowed k (Fine P) (not s.writing) EBADF _ (λ _.
      allowed k (Fine P) (is_pipe s.kind) ESPIPE _ (λ _. allowed k (Fine P) (nat_lt k.bounds.file_bytes (at + count)) EFBIG _ (λ _. spaced_links s.inode at count space))))))
  links_first pid (Ftruncate f len) h = with_any (slot (own k pid (Ftruncate f len)) f) _ (λ s.
      allowed k (Fine P) (not s.writing) EBADF _ (λ _.
      allowed k (Fine P) (is_pipe s.kind) EINVAL _ (λ _. allowed k (Fine P) (nat_lt k.bounds.file_bytes len) EFBIG _ (λ _. (tt, tt)))))
  links_first pid (Truncate path len) h =
      with_path path _ (λ names _. with_any (walk (k.root, Some A_directory) names) _ (λ place.
      allowed k (Fine P) (is_directory place) EISDIR _ (λ _.
      allowed k (Fine P) (is_link place) ELOOP _ (λ _.
      allowed k (Fine P) (is_special place) EINVAL _ (λ _.
      allowed k (Fine P) (nat_lt k.bounds.file_bytes len) EFBIG _ (λ _. (tt, tt)))))))
  links_first pid (Stat path) h = with_path path _ (λ names _. with_any (walk (k.root, Some A_directory) names) _ (λ place. allowed k (Fine P) (is_link place) ELOOP _ (λ _. status_links place)))
  links_first pid (Fstat f) h = with_any (slot (own k pid (Fstat f)) f) _ (λ s. status_links (s.inode, s.kind))
  links_first pid (Link old path) h =
      with_path old _ (λ from is. with_path path _ (λ to is_too.
      after_bind k (Fine P) (walk (k.root, Some A_directory) from) _ (weaken (given k (walk (k.root, Some A_directory) from)) (h from to is is_too) (λ what found.
      allowed k (Fine P) (is_directory what) EPERM _ (λ _.
      with_any (last_of k.root EEXIST to) _ (λ at. absent_links at.found _ (found, tt)))))))
  links_first pid (Unlink path) h = with_path path _ (λ names _. with_any (last_of k.root EPERM names) _ (λ at. with_any (or_refuse ENOENT at.found) _ (λ what.
      allowed k (Fine P) (is_directory what) EPERM _ (λ _. (tt, tt)))))
  links_first pid (Rename old path) h = with_path old _ (λ from _. with_path path _ (λ to _.
      allowed k (Fine P) (is_empty from || is_empty to) EBUSY _ (λ _.
      with_any (last_of k.root EBUSY from) _ (λ at. with_any (or_refuse ENOENT at.found) _ (λ what.
      allowed k (Fine P) (is_directory what && is_below from to) EINVAL _ (λ _.
      with_any (last_of k.root EBUSY to) _ (λ onto. moved_links at what onto onto.found)))))))
  links_first pid (Exchange old path) h = with_path old _ (λ from _. with_path path _ (λ to _.
      allowed k (Fine P) (is_empty from || is_empty to) EBUSY _ (λ _.
      with_any (last_of k.root EBUSY from) _ (λ at. with_any (last_of k.root EBUSY to) _ (λ onto.
      with_any (or_refuse ENOENT at.found) _ (λ what. with_any (or_refuse ENOENT onto.found) _ (λ other.
      allowed k (Fine P) (is_directory what && is_below from to) EINVAL _ (λ _.
      allowed k (Fine P) (is_directory other && is_below to from) EINVAL _ (λ _.
      either_given k (Fine P) (what.0 == other.0) _ _ (λ _. tt) (λ _. (tt, tt)))))))))))
  links_first pid (Mkdir path) h = with_path path _ (λ names _. with_any (last_of k.root EEXIST names) _ (λ at. absent_links at.found _ (tt, tt)))
  links_first pid (Rmdir path) h = with_path path _ (λ names _. with_any (last_of k.root EBUSY names) _ (λ at. with_any (or_refuse ENOENT at.found) _ (λ what.
      allowed k (Fine P) (not (is_directory what)) ENOTDIR _ (λ _.
      allowed k (Fine P) (not (is_empty (keys (names_of k what.0)))) ENOTEMPTY (changed Done (Unname_directory at.parent at.name what.0 ∷ [])) (λ _. (tt, tt))))))
  links_first pid (List_directory path) h = with_path path _ (λ names _. with_any (walk (k.root, Some A_directory) names) _ (λ place.
      allowed k (Fine P) (is_link place) ELOOP _ (λ _. allowed k (Fine P) (not (is_directory place)) ENOTDIR _ (λ _. tt))))
  links_first pid (Symlink target path) h =
      allowed k (Fine P) (is_empty target) ENOENT _ (λ _.
      allowed k (Fine P) (nat_lt target_limit (length target)) ENAMETOOLONG _ (λ _.
      allowed k (Fine P) (list_any (λ b. b == 0) target) EINVAL _ (λ _.
      with_path path _ (λ names _. with_any (last_of k.root EEXIST names) _ (λ at. absent_links at.found _ (tt, tt))))))
  links_first pid (Readlink path) h = with_path path _ (λ names _. with_any (walk (k.root, Some A_directory) names) _ (λ place. allowed k (Fine P) (not (is_link place)) EINVAL _ (λ _. tt)))
  links_first pid (Lstat path) h = with_path path _ (λ names _. with_any (walk (k.root, Some A_directory) names) _ (λ place. status_links place))
  links_first pid (Mknod path special) h = with_path path _ (λ names _. with_any (last_of k.root EEXIST names) _ (λ at. absent_links at.found _ (tt, tt)))
  links_first pid (Chmod path permissions) h = with_path path _ (λ names _. with_any (walk (k.root, Some A_directory) names) _ (λ place. allowed k (Fine P) (is_link place) ELOOP _ (λ _. (tt, tt))))
  links_first pid (Chown path owner) h = with_path path _ (λ names _. with_any (walk (k.root, Some A_directory) names) _ (λ place. (tt, tt)))
  links_first pid (Fchmod f permissions) h = with_any (slot (own k pid (Fchmod f permissions)) f) _ (λ s. (tt, tt))
  links_first pid (Fchown f owner) h = with_any (slot (own k pid (Fchown f owner)) f) _ (λ s. (tt, tt))
  links_first pid (Dup f) h = with_any (slot (own k pid (Dup f)) f) _ (λ s. duplicated_links (own k pid (Dup f)) s (free (own k pid (Dup f))))
  links_first pid (Dup2 f g) h = with_any (slot (own k pid (Dup2 f g)) f) _ (λ s.
      allowed k (Fine P) (nat_le (open_limit (own k pid (Dup2 f g))) g) EBADF _ (λ _. either_given k (Fine P) (f == g) _ _ (λ _. tt) (λ _. (tt, tt))))
  links_first pid Open_pipe h = piped_links (own k pid Open_pipe) (free (own k pid Open_pipe))
  links_first pid Fork h = allowed k (Fine P) (nat_le most_processes k.made) EAGAIN _ (λ _. (tt, tt))
  links_first pid Exit h = (tt, tt)

-- the first part of what a plan sees
seen_first : {A B : Type 0} (k l : Kernel) (m : Plan A) (f : A → Plan B) → KeepsAll k l (seen k (m >>= f)) → KeepsAll k l (seen k m)
seen_first k l (Give x) f h = tt
seen_first k l (Refuse e) f h = tt
seen_first k l (Ask q next) f h =
    let parts = all-append (Keeps k l) (shown q (answer k q)) (seen k (next (answer k q) >>= f)) h in
    append-all (Keeps k l) (shown q (answer k q)) (seen k (next (answer k q))) parts.0 (seen_first k l (next (answer k q)) f parts.1)

-- a place that two states lead to is of one kind in both
one_place : (k l : Kernel) (r : Result Place Errno) → IfOk r (IsPlace k) → IfOk r (IsPlace l) → IfOk r (λ what. OfOneKind k l what.0)
one_place k l (Ok what) h g = sym g.right ∙ h.right
one_place k l (Err e) h g = tt

-- where another state keeps what a walk saw, it leads to the same there
one_walk : (k l : Kernel) → WellFormed k → WellFormed l → l.root ≡ k.root → (names : List Name) → KeepsAll k l (seen k (walk (k.root, Some A_directory) names)) → IfOk (given k (walk (k.root, Some A_directory) names)) (λ what. OfOneKind k l what.0)
one_walk k l well well_too root names kept =
    let way = goes_the_same_way k l (walk (k.root, Some A_directory) names) kept in
    let here = walk_right k well k.root (Some A_directory) names (root_place k well) in
    let there = walk_right l well_too k.root (Some A_directory) names (subst (λ n. IsPlace l (n, Some A_directory)) root (root_place l well_too)) in
    one_place k l (given k (walk (k.root, Some A_directory) names)) here (subst (λ r. IfOk r (IsPlace l)) way.given there)

-- the first path's walk is seen, where both are paths
walk_seen : (k l : Kernel) (pid : ℕ) (old path : List ℕ) (from to : List Name) → path_names k.bounds.path_bytes old ≡ Ok from → path_names k.bounds.path_bytes path ≡ Ok to → KeepsAll k l (reads k pid (Link old path)) → KeepsAll k l (seen k (walk (k.root, Some A_directory) from))
walk_seen k l pid old path from to is is_too kept =
    seen_first k l (walk (k.root, Some A_directory) from) (rest to)
    (subst (λ r. KeepsAll k l (seen k (told r >>= (λ names. walk (k.root, Some A_directory) from >>= rest names)))) is_too
    (subst (λ r. KeepsAll k l (seen k (told r >>= (λ names. parsed k.bounds.path_bytes path >>= (λ others. walk (k.root, Some A_directory) names >>= rest others))))) is kept))
  where
    rest : List Name → Place → Plan Change
    rest to what = refuse_if (is_directory what) EPERM >> (last_of k.root EEXIST to >>= (λ at. absent at.found >> changed Done (Name_file at.parent at.name what.0 ∷ [])))

finds : (k l : Kernel) → WellFormed k → WellFormed l → l.root ≡ k.root → (pid : ℕ) (call : Call) → KeepsAll k l (reads k pid call) → Finds k (OfOneKind k l) call
finds k l well well_too root pid (Link old path) kept = λ from to is is_too. one_walk k l well well_too root from (walk_seen k l pid old path from to is is_too kept)
finds k l well well_too root pid call kept = tt

edits_first : (P : ℕ → Type 0) (r : Result Change Errno) → IfOk r (Fine P) → LinksFirst P (edits_of r)
edits_first P (Ok c) h = h
edits_first P (Err e) h = tt

-- Where another state keeps what a call saw, what the call gives one more name is of one kind in both.
pub links_alike : (k l : Kernel) (pid : ℕ) (call : Call) → WellFormed k → WellFormed l → own l pid call ≡ own k pid call → KeepsAll k l (reads k pid call) → LinksFirst (OfOneKind k l) (edits k pid call)
links_alike k l pid call well well_too same kept =
    edits_first (OfOneKind k l) (outcome k pid call) (links_first k (OfOneKind k l) pid call (finds k l well well_too (ap (λ (o : Own). o.root) same) pid call kept))
