-- Of all calls only the status of the path `/` tells the root, and no edit gives it to a name or to a description.
use Rattle.std.proofs.Common.{◌≡◌, ◌≢◌, ◌⊎◌, ℕ, ◌+◌, ◌-◌, Bool, true, false, not, ◌&&◌, ◌||◌, nat_lt, nat_le, ◌==◌, if◌then◌else◌, ℤ, pos, negsuc, List, [], ◌∷◌, ◌++◌, map, length, min, Option, Some, None, Result, Ok, Err, IfOk, refl, sym, ap, subst, ◌∙◌, inl, inr, eqb-true}
use Rattle.std.specs.List.{AllByRecursion, list_any}
use Rattle.std.specs.Cmp.{nat_cmp_total}
use Rattle.ids.specs.Flags.{is_reading, is_writing, is_creating, is_exclusive, is_truncating}
use Rattle.model.specs.FiniteMap.{get, entries}
use Rattle.model.specs.State.{Name, Kind, A_file, A_directory, A_pipe, A_link, A_fifo, A_socket, Kernel, Description, mapped, kind_of, rights_of, names_of, entry_of}
use Rattle.model.specs.Plan.{Errno, EAGAIN, EBADF, EBUSY, EEXIST, EFBIG, EINVAL, EISDIR, ELOOP, ENXIO, ENAMETOOLONG, ENOENT, ENOTDIR, ENOTEMPTY, EPERM, EPIPE, ESPIPE, Look, List_names, Measure, Read_pipe, Count_ends, Find_offset, Read_file, Fit, Plan, Give, given, ◌>>=◌, ◌>>◌, ask, refuse_if, or_refuse, answer}
use Rattle.model.specs.Paths.{is_empty, is_below, is_no_name, in_front, pieces, with_first, names_in, names_behind, absolute_names, path_names}
use Rattle.model.specs.Limits.{name_limit}
use Rattle.model.specs.Walks.{told, parsed, look, walk, Last, last, last_of, Place, is_directory, is_link}
use Rattle.model.specs.Changes.{There, Edit, Wipe, Cut, Open_inode, Set_offset, process_of}
use Rattle.model.specs.Calls.{OpenFlags, Call, Open, Close, Read, Pread, Write, Pwrite, Lseek, Ftruncate, Truncate, Stat, Fstat, Link, Unlink, Rename, Exchange, Fallocate, Space, Grow, Keep, Punch, Mkdir, Rmdir, List_directory, Symlink, Readlink, Lstat, Mknod, Chmod, Chown, Fchmod, Fchown, Dup, Dup2, Open_pipe, Fork, Exit, Done, Descriptor, Bytes, Slot, Own, slot_of, own}
use Rattle.model.specs.Plans.{Change, changed, free, first_of_free, slot, is_pipe, status, is_special, target_limit, mode, cut_to, opened, read_pipe, read_some, place_to_write, write_some, offset_named, sought, length_named, aimed, spaced, swapped, moved, replaced_by_name, absent, duplicated, piped, forked, most_moved, whole_write, most_processes, open_limit}
use Rattle.model.specs.Steps.{outcome}
use Rattle.model.proofs.Laws.{all_entries}
use Rattle.call_laws.proofs.Laws.{after_bind, allowed, either_given, weaken, whatever, not_none, some_same}
use Rattle.renaming_laws.specs.Laws.{SlotsAreThere, TellsNot, TellsRoot}
use Rattle.renaming_laws.proofs.Sound.{found_all}
use Rattle.renaming_laws.proofs.Apart.{IsApart, GivesNot}

pub record IsGuarded (root : ℕ) (call : Call) (c : Change) : Type 0 where
  pub tells : TellsNot root (Ok c.reply) ⊎ TellsRoot root call (Ok c.reply)
  pub gives : AllByRecursion (GivesNot root) c.edits

-- the path of no names
some_piece : (b : ℕ) (bytes : List ℕ) (P : List Name → Type 0) → ((x : Name) (xs : List Name) → P (x ∷ xs)) → P (pieces (b ∷ bytes))
some_piece b bytes P h = by_test (b == 47)
  where
    in_first : (xs : List Name) → P (in_front b xs)
    in_first [] = h (b ∷ []) []
    in_first (x ∷ xs) = h (b ∷ x) xs

    by_test : (t : Bool) → P (if t then [] ∷ pieces bytes else in_front b (pieces bytes))
    by_test true = h [] (pieces bytes)
    by_test false = in_first (pieces bytes)

not_refused : {A : Type 0} (e : Errno) (x : A) → Err e ≡ Ok x → ⊥
not_refused e x is = absurd cc

some_name : (x : Name) (xs : List Name) → names_in (x ∷ xs) ≡ Ok [] → ⊥
some_name x xs is = by_length (nat_lt name_limit (length x)) is
  where
    by_rest : (rest : Result (List Name) Errno) → with_first x rest ≡ Ok [] → ⊥
    by_rest (Ok ys) e = absurd cc
    by_rest (Err why) e = not_refused why [] e

    by_name : (t : Bool) → (if t then Err EINVAL else with_first x (names_in xs)) ≡ Ok [] → ⊥
    by_name true e = not_refused EINVAL [] e
    by_name false e = by_rest (names_in xs) e

    by_length : (t : Bool) → (if t then Err ENAMETOOLONG else if is_no_name x then Err EINVAL else with_first x (names_in xs)) ≡ Ok [] → ⊥
    by_length true e = not_refused ENAMETOOLONG [] e
    by_length false e = by_name (is_no_name x) e

nothing_behind : (bytes : List ℕ) → names_behind bytes ≡ Ok [] → bytes ≡ []
nothing_behind [] is = refl
nothing_behind (b ∷ bytes) is = absurd (some_piece b bytes (λ xs. names_in xs ≡ Ok [] → ⊥) some_name is)

slash_alone : (bytes : List ℕ) → absolute_names bytes ≡ Ok [] → bytes ≡ 47 ∷ []
slash_alone [] is = absurd (not_refused EINVAL [] is)
slash_alone (b ∷ bytes) is = by_test (b == 47) refl is
  where
    by_test : (t : Bool) → (b == 47) ≡ t → (if t then names_behind bytes else Err EINVAL) ≡ Ok [] → b ∷ bytes ≡ 47 ∷ []
    by_test true same e = ap (λ n. n ∷ bytes) (eqb-true b 47 same) ∙ ap (λ rest. 47 ∷ rest) (nothing_behind bytes e)
    by_test false same e = absurd (not_refused EINVAL [] e)

root_path : (most : ℕ) (path : List ℕ) → path_names most path ≡ Ok [] → path ≡ 47 ∷ []
root_path most path is = by_length (nat_lt most (length path)) is
  where
    by_length : (t : Bool) → (if t then Err ENAMETOOLONG else absolute_names path) ≡ Ok [] → path ≡ 47 ∷ []
    by_length true e = absurd (not_refused ENAMETOOLONG [] e)
    by_length false e = slash_alone path e

-- what is found has another number
IsOther : ℕ → Option Place → Type 0
IsOther root found = (place : Place) → found ≡ Some place → place.0 ≢ root

module _ (root : ℕ) (k : Kernel) (apart : IsApart root k) where
  found_other : (d : ℕ) (x : Name) → IsOther root (entry_of k d x)
  unfolding IsOther
  found_other d x place e = by_number (get (names_of k d) x) refl e
    where
      by_number : (o : Option ℕ) → get (names_of k d) x ≡ o → mapped (λ n. (n, kind_of k n)) o ≡ Some place → place.0 ≢ root
      by_number None is e = absurd (not_none place (sym e))
      by_number (Some n) is e = λ same. apart.unnamed d x (is ∙ ap Some (ap (λ (p : Place). p.0) (some_same (n, kind_of k n) place e) ∙ same))

  look_other : (place : Place) (x : Name) → IfOk (given k (look place x)) (IsOther root)
  look_other place x = allowed k (IsOther root) (is_link place) ELOOP _ (λ _. allowed k (IsOther root) (not (is_directory place)) ENOTDIR (ask (Look place.0 x)) (λ _. found_other place.0 x))

  next_other : {A : Type 0} (P : A → Type 0) (p : Place → Plan A) → ((place : Place) → place.0 ≢ root → IfOk (given k (p place)) P) → (found : Option Place) → IsOther root found → IfOk (given k (or_refuse ENOENT found >>= p)) P
  unfolding IsOther
  next_other P p h None other = tt
  next_other P p h (Some place) other = h place (other place refl)

  walk_other : (place : Place) (xs : List Name) → place.0 ≢ root → IfOk (given k (walk place xs)) (λ place. place.0 ≢ root)
  walk_other place [] other = other
  walk_other place (x ∷ xs) other = after_bind k (λ place. place.0 ≢ root) (look place x) _ (weaken (given k (look place x)) (look_other place x) (λ found here.
      next_other (λ place. place.0 ≢ root) (λ next. walk next xs) (λ next there. walk_other next xs there) found here))

  walk_some : (place : Place) (x : Name) (xs : List Name) → IfOk (given k (walk place (x ∷ xs))) (λ place. place.0 ≢ root)
  walk_some place x xs = after_bind k (λ place. place.0 ≢ root) (look place x) _ (weaken (given k (look place x)) (look_other place x) (λ found here.
      next_other (λ place. place.0 ≢ root) (λ next. walk next xs) (λ next there. walk_other next xs there) found here))

  -- where it is no directory, it is not the root
  walk_to_file : (xs : List Name) → IfOk (given k (walk (root, Some A_directory) xs)) (λ place. is_directory place ≡ false → place.0 ≢ root)
  walk_to_file [] = λ is. absurd cc
  walk_to_file (x ∷ xs) = weaken (given k (walk (root, Some A_directory) (x ∷ xs))) (walk_some (root, Some A_directory) x xs) (λ place other _. other)

  last_other : (place : Place) (x : Name) (xs : List Name) → IfOk (given k (last place x xs)) (λ at. IsOther root at.found)
  last_other place x [] = after_bind k (λ at. IsOther root at.found) (look place x) _ (weaken (given k (look place x)) (look_other place x) (λ found here. here))
  last_other place x (y ∷ ys) = after_bind k (λ at. IsOther root at.found) (look place x) _ (weaken (given k (look place x)) (look_other place x) (λ found here.
      next_other (λ at. IsOther root at.found) (λ next. last next y ys) (λ next _. last_other next y ys) found here))

  last_of_other : (e : Errno) (xs : List Name) → IfOk (given k (last_of root e xs)) (λ at. IsOther root at.found)
  last_of_other e [] = tt
  last_of_other e (x ∷ xs) = last_other (root, Some A_directory) x xs

  -- what a descriptor gives is open on another inode
  inode_other : (d : ℕ) (o : Option Description) → get k.descriptions d ≡ o → o ≢ None → (slot_of k d o).inode ≢ root
  inode_other d None is there = absurd (there refl)
  inode_other d (Some it) is there = apart.unopened d it is

  all_other : (es : List (ℕ × ℕ)) → AllByRecursion (λ (e : ℕ × ℕ). get k.descriptions e.1 ≢ None) es → AllByRecursion (λ (e : ℕ × Slot). e.1.inode ≢ root) (map (λ (e : ℕ × ℕ). (e.0, slot_of k e.1 (get k.descriptions e.1))) es)
  all_other [] there = tt
  all_other (e ∷ es) there = (inode_other e.1 (get k.descriptions e.1) refl there.0, all_other es there.1)

  slot_other : SlotsAreThere k → (pid fd : ℕ) (call : Call) → IfOk (given k (slot (own k pid call) fd)) (λ it. it.inode ≢ root)
  slot_other slots pid fd call = found_all k (λ it. it.inode ≢ root) fd (own k pid call).table (all_other (entries (process_of k pid).table) (all_entries nat_cmp_total (λ fd d. get k.descriptions d ≢ None) (process_of k pid).table (λ fd d. slots.there pid fd d)))

  module _ (call : Call) where
    abbrev Fine : Change → Type 0
    Fine = IsGuarded root call

    then_whatever : {A : Type 0} (m : Plan A) (p : A → Plan Change) → ((x : A) → IfOk (given k (p x)) Fine) → IfOk (given k (m >>= p)) Fine
    then_whatever m p h = after_bind k Fine m p (whatever (given k m) h)

    then_given : {A : Type 0} (P : A → Type 0) (m : Plan A) (p : A → Plan Change) → IfOk (given k m) P → ((x : A) → P x → IfOk (given k (p x)) Fine) → IfOk (given k (m >>= p)) Fine
    then_given P m p is h = after_bind k Fine m p (weaken (given k m) is h)

    unless : (b : Bool) (e : Errno) (m : Plan Change) → IfOk (given k m) Fine → IfOk (given k (refuse_if b e >> m)) Fine
    unless b e m h = allowed k Fine b e m (λ _. h)

    either : (b : Bool) (m n : Plan Change) → IfOk (given k m) Fine → IfOk (given k n) Fine → IfOk (given k (if b then m else n)) Fine
    either b m n h g = either_given k Fine b m n (λ _. h) (λ _. g)

    status_fine : (n : ℕ) (what : Option Kind) → n ≢ root → IfOk (given k (status (n, what))) Fine
    status_fine n None other = tt
    status_fine n (Some A_file) other = record { tells = inl other; gives = tt }
    status_fine n (Some A_directory) other = record { tells = inl other; gives = tt }
    status_fine n (Some A_pipe) other = record { tells = inl other; gives = tt }
    status_fine n (Some A_link) other = record { tells = inl other; gives = tt }
    status_fine n (Some A_fifo) other = record { tells = inl other; gives = tt }
    status_fine n (Some A_socket) other = record { tells = inl other; gives = tt }

    open_fine : (own : Own) (flags : OpenFlags) (fd : ℕ) (at : Last) (found : Option Place) → IsOther root found → IfOk (given k (opened own flags fd at found)) Fine
    unfolding IsOther
    open_fine own flags fd at None other = unless (not (is_creating flags)) ENOENT _ (record { tells = inl tt; gives = (tt, (tt, tt)) })
    open_fine own flags fd at (Some place) other = unless (is_creating flags && is_exclusive flags) EEXIST _ (unless (is_directory place) EISDIR _ (unless (is_link place) ELOOP _ (unless (is_special place) ENXIO _ (by_test (is_truncating flags)))))
      where
        by_test : (b : Bool) → IfOk (given k ((if b then cut_to place.0 0 else Give []) >>= (λ cut. changed (Descriptor fd) (cut ++ Open_inode 0 (There place.0) (mode flags) own.pid fd ∷ [])))) Fine
        by_test true = record { tells = inl tt; gives = (tt, (other place refl, tt)) }
        by_test false = record { tells = inl tt; gives = (other place refl, tt) }

    read_pipe_fine : (p : ℕ) (bytes : List ℕ) → IfOk (given k (read_pipe p bytes)) Fine
    read_pipe_fine p [] = unless (nat_lt 0 (answer k (Count_ends p)).1) EAGAIN _ (record { tells = inl tt; gives = tt })
    read_pipe_fine p (b ∷ bytes) = record { tells = inl tt; gives = (tt, tt) }

    offset_fine : (bytes : List ℕ) (d place : ℕ) (b : Bool) → Fine (record { reply = Bytes bytes; edits = if b then [] else Set_offset d place ∷ [] })
    offset_fine bytes d place true = record { tells = inl tt; gives = tt }
    offset_fine bytes d place false = record { tells = inl tt; gives = (tt, tt) }

    edit_fine : (b : Bool) (e : Edit) → GivesNot root e → Fine (record { reply = Done; edits = if b then e ∷ [] else [] })
    edit_fine true e h = record { tells = inl tt; gives = (h, tt) }
    edit_fine false e h = record { tells = inl tt; gives = tt }

    read_fine : (it : Slot) (count : ℕ) → IfOk (given k (read_some it count)) Fine
    read_fine it count = either (is_pipe it.kind) _ _
        (read_pipe_fine it.inode (answer k (Read_pipe it.inode count)))
        (let offset : ℕ = answer k (Find_offset it.description) in
        let bytes : List ℕ = answer k (Read_file it.inode offset (min count most_moved)) in
        offset_fine bytes it.description (offset + length bytes) (is_empty bytes))

    write_fine : (largest : ℕ) (it : Slot) (bytes : List ℕ) → IfOk (given k (write_some largest it bytes)) Fine
    write_fine largest it bytes = either (is_pipe it.kind) _ _
        (let fitting : ℕ = answer k (Fit it.inode (length bytes)) in
        unless ((answer k (Count_ends it.inode)).0 == 0) EPIPE _ (unless (nat_lt fitting (length bytes) && nat_le (length bytes) whole_write) EAGAIN _ (unless (fitting == 0) EAGAIN _ (record { tells = inl tt; gives = (tt, tt) }))))
        (then_whatever (place_to_write it it.appending) _ (λ place. unless (nat_le largest place) EFBIG _ (record { tells = inl tt; gives = (tt, (tt, tt)) })))

    sought_fine : (largest : ℕ) (it : Slot) (z : ℤ) → IfOk (given k (sought largest it z)) Fine
    sought_fine largest it (pos place) = unless (nat_lt largest place) EINVAL _ (record { tells = inl tt; gives = (tt, tt) })
    sought_fine largest it (negsuc place) = tt

    moved_fine : (from : Last) (what : Place) (to : Last) (o : Option Place) → what.0 ≢ root → IfOk (given k (moved from what to o)) Fine
    moved_fine from what to None other = record { tells = inl tt; gives = (other, tt) }
    moved_fine from what to (Some old) other = either (what.0 == old.0) _ _ (record { tells = inl tt; gives = tt })
        (unless (not (is_directory what) && is_directory old) EISDIR _ (unless (is_directory what && not (is_directory old)) ENOTDIR _
        (then_whatever (replaced_by_name old.0 (is_directory old)) _ (λ replaced. record { tells = inl tt; gives = (other, tt) }))))

    spaced_fine : (n at count : ℕ) (space : Space) → IfOk (given k (spaced n at count space)) Fine
    spaced_fine n at count Grow = edit_fine (nat_lt (answer k (Measure n)) (at + count)) (Cut n (answer k (Measure n)) (at + count)) tt
    spaced_fine n at count Keep = record { tells = inl tt; gives = tt }
    spaced_fine n at count Punch = edit_fine (nat_lt at (answer k (Measure n))) (Wipe n at (min count (answer k (Measure n) - at))) tt

    swapped_fine : (at : Last) (what : Place) (onto : Last) (old : Place) → what.0 ≢ root → old.0 ≢ root → IfOk (given k (swapped at what onto old)) Fine
    swapped_fine at what onto old other other_too = either (what.0 == old.0) _ _ (record { tells = inl tt; gives = tt }) (record { tells = inl tt; gives = ((other, other_too), tt) })

    found_fine : (e : Errno) (found : Option Place) (p : Place → Plan Change) → IsOther root found → ((place : Place) → place.0 ≢ root → IfOk (given k (p place)) Fine) → IfOk (given k (or_refuse e found >>= p)) Fine
    unfolding IsOther
    found_fine e None p other h = tt
    found_fine e (Some place) p other h = h place (other place refl)

    duplicated_fine : (own : Own) (it : Slot) (fds : List ℕ) → IfOk (given k (duplicated own it fds)) Fine
    duplicated_fine own it [] = tt
    duplicated_fine own it (fd ∷ fds) = record { tells = inl tt; gives = (tt, tt) }

    piped_fine : (own : Own) (fds : List ℕ) → IfOk (given k (piped own fds)) Fine
    piped_fine own [] = tt
    piped_fine own (fd ∷ []) = tt
    piped_fine own (fd ∷ other ∷ fds) = record { tells = inl tt; gives = (tt, tt) }

    forked_fine : (own : Own) (birth : Option (ℕ × ℕ)) → IfOk (given k (forked own birth)) Fine
    forked_fine own (Some (made, priority)) = unless (nat_le most_processes made) EAGAIN _ (record { tells = inl tt; gives = (tt, tt) })
    forked_fine own None = tt

  -- the status of what is no link
  abbrev followed : Place → Plan Change
  followed place = refuse_if (is_link place) ELOOP >> status place

  stat_fine : (path : List ℕ) (names : Result (List Name) Errno) → path_names k.bounds.path_bytes path ≡ names → IfOk (given k (told names >>= (λ names. walk (root, Some A_directory) names >>= followed))) (IsGuarded root (Stat path))
  stat_fine path (Err e) is = tt
  stat_fine path (Ok []) is = record { tells = inr (record { is_stat = inl (ap Stat (root_path k.bounds.path_bytes path is)); rights = rights_of k root; tells = refl }); gives = tt }
  stat_fine path (Ok (x ∷ xs)) is = then_given (Stat path) (λ place. place.0 ≢ root) (walk (root, Some A_directory) (x ∷ xs)) followed (walk_some (root, Some A_directory) x xs) (λ place other.
      unless (Stat path) (is_link place) ELOOP (status place) (status_fine (Stat path) place.0 place.1 other))

  lstat_fine : (path : List ℕ) (names : Result (List Name) Errno) → path_names k.bounds.path_bytes path ≡ names → IfOk (given k (told names >>= (λ names. walk (root, Some A_directory) names >>= status))) (IsGuarded root (Lstat path))
  lstat_fine path (Err e) is = tt
  lstat_fine path (Ok []) is = record { tells = inr (record { is_stat = inr (ap Lstat (root_path k.bounds.path_bytes path is)); rights = rights_of k root; tells = refl }); gives = tt }
  lstat_fine path (Ok (x ∷ xs)) is = then_given (Lstat path) (λ place. place.0 ≢ root) (walk (root, Some A_directory) (x ∷ xs)) status (walk_some (root, Some A_directory) x xs) (λ place other. status_fine (Lstat path) place.0 place.1 other)

  pub call_guarded : k.root ≡ root → SlotsAreThere k → (pid : ℕ) (call : Call) → IfOk (outcome k pid call) (IsGuarded root call)
  call_guarded is slots pid (Open path flags) =
      unless (Open path flags) (not (is_reading flags || is_writing flags)) EINVAL _ (unless (Open path flags) (is_exclusive flags && not (is_creating flags)) EINVAL _ (unless (Open path flags) (is_truncating flags && not (is_writing flags)) EINVAL _
      (then_whatever (Open path flags) (parsed k.bounds.path_bytes path) _ (λ names. then_whatever (Open path flags) (first_of_free (free (own k pid (Open path flags)))) _ (λ fd.
      then_given (Open path flags) (λ at. IsOther root at.found) (last_of k.root (if is_creating flags && is_exclusive flags then EEXIST else EISDIR) names) _ (last_from (if is_creating flags && is_exclusive flags then EEXIST else EISDIR) names) (λ at other. open_fine (Open path flags) (own k pid (Open path flags)) flags fd at at.found other))))))
    where
      last_from : (e : Errno) (xs : List Name) → IfOk (given k (last_of k.root e xs)) (λ at. IsOther root at.found)
      last_from e xs = subst (λ n. IfOk (given k (last_of n e xs)) (λ at. IsOther root at.found)) (sym is) (last_of_other e xs)
  call_guarded is slots pid (Close fd) = then_whatever (Close fd) (slot (own k pid (Close fd)) fd) _ (λ it. record { tells = inl tt; gives = (tt, tt) })
  call_guarded is slots pid (Read fd count) = then_whatever (Read fd count) (slot (own k pid (Read fd count)) fd) _ (λ it.
      unless (Read fd count) (not it.reading) EBADF _ (either (Read fd count) (count == 0) _ _ (record { tells = inl tt; gives = tt }) (read_fine (Read fd count) it count)))
  call_guarded is slots pid (Pread fd count offset) = then_whatever (Pread fd count offset) (slot (own k pid (Pread fd count offset)) fd) _ (λ it.
      unless (Pread fd count offset) (not it.reading) EBADF _ (unless (Pread fd count offset) (is_pipe it.kind) ESPIPE _ (then_whatever (Pread fd count offset) (or_refuse EINVAL (offset_named offset)) _ (λ at.
      either (Pread fd count offset) (count == 0) _ _ (record { tells = inl tt; gives = tt }) (record { tells = inl tt; gives = tt })))))
  call_guarded is slots pid (Write fd bytes) = then_whatever (Write fd bytes) (slot (own k pid (Write fd bytes)) fd) _ (λ it.
      unless (Write fd bytes) (not it.writing) EBADF _ (either (Write fd bytes) (is_empty bytes) _ _ (record { tells = inl tt; gives = tt }) (write_fine (Write fd bytes) k.bounds.file_bytes it bytes)))
  call_guarded is slots pid (Pwrite fd bytes offset) = then_whatever (Pwrite fd bytes offset) (slot (own k pid (Pwrite fd bytes offset)) fd) _ (λ it.
      unless (Pwrite fd bytes offset) (not it.writing) EBADF _ (unless (Pwrite fd bytes offset) (is_pipe it.kind) ESPIPE _ (then_whatever (Pwrite fd bytes offset) (or_refuse EINVAL (offset_named offset)) _ (λ at.
      either (Pwrite fd bytes offset) (is_empty bytes) _ _ (record { tells = inl tt; gives = tt }) (unless (Pwrite fd bytes offset) (nat_le k.bounds.file_bytes at) EFBIG _ (record { tells = inl tt; gives = (tt, tt) }))))))
  call_guarded is slots pid (Lseek fd move whence) = then_whatever (Lseek fd move whence) (slot (own k pid (Lseek fd move whence)) fd) _ (λ it.
      unless (Lseek fd move whence) (is_pipe it.kind) ESPIPE _ (then_whatever (Lseek fd move whence) (aimed it move whence) _ (λ sum. sought_fine (Lseek fd move whence) k.bounds.file_bytes it sum)))
  call_guarded is slots pid (Fallocate fd offset len space) = then_whatever (Fallocate fd offset len space) (slot (own k pid (Fallocate fd offset len space)) fd) _ (λ it.
      then_whatever (Fallocate fd offset len space) (or_refuse EINVAL (offset_named offset)) _ (λ at. then_whatever (Fallocate fd offset len space) (or_refuse EINVAL (length_named len)) _ (λ count.
      unless (Fallocate fd offset len space) (not it.writing) EBADF _ (unless (Fallocate fd offset len space) (is_pipe it.kind) ESPIPE _ (unless (Fallocate fd offset len space) (nat_lt k.bounds.file_bytes (at + count)) EFBIG _ (spaced_fine (Fallocate fd offset len space) it.inode at count space))))))
  call_guarded is slots pid (Ftruncate fd len) = then_whatever (Ftruncate fd len) (slot (own k pid (Ftruncate fd len)) fd) _ (λ it.
      unless (Ftruncate fd len) (not it.writing) EBADF _ (unless (Ftruncate fd len) (is_pipe it.kind) EINVAL _ (unless (Ftruncate fd len) (nat_lt k.bounds.file_bytes len) EFBIG _ (record { tells = inl tt; gives = (tt, tt) }))))
  call_guarded is slots pid (Truncate path len) = then_whatever (Truncate path len) (parsed k.bounds.path_bytes path) _ (λ names. then_whatever (Truncate path len) (walk (k.root, Some A_directory) names) _ (λ place.
      unless (Truncate path len) (is_directory place) EISDIR _ (unless (Truncate path len) (is_link place) ELOOP _ (unless (Truncate path len) (is_special place) EINVAL _
      (unless (Truncate path len) (nat_lt k.bounds.file_bytes len) EFBIG _ (record { tells = inl tt; gives = (tt, tt) }))))))
  call_guarded is slots pid (Stat path) =
      subst (λ n. IfOk (given k (parsed k.bounds.path_bytes path >>= (λ names. walk (n, Some A_directory) names >>= (λ place. refuse_if (is_link place) ELOOP >> status place)))) (IsGuarded root (Stat path))) (sym is) (stat_fine path (path_names k.bounds.path_bytes path) refl)
  call_guarded is slots pid (Fstat fd) = then_given (Fstat fd) (λ it. it.inode ≢ root) (slot (own k pid (Fstat fd)) fd) _ (slot_other slots pid fd (Fstat fd)) (λ it other. status_fine (Fstat fd) it.inode it.kind other)
  call_guarded is slots pid (Link old path) = then_whatever (Link old path) (parsed k.bounds.path_bytes old) _ (λ from. then_whatever (Link old path) (parsed k.bounds.path_bytes path) _ (λ to.
      then_given (Link old path) (λ what. is_directory what ≡ false → what.0 ≢ root) (walk (k.root, Some A_directory) from) _
      (subst (λ n. IfOk (given k (walk (n, Some A_directory) from)) (λ what. is_directory what ≡ false → what.0 ≢ root)) (sym is) (walk_to_file from)) (λ what other.
      allowed k (IsGuarded root (Link old path)) (is_directory what) EPERM _ (λ file. then_whatever (Link old path) (last_of k.root EEXIST to) _ (λ at. then_whatever (Link old path) (absent at.found) _ (λ _. record { tells = inl tt; gives = (other file, tt) }))))))
  call_guarded is slots pid (Unlink path) = then_whatever (Unlink path) (parsed k.bounds.path_bytes path) _ (λ names. then_whatever (Unlink path) (last_of k.root EPERM names) _ (λ at. then_whatever (Unlink path) (or_refuse ENOENT at.found) _ (λ what.
      unless (Unlink path) (is_directory what) EPERM _ (record { tells = inl tt; gives = (tt, tt) }))))
  call_guarded is slots pid (Rename old path) = then_whatever (Rename old path) (parsed k.bounds.path_bytes old) _ (λ from. then_whatever (Rename old path) (parsed k.bounds.path_bytes path) _ (λ to. unless (Rename old path) (is_empty from || is_empty to) EBUSY _
      (then_given (Rename old path) (λ at. IsOther root at.found) (last_of k.root EBUSY from) _ (subst (λ n. IfOk (given k (last_of n EBUSY from)) (λ at. IsOther root at.found)) (sym is) (last_of_other EBUSY from)) (λ at other.
      found_fine (Rename old path) ENOENT at.found _ other (λ what apart. unless (Rename old path) (is_directory what && is_below from to) EINVAL _
      (then_whatever (Rename old path) (last_of k.root EBUSY to) _ (λ onto. moved_fine (Rename old path) at what onto onto.found apart)))))))
  call_guarded is slots pid (Exchange old path) = then_whatever (Exchange old path) (parsed k.bounds.path_bytes old) _ (λ from. then_whatever (Exchange old path) (parsed k.bounds.path_bytes path) _ (λ to. unless (Exchange old path) (is_empty from || is_empty to) EBUSY _
      (then_given (Exchange old path) (λ at. IsOther root at.found) (last_of k.root EBUSY from) _ (subst (λ n. IfOk (given k (last_of n EBUSY from)) (λ at. IsOther root at.found)) (sym is) (last_of_other EBUSY from)) (λ at other.
      then_given (Exchange old path) (λ onto. IsOther root onto.found) (last_of k.root EBUSY to) _ (subst (λ n. IfOk (given k (last_of n EBUSY to)) (λ onto. IsOther root onto.found)) (sym is) (last_of_other EBUSY to)) (λ onto other_too.
      found_fine (Exchange old path) ENOENT at.found _ other (λ what apart. found_fine (Exchange old path) ENOENT onto.found _ other_too (λ old_place apart_too.
      unless (Exchange old path) (is_directory what && is_below from to) EINVAL _ (unless (Exchange old path) (is_directory old_place && is_below to from) EINVAL _
      (swapped_fine (Exchange old path) at what onto old_place apart apart_too)))))))))
  call_guarded is slots pid (Mkdir path) = then_whatever (Mkdir path) (parsed k.bounds.path_bytes path) _ (λ names. then_whatever (Mkdir path) (last_of k.root EEXIST names) _ (λ at. then_whatever (Mkdir path) (absent at.found) _ (λ _. record { tells = inl tt; gives = (tt, tt) })))
  call_guarded is slots pid (Rmdir path) = then_whatever (Rmdir path) (parsed k.bounds.path_bytes path) _ (λ names. then_whatever (Rmdir path) (last_of k.root EBUSY names) _ (λ at. then_whatever (Rmdir path) (or_refuse ENOENT at.found) _ (λ what.
      unless (Rmdir path) (not (is_directory what)) ENOTDIR _ (unless (Rmdir path) (not (is_empty (answer k (List_names what.0)))) ENOTEMPTY _ (record { tells = inl tt; gives = (tt, tt) })))))
  call_guarded is slots pid (List_directory path) = then_whatever (List_directory path) (parsed k.bounds.path_bytes path) _ (λ names. then_whatever (List_directory path) (walk (k.root, Some A_directory) names) _ (λ place.
      unless (List_directory path) (is_link place) ELOOP _ (unless (List_directory path) (not (is_directory place)) ENOTDIR _ (record { tells = inl tt; gives = tt }))))
  call_guarded is slots pid (Symlink target path) =
      unless (Symlink target path) (is_empty target) ENOENT _ (unless (Symlink target path) (nat_lt target_limit (length target)) ENAMETOOLONG _ (unless (Symlink target path) (list_any (λ b. b == 0) target) EINVAL _
      (then_whatever (Symlink target path) (parsed k.bounds.path_bytes path) _ (λ names. then_whatever (Symlink target path) (last_of k.root EEXIST names) _ (λ at. then_whatever (Symlink target path) (absent at.found) _ (λ _. record { tells = inl tt; gives = (tt, tt) }))))))
  call_guarded is slots pid (Readlink path) = then_whatever (Readlink path) (parsed k.bounds.path_bytes path) _ (λ names. then_whatever (Readlink path) (walk (k.root, Some A_directory) names) _ (λ place.
      unless (Readlink path) (not (is_link place)) EINVAL _ (record { tells = inl tt; gives = tt })))
  call_guarded is slots pid (Lstat path) = subst (λ n. IfOk (given k (parsed k.bounds.path_bytes path >>= (λ names. walk (n, Some A_directory) names >>= status))) (IsGuarded root (Lstat path))) (sym is) (lstat_fine path (path_names k.bounds.path_bytes path) refl)
  call_guarded is slots pid (Mknod path special) = then_whatever (Mknod path special) (parsed k.bounds.path_bytes path) _ (λ names. then_whatever (Mknod path special) (last_of k.root EEXIST names) _ (λ at. then_whatever (Mknod path special) (absent at.found) _ (λ _. record { tells = inl tt; gives = (tt, tt) })))
  call_guarded is slots pid (Chmod path permissions) = then_whatever (Chmod path permissions) (parsed k.bounds.path_bytes path) _ (λ names. then_whatever (Chmod path permissions) (walk (k.root, Some A_directory) names) _ (λ place.
      unless (Chmod path permissions) (is_link place) ELOOP _ (record { tells = inl tt; gives = (tt, tt) })))
  call_guarded is slots pid (Chown path owner) = then_whatever (Chown path owner) (parsed k.bounds.path_bytes path) _ (λ names. then_whatever (Chown path owner) (walk (k.root, Some A_directory) names) _ (λ place. record { tells = inl tt; gives = (tt, tt) }))
  call_guarded is slots pid (Fchmod fd permissions) = then_whatever (Fchmod fd permissions) (slot (own k pid (Fchmod fd permissions)) fd) _ (λ it. record { tells = inl tt; gives = (tt, tt) })
  call_guarded is slots pid (Fchown fd owner) = then_whatever (Fchown fd owner) (slot (own k pid (Fchown fd owner)) fd) _ (λ it. record { tells = inl tt; gives = (tt, tt) })
  call_guarded is slots pid (Dup fd) = then_whatever (Dup fd) (slot (own k pid (Dup fd)) fd) _ (λ it. duplicated_fine (Dup fd) (own k pid (Dup fd)) it (free (own k pid (Dup fd))))
  call_guarded is slots pid (Dup2 fd other) = then_whatever (Dup2 fd other) (slot (own k pid (Dup2 fd other)) fd) _ (λ it.
      unless (Dup2 fd other) (nat_le (open_limit (own k pid (Dup2 fd other))) other) EBADF _ (either (Dup2 fd other) (fd == other) _ _ (record { tells = inl tt; gives = tt }) (record { tells = inl tt; gives = (tt, tt) })))
  call_guarded is slots pid Open_pipe = piped_fine Open_pipe (own k pid Open_pipe) (free (own k pid Open_pipe))
  call_guarded is slots pid Fork = forked_fine Fork (own k pid Fork) (own k pid Fork).birth
  call_guarded is slots pid Exit = record { tells = inl tt; gives = (tt, tt) }
