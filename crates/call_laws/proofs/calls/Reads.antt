-- What a call reads is there, and is left by tidying.
use Rattle.std.proofs.Common.{◌≡◌, ◌≢◌, ℕ, suc, ◌+◌, ◌-◌, ◌/◌, Bool, true, false, not, ◌&&◌, ◌||◌, ℤ, pos, negsuc, List, [], ◌∷◌, ◌++◌, map, length, take, min, Option, Some, None, Result, Ok, Err, IfOk, refl, sym, subst, ◌∙◌, ◌==◌, nat_lt, nat_le, if◌then◌else◌}
use Rattle.std.specs.List.{AllByRecursion, list_any}
use Rattle.model.specs.FiniteMap.{get, keys}
use Rattle.model.specs.State.{Name, Kind, A_file, A_directory, A_pipe, A_link, A_fifo, A_socket, Kernel, names_of, kind_of, entry_of}
use Rattle.model.specs.Aspects.{Aspect, Entry, Names, Size, Block, Links, Ends, Offset, Front, Back, Target, Rights}
use Rattle.model.specs.Plan.{Errno, EINVAL, ENOENT, EEXIST, EBUSY, EBADF, EPERM, ENOTDIR, ENOTEMPTY, EISDIR, EFBIG, ESPIPE, EPIPE, EAGAIN, ELOOP, ENXIO, ENAMETOOLONG, Plan, Give, Refuse, Ask, Count_ends, Find_offset, Read_file, Read_pipe, Fit, Measure, Pass_blocks, block_length, rising, answer, shown, given, seen, ◌>>=◌, ◌>>◌, ask, refuse_if, or_refuse}
use Rattle.model.specs.Holes.{behind_blocks}
use Rattle.model.specs.Paths.{is_empty, is_below, path_names}
use Rattle.model.specs.Walks.{Place, told, parsed, is_directory, is_link, walk, last, last_of, Last}
use Rattle.model.specs.Changes.{Mode, There, Move, Swap, Set_offset, Append, Open_inode, is_held, Replaced, Over_directory}
use Rattle.ids.specs.Flags.{is_reading, is_writing, is_creating, is_exclusive, is_truncating}
use Rattle.model.specs.Calls.{OpenFlags, Whence, From_start, From_offset, From_end, To_data, To_hole, Space, Grow, Keep, Punch, Exchange, Fallocate, Call, Open, Close, Read, Pread, Write, Pwrite, Lseek, Ftruncate, Truncate, Stat, Fstat, Link, Unlink, Rename, Mkdir, Rmdir, List_directory, Symlink, Readlink, Lstat, Mknod, Chmod, Chown, Fchmod, Fchown, Dup, Dup2, Open_pipe, Fork, Exit, Done, Descriptor, Count, New_place, Bytes, Slot, own}
use Rattle.model.specs.Plans.{Change, target_limit, absent, status, is_special, changed, unchanged, slot, slot_at, is_pipe, read_pipe, read_some, place_to_write, write_some, most_moved, offset_named, length_named, read_from, write_from, found_from, aimed, sought, spaced, swapped, replaced_by_name, moved, cut_to, opened, mode, free, first_of_free, duplicated, piped, open_limit}
use Rattle.model.specs.Steps.{reads}
use Rattle.model.proofs.Laws.{all-append, append-all}
use Rattle.call_laws.specs.Objects.{IsThere}
use Rattle.call_laws.specs.WellFormed.{CanBeLinked, CanBeOpened, WellFormed}
use Rattle.call_laws.proofs.Maps.{not_none}
use Rattle.call_laws.proofs.calls.Rules.{whatever, weaken, IsPlace, IsLast, root_place, entry_place, last_of_right, walk_right}
use Rattle.call_laws.proofs.calls.OwnSlots.{held_at}
use Rattle.call_laws.proofs.calls.OpenSlots.{IsOpen, is_open, kind_of_pipe, kind_of_file}
use Rattle.call_laws.proofs.calls.ContentsFit.{write_pipe, put_at}
use Rattle.std.proofs.lemmas.Bool.{not-false}
use Rattle.call_laws.proofs.Tidying.{reached, rooted_reached}

-- an inode of that kind which tidying leaves
pub record Stays (k : Kernel) (n : ℕ) (what : Kind) : Type 0 where
  pub kind : kind_of k n ≡ Some what
  pub left : reached k n ≡ true

-- an inode that may have several names which tidying leaves
pub record StaysLinked (k : Kernel) (n : ℕ) : Type 0 where
  pub linked : CanBeLinked (kind_of k n)
  pub left : reached k n ≡ true

-- an inode of some kind which tidying leaves
pub record StaysThere (k : Kernel) (n : ℕ) : Type 0 where
  pub there : kind_of k n ≢ None
  pub left : reached k n ≡ true

pub record StaysOpen (k : Kernel) (d : ℕ) : Type 0 where
  pub there : get k.descriptions d ≢ None
  pub held : is_held k d ≡ true

-- the aspect's object is there and is left
abbrev pub IsLeft : Kernel → Aspect → Type 0
IsLeft k (Entry d x) = Stays k d A_directory
IsLeft k (Names d) = Stays k d A_directory
IsLeft k (Size n) = Stays k n A_file
IsLeft k (Block n block) = Stays k n A_file
IsLeft k (Links n) = StaysLinked k n
IsLeft k (Ends p) = Stays k p A_pipe
IsLeft k (Offset d) = StaysOpen k d
IsLeft k (Front p) = Stays k p A_pipe
IsLeft k (Back p) = Stays k p A_pipe
IsLeft k (Target n) = Stays k n A_link
IsLeft k (Rights n) = StaysThere k n

abbrev pub AllLeft : Kernel → List Aspect → Type 0
AllLeft k = AllByRecursion (IsLeft k)

pub left_there : (k : Kernel) (a : Aspect) → IsLeft k a → IsThere k a
left_there k (Entry d x) h = h.kind
left_there k (Names d) h = h.kind
left_there k (Size n) h = h.kind
left_there k (Block n block) h = h.kind
left_there k (Links n) h = h.linked
left_there k (Ends p) h = h.kind
left_there k (Offset d) h = h.there
left_there k (Front p) h = h.kind
left_there k (Back p) h = h.kind
left_there k (Target n) h = h.kind
left_there k (Rights n) h = h.there

-- composed plans
seen_bind : {A B : Type 0} (k : Kernel) (m : Plan A) (f : A → Plan B) → AllLeft k (seen k m) → IfOk (given k m) (λ x. AllLeft k (seen k (f x))) → AllLeft k (seen k (m >>= f))
seen_bind k (Give x) f h g = g
seen_bind k (Refuse e) f h g = tt
seen_bind k (Ask q next) f h g =
    let parts = all-append (IsLeft k) (shown q (answer k q)) (seen k (next (answer k q))) h in
    append-all (IsLeft k) (shown q (answer k q)) (seen k (next (answer k q) >>= f)) parts.0 (seen_bind k (next (answer k q)) f parts.1 g)

refusal : {A : Type 0} (k : Kernel) (b : Bool) (e : Errno) (m : Plan A) → (b ≡ false → AllLeft k (seen k m)) → AllLeft k (seen k (refuse_if b e >> m))
refusal k true e m h = tt
refusal k false e m h = h refl

either : {A : Type 0} (k : Kernel) (b : Bool) (m n : Plan A) → (b ≡ true → AllLeft k (seen k m)) → (b ≡ false → AllLeft k (seen k n)) → AllLeft k (seen k (if b then m else n))
either k true m n h g = h refl
either k false m n h g = g refl

-- a path asks nothing
with_path : {A : Type 0} (k : Kernel) (path : List ℕ) (f : List Name → Plan A) → ((names : List Name) → AllLeft k (seen k (f names))) → AllLeft k (seen k (parsed k.bounds.path_bytes path >>= f))
with_path {A} k path f h = by_result (path_names k.bounds.path_bytes path)
  where
    by_result : (r : Result (List Name) Errno) → AllLeft k (seen k (told r >>= f))
    by_result (Ok names) = h names
    by_result (Err e) = tt

module _ (k : Kernel) (well : WellFormed k) where
  -- a place that is a directory, or a file
  directory_stays : (place : Place) → IsPlace k place → is_directory place ≡ true → Stays k place.0 A_directory
  directory_stays (n, Some A_directory) r e = record { kind = sym r.right; left = rooted_reached k n r.rooted }
  directory_stays (n, Some A_file) r e = absurd cc
  directory_stays (n, Some A_pipe) r e = absurd cc
  directory_stays (n, Some A_link) r e = absurd cc
  directory_stays (n, Some A_fifo) r e = absurd cc
  directory_stays (n, Some A_socket) r e = absurd cc
  directory_stays (n, None) r e = absurd cc

  file_stays : (place : Place) → IsPlace k place → is_directory place ≡ false → is_link place ≡ false → is_special place ≡ false → Stays k place.0 A_file
  file_stays (n, Some A_file) r e f g = record { kind = sym r.right; left = rooted_reached k n r.rooted }
  file_stays (n, Some A_directory) r e f g = absurd cc
  file_stays (n, Some A_link) r e f g = absurd cc
  file_stays (n, Some A_fifo) r e f g = absurd cc
  file_stays (n, Some A_socket) r e f g = absurd cc
  file_stays (n, Some A_pipe) r e f g = absurd r.can_be_named
  file_stays (n, None) r e f g = absurd r.can_be_named

  link_stays : (place : Place) → IsPlace k place → is_link place ≡ true → Stays k place.0 A_link
  link_stays (n, Some A_link) r e = record { kind = sym r.right; left = rooted_reached k n r.rooted }
  link_stays (n, Some A_file) r e = absurd cc
  link_stays (n, Some A_directory) r e = absurd cc
  link_stays (n, Some A_pipe) r e = absurd cc
  link_stays (n, Some A_fifo) r e = absurd cc
  link_stays (n, Some A_socket) r e = absurd cc
  link_stays (n, None) r e = absurd cc

  found_seen : {A : Type 0} (d : ℕ) (x : Name) (f : Place → Plan A) → ((place : Place) → IsPlace k place → AllLeft k (seen k (f place))) → (o : Option Place) → entry_of k d x ≡ o → AllLeft k (seen k (or_refuse ENOENT o >>= f))
  found_seen d x f h None e = tt
  found_seen d x f h (Some place) e = h place (entry_place k well d x place e)

  last_seen : (n : ℕ) (what : Option Kind) (x : Name) (xs : List Name) → IsPlace k (n, what) → AllLeft k (seen k (last (n, what) x xs))
  last_seen n None x [] r = tt
  last_seen n None x (y ∷ ys) r = tt
  last_seen n (Some A_file) x [] r = tt
  last_seen n (Some A_file) x (y ∷ ys) r = tt
  last_seen n (Some A_pipe) x [] r = tt
  last_seen n (Some A_pipe) x (y ∷ ys) r = tt
  last_seen n (Some A_link) x [] r = tt
  last_seen n (Some A_link) x (y ∷ ys) r = tt
  last_seen n (Some A_fifo) x [] r = tt
  last_seen n (Some A_fifo) x (y ∷ ys) r = tt
  last_seen n (Some A_socket) x [] r = tt
  last_seen n (Some A_socket) x (y ∷ ys) r = tt
  last_seen n (Some A_directory) x [] r = (directory_stays (n, Some A_directory) r refl, tt)
  last_seen n (Some A_directory) x (y ∷ ys) r = (directory_stays (n, Some A_directory) r refl, found_seen n x (λ next. last next y ys) (λ place p. last_seen place.0 place.1 y ys p) (entry_of k n x) refl)

  last_of_seen : (e : Errno) (names : List Name) → AllLeft k (seen k (last_of k.root e names))
  last_of_seen e [] = tt
  last_of_seen e (x ∷ xs) = last_seen k.root (Some A_directory) x xs (root_place k well)

  walk_seen : (n : ℕ) (what : Option Kind) (xs : List Name) → IsPlace k (n, what) → AllLeft k (seen k (walk (n, what) xs))
  walk_seen n what [] r = tt
  walk_seen n None (x ∷ xs) r = tt
  walk_seen n (Some A_file) (x ∷ xs) r = tt
  walk_seen n (Some A_pipe) (x ∷ xs) r = tt
  walk_seen n (Some A_link) (x ∷ xs) r = tt
  walk_seen n (Some A_fifo) (x ∷ xs) r = tt
  walk_seen n (Some A_socket) (x ∷ xs) r = tt
  walk_seen n (Some A_directory) (x ∷ xs) r = (directory_stays (n, Some A_directory) r refl, found_seen n x (λ next. walk next xs) (λ place p. walk_seen place.0 place.1 xs p) (entry_of k n x) refl)

  -- a plan that begins with a last name, a walk, or what is found
  with_last : {A : Type 0} (e : Errno) (names : List Name) (f : Last → Plan A) → ((at : Last) → IsLast k at → AllLeft k (seen k (f at))) → AllLeft k (seen k (last_of k.root e names >>= f))
  with_last e names f h = seen_bind k (last_of k.root e names) f (last_of_seen e names) (weaken (given k (last_of k.root e names)) (last_of_right k well e names) h)

  with_walk : {A : Type 0} (names : List Name) (f : Place → Plan A) → ((place : Place) → IsPlace k place → AllLeft k (seen k (f place))) → AllLeft k (seen k (walk (k.root, Some A_directory) names >>= f))
  with_walk names f h = seen_bind k (walk (k.root, Some A_directory) names) f (walk_seen k.root (Some A_directory) names (root_place k well))
      (weaken (given k (walk (k.root, Some A_directory) names)) (walk_right k well k.root (Some A_directory) names (root_place k well)) h)

  last_place : (at : Last) → IsLast k at → (place : Place) → at.found ≡ Some place → IsPlace k place
  last_place at last place e = entry_place k well at.parent at.name place (sym last.found ∙ e)

  with_found : {A : Type 0} (at : Last) → IsLast k at → (f : Place → Plan A) → ((place : Place) → IsPlace k place → AllLeft k (seen k (f place))) → (o : Option Place) → at.found ≡ o → AllLeft k (seen k (or_refuse ENOENT o >>= f))
  with_found at last f h None e = tt
  with_found at last f h (Some place) e = h place (last_place at last place e)

  absent_seen : (o : Option Place) (c : Change) → AllLeft k (seen k (absent o >>= (λ _. Give c)))
  absent_seen None c = tt
  absent_seen (Some place) c = tt

  -- an inode whose rights are told
  some_stays : (n : ℕ) (what : Kind) → Some what ≡ kind_of k n → reached k n ≡ true → StaysThere k n
  some_stays n what right e = record { there = λ none. not_none what (right ∙ none); left = e }

  place_there : (place : Place) → IsPlace k place → StaysThere k place.0
  place_there (n, None) r = absurd r.can_be_named
  place_there (n, Some what) r = some_stays n what r.right (rooted_reached k n r.rooted)

  slot_there : (s : Slot) → IsOpen k s → StaysThere k s.inode
  slot_there s held = by_kind s.kind held.kind held.can_be_opened
    where
      by_kind : (o : Option Kind) → o ≡ kind_of k s.inode → CanBeOpened o → StaysThere k s.inode
      by_kind None e h = absurd h
      by_kind (Some what) e h = some_stays s.inode what e held.reached

  status_seen : (place : Place) → place.1 ≡ kind_of k place.0 → reached k place.0 ≡ true → AllLeft k (seen k (status place))
  status_seen (n, None) right e = tt
  status_seen (n, Some A_file) right e = (record { kind = sym right; left = e }, (record { linked = subst CanBeLinked right tt; left = e }, (some_stays n A_file right e, tt)))
  status_seen (n, Some A_directory) right e = (some_stays n A_directory right e, tt)
  status_seen (n, Some A_pipe) right e = (some_stays n A_pipe right e, tt)
  status_seen (n, Some A_link) right e = (record { kind = sym right; left = e }, (record { linked = subst CanBeLinked right tt; left = e }, (some_stays n A_link right e, tt)))
  status_seen (n, Some A_fifo) right e = (record { linked = subst CanBeLinked right tt; left = e }, (some_stays n A_fifo right e, tt))
  status_seen (n, Some A_socket) right e = (record { linked = subst CanBeLinked right tt; left = e }, (some_stays n A_socket right e, tt))

  moved_seen : (at : Last) (what : Place) (onto : Last) → IsLast k onto → (o : Option Place) → onto.found ≡ o → AllLeft k (seen k (moved at what onto o))
  moved_seen at what onto last None e = tt
  moved_seen at what onto last (Some old) e =
      let rest = replaced_by_name old.0 (is_directory old) >>= (λ replaced. changed Done (Move at.parent at.name onto.parent onto.name what.0 replaced ∷ [])) in
      either k (what.0 == old.0) (unchanged Done) (refuse_if (not (is_directory what) && is_directory old) EISDIR >> (refuse_if (is_directory what && not (is_directory old)) ENOTDIR >> rest)) (λ _. tt)
      (λ _. refusal k (not (is_directory what) && is_directory old) EISDIR _ (λ _. refusal k (is_directory what && not (is_directory old)) ENOTDIR rest (λ _. replaced_seen (is_directory old) refl)))
    where
      when_empty : (b : Bool) → AllLeft k (seen k ((refuse_if b ENOTEMPTY >> Give (Over_directory old.0)) >>= (λ (replaced : Replaced). changed Done (Move at.parent at.name onto.parent onto.name what.0 replaced ∷ []))))
      when_empty true = tt
      when_empty false = tt

      replaced_seen : (b : Bool) → is_directory old ≡ b → AllLeft k (seen k (replaced_by_name old.0 b >>= (λ replaced. changed Done (Move at.parent at.name onto.parent onto.name what.0 replaced ∷ []))))
      replaced_seen true is = (directory_stays old (last_place onto last old e) is, when_empty (not (is_empty (keys (names_of k old.0)))))
      replaced_seen false is = tt

  -- a plan that begins with a slot
  with_slot : {A : Type 0} (pid : ℕ) (call : Call) (f : ℕ) (g : Slot → Plan A) → ((s : Slot) → IsOpen k s → AllLeft k (seen k (g s))) → AllLeft k (seen k (slot (own k pid call) f >>= g))
  with_slot {A} pid call f g h = by_slot (slot_at (own k pid call) f) refl
    where
      by_slot : (o : Option Slot) → slot_at (own k pid call) f ≡ o → AllLeft k (seen k (or_refuse EBADF o >>= g))
      by_slot None e = tt
      by_slot (Some s) e = h s (is_open k well pid f s (held_at k pid call f s e))

  pipe_stays : (s : Slot) → IsOpen k s → is_pipe s.kind ≡ true → Stays k s.inode A_pipe
  pipe_stays s held e = record { kind = sym held.kind ∙ kind_of_pipe s.kind e; left = held.reached }

  open_stays : (s : Slot) → IsOpen k s → is_pipe s.kind ≡ false → Stays k s.inode A_file
  open_stays s held e = record { kind = sym held.kind ∙ kind_of_file s.kind held.can_be_opened e; left = held.reached }

  place_stays : (s : Slot) → IsOpen k s → StaysOpen k s.description
  place_stays s held = record { there = λ none. not_none held.it (sym held.there ∙ none); held = held.held }

  each_block : (n : ℕ) → Stays k n A_file → (bs : List ℕ) → AllLeft k (map (Block n) bs)
  each_block n e [] = tt
  each_block n e (b ∷ bs) = (e, each_block n e bs)

  maybe : (b : Bool) (a : Aspect) → IsLeft k a → AllLeft k (if b then a ∷ [] else [])
  maybe true a e = (e, tt)
  maybe false a e = tt

  read_pipe_seen : (p : ℕ) → Stays k p A_pipe → (bytes : List ℕ) → AllLeft k (seen k (read_pipe p bytes))
  read_pipe_seen p h [] = (h, refusal k (nat_lt 0 (answer k (Count_ends p)).1) EAGAIN (unchanged (Bytes [])) (λ _. tt))
  read_pipe_seen p h (b ∷ bytes) = tt

  read_seen : (s : Slot) (count : ℕ) → IsOpen k s → AllLeft k (seen k (read_some s count))
  read_seen s count held = either k (is_pipe s.kind) (ask (Read_pipe s.inode count) >>= read_pipe s.inode)
      (ask (Find_offset s.description) >>= (λ offset. ask (Read_file s.inode offset (min count most_moved)) >>= (λ bytes. changed (Bytes bytes) (if is_empty bytes then [] else Set_offset s.description (offset + length bytes) ∷ []))))
      (λ pipe.
      let p : Stays k s.inode A_pipe = pipe_stays s held pipe in
      append-all (IsLeft k) (shown (Read_pipe s.inode count) (answer k (Read_pipe s.inode count))) (seen k (read_pipe s.inode (answer k (Read_pipe s.inode count)))) (p, maybe _ (Back s.inode) p) (read_pipe_seen s.inode p (answer k (Read_pipe s.inode count))))
      (λ file.
      let n : Stays k s.inode A_file = open_stays s held file in
      (place_stays s held, append-all (IsLeft k) (shown (Read_file s.inode (answer k (Find_offset s.description)) (min count most_moved)) (answer k (Read_file s.inode (answer k (Find_offset s.description)) (min count most_moved)))) [] (n, each_block s.inode n _) tt))

  place_seen : (s : Slot) → IsOpen k s → Stays k s.inode A_file → (b : Bool) → AllLeft k (seen k (place_to_write s b))
  place_seen s held n true = (n, tt)
  place_seen s held n false = (place_stays s held, tt)

  pipe_written_seen : (s : Slot) (bytes : List ℕ) → Stays k s.inode A_pipe → AllLeft k (seen k (write_pipe s bytes))
  pipe_written_seen s bytes p = (
    p,
    refusal k ((answer k (Count_ends s.inode)).0 == 0) EPIPE _ (λ _.
        append-all (IsLeft k) (shown (Fit s.inode (length bytes)) fitting) (seen k (refuse_if (nat_lt fitting (length bytes) && nat_le (length bytes) 512) EAGAIN >> (refuse_if (fitting == 0) EAGAIN >> changed (Count fitting) (Append s.inode (take fitting bytes) ∷ [])))) (p, maybe _ (Front s.inode) p)
        (refusal k (nat_lt fitting (length bytes) && nat_le (length bytes) 512) EAGAIN _ (λ _. refusal k (fitting == 0) EAGAIN (changed (Count fitting) (Append s.inode (take fitting bytes) ∷ [])) (λ _. tt)))),
  )
    where
      fitting : ℕ
      fitting = answer k (Fit s.inode (length bytes))

  put_seen : (s : Slot) (bytes : List ℕ) (place : ℕ) → Stays k s.inode A_file → AllLeft k (seen k (put_at k.bounds.file_bytes s bytes place))
  put_seen s bytes place n = refusal k (nat_le k.bounds.file_bytes place) EFBIG _ (λ _. (n, tt))

  write_seen : (s : Slot) (bytes : List ℕ) → IsOpen k s → AllLeft k (seen k (write_some k.bounds.file_bytes s bytes))
  write_seen s bytes held = either k (is_pipe s.kind) (write_pipe s bytes) (place_to_write s s.appending >>= put_at k.bounds.file_bytes s bytes) (λ pipe. pipe_written_seen s bytes (pipe_stays s held pipe))
      (λ file. seen_bind k (place_to_write s s.appending) (put_at k.bounds.file_bytes s bytes) (place_seen s held (open_stays s held file) s.appending) (whatever (given k (place_to_write s s.appending)) (λ place. put_seen s bytes place (open_stays s held file))))

  read_from_seen : (n offset count : ℕ) → Stays k n A_file → AllLeft k (seen k (read_from n offset count))
  read_from_seen n offset count stays =
      append-all (IsLeft k) (shown (Read_file n offset (min count most_moved)) (answer k (Read_file n offset (min count most_moved)))) [] (stays, each_block n stays _) tt

  write_from_seen : (n offset : ℕ) (bytes : List ℕ) → Stays k n A_file → AllLeft k (seen k (write_from k.bounds.file_bytes n offset bytes))
  write_from_seen n offset bytes stays = refusal k (nat_le k.bounds.file_bytes offset) EFBIG _ (λ _. (stays, tt))

  -- an offset that a call names asks nothing
  named_seen : {A : Type 0} (offset : ℤ) (f : ℕ → Plan A) → ((at : ℕ) → AllLeft k (seen k (f at))) → AllLeft k (seen k (or_refuse EINVAL (offset_named offset) >>= f))
  named_seen (pos at) f h = h at
  named_seen (negsuc n) f h = tt

  -- and neither does a length
  long_seen : {A : Type 0} (len : ℤ) (f : ℕ → Plan A) → ((count : ℕ) → AllLeft k (seen k (f count))) → AllLeft k (seen k (or_refuse EINVAL (length_named len) >>= f))
  long_seen (pos ℕ.zero) f h = tt
  long_seen (pos (suc more)) f h = h (suc more)
  long_seen (negsuc more) f h = tt

  found_seen_from : (holes : Bool) (n from : ℕ) → Stays k n A_file → AllLeft k (seen k (found_from holes n from))
  found_seen_from holes n from stays =
      let size : ℕ = answer k (Measure n) in
      let count : ℕ = suc ((size - 1) / block_length - from / block_length) in
      let passed : ℕ = answer k (Pass_blocks (not holes) n (from / block_length) count) in (
        stays,
        refusal k (nat_le size from) ENXIO _ (λ _.
            append-all (IsLeft k) (shown (Pass_blocks (not holes) n (from / block_length) count) passed) (seen k (refuse_if (not holes && nat_le size (behind_blocks from passed)) ENXIO >> Give (min size (behind_blocks from passed))))
            (each_block n stays (rising (from / block_length) (min count (suc passed))))
            (refusal k (not holes && nat_le size (behind_blocks from passed)) ENXIO (Give (min size (behind_blocks from passed))) (λ _. tt))),
      )

  sought_from_seen : (holes : Bool) (n : ℕ) (move : ℤ) → Stays k n A_file → AllLeft k (seen k (or_refuse ENXIO (offset_named move) >>= (λ from. found_from holes n from >>= (λ place. Give (pos place)))))
  sought_from_seen holes n (pos from) stays = seen_bind k (found_from holes n from) (λ place. Give (pos place)) (found_seen_from holes n from stays) (whatever (given k (found_from holes n from)) (λ _. tt))
  sought_from_seen holes n (negsuc from) stays = tt

  aimed_seen : (s : Slot) (move : ℤ) (whence : Whence) → IsOpen k s → is_pipe s.kind ≡ false → AllLeft k (seen k (aimed s move whence))
  aimed_seen s move From_start held file = tt
  aimed_seen s move From_offset held file = (place_stays s held, tt)
  aimed_seen s move From_end held file = (open_stays s held file, tt)
  aimed_seen s move To_data held file = sought_from_seen false s.inode move (open_stays s held file)
  aimed_seen s move To_hole held file = sought_from_seen true s.inode move (open_stays s held file)

  spaced_seen : (n at count : ℕ) (space : Space) → Stays k n A_file → AllLeft k (seen k (spaced n at count space))
  spaced_seen n at count Grow stays = (stays, tt)
  spaced_seen n at count Keep stays = tt
  spaced_seen n at count Punch stays = (stays, tt)

  swapped_seen : (at : Last) (what : Place) (onto : Last) (other : Place) → AllLeft k (seen k (swapped at what onto other))
  swapped_seen at what onto other = either k (what.0 == other.0) (unchanged Done) (changed Done (Swap at.parent at.name what.0 onto.parent onto.name other.0 ∷ [])) (λ _. tt) (λ _. tt)

  sought_seen : (s : Slot) (to : ℤ) → AllLeft k (seen k (sought k.bounds.file_bytes s to))
  sought_seen s (pos place) = refusal k (nat_lt k.bounds.file_bytes place) EINVAL (changed (New_place place) (Set_offset s.description place ∷ [])) (λ _. tt)
  sought_seen s (negsuc place) = tt

  -- what asks nothing
  first_seen : (fs : List ℕ) → AllLeft k (seen k (first_of_free fs))
  first_seen [] = tt
  first_seen (f ∷ fs) = tt

  duplicated_seen : (pid : ℕ) (call : Call) (s : Slot) (gs : List ℕ) → AllLeft k (seen k (duplicated (own k pid call) s gs))
  duplicated_seen pid call s [] = tt
  duplicated_seen pid call s (g ∷ gs) = tt

  piped_seen : (pid : ℕ) (call : Call) (fs : List ℕ) → AllLeft k (seen k (piped (own k pid call) fs))
  piped_seen pid call [] = tt
  piped_seen pid call (f ∷ []) = tt
  piped_seen pid call (f ∷ g ∷ fs) = tt

  cut_seen : (pid : ℕ) (how : Mode) (f n : ℕ) → Stays k n A_file → (b : Bool) → AllLeft k (seen k ((if b then cut_to n 0 else Give []) >>= (λ cut. changed (Descriptor f) (cut ++ Open_inode 0 (There n) how pid f ∷ []))))
  cut_seen pid how f n h true = (h, tt)
  cut_seen pid how f n h false = tt

  opened_seen : (pid : ℕ) (call : Call) (flags : OpenFlags) (f : ℕ) (at : Last) → IsLast k at → (o : Option Place) → at.found ≡ o → AllLeft k (seen k (opened (own k pid call) flags f at o))
  opened_seen pid call flags f at last None e = refusal k (not (is_creating flags)) ENOENT _ (λ _. tt)
  opened_seen pid call flags f at last (Some place) e = refusal k (is_creating flags && is_exclusive flags) EEXIST _ (λ _. refusal k (is_directory place) EISDIR _ (λ file.
      refusal k (is_link place) ELOOP _ (λ no_link. refusal k (is_special place) ENXIO _ (λ plain.
      cut_seen pid (mode flags) f place.0 (file_stays place (last_place at last place e) file no_link plain) (is_truncating flags)))))

pub calls_see : (k : Kernel) (pid : ℕ) (call : Call) → WellFormed k → AllLeft k (reads k pid call)
calls_see k pid (Open path flags) well =
    refusal k (not (is_reading flags || is_writing flags)) EINVAL _ (λ _.
    refusal k (is_exclusive flags && not (is_creating flags)) EINVAL _ (λ _.
    refusal k (is_truncating flags && not (is_writing flags)) EINVAL _ (λ _.
    with_path k path _ (λ names.
    seen_bind k (first_of_free (free (own k pid (Open path flags)))) _ (first_seen k well (free (own k pid (Open path flags)))) (whatever (given k (first_of_free (free (own k pid (Open path flags))))) (λ f.
    with_last k well (if is_creating flags && is_exclusive flags then EEXIST else EISDIR) names _ (λ at last. opened_seen k well pid (Open path flags) flags f at last at.found refl)))))))
calls_see k pid (Close f) well = with_slot k well pid (Close f) f _ (λ s held. tt)
calls_see k pid (Read f count) well = with_slot k well pid (Read f count) f _ (λ s held. refusal k (not s.reading) EBADF _ (λ _. either k (count == 0) (unchanged (Bytes [])) (read_some s count) (λ _. tt) (λ _. read_seen k well s count held)))
calls_see k pid (Pread f count offset) well = with_slot k well pid (Pread f count offset) f _ (λ s held. refusal k (not s.reading) EBADF _ (λ _. refusal k (is_pipe s.kind) ESPIPE _ (λ file. named_seen k well offset _ (λ at.
    either k (count == 0) (unchanged (Bytes [])) (read_from s.inode at count) (λ _. tt) (λ _. read_from_seen k well s.inode at count (open_stays k well s held file))))))
calls_see k pid (Write f bytes) well = with_slot k well pid (Write f bytes) f _ (λ s held. refusal k (not s.writing) EBADF _ (λ _. either k (is_empty bytes) (unchanged (Count 0)) (write_some k.bounds.file_bytes s bytes) (λ _. tt) (λ _. write_seen k well s bytes held)))
calls_see k pid (Pwrite f bytes offset) well = with_slot k well pid (Pwrite f bytes offset) f _ (λ s held. refusal k (not s.writing) EBADF _ (λ _. refusal k (is_pipe s.kind) ESPIPE _ (λ file. named_seen k well offset _ (λ at.
    either k (is_empty bytes) (unchanged (Count 0)) (write_from k.bounds.file_bytes s.inode at bytes) (λ _. tt) (λ _. write_from_seen k well s.inode at bytes (open_stays k well s held file))))))
calls_see k pid (Lseek f move whence) well = with_slot k well pid (Lseek f move whence) f _ (λ s held. refusal k (is_pipe s.kind) ESPIPE _ (λ file.
    seen_bind k (aimed s move whence) _ (aimed_seen k well s move whence held file) (whatever (given k (aimed s move whence)) (λ sum. sought_seen k well s sum))))
calls_see k pid (Fallocate f offset len space) well = with_slot k well pid (Fallocate f offset len space) f _ (λ s held. named_seen k well offset _ (λ at. long_seen k well len _ (λ count.
    refusal k (not s.writing) EBADF _ (λ _. refusal k (is_pipe s.kind) ESPIPE _ (λ file. refusal k (nat_lt k.bounds.file_bytes (at + count)) EFBIG _ (λ _. spaced_seen k well s.inode at count space (open_stays k well s held file)))))))
calls_see k pid (Ftruncate f len) well = with_slot k well pid (Ftruncate f len) f _ (λ s held. refusal k (not s.writing) EBADF _ (λ _. refusal k (is_pipe s.kind) EINVAL _ (λ file. refusal k (nat_lt k.bounds.file_bytes len) EFBIG _ (λ _. (open_stays k well s held file, tt)))))
calls_see k pid (Truncate path len) well = with_path k path _ (λ names. with_walk k well names _ (λ place r. refusal k (is_directory place) EISDIR _ (λ file. refusal k (is_link place) ELOOP _ (λ no_link. refusal k (is_special place) EINVAL _ (λ plain. refusal k (nat_lt k.bounds.file_bytes len) EFBIG _ (λ _. (file_stays k well place r file no_link plain, tt)))))))
calls_see k pid (Stat path) well = with_path k path _ (λ names. with_walk k well names _ (λ place r. refusal k (is_link place) ELOOP _ (λ _. status_seen k well place r.right (rooted_reached k place.0 r.rooted))))
calls_see k pid (Fstat f) well = with_slot k well pid (Fstat f) f _ (λ s held. status_seen k well (s.inode, s.kind) held.kind held.reached)
calls_see k pid (Link old path) well = with_path k old _ (λ from. with_path k path _ (λ to. with_walk k well from _ (λ what r. refusal k (is_directory what) EPERM _ (λ _.
    with_last k well EEXIST to _ (λ at last. absent_seen k well at.found _)))))
calls_see k pid (Unlink path) well = with_path k path _ (λ names. with_last k well EPERM names _ (λ at last. with_found k well at last _ (λ what r. refusal k (is_directory what) EPERM _ (λ _. tt)) at.found refl))
calls_see k pid (Rename old path) well = with_path k old _ (λ from. with_path k path _ (λ to. refusal k (is_empty from || is_empty to) EBUSY _ (λ _.
    with_last k well EBUSY from _ (λ at last. with_found k well at last _ (λ what r. refusal k (is_directory what && is_below from to) EINVAL _ (λ _.
    with_last k well EBUSY to _ (λ onto last_onto. moved_seen k well at what onto last_onto onto.found refl))) at.found refl))))
calls_see k pid (Exchange old path) well = with_path k old _ (λ from. with_path k path _ (λ to. refusal k (is_empty from || is_empty to) EBUSY _ (λ _.
    with_last k well EBUSY from _ (λ at last. with_last k well EBUSY to _ (λ onto last_onto. with_found k well at last _ (λ what r. with_found k well onto last_onto _ (λ other s.
    refusal k (is_directory what && is_below from to) EINVAL _ (λ _. refusal k (is_directory other && is_below to from) EINVAL _ (λ _. swapped_seen k well at what onto other))) onto.found refl) at.found refl)))))
calls_see k pid (Mkdir path) well = with_path k path _ (λ names. with_last k well EEXIST names _ (λ at last. absent_seen k well at.found _))
calls_see k pid (Rmdir path) well = with_path k path _ (λ names. with_last k well EBUSY names _ (λ at last. with_found k well at last _ (λ place r.
    refusal k (not (is_directory place)) ENOTDIR _ (λ dir. (directory_stays k well place r (not-false (is_directory place) dir), refusal k (not (is_empty (keys (names_of k place.0)))) ENOTEMPTY _ (λ _. tt)))) at.found refl))
calls_see k pid (List_directory path) well = with_path k path _ (λ names. with_walk k well names _ (λ place r. refusal k (is_link place) ELOOP _ (λ _. refusal k (not (is_directory place)) ENOTDIR _ (λ dir. (directory_stays k well place r (not-false (is_directory place) dir), tt)))))
calls_see k pid (Symlink target path) well =
    refusal k (is_empty target) ENOENT _ (λ _.
    refusal k (nat_lt target_limit (length target)) ENAMETOOLONG _ (λ _.
    refusal k (list_any (λ b. b == 0) target) EINVAL _ (λ _.
    with_path k path _ (λ names. with_last k well EEXIST names _ (λ at last. absent_seen k well at.found _)))))
calls_see k pid (Readlink path) well = with_path k path _ (λ names. with_walk k well names _ (λ place r. refusal k (not (is_link place)) EINVAL _ (λ link. (link_stays k well place r (not-false (is_link place) link), tt))))
calls_see k pid (Lstat path) well = with_path k path _ (λ names. with_walk k well names _ (λ place r. status_seen k well place r.right (rooted_reached k place.0 r.rooted)))
calls_see k pid (Mknod path special) well = with_path k path _ (λ names. with_last k well EEXIST names _ (λ at last. absent_seen k well at.found _))
calls_see k pid (Chmod path permissions) well = with_path k path _ (λ names. with_walk k well names _ (λ place r. refusal k (is_link place) ELOOP _ (λ _. (place_there k well place r, tt))))
calls_see k pid (Chown path owner) well = with_path k path _ (λ names. with_walk k well names _ (λ place r. (place_there k well place r, tt)))
calls_see k pid (Fchmod f permissions) well = with_slot k well pid (Fchmod f permissions) f _ (λ s held. (slot_there k well s held, tt))
calls_see k pid (Fchown f owner) well = with_slot k well pid (Fchown f owner) f _ (λ s held. (slot_there k well s held, tt))
calls_see k pid (Dup f) well = with_slot k well pid (Dup f) f _ (λ s held. duplicated_seen k well pid (Dup f) s (free (own k pid (Dup f))))
calls_see k pid (Dup2 f g) well = with_slot k well pid (Dup2 f g) f _ (λ s held. refusal k (nat_le (open_limit (own k pid (Dup2 f g))) g) EBADF _ (λ _. either k (f == g) (unchanged (Descriptor f)) _ (λ _. tt) (λ _. tt)))
calls_see k pid Open_pipe well = piped_seen k well pid Open_pipe (free (own k pid Open_pipe))
calls_see k pid Fork well = refusal k (nat_le 4096 k.made) EAGAIN _ (λ _. tt)
calls_see k pid Exit well = tt
