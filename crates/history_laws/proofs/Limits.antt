-- States stay within the limits: each edit that a plan gives keeps them, so each step of a plain run does.
use Rattle.std.proofs.Common.{◌≡◌, ℕ, suc, ◌+◌, ◌-◌, ◌<◌, ◌≤◌, ℤ, pos, negsuc, Bool, true, false, cond, not, ◌&&◌, ◌||◌, List, [], ◌∷◌, ◌++◌, length, take, drop, min, max, replicate, if◌then◌else◌, Option, Some, None, Result, Ok, Err, IfOk, refl, sym, ap, subst, ◌∙◌, arith, inl, inr, ◌==◌, nat_lt, nat_le, nat_cmp, length-take, length-drop, length-append, ltb-false, ltb-true, leb-false}
use Rattle.std.specs.Prelude.{⊤}
use Rattle.std.specs.List.{list_any}
use Rattle.std.proofs.lemmas.Bool.{cases_eq}
use Rattle.model.specs.FiniteMap.{FinMap, get, empty, insert, remove, get-empty}
use Rattle.model.specs.State.{Bounds, A_file, A_directory, A_pipe, A_link, A_fifo, A_socket, name_cmp, Kernel, names_of, Inode, File, Directory, Pipe, Fixed, Description, file_of, pipe_of, file_of_inode, pipe_of_inode, target_of_inode, offset_in, offset_of}
use Rattle.std.proofs.lemmas.List.{length-replicate}
use Rattle.model.specs.Plan.{Errno, Plan, Give, given, ◌>>=◌, answer, capacity, Measure, Fit, Count_ends, List_names, or_refuse, ENOENT, ENOTDIR, ENOTEMPTY, EEXIST, EBUSY, EPERM, EINVAL, EISDIR, EBADF, EAGAIN, EPIPE, EFBIG, ESPIPE, ELOOP, ENXIO, ENAMETOOLONG}
use Rattle.model.specs.Paths.{is_empty, is_below}
use Rattle.model.specs.Walks.{Place, parsed, walk, is_directory, is_link, Last, last_of}
use Rattle.model.specs.Changes.{Mode, There, Made, Edit, Make_directory, Make_file, Make_fixed, Name_file, Unname_file, Unname_directory, Swap, Wipe, Move, Put_bytes, Cut, Take, Append, Set_offset, Set_rights, Open_inode, Make_pipe, Share_slot, Clear_slot, New_process, End_process, number, applied, all_applied, set_inode, set_name, clear_name, set_description, set_offset, at_offset, at_start, open_at, to_read, to_write, written, sized, is_held, tidy}
use Rattle.ids.specs.Fixed.{fixed_target, special_object}
use Rattle.ids.specs.Flags.{is_reading, is_writing, is_creating, is_exclusive, is_truncating}
use Rattle.model.specs.Calls.{OpenFlags, Call, Open, Close, Read, Pread, Write, Pwrite, Lseek, Ftruncate, Truncate, Stat, Fstat, Link, Unlink, Rename, Exchange, Fallocate, Space, Grow, Keep, Punch, Mkdir, Rmdir, List_directory, Symlink, Readlink, Lstat, Mknod, Chmod, Chown, Fchmod, Fchown, Dup, Dup2, Open_pipe, Fork, Exit, Answer, Done, Descriptor, Count, New_place, Bytes, Slot, Special, Special_fifo, Special_socket, Own, own}
use Rattle.model.specs.Plans.{Change, changed, unchanged, absent, status, is_special, slot, is_pipe, read_pipe, read_some, place_to_write, write_some, most_moved, room, offset_named, read_from, write_from, length_named, aimed, spaced, sought, replaced_by_name, moved, free, first_of_free, duplicated, piped, opened, mode, cut_to, open_limit}
use Rattle.model.specs.Steps.{outcome, edits, edits_of, Step, Item, Run}
use Rattle.model.specs.Moments.{Setup, start, after}
use Rattle.call_laws.proofs.Laws.{the_bounds_stay, get_retained, reached, get_tidy, write_pipe, put_at, after_bind, whatever, allowed, either_given}
use Rattle.call_laws.specs.WellFormed.{WellFormed}
use Rattle.model.proofs.Laws.{length-sized, length-written, get_same, get_other}
use Rattle.history_laws.proofs.FromCallLaws.{FromCallLaws}
use Rattle.history_laws.specs.Limits.{most_processes, target_limit, IsWithinLimits, LimitsAreKept}
use Rattle.history_laws.proofs.Beginnings.{legality_follows}
use Rattle.history_laws.proofs.Histories.{serial_is, views}
use Rattle.history_laws.proofs.Standing.{what_stands}

-- what keeps a state within the limits: new inodes, new descriptions, new processes
set_within : (k : Kernel) (n : ℕ) (inode : Inode) → length (file_of_inode (Some inode)) ≤ k.bounds.file_bytes → length (pipe_of_inode (Some inode)) ≤ capacity → length (target_of_inode (Some inode)) ≤ target_limit → IsWithinLimits k → IsWithinLimits (set_inode n inode k)
set_within k n inode file pipe target w = record {
  made = w.made;
  files = λ t. at t (λ o. length (file_of_inode o) ≤ k.bounds.file_bytes) file (w.files t);
  pipes = λ t. at t (λ o. length (pipe_of_inode o) ≤ capacity) pipe (w.pipes t);
  targets = λ t. at t (λ o. length (target_of_inode o) ≤ target_limit) target (w.targets t);
  offsets = w.offsets;
}
  where
    at : (t : ℕ) (P : Option Inode → Type 0) → P (Some inode) → P (get k.inodes t) → P (get (insert k.inodes n inode) t)
    at t P new old = elim (cases_eq t n) [
      | inl same ↦ subst P (sym (ap (get (insert k.inodes n inode)) same ∙ get_same k.inodes n inode)) new
      | inr away ↦ subst P (sym (get_other k.inodes n t inode away)) old
    ]

describe_within : (k : Kernel) (d : ℕ) (it : Description) → it.offset ≤ k.bounds.file_bytes → IsWithinLimits k → IsWithinLimits (set_description d it k)
describe_within k d it low w = record {
  made = w.made;
  files = w.files;
  pipes = w.pipes;
  targets = w.targets;
  offsets = λ t. elim (cases_eq t d) [
    | inl same ↦ subst (λ (o : Option Description). offset_in o ≤ k.bounds.file_bytes) (sym (ap (get (insert k.descriptions d it)) same ∙ get_same k.descriptions d it)) low
    | inr away ↦ subst (λ (o : Option Description). offset_in o ≤ k.bounds.file_bytes) (sym (get_other k.descriptions d t it away)) (w.offsets t)
  ];
}

open_within : (k : Kernel) (d n : ℕ) (mode : Mode) (pid f : ℕ) → IsWithinLimits k → IsWithinLimits (open_at d n mode pid f k)
open_within k d n mode pid f w = let v = describe_within k d (at_start n mode) (omega arith) w in record { made = v.made; files = v.files; pipes = v.pipes; targets = v.targets; offsets = v.offsets }

-- what an edit asks, so that it keeps within the limits
abbrev Within : Kernel → Edit → Type 0
Within k (Make_fixed d x fixed i) = length (fixed_target fixed) ≤ target_limit
Within k (Put_bytes n place bytes before) = place + length bytes ≤ k.bounds.file_bytes
Within k (Wipe n place count) = place + count ≤ length (file_of k n)
Within k (Cut n before after) = after ≤ k.bounds.file_bytes
Within k (Append p bytes) = length (pipe_of k p) + length bytes ≤ capacity
Within k (Set_offset d place) = place ≤ k.bounds.file_bytes
Within k (New_process child parent pipes) = child ≤ most_processes
Within k _ = ⊤

abbrev AllWithin : List ℕ → Kernel → List Edit → Type 0
AllWithin chosen k [] = ⊤
AllWithin chosen k (e ∷ es) = Within k e × AllWithin chosen (applied chosen e k) es

offset_within : (k : Kernel) (d place : ℕ) (o : Option Description) → place ≤ k.bounds.file_bytes → IsWithinLimits k → IsWithinLimits (set_offset d place o k)
offset_within k d place None low w = w
offset_within k d place (Some it) low w = describe_within k d (at_offset place it) low w

names_within : (k : Kernel) (d : ℕ) (names : FinMap name_cmp ℕ) → IsWithinLimits k → IsWithinLimits (set_inode d (Directory names) k)
names_within k d names w = set_within k d (Directory names) (omega arith) (omega arith) (omega arith) w

edit_within : (chosen : List ℕ) (k : Kernel) (e : Edit) → IsWithinLimits k → Within k e → IsWithinLimits (applied chosen e k)
unfolding applied
edit_within chosen k (Make_directory d x i) w h =
    let made : Kernel = set_inode (number chosen (Made i)) (Directory empty) k in
    names_within made d (insert (names_of made d) x (number chosen (Made i))) (names_within k (number chosen (Made i)) empty w)
edit_within chosen k (Make_file d x i) w h =
    let made : Kernel = set_inode (number chosen (Made i)) (File []) k in
    names_within made d (insert (names_of made d) x (number chosen (Made i))) (set_within k (number chosen (Made i)) (File []) (omega arith) (omega arith) (omega arith) w)
edit_within chosen k (Make_fixed d x fixed i) w h =
    let made : Kernel = set_inode (number chosen (Made i)) (Fixed fixed) k in
    names_within made d (insert (names_of made d) x (number chosen (Made i))) (set_within k (number chosen (Made i)) (Fixed fixed) (omega arith) (omega arith) h w)
edit_within chosen k (Name_file d x n) w h = names_within k d (insert (names_of k d) x n) w
edit_within chosen k (Unname_file d x n) w h = names_within k d (remove (names_of k d) x) w
edit_within chosen k (Unname_directory d x n) w h = names_within k d (remove (names_of k d) x) w
edit_within chosen k (Move d x e y n replaced) w h = names_within (clear_name d x k) e (insert (names_of (clear_name d x k) e) y n) (names_within k d (remove (names_of k d) x) w)
edit_within chosen k (Swap d x n e y m) w h = names_within (set_name d x m k) e (insert (names_of (set_name d x m k) e) y n) (names_within k d (insert (names_of k d) x m) w)
edit_within chosen k (Put_bytes n place bytes before) w h =
    let long : length (written (file_of k n) place bytes) ≡ max (length (file_of k n)) (place + length bytes) = length-written (file_of k n) place bytes in
    let old : length (file_of k n) ≤ k.bounds.file_bytes = w.files n in
    let new : place + length bytes ≤ k.bounds.file_bytes = h in
    set_within k n (File (written (file_of k n) place bytes)) (omega arith) (omega arith) (omega arith) w
edit_within chosen k (Wipe n place count) w h =
    let long : length (written (file_of k n) place (replicate count 0)) ≡ max (length (file_of k n)) (place + length (replicate {A = ℕ} count 0)) = length-written (file_of k n) place (replicate count 0) in
    let many : length (replicate {A = ℕ} count 0) ≡ count = length-replicate {A = ℕ} count 0 in
    let old : length (file_of k n) ≤ k.bounds.file_bytes = w.files n in
    let within : place + count ≤ length (file_of k n) = h in
    set_within k n (File (written (file_of k n) place (replicate count 0))) (omega arith) (omega arith) (omega arith) w
edit_within chosen k (Cut n before after) w h =
    let long : length (sized after (file_of k n)) ≡ after = length-sized after (file_of k n) in
    let low : after ≤ k.bounds.file_bytes = h in
    set_within k n (File (sized after (file_of k n))) (omega arith) (omega arith) (omega arith) w
edit_within chosen k (Take p count) w h =
    let old : length (pipe_of k p) ≤ capacity = w.pipes p in
    set_within k p (Pipe (drop count (pipe_of k p))) (omega arith) (omega (arith, length-drop count (pipe_of k p))) (omega arith) w
edit_within chosen k (Append p bytes) w h =
    let low : length (pipe_of k p) + length bytes ≤ capacity = h in
    set_within k p (Pipe (pipe_of k p ++ bytes)) (omega arith) (omega (arith, length-append (pipe_of k p) bytes)) (omega arith) w
edit_within chosen k (Set_offset d place) w h = offset_within k d place (get k.descriptions d) h w
edit_within chosen k (Set_rights n rights) w h = record { made = w.made; files = w.files; pipes = w.pipes; targets = w.targets; offsets = w.offsets }
edit_within chosen k (Open_inode i inode mode pid f) w h = open_within k (number chosen (Made i)) (number chosen inode) mode pid f w
edit_within chosen k (Make_pipe i pid f g) w h =
    let made : Kernel = set_inode (number chosen (Made i)) (Pipe []) k in
    open_within (open_at (number chosen (Made (i + 1))) (number chosen (Made i)) to_read pid f made) (number chosen (Made (i + 2))) (number chosen (Made i)) to_write pid g
    (open_within made (number chosen (Made (i + 1))) (number chosen (Made i)) to_read pid f (set_within k (number chosen (Made i)) (Pipe []) (omega arith) (omega arith) (omega arith) w))
edit_within chosen k (Share_slot pid f d pipes) w h = record { made = w.made; files = w.files; pipes = w.pipes; targets = w.targets; offsets = w.offsets }
edit_within chosen k (Clear_slot pid f pipes) w h = record { made = w.made; files = w.files; pipes = w.pipes; targets = w.targets; offsets = w.offsets }
edit_within chosen k (New_process child parent pipes) w h = record { made = h; files = w.files; pipes = w.pipes; targets = w.targets; offsets = w.offsets }
edit_within chosen k (End_process pid pipes) w h = record { made = w.made; files = w.files; pipes = w.pipes; targets = w.targets; offsets = w.offsets }

edits_within : (chosen : List ℕ) (es : List Edit) (k : Kernel) → IsWithinLimits k → AllWithin chosen k es → IsWithinLimits (all_applied chosen es k)
edits_within chosen [] k w h = w
edits_within chosen (e ∷ es) k w h = edits_within chosen es (applied chosen e k) (edit_within chosen k e w h.0) h.1

-- tidying leaves what it leaves as it was
tidy_made : (k : Kernel) → (tidy k).made ≡ k.made
unfolding tidy
tidy_made k = refl

tidy_description : (k : Kernel) (d : ℕ) → get (tidy k).descriptions d ≡ cond (is_held k d) (get k.descriptions d) None
unfolding tidy
tidy_description k d = get_retained k.descriptions (is_held k) d

tidied_within : (k : Kernel) → IsWithinLimits k → IsWithinLimits (tidy k)
tidied_within k w = record {
  made = subst (λ made. made ≤ most_processes) (sym (tidy_made k)) w.made;
  files = λ n. subst (λ (b : Bounds). length (file_of (tidy k) n) ≤ b.file_bytes) (sym (the_bounds_stay.tidied k)) (subst (λ (o : Option Inode). length (file_of_inode o) ≤ k.bounds.file_bytes) (sym (get_tidy k n)) (by_file n (reached k n)));
  pipes = λ n. subst (λ (o : Option Inode). length (pipe_of_inode o) ≤ capacity) (sym (get_tidy k n)) (by_pipe n (reached k n));
  targets = λ n. subst (λ (o : Option Inode). length (target_of_inode o) ≤ target_limit) (sym (get_tidy k n)) (by_target n (reached k n));
  offsets = λ d. subst (λ (b : Bounds). offset_of (tidy k) d ≤ b.file_bytes) (sym (the_bounds_stay.tidied k)) (subst (λ (o : Option Description). offset_in o ≤ k.bounds.file_bytes) (sym (tidy_description k d)) (by_offset d (is_held k d)));
}
  where
    by_file : (n : ℕ) (b : Bool) → length (file_of_inode (cond b (get k.inodes n) None)) ≤ k.bounds.file_bytes
    by_file n true = w.files n
    by_file n false = omega arith

    by_pipe : (n : ℕ) (b : Bool) → length (pipe_of_inode (cond b (get k.inodes n) None)) ≤ capacity
    by_pipe n true = w.pipes n
    by_pipe n false = omega arith

    by_target : (n : ℕ) (b : Bool) → length (target_of_inode (cond b (get k.inodes n) None)) ≤ target_limit
    by_target n true = w.targets n
    by_target n false = omega arith

    by_offset : (d : ℕ) (b : Bool) → offset_in (cond b (get k.descriptions d) None) ≤ k.bounds.file_bytes
    by_offset d true = w.offsets d
    by_offset d false = omega arith

-- before any entry
start_within : (root : ℕ) (setup : Setup) → length setup.priorities ≤ most_processes → IsWithinLimits (start root setup)
start_within root setup few = let bare = names_within (record (start root setup) { inodes = empty }) root empty none in record { made = bare.made; files = bare.files; pipes = bare.pipes; targets = bare.targets; offsets = bare.offsets }
  where
    none : IsWithinLimits (record (start root setup) { inodes = empty })
    none = record {
      made = few;
      files = λ n. subst (λ (o : Option Inode). length (file_of_inode o) ≤ setup.bounds.file_bytes) (sym (get-empty nat_cmp n)) (omega arith);
      pipes = λ n. subst (λ (o : Option Inode). length (pipe_of_inode o) ≤ capacity) (sym (get-empty nat_cmp n)) (omega arith);
      targets = λ n. subst (λ (o : Option Inode). length (target_of_inode o) ≤ target_limit) (sym (get-empty nat_cmp n)) (omega arith);
      offsets = λ d. subst (λ (o : Option Description). offset_in o ≤ setup.bounds.file_bytes) (sym (get-empty nat_cmp d)) (omega arith);
    }

-- the edits of each call
module _ (k : Kernel) (w : IsWithinLimits k) (chosen : List ℕ) where
  abbrev Fine : Change → Type 0
  Fine c = AllWithin chosen k c.edits

  opened_within : (o : Own) (flags : OpenFlags) (f : ℕ) (at : Last) (found : Option Place) → IfOk (given k (opened o flags f at found)) Fine
  opened_within o flags f at None = allowed k Fine (not (is_creating flags)) ENOENT _ (λ _. (tt, (tt, tt)))
  opened_within o flags f at (Some place) =
      allowed k Fine (is_creating flags && is_exclusive flags) EEXIST _ (λ _.
      allowed k Fine (is_directory place) EISDIR _ (λ _.
      allowed k Fine (is_link place) ELOOP _ (λ _.
      allowed k Fine (is_special place) ENXIO _ (λ _. by_test (is_truncating flags)))))
    where
      by_test : (b : Bool) → IfOk (given k ((if b then cut_to place.0 0 else Give []) >>= (λ cut. changed (Descriptor f) (cut ++ Open_inode 0 (There place.0) (mode flags) o.pid f ∷ [])))) Fine
      by_test true = (omega arith, (tt, tt))
      by_test false = (tt, tt)

  status_within : (place : Place) → IfOk (given k (status place)) Fine
  status_within (n, Some A_file) = tt
  status_within (n, Some A_directory) = tt
  status_within (n, Some A_pipe) = tt
  status_within (n, Some A_link) = tt
  status_within (n, Some A_fifo) = tt
  status_within (n, Some A_socket) = tt
  status_within (n, None) = tt

  read_pipe_within : (p : ℕ) (bytes : List ℕ) → IfOk (given k (read_pipe p bytes)) Fine
  read_pipe_within p [] = allowed k Fine (nat_lt 0 (answer k (Count_ends p)).1) EAGAIN (unchanged (Bytes [])) (λ _. tt)
  read_pipe_within p (b ∷ bytes) = (tt, tt)

  -- what was read lies in the file
  read_to : (s : Slot) (offset : ℕ) (bytes : List ℕ) → (is_empty bytes ≡ false → offset + length bytes ≤ k.bounds.file_bytes) → Fine (record { reply = Bytes bytes; edits = if is_empty bytes then [] else Set_offset s.description (offset + length bytes) ∷ [] })
  read_to s offset [] low = tt
  read_to s offset (b ∷ bytes) low = (low refl, tt)

  in_file : (file : List ℕ) (offset count : ℕ) → length file ≤ k.bounds.file_bytes → is_empty (take count (drop offset file)) ≡ false → offset + length (take count (drop offset file)) ≤ k.bounds.file_bytes
  in_file file offset count low some =
      let taken = length-take count (drop offset file) in
      let dropped = length-drop offset file in
      let more : 0 < length (take count (drop offset file)) = not_empty (take count (drop offset file)) some in
      omega (arith, taken, dropped)
    where
      not_empty : (xs : List ℕ) → is_empty xs ≡ false → 0 < length xs
      not_empty [] h = absurd cc
      not_empty (x ∷ xs) h = omega arith

  read_within : (s : Slot) (count : ℕ) → IfOk (given k (read_some s count)) Fine
  read_within s count =
      either_given k Fine (is_pipe s.kind) _ _
      (λ _. read_pipe_within s.inode (take count (pipe_of k s.inode)))
      (λ _. read_to s (offset_of k s.description) (take (min count most_moved) (drop (offset_of k s.description) (file_of k s.inode))) (in_file (file_of k s.inode) (offset_of k s.description) (min count most_moved) (w.files s.inode)))

  append_within : (p : ℕ) (bytes : List ℕ) → Within k (Append p (take (min (length bytes) (capacity - length (pipe_of k p))) bytes))
  append_within p bytes =
      let old : length (pipe_of k p) ≤ capacity = w.pipes p in
      omega (arith, length-take (min (length bytes) (capacity - length (pipe_of k p))) bytes)

  put_within : (s : Slot) (bytes : List ℕ) (place : ℕ) → IfOk (given k (put_at k.bounds.file_bytes s bytes place)) Fine
  unfolding applied
  put_within s bytes place = allowed k Fine (nat_le k.bounds.file_bytes place) EFBIG _ (λ low.
      let below : place < k.bounds.file_bytes = leb-false k.bounds.file_bytes place low in
      let fits : place + length (take (room k.bounds.file_bytes place) bytes) ≤ k.bounds.file_bytes = omega (arith, length-take (room k.bounds.file_bytes place) bytes) in
      (fits, (fits, tt)))

  write_within : (s : Slot) (bytes : List ℕ) → IfOk (given k (write_some k.bounds.file_bytes s bytes)) Fine
  write_within s bytes =
      either_given k Fine (is_pipe s.kind) (write_pipe s bytes) (place_to_write s s.appending >>= put_at k.bounds.file_bytes s bytes)
      (λ _. allowed k Fine ((answer k (Count_ends s.inode)).0 == 0) EPIPE _ (λ _.
      allowed k Fine (nat_lt (answer k (Fit s.inode (length bytes))) (length bytes) && nat_le (length bytes) 512) EAGAIN _ (λ _.
      allowed k Fine (answer k (Fit s.inode (length bytes)) == 0) EAGAIN _ (λ _. (append_within s.inode bytes, tt)))))
      (λ _. after_bind k Fine (place_to_write s s.appending) (put_at k.bounds.file_bytes s bytes) (whatever (given k (place_to_write s s.appending)) (put_within s bytes)))

  write_from_within : (n offset : ℕ) (bytes : List ℕ) → IfOk (given k (write_from k.bounds.file_bytes n offset bytes)) Fine
  unfolding applied
  write_from_within n offset bytes = allowed k Fine (nat_le k.bounds.file_bytes offset) EFBIG _ (λ low.
      let below : offset < k.bounds.file_bytes = leb-false k.bounds.file_bytes offset low in
      let fits : offset + length (take (room k.bounds.file_bytes offset) bytes) ≤ k.bounds.file_bytes = omega (arith, length-take (room k.bounds.file_bytes offset) bytes) in
      (fits, tt))

  sought_within : (s : Slot) (to : ℤ) → IfOk (given k (sought k.bounds.file_bytes s to)) Fine
  sought_within s (pos place) = allowed k Fine (nat_lt k.bounds.file_bytes place) EINVAL (changed (New_place place) (Set_offset s.description place ∷ [])) (λ low. (ltb-false k.bounds.file_bytes place low, tt))
  sought_within s (negsuc place) = tt

  spaced_within : (n at count : ℕ) (space : Space) → at + count ≤ k.bounds.file_bytes → IfOk (given k (spaced n at count space)) Fine
  spaced_within n at count Grow low = by_test (nat_lt (answer k (Measure n)) (at + count))
    where
      by_test : (b : Bool) → Fine (record { reply = Done; edits = if b then Cut n (answer k (Measure n)) (at + count) ∷ [] else [] })
      by_test true = (low, tt)
      by_test false = tt
  spaced_within n at count Keep low = tt
  spaced_within n at count Punch low = by_test (nat_lt at (answer k (Measure n))) refl
    where
      by_test : (b : Bool) → nat_lt at (answer k (Measure n)) ≡ b → Fine (record { reply = Done; edits = if b then Wipe n at (min count (answer k (Measure n) - at)) ∷ [] else [] })
      by_test true e = (let below : at < length (file_of k n) = ltb-true at (length (file_of k n)) e in omega arith, tt)
      by_test false e = tt

  -- a move, whatever it replaces
  moved_within : (from : Last) (what : Place) (to : Last) (o : Option Place) → IfOk (given k (moved from what to o)) Fine
  moved_within from what to None = (tt, tt)
  moved_within from what to (Some old) =
      either_given k Fine (what.0 == old.0) (unchanged Done) _ (λ _. tt) (λ _.
      allowed k Fine (not (is_directory what) && is_directory old) EISDIR _ (λ _.
      allowed k Fine (is_directory what && not (is_directory old)) ENOTDIR _ (λ _.
      after_bind k Fine (replaced_by_name old.0 (is_directory old)) _ (whatever (given k (replaced_by_name old.0 (is_directory old))) (λ replaced. (tt, tt))))))

  -- a FIFO and a socket have no target
  special_within : (special : Special) → length (fixed_target (special_object special)) ≤ target_limit
  special_within Special_fifo = omega arith
  special_within Special_socket = omega arith

  absent_within : (o : Option Place) (c : Change) → Fine c → IfOk (given k (absent o >>= (λ _. Give c))) Fine
  absent_within None c h = h
  absent_within (Some place) c h = tt

  duplicated_within : (o : Own) (s : Slot) (fs : List ℕ) → IfOk (given k (duplicated o s fs)) Fine
  duplicated_within o s [] = tt
  duplicated_within o s (f ∷ fs) = (tt, tt)

  piped_within : (o : Own) (fs : List ℕ) → IfOk (given k (piped o fs)) Fine
  piped_within o [] = tt
  piped_within o (f ∷ []) = tt
  piped_within o (f ∷ g ∷ fs) = (tt, tt)

  -- a plan that goes on from whatever a first one gives
  goes_on : {A : Type 0} (m : Plan A) (f : A → Plan Change) → ((x : A) → IfOk (given k (f x)) Fine) → IfOk (given k (m >>= f)) Fine
  goes_on m f h = after_bind k Fine m f (whatever (given k m) h)

  call_within : (pid : ℕ) (call : Call) → IfOk (outcome k pid call) Fine
  call_within pid (Open path flags) =
      allowed k Fine (not (is_reading flags || is_writing flags)) EINVAL _ (λ _.
      allowed k Fine (is_exclusive flags && not (is_creating flags)) EINVAL _ (λ _.
      allowed k Fine (is_truncating flags && not (is_writing flags)) EINVAL _ (λ _.
      goes_on (parsed k.bounds.path_bytes path) _ (λ names.
      goes_on (first_of_free (free (own k pid (Open path flags)))) _ (λ f.
      goes_on (last_of k.root (if is_creating flags && is_exclusive flags then EEXIST else EISDIR) names) _ (λ at. opened_within (own k pid (Open path flags)) flags f at at.found))))))
  call_within pid (Close f) = goes_on (slot (own k pid (Close f)) f) _ (λ s. (tt, tt))
  call_within pid (Read f count) = goes_on (slot (own k pid (Read f count)) f) _ (λ s.
      allowed k Fine (not s.reading) EBADF _ (λ _.
      either_given k Fine (count == 0) (unchanged (Bytes [])) (read_some s count) (λ _. tt) (λ _. read_within s count)))
  call_within pid (Pread f count offset) = goes_on (slot (own k pid (Pread f count offset)) f) _ (λ s.
      allowed k Fine (not s.reading) EBADF _ (λ _.
      allowed k Fine (is_pipe s.kind) ESPIPE _ (λ _.
      goes_on (or_refuse EINVAL (offset_named offset)) _ (λ at.
      either_given k Fine (count == 0) (unchanged (Bytes [])) (read_from s.inode at count) (λ _. tt) (λ _. tt)))))
  call_within pid (Write f bytes) = goes_on (slot (own k pid (Write f bytes)) f) _ (λ s.
      allowed k Fine (not s.writing) EBADF _ (λ _.
      either_given k Fine (is_empty bytes) (unchanged (Count 0)) (write_some k.bounds.file_bytes s bytes) (λ _. tt) (λ _. write_within s bytes)))
  call_within pid (Pwrite f bytes offset) = goes_on (slot (own k pid (Pwrite f bytes offset)) f) _ (λ s.
      allowed k Fine (not s.writing) EBADF _ (λ _.
      allowed k Fine (is_pipe s.kind) ESPIPE _ (λ _.
      goes_on (or_refuse EINVAL (offset_named offset)) _ (λ at.
      either_given k Fine (is_empty bytes) (unchanged (Count 0)) (write_from k.bounds.file_bytes s.inode at bytes) (λ _. tt) (λ _. write_from_within s.inode at bytes)))))
  call_within pid (Lseek f move whence) = goes_on (slot (own k pid (Lseek f move whence)) f) _ (λ s.
      allowed k Fine (is_pipe s.kind) ESPIPE _ (λ _.
      goes_on (aimed s move whence) _ (λ sum. sought_within s sum)))
  call_within pid (Fallocate f offset len space) = goes_on (slot (own k pid (Fallocate f offset len space)) f) _ (λ s.
      goes_on (or_refuse EINVAL (offset_named offset)) _ (λ at.
      goes_on (or_refuse EINVAL (length_named len)) _ (λ count.
      allowed k Fine (not s.writing) EBADF _ (λ _.
      allowed k Fine (is_pipe s.kind) ESPIPE _ (λ _.
      allowed k Fine (nat_lt k.bounds.file_bytes (at + count)) EFBIG _ (λ low. spaced_within s.inode at count space (ltb-false k.bounds.file_bytes (at + count) low)))))))
  call_within pid (Ftruncate f len) = goes_on (slot (own k pid (Ftruncate f len)) f) _ (λ s.
      allowed k Fine (not s.writing) EBADF _ (λ _.
      allowed k Fine (is_pipe s.kind) EINVAL _ (λ _.
      allowed k Fine (nat_lt k.bounds.file_bytes len) EFBIG (cut_to s.inode len >>= (λ cut. changed Done cut)) (λ low. (ltb-false k.bounds.file_bytes len low, tt)))))
  call_within pid (Truncate path len) =
      goes_on (parsed k.bounds.path_bytes path) _ (λ names.
      goes_on (walk (k.root, Some A_directory) names) _ (λ place.
      allowed k Fine (is_directory place) EISDIR _ (λ _.
      allowed k Fine (is_link place) ELOOP _ (λ _.
      allowed k Fine (is_special place) EINVAL _ (λ _.
      allowed k Fine (nat_lt k.bounds.file_bytes len) EFBIG (cut_to place.0 len >>= (λ cut. changed Done cut)) (λ low. (ltb-false k.bounds.file_bytes len low, tt)))))))
  call_within pid (Stat path) = goes_on (parsed k.bounds.path_bytes path) _ (λ names. goes_on (walk (k.root, Some A_directory) names) _ (λ place. allowed k Fine (is_link place) ELOOP _ (λ _. status_within place)))
  call_within pid (Fstat f) = goes_on (slot (own k pid (Fstat f)) f) _ (λ s. status_within (s.inode, s.kind))
  call_within pid (Link old path) =
      goes_on (parsed k.bounds.path_bytes old) _ (λ from.
      goes_on (parsed k.bounds.path_bytes path) _ (λ to.
      goes_on (walk (k.root, Some A_directory) from) _ (λ what.
      allowed k Fine (is_directory what) EPERM _ (λ _.
      goes_on (last_of k.root EEXIST to) _ (λ at. absent_within at.found _ (tt, tt))))))
  call_within pid (Unlink path) =
      goes_on (parsed k.bounds.path_bytes path) _ (λ names.
      goes_on (last_of k.root EPERM names) _ (λ at.
      goes_on (or_refuse ENOENT at.found) _ (λ what.
      allowed k Fine (is_directory what) EPERM _ (λ _. (tt, tt)))))
  call_within pid (Rename old path) =
      goes_on (parsed k.bounds.path_bytes old) _ (λ from.
      goes_on (parsed k.bounds.path_bytes path) _ (λ to.
      allowed k Fine (is_empty from || is_empty to) EBUSY _ (λ _.
      goes_on (last_of k.root EBUSY from) _ (λ at.
      goes_on (or_refuse ENOENT at.found) _ (λ what.
      allowed k Fine (is_directory what && is_below from to) EINVAL _ (λ _.
      goes_on (last_of k.root EBUSY to) _ (λ onto. moved_within at what onto onto.found)))))))
  call_within pid (Exchange old path) =
      goes_on (parsed k.bounds.path_bytes old) _ (λ from.
      goes_on (parsed k.bounds.path_bytes path) _ (λ to.
      allowed k Fine (is_empty from || is_empty to) EBUSY _ (λ _.
      goes_on (last_of k.root EBUSY from) _ (λ at.
      goes_on (last_of k.root EBUSY to) _ (λ onto.
      goes_on (or_refuse ENOENT at.found) _ (λ what.
      goes_on (or_refuse ENOENT onto.found) _ (λ other.
      allowed k Fine (is_directory what && is_below from to) EINVAL _ (λ _.
      allowed k Fine (is_directory other && is_below to from) EINVAL _ (λ _.
      either_given k Fine (what.0 == other.0) (unchanged Done) _ (λ _. tt) (λ _. (tt, tt)))))))))))
  call_within pid (Mkdir path) =
      goes_on (parsed k.bounds.path_bytes path) _ (λ names.
      goes_on (last_of k.root EEXIST names) _ (λ at. absent_within at.found _ (tt, tt)))
  call_within pid (Rmdir path) =
      goes_on (parsed k.bounds.path_bytes path) _ (λ names.
      goes_on (last_of k.root EBUSY names) _ (λ at.
      goes_on (or_refuse ENOENT at.found) _ (λ what.
      allowed k Fine (not (is_directory what)) ENOTDIR _ (λ _.
      allowed k Fine (not (is_empty (answer k (List_names what.0)))) ENOTEMPTY _ (λ _. (tt, tt))))))
  call_within pid (List_directory path) =
      goes_on (parsed k.bounds.path_bytes path) _ (λ names.
      goes_on (walk (k.root, Some A_directory) names) _ (λ place.
      allowed k Fine (is_link place) ELOOP _ (λ _.
      allowed k Fine (not (is_directory place)) ENOTDIR _ (λ _. tt))))
  call_within pid (Symlink target path) =
      allowed k Fine (is_empty target) ENOENT _ (λ _.
      allowed k Fine (nat_lt target_limit (length target)) ENAMETOOLONG _ (λ low.
      allowed k Fine (list_any (λ b. b == 0) target) EINVAL _ (λ _.
      goes_on (parsed k.bounds.path_bytes path) _ (λ names.
      goes_on (last_of k.root EEXIST names) _ (λ at. absent_within at.found _ (ltb-false target_limit (length target) low, tt))))))
  call_within pid (Readlink path) =
      goes_on (parsed k.bounds.path_bytes path) _ (λ names.
      goes_on (walk (k.root, Some A_directory) names) _ (λ place.
      allowed k Fine (not (is_link place)) EINVAL _ (λ _. tt)))
  call_within pid (Lstat path) = goes_on (parsed k.bounds.path_bytes path) _ (λ names. goes_on (walk (k.root, Some A_directory) names) _ status_within)
  call_within pid (Mknod path special) =
      goes_on (parsed k.bounds.path_bytes path) _ (λ names.
      goes_on (last_of k.root EEXIST names) _ (λ at. absent_within at.found _ (special_within special, tt)))
  call_within pid (Chmod path permissions) = goes_on (parsed k.bounds.path_bytes path) _ (λ names. goes_on (walk (k.root, Some A_directory) names) _ (λ place. allowed k Fine (is_link place) ELOOP _ (λ _. (tt, tt))))
  call_within pid (Chown path owner) = goes_on (parsed k.bounds.path_bytes path) _ (λ names. goes_on (walk (k.root, Some A_directory) names) _ (λ place. (tt, tt)))
  call_within pid (Fchmod f permissions) = goes_on (slot (own k pid (Fchmod f permissions)) f) _ (λ s. (tt, tt))
  call_within pid (Fchown f owner) = goes_on (slot (own k pid (Fchown f owner)) f) _ (λ s. (tt, tt))
  call_within pid (Dup f) = goes_on (slot (own k pid (Dup f)) f) _ (λ s. duplicated_within (own k pid (Dup f)) s (free (own k pid (Dup f))))
  call_within pid (Dup2 f g) = goes_on (slot (own k pid (Dup2 f g)) f) _ (λ s.
      allowed k Fine (nat_le (open_limit (own k pid (Dup2 f g))) g) EBADF _ (λ _.
      either_given k Fine (f == g) (unchanged (Descriptor f)) _ (λ _. tt) (λ _. (tt, tt))))
  call_within pid Open_pipe = piped_within (own k pid Open_pipe) (free (own k pid Open_pipe))
  call_within pid Fork = allowed k Fine (nat_le most_processes k.made) EAGAIN _ (λ low. (let below : k.made < most_processes = leb-false most_processes k.made low in let few : suc k.made ≤ most_processes = omega arith in few, tt))
  call_within pid Exit = (tt, tt)

refused_too : (chosen : List ℕ) (k : Kernel) (r : Result Change Errno) → IfOk r (λ c. AllWithin chosen k c.edits) → AllWithin chosen k (edits_of r)
refused_too chosen k (Ok c) h = h
refused_too chosen k (Err e) h = tt

step_within : (k : Kernel) (pid : ℕ) (call : Call) (answer : Result Answer Errno) (chosen : List ℕ) (l : Kernel) → Step k pid call answer chosen l → IsWithinLimits k → IsWithinLimits l
step_within k pid call answer chosen l step w = subst IsWithinLimits (sym step.changed)
    (tidied_within _ (edits_within chosen (edits k pid call) k w (refused_too chosen k (outcome k pid call) (call_within k w chosen pid call))))

-- a plain run stays within the limits
run_within : (k l : Kernel) (items : List Item) → Run k items l → IsWithinLimits k → IsWithinLimits l
run_within k l [] run w = subst IsWithinLimits (sym run) w
run_within k l (it ∷ items) run w = run_within run.0 l items run.2 (step_within k it.pid it.call it.answer it.chosen run.0 run.1 w)

pub limits : FromCallLaws LimitsAreKept
limits laws root setup limit es legal few =
    let stands = what_stands laws root setup limit es legal in
    let committed : IsWithinLimits (after root setup es).committed = run_within (start root setup) (after root setup es).committed _ (serial_is laws root setup limit es legal) (start_within root setup few) in
    record {
      committed = committed;
      seen = λ pid. run_within (after root setup es).committed _ _ (legality_follows.runs root setup limit es legal pid) committed;
      descriptors = stands.committed.well.low;
      seen_descriptors = λ pid. (subst WellFormed (sym (views laws root setup limit es legal pid).seen) (laws.well_tidy _ (stands.lists pid).well)).low;
    }
