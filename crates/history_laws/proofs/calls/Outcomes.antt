-- What the plans of calls come to: none refuses as unsupported, and but for fork and exit each edit
-- of processes is of the caller's own table.
use Rattle.std.proofs.Common.{◌+◌, ◌≡◌, ℕ, List, [], ◌∷◌, Bool, true, false, not, ◌||◌, ◌&&◌, Option, Some, None, Result, Ok, Err, IfOk, refl, ap, ◌==◌, nat_lt, nat_le, if◌then◌else◌, length}
use Rattle.std.specs.Prelude.{⊤, ℤ, pos, negsuc}
use Rattle.std.specs.List.{AllByRecursion, list_any}
use Rattle.std.proofs.lemmas.Bool.{false≢true}
use Rattle.model.proofs.Laws.{append-all}
use Rattle.model.specs.State.{Name, A_file, A_directory, A_pipe, A_link, A_fifo, A_socket, Kernel}
use Rattle.model.specs.Plan.{Errno, EAGAIN, EBADF, EBUSY, EEXIST, EFBIG, EINVAL, EISDIR, ELOOP, ENAMETOOLONG, ENOENT, ENOTDIR, ENOTEMPTY, ENXIO, EPERM, EPIPE, ESPIPE, Shown, answer, Plan, Give, Refuse, Ask, ◌>>=◌, refuse_if, or_refuse, given}
use Rattle.model.specs.Holes.{behind_blocks}
use Rattle.model.specs.Paths.{is_empty, is_below, is_no_name, with_first, names_in, names_behind, absolute_names, path_names, pieces}
use Rattle.model.specs.Walks.{told, parsed, Place, is_directory, is_link, look, walk, Last, last, last_of}
use Rattle.model.specs.Changes.{Edit, Replaced, Open_inode, Make_pipe, Share_slot, Clear_slot, New_process, End_process}
use Rattle.ids.specs.Flags.{is_reading, is_writing, is_creating, is_exclusive, is_truncating}
use Rattle.model.specs.Calls.{own, Call, Open, Close, Read, Pread, Write, Pwrite, Lseek, Ftruncate, Truncate, Stat, Fstat, Link, Unlink, Rename, Exchange, Fallocate, Space, Grow, Keep, Punch, Mkdir, Rmdir, List_directory, Symlink, Readlink, Lstat, Mknod, Chmod, Chown, Fchmod, Fchown, Dup, Dup2, Open_pipe, Fork, Exit, Whence, From_start, From_offset, From_end, To_data, To_hole, OpenFlags, Answer, Child, Slot, Own}
use Rattle.model.specs.Plans.{Change, plan, target_limit, is_pipe, status, is_special, cut_to, opened, read_pipe, read_some, place_to_write, write_some, offset_named, write_from, sought, length_named, found_from, aimed, spaced, replaced_by_name, move_onto, moved, absent, duplicated, piped, forked, first_of_free, slot, slot_at, free, open_limit}
use Rattle.model.specs.Entries.{is_unsupported, is_inside, answer_in}
use Rattle.model.specs.Replies.{answered}
use Rattle.model.specs.Steps.{outcome, reply, reply_of}

-- what holds of each value that a plan may give, where no refusal is as unsupported
abbrev pub Ends : {A : Type 0} → (A → Type 0) → Plan A → Type 0
Ends P (Give x) = P x
Ends P (Refuse e) = is_unsupported e ≡ false
Ends P (Ask q next) = (a : Shown q) → Ends P (next a)

abbrev Any : {A : Type 0} → A → Type 0
Any x = ⊤

pub then_by : {A B : Type 0} (P : A → Type 0) (Q : B → Type 0) (m : Plan A) (f : A → Plan B) → Ends P m → ((x : A) → P x → Ends Q (f x)) → Ends Q (m >>= f)
then_by P Q (Give x) f h g = g x h
then_by P Q (Refuse e) f h g = h
then_by P Q (Ask q next) f h g = λ a. then_by P Q (next a) f (h a) g

-- where nothing is asked of the first part's value
pub then_any : {A B : Type 0} (Q : B → Type 0) (m : Plan A) (f : A → Plan B) → Ends Any m → ((x : A) → Ends Q (f x)) → Ends Q (m >>= f)
then_any Q m f h g = then_by Any Q m f h (λ x _. g x)

tested : (b : Bool) (e : Errno) → is_unsupported e ≡ false → Ends Any (refuse_if b e)
tested true e h = h
tested false e h = tt

found : {A : Type 0} (e : Errno) (o : Option A) → is_unsupported e ≡ false → Ends Any (or_refuse e o)
found e (Some x) h = tt
found e None h = h

abbrev Fine : {A : Type 0} → Result A Errno → Type 0
Fine (Ok x) = ⊤
Fine (Err e) = is_unsupported e ≡ false

fine_first : (x : Name) (r : Result (List Name) Errno) → Fine r → Fine (with_first x r)
fine_first x (Ok xs) h = tt
fine_first x (Err e) h = h

fine_names : (xs : List Name) → Fine (names_in xs)
fine_names [] = tt
fine_names (x ∷ xs) = by (nat_lt 255 (length x)) (is_no_name x) (fine_names xs) where
  by : (a b : Bool) → Fine (names_in xs) → Fine (if a then Err ENAMETOOLONG else if b then Err EINVAL else with_first x (names_in xs))
  by true b h = refl
  by false true h = refl
  by false false h = fine_first x (names_in xs) h

fine_behind : (bytes : List ℕ) → Fine (names_behind bytes)
fine_behind [] = tt
fine_behind (b ∷ bytes) = fine_names (pieces (b ∷ bytes))

fine_absolute : (bytes : List ℕ) → Fine (absolute_names bytes)
fine_absolute [] = refl
fine_absolute (b ∷ bytes) = by (b == 47) where
  by : (a : Bool) → Fine (if a then names_behind bytes else Err EINVAL)
  by true = fine_behind bytes
  by false = refl

fine_path : (most : ℕ) (bytes : List ℕ) → Fine (path_names most bytes)
fine_path most bytes = by (nat_lt most (length bytes)) where
  by : (a : Bool) → Fine (if a then Err ENAMETOOLONG else absolute_names bytes)
  by true = refl
  by false = fine_absolute bytes

told_any : {A : Type 0} (r : Result A Errno) → Fine r → Ends Any (told r)
told_any (Ok x) h = tt
told_any (Err e) h = h

parsed_any : (most : ℕ) (bytes : List ℕ) → Ends Any (parsed most bytes)
parsed_any most bytes = told_any (path_names most bytes) (fine_path most bytes)

look_any : (place : Place) (x : Name) → Ends Any (look place x)
look_any place x = then_any Any (refuse_if (is_link place) ELOOP) _ (tested _ ELOOP refl) (λ _.
    then_any Any (refuse_if (not (is_directory place)) ENOTDIR) _ (tested _ ENOTDIR refl) (λ _ a. tt))

walk_any : (place : Place) (xs : List Name) → Ends Any (walk place xs)
walk_any place [] = tt
walk_any place (x ∷ xs) = then_any Any (look place x) _ (look_any place x) (λ o. then_any Any (or_refuse ENOENT o) _ (found ENOENT o refl) (λ next. walk_any next xs))

last_any : (place : Place) (x : Name) (xs : List Name) → Ends Any (last place x xs)
last_any place x [] = then_any Any (look place x) _ (look_any place x) (λ o. tt)
last_any place x (y ∷ ys) = then_any Any (look place x) _ (look_any place x) (λ o. then_any Any (or_refuse ENOENT o) _ (found ENOENT o refl) (λ next. last_any next y ys))

last_of_any : (root : ℕ) (e : Errno) (xs : List Name) → is_unsupported e ≡ false → Ends Any (last_of root e xs)
last_of_any root e [] h = h
last_of_any root e (x ∷ xs) h = last_any (root, Some A_directory) x xs

-- no edit of another process, nor of the table of processes
abbrev pub IsOf : ℕ → Edit → Type 0
IsOf pid (Open_inode i inode mode p f) = p ≡ pid
IsOf pid (Make_pipe i p f g) = p ≡ pid
IsOf pid (Share_slot p f d pipes) = p ≡ pid
IsOf pid (Clear_slot p f pipes) = p ≡ pid
IsOf pid (New_process child parent pipes) = ⊥
IsOf pid (End_process p pipes) = ⊥
IsOf pid e = ⊤

abbrev pub is_child : Answer → Bool
is_child (Child pid) = true
is_child _ = false

pub record Tame (pid : ℕ) (c : Change) : Type 0 where
  pub edits : AllByRecursion (IsOf pid) c.edits
  pub childless : is_child c.reply ≡ false

tame_status : (pid : ℕ) (place : Place) → Ends (Tame pid) (status place)
tame_status pid (n, Some A_file) = λ a b c. record { edits = tt; childless = refl }
tame_status pid (n, Some A_directory) = λ a. record { edits = tt; childless = refl }
tame_status pid (n, Some A_pipe) = λ a. record { edits = tt; childless = refl }
tame_status pid (n, Some A_link) = λ a b c. record { edits = tt; childless = refl }
tame_status pid (n, Some A_fifo) = λ a b. record { edits = tt; childless = refl }
tame_status pid (n, Some A_socket) = λ a b. record { edits = tt; childless = refl }
tame_status pid (n, None) = refl

cut_by : (pid : ℕ) (n len : ℕ) → Ends (AllByRecursion (IsOf pid)) (cut_to n len)
cut_by pid n len = λ size. (tt, tt)

cut_if : (pid : ℕ) (b : Bool) (n : ℕ) → Ends (AllByRecursion (IsOf pid)) (if b then cut_to n 0 else Give [])
cut_if pid true n = cut_by pid n 0
cut_if pid false n = tt

tame_opened : (own : Own) (flags : OpenFlags) (f : ℕ) (at : Last) (o : Option Place) → Ends (Tame own.pid) (opened own flags f at o)
tame_opened own flags f at None = then_any (Tame own.pid) (refuse_if (not (is_creating flags)) ENOENT) _ (tested _ ENOENT refl) (λ _. record { edits = (tt, (refl, tt)); childless = refl })
tame_opened own flags f at (Some place) =
    then_any (Tame own.pid) (refuse_if (is_creating flags && is_exclusive flags) EEXIST) _ (tested _ EEXIST refl) (λ _.
    then_any (Tame own.pid) (refuse_if (is_directory place) EISDIR) _ (tested _ EISDIR refl) (λ _.
    then_any (Tame own.pid) (refuse_if (is_link place) ELOOP) _ (tested _ ELOOP refl) (λ _.
    then_any (Tame own.pid) (refuse_if (is_special place) ENXIO) _ (tested _ ENXIO refl) (λ _.
    then_by (AllByRecursion (IsOf own.pid)) (Tame own.pid) (if is_truncating flags then cut_to place.0 0 else Give []) _ (cut_if own.pid _ place.0) (λ cut h.
    record { edits = append-all (IsOf own.pid) cut _ h (refl, tt); childless = refl })))))

tame_read_pipe : (pid p : ℕ) (bytes : List ℕ) → Ends (Tame pid) (read_pipe p bytes)
tame_read_pipe pid p [] = λ ends. then_any (Tame pid) (refuse_if (nat_lt 0 ends.1) EAGAIN) _ (tested _ EAGAIN refl) (λ _. record { edits = tt; childless = refl })
tame_read_pipe pid p (b ∷ bytes) = record { edits = (tt, tt); childless = refl }

either : {A : Type 0} (P : A → Type 0) (b : Bool) (m n : Plan A) → Ends P m → Ends P n → Ends P (if b then m else n)
either P true m n h g = h
either P false m n h g = g

edits_unless : (pid : ℕ) (b : Bool) (e : Edit) → IsOf pid e → AllByRecursion (IsOf pid) (if b then [] else e ∷ [])
edits_unless pid true e h = tt
edits_unless pid false e h = (h, tt)

tame_read : (pid : ℕ) (it : Slot) (count : ℕ) → Ends (Tame pid) (read_some it count)
tame_read pid it count = either (Tame pid) (is_pipe it.kind) _ _ (λ bytes. tame_read_pipe pid it.inode bytes) (λ offset bytes. record { edits = edits_unless pid _ _ tt; childless = refl })

place_any : (it : Slot) (b : Bool) → Ends Any (place_to_write it b)
place_any it true = λ a. tt
place_any it false = λ a. tt

tame_write : (pid largest : ℕ) (it : Slot) (bytes : List ℕ) → Ends (Tame pid) (write_some largest it bytes)
tame_write pid largest it bytes = either (Tame pid) (is_pipe it.kind) _ _
    (λ ends.
    then_any (Tame pid) (refuse_if (ends.0 == 0) EPIPE) _ (tested _ EPIPE refl) (λ _ fitting.
    then_any (Tame pid) (refuse_if (nat_lt fitting (length bytes) && nat_le (length bytes) 512) EAGAIN) _ (tested _ EAGAIN refl) (λ _.
    then_any (Tame pid) (refuse_if (fitting == 0) EAGAIN) _ (tested _ EAGAIN refl) (λ _. record { edits = (tt, tt); childless = refl }))))
    (then_any (Tame pid) (place_to_write it it.appending) _ (place_any it it.appending) (λ place.
    then_any (Tame pid) (refuse_if (nat_le largest place) EFBIG) _ (tested _ EFBIG refl) (λ _ size. record { edits = (tt, (tt, tt)); childless = refl })))

tame_write_from : (pid largest n offset : ℕ) (bytes : List ℕ) → Ends (Tame pid) (write_from largest n offset bytes)
tame_write_from pid largest n offset bytes = then_any (Tame pid) (refuse_if (nat_le largest offset) EFBIG) _ (tested _ EFBIG refl) (λ _ size. record { edits = (tt, tt); childless = refl })

tame_sought : (pid largest : ℕ) (it : Slot) (z : ℤ) → Ends (Tame pid) (sought largest it z)
tame_sought pid largest it (pos place) = then_any (Tame pid) (refuse_if (nat_lt largest place) EINVAL) _ (tested _ EINVAL refl) (λ _. record { edits = (tt, tt); childless = refl })
tame_sought pid largest it (negsuc place) = refl

found_any : (holes : Bool) (n from : ℕ) → Ends Any (found_from holes n from)
found_any holes n from = λ size. then_any {B = ℕ} Any (refuse_if (nat_le size from) ENXIO) _ (tested _ ENXIO refl) (λ _ passed.
    then_any {B = ℕ} Any (refuse_if (not holes && nat_le size (behind_blocks from passed)) ENXIO) _ (tested _ ENXIO refl) (λ _. tt))

found_at : (holes : Bool) (n : ℕ) (move : ℤ) → Ends {A = ℤ} Any (or_refuse ENXIO (offset_named move) >>= (λ from. found_from holes n from >>= (λ place. Give (pos place))))
found_at holes n (pos from) = then_any {B = ℤ} Any (found_from holes n from) _ (found_any holes n from) (λ place. tt)
found_at holes n (negsuc from) = refl

aimed_any : (it : Slot) (move : ℤ) (w : Whence) → Ends Any (aimed it move w)
aimed_any it move From_start = tt
aimed_any it move From_offset = λ a. tt
aimed_any it move From_end = λ a. tt
aimed_any it move To_data = found_at false it.inode move
aimed_any it move To_hole = found_at true it.inode move

edits_if : (pid : ℕ) (b : Bool) (e : Edit) → IsOf pid e → AllByRecursion (IsOf pid) (if b then e ∷ [] else [])
edits_if pid true e h = (h, tt)
edits_if pid false e h = tt

tame_spaced : (pid n at count : ℕ) (space : Space) → Ends (Tame pid) (spaced n at count space)
tame_spaced pid n at count Grow = λ size. record { edits = edits_if pid _ _ tt; childless = refl }
tame_spaced pid n at count Keep = record { edits = tt; childless = refl }
tame_spaced pid n at count Punch = λ size. record { edits = edits_if pid _ _ tt; childless = refl }

replaced_any : (n : ℕ) (b : Bool) → Ends Any (replaced_by_name n b)
replaced_any n true = λ names. then_any {B = Replaced} Any (refuse_if (not (is_empty names)) ENOTEMPTY) _ (tested _ ENOTEMPTY refl) (λ _. tt)
replaced_any n false = tt

tame_onto : (pid : ℕ) (at : Last) (what : Place) (to : Last) (old : Place) → Ends (Tame pid) (move_onto at what to old)
tame_onto pid at what to old = either (Tame pid) (what.0 == old.0) _ _ (record { edits = tt; childless = refl })
    (then_any (Tame pid) (refuse_if (not (is_directory what) && is_directory old) EISDIR) _ (tested _ EISDIR refl) (λ _.
    then_any (Tame pid) (refuse_if (is_directory what && not (is_directory old)) ENOTDIR) _ (tested _ ENOTDIR refl) (λ _.
    then_any (Tame pid) (replaced_by_name old.0 (is_directory old)) _ (replaced_any old.0 _) (λ replaced. record { edits = (tt, tt); childless = refl }))))

tame_moved : (pid : ℕ) (at : Last) (what : Place) (to : Last) (o : Option Place) → Ends (Tame pid) (moved at what to o)
tame_moved pid at what to None = record { edits = (tt, tt); childless = refl }
tame_moved pid at what to (Some old) = tame_onto pid at what to old

absent_any : (o : Option Place) → Ends Any (absent o)
absent_any None = tt
absent_any (Some place) = refl

tame_duplicated : (own : Own) (it : Slot) (fs : List ℕ) → Ends (Tame own.pid) (duplicated own it fs)
tame_duplicated own it [] = refl
tame_duplicated own it (f ∷ fs) = record { edits = (refl, tt); childless = refl }

tame_piped : (own : Own) (fs : List ℕ) → Ends (Tame own.pid) (piped own fs)
tame_piped own [] = refl
tame_piped own (f ∷ []) = refl
tame_piped own (f ∷ g ∷ fs) = record { edits = (refl, tt); childless = refl }

first_any : (fs : List ℕ) → Ends Any (first_of_free fs)
first_any [] = refl
first_any (f ∷ fs) = tt

slot_any : (own : Own) (f : ℕ) → Ends Any (slot own f)
slot_any own f = found EBADF (slot_at own f) refl

same_or : (b : Bool) → is_unsupported (if b then EEXIST else EISDIR) ≡ false
same_or true = refl
same_or false = refl

-- each call but fork and exit
pub tame_plan : (own : Own) (call : Call) → is_inside call ≡ true → Ends (Tame own.pid) (plan own call)
tame_plan own (Open path flags) is =
    then_any (Tame own.pid) (refuse_if (not (is_reading flags || is_writing flags)) EINVAL) _ (tested _ EINVAL refl) (λ _.
    then_any (Tame own.pid) (refuse_if (is_exclusive flags && not (is_creating flags)) EINVAL) _ (tested _ EINVAL refl) (λ _.
    then_any (Tame own.pid) (refuse_if (is_truncating flags && not (is_writing flags)) EINVAL) _ (tested _ EINVAL refl) (λ _.
    then_any (Tame own.pid) (parsed own.bounds.path_bytes path) _ (parsed_any own.bounds.path_bytes path) (λ names.
    then_any (Tame own.pid) (first_of_free (free own)) _ (first_any (free own)) (λ f.
    then_any (Tame own.pid) (last_of own.root (if is_creating flags && is_exclusive flags then EEXIST else EISDIR) names) _ (last_of_any own.root _ names (same_or _)) (λ at.
    tame_opened own flags f at at.found))))))
tame_plan own (Close f) is = then_any (Tame own.pid) (slot own f) _ (slot_any own f) (λ it. record { edits = (refl, tt); childless = refl })
tame_plan own (Read f count) is = then_any (Tame own.pid) (slot own f) _ (slot_any own f) (λ it.
    then_any (Tame own.pid) (refuse_if (not it.reading) EBADF) _ (tested _ EBADF refl) (λ _. either (Tame own.pid) (count == 0) _ _ (record { edits = tt; childless = refl }) (tame_read own.pid it count)))
tame_plan own (Pread f count offset) is = then_any (Tame own.pid) (slot own f) _ (slot_any own f) (λ it.
    then_any (Tame own.pid) (refuse_if (not it.reading) EBADF) _ (tested _ EBADF refl) (λ _.
    then_any (Tame own.pid) (refuse_if (is_pipe it.kind) ESPIPE) _ (tested _ ESPIPE refl) (λ _.
    then_any (Tame own.pid) (or_refuse EINVAL (offset_named offset)) _ (found EINVAL (offset_named offset) refl) (λ at.
    either (Tame own.pid) (count == 0) _ _ (record { edits = tt; childless = refl }) (λ bytes. record { edits = tt; childless = refl })))))
tame_plan own (Write f bytes) is = then_any (Tame own.pid) (slot own f) _ (slot_any own f) (λ it.
    then_any (Tame own.pid) (refuse_if (not it.writing) EBADF) _ (tested _ EBADF refl) (λ _. either (Tame own.pid) (is_empty bytes) _ _ (record { edits = tt; childless = refl }) (tame_write own.pid own.bounds.file_bytes it bytes)))
tame_plan own (Pwrite f bytes offset) is = then_any (Tame own.pid) (slot own f) _ (slot_any own f) (λ it.
    then_any (Tame own.pid) (refuse_if (not it.writing) EBADF) _ (tested _ EBADF refl) (λ _.
    then_any (Tame own.pid) (refuse_if (is_pipe it.kind) ESPIPE) _ (tested _ ESPIPE refl) (λ _.
    then_any (Tame own.pid) (or_refuse EINVAL (offset_named offset)) _ (found EINVAL (offset_named offset) refl) (λ at.
    either (Tame own.pid) (is_empty bytes) _ _ (record { edits = tt; childless = refl }) (tame_write_from own.pid own.bounds.file_bytes it.inode at bytes)))))
tame_plan own (Lseek f move whence) is = then_any (Tame own.pid) (slot own f) _ (slot_any own f) (λ it.
    then_any (Tame own.pid) (refuse_if (is_pipe it.kind) ESPIPE) _ (tested _ ESPIPE refl) (λ _.
    then_any (Tame own.pid) (aimed it move whence) _ (aimed_any it move whence) (λ sum. tame_sought own.pid own.bounds.file_bytes it sum)))
tame_plan own (Fallocate f offset len space) is = then_any (Tame own.pid) (slot own f) _ (slot_any own f) (λ it.
    then_any (Tame own.pid) (or_refuse EINVAL (offset_named offset)) _ (found EINVAL (offset_named offset) refl) (λ at.
    then_any (Tame own.pid) (or_refuse EINVAL (length_named len)) _ (found EINVAL (length_named len) refl) (λ count.
    then_any (Tame own.pid) (refuse_if (not it.writing) EBADF) _ (tested _ EBADF refl) (λ _.
    then_any (Tame own.pid) (refuse_if (is_pipe it.kind) ESPIPE) _ (tested _ ESPIPE refl) (λ _.
    then_any (Tame own.pid) (refuse_if (nat_lt own.bounds.file_bytes (at + count)) EFBIG) _ (tested _ EFBIG refl) (λ _. tame_spaced own.pid it.inode at count space))))))
tame_plan own (Ftruncate f len) is = then_any (Tame own.pid) (slot own f) _ (slot_any own f) (λ it.
    then_any (Tame own.pid) (refuse_if (not it.writing) EBADF) _ (tested _ EBADF refl) (λ _.
    then_any (Tame own.pid) (refuse_if (is_pipe it.kind) EINVAL) _ (tested _ EINVAL refl) (λ _.
    then_any (Tame own.pid) (refuse_if (nat_lt own.bounds.file_bytes len) EFBIG) _ (tested _ EFBIG refl) (λ _ size. record { edits = (tt, tt); childless = refl }))))
tame_plan own (Truncate path len) is = then_any (Tame own.pid) (parsed own.bounds.path_bytes path) _ (parsed_any own.bounds.path_bytes path) (λ names.
    then_any (Tame own.pid) (walk (own.root, Some A_directory) names) _ (walk_any _ names) (λ place.
    then_any (Tame own.pid) (refuse_if (is_directory place) EISDIR) _ (tested _ EISDIR refl) (λ _.
    then_any (Tame own.pid) (refuse_if (is_link place) ELOOP) _ (tested _ ELOOP refl) (λ _.
    then_any (Tame own.pid) (refuse_if (is_special place) EINVAL) _ (tested _ EINVAL refl) (λ _.
    then_any (Tame own.pid) (refuse_if (nat_lt own.bounds.file_bytes len) EFBIG) _ (tested _ EFBIG refl) (λ _ size. record { edits = (tt, tt); childless = refl }))))))
tame_plan own (Stat path) is = then_any (Tame own.pid) (parsed own.bounds.path_bytes path) _ (parsed_any own.bounds.path_bytes path) (λ names.
    then_any (Tame own.pid) (walk (own.root, Some A_directory) names) _ (walk_any _ names) (λ place.
    then_any (Tame own.pid) (refuse_if (is_link place) ELOOP) _ (tested _ ELOOP refl) (λ _. tame_status own.pid place)))
tame_plan own (Fstat f) is = then_any (Tame own.pid) (slot own f) _ (slot_any own f) (λ it. tame_status own.pid (it.inode, it.kind))
tame_plan own (Link old path) is =
    then_any (Tame own.pid) (parsed own.bounds.path_bytes old) _ (parsed_any own.bounds.path_bytes old) (λ from_names.
    then_any (Tame own.pid) (parsed own.bounds.path_bytes path) _ (parsed_any own.bounds.path_bytes path) (λ to.
    then_any (Tame own.pid) (walk (own.root, Some A_directory) from_names) _ (walk_any _ from_names) (λ what.
    then_any (Tame own.pid) (refuse_if (is_directory what) EPERM) _ (tested _ EPERM refl) (λ _.
    then_any (Tame own.pid) (last_of own.root EEXIST to) _ (last_of_any own.root EEXIST to refl) (λ at.
    then_any (Tame own.pid) (absent at.found) _ (absent_any at.found) (λ _. record { edits = (tt, tt); childless = refl }))))))
tame_plan own (Unlink path) is =
    then_any (Tame own.pid) (parsed own.bounds.path_bytes path) _ (parsed_any own.bounds.path_bytes path) (λ names.
    then_any (Tame own.pid) (last_of own.root EPERM names) _ (last_of_any own.root EPERM names refl) (λ at.
    then_any (Tame own.pid) (or_refuse ENOENT at.found) _ (found ENOENT at.found refl) (λ what.
    then_any (Tame own.pid) (refuse_if (is_directory what) EPERM) _ (tested _ EPERM refl) (λ _. record { edits = (tt, tt); childless = refl }))))
tame_plan own (Rename old path) is =
    then_any (Tame own.pid) (parsed own.bounds.path_bytes old) _ (parsed_any own.bounds.path_bytes old) (λ from_names.
    then_any (Tame own.pid) (parsed own.bounds.path_bytes path) _ (parsed_any own.bounds.path_bytes path) (λ to.
    then_any (Tame own.pid) (refuse_if (is_empty from_names || is_empty to) EBUSY) _ (tested _ EBUSY refl) (λ _.
    then_any (Tame own.pid) (last_of own.root EBUSY from_names) _ (last_of_any own.root EBUSY from_names refl) (λ at.
    then_any (Tame own.pid) (or_refuse ENOENT at.found) _ (found ENOENT at.found refl) (λ what.
    then_any (Tame own.pid) (refuse_if (is_directory what && is_below from_names to) EINVAL) _ (tested _ EINVAL refl) (λ _.
    then_any (Tame own.pid) (last_of own.root EBUSY to) _ (last_of_any own.root EBUSY to refl) (λ onto. tame_moved own.pid at what onto onto.found)))))))
tame_plan own (Exchange old path) is =
    then_any (Tame own.pid) (parsed own.bounds.path_bytes old) _ (parsed_any own.bounds.path_bytes old) (λ from_names.
    then_any (Tame own.pid) (parsed own.bounds.path_bytes path) _ (parsed_any own.bounds.path_bytes path) (λ to.
    then_any (Tame own.pid) (refuse_if (is_empty from_names || is_empty to) EBUSY) _ (tested _ EBUSY refl) (λ _.
    then_any (Tame own.pid) (last_of own.root EBUSY from_names) _ (last_of_any own.root EBUSY from_names refl) (λ at.
    then_any (Tame own.pid) (last_of own.root EBUSY to) _ (last_of_any own.root EBUSY to refl) (λ onto.
    then_any (Tame own.pid) (or_refuse ENOENT at.found) _ (found ENOENT at.found refl) (λ what.
    then_any (Tame own.pid) (or_refuse ENOENT onto.found) _ (found ENOENT onto.found refl) (λ other.
    then_any (Tame own.pid) (refuse_if (is_directory what && is_below from_names to) EINVAL) _ (tested _ EINVAL refl) (λ _.
    then_any (Tame own.pid) (refuse_if (is_directory other && is_below to from_names) EINVAL) _ (tested _ EINVAL refl) (λ _.
    either (Tame own.pid) (what.0 == other.0) _ _ (record { edits = tt; childless = refl }) (record { edits = (tt, tt); childless = refl }))))))))))
tame_plan own (Mkdir path) is =
    then_any (Tame own.pid) (parsed own.bounds.path_bytes path) _ (parsed_any own.bounds.path_bytes path) (λ names.
    then_any (Tame own.pid) (last_of own.root EEXIST names) _ (last_of_any own.root EEXIST names refl) (λ at.
    then_any (Tame own.pid) (absent at.found) _ (absent_any at.found) (λ _. record { edits = (tt, tt); childless = refl })))
tame_plan own (Rmdir path) is =
    then_any (Tame own.pid) (parsed own.bounds.path_bytes path) _ (parsed_any own.bounds.path_bytes path) (λ names.
    then_any (Tame own.pid) (last_of own.root EBUSY names) _ (last_of_any own.root EBUSY names refl) (λ at.
    then_any (Tame own.pid) (or_refuse ENOENT at.found) _ (found ENOENT at.found refl) (λ what.
    then_any (Tame own.pid) (refuse_if (not (is_directory what)) ENOTDIR) _ (tested _ ENOTDIR refl) (λ _ entries.
    then_any (Tame own.pid) (refuse_if (not (is_empty entries)) ENOTEMPTY) _ (tested _ ENOTEMPTY refl) (λ _. record { edits = (tt, tt); childless = refl })))))
tame_plan own (List_directory path) is =
    then_any (Tame own.pid) (parsed own.bounds.path_bytes path) _ (parsed_any own.bounds.path_bytes path) (λ names.
    then_any (Tame own.pid) (walk (own.root, Some A_directory) names) _ (walk_any _ names) (λ place.
    then_any (Tame own.pid) (refuse_if (is_link place) ELOOP) _ (tested _ ELOOP refl) (λ _.
    then_any (Tame own.pid) (refuse_if (not (is_directory place)) ENOTDIR) _ (tested _ ENOTDIR refl) (λ _ entries. record { edits = tt; childless = refl }))))
tame_plan own (Symlink target path) is =
    then_any (Tame own.pid) (refuse_if (is_empty target) ENOENT) _ (tested _ ENOENT refl) (λ _.
    then_any (Tame own.pid) (refuse_if (nat_lt target_limit (length target)) ENAMETOOLONG) _ (tested _ ENAMETOOLONG refl) (λ _.
    then_any (Tame own.pid) (refuse_if (list_any (λ b. b == 0) target) EINVAL) _ (tested _ EINVAL refl) (λ _.
    then_any (Tame own.pid) (parsed own.bounds.path_bytes path) _ (parsed_any own.bounds.path_bytes path) (λ names.
    then_any (Tame own.pid) (last_of own.root EEXIST names) _ (last_of_any own.root EEXIST names refl) (λ at.
    then_any (Tame own.pid) (absent at.found) _ (absent_any at.found) (λ _. record { edits = (tt, tt); childless = refl }))))))
tame_plan own (Readlink path) is =
    then_any (Tame own.pid) (parsed own.bounds.path_bytes path) _ (parsed_any own.bounds.path_bytes path) (λ names.
    then_any (Tame own.pid) (walk (own.root, Some A_directory) names) _ (walk_any _ names) (λ place.
    then_any (Tame own.pid) (refuse_if (not (is_link place)) EINVAL) _ (tested _ EINVAL refl) (λ _ target. record { edits = tt; childless = refl })))
tame_plan own (Lstat path) is = then_any (Tame own.pid) (parsed own.bounds.path_bytes path) _ (parsed_any own.bounds.path_bytes path) (λ names.
    then_any (Tame own.pid) (walk (own.root, Some A_directory) names) _ (walk_any _ names) (λ place. tame_status own.pid place))
tame_plan own (Mknod path special) is =
    then_any (Tame own.pid) (parsed own.bounds.path_bytes path) _ (parsed_any own.bounds.path_bytes path) (λ names.
    then_any (Tame own.pid) (last_of own.root EEXIST names) _ (last_of_any own.root EEXIST names refl) (λ at.
    then_any (Tame own.pid) (absent at.found) _ (absent_any at.found) (λ _. record { edits = (tt, tt); childless = refl })))
tame_plan own (Chmod path permissions) is = then_any (Tame own.pid) (parsed own.bounds.path_bytes path) _ (parsed_any own.bounds.path_bytes path) (λ names.
    then_any (Tame own.pid) (walk (own.root, Some A_directory) names) _ (walk_any _ names) (λ place.
    then_any (Tame own.pid) (refuse_if (is_link place) ELOOP) _ (tested _ ELOOP refl) (λ _ rights. record { edits = (tt, tt); childless = refl })))
tame_plan own (Chown path owner) is = then_any (Tame own.pid) (parsed own.bounds.path_bytes path) _ (parsed_any own.bounds.path_bytes path) (λ names.
    then_any (Tame own.pid) (walk (own.root, Some A_directory) names) _ (walk_any _ names) (λ place rights. record { edits = (tt, tt); childless = refl }))
tame_plan own (Fchmod f permissions) is = then_any (Tame own.pid) (slot own f) _ (slot_any own f) (λ it rights. record { edits = (tt, tt); childless = refl })
tame_plan own (Fchown f owner) is = then_any (Tame own.pid) (slot own f) _ (slot_any own f) (λ it rights. record { edits = (tt, tt); childless = refl })
tame_plan own (Dup f) is = then_any (Tame own.pid) (slot own f) _ (slot_any own f) (λ it. tame_duplicated own it (free own))
tame_plan own (Dup2 f g) is = then_any (Tame own.pid) (slot own f) _ (slot_any own f) (λ it.
    then_any (Tame own.pid) (refuse_if (nat_le (open_limit own) g) EBADF) _ (tested _ EBADF refl) (λ _. either (Tame own.pid) (f == g) _ _ (record { edits = tt; childless = refl }) (record { edits = (refl, tt); childless = refl })))
tame_plan own Open_pipe is = tame_piped own (free own)
tame_plan own Fork is = absurd (false≢true is)
tame_plan own Exit is = absurd (false≢true is)

forked_any : (own : Own) (o : Option (ℕ × ℕ)) → Ends Any (forked own o)
forked_any own (Some (made, priority)) = then_any Any (refuse_if (nat_le 4096 made) EAGAIN) _ (tested _ EAGAIN refl) (λ _. tt)
forked_any own None = refl

weakened : {A : Type 0} (P : A → Type 0) (m : Plan A) → Ends P m → Ends Any m
weakened P (Give x) h = tt
weakened P (Refuse e) h = h
weakened P (Ask q next) h = λ a. weakened P (next a) (h a)

any_plan : (own : Own) (call : Call) → Ends Any (plan own call)
any_plan own Fork = forked_any own own.birth
any_plan own Exit = tt
any_plan own call = weakened (Tame own.pid) (plan own call) (tame_plan own call refl)

pub ends_given : {A : Type 0} (k : Kernel) (P : A → Type 0) (m : Plan A) → Ends P m → IfOk (given k m) P
ends_given k P (Give x) h = h
ends_given k P (Refuse e) h = tt
ends_given k P (Ask q next) h = ends_given k P (next (answer k q)) (h (answer k q))

fine_given : {A : Type 0} (k : Kernel) (m : Plan A) → Ends Any m → Fine (given k m)
fine_given k (Give x) h = tt
fine_given k (Refuse e) h = h
fine_given k (Ask q next) h = fine_given k (next (answer k q)) (h (answer k q))

-- each call is executed: its answer, as a reply, is an answer again
pub executed_again : (k : Kernel) (pid : ℕ) (call : Call) → answer_in (answered (reply k pid call)) ≡ Some (reply k pid call)
executed_again k pid call = by (outcome k pid call) (fine_given k (plan (own k pid call) call) (any_plan (own k pid call) call)) where
  by : (r : Result Change Errno) → Fine r → answer_in (answered (reply_of r)) ≡ Some (reply_of r)
  by (Ok change) h = refl
  by (Err e) h = ap (λ b. if b then None else Some (Err e)) h
