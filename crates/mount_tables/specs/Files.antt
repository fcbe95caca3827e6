-- The open files: what each number stands for, and how that changes.
use Rattle.std.specs.Prelude.{◌≡◌, ◌≢◌, ℕ, ◌+◌, ◌-◌, ◌<◌, ◌^◌, ◌==◌, nat_lt, min, Bool, false, refl}
use Rattle.std.specs.Prelude.{Option, Some, None, if◌then◌else◌}
use Rattle.std.specs.Coded.{Coded, code_by, coded×, coded_ℕ}
use Rattle.std.specs.Ordering.{nat_cmp}
use Rattle.model.specs.FiniteMap as map
use Rattle.mount_tables.specs.FileKeys.{key_cmp, coded_key}
use Rattle.mount_tables.specs.declared.file_key.FileKey.{FileKey}
use Rattle.mount_tables.specs.declared.open_files.OpenFile.{OpenFile}

-- which number each object is open under, and for how many more there is room
pub record Handles : Type 0 where
  pub handles : map.FinMap key_cmp ℕ
  pub room : ℕ

abbrev pub handles_code : Coded Handles
handles_code = code_by (map.FinMap key_cmp ℕ × ℕ) (coded× (map.code coded_key coded_ℕ) coded_ℕ)
    (λ i. (i.handles, i.room)) (λ q. record { handles = q.0; room = q.1 }) (λ _. refl)

-- The open file of each number, the number under which each object is open in each view, the number
-- that is next, and for how many more files there is room.
pub record Files : Type 0 where
  pub each : map.FinMap nat_cmp OpenFile
  pub handles : map.FinMap key_cmp ℕ
  pub next : ℕ
  pub room : ℕ

abbrev pub file_code : Coded OpenFile
file_code = code_by (ℕ × (ℕ × (ℕ × (ℕ × ℕ)))) (coded× coded_ℕ (coded× coded_ℕ (coded× coded_ℕ (coded× coded_ℕ coded_ℕ))))
    (λ f. (f.view, (f.inode, (f.pid, (f.fd, f.opens)))))
    (λ q. record { view = q.0; inode = q.1.0; pid = q.1.1.0; fd = q.1.1.1.0; opens = q.1.1.1.1 }) (λ _. refl)

abbrev pub files_code : Coded Files
files_code = code_by (map.FinMap nat_cmp OpenFile × (map.FinMap key_cmp ℕ × (ℕ × ℕ)))
    (coded× (map.code coded_ℕ file_code) (coded× (map.code coded_key coded_ℕ) (coded× coded_ℕ coded_ℕ)))
    (λ t. (t.each, (t.handles, (t.next, t.room))))
    (λ q. record { each = q.0; handles = q.1.0; next = q.1.1.0; room = q.1.1.1 }) (λ _. refl)

-- how many more files both maps can take, and none where no number is left
abbrev pub room_of : ℕ → ℕ → ℕ → ℕ → ℕ
room_of last next listed indexed = if nat_lt next last then min listed indexed else 0

-- every number that stands for something was given before
abbrev pub IsBelow : {X : Type 0} → ℕ → map.FinMap nat_cmp X → Type 0
IsBelow {X = X} next m = (number : ℕ) (x : X) → map.get m number ≡ Some x → number < next

-- every number to which a key leads was given before
abbrev pub LeadsBelow : ℕ → map.FinMap key_cmp ℕ → Type 0
LeadsBelow next m = (key : FileKey) (number : ℕ) → map.get m key ≡ Some number → number < next

-- ---- one file

abbrev pub key_at : ℕ → ℕ → FileKey
key_at view inode = record { view = view; inode = inode }

abbrev pub key_of : OpenFile → FileKey
key_of file = key_at file.view file.inode

-- opened once
abbrev pub file_for : ℕ → ℕ → ℕ → ℕ → OpenFile
file_for view inode pid fd = record { view = view; inode = inode; pid = pid; fd = fd; opens = 1 }

-- open once more, as far as 64 bits count
abbrev pub opened_again : OpenFile → OpenFile
opened_again file = record file { opens = min (file.opens + 1) (2 ^ 64 - 1) }

-- the files where this one is open once more
abbrev pub counted : ℕ → Option OpenFile → map.FinMap nat_cmp OpenFile → map.FinMap nat_cmp OpenFile
counted handle None each = each
counted handle (Some file) each = map.insert each handle (opened_again file)

-- open once less, and none less than none
abbrev pub closed_once : OpenFile → OpenFile
closed_once file = record file { opens = file.opens - 1 }

-- the files where this one is open once less, and stays
abbrev pub counted_down : ℕ → Option OpenFile → map.FinMap nat_cmp OpenFile → map.FinMap nat_cmp OpenFile
counted_down handle None each = each
counted_down handle (Some file) each = map.insert each handle (closed_once file)

-- ---- files that go

-- whether a number was found, and it is this one
abbrev pub is_this : ℕ → Option ℕ → Bool
is_this number (Some found) = found == number
is_this number None = false

-- a key leads nowhere any more, where it leads to this number
abbrev pub unlinked : ℕ → FileKey → map.FinMap key_cmp ℕ → map.FinMap key_cmp ℕ
unlinked handle key handles =
    if is_this handle (map.get handles key) then map.remove handles key else handles

-- without the file of a number
abbrev pub without_file : Files → ℕ → OpenFile → Files
without_file t handle file = record t {
  each = map.remove t.each handle;
  handles = unlinked handle (key_of file) t.handles;
}

-- A file is open once less. With the last time it goes, and is given as it was.
abbrev pub released_by : Files → ℕ → Option OpenFile → Files × Option OpenFile
released_by t handle None = (t, None)
released_by t handle (Some file) =
    if nat_lt 1 file.opens then (record t { each = map.insert t.each handle (closed_once file) }, None)
    else (without_file t handle file, Some file)

abbrev pub released : Files → ℕ → Files × Option OpenFile
released t handle = released_by t handle (map.get t.each handle)

-- ---- the files of a view

-- no file of this view is open
abbrev pub NoneIn : ℕ → map.FinMap nat_cmp OpenFile → Type 0
NoneIn view each =
    (handle : ℕ) (file : OpenFile) → map.get each handle ≡ Some file → file.view ≢ view

-- a file of this view, or there is none
abbrev pub IsSomeIn : ℕ → map.FinMap nat_cmp OpenFile → Option (ℕ × OpenFile) → Type 0
IsSomeIn view each (Some found) =
    (map.get each found.0 ≡ Some found.1) × (found.1.view ≡ view)
IsSomeIn view each None = NoneIn view each

-- a file of this view went, and all else stands; or there is none, and nothing changed
abbrev pub IsTaken : ℕ → Files → Option (ℕ × OpenFile) → Files → Type 0
IsTaken view old (Some taken) new =
    (map.get old.each taken.0 ≡ Some taken.1)
    × (taken.1.view ≡ view)
    × (new.each ≡ (without_file old taken.0 taken.1).each)
    × (new.handles ≡ (without_file old taken.0 taken.1).handles)
IsTaken view old None new =
    NoneIn view old.each × (new.each ≡ old.each) × (new.handles ≡ old.handles)
