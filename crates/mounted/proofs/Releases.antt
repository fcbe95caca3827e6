-- Files that are open once less.
use Rattle.std.proofs.Common.{◌≡◌, ℕ, Bool, true, false, refl, sym, ap, subst, ◌∙◌}
use Rattle.std.specs.Prelude.{Option, Some, None, Ok, nat_lt, if◌then◌else◌}
use Rattle.std.specs.Ordering.{nat_cmp}
use Rattle.model.specs.FiniteMap as map
use Rattle.fuse.specs.declared.reply.Reply.{Reply}
use Rattle.fuse.specs.declared.reply.Reply.TheVariants as reply
use Rattle.machine.specs.Shown.{Shown}
use Rattle.mount_tables.specs.FileKeys.{key_cmp}
use Rattle.mount_tables.specs.Files.{Files, closed_once, key_of, unlinked}
use Rattle.mount_tables.specs.Files as tables
use Rattle.mount_tables.specs.declared.open_files.OpenFile.{OpenFile}
use Rattle.mount_requests.specs.Found.{file_at}
use Rattle.mount_requests.specs.Seen.{Seen}
use Rattle.mounted.specs.Served.{Closes, Releases, ReleasesBy, ToldBy, last_open, released_by}

abbrev pub Opens : Type 0
Opens = map.FinMap nat_cmp OpenFile

abbrev pub Handles : Type 0
Handles = map.FinMap key_cmp ℕ

-- the open files, as their table has them
abbrev pub files_of : Seen → ℕ → Files
files_of s room = record { each = s.files; handles = s.handles; next = s.next_file; room = room }

-- what is known, where the table has changed
abbrev pub with_files : Seen → Opens → Handles → ℕ → Seen
with_files s each handles next = record s { files = each; handles = handles; next_file = next }

-- what is left of the table
abbrev left : Bool → Seen → ℕ → ℕ → OpenFile → Files × Option OpenFile
left b s room handle file =
    if b then (record (files_of s room) { each = map.insert s.files handle (closed_once file) }, None)
    else (tables.without_file (files_of s room) handle file, Some file)

if_known : (b : Bool) (s : Seen) (room handle : ℕ) (file : OpenFile) → ◌≡◌ {A = Seen}
    (with_files s (left b s room handle file).0.each (left b s room handle file).0.handles s.next_file)
    (if b then record s { files = map.insert s.files handle (closed_once file) } else record s { files = map.remove s.files handle; handles = unlinked handle (key_of file) s.handles })
if_known true s room handle file = refl
if_known false s room handle file = refl

same_release : (s : Seen) (room handle : ℕ) (o : Option OpenFile) → with_files s (tables.released_by (files_of s room) handle o).0.each (tables.released_by (files_of s room) handle o).0.handles s.next_file ≡ released_by s handle o
same_release s room handle None = refl
same_release s room handle (Some file) = if_known (nat_lt 1 file.opens) s room handle file

-- what is known once a file is open once less
pub is_released : (s : Seen) (room handle : ℕ) {each : Opens} {handles : Handles} {next : ℕ} → each ≡ (tables.released (files_of s room) handle).0.each → handles ≡ (tables.released (files_of s room) handle).0.handles → next ≡ s.next_file
    → with_files s each handles next ≡ released_by s handle (file_at s handle)
is_released s room handle {each} {handles} {next} of_each of_handles of_next =
    ap (λ (e : Opens). with_files s e handles next) of_each
    ∙ ap (λ (h : Handles). with_files s (tables.released (files_of s room) handle).0.each h next) of_handles
    ∙ ap (λ (n : ℕ). with_files s (tables.released (files_of s room) handle).0.each (tables.released (files_of s room) handle).0.handles n) of_next
    ∙ same_release s room handle (map.get s.files handle)

-- the last time that a file was open it is closed
pub is_closed : (s later : Seen) (handle : ℕ) (file : OpenFile) (old new : Shown) {answer : Reply} {o : Option OpenFile} → o ≡ last_open s (file_at s handle) → o ≡ Some file → ToldBy (Closes s later handle file old new) answer → ToldBy (Releases s later handle old new) answer
is_closed s later handle file old new is there t = record {
  outcome = t.outcome;
  served = subst (λ (p : Option OpenFile). ReleasesBy p s later handle old new t.outcome) (sym there ∙ is) t.served;
  is = t.is;
}

-- or there is nothing to close
pub is_not_closed : (s later : Seen) (handle : ℕ) (v : Shown) {o : Option OpenFile} → o ≡ last_open s (file_at s handle) → o ≡ None → later ≡ released_by s handle (file_at s handle) → ToldBy (Releases s later handle v v) reply.Empty
is_not_closed s later handle v is none same = record {
  outcome = Ok reply.Empty;
  served = subst (λ (p : Option OpenFile). ReleasesBy p s later handle v v (Ok reply.Empty)) (sym none ∙ is) (refl, refl, same);
  is = refl;
}
