-- What a renaming makes of questions, of what a process sees of itself, of edits and of answers.
use Rattle.std.specs.Prelude.{ℕ, map, Option, Result, Ok, Err}
use Rattle.model.specs.State.{Kind, mapped}
use Rattle.model.specs.Plan.{Errno, Question, Shown, Look, List_names, Measure, Read_file}
use Rattle.model.specs.Plan.{Count_links, Count_ends, Find_offset, Read_pipe, Fit, Read_target}
use Rattle.model.specs.Plan.{Find_rights, Pass_blocks}
use Rattle.model.specs.Changes.{Which, There, Made, Replaced, Over_nothing, Over_file}
use Rattle.model.specs.Changes.{Over_directory, Edit, Make_directory, Make_file, Make_fixed}
use Rattle.model.specs.Changes.{Name_file, Unname_file, Unname_directory, Swap, Wipe, Move, Put_bytes, Cut, Take, Append}
use Rattle.model.specs.Changes.{Set_offset, Set_rights, Open_inode, Make_pipe, Share_slot, Clear_slot}
use Rattle.model.specs.Changes.{New_process, End_process}
use Rattle.model.specs.Calls.{Answer, Stated, Slot, Own}
use Rattle.model.specs.Plans.{Change}
use Rattle.model.specs.Steps.{Item}
use Rattle.model.specs.Entries.{Executed, Reply, Answers, Entry}

abbrev pub renamed_question : (ℕ → ℕ) → Question → Question
renamed_question f (Look d x) = Look (f d) x
renamed_question f (List_names d) = List_names (f d)
renamed_question f (Measure n) = Measure (f n)
renamed_question f (Read_file n place count) = Read_file (f n) place count
renamed_question f (Count_links n) = Count_links (f n)
renamed_question f (Count_ends p) = Count_ends (f p)
renamed_question f (Find_offset d) = Find_offset (f d)
renamed_question f (Read_pipe p count) = Read_pipe (f p) count
renamed_question f (Fit p count) = Fit (f p) count
renamed_question f (Read_target n) = Read_target (f n)
renamed_question f (Find_rights n) = Find_rights (f n)
renamed_question f (Pass_blocks holes n first count) = Pass_blocks holes (f n) first count

-- a number with its kind
abbrev pub renamed_place : (ℕ → ℕ) → ℕ × Option Kind → ℕ × Option Kind
renamed_place f place = (f place.0, place.1)

-- only what a name gives is told by its number
abbrev pub renamed_shown : (f : ℕ → ℕ) (q : Question) → Shown q → Shown (renamed_question f q)
renamed_shown f (Look d x) found = mapped (renamed_place f) found
renamed_shown f (List_names d) names = names
renamed_shown f (Measure n) size = size
renamed_shown f (Read_file n place count) bytes = bytes
renamed_shown f (Count_links n) count = count
renamed_shown f (Count_ends p) counts = counts
renamed_shown f (Find_offset d) offset = offset
renamed_shown f (Read_pipe p count) bytes = bytes
renamed_shown f (Fit p count) fitting = fitting
renamed_shown f (Read_target n) target = target
renamed_shown f (Find_rights n) rights = rights
renamed_shown f (Pass_blocks holes n first count) passed = passed

abbrev pub renamed_slot : (ℕ → ℕ) → Slot → Slot
renamed_slot f s = record s { description = f s.description; inode = f s.inode }

abbrev pub renamed_own : (ℕ → ℕ) → Own → Own
renamed_own f own = record own {
  root = f own.root;
  table = map (λ e. (e.0, renamed_slot f e.1)) own.table;
}

abbrev pub renamed_which : (ℕ → ℕ) → Which → Which
renamed_which f (There n) = There (f n)
renamed_which f (Made i) = Made i

abbrev pub renamed_replaced : (ℕ → ℕ) → Replaced → Replaced
renamed_replaced f Over_nothing = Over_nothing
renamed_replaced f (Over_file n) = Over_file (f n)
renamed_replaced f (Over_directory n) = Over_directory (f n)

abbrev pub renamed_edit : (ℕ → ℕ) → Edit → Edit
renamed_edit f (Make_directory d x i) = Make_directory (f d) x i
renamed_edit f (Make_file d x i) = Make_file (f d) x i
renamed_edit f (Make_fixed d x fixed i) = Make_fixed (f d) x fixed i
renamed_edit f (Name_file d x n) = Name_file (f d) x (f n)
renamed_edit f (Unname_file d x n) = Unname_file (f d) x (f n)
renamed_edit f (Unname_directory d x n) = Unname_directory (f d) x (f n)
renamed_edit f (Move d x e y n replaced) = Move (f d) x (f e) y (f n) (renamed_replaced f replaced)
renamed_edit f (Swap d x n e y m) = Swap (f d) x (f n) (f e) y (f m)
renamed_edit f (Put_bytes n place bytes before) = Put_bytes (f n) place bytes before
renamed_edit f (Wipe n place count) = Wipe (f n) place count
renamed_edit f (Cut n before after) = Cut (f n) before after
renamed_edit f (Take p count) = Take (f p) count
renamed_edit f (Append p bytes) = Append (f p) bytes
renamed_edit f (Set_offset d place) = Set_offset (f d) place
renamed_edit f (Set_rights n rights) = Set_rights (f n) rights
renamed_edit f (Open_inode i inode mode pid fd) = Open_inode i (renamed_which f inode) mode pid fd
renamed_edit f (Make_pipe i pid reader writer) = Make_pipe i pid reader writer
renamed_edit f (Share_slot pid fd d pipes) = Share_slot pid fd (f d) (map f pipes)
renamed_edit f (Clear_slot pid fd pipes) = Clear_slot pid fd (map f pipes)
renamed_edit f (New_process child parent pipes) = New_process child parent (map f pipes)
renamed_edit f (End_process pid pipes) = End_process pid (map f pipes)

-- of answers those of `stat`, `lstat` and `fstat` alone tell an object's number
abbrev pub renamed_answer : (ℕ → ℕ) → Answer → Answer
renamed_answer f (Stated s) = Stated (record s { num = f s.num })
renamed_answer f answer = answer

abbrev pub renamed_change : (ℕ → ℕ) → Change → Change
renamed_change f c =
    record { reply = renamed_answer f c.reply; edits = map (renamed_edit f) c.edits }

-- what is given, through a function
abbrev pub mapped_ok : {A B : Type 0} → (A → B) → Result A Errno → Result B Errno
mapped_ok g (Ok x) = Ok (g x)
mapped_ok g (Err e) = Err e

abbrev pub renamed_item : (ℕ → ℕ) → Item → Item
renamed_item f it =
    record it { answer = mapped_ok (renamed_answer f) it.answer; chosen = map f it.chosen }

-- an executed call, and an entry of a history, whose causes stay as they are
abbrev pub renamed_executed : (ℕ → ℕ) → Executed → Executed
renamed_executed f e =
    record e { answer = mapped_ok (renamed_answer f) e.answer; chosen = map f e.chosen }

abbrev pub renamed_reply : (ℕ → ℕ) → Reply → Reply
renamed_reply f (Answers answer) = Answers (renamed_answer f answer)
renamed_reply f reply = reply

abbrev pub renamed_entry : (ℕ → ℕ) → Entry → Entry
renamed_entry f e = record e { reply = renamed_reply f e.reply; chosen = map f e.chosen }
