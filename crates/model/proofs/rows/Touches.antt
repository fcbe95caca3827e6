-- What the calls of worked rows touch.
use Rattle.std.proofs.Common.{◌≡◌, List, [], ◌∷◌, ◌++◌, map, pos, refl, replicate}
use Rattle.std.specs.Prelude.{codes}
use Rattle.model.specs.Aspects.{Entry, Names, Size, Block, Links, Ends, Offset, Front, Back, Rights}
use Rattle.model.specs.Plan.{rising}
use Rattle.model.specs.Calls.{From_start, Open, Close, Read, Pread, Write, Pwrite, Lseek, Ftruncate, Truncate, Stat, Fstat, Link, Unlink, Rename, Mkdir, Rmdir, List_directory, Dup, Dup2, Open_pipe, Fork, Exit}
use Rattle.model.specs.Steps.{reads, writes}
use Rattle.model.specs.Script.{runs, Line, fresh, last_state, flags, rdwr_creat, rdonly}

abbrev made_a : List Line
made_a = (1, Open (codes "/a") rdwr_creat, 1 ∷ 2 ∷ []) ∷ []

abbrev two_directories : List Line
two_directories = (1, Mkdir (codes "/a"), 1 ∷ []) ∷ (1, Mkdir (codes "/b"), 2 ∷ []) ∷ []

abbrev two_pipes : List Line
two_pipes = (1, Open_pipe, 1 ∷ 2 ∷ 3 ∷ []) ∷ (1, Open_pipe, 4 ∷ 5 ∷ 6 ∷ []) ∷ []

abbrev two_in_a_pipe : List Line
two_in_a_pipe = (1, Open_pipe, 1 ∷ 2 ∷ 3 ∷ []) ∷ (1, Write 1 (5 ∷ 6 ∷ []), []) ∷ []

-- an absent name that is looked for, and made
absent_name : reads fresh 2 (Stat (codes "/a")) ≡ Entry 0 (codes "a") ∷ []
unfolding runs
absent_name = refl

made_name : writes fresh 1 (Open (codes "/a") rdwr_creat) ≡ Entry 0 (codes "a") ∷ []
unfolding runs
made_name = refl

made_directory : writes fresh 2 (Mkdir (codes "/a")) ≡ Entry 0 (codes "a") ∷ []
unfolding runs
made_directory = refl

-- a full table is refused before the walk
full_table : reads (last_state fresh (made_a ++ map (λ f. (1, Dup 0, [])) (rising 1 63))) 1 (Open (codes "/no") rdonly) ≡ []
unfolding runs
full_table = refl

-- both files are empty: a reader shows the size, a writer changes it
empty_file_read : reads (last_state fresh made_a) 1 (Read 0 1) ≡ Offset 2 ∷ Size 1 ∷ []
unfolding runs
empty_file_read = refl

empty_file_written : writes (last_state fresh made_a) 1 (Write 0 (codes "p")) ≡ Size 1 ∷ Block 1 0 ∷ Offset 2 ∷ []
unfolding runs
empty_file_written = refl

last_byte_written : writes (last_state fresh (made_a ++ (1, Lseek 0 (pos 1048575) From_start, []) ∷ [])) 1 (Write 0 (codes "xy")) ≡ Size 1 ∷ Block 1 1023 ∷ Offset 2 ∷ []
unfolding runs
last_byte_written = refl

over_two_blocks : reads (last_state fresh (made_a ++ (1, Write 0 (replicate 1025 120), []) ∷ (1, Open (codes "/a") rdonly, 3 ∷ []) ∷ [])) 1 (Read 1 2000) ≡ Offset 3 ∷ Size 1 ∷ Block 1 0 ∷ Block 1 1 ∷ []
unfolding runs
over_two_blocks = refl

-- a read and a write from an offset on see and move no offset
read_from_an_offset : reads (last_state fresh (made_a ++ (1, Write 0 (replicate 1025 120), []) ∷ [])) 1 (Pread 0 2000 (pos 1000)) ≡ Size 1 ∷ Block 1 0 ∷ Block 1 1 ∷ []
unfolding runs
read_from_an_offset = refl

read_from_the_end : reads (last_state fresh (made_a ++ (1, Write 0 (replicate 1025 120), []) ∷ [])) 1 (Pread 0 5 (pos 1025)) ≡ Size 1 ∷ []
unfolding runs
read_from_the_end = refl

written_from_an_offset_reads : reads (last_state fresh (made_a ++ (1, Write 0 (replicate 1025 120), []) ∷ [])) 1 (Pwrite 0 (codes "p") (pos 1024)) ≡ Size 1 ∷ []
unfolding runs
written_from_an_offset_reads = refl

written_inside : writes (last_state fresh (made_a ++ (1, Write 0 (replicate 1025 120), []) ∷ [])) 1 (Pwrite 0 (codes "p") (pos 1024)) ≡ Block 1 1 ∷ []
unfolding runs
written_inside = refl

written_over_the_end : writes (last_state fresh (made_a ++ (1, Write 0 (replicate 1025 120), []) ∷ [])) 1 (Pwrite 0 (codes "pq") (pos 1024)) ≡ Size 1 ∷ Block 1 1 ∷ []
unfolding runs
written_over_the_end = refl

written_behind_a_gap : writes (last_state fresh (made_a ++ (1, Write 0 (replicate 1025 120), []) ∷ [])) 1 (Pwrite 0 (codes "p") (pos 3000)) ≡ Size 1 ∷ Block 1 2 ∷ []
unfolding runs
written_behind_a_gap = refl

cut_from_the_middle : writes (last_state fresh (made_a ++ (1, Write 0 (replicate 3000 120), []) ∷ [])) 1 (Ftruncate 0 1030) ≡ Size 1 ∷ Block 1 1 ∷ Block 1 2 ∷ []
unfolding runs
cut_from_the_middle = refl

truncated_by_name_reads : reads (last_state fresh (made_a ++ (1, Write 0 (replicate 3000 120), []) ∷ [])) 2 (Truncate (codes "/a") 1030) ≡ Entry 0 (codes "a") ∷ Size 1 ∷ []
unfolding runs
truncated_by_name_reads = refl

truncated_by_name_writes : writes (last_state fresh (made_a ++ (1, Write 0 (replicate 3000 120), []) ∷ [])) 2 (Truncate (codes "/a") 1030) ≡ Size 1 ∷ Block 1 1 ∷ Block 1 2 ∷ []
unfolding runs
truncated_by_name_writes = refl

emptied_when_opened : writes (last_state fresh (made_a ++ (1, Write 0 (codes "xy"), []) ∷ [])) 1 (Open (codes "/a") (flags 18)) ≡ Size 1 ∷ Block 1 0 ∷ []
unfolding runs
emptied_when_opened = refl

status_of_a_file : reads (last_state fresh made_a) 1 (Fstat 0) ≡ Size 1 ∷ Links 1 ∷ Rights 1 ∷ []
unfolding runs
status_of_a_file = refl

linked : writes (last_state fresh made_a) 1 (Link (codes "/a") (codes "/b")) ≡ Entry 0 (codes "b") ∷ Links 1 ∷ []
unfolding runs
linked = refl

unlinked : writes (last_state fresh made_a) 2 (Unlink (codes "/a")) ≡ Entry 0 (codes "a") ∷ Links 1 ∷ []
unfolding runs
unlinked = refl

renamed_over_a_file : writes (last_state fresh (made_a ++ (1, Open (codes "/b") rdwr_creat, 3 ∷ 4 ∷ []) ∷ [])) 2 (Rename (codes "/a") (codes "/b")) ≡ Entry 0 (codes "a") ∷ Entry 0 (codes "b") ∷ Links 3 ∷ []
unfolding runs
renamed_over_a_file = refl

renamed_reads : reads (last_state fresh two_directories) 1 (Rename (codes "/a") (codes "/b/a")) ≡ Entry 0 (codes "a") ∷ Entry 0 (codes "b") ∷ Entry 2 (codes "a") ∷ []
unfolding runs
renamed_reads = refl

renamed_writes : writes (last_state fresh two_directories) 1 (Rename (codes "/a") (codes "/b/a")) ≡ Entry 0 (codes "a") ∷ Entry 2 (codes "a") ∷ []
unfolding runs
renamed_writes = refl

listed : reads (last_state fresh two_directories) 1 (List_directory (codes "/a")) ≡ Entry 0 (codes "a") ∷ Names 1 ∷ []
unfolding runs
listed = refl

removed_reads : reads (last_state fresh two_directories) 1 (Rmdir (codes "/a")) ≡ Entry 0 (codes "a") ∷ Names 1 ∷ []
unfolding runs
removed_reads = refl

removed_writes : writes (last_state fresh two_directories) 1 (Rmdir (codes "/a")) ≡ Entry 0 (codes "a") ∷ []
unfolding runs
removed_writes = refl

-- a read that takes all bytes but asks for more shows both ends of the pipe
short_read : reads (last_state fresh two_in_a_pipe) 1 (Read 0 3) ≡ Front 1 ∷ Back 1 ∷ []
unfolding runs
short_read = refl

full_read : reads (last_state fresh two_in_a_pipe) 1 (Read 0 2) ≡ Front 1 ∷ []
unfolding runs
full_read = refl

taken : writes (last_state fresh two_in_a_pipe) 1 (Read 0 2) ≡ Front 1 ∷ []
unfolding runs
taken = refl

empty_read : reads (last_state fresh ((1, Open_pipe, 1 ∷ 2 ∷ 3 ∷ []) ∷ [])) 1 (Read 0 2) ≡ Front 1 ∷ Back 1 ∷ Ends 1 ∷ []
unfolding runs
empty_read = refl

written_into_a_pipe : reads (last_state fresh two_in_a_pipe) 1 (Write 1 (codes "x")) ≡ Ends 1 ∷ Back 1 ∷ []
unfolding runs
written_into_a_pipe = refl

written_into_a_full_pipe : reads (last_state fresh ((1, Open_pipe, 1 ∷ 2 ∷ 3 ∷ []) ∷ (1, Write 1 (replicate 3585 122), []) ∷ [])) 1 (Write 1 (replicate 512 122)) ≡ Ends 1 ∷ Back 1 ∷ Front 1 ∷ []
unfolding runs
written_into_a_full_pipe = refl

closed_end : writes (last_state fresh two_in_a_pipe) 1 (Close 1) ≡ Ends 1 ∷ []
unfolding runs
closed_end = refl

one_more_end : writes (last_state fresh two_pipes) 1 (Dup 0) ≡ Ends 1 ∷ []
unfolding runs
one_more_end = refl

-- the pipe that comes, and the one that goes
another_end : writes (last_state fresh two_pipes) 1 (Dup2 0 3) ≡ Ends 1 ∷ Ends 4 ∷ []
unfolding runs
another_end = refl

forked : writes (last_state fresh (two_in_a_pipe ++ (1, Open_pipe, 4 ∷ 5 ∷ 6 ∷ []) ∷ [])) 1 Fork ≡ Ends 1 ∷ Ends 4 ∷ []
unfolding runs
forked = refl

ended : writes (last_state fresh (two_in_a_pipe ++ (1, Dup 0, []) ∷ [])) 1 Exit ≡ Ends 1 ∷ []
unfolding runs
ended = refl

pipe_makes_no_touch : writes fresh 1 Open_pipe ≡ []
unfolding runs
pipe_makes_no_touch = refl

-- a call that is refused has touched what it saw
refused_touches : reads fresh 1 (Rename (codes "/a/b") (codes "/b")) ≡ Entry 0 (codes "a") ∷ []
unfolding runs
refused_touches = refl
