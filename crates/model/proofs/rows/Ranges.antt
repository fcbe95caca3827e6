-- Worked rows of ranges of a file: room for them, holes, and the places where these begin and end.
use Rattle.std.proofs.Common.{◌≡◌, pos, negsuc, List, [], ◌∷◌, ◌++◌, Ok, Err, refl}
use Rattle.std.specs.Prelude.{codes}
use Rattle.model.specs.Aspects.{Size, Block, Offset}
use Rattle.model.specs.Plan.{EBADF, EFBIG, EINVAL, ENXIO, ESPIPE}
use Rattle.model.specs.Calls.{To_data, To_hole, From_offset, Grow, Keep, Punch, Open, Write, Pread, Pwrite, Lseek, Ftruncate, Fallocate, Fstat, Open_pipe, Done, Bytes, Descriptor, Pair, Count, New_place}
use Rattle.model.specs.Steps.{reads, writes}
use Rattle.model.specs.Script.{runs, Line, fresh, fresh_with, script_replies, last_state, rdonly, rdwr_creat, a_file}

abbrev made_a : List Line
made_a = (1, Open (codes "/a") rdwr_creat, 1 ∷ 2 ∷ []) ∷ []

-- two blocks that nothing was written into, and one with a byte at 3000, which is the last
abbrev two_holes : List Line
two_holes = made_a ++ (1, Pwrite 0 (codes "x") (pos 3000), []) ∷ []

-- the same with data in the first
abbrev one_hole : List Line
one_hole = two_holes ++ (1, Pwrite 0 (codes "y") (pos 1023), []) ∷ []

grown : script_replies fresh (made_a ++ (1, Write 0 (codes "ab"), []) ∷ (1, Fallocate 0 (pos 3) (pos 2) Grow, []) ∷ (1, Fstat 0, []) ∷ (1, Fallocate 0 (pos 0) (pos 4) Grow, []) ∷ (1, Fstat 0, []) ∷ (1, Pread 0 9 (pos 0), []) ∷ (1, Lseek 0 (pos 0) From_offset, []) ∷ [])
    ≡ Ok (Descriptor 0) ∷ Ok (Count 2) ∷ Ok Done ∷ Ok (a_file 1 5 1) ∷ Ok Done ∷ Ok (a_file 1 5 1) ∷ Ok (Bytes (97 ∷ 98 ∷ 0 ∷ 0 ∷ 0 ∷ [])) ∷ Ok (New_place 2) ∷ []
unfolding runs
grown = refl

nothing_shows : last_state fresh (made_a ++ (1, Fallocate 0 (pos 0) (pos 1048576) Keep, []) ∷ []) ≡ last_state fresh made_a
unfolding runs
nothing_shows = refl

-- the length stays, wherever the range ends
punched : script_replies fresh (made_a ++ (1, Write 0 (codes "abcdef"), []) ∷ (1, Fallocate 0 (pos 1) (pos 2) Punch, []) ∷ (1, Pread 0 9 (pos 0), []) ∷ (1, Fallocate 0 (pos 4) (pos 1048572) Punch, []) ∷ (1, Pread 0 9 (pos 0), []) ∷ (1, Fallocate 0 (pos 6) (pos 1) Punch, []) ∷ (1, Fstat 0, []) ∷ [])
    ≡ Ok (Descriptor 0) ∷ Ok (Count 6) ∷ Ok Done ∷ Ok (Bytes (97 ∷ 0 ∷ 0 ∷ 100 ∷ 101 ∷ 102 ∷ [])) ∷ Ok Done ∷ Ok (Bytes (97 ∷ 0 ∷ 0 ∷ 100 ∷ 0 ∷ 0 ∷ [])) ∷ Ok Done ∷ Ok (a_file 1 6 1) ∷ []
unfolding runs
punched = refl

-- each refusal, in a kernel with files of at most 5 bytes, with the next one's cause there as well
ranges_refused : script_replies (fresh_with 5) (made_a ++ (1, Open (codes "/a") rdonly, 3 ∷ []) ∷ (1, Open_pipe, 4 ∷ 5 ∷ 6 ∷ []) ∷ (1, Fallocate 9 (negsuc 0) (pos 0) Punch, []) ∷ (1, Fallocate 1 (negsuc 0) (pos 0) Punch, []) ∷ (1, Fallocate 1 (pos 5) (pos 0) Grow, []) ∷ (1, Fallocate 1 (pos 5) (negsuc 0) Keep, []) ∷ (1, Fallocate 2 (pos 5) (pos 1) Punch, []) ∷ (1, Fallocate 1 (pos 5) (pos 1) Keep, []) ∷ (1, Fallocate 3 (pos 5) (pos 1) Grow, []) ∷ (1, Fallocate 0 (pos 5) (pos 1) Grow, []) ∷ (1, Fallocate 0 (pos 0) (pos 6) Keep, []) ∷ (1, Fallocate 0 (pos 3) (pos 3) Punch, []) ∷ (1, Fallocate 0 (pos 3) (pos 2) Keep, []) ∷ (1, Fallocate 0 (pos 3) (pos 2) Punch, []) ∷ (1, Fstat 0, []) ∷ (1, Fallocate 0 (pos 3) (pos 2) Grow, []) ∷ (1, Fstat 0, []) ∷ [])
    ≡ Ok (Descriptor 0) ∷ Ok (Descriptor 1) ∷ Ok (Pair 2 3) ∷ Err EBADF ∷ Err EINVAL ∷ Err EINVAL ∷ Err EINVAL ∷ Err EBADF ∷ Err EBADF ∷ Err ESPIPE ∷ Err EFBIG ∷ Err EFBIG ∷ Err EFBIG ∷ Ok Done ∷ Ok Done ∷ Ok (a_file 1 0 1) ∷ Ok Done ∷ Ok (a_file 1 5 1) ∷ []
unfolding runs
ranges_refused = refl

grown_touches : writes (last_state fresh two_holes) 1 (Fallocate 0 (pos 3001) (pos 2000) Grow) ≡ Size 1 ∷ []
unfolding runs
grown_touches = refl

long_enough_touches : writes (last_state fresh two_holes) 1 (Fallocate 0 (pos 0) (pos 3001) Grow) ≡ []
unfolding runs
long_enough_touches = refl

kept_touches : reads (last_state fresh two_holes) 1 (Fallocate 0 (pos 0) (pos 9000) Keep) ≡ []
unfolding runs
kept_touches = refl

-- blocks that the file has, and not its length
punched_reads : reads (last_state fresh two_holes) 1 (Fallocate 0 (pos 1030) (pos 9000) Punch) ≡ Size 1 ∷ []
unfolding runs
punched_reads = refl

punched_writes : writes (last_state fresh two_holes) 1 (Fallocate 0 (pos 1030) (pos 9000) Punch) ≡ Block 1 1 ∷ Block 1 2 ∷ []
unfolding runs
punched_writes = refl

-- data and holes from each place on: in both, at their ends, and at and behind the end
data_found : script_replies (last_state fresh one_hole) ((1, Lseek 0 (pos 0) To_data, []) ∷ (1, Lseek 0 (pos 1023) To_data, []) ∷ (1, Lseek 0 (pos 1024) To_data, []) ∷ (1, Lseek 0 (pos 2047) To_data, []) ∷ (1, Lseek 0 (pos 2500) To_data, []) ∷ (1, Lseek 0 (pos 0) From_offset, []) ∷ (1, Lseek 0 (pos 3001) To_data, []) ∷ (1, Lseek 0 (pos 9000) To_data, []) ∷ (1, Lseek 0 (negsuc 0) To_data, []) ∷ (1, Lseek 0 (pos 0) From_offset, []) ∷ [])
    ≡ Ok (New_place 0) ∷ Ok (New_place 1023) ∷ Ok (New_place 2048) ∷ Ok (New_place 2048) ∷ Ok (New_place 2500) ∷ Ok (New_place 2500) ∷ Err ENXIO ∷ Err ENXIO ∷ Err ENXIO ∷ Ok (New_place 2500) ∷ []
unfolding runs
data_found = refl

holes_found : script_replies (last_state fresh one_hole) ((1, Lseek 0 (pos 0) To_hole, []) ∷ (1, Lseek 0 (pos 1024) To_hole, []) ∷ (1, Lseek 0 (pos 1500) To_hole, []) ∷ (1, Lseek 0 (pos 2048) To_hole, []) ∷ (1, Lseek 0 (pos 3000) To_hole, []) ∷ (1, Lseek 0 (pos 3001) To_hole, []) ∷ (1, Lseek 0 (negsuc 5) To_hole, []) ∷ [])
    ≡ Ok (New_place 1024) ∷ Ok (New_place 1024) ∷ Ok (New_place 1500) ∷ Ok (New_place 3001) ∷ Ok (New_place 3001) ∷ Err ENXIO ∷ Err ENXIO ∷ []
unfolding runs
holes_found = refl

-- no data behind a place, and a file of no bytes
none_behind : script_replies fresh (made_a ++ (1, Lseek 0 (pos 0) To_data, []) ∷ (1, Lseek 0 (pos 0) To_hole, []) ∷ (1, Ftruncate 0 3000, []) ∷ (1, Lseek 0 (pos 5) To_data, []) ∷ (1, Lseek 0 (pos 5) To_hole, []) ∷ [])
    ≡ Ok (Descriptor 0) ∷ Err ENXIO ∷ Err ENXIO ∷ Ok Done ∷ Err ENXIO ∷ Ok (New_place 5) ∷ []
unfolding runs
none_behind = refl

-- zeros that were written are a hole as well, where they fill a block
written_zeros : script_replies (last_state fresh one_hole) ((1, Pwrite 0 (0 ∷ []) (pos 1023), []) ∷ (1, Lseek 0 (pos 0) To_hole, []) ∷ (1, Lseek 0 (pos 0) To_data, []) ∷ [])
    ≡ Ok (Count 1) ∷ Ok (New_place 0) ∷ Ok (New_place 2048) ∷ []
unfolding runs
written_zeros = refl

-- the length, the blocks that are passed, and the one behind them
passed_reads : reads (last_state fresh two_holes) 1 (Lseek 0 (pos 5) To_data) ≡ Size 1 ∷ Block 1 0 ∷ Block 1 1 ∷ Block 1 2 ∷ []
unfolding runs
passed_reads = refl

found_reads : reads (last_state fresh two_holes) 1 (Lseek 0 (pos 5) To_hole) ≡ Size 1 ∷ Block 1 0 ∷ []
unfolding runs
found_reads = refl

to_the_end_reads : reads (last_state fresh two_holes) 1 (Lseek 0 (pos 2500) To_hole) ≡ Size 1 ∷ Block 1 2 ∷ []
unfolding runs
to_the_end_reads = refl

behind_the_end_reads : reads (last_state fresh two_holes) 1 (Lseek 0 (pos 3001) To_data) ≡ Size 1 ∷ []
unfolding runs
behind_the_end_reads = refl

found_writes : writes (last_state fresh two_holes) 1 (Lseek 0 (pos 0) To_data) ≡ Offset 2 ∷ []
unfolding runs
found_writes = refl
