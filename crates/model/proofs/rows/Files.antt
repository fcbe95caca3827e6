-- Worked rows of files, by running the model.
use Rattle.std.proofs.Common.{◌≡◌, pos, negsuc, List, [], ◌∷◌, ◌++◌, Ok, Err, refl, replicate, map}
use Rattle.std.specs.Prelude.{codes}
use Rattle.model.specs.FiniteMap.{keys}
use Rattle.model.specs.Plan.{EBADF, EFBIG, EINVAL, EISDIR, EMFILE, ENOENT, ENOTDIR, EEXIST, rising}
use Rattle.model.specs.Calls.{From_start, From_offset, From_end, Open, Close, Read, Pread, Write, Pwrite, Lseek, Ftruncate, Truncate, Stat, Fstat, Unlink, Dup, Dup2, Done, Bytes, Descriptor, Count, New_place}
use Rattle.model.specs.Steps.{reply}
use Rattle.model.specs.Script.{runs, Line, fresh, fresh_with, script_replies, last_state, flags, rdwr_creat, wronly_creat, rdwr, rdonly, a_file}

-- an empty file made by the first process, at its descriptor 0
abbrev made_a : List Line
made_a = (1, Open (codes "/a") rdwr_creat, 1 ∷ 2 ∷ []) ∷ []

written_and_read : script_replies fresh (made_a ++ (1, Write 0 (codes "hi"), []) ∷ (1, Lseek 0 (pos 0) From_start, []) ∷ (1, Read 0 5, []) ∷ [])
    ≡ Ok (Descriptor 0) ∷ Ok (Count 2) ∷ Ok (New_place 0) ∷ Ok (Bytes (codes "hi")) ∷ []
unfolding runs
written_and_read = refl

made_for_another : script_replies fresh ((2, Stat (codes "/a"), []) ∷ (1, Open (codes "/a") wronly_creat, 1 ∷ 2 ∷ []) ∷ (2, Stat (codes "/a"), []) ∷ [])
    ≡ Err ENOENT ∷ Ok (Descriptor 0) ∷ Ok (a_file 1 0 1) ∷ []
unfolding runs
made_for_another = refl

-- an unlinked file lives while it is open, and its parts go when it is closed
unlinked_while_open : script_replies fresh (made_a ++ (1, Write 0 (codes "q"), []) ∷ (2, Unlink (codes "/a"), []) ∷ (1, Lseek 0 (pos 0) From_start, []) ∷ (1, Read 0 1, []) ∷ (1, Fstat 0, []) ∷ (1, Close 0, []) ∷ [])
    ≡ Ok (Descriptor 0) ∷ Ok (Count 1) ∷ Ok Done ∷ Ok (New_place 0) ∷ Ok (Bytes (codes "q")) ∷ Ok (a_file 1 1 0) ∷ Ok Done ∷ []
unfolding runs
unlinked_while_open = refl

gone_when_closed : keys (last_state fresh (made_a ++ (2, Unlink (codes "/a"), []) ∷ (1, Close 0, []) ∷ [])).inodes ≡ 0 ∷ []
unfolding runs
gone_when_closed = refl

description_gone_when_closed : keys (last_state fresh (made_a ++ (1, Dup 0, []) ∷ (1, Close 0, []) ∷ (1, Close 1, []) ∷ [])).descriptions ≡ []
unfolding runs
description_gone_when_closed = refl

places_out_of_range : script_replies fresh (made_a ++ (1, Lseek 0 (pos 1048577) From_start, []) ∷ (1, Lseek 0 (negsuc 0) From_start, []) ∷ (1, Lseek 0 (pos 1048576) From_end, []) ∷ (1, Write 0 (codes "z"), []) ∷ [])
    ≡ Ok (Descriptor 0) ∷ Err EINVAL ∷ Err EINVAL ∷ Ok (New_place 1048576) ∷ Err EFBIG ∷ []
unfolding runs
places_out_of_range = refl

-- the last byte that a file can have
last_byte : reply (last_state fresh (made_a ++ (1, Lseek 0 (pos 1048575) From_start, []) ∷ [])) 1 (Write 0 (codes "xy")) ≡ Ok (Count 1)
unfolding runs
last_byte = refl

-- the same for a kernel with files of at most 5 bytes
cut_at_five : script_replies (fresh_with 5) (made_a ++ (1, Write 0 (codes "abcdefg"), []) ∷ (1, Write 0 (codes "h"), []) ∷ (1, Lseek 0 (pos 5) From_start, []) ∷ (1, Lseek 0 (pos 6) From_start, []) ∷ (1, Ftruncate 0 5, []) ∷ (1, Ftruncate 0 6, []) ∷ (1, Fstat 0, []) ∷ [])
    ≡ Ok (Descriptor 0) ∷ Ok (Count 5) ∷ Err EFBIG ∷ Ok (New_place 5) ∷ Err EINVAL ∷ Ok Done ∷ Err EFBIG ∷ Ok (a_file 1 5 1) ∷ []
unfolding runs
cut_at_five = refl

written_past_the_end : script_replies fresh (made_a ++ (1, Lseek 0 (pos 65535) From_start, []) ∷ (1, Write 0 (codes "xy"), []) ∷ (1, Fstat 0, []) ∷ [])
    ≡ Ok (Descriptor 0) ∷ Ok (New_place 65535) ∷ Ok (Count 2) ∷ Ok (a_file 1 65537 1) ∷ []
unfolding runs
written_past_the_end = refl

-- bytes that were cut off are zero when the file grows again
cut_and_grown : script_replies fresh (made_a ++ (1, Write 0 (replicate 3000 120), []) ∷ (1, Ftruncate 0 100, []) ∷ (1, Ftruncate 0 2000, []) ∷ (1, Lseek 0 (pos 99) From_start, []) ∷ (1, Read 0 3, []) ∷ (2, Stat (codes "/a"), []) ∷ [])
    ≡ Ok (Descriptor 0) ∷ Ok (Count 3000) ∷ Ok Done ∷ Ok Done ∷ Ok (New_place 99) ∷ Ok (Bytes (120 ∷ 0 ∷ 0 ∷ [])) ∷ Ok (a_file 1 2000 1) ∷ []
unfolding runs
cut_and_grown = refl

-- from an offset on; the description's own stays, and no byte lies at or past the end
read_from_offsets : script_replies fresh (made_a ++ (1, Write 0 (codes "abcdef"), []) ∷ (1, Pread 0 3 (pos 2), []) ∷ (1, Pread 0 9 (pos 4), []) ∷ (1, Pread 0 1 (pos 6), []) ∷ (1, Pread 0 1 (pos 1048577), []) ∷ (1, Pread 0 0 (pos 0), []) ∷ (1, Lseek 0 (pos 0) From_offset, []) ∷ [])
    ≡ Ok (Descriptor 0) ∷ Ok (Count 6) ∷ Ok (Bytes (codes "cde")) ∷ Ok (Bytes (codes "ef")) ∷ Ok (Bytes []) ∷ Ok (Bytes []) ∷ Ok (Bytes []) ∷ Ok (New_place 6) ∷ []
unfolding runs
read_from_offsets = refl

written_from_offsets : script_replies fresh (made_a ++ (1, Write 0 (codes "abcdef"), []) ∷ (1, Pwrite 0 (codes "XY") (pos 1), []) ∷ (1, Pwrite 0 (codes "Z") (pos 8), []) ∷ (1, Pwrite 0 [] (pos 1048576), []) ∷ (1, Lseek 0 (pos 0) From_offset, []) ∷ (1, Pread 0 20 (pos 0), []) ∷ [])
    ≡ Ok (Descriptor 0) ∷ Ok (Count 6) ∷ Ok (Count 2) ∷ Ok (Count 1) ∷ Ok (Count 0) ∷ Ok (New_place 6) ∷ Ok (Bytes (97 ∷ 88 ∷ 89 ∷ 100 ∷ 101 ∷ 102 ∷ 0 ∷ 0 ∷ 90 ∷ [])) ∷ []
unfolding runs
written_from_offsets = refl

-- each refusal, in a kernel with files of at most 5 bytes, with the next one's cause there as well
offsets_refused : script_replies (fresh_with 5) (made_a ++ (1, Open (codes "/a") rdonly, 3 ∷ []) ∷ (1, Open (codes "/a") (flags 34), 4 ∷ []) ∷ (1, Pread 2 1 (negsuc 0), []) ∷ (1, Pread 3 0 (negsuc 0), []) ∷ (1, Pread 0 0 (negsuc 0), []) ∷ (1, Pwrite 1 (codes "h") (negsuc 0), []) ∷ (1, Pwrite 0 [] (negsuc 0), []) ∷ (1, Pwrite 0 (codes "h") (pos 5), []) ∷ (1, Pwrite 0 [] (pos 5), []) ∷ (1, Pwrite 0 (codes "abcdefg") (pos 3), []) ∷ [])
    ≡ Ok (Descriptor 0) ∷ Ok (Descriptor 1) ∷ Ok (Descriptor 2) ∷ Err EBADF ∷ Err EBADF ∷ Err EINVAL ∷ Err EBADF ∷ Err EINVAL ∷ Err EFBIG ∷ Ok (Count 0) ∷ Ok (Count 2) ∷ []
unfolding runs
offsets_refused = refl

-- a description that appends puts them there as well
written_over_the_end : script_replies fresh (made_a ++ (1, Write 0 (codes "ab"), []) ∷ (2, Open (codes "/a") (flags 34), 3 ∷ []) ∷ (2, Pwrite 0 (codes "X") (pos 0), []) ∷ (1, Pread 0 9 (pos 0), []) ∷ [])
    ≡ Ok (Descriptor 0) ∷ Ok (Count 2) ∷ Ok (Descriptor 0) ∷ Ok (Count 1) ∷ Ok (Bytes (codes "Xb")) ∷ []
unfolding runs
written_over_the_end = refl

-- by its name, whatever is open
truncated_by_name : script_replies fresh (made_a ++ (1, Write 0 (codes "abcdef"), []) ∷ (2, Truncate (codes "/a") 2, []) ∷ (2, Truncate (codes "/a") 4, []) ∷ (1, Lseek 0 (pos 0) From_start, []) ∷ (1, Read 0 9, []) ∷ [])
    ≡ Ok (Descriptor 0) ∷ Ok (Count 6) ∷ Ok Done ∷ Ok Done ∷ Ok (New_place 0) ∷ Ok (Bytes (97 ∷ 98 ∷ 0 ∷ 0 ∷ [])) ∷ []
unfolding runs
truncated_by_name = refl

-- each of its refusals, with the next one's cause there as well
not_to_be_truncated : script_replies fresh (made_a ++ (2, Truncate (codes "b") 1048577, []) ∷ (2, Truncate (codes "/b") 1048577, []) ∷ (2, Truncate (codes "/a/b") 1048577, []) ∷ (2, Truncate (codes "/") 1048577, []) ∷ (2, Truncate (codes "/a") 1048577, []) ∷ (2, Truncate (codes "/a") 1048576, []) ∷ [])
    ≡ Ok (Descriptor 0) ∷ Err EINVAL ∷ Err ENOENT ∷ Err ENOTDIR ∷ Err EISDIR ∷ Err EFBIG ∷ Ok Done ∷ []
unfolding runs
not_to_be_truncated = refl

two_blocks : script_replies fresh (made_a ++ (1, Ftruncate 0 2048, []) ∷ (2, Open (codes "/a") rdwr, 3 ∷ []) ∷ (1, Write 0 (codes "x"), []) ∷ (2, Lseek 0 (pos 1024) From_start, []) ∷ (2, Write 0 (codes "y"), []) ∷ (1, Fstat 0, []) ∷ (1, Lseek 0 (pos 1023) From_start, []) ∷ (1, Read 0 2, []) ∷ [])
    ≡ Ok (Descriptor 0) ∷ Ok Done ∷ Ok (Descriptor 0) ∷ Ok (Count 1) ∷ Ok (New_place 1024) ∷ Ok (Count 1) ∷ Ok (a_file 1 2048 1) ∷ Ok (New_place 1023) ∷ Ok (Bytes (0 ∷ 121 ∷ [])) ∷ []
unfolding runs
two_blocks = refl

appended : script_replies fresh (made_a ++ (1, Write 0 (codes "ab"), []) ∷ (2, Open (codes "/a") (flags 34), 3 ∷ []) ∷ (2, Write 0 (codes "cd"), []) ∷ (2, Lseek 0 (pos 0) From_offset, []) ∷ (1, Read 0 9, []) ∷ (2, Read 0 9, []) ∷ (2, Open (codes "/a") (flags 18), 4 ∷ []) ∷ (1, Fstat 0, []) ∷ [])
    ≡ Ok (Descriptor 0) ∷ Ok (Count 2) ∷ Ok (Descriptor 0) ∷ Ok (Count 2) ∷ Ok (New_place 4) ∷ Ok (Bytes (codes "cd")) ∷ Err EBADF ∷ Ok (Descriptor 1) ∷ Ok (a_file 1 0 1) ∷ []
unfolding runs
appended = refl

flags_that_open_refuses : script_replies fresh (made_a ++ (1, Open (codes "/a") (flags 4), []) ∷ (1, Open (codes "/b") (flags 9), []) ∷ (1, Open (codes "/a") (flags 17), []) ∷ (1, Open (codes "/a") (flags 13), []) ∷ (1, Open (codes "/b") rdonly, []) ∷ (1, Open (codes "/") rdonly, []) ∷ (1, Open (codes "/") (flags 13), []) ∷ [])
    ≡ Ok (Descriptor 0) ∷ Err EINVAL ∷ Err EINVAL ∷ Err EINVAL ∷ Err EEXIST ∷ Err ENOENT ∷ Err EISDIR ∷ Err EEXIST ∷ []
unfolding runs
flags_that_open_refuses = refl

dup_shares_the_place : script_replies fresh (made_a ++ (1, Dup2 0 0, []) ∷ (1, Dup 0, []) ∷ (1, Write 1 (codes "ab"), []) ∷ (1, Lseek 0 (pos 0) From_offset, []) ∷ (1, Dup2 0 64, []) ∷ (1, Dup2 0 5, []) ∷ (1, Dup 7, []) ∷ (1, Read 64 1, []) ∷ [])
    ≡ Ok (Descriptor 0) ∷ Ok (Descriptor 0) ∷ Ok (Descriptor 1) ∷ Ok (Count 2) ∷ Ok (New_place 2) ∷ Err EBADF ∷ Ok (Descriptor 5) ∷ Err EBADF ∷ Err EBADF ∷ []
unfolding runs
dup_shares_the_place = refl

-- 64 descriptors and no more; the refusal comes before the walk
full_table : script_replies fresh (made_a ++ map (λ f. (1, Dup 0, [])) (rising 1 63) ++ (1, Dup 0, []) ∷ (1, Open (codes "/a/b") rdonly, []) ∷ (1, Close 5, []) ∷ (1, Open (codes "/a") rdonly, 3 ∷ []) ∷ (1, Write 5 (codes "x"), []) ∷ [])
    ≡ map (λ f. Ok (Descriptor f)) (rising 0 64) ++ Err EMFILE ∷ Err EMFILE ∷ Ok Done ∷ Ok (Descriptor 5) ∷ Err EBADF ∷ []
unfolding runs
full_table = refl
