-- Worked rows of pipes, children and ends of processes.
use Rattle.std.proofs.Common.{◌≡◌, pos, negsuc, List, [], ◌∷◌, ◌++◌, Ok, Err, refl, replicate}
use Rattle.std.specs.Prelude.{codes}
use Rattle.model.specs.FiniteMap.{keys}
use Rattle.model.specs.Plan.{EAGAIN, EBADF, EINVAL, EPIPE, ESPIPE}
use Rattle.model.specs.Calls.{From_start, Close, Read, Pread, Write, Pwrite, Lseek, Ftruncate, Fstat, Dup2, Open_pipe, Fork, Exit, Done, Bytes, Pair, Child, Count}
use Rattle.model.specs.Moments.{start}
use Rattle.model.specs.Script.{by_default, runs, Line, fresh, script_replies, last_state, a_pipe}

abbrev made_pipe : List Line
made_pipe = (1, Open_pipe, 1 ∷ 2 ∷ 3 ∷ []) ∷ []

-- a pipe, and a child that has both of its ends too
abbrev shared_pipe : List Line
shared_pipe = made_pipe ++ (1, Fork, []) ∷ []

capacity_of_a_pipe : script_replies fresh (made_pipe ++ (1, Write 1 (replicate 3585 122), []) ∷ (1, Write 1 (replicate 512 122), []) ∷ (1, Write 1 (replicate 513 122), []) ∷ (1, Write 1 (codes "z"), []) ∷ [])
    ≡ Ok (Pair 0 1) ∷ Ok (Count 3585) ∷ Err EAGAIN ∷ Ok (Count 511) ∷ Err EAGAIN ∷ []
unfolding runs
capacity_of_a_pipe = refl

read_by_a_child : script_replies (start 0 (by_default (0 ∷ []))) (shared_pipe ++ (2, Read 0 10, []) ∷ (1, Write 1 (codes "abc"), []) ∷ (2, Read 0 10, []) ∷ [])
    ≡ Ok (Pair 0 1) ∷ Ok (Child 2) ∷ Err EAGAIN ∷ Ok (Count 3) ∷ Ok (Bytes (codes "abc")) ∷ []
unfolding runs
read_by_a_child = refl

-- no bytes where no write end is open, the child's included
end_of_a_pipe : script_replies (start 0 (by_default (0 ∷ []))) (shared_pipe ++ (1, Close 1, []) ∷ (2, Read 0 1, []) ∷ (2, Close 1, []) ∷ (2, Read 0 1, []) ∷ [])
    ≡ Ok (Pair 0 1) ∷ Ok (Child 2) ∷ Ok Done ∷ Err EAGAIN ∷ Ok Done ∷ Ok (Bytes []) ∷ []
unfolding runs
end_of_a_pipe = refl

no_offsets_in_pipes : script_replies fresh (made_pipe ++ (1, Pread 1 1 (negsuc 0), []) ∷ (1, Pread 0 1 (negsuc 0), []) ∷ (1, Pwrite 0 (codes "x") (negsuc 0), []) ∷ (1, Pwrite 1 (codes "x") (negsuc 0), []) ∷ [])
    ≡ Ok (Pair 0 1) ∷ Err EBADF ∷ Err ESPIPE ∷ Err EBADF ∷ Err ESPIPE ∷ []
unfolding runs
no_offsets_in_pipes = refl

not_for_pipes : script_replies fresh (made_pipe ++ (1, Close 0, []) ∷ (1, Write 1 (codes "x"), []) ∷ (1, Lseek 1 (pos 0) From_start, []) ∷ (1, Fstat 1, []) ∷ (1, Ftruncate 1 0, []) ∷ [])
    ≡ Ok (Pair 0 1) ∷ Ok Done ∷ Err EPIPE ∷ Err ESPIPE ∷ Ok (a_pipe 1) ∷ Err EINVAL ∷ []
unfolding runs
not_for_pipes = refl

taken_and_added : script_replies (start 0 (by_default (0 ∷ []))) (shared_pipe ++ (1, Write 1 (codes "abcde"), []) ∷ (1, Read 0 3, []) ∷ (2, Write 1 (codes "xy"), []) ∷ (1, Read 0 9, []) ∷ [])
    ≡ Ok (Pair 0 1) ∷ Ok (Child 2) ∷ Ok (Count 5) ∷ Ok (Bytes (codes "abc")) ∷ Ok (Count 2) ∷ Ok (Bytes (codes "dexy")) ∷ []
unfolding runs
taken_and_added = refl

-- the pipe goes with its last descriptor, and so do its descriptions
pipe_gone : keys (last_state (start 0 (by_default (0 ∷ []))) (shared_pipe ++ (1, Exit, []) ∷ (2, Close 0, []) ∷ (2, Dup2 1 0, []) ∷ (2, Exit, []) ∷ [])).inodes ≡ 0 ∷ []
unfolding runs
pipe_gone = refl

processes_gone : keys (last_state (start 0 (by_default (0 ∷ []))) (shared_pipe ++ (1, Exit, []) ∷ [])).processes ≡ 2 ∷ []
unfolding runs
processes_gone = refl
