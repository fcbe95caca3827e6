-- Worked rows of kernels that are given bounds of their own, by running the model.
use Rattle.std.proofs.Common.{◌≡◌, List, [], ◌∷◌, ◌++◌, Ok, Err, refl, map}
use Rattle.std.specs.Prelude.{codes}
use Rattle.model.specs.Plan.{EBADF, EMFILE, ENAMETOOLONG, rising}
use Rattle.model.specs.Calls.{Open, Open_pipe, Close, Mkdir, Rmdir, Symlink, Lstat, Dup, Dup2, Done, Descriptor, Pair}
use Rattle.model.specs.Script.{runs, Line, fresh_opening, fresh_walking, script_replies, rdwr_creat, rdonly, a_directory, a_link}

-- an empty file made by the first process, at its descriptor 0
abbrev made_a : List Line
made_a = (1, Open (codes "/a") rdwr_creat, 1 ∷ 2 ∷ []) ∷ []

-- three descriptors and no more, and each time the lowest one that is free; a pipe needs two of them
three : script_replies (fresh_opening 3) (made_a ++ (1, Dup2 0 3, []) ∷ (1, Dup2 0 2, []) ∷ (1, Open_pipe, []) ∷ (1, Dup 0, []) ∷ (1, Dup 0, []) ∷ (1, Open (codes "/b") rdwr_creat, []) ∷ (1, Close 0, []) ∷ (1, Close 2, []) ∷ (1, Dup 1, []) ∷ (1, Open_pipe, []) ∷ (1, Close 0, []) ∷ (1, Open_pipe, 3 ∷ 4 ∷ 5 ∷ []) ∷ [])
    ≡ Ok (Descriptor 0) ∷ Err EBADF ∷ Ok (Descriptor 2) ∷ Err EMFILE ∷ Ok (Descriptor 1) ∷ Err EMFILE ∷ Err EMFILE ∷ Ok Done ∷ Ok Done ∷ Ok (Descriptor 0) ∷ Err EMFILE ∷ Ok Done ∷ Ok (Pair 0 2) ∷ []
unfolding runs
three = refl

-- one more than where no number is given, and in another process as many again
sixty_five : script_replies (fresh_opening 65) (made_a ++ map (λ f. (1, Dup 0, [])) (rising 1 64) ++ (1, Dup 0, []) ∷ (2, Open (codes "/a") rdonly, 3 ∷ []) ∷ [])
    ≡ map (λ f. Ok (Descriptor f)) (rising 0 65) ++ Err EMFILE ∷ Ok (Descriptor 0) ∷ []
unfolding runs
sixty_five = refl

-- none at all
no_descriptor : script_replies (fresh_opening 0) ((1, Open (codes "/a") rdwr_creat, []) ∷ (1, Open_pipe, []) ∷ [])
    ≡ Err EMFILE ∷ Err EMFILE ∷ []
unfolding runs
no_descriptor = refl

-- a path of four bytes and no more, whatever it is asked for; the target of a link is no path
four_bytes : script_replies (fresh_walking 4) ((1, Mkdir (codes "/abc"), 1 ∷ []) ∷ (1, Mkdir (codes "/abcd"), []) ∷ (1, Rmdir (codes "/abc/"), []) ∷ (1, Symlink (codes "/abc/defgh") (codes "/l"), 2 ∷ []) ∷ (1, Lstat (codes "/abc"), []) ∷ (1, Lstat (codes "/l"), []) ∷ [])
    ≡ Ok Done ∷ Err ENAMETOOLONG ∷ Err ENAMETOOLONG ∷ Ok Done ∷ Ok (a_directory 1) ∷ Ok (a_link 2 10 1) ∷ []
unfolding runs
four_bytes = refl
