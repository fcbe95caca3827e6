-- Worked rows of names that change places.
use Rattle.std.proofs.Common.{◌≡◌, List, [], ◌∷◌, ◌++◌, Ok, Err, refl, replicate}
use Rattle.std.specs.Prelude.{codes}
use Rattle.model.specs.FiniteMap.{keys}
use Rattle.model.specs.Aspects.{Entry}
use Rattle.model.specs.Plan.{EBUSY, EINVAL, ELOOP, ENAMETOOLONG, ENOENT, ENOTDIR}
use Rattle.model.specs.Calls.{Open, Stat, Fstat, Link, Exchange, Mkdir, List_directory, Symlink, Lstat, Done, Listing}
use Rattle.model.specs.Steps.{reads, writes}
use Rattle.model.specs.Script.{runs, Line, fresh, script_replies, last_state, wronly_creat, a_file, a_directory, a_link}

-- a file, a directory with another in it, and a link
abbrev made_all : List Line
made_all = (1, Open (codes "/a") wronly_creat, 1 ∷ 2 ∷ []) ∷ (1, Mkdir (codes "/d"), 3 ∷ []) ∷ (1, Mkdir (codes "/d/e"), 4 ∷ []) ∷ (1, Mkdir (codes "/d/e/f"), 5 ∷ []) ∷ (1, Symlink (codes "d") (codes "/l"), 6 ∷ []) ∷ []

-- a directory, and a link to what is not there
abbrev made_two : List Line
made_two = (1, Mkdir (codes "/a"), 1 ∷ []) ∷ (1, Symlink (codes "no") (codes "/d"), 2 ∷ []) ∷ []

-- whatever the two are: each is found where the other was, with all that is in it
of_any_kinds : script_replies (last_state fresh made_all) ((2, Exchange (codes "/a") (codes "/d/e"), []) ∷ (1, Stat (codes "/a"), []) ∷ (1, Stat (codes "/a/f"), []) ∷ (1, Stat (codes "/d/e"), []) ∷ (1, Fstat 0, []) ∷ (2, Exchange (codes "/l") (codes "/d"), []) ∷ (1, Lstat (codes "/d"), []) ∷ (1, Stat (codes "/l/e"), []) ∷ (1, List_directory (codes "/"), []) ∷ [])
    ≡ Ok Done ∷ Ok (a_directory 4) ∷ Ok (a_directory 5) ∷ Ok (a_file 1 0 1) ∷ Ok (a_file 1 0 1) ∷ Ok Done ∷ Ok (a_link 6 1 1) ∷ Ok (a_file 1 0 1) ∷ Ok (Listing (codes "a" ∷ codes "d" ∷ codes "l" ∷ [])) ∷ []
unfolding runs
of_any_kinds = refl

-- nothing goes, and twice is as before
nothing_goes : keys (last_state fresh (made_all ++ (2, Exchange (codes "/a") (codes "/d"), []) ∷ [])).inodes ≡ 0 ∷ 1 ∷ 3 ∷ 4 ∷ 5 ∷ 6 ∷ []
unfolding runs
nothing_goes = refl

twice : last_state fresh (made_two ++ (2, Exchange (codes "/a") (codes "/d"), []) ∷ (1, Exchange (codes "/d") (codes "/a"), []) ∷ []) ≡ last_state fresh made_two
unfolding runs
twice = refl

-- a name with itself, and two names of one file
of_one_object : script_replies (last_state fresh made_all) ((1, Exchange (codes "/d") (codes "/d"), []) ∷ (1, Link (codes "/a") (codes "/d/b"), []) ∷ (1, Exchange (codes "/a") (codes "/d/b"), []) ∷ (1, Stat (codes "/d/b"), []) ∷ [])
    ≡ Ok Done ∷ Ok Done ∷ Ok Done ∷ Ok (a_file 1 0 2) ∷ []
unfolding runs
of_one_object = refl

of_one_object_writes : writes (last_state fresh (made_all ++ (1, Link (codes "/a") (codes "/d/b"), []) ∷ [])) 1 (Exchange (codes "/a") (codes "/d/b")) ≡ []
unfolding runs
of_one_object_writes = refl

-- each refusal, with the next one's cause there as well: of both paths, the root, both walks, both
-- names, and of what is below the other
refused : script_replies (last_state fresh made_all) ((1, Exchange (codes "a") (codes "/" ++ replicate 256 97), []) ∷ (1, Exchange (codes "/") (codes "/" ++ replicate 256 97), []) ∷ (1, Exchange (codes "/") (codes "/a/x"), []) ∷ (1, Exchange (codes "/a/x") (codes "/"), []) ∷ (1, Exchange (codes "/a/x") (codes "/no/x"), []) ∷ (1, Exchange (codes "/l/x") (codes "/a/x"), []) ∷ (1, Exchange (codes "/no") (codes "/a/x"), []) ∷ (1, Exchange (codes "/no") (codes "/d/no"), []) ∷ (1, Exchange (codes "/d") (codes "/d/no"), []) ∷ (1, Exchange (codes "/d") (codes "/d/e"), []) ∷ (1, Exchange (codes "/d") (codes "/d/e/f"), []) ∷ (1, Exchange (codes "/d/e/f") (codes "/d"), []) ∷ [])
    ≡ Err EINVAL ∷ Err ENAMETOOLONG ∷ Err EBUSY ∷ Err EBUSY ∷ Err ENOTDIR ∷ Err ELOOP ∷ Err ENOTDIR ∷ Err ENOENT ∷ Err ENOENT ∷ Err EINVAL ∷ Err EINVAL ∷ Err EINVAL ∷ []
unfolding runs
refused = refl

-- both walks are seen, and the two names are written
seen : reads (last_state fresh made_all) 1 (Exchange (codes "/a") (codes "/d/e")) ≡ Entry 0 (codes "a") ∷ Entry 0 (codes "d") ∷ Entry 3 (codes "e") ∷ []
unfolding runs
seen = refl

written : writes (last_state fresh made_all) 1 (Exchange (codes "/a") (codes "/d/e")) ≡ Entry 0 (codes "a") ∷ Entry 3 (codes "e") ∷ []
unfolding runs
written = refl

missed_is_seen : reads (last_state fresh made_all) 1 (Exchange (codes "/no") (codes "/d/no")) ≡ Entry 0 (codes "no") ∷ Entry 0 (codes "d") ∷ Entry 3 (codes "no") ∷ []
unfolding runs
missed_is_seen = refl
