-- Worked rows of directories, names and paths.
use Rattle.std.proofs.Common.{◌≡◌, ℕ, List, [], ◌∷◌, ◌++◌, Ok, Err, refl, replicate}
use Rattle.std.specs.Prelude.{codes}
use Rattle.model.specs.FiniteMap.{keys}
use Rattle.model.specs.Plan.{EBUSY, EEXIST, EINVAL, EISDIR, ENAMETOOLONG, ENOENT, ENOTDIR, ENOTEMPTY, EPERM}
use Rattle.model.specs.Calls.{Open, Close, Stat, Fstat, Link, Unlink, Rename, Mkdir, Rmdir, List_directory, Done, Listing, Descriptor}
use Rattle.model.specs.Script.{runs, fresh, script_replies, last_state, rdonly, rdwr_creat, wronly_creat, a_file, a_directory}

made_and_removed : script_replies fresh ((1, Mkdir (codes "/d"), 1 ∷ []) ∷ (1, Mkdir (codes "/d/e"), 2 ∷ []) ∷ (1, Rmdir (codes "/d"), []) ∷ (1, Rmdir (codes "/d/e"), []) ∷ (1, Rmdir (codes "/d"), []) ∷ (1, Rmdir (codes "/"), []) ∷ (1, Stat (codes "/d/e"), []) ∷ (1, Mkdir (codes "/"), []) ∷ [])
    ≡ Ok Done ∷ Ok Done ∷ Err ENOTEMPTY ∷ Ok Done ∷ Ok Done ∷ Err EBUSY ∷ Err ENOENT ∷ Err EEXIST ∷ []
unfolding runs
made_and_removed = refl

names_in_byte_order : script_replies fresh ((1, Mkdir (codes "/d"), 1 ∷ []) ∷ (1, List_directory (codes "/d"), []) ∷ (1, Mkdir (codes "/d/b"), 2 ∷ []) ∷ (2, Mkdir (codes "/d/a"), 3 ∷ []) ∷ (2, Mkdir (codes "/d/aa"), 4 ∷ []) ∷ (1, List_directory (codes "/d"), []) ∷ (1, List_directory (codes "/"), []) ∷ [])
    ≡ Ok Done ∷ Ok (Listing []) ∷ Ok Done ∷ Ok Done ∷ Ok Done ∷ Ok (Listing (codes "a" ∷ codes "aa" ∷ codes "b" ∷ [])) ∷ Ok (Listing (codes "d" ∷ [])) ∷ []
unfolding runs
names_in_byte_order = refl

renamed_directories : script_replies fresh ((1, Mkdir (codes "/a"), 1 ∷ []) ∷ (1, Mkdir (codes "/b"), 2 ∷ []) ∷ (1, Rename (codes "/a") (codes "/a/b"), []) ∷ (1, Rename (codes "/a") (codes "/b/a"), []) ∷ (2, Rename (codes "/b") (codes "/a/b"), []) ∷ (2, Stat (codes "/b/a"), []) ∷ [])
    ≡ Ok Done ∷ Ok Done ∷ Err EINVAL ∷ Ok Done ∷ Err ENOENT ∷ Ok (a_directory 1) ∷ []
unfolding runs
renamed_directories = refl

renamed_to_its_own_link : script_replies fresh ((1, Open (codes "/a") wronly_creat, 1 ∷ 2 ∷ []) ∷ (1, Link (codes "/a") (codes "/b"), []) ∷ (1, Rename (codes "/a") (codes "/b"), []) ∷ (2, Stat (codes "/b"), []) ∷ (2, Stat (codes "/a"), []) ∷ [])
    ≡ Ok (Descriptor 0) ∷ Ok Done ∷ Ok Done ∷ Ok (a_file 1 0 2) ∷ Ok (a_file 1 0 2) ∷ []
unfolding runs
renamed_to_its_own_link = refl

directory_not_opened : script_replies fresh ((1, Mkdir (codes "/d"), 1 ∷ []) ∷ (1, Open (codes "/d") rdonly, []) ∷ []) ≡ Ok Done ∷ Err EISDIR ∷ []
unfolding runs
directory_not_opened = refl

-- a file that loses its name to another goes, and a directory that does must be empty
renamed_over : script_replies fresh ((1, Open (codes "/a") wronly_creat, 1 ∷ 2 ∷ []) ∷ (1, Open (codes "/b") wronly_creat, 3 ∷ 4 ∷ []) ∷ (1, Mkdir (codes "/d"), 5 ∷ []) ∷ (1, Mkdir (codes "/e"), 6 ∷ []) ∷ (1, Rename (codes "/a") (codes "/d"), []) ∷ (1, Rename (codes "/d") (codes "/a"), []) ∷ (1, Rename (codes "/a") (codes "/b"), []) ∷ (1, Fstat 1, []) ∷ (1, Stat (codes "/b"), []) ∷ (1, Rename (codes "/b") (codes "/d/b"), []) ∷ (1, Rename (codes "/e") (codes "/d"), []) ∷ (1, Rename (codes "/d") (codes "/e"), []) ∷ (1, Stat (codes "/e/b"), []) ∷ (1, Rename (codes "/") (codes "/e"), []) ∷ [])
    ≡ Ok (Descriptor 0) ∷ Ok (Descriptor 1) ∷ Ok Done ∷ Ok Done ∷ Err EISDIR ∷ Err ENOTDIR ∷ Ok Done ∷ Ok (a_file 3 0 0) ∷ Ok (a_file 1 0 1) ∷ Ok Done ∷ Err ENOTEMPTY ∷ Ok Done ∷ Ok (a_file 1 0 1) ∷ Err EBUSY ∷ []
unfolding runs
renamed_over = refl

replaced_directory_is_gone : keys (last_state fresh ((1, Mkdir (codes "/d"), 1 ∷ []) ∷ (1, Mkdir (codes "/e"), 2 ∷ []) ∷ (1, Rename (codes "/d") (codes "/e"), []) ∷ [])).inodes ≡ 0 ∷ 1 ∷ []
unfolding runs
replaced_directory_is_gone = refl

-- closed and unlinked: the store has the root alone
closed_and_unlinked : script_replies fresh ((1, Open (codes "/a") rdwr_creat, 1 ∷ 2 ∷ []) ∷ (2, Unlink (codes "/a"), []) ∷ (1, Fstat 0, []) ∷ (1, Close 0, []) ∷ (1, List_directory (codes "/"), []) ∷ [])
    ≡ Ok (Descriptor 0) ∷ Ok Done ∷ Ok (a_file 1 0 0) ∷ Ok Done ∷ Ok (Listing []) ∷ []
unfolding runs
closed_and_unlinked = refl

counted_links : script_replies fresh ((1, Open (codes "/a") wronly_creat, 1 ∷ 2 ∷ []) ∷ (1, Link (codes "/a") (codes "/b"), []) ∷ (1, Link (codes "/a") (codes "/b"), []) ∷ (1, Unlink (codes "/a"), []) ∷ (2, Stat (codes "/b"), []) ∷ (2, Stat (codes "/a"), []) ∷ (2, Link (codes "/") (codes "/c"), []) ∷ (2, Unlink (codes "/"), []) ∷ [])
    ≡ Ok (Descriptor 0) ∷ Ok Done ∷ Err EEXIST ∷ Ok Done ∷ Ok (a_file 1 0 1) ∷ Err ENOENT ∷ Err EPERM ∷ Err EPERM ∷ []
unfolding runs
counted_links = refl

-- the forms of paths
root_has_no_names : script_replies fresh ((1, Stat (codes "/"), []) ∷ []) ≡ Ok (a_directory 0) ∷ []
unfolding runs
root_has_no_names = refl

bad_paths : script_replies fresh ((1, Stat [], []) ∷ (1, Stat (codes "a"), []) ∷ (1, Stat (codes "//"), []) ∷ (1, Stat (codes "/a/"), []) ∷ (1, Stat (codes "/."), []) ∷ (1, Stat (codes "/a/.."), []) ∷ (1, Stat (codes "/..a"), []) ∷ (1, Stat (47 ∷ 97 ∷ 0 ∷ []), []) ∷ [])
    ≡ Err EINVAL ∷ Err EINVAL ∷ Err EINVAL ∷ Err EINVAL ∷ Err EINVAL ∷ Err EINVAL ∷ Err ENOENT ∷ Err EINVAL ∷ []
unfolding runs
bad_paths = refl

abbrev long_name : List ℕ
long_name = codes "/" ++ replicate 255 97

long_paths : script_replies fresh ((1, Stat (long_name ++ (long_name ++ (long_name ++ long_name))), []) ∷ (1, Stat (long_name ++ (long_name ++ (long_name ++ (long_name ++ codes "/")))), []) ∷ (1, Stat (codes "/" ++ replicate 256 97), []) ∷ (1, Mkdir long_name, 1 ∷ []) ∷ [])
    ≡ Err ENOENT ∷ Err ENAMETOOLONG ∷ Err ENAMETOOLONG ∷ Ok Done ∷ []
unfolding runs
long_paths = refl

-- what was made and removed leaves the state as it was
as_it_was : last_state fresh ((1, Mkdir (codes "/d"), 1 ∷ []) ∷ (1, Mkdir (codes "/d/e"), 2 ∷ []) ∷ (2, Rmdir (codes "/d/e"), []) ∷ (1, Rmdir (codes "/d"), []) ∷ []) ≡ fresh
unfolding runs
as_it_was = refl

as_it_was_with_a_file : last_state fresh ((1, Open (codes "/a") rdwr_creat, 1 ∷ 2 ∷ []) ∷ (2, Open (codes "/a") rdwr_creat, 3 ∷ []) ∷ (2, Unlink (codes "/a"), []) ∷ (1, Close 0, []) ∷ (2, Close 0, []) ∷ []) ≡ fresh
unfolding runs
as_it_was_with_a_file = refl

-- names that come in another order make the same directory
in_another_order : last_state fresh ((1, Mkdir (codes "/a"), 1 ∷ []) ∷ (2, Mkdir (codes "/b"), 2 ∷ []) ∷ []) ≡ last_state fresh ((2, Mkdir (codes "/b"), 2 ∷ []) ∷ (1, Mkdir (codes "/a"), 1 ∷ []) ∷ [])
unfolding runs
in_another_order = refl
