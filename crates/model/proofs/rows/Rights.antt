-- Worked rows of permissions and owners. Permissions stand in decimal digits, with the octal ones beside them.
use Rattle.std.proofs.Common.{◌≡◌, List, [], ◌∷◌, ◌++◌, Some, None, Ok, Err, refl}
use Rattle.std.specs.Prelude.{codes}
use Rattle.model.specs.FiniteMap.{keys}
use Rattle.model.specs.State.{A_file, A_directory, A_pipe, A_link, A_fifo}
use Rattle.model.specs.Aspects.{Entry, Rights}
use Rattle.model.specs.Plan.{EBADF, EINVAL, ELOOP, ENOENT, ENOTDIR}
use Rattle.model.specs.Calls.{Open, Close, Write, Truncate, Stat, Fstat, Link, Unlink, Rename, Mkdir, Rmdir, Symlink, Lstat, Mknod, Special_fifo, Chmod, Chown, Fchmod, Fchown, Open_pipe, Done, Count, Descriptor, Pair}
use Rattle.model.specs.Steps.{reads, writes}
use Rattle.model.specs.Script.{runs, Line, fresh, script_replies, last_state, rights, new_owner, told_with, rdonly, rdwr_creat, a_file, a_directory, a_pipe, a_link}

-- a file that is open, a directory, a link and a FIFO
abbrev made_some : List Line
made_some = (1, Open (codes "/a") rdwr_creat, 1 ∷ 2 ∷ []) ∷ (1, Mkdir (codes "/d"), 3 ∷ []) ∷ (1, Symlink (codes "a") (codes "/l"), 4 ∷ []) ∷ (1, Mknod (codes "/f") Special_fifo, 5 ∷ []) ∷ []

-- 600, and then each other number of twelve bits
mode_set : script_replies fresh (made_some ++ (2, Chmod (codes "/a") 384, []) ∷ (1, Stat (codes "/a"), []) ∷ (1, Fstat 0, []) ∷ (1, Fchmod 0 4095, []) ∷ (2, Stat (codes "/a"), []) ∷ (1, Fchmod 0 0, []) ∷ (2, Lstat (codes "/a"), []) ∷ [])
    ≡ Ok (Descriptor 0) ∷ Ok Done ∷ Ok Done ∷ Ok Done ∷ Ok Done ∷ Ok (told_with (rights 384 0 0) A_file 1 0 1) ∷ Ok (told_with (rights 384 0 0) A_file 1 0 1) ∷ Ok Done ∷ Ok (told_with (rights 4095 0 0) A_file 1 0 1) ∷ Ok Done ∷ Ok (told_with (rights 0 0 0) A_file 1 0 1) ∷ []
unfolding runs
mode_set = refl

-- the root, a directory and a FIFO, and nothing is refused by a mode of no bits
mode_of_each : script_replies (last_state fresh made_some) ((1, Chmod (codes "/") 0, []) ∷ (1, Stat (codes "/"), []) ∷ (1, Chmod (codes "/d") 0, []) ∷ (1, Mkdir (codes "/d/e"), 6 ∷ []) ∷ (1, Lstat (codes "/d"), []) ∷ (1, Stat (codes "/d/e"), []) ∷ (1, Chmod (codes "/f") 438, []) ∷ (1, Stat (codes "/f"), []) ∷ (1, Chmod (codes "/a") 0, []) ∷ (2, Open (codes "/a") rdonly, 7 ∷ []) ∷ (1, Write 0 (codes "x"), []) ∷ [])
    ≡ Ok Done ∷ Ok (told_with (rights 0 0 0) A_directory 0 0 1) ∷ Ok Done ∷ Ok Done ∷ Ok (told_with (rights 0 0 0) A_directory 3 0 1) ∷ Ok (a_directory 6) ∷ Ok Done ∷ Ok (told_with (rights 438 0 0) A_fifo 5 0 1) ∷ Ok Done ∷ Ok (Descriptor 0) ∷ Ok (Count 1) ∷ []
unfolding runs
mode_of_each = refl

-- the user, the group, both and none: what is not named stays
owner_set : script_replies (last_state fresh made_some) ((1, Chown (codes "/a") (new_owner (Some 5) None), []) ∷ (1, Stat (codes "/a"), []) ∷ (2, Chown (codes "/a") (new_owner None (Some 7)), []) ∷ (1, Stat (codes "/a"), []) ∷ (1, Fchown 0 (new_owner (Some 4294967295) (Some 0)), []) ∷ (1, Fstat 0, []) ∷ (1, Fchown 0 (new_owner None None), []) ∷ (1, Fstat 0, []) ∷ (1, Chmod (codes "/a") 448, []) ∷ (1, Fstat 0, []) ∷ [])
    ≡ Ok Done ∷ Ok (told_with (rights 420 5 0) A_file 1 0 1) ∷ Ok Done ∷ Ok (told_with (rights 420 5 7) A_file 1 0 1) ∷ Ok Done ∷ Ok (told_with (rights 420 4294967295 0) A_file 1 0 1) ∷ Ok Done ∷ Ok (told_with (rights 420 4294967295 0) A_file 1 0 1) ∷ Ok Done ∷ Ok (told_with (rights 448 4294967295 0) A_file 1 0 1) ∷ []
unfolding runs
owner_set = refl

-- of a link the mode is never set, and the owner is that of the link itself
of_a_link : script_replies (last_state fresh made_some) ((1, Chmod (codes "/l") 420, []) ∷ (1, Chown (codes "/l") (new_owner (Some 1) (Some 2)), []) ∷ (1, Lstat (codes "/l"), []) ∷ (1, Stat (codes "/a"), []) ∷ (1, Link (codes "/l") (codes "/d/l"), []) ∷ (1, Lstat (codes "/d/l"), []) ∷ [])
    ≡ Err ELOOP ∷ Ok Done ∷ Ok (told_with (rights 511 1 2) A_link 4 1 1) ∷ Ok (a_file 1 0 1) ∷ Ok Done ∷ Ok (told_with (rights 511 1 2) A_link 4 1 2) ∷ []
unfolding runs
of_a_link = refl

-- 6755 is 755 with another owner, and 6644 is 2644, as its group may not execute it; of a directory all bits stay
set_ids : script_replies (last_state fresh made_some) ((1, Chmod (codes "/a") 3565, []) ∷ (1, Chown (codes "/a") (new_owner (Some 5) None), []) ∷ (1, Stat (codes "/a"), []) ∷ (1, Fchmod 0 3492, []) ∷ (1, Fchown 0 (new_owner None None), []) ∷ (1, Fstat 0, []) ∷ (1, Chmod (codes "/d") 4095, []) ∷ (1, Chown (codes "/d") (new_owner (Some 5) (Some 6)), []) ∷ (1, Stat (codes "/d"), []) ∷ (1, Chmod (codes "/f") 4095, []) ∷ (1, Chown (codes "/f") (new_owner (Some 5) (Some 6)), []) ∷ (1, Stat (codes "/f"), []) ∷ [])
    ≡ Ok Done ∷ Ok Done ∷ Ok (told_with (rights 493 5 0) A_file 1 0 1) ∷ Ok Done ∷ Ok Done ∷ Ok (told_with (rights 1444 5 0) A_file 1 0 1) ∷ Ok Done ∷ Ok Done ∷ Ok (told_with (rights 4095 5 6) A_directory 3 0 1) ∷ Ok Done ∷ Ok Done ∷ Ok (told_with (rights 1023 5 6) A_fifo 5 0 1) ∷ []
unfolding runs
set_ids = refl

-- each refusal, with the next one's cause there as well
rights_refused : script_replies (last_state fresh made_some) ((1, Chmod (codes "l/x") 420, []) ∷ (1, Chmod (codes "/x/y") 420, []) ∷ (1, Chmod (codes "/l/x") 420, []) ∷ (1, Chmod (codes "/a/x") 420, []) ∷ (1, Chmod (codes "/d/x") 420, []) ∷ (1, Chown (codes "l/x") (new_owner (Some 1) None), []) ∷ (1, Chown (codes "/x/y") (new_owner (Some 1) None), []) ∷ (1, Chown (codes "/l/x") (new_owner (Some 1) None), []) ∷ (1, Chown (codes "/a/x") (new_owner (Some 1) None), []) ∷ (1, Chown (codes "/d/x") (new_owner (Some 1) None), []) ∷ (1, Fchmod 1 420, []) ∷ (1, Fchmod 64 420, []) ∷ (2, Fchown 0 (new_owner (Some 1) None), []) ∷ (1, Fstat 0, []) ∷ (1, Stat (codes "/d"), []) ∷ (1, Lstat (codes "/l"), []) ∷ [])
    ≡ Err EINVAL ∷ Err ENOENT ∷ Err ELOOP ∷ Err ENOTDIR ∷ Err ENOENT ∷ Err EINVAL ∷ Err ENOENT ∷ Err ELOOP ∷ Err ENOTDIR ∷ Err ENOENT ∷ Err EBADF ∷ Err EBADF ∷ Err EBADF ∷ Ok (a_file 1 0 1) ∷ Ok (a_directory 3) ∷ Ok (a_link 4 1 1) ∷ []
unfolding runs
rights_refused = refl

-- a file that is open and has no name any more, and a pipe
by_descriptor : script_replies (last_state fresh made_some) ((2, Unlink (codes "/a"), []) ∷ (1, Fchmod 0 384, []) ∷ (1, Fchown 0 (new_owner (Some 3) (Some 4)), []) ∷ (1, Fstat 0, []) ∷ (1, Open_pipe, 6 ∷ 7 ∷ 8 ∷ []) ∷ (1, Fstat 2, []) ∷ (1, Fchmod 2 384, []) ∷ (1, Fchown 1 (new_owner (Some 3) None), []) ∷ (1, Fstat 1, []) ∷ [])
    ≡ Ok Done ∷ Ok Done ∷ Ok Done ∷ Ok (told_with (rights 384 3 4) A_file 1 0 0) ∷ Ok (Pair 1 2) ∷ Ok (a_pipe 6) ∷ Ok Done ∷ Ok Done ∷ Ok (told_with (rights 384 3 0) A_pipe 6 0 0) ∷ []
unfolding runs
by_descriptor = refl

-- rights are the inode's: they stay when it is renamed, cut and written
rights_stay : script_replies (last_state fresh (made_some ++ (1, Chmod (codes "/a") 384, []) ∷ (1, Chmod (codes "/d") 448, []) ∷ [])) ((1, Rename (codes "/a") (codes "/d/b"), []) ∷ (1, Write 0 (codes "xyz"), []) ∷ (1, Truncate (codes "/d/b") 2, []) ∷ (1, Rename (codes "/d") (codes "/e"), []) ∷ (1, Stat (codes "/e/b"), []) ∷ (1, Stat (codes "/e"), []) ∷ [])
    ≡ Ok Done ∷ Ok (Count 3) ∷ Ok Done ∷ Ok Done ∷ Ok (told_with (rights 384 0 0) A_file 1 2 1) ∷ Ok (told_with (rights 448 0 0) A_directory 3 0 1) ∷ []
unfolding runs
rights_stay = refl

-- rights go with their inode, by the last name or the last descriptor, and not before
gone_with_the_inode : keys (last_state fresh (made_some ++ (1, Chmod (codes "/a") 384, []) ∷ (1, Chmod (codes "/d") 448, []) ∷ (1, Chown (codes "/l") (new_owner (Some 1) None), []) ∷ (1, Chmod (codes "/f") 384, []) ∷ (1, Unlink (codes "/a"), []) ∷ (1, Rmdir (codes "/d"), []) ∷ (1, Rename (codes "/f") (codes "/l"), []) ∷ [])).rights ≡ 1 ∷ 5 ∷ []
unfolding runs
gone_with_the_inode = refl

all_gone : last_state fresh (made_some ++ (1, Chmod (codes "/d") 448, []) ∷ (1, Fchmod 0 384, []) ∷ (1, Unlink (codes "/a"), []) ∷ (1, Rmdir (codes "/d"), []) ∷ (1, Unlink (codes "/l"), []) ∷ (1, Unlink (codes "/f"), []) ∷ (1, Close 0, []) ∷ []) ≡ fresh
unfolding runs
all_gone = refl

-- a number that is used again has the first ones
used_again : script_replies (last_state fresh (made_some ++ (1, Chmod (codes "/d") 0, []) ∷ (1, Chown (codes "/d") (new_owner (Some 5) (Some 5)), []) ∷ (1, Rmdir (codes "/d"), []) ∷ [])) ((1, Mkdir (codes "/e"), 3 ∷ []) ∷ (1, Stat (codes "/e"), []) ∷ (1, Rmdir (codes "/e"), []) ∷ (1, Symlink (codes "t") (codes "/k"), 3 ∷ []) ∷ (1, Lstat (codes "/k"), []) ∷ [])
    ≡ Ok Done ∷ Ok (a_directory 3) ∷ Ok Done ∷ Ok Done ∷ Ok (a_link 3 1 1) ∷ []
unfolding runs
used_again = refl

-- what they touch
mode_read : reads (last_state fresh made_some) 1 (Chmod (codes "/d") 448) ≡ Entry 0 (codes "d") ∷ Rights 3 ∷ []
unfolding runs
mode_read = refl

mode_written : writes (last_state fresh made_some) 1 (Chmod (codes "/d") 448) ≡ Rights 3 ∷ []
unfolding runs
mode_written = refl

owner_read : reads (last_state fresh made_some) 1 (Chown (codes "/l") (new_owner None None)) ≡ Entry 0 (codes "l") ∷ Rights 4 ∷ []
unfolding runs
owner_read = refl

owner_written : writes (last_state fresh made_some) 1 (Chown (codes "/l") (new_owner None None)) ≡ Rights 4 ∷ []
unfolding runs
owner_written = refl

by_descriptor_read : reads (last_state fresh made_some) 1 (Fchmod 0 448) ≡ Rights 1 ∷ []
unfolding runs
by_descriptor_read = refl

by_descriptor_written : writes (last_state fresh made_some) 1 (Fchown 0 (new_owner (Some 1) None)) ≡ Rights 1 ∷ []
unfolding runs
by_descriptor_written = refl

root_read : reads fresh 1 (Chmod (codes "/") 448) ≡ Rights 0 ∷ []
unfolding runs
root_read = refl

link_refused : reads (last_state fresh made_some) 1 (Chmod (codes "/l") 448) ≡ Entry 0 (codes "l") ∷ []
unfolding runs
link_refused = refl

status_of_the_root : reads fresh 1 (Stat (codes "/")) ≡ Rights 0 ∷ []
unfolding runs
status_of_the_root = refl
