-- Worked rows of symbolic links, FIFOs and sockets.
use Rattle.std.proofs.Common.{◌≡◌, List, [], ◌∷◌, ◌++◌, Ok, Err, refl, replicate}
use Rattle.std.specs.Prelude.{codes}
use Rattle.model.specs.FiniteMap.{keys}
use Rattle.model.specs.Aspects.{Entry, Links, Target, Rights}
use Rattle.model.specs.Plan.{EEXIST, EINVAL, EISDIR, ELOOP, ENAMETOOLONG, ENOENT, ENOTDIR, ENXIO}
use Rattle.model.specs.Calls.{Open, Truncate, Stat, Fstat, Link, Unlink, Rename, Mkdir, Rmdir, List_directory, Symlink, Readlink, Lstat, Mknod, Special_fifo, Special_socket, Done, Bytes, Listing, Descriptor}
use Rattle.model.specs.Steps.{reads, writes}
use Rattle.model.specs.Script.{runs, Line, fresh, script_replies, last_state, flags, rdonly, wronly_creat, a_file, a_directory, a_link, a_fifo, a_socket}

-- a directory, a link to it, a link to nothing, a FIFO and a socket
abbrev made_all : List Line
made_all = (1, Mkdir (codes "/d"), 1 ∷ []) ∷ (1, Symlink (codes "d") (codes "/l"), 2 ∷ []) ∷ (1, Symlink (codes "../x/") (codes "/d/m"), 3 ∷ []) ∷ (1, Mknod (codes "/f") Special_fifo, 4 ∷ []) ∷ (1, Mknod (codes "/s") Special_socket, 5 ∷ []) ∷ []

-- a link is made, read, told about and unlinked
made_and_read : script_replies fresh ((1, Symlink (codes "no/such") (codes "/l"), 1 ∷ []) ∷ (2, Readlink (codes "/l"), []) ∷ (2, Lstat (codes "/l"), []) ∷ (2, List_directory (codes "/"), []) ∷ (2, Unlink (codes "/l"), []) ∷ (1, Lstat (codes "/l"), []) ∷ (1, Readlink (codes "/l"), []) ∷ [])
    ≡ Ok Done ∷ Ok (Bytes (codes "no/such")) ∷ Ok (a_link 1 7 1) ∷ Ok (Listing (codes "l" ∷ [])) ∷ Ok Done ∷ Err ENOENT ∷ Err ENOENT ∷ []
unfolding runs
made_and_read = refl

all_told_about : script_replies (last_state fresh made_all) ((1, Lstat (codes "/"), []) ∷ (1, Lstat (codes "/d"), []) ∷ (1, Lstat (codes "/l"), []) ∷ (1, Lstat (codes "/d/m"), []) ∷ (1, Lstat (codes "/f"), []) ∷ (1, Stat (codes "/f"), []) ∷ (1, Lstat (codes "/s"), []) ∷ (1, Stat (codes "/s"), []) ∷ [])
    ≡ Ok (a_directory 0) ∷ Ok (a_directory 1) ∷ Ok (a_link 2 1 1) ∷ Ok (a_link 3 5 1) ∷ Ok (a_fifo 4 1) ∷ Ok (a_fifo 4 1) ∷ Ok (a_socket 5 1) ∷ Ok (a_socket 5 1) ∷ []
unfolding runs
all_told_about = refl

-- a link at the end of a path: followed by no call
link_at_the_end : script_replies (last_state fresh made_all) ((1, Stat (codes "/l"), []) ∷ (1, Open (codes "/l") rdonly, []) ∷ (1, Open (codes "/l") (flags 6), []) ∷ (1, Open (codes "/l") (flags 14), []) ∷ (1, Truncate (codes "/l") 1048577, []) ∷ (1, List_directory (codes "/l"), []) ∷ (1, Rmdir (codes "/l"), []) ∷ (1, Mkdir (codes "/l"), []) ∷ (1, Readlink (codes "/l"), []) ∷ [])
    ≡ Err ELOOP ∷ Err ELOOP ∷ Err ELOOP ∷ Err EEXIST ∷ Err ELOOP ∷ Err ELOOP ∷ Err ENOTDIR ∷ Err EEXIST ∷ Ok (Bytes (codes "d")) ∷ []
unfolding runs
link_at_the_end = refl

-- a link inside a path, whatever is behind it and whatever it leads to
link_inside : script_replies (last_state fresh made_all) ((1, Stat (codes "/l/m"), []) ∷ (1, Lstat (codes "/l/m"), []) ∷ (1, Readlink (codes "/l/m"), []) ∷ (1, Open (codes "/l/m") rdonly, []) ∷ (1, Open (codes "/l/x") (flags 14), []) ∷ (1, Truncate (codes "/l/m") 0, []) ∷ (1, Link (codes "/l/m") (codes "/x"), []) ∷ (1, Link (codes "/f") (codes "/l/x"), []) ∷ (1, Unlink (codes "/l/m"), []) ∷ (1, Rename (codes "/l/m") (codes "/x"), []) ∷ (1, Rename (codes "/f") (codes "/l/x"), []) ∷ (1, Mkdir (codes "/l/x"), []) ∷ (1, Rmdir (codes "/l/x"), []) ∷ (1, List_directory (codes "/l/x"), []) ∷ (1, Symlink (codes "t") (codes "/l/x"), []) ∷ (1, Mknod (codes "/l/x") Special_fifo, []) ∷ (1, Stat (codes "/d/m/x"), []) ∷ (1, Stat (codes "/f/x"), []) ∷ (1, Lstat (codes "/s/x"), []) ∷ [])
    ≡ Err ELOOP ∷ Err ELOOP ∷ Err ELOOP ∷ Err ELOOP ∷ Err ELOOP ∷ Err ELOOP ∷ Err ELOOP ∷ Err ELOOP ∷ Err ELOOP ∷ Err ELOOP ∷ Err ELOOP ∷ Err ELOOP ∷ Err ELOOP ∷ Err ELOOP ∷ Err ELOOP ∷ Err ELOOP ∷ Err ELOOP ∷ Err ENOTDIR ∷ Err ENOTDIR ∷ []
unfolding runs
link_inside = refl

-- two links that give each other: a ring is as any link is
ring_of_links : script_replies fresh ((1, Symlink (codes "/b") (codes "/a"), 1 ∷ []) ∷ (1, Symlink (codes "/a") (codes "/b"), 2 ∷ []) ∷ (1, Stat (codes "/a"), []) ∷ (1, Stat (codes "/b/a"), []) ∷ (1, Readlink (codes "/a"), []) ∷ (1, Unlink (codes "/a"), []) ∷ (1, Stat (codes "/b"), []) ∷ [])
    ≡ Ok Done ∷ Ok Done ∷ Err ELOOP ∷ Err ELOOP ∷ Ok (Bytes (codes "/b")) ∷ Ok Done ∷ Err ELOOP ∷ []
unfolding runs
ring_of_links = refl

-- a FIFO and a socket have names, and nothing is behind them
names_alone : script_replies (last_state fresh made_all) ((1, Open (codes "/f") rdonly, []) ∷ (1, Open (codes "/s") (flags 22), []) ∷ (1, Open (codes "/f") (flags 14), []) ∷ (1, Truncate (codes "/f") 1048577, []) ∷ (1, Truncate (codes "/s") 0, []) ∷ (1, List_directory (codes "/f"), []) ∷ (1, Rmdir (codes "/s"), []) ∷ (1, Readlink (codes "/f"), []) ∷ (1, Mknod (codes "/f") Special_socket, []) ∷ (1, Mknod (codes "/") Special_fifo, []) ∷ (1, Mknod (codes "/x/y") Special_fifo, []) ∷ (1, Mknod (codes "f") Special_fifo, []) ∷ [])
    ≡ Err ENXIO ∷ Err ENXIO ∷ Err EEXIST ∷ Err EINVAL ∷ Err EINVAL ∷ Err ENOTDIR ∷ Err ENOTDIR ∷ Err EINVAL ∷ Err EEXIST ∷ Err EEXIST ∷ Err ENOENT ∷ Err EINVAL ∷ []
unfolding runs
names_alone = refl

-- each refusal, with the next one's cause there as well: of the target first, and then of the path
links_refused : script_replies (last_state fresh made_all) ((1, Symlink [] (codes "l"), []) ∷ (1, Symlink (replicate 4096 0) (codes "l"), []) ∷ (1, Symlink (97 ∷ 0 ∷ []) (codes "l"), []) ∷ (1, Symlink (codes "t") (codes "l"), []) ∷ (1, Symlink (codes "t") (codes "/"), []) ∷ (1, Symlink (codes "t") (codes "/x/l"), []) ∷ (1, Symlink (codes "t") (codes "/f/l"), []) ∷ (1, Symlink (codes "t") (codes "/l"), []) ∷ (1, Symlink (codes "t") (codes "/d"), []) ∷ [])
    ≡ Err ENOENT ∷ Err ENAMETOOLONG ∷ Err EINVAL ∷ Err EINVAL ∷ Err EEXIST ∷ Err ENOENT ∷ Err ENOTDIR ∷ Err EEXIST ∷ Err EEXIST ∷ []
unfolding runs
links_refused = refl

not_to_be_read : script_replies (last_state fresh made_all) ((1, Readlink (codes "l"), []) ∷ (1, Readlink (codes "/x"), []) ∷ (1, Readlink (codes "/f/x"), []) ∷ (1, Readlink (codes "/d"), []) ∷ (1, Readlink (codes "/"), []) ∷ (1, Lstat (codes "l"), []) ∷ (1, Lstat (codes "/x"), []) ∷ (1, Lstat (codes "/f/x"), []) ∷ [])
    ≡ Err EINVAL ∷ Err ENOENT ∷ Err ENOTDIR ∷ Err EINVAL ∷ Err EINVAL ∷ Err EINVAL ∷ Err ENOENT ∷ Err ENOTDIR ∷ []
unfolding runs
not_to_be_read = refl

-- the longest target
longest_target : script_replies fresh ((1, Symlink (replicate 4095 120) (codes "/l"), 1 ∷ []) ∷ (1, Lstat (codes "/l"), []) ∷ [])
    ≡ Ok Done ∷ Ok (a_link 1 4095 1) ∷ []
unfolding runs
longest_target = refl

-- a second name is one of the link, of the FIFO and of the socket itself
linked_again : script_replies (last_state fresh made_all) ((1, Link (codes "/l") (codes "/k"), []) ∷ (1, Lstat (codes "/k"), []) ∷ (1, Readlink (codes "/k"), []) ∷ (1, Unlink (codes "/l"), []) ∷ (1, Lstat (codes "/k"), []) ∷ (1, Link (codes "/f") (codes "/d/f"), []) ∷ (1, Lstat (codes "/f"), []) ∷ (1, Link (codes "/s") (codes "/f"), []) ∷ (1, Link (codes "/s") (codes "/t"), []) ∷ (1, Lstat (codes "/t"), []) ∷ [])
    ≡ Ok Done ∷ Ok (a_link 2 1 2) ∷ Ok (Bytes (codes "d")) ∷ Ok Done ∷ Ok (a_link 2 1 1) ∷ Ok Done ∷ Ok (a_fifo 4 2) ∷ Err EEXIST ∷ Ok Done ∷ Ok (a_socket 5 2) ∷ []
unfolding runs
linked_again = refl

-- what moves is the link itself, over a file too, and a file moves over a link
renamed : script_replies (last_state fresh made_all) ((1, Rename (codes "/l") (codes "/d/l"), []) ∷ (1, Lstat (codes "/l"), []) ∷ (1, Readlink (codes "/d/l"), []) ∷ (1, Open (codes "/a") wronly_creat, 6 ∷ 7 ∷ []) ∷ (1, Rename (codes "/d/l") (codes "/a"), []) ∷ (1, Fstat 0, []) ∷ (1, Readlink (codes "/a"), []) ∷ (1, Open (codes "/b") wronly_creat, 8 ∷ 9 ∷ []) ∷ (1, Rename (codes "/b") (codes "/a"), []) ∷ (1, Lstat (codes "/a"), []) ∷ (1, Rename (codes "/a") (codes "/d"), []) ∷ (1, Rename (codes "/f") (codes "/d"), []) ∷ (1, Rename (codes "/d") (codes "/f"), []) ∷ (1, Rename (codes "/f") (codes "/d/m"), []) ∷ (1, Lstat (codes "/d/m"), []) ∷ [])
    ≡ Ok Done ∷ Err ENOENT ∷ Ok (Bytes (codes "d")) ∷ Ok (Descriptor 0) ∷ Ok Done ∷ Ok (a_file 6 0 0) ∷ Ok (Bytes (codes "d")) ∷ Ok (Descriptor 1) ∷ Ok Done ∷ Ok (a_file 8 0 1) ∷ Err EISDIR ∷ Err EISDIR ∷ Err ENOTDIR ∷ Ok Done ∷ Ok (a_fifo 4 1) ∷ []
unfolding runs
renamed = refl

-- what loses its last name is gone
gone_with_the_last_name : keys (last_state fresh (made_all ++ (1, Unlink (codes "/l"), []) ∷ (1, Link (codes "/f") (codes "/g"), []) ∷ (1, Unlink (codes "/f"), []) ∷ (1, Rename (codes "/s") (codes "/d/m"), []) ∷ [])).inodes ≡ 0 ∷ 1 ∷ 4 ∷ 5 ∷ []
unfolding runs
gone_with_the_last_name = refl

made_and_unlinked : last_state fresh (made_all ++ (2, Unlink (codes "/l"), []) ∷ (2, Unlink (codes "/d/m"), []) ∷ (2, Rmdir (codes "/d"), []) ∷ (2, Unlink (codes "/f"), []) ∷ (2, Unlink (codes "/s"), []) ∷ []) ≡ fresh
unfolding runs
made_and_unlinked = refl

-- what they touch: a link is read with its target, and with its names where they are counted
link_read : reads (last_state fresh made_all) 1 (Readlink (codes "/l")) ≡ Entry 0 (codes "l") ∷ Target 2 ∷ []
unfolding runs
link_read = refl

status_of_a_link : reads (last_state fresh made_all) 1 (Lstat (codes "/d/m")) ≡ Entry 0 (codes "d") ∷ Entry 1 (codes "m") ∷ Target 3 ∷ Links 3 ∷ Rights 3 ∷ []
unfolding runs
status_of_a_link = refl

status_of_a_fifo : reads (last_state fresh made_all) 1 (Lstat (codes "/f")) ≡ Entry 0 (codes "f") ∷ Links 4 ∷ Rights 4 ∷ []
unfolding runs
status_of_a_fifo = refl

refused_inside : reads (last_state fresh made_all) 1 (Stat (codes "/l/m/x")) ≡ Entry 0 (codes "l") ∷ []
unfolding runs
refused_inside = refl

refused_at_the_end : reads (last_state fresh made_all) 1 (Open (codes "/l") rdonly) ≡ Entry 0 (codes "l") ∷ []
unfolding runs
refused_at_the_end = refl

link_made : writes (last_state fresh made_all) 1 (Symlink (codes "t") (codes "/d/k")) ≡ Entry 1 (codes "k") ∷ []
unfolding runs
link_made = refl

link_made_reads : reads (last_state fresh made_all) 1 (Symlink (codes "t") (codes "/d/k")) ≡ Entry 0 (codes "d") ∷ Entry 1 (codes "k") ∷ []
unfolding runs
link_made_reads = refl

fifo_made : writes (last_state fresh made_all) 1 (Mknod (codes "/k") Special_fifo) ≡ Entry 0 (codes "k") ∷ []
unfolding runs
fifo_made = refl

link_linked : writes (last_state fresh made_all) 1 (Link (codes "/l") (codes "/k")) ≡ Entry 0 (codes "k") ∷ Links 2 ∷ []
unfolding runs
link_linked = refl

link_unlinked : writes (last_state fresh made_all) 1 (Unlink (codes "/l")) ≡ Entry 0 (codes "l") ∷ Links 2 ∷ []
unfolding runs
link_unlinked = refl

socket_over_a_link : writes (last_state fresh made_all) 1 (Rename (codes "/s") (codes "/l")) ≡ Entry 0 (codes "s") ∷ Entry 0 (codes "l") ∷ Links 2 ∷ []
unfolding runs
socket_over_a_link = refl
