-- Worked rows of transactions, by running the definitions: each operation's reply and the processes that it dooms.
use Rattle.std.proofs.Common.{◌≡◌, ℕ, List, [], ◌∷◌, Bool, true, false, Some, None, pos, refl}
use Rattle.std.specs.Prelude.{codes}
use Rattle.model.specs.Aspects.{Entry as EntryOf, Names, Size, Links, Rights}
use Rattle.model.specs.State.{A_file, A_directory}
use Rattle.model.specs.Plan.{EAGAIN, ENOENT, ENOTSUP}
use Rattle.model.specs.Calls.{From_start, Call, Close, Lseek, Fstat, Link, Unlink, Rename, Symlink, Readlink, Lstat, Chmod, Chown, Fchmod, Open_pipe, Pair, Child, Open, Read, Write, Stat, List_directory, Mkdir, Fork, Exit, Done, Descriptor, Count, New_place, Bytes, Listing}
use Rattle.model.specs.Entries.{BeginFlags, Op, Do, Begin, End, Abort, Cause, Clash, Unsupported, Reply, Answers, Refuses, Begun, Committed, GivenUp, Aborted, Busy, InTransaction, NotInTransaction, HistoryFull, NoProcess}
use Rattle.model.specs.Forgetting.{whole}
use Rattle.model.specs.Moments.{live, Moment, at_start, reserved}
use Rattle.model.specs.Modes.{mode_of, Write as Write_mode}
use Rattle.model.specs.Replies.{Spoken, alone, Asked, all_said, moment_for}
use Rattle.model.specs.Script.{by_default, runs, rdwr, rdwr_creat, wronly_creat, a_file, a_directory, a_link, told_with, rights, new_owner}

abbrev plain : BeginFlags
plain = record { 0 = 0 }

abbrev again : BeginFlags
again = record { 0 = 1 }

abbrev strict : BeginFlags
strict = record { 0 = 3 }

abbrev by : ℕ → Op → Asked
by pid op = record { pid = pid; op = op; chosen = [] }

abbrev making : ℕ → Call → List ℕ → Asked
making pid call chosen = record { pid = pid; op = Do call; chosen = chosen }

abbrev dooming : Reply → List ℕ → Spoken
dooming reply others = record { reply = reply; doomed = others }

abbrev entry_a : Bool → ℕ → Cause
entry_a write pid = record { touch = record { aspect = EntryOf 0 (codes "a"); write = write }; other = pid }

abbrev size_of : ℕ → ℕ → Cause
size_of n pid = record { touch = record { aspect = Size n; write = false }; other = pid }

abbrev links_of : ℕ → ℕ → Cause
links_of n pid = record { touch = record { aspect = Links n; write = true }; other = pid }

abbrev rights_at : ℕ → Bool → ℕ → Cause
rights_at n write pid = record { touch = record { aspect = Rights n; write = write }; other = pid }

abbrev a : List ℕ
a = codes "/a"

abbrev b : List ℕ
b = codes "/b"

abbrev c : List ℕ
c = codes "/c"

abbrev d : List ℕ
d = codes "/d"

abbrev d_z : List ℕ
d_z = codes "/d/z"

abbrev x : List ℕ
x = codes "/x"

abbrev y : List ℕ
y = codes "/y"

abbrev two : Moment
two = at_start 0 (by_default (0 ∷ 0 ∷ []))

-- a directory that is made in a transaction is seen by others after the commit
first_run : all_said (whole 65536) two (by 1 (Begin plain) ∷ making 1 (Mkdir a) (7 ∷ []) ∷ by 2 (Do (Stat a)) ∷ by 1 End ∷ by 2 (Do (Stat a)) ∷ [])
    ≡ alone Begun ∷ alone (Answers Done) ∷ alone (Refuses ENOENT) ∷ alone Committed ∷ alone (Answers (a_directory 7)) ∷ []
unfolding runs
first_run = refl

-- the later transaction loses by a look at what the earlier one made
earlier_maker_wins : all_said (whole 100) two (by 1 (Begin plain) ∷ making 1 (Mkdir a) (7 ∷ []) ∷ by 2 (Begin plain) ∷ by 2 (Do (Stat a)) ∷ by 1 End ∷ [])
    ≡ alone Begun ∷ alone (Answers Done) ∷ alone Begun ∷ alone (Aborted (Clash (entry_a false 1)) false) ∷ alone Committed ∷ []
unfolding runs
earlier_maker_wins = refl

-- the later transaction loses by what it reads
earlier_wins : all_said (whole 100) two (by 1 (Begin plain) ∷ making 1 (Open a wronly_creat) (7 ∷ 8 ∷ []) ∷ by 2 (Begin plain) ∷ by 2 (Do (Stat a)) ∷ by 1 End ∷ [])
    ≡ alone Begun ∷ alone (Answers (Descriptor 0)) ∷ alone Begun ∷ alone (Aborted (Clash (entry_a false 1)) false) ∷ alone Committed ∷ []
unfolding runs
earlier_wins = refl

-- a name that was read and found absent is made by another, and the reader is told its own touch
doomed_reader : all_said (whole 100) two (by 1 (Begin plain) ∷ by 1 (Do (Stat a)) ∷ making 2 (Mkdir a) (7 ∷ []) ∷ by 1 End ∷ [])
    ≡ alone Begun ∷ alone (Refuses ENOENT) ∷ dooming (Answers Done) (1 ∷ []) ∷ alone (Aborted (Clash (entry_a false 2)) false) ∷ []
unfolding runs
doomed_reader = refl

-- a plain call is put off by a transaction of higher priority
put_off : all_said (whole 100) (at_start 0 (by_default (1 ∷ 0 ∷ []))) (by 1 (Begin plain) ∷ by 1 (Do (Stat a)) ∷ by 2 (Do (Mkdir a)) ∷ by 1 End ∷ making 2 (Mkdir a) (7 ∷ []) ∷ [])
    ≡ alone Begun ∷ alone (Refuses ENOENT) ∷ alone (Busy (entry_a true 1)) ∷ alone Committed ∷ alone (Answers Done) ∷ []
unfolding runs
put_off = refl

-- write skew: each reads what the other writes
write_skew : all_said (whole 100) two (making 1 (Open x rdwr_creat) (1 ∷ 2 ∷ []) ∷ making 1 (Open y rdwr_creat) (3 ∷ 4 ∷ [])
    ∷ making 2 (Open x rdwr) (5 ∷ []) ∷ making 2 (Open y rdwr) (6 ∷ [])
    ∷ by 1 (Begin plain) ∷ by 2 (Begin plain) ∷ by 1 (Do (Read 0 1)) ∷ by 2 (Do (Read 1 1)) ∷ by 1 (Do (Write 1 (112 ∷ []))) ∷ by 2 (Do (Write 0 (113 ∷ []))) ∷ by 1 End ∷ [])
    ≡ alone (Answers (Descriptor 0)) ∷ alone (Answers (Descriptor 1)) ∷ alone (Answers (Descriptor 0)) ∷ alone (Answers (Descriptor 1)) ∷ alone Begun ∷ alone Begun
    ∷ alone (Answers (Bytes [])) ∷ alone (Answers (Bytes [])) ∷ dooming (Answers (Count 1)) (2 ∷ []) ∷ alone (Aborted (Clash (size_of 3 1)) false) ∷ alone Committed ∷ []
unfolding runs
write_skew = refl

-- a reader of all names is doomed by a name that is added
unseen_addition : all_said (whole 100) two (making 1 (Mkdir d) (7 ∷ []) ∷ by 1 (Begin plain) ∷ by 1 (Do (List_directory d)) ∷ making 2 (Mkdir d_z) (8 ∷ []) ∷ by 1 (Do (Stat (47 ∷ []))) ∷ [])
    ≡ alone (Answers Done) ∷ alone Begun ∷ alone (Answers (Listing [])) ∷ dooming (Answers Done) (1 ∷ []) ∷ alone (Aborted (Clash (record { touch = record { aspect = Names 7; write = false }; other = 2 })) false) ∷ []
unfolding runs
unseen_addition = refl

-- a restart keeps no calls, and none is made where it is asked not to be
restarted : all_said (whole 100) two (by 1 (Begin again) ∷ making 1 (Mkdir c) (5 ∷ []) ∷ by 1 (Do (Stat a)) ∷ making 2 (Mkdir a) (7 ∷ []) ∷ by 1 (Do (Stat a)) ∷ by 1 (Do (Stat a)) ∷ by 1 End ∷ by 1 (Do (Stat c))
    ∷ by 1 (Begin again) ∷ by 1 (Do (Stat b)) ∷ making 2 (Mkdir b) (9 ∷ []) ∷ by 1 (Abort true) ∷ by 1 End ∷ [])
    ≡ alone Begun ∷ alone (Answers Done) ∷ alone (Refuses ENOENT) ∷ dooming (Answers Done) (1 ∷ []) ∷ alone (Aborted (Clash (entry_a false 2)) true) ∷ alone (Answers (a_directory 7)) ∷ alone Committed ∷ alone (Refuses ENOENT)
    ∷ alone Begun ∷ alone (Refuses ENOENT) ∷ dooming (Answers Done) (1 ∷ []) ∷ alone (Aborted (Clash (record { touch = record { aspect = EntryOf 0 (98 ∷ []); write = false }; other = 2 })) false) ∷ alone NotInTransaction ∷ []
unfolding runs
restarted = refl

-- a restart keeps the flags and the age
kept_age : (moment_for (whole 100) two (by 2 (Do (Stat a)) ∷ by 1 (Begin again) ∷ by 1 (Do (Stat a)) ∷ making 2 (Mkdir a) (7 ∷ []) ∷ by 1 (Do (Stat a)) ∷ [])).phase 1 ≡ live again 2 []
unfolding runs
kept_age = refl

-- fork and exit in a transaction
unsupported_inside : all_said (whole 100) (at_start 0 (by_default (0 ∷ []))) (by 1 (Begin plain) ∷ by 1 (Do Fork) ∷ by 1 End ∷ by 1 (Begin strict) ∷ by 1 (Do Exit) ∷ by 1 End ∷ by 1 (Do Exit) ∷ by 1 (Do (Stat (47 ∷ []))) ∷ [])
    ≡ alone Begun ∷ alone (Refuses ENOTSUP) ∷ alone Committed ∷ alone Begun ∷ alone (Aborted Unsupported false) ∷ alone NotInTransaction ∷ alone (Answers Done) ∷ alone NoProcess ∷ []
unfolding runs
unsupported_inside = refl

-- who loses against one dooms nobody
loses_and_dooms_nobody : all_said (whole 100) (at_start 0 (by_default (0 ∷ 2 ∷ 1 ∷ []))) (by 1 (Begin plain) ∷ by 1 (Do (Stat a)) ∷ by 2 (Begin plain) ∷ by 2 (Do (Stat a)) ∷ by 3 (Do (Mkdir a)) ∷ by 1 End ∷ by 2 End ∷ [])
    ≡ alone Begun ∷ alone (Refuses ENOENT) ∷ alone Begun ∷ alone (Refuses ENOENT) ∷ alone (Busy (entry_a true 2)) ∷ alone Committed ∷ alone Committed ∷ []
unfolding runs
loses_and_dooms_nobody = refl

abbrev few : List Asked
few = by 1 (Begin again) ∷ by 1 (Do (Stat a)) ∷ making 2 (Mkdir a) (7 ∷ []) ∷ by 1 End ∷ []

-- a restart needs a place
no_place_for_a_restart : all_said (whole 4) two few ≡ alone Begun ∷ alone (Refuses ENOENT) ∷ dooming (Answers Done) (1 ∷ []) ∷ alone (Aborted (Clash (entry_a false 2)) false) ∷ []
unfolding runs
no_place_for_a_restart = refl

a_place_for_a_restart : all_said (whole 5) two (by 1 (Begin again) ∷ by 1 (Do (Stat a)) ∷ making 2 (Mkdir a) (7 ∷ []) ∷ by 1 End ∷ by 1 End ∷ [])
    ≡ alone Begun ∷ alone (Refuses ENOENT) ∷ dooming (Answers Done) (1 ∷ []) ∷ alone (Aborted (Clash (entry_a false 2)) true) ∷ alone Committed ∷ []
unfolding runs
a_place_for_a_restart = refl

its_place_is_held : reserved (moment_for (whole 5) two few) ≡ 1
unfolding runs
its_place_is_held = refl

-- begin in a transaction, and what is given up is gone
given_up : all_said (whole 100) two (by 1 (Begin plain) ∷ by 1 (Begin plain) ∷ making 1 (Mkdir a) (7 ∷ []) ∷ by 1 (Abort false) ∷ by 1 (Do (Stat a)) ∷ [])
    ≡ alone Begun ∷ alone InTransaction ∷ alone (Answers Done) ∷ alone (GivenUp false) ∷ alone (Refuses ENOENT) ∷ []
unfolding runs
given_up = refl

-- a full history
full : all_said (whole 4) two (by 1 (Begin plain) ∷ making 1 (Mkdir a) (7 ∷ []) ∷ making 1 (Mkdir b) (8 ∷ []) ∷ making 1 (Mkdir c) (9 ∷ []) ∷ by 1 End ∷ by 1 (Do (Stat (47 ∷ []))) ∷ [])
    ≡ alone Begun ∷ alone (Answers Done) ∷ alone (Answers Done) ∷ alone HistoryFull ∷ alone Committed ∷ alone HistoryFull ∷ []
unfolding runs
full = refl

-- both add names to one directory
both_add : mode_of (moment_for (whole 100) two (making 1 (Mkdir d) (7 ∷ []) ∷ by 1 (Begin plain) ∷ by 2 (Begin plain) ∷ making 1 (Mkdir (47 ∷ 100 ∷ 47 ∷ 97 ∷ [])) (8 ∷ []) ∷ making 2 (Mkdir (47 ∷ 100 ∷ 47 ∷ 98 ∷ [])) (9 ∷ []) ∷ [])) 7 ≡ Write_mode
unfolding runs
both_add = refl

abbrev in_d : ℕ → List ℕ
in_d b = 47 ∷ 100 ∷ 47 ∷ b ∷ []

-- both add names to one directory and commit
both_commit : all_said (whole 100) two (making 1 (Mkdir d) (7 ∷ []) ∷ by 1 (Begin plain) ∷ by 2 (Begin plain) ∷ making 1 (Mkdir (in_d 97)) (8 ∷ []) ∷ making 2 (Mkdir (in_d 98)) (9 ∷ []) ∷ by 1 End ∷ by 2 End ∷ by 1 (Do (List_directory d)) ∷ [])
    ≡ alone (Answers Done) ∷ alone Begun ∷ alone Begun ∷ alone (Answers Done) ∷ alone (Answers Done) ∷ alone Committed ∷ alone Committed ∷ alone (Answers (Listing ((97 ∷ []) ∷ (98 ∷ []) ∷ []))) ∷ []
unfolding runs
both_commit = refl

-- who lists a directory dooms who writes entries of it, and the least of these is told
least_entry_told : all_said (whole 100) two (making 1 (Mkdir d) (7 ∷ []) ∷ by 2 (Begin plain) ∷ by 1 (Begin plain) ∷ making 1 (Mkdir (in_d 98)) (8 ∷ []) ∷ making 1 (Mkdir (in_d 97)) (9 ∷ []) ∷ by 2 (Do (List_directory d)) ∷ by 1 End ∷ [])
    ≡ alone (Answers Done) ∷ alone Begun ∷ alone Begun ∷ alone (Answers Done) ∷ alone (Answers Done) ∷ dooming (Answers (Listing [])) (1 ∷ [])
    ∷ alone (Aborted (Clash (record { touch = record { aspect = EntryOf 7 (97 ∷ []); write = true }; other = 2 })) false) ∷ []
unfolding runs
least_entry_told = refl

-- of a read and a write on one aspect the write is told
write_told : all_said (whole 100) two (by 2 (Begin plain) ∷ by 1 (Begin plain) ∷ by 1 (Do (Stat a)) ∷ making 1 (Mkdir a) (7 ∷ []) ∷ by 2 (Do (Stat a)) ∷ by 1 End ∷ [])
    ≡ alone Begun ∷ alone Begun ∷ alone (Refuses ENOENT) ∷ alone (Answers Done) ∷ dooming (Refuses ENOENT) (1 ∷ []) ∷ alone (Aborted (Clash (entry_a true 2)) false) ∷ []
unfolding runs
write_told = refl

-- a file whose last name goes while a transaction writes it lives on by its description
commits_without_a_name : all_said (whole 100) two (making 1 (Open a rdwr_creat) (7 ∷ 8 ∷ []) ∷ by 1 (Begin plain) ∷ by 1 (Do (Write 0 (113 ∷ []))) ∷ by 2 (Do (Unlink a)) ∷ by 1 End ∷ by 1 (Do (Lseek 0 (pos 0) From_start)) ∷ by 1 (Do (Read 0 1)) ∷ by 1 (Do (Fstat 0)) ∷ by 1 (Do (Close 0)) ∷ [])
    ≡ alone (Answers (Descriptor 0)) ∷ alone Begun ∷ alone (Answers (Count 1)) ∷ alone (Answers Done) ∷ alone Committed ∷ alone (Answers (New_place 0)) ∷ alone (Answers (Bytes (113 ∷ []))) ∷ alone (Answers (a_file 7 1 0)) ∷ alone (Answers Done) ∷ []
unfolding runs
commits_without_a_name = refl

-- two renames that would make a loop
no_loop : all_said (whole 100) two (making 1 (Mkdir a) (7 ∷ []) ∷ making 1 (Mkdir b) (8 ∷ []) ∷ by 1 (Begin plain) ∷ by 2 (Begin plain) ∷ by 1 (Do (Rename a (47 ∷ 98 ∷ 47 ∷ 97 ∷ []))) ∷ by 2 (Do (Rename b (47 ∷ 97 ∷ 47 ∷ 98 ∷ []))) ∷ by 1 End ∷ [])
    ≡ alone (Answers Done) ∷ alone (Answers Done) ∷ alone Begun ∷ alone Begun ∷ alone (Answers Done) ∷ alone (Aborted (Clash (entry_a false 1)) false) ∷ alone Committed ∷ []
unfolding runs
no_loop = refl

-- what a transaction writes into a pipe comes out after its commit
pipe_after_commit : all_said (whole 100) (at_start 0 (by_default (0 ∷ []))) (making 1 Open_pipe (7 ∷ 8 ∷ 9 ∷ []) ∷ by 1 (Do Fork) ∷ by 1 (Begin plain) ∷ by 1 (Do (Write 1 (97 ∷ 98 ∷ 99 ∷ []))) ∷ by 2 (Do (Read 0 10)) ∷ by 1 End ∷ by 2 (Do (Read 0 10)) ∷ [])
    ≡ alone (Answers (Pair 0 1)) ∷ alone (Answers (Child 2)) ∷ alone Begun ∷ alone (Answers (Count 3)) ∷ alone (Refuses EAGAIN) ∷ alone Committed ∷ alone (Answers (Bytes (97 ∷ 98 ∷ 99 ∷ []))) ∷ []
unfolding runs
pipe_after_commit = refl

-- a link that is made in a transaction is read by others after the commit
link_made_inside : all_said (whole 100) two (by 1 (Begin plain) ∷ making 1 (Symlink (codes "t") a) (7 ∷ []) ∷ by 1 (Do (Readlink a)) ∷ by 2 (Do (Readlink a)) ∷ by 1 End ∷ by 2 (Do (Readlink a)) ∷ [])
    ≡ alone Begun ∷ alone (Answers Done) ∷ alone (Answers (Bytes (codes "t"))) ∷ alone (Refuses ENOENT) ∷ alone Committed ∷ alone (Answers (Bytes (codes "t"))) ∷ []
unfolding runs
link_made_inside = refl

-- one more name of a link clashes with what has counted its names, and not with what has read its target
link_counted : all_said (whole 100) two (making 1 (Symlink (codes "t") a) (7 ∷ []) ∷ by 1 (Begin plain) ∷ by 1 (Do (Lstat a)) ∷ by 2 (Begin plain) ∷ by 2 (Do (Link a b)) ∷ by 1 End ∷ [])
    ≡ alone (Answers Done) ∷ alone Begun ∷ alone (Answers (a_link 7 1 1)) ∷ alone Begun ∷ alone (Aborted (Clash (links_of 7 1)) false) ∷ alone Committed ∷ []
unfolding runs
link_counted = refl

link_read : all_said (whole 100) two (making 1 (Symlink (codes "t") a) (7 ∷ []) ∷ by 1 (Begin plain) ∷ by 1 (Do (Readlink a)) ∷ by 2 (Begin plain) ∷ by 2 (Do (Link a b)) ∷ by 2 End ∷ by 1 (Do (Readlink b)) ∷ by 1 End ∷ [])
    ≡ alone (Answers Done) ∷ alone Begun ∷ alone (Answers (Bytes (codes "t"))) ∷ alone Begun ∷ alone (Answers Done) ∷ alone Committed ∷ alone (Answers (Bytes (codes "t"))) ∷ alone Committed ∷ []
unfolding runs
link_read = refl

-- a mode that is set in a transaction is seen by others after the commit, and not after an abort
mode_set_inside : all_said (whole 100) two (making 1 (Mkdir d) (7 ∷ []) ∷ by 1 (Begin plain) ∷ by 1 (Do (Chmod d 448)) ∷ by 1 (Do (Stat d)) ∷ by 1 End ∷ by 2 (Do (Stat d)) ∷ by 1 (Begin plain) ∷ by 1 (Do (Chmod d 0)) ∷ by 1 (Abort false) ∷ by 2 (Do (Stat d)) ∷ [])
    ≡ alone (Answers Done) ∷ alone Begun ∷ alone (Answers Done) ∷ alone (Answers (told_with (rights 448 0 0) A_directory 7 0 1)) ∷ alone Committed ∷ alone (Answers (told_with (rights 448 0 0) A_directory 7 0 1)) ∷ alone Begun ∷ alone (Answers Done) ∷ alone (GivenUp false) ∷ alone (Answers (told_with (rights 448 0 0) A_directory 7 0 1)) ∷ []
unfolding runs
mode_set_inside = refl

-- a mode that is set clashes with what was told of the object, and with another one that is set
mode_clashes : all_said (whole 100) two (making 1 (Mkdir d) (7 ∷ []) ∷ by 1 (Begin plain) ∷ by 1 (Do (Stat d)) ∷ by 2 (Do (Chmod d 448)) ∷ by 1 End ∷ by 1 (Begin plain) ∷ by 1 (Do (Chmod d 0)) ∷ by 2 (Begin plain) ∷ by 2 (Do (Chown d (new_owner (Some 1) None))) ∷ by 1 End ∷ [])
    ≡ alone (Answers Done) ∷ alone Begun ∷ alone (Answers (a_directory 7)) ∷ dooming (Answers Done) (1 ∷ []) ∷ alone (Aborted (Clash (rights_at 7 false 2)) false) ∷ alone Begun ∷ alone (Answers Done) ∷ alone Begun ∷ alone (Aborted (Clash (rights_at 7 false 1)) false) ∷ alone Committed ∷ []
unfolding runs
mode_clashes = refl

-- and not with what is written to the file, nor with its other names
mode_beside : all_said (whole 100) two (making 1 (Open a rdwr_creat) (7 ∷ 8 ∷ []) ∷ by 1 (Begin plain) ∷ by 1 (Do (Fchmod 0 384)) ∷ by 2 (Begin plain) ∷ by 2 (Do (Link a b)) ∷ by 2 End ∷ by 1 (Do (Write 0 (113 ∷ []))) ∷ by 1 End ∷ by 2 (Do (Stat b)) ∷ [])
    ≡ alone (Answers (Descriptor 0)) ∷ alone Begun ∷ alone (Answers Done) ∷ alone Begun ∷ alone (Answers Done) ∷ alone Committed ∷ alone (Answers (Count 1)) ∷ alone Committed ∷ alone (Answers (told_with (rights 384 0 0) A_file 7 1 2)) ∷ []
unfolding runs
mode_beside = refl
