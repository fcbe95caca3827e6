-- The plan of each request about a node of a tree, its course, what its reply shows, and what is known
-- then of nodes, open files and times: all that is not told here stands.
use Rattle.std.specs.Prelude.{◌≡◌, ℕ, ◌+◌, ◌==◌, ◌&&◌, min, ℤ}
use Rattle.std.specs.Prelude.{List, [], Bool, true, false, Option, Some, None, is_some}
use Rattle.std.specs.Prelude.{Result, Ok, Err, if◌then◌else◌}
use Rattle.model.specs.FiniteMap as map
use Rattle.ids.specs.declared.call.Call.TheVariants as call
use Rattle.ids.specs.declared.limits.TheConstants.{MOST_MOVED}
use Rattle.ids.specs.declared.reply.Stat.{Stat}
use Rattle.fuse.specs.declared.errno.Errno.TheVariants as errno
use Rattle.fuse.specs.declared.reply.Reply.{Reply}
use Rattle.fuse.specs.declared.reply.Reply.TheVariants as reply
use Rattle.fuse.specs.declared.request.Changes.{Changes}
use Rattle.fuse.specs.declared.request.Operation.{Operation}
use Rattle.fuse.specs.declared.request.Operation.TheVariants as asked
use Rattle.fuse.specs.declared.request.Whence.{Whence}
use Rattle.machine.specs.Shown.{Shown}
use Rattle.nodes.specs.Tables.{Table, is_current, looked_up, made}
use Rattle.course.specs.Course.{Course, Give, ◌>>=◌}
use Rattle.course.specs.Courses.{appending, closing_spare, copying, creating_in, cutting, doing, dropping_if}
use Rattle.course.specs.Courses.{finding, inside, linking, listing_at, making_directory}
use Rattle.course.specs.Courses.{making_inside, making_link, making_node, moving, on_ok, opening_cut}
use Rattle.course.specs.Courses.{placing, reading, reading_link, stating, updating, writing}
use Rattle.course.specs.declared.fault.Fault.{Fault}
use Rattle.course.specs.declared.files.Made.{Made}
use Rattle.course.specs.declared.made.Cut.{Cut}
use Rattle.course.specs.declared.updates.Update.{Update}
use Rattle.mount_tables.specs.Folders.{Opened}
use Rattle.mount_tables.specs.Numbers.{is_reserved}
use Rattle.mount_tables.specs.declared.open_files.OpenFile.{OpenFile}
use Rattle.mount_requests.specs.Answers.{Answers, AnswersIfRoom, Says}
use Rattle.mount_requests.specs.Asked.{absent_in, creation, cut_by, drops, flagless, given, is_exchange}
use Rattle.mount_requests.specs.Asked.{length_in, looked_from, offset_by, offset_in, overlap, owner_by, permissions_by}
use Rattle.mount_requests.specs.Asked.{space_by, special_in, update_of, whence_in}
use Rattle.mount_requests.specs.Failures.{and_then, error, found_or}
use Rattle.mount_requests.specs.Found.{file_at, file_by, folder_at, handle_at, handle_of, inode_of, located_child}
use Rattle.mount_requests.specs.Found.{located_made, located_new, located_own, object_of, once}
use Rattle.mount_requests.specs.Found.{own_paths, paths_to, shown_names, stepper_at, twice}
use Rattle.mount_requests.specs.Later.{opened_again, opened_first, with_creation, with_link}
use Rattle.mount_requests.specs.Later.{with_exchange, with_look_up, with_made, with_move, without_name}
use Rattle.mount_requests.specs.Listed.{Lists}
use Rattle.mount_requests.specs.Seen.{Seen}
use Rattle.mount_requests.specs.Times.{of_copying, of_cutting, of_setting, of_writing, times_at, times_if}
use Rattle.mount_requests.specs.Times.{with_events, with_events_if}
use Rattle.mount_requests.specs.Told.{ShowsAttributes, ShowsBytes, ShowsCount, ShowsCreated, ShowsEntry}
use Rattle.mount_requests.specs.Told.{ShowsHandle, ShowsNothing, ShowsPlace, named}
use Rattle.mount_requests.specs.declared.changing.Setting.{Setting}
use Rattle.mount_requests.specs.declared.failure.Failure.{Failure}
use Rattle.mount_requests.specs.declared.files.Reading.{Reading}
use Rattle.mount_requests.specs.declared.ranges.Allocating.{Allocating}
use Rattle.mount_requests.specs.declared.ranges.Copying.{Copying}
use Rattle.mount_requests.specs.declared.ranges.Seeking.{Seeking}
use Rattle.mount_requests.specs.declared.files.Writing.{Writing}
use Rattle.mount_requests.specs.declared.looking.Linked.{Linked}
use Rattle.mount_requests.specs.declared.making.Linking.{Linking}
use Rattle.mount_requests.specs.declared.making.NewNode.{NewNode}
use Rattle.mount_requests.specs.declared.opening.Creation.{Creation}
use Rattle.mount_requests.specs.declared.opening.Opening.{Opening}
use Rattle.mount_requests.specs.declared.opening.Opening.TheVariants.{Again, First}
use Rattle.mount_requests.specs.declared.planning.LocatedName.{LocatedName}
use Rattle.mount_requests.specs.declared.planning.NewName.{NewName}
use Rattle.mount_requests.specs.declared.reading.Directory.{Directory}
use Rattle.mount_requests.specs.declared.removing.Exchanging.{Exchanging}
use Rattle.mount_requests.specs.declared.removing.Moving.{Moving}
use Rattle.mount_requests.specs.declared.requests.Caller.{Caller}

-- ---- looking

-- The directory of transactions stands in the root of the plain tree alone.
abbrev pub IsReserved : ℕ → Result Reply Failure → Type 0
IsReserved node (Ok (reply.Entry entry)) = (node ≡ 1) × (entry.node ≡ 2)
IsReserved node (Ok r) = ⊥
IsReserved node (Err e) = e ≡ error errno.ENOENT

abbrev pub AnswersName : Seen → Seen → ℕ → ℕ → List ℕ → Shown → Shown → Result Reply Failure → Type 0
AnswersName s later pid node name old new result =
    Answers s later old new (located_child s node name)
    (λ p. inside pid p.place (stating pid (call.Lstat p.path)))
    (λ p stat known r.
    Says (ShowsEntry s.nodes (named node name) stat (times_at s s.times node stat.num)) r
    × (known ≡ with_look_up s node name stat)) result

abbrev pub AnswersLookUpBy : Bool → Seen → Seen → ℕ → ℕ → List ℕ → Shown → Shown
    → Result Reply Failure → Type 0
AnswersLookUpBy true s later pid node name old new result =
    IsReserved node result × (new ≡ old) × (later ≡ s)
AnswersLookUpBy false s later pid node name old new result =
    AnswersName s later pid node name old new result

abbrev pub AnswersLookUp : Seen → Seen → ℕ → ℕ → List ℕ → Shown → Shown → Result Reply Failure
    → Type 0
AnswersLookUp s later pid node name old new result =
    AnswersLookUpBy (is_reserved node name) s later pid node name old new result

abbrev pub AnswersGetAttr : Seen → Seen → ℕ → ℕ → Shown → Shown → Result Reply Failure → Type 0
AnswersGetAttr s later pid node old new result =
    Answers s later old new (object_of s pid node) (finding pid)
    (λ o stat known r. Says (ShowsAttributes stat (times_if s s.times node stat.num)) r
    × (known ≡ s)) result

-- the object of a node, by its path: a symbolic link, if its target is told
abbrev pub linked : Seen → ℕ → Result Linked Failure
linked s node = and_then (located_own s node) (λ p.
    Ok (record { paths = twice p.path; inode = inode_of s node }))

abbrev pub AnswersReadLink : Seen → Seen → ℕ → ℕ → Shown → Shown → Result Reply Failure → Type 0
AnswersReadLink s later pid node old new result =
    Answers s later old new (linked s node) (λ l. reading_link pid l.paths.first l.inode)
    (λ l target known r. Says (ShowsBytes target) r × (known ≡ s)) result

-- ---- setting

abbrev pub setting : Seen → ℕ → ℕ → Changes → Result Setting Failure
setting s pid node changes = and_then (length_in changes.size) (λ length.
    and_then (object_of s pid node) (λ o. Ok (record {
      object = o;
      update = update_of length (owner_by changes) (permissions_by changes.mode);
      paths = paths_to s node;
    })))

abbrev pub setting_by : ℕ → Setting → Option Update → Course (Result Stat Fault)
setting_by pid s (Some update) = updating pid s.object s.paths update
setting_by pid s None = finding pid s.object

abbrev pub AnswersSetAttr : Seen → Seen → ℕ → ℕ → Changes → Shown → Shown → Result Reply Failure
    → Type 0
AnswersSetAttr s later pid node changes old new result =
    Answers s later old new (setting s pid node changes) (λ p. setting_by pid p p.update)
    (λ p stat known r. Says (ShowsAttributes stat (times_if s known.times node stat.num)) r
    × (known ≡ with_events_if (is_current s.nodes node) node (of_setting changes s.time stat.num) s))
    result

-- ---- making names

-- what was made, with the times that it has then
abbrev pub ShowsMade : Seen → Seen → ℕ → List ℕ → Stat → Result Reply Failure → Type 0
ShowsMade s known node name stat r = Says (ShowsEntry (made s.nodes stat.num) (named node name) stat
    (times_at s known.times node stat.num)) r

abbrev pub AnswersMkDir : Seen → Seen → ℕ → Caller → List ℕ → ℕ → Shown → Shown
    → Result Reply Failure → Type 0
AnswersMkDir s later pid who name mode old new result =
    Answers s later old new (located_made s who.node name)
    (λ p. making_inside pid p.parent (making_directory pid p.path p.again (given who.owner mode)))
    (λ p stat known r. ShowsMade s known who.node name stat r
    × (known ≡ with_made s who.node name stat)) result

abbrev pub AnswersSymLink : Seen → Seen → ℕ → Caller → List ℕ → List ℕ → Shown → Shown
    → Result Reply Failure → Type 0
AnswersSymLink s later pid who name target old new result =
    Answers s later old new (located_made s who.node name)
    (λ p. making_inside pid p.parent (making_link pid target p.path p.again who.owner))
    (λ p stat known r. ShowsMade s known who.node name stat r
    × (known ≡ with_made s who.node name stat)) result

abbrev pub planned_node : Seen → ℕ → List ℕ → ℕ → Result NewNode Failure
planned_node s node name mode = and_then (special_in mode) (λ special.
    and_then (located_made s node name) (λ at. Ok (record { at = at; special = special })))

abbrev pub AnswersMkNod : Seen → Seen → ℕ → Caller → List ℕ → ℕ → Shown → Shown
    → Result Reply Failure → Type 0
AnswersMkNod s later pid who name mode old new result =
    Answers s later old new (planned_node s who.node name mode)
    (λ p. making_inside pid p.at.parent
    (making_node pid p.special p.at.path p.at.again (given who.owner mode)))
    (λ p stat known r. ShowsMade s known who.node name stat r
    × (known ≡ with_made s who.node name stat)) result

-- nothing is linked or moved from one view to another
abbrev pub in_one_view : ℕ → ℕ → Result (Unit {0}) Failure
in_one_view from to = if from == to then Ok tt else Err (error errno.EXDEV)

-- the object of a node, which is no directory, by its path, and its further name
abbrev pub linking_in : Seen → ℕ → ℕ → List ℕ → Result Linking Failure
linking_in s parent node name = and_then (located_new s parent name) (λ to.
    and_then (located_own s node) (λ from.
    and_then (in_one_view from.view to.view) (λ one. Ok (record {
      from = twice from.path;
      inode = inode_of s node;
      place = to.place;
      to = twice to.path;
    }))))

abbrev pub AnswersLink : Seen → Seen → ℕ → ℕ → ℕ → List ℕ → Shown → Shown → Result Reply Failure
    → Type 0
AnswersLink s later pid parent node name old new result =
    Answers s later old new (linking_in s parent node name)
    (λ l. inside pid l.place (linking pid l.from.first l.inode l.to.first))
    (λ l stat known r. Says (ShowsEntry s.nodes (named parent name) stat
    (times_at s known.times parent stat.num)) r
    × (known ≡ with_link s parent name l.inode stat)) result

-- ---- taking names away, and moving them

abbrev pub AnswersUnlink : Seen → Seen → ℕ → ℕ → List ℕ → Shown → Shown → Result Reply Failure
    → Type 0
AnswersUnlink s later pid node name old new result =
    Answers s later old new (located_new s node name)
    (λ p. inside pid p.place (doing pid (call.Unlink p.path)))
    (λ p done known r. Says ShowsNothing r × (known ≡ without_name s node name)) result

abbrev pub removing : Seen → ℕ → List ℕ → Result LocatedName Failure
removing s node name =
    if is_reserved node name then Err (error errno.EBUSY) else located_child s node name

abbrev pub AnswersRmDir : Seen → Seen → ℕ → ℕ → List ℕ → Shown → Shown → Result Reply Failure
    → Type 0
AnswersRmDir s later pid node name old new result =
    Answers s later old new (removing s node name)
    (λ p. inside pid p.place (doing pid (call.Rmdir p.path)))
    (λ p done known r. Says ShowsNothing r × (known ≡ without_name s node name)) result

abbrev pub moved : Seen → ℕ → List ℕ → ℕ → List ℕ → ℕ → Result Moving Failure
moved s node name new_node new_name flags = and_then (absent_in flags) (λ absent.
    and_then (located_new s node name) (λ from.
    and_then (located_new s new_node new_name) (λ to.
    and_then (in_one_view from.view to.view) (λ one.
    Ok (record { from = from; to = to; absent = absent })))))

-- each of the two directories has to be where it was
abbrev pub moving_by : ℕ → Moving → Course (Result (Unit {0}) Fault)
moving_by pid m =
    inside pid m.from.place (inside pid m.to.place (moving pid m.from.path m.to.path m.absent))

abbrev pub AnswersMove : Seen → Seen → ℕ → ℕ → List ℕ → ℕ → List ℕ → ℕ → Shown → Shown
    → Result Reply Failure → Type 0
AnswersMove s later pid node name new_node new_name flags old new result =
    Answers s later old new (moved s node name new_node new_name flags) (moving_by pid)
    (λ m done known r. Says ShowsNothing r × (known ≡ with_move s node name new_node new_name)) result

-- two names that change places, in one view
abbrev pub swapped : Seen → ℕ → List ℕ → ℕ → List ℕ → Result Exchanging Failure
swapped s node name new_node new_name = and_then (located_new s node name) (λ first.
    and_then (located_new s new_node new_name) (λ second.
    and_then (in_one_view first.view second.view) (λ one.
    Ok (record { first = first; second = second }))))

abbrev pub exchanging_by : ℕ → Exchanging → Course (Result (Unit {0}) Fault)
exchanging_by pid e =
    inside pid e.first.place (inside pid e.second.place
    (doing pid (call.Exchange e.first.path e.second.path)))

abbrev pub AnswersExchange : Seen → Seen → ℕ → ℕ → List ℕ → ℕ → List ℕ → Shown → Shown
    → Result Reply Failure → Type 0
AnswersExchange s later pid node name new_node new_name old new result =
    Answers s later old new (swapped s node name new_node new_name) (exchanging_by pid)
    (λ e done known r. Says ShowsNothing r × (known ≡ with_exchange s node name new_node new_name))
    result

-- By its flag 2 alone a rename is an exchange.
abbrev pub AnswersRenameBy : Bool → Seen → Seen → ℕ → ℕ → List ℕ → ℕ → List ℕ → ℕ → Shown → Shown
    → Result Reply Failure → Type 0
AnswersRenameBy true s later pid node name new_node new_name flags old new result =
    AnswersExchange s later pid node name new_node new_name old new result
AnswersRenameBy false s later pid node name new_node new_name flags old new result =
    AnswersMove s later pid node name new_node new_name flags old new result

abbrev pub AnswersRename : Seen → Seen → ℕ → ℕ → List ℕ → ℕ → List ℕ → ℕ → Shown → Shown
    → Result Reply Failure → Type 0
AnswersRename s later pid node name new_node new_name flags old new result =
    AnswersRenameBy (is_exchange flags) s later pid node name new_node new_name flags old new result

-- ---- opening

abbrev pub is_node : Seen → ℕ → Bool
is_node s node = is_some (map.get s.nodes.nodes node)

-- a file that is open in the view already is opened once more
abbrev pub opening_by : Seen → ℕ → ℕ → Option ℕ → Result Opening Failure
opening_by s pid node (Some handle) =
    and_then (file_by s pid handle) (λ file. Ok (Again (inode_of s node) handle file.fd))
opening_by s pid node None =
    and_then (located_own s node) (λ p. Ok (First p.view p.path (inode_of s node)))

abbrev pub opening : Seen → ℕ → ℕ → Result Opening Failure
opening s pid node = and_then (stepper_at s node) (λ st.
    if is_node s node then opening_by s pid node (handle_at s st.view node)
    else Err (error errno.EISDIR))

abbrev pub opened_by : ℕ → Cut → Opening → Course (Result ℕ Fault)
opened_by pid how (Again inode handle fd) = cutting pid fd how >>= on_ok (λ done. Give (Ok fd))
opened_by pid how (First view path inode) = opening_cut pid path inode how

-- what is known then, and under which number the file is open
abbrev pub with_opening : Seen → ℕ → ℕ → Cut → Opening → ℕ → Seen
with_opening s pid node how (Again inode handle fd) given =
    opened_again (with_events node (of_cutting how inode) s) handle
with_opening s pid node how (First view path inode) given =
    opened_first (with_events node (of_cutting how inode) s) view inode pid given

abbrev pub handle_by : Seen → Opening → ℕ
handle_by s (Again inode handle fd) = handle
handle_by s (First view path inode) = s.next_file

abbrev pub OpensAs : Seen → Seen → ℕ → ℕ → Cut → Result Opening Failure → Shown → Shown
    → Result Reply Failure → Type 0
OpensAs s later pid node how plan old new result =
    Answers s later old new plan (opened_by pid how)
    (λ o fd known r. Says (ShowsHandle (handle_by s o)) r
    × (known ≡ with_opening s pid node how o fd)) result

abbrev pub AnswersOpen : Seen → Seen → ℕ → ℕ → ℕ → ℕ → Shown → Shown → Result Reply Failure → Type 0
AnswersOpen s later pid node flags how old new result =
    OpensAs s later pid node (cut_by flags how) (opening s pid node) old new result

-- a file is made, or the one of that name is opened, unless it is open already
abbrev pub making_open : Seen → ℕ → Creation → NewName → Course (Result Made Fault)
making_open s pid c p =
    making_inside pid p.parent (creating_in pid p.path p.again.told c.exclusive c.cut c.given)
    >>= on_ok (λ made. closing_spare pid (is_some (handle_of s p.view made.stat.num)) made)

-- A file that was made is open under the number that it had, where it was open already.
abbrev pub handle_made_by : Seen → Option ℕ → ℕ
handle_made_by s (Some handle) = handle
handle_made_by s None = s.next_file

abbrev pub handle_made : Seen → ℕ → Made → ℕ
handle_made s view made = handle_made_by s (handle_of s view made.stat.num)

abbrev pub with_open_by : Seen → ℕ → ℕ → Made → Option ℕ → Seen
with_open_by s view pid made (Some handle) = opened_again s handle
with_open_by s view pid made None = opened_first s view made.stat.num pid made.fd

abbrev pub with_open : Seen → ℕ → ℕ → Made → Seen
with_open s view pid made = with_open_by s view pid made (handle_of s view made.stat.num)

abbrev pub born_if : Bool → Table → ℕ → Table
born_if true t inode = made t inode
born_if false t inode = t

abbrev pub with_created : Seen → ℕ → ℕ → ℕ → List ℕ → Cut → Made → Seen
with_created s view pid node name how made = record (with_open s view pid made) {
  nodes = looked_up (born_if made.is_new s.nodes made.stat.num) (named node name)
      made.stat.num made.stat.kind;
  times = (with_creation made.is_new s node how made.stat.num).times;
}

abbrev pub AnswersCreate : Seen → Seen → ℕ → Caller → List ℕ → Creation → Shown → Shown
    → Result Reply Failure → Type 0
AnswersCreate s later pid who name c old new result =
    Answers s later old new (located_made s who.node name) (making_open s pid c)
    (λ p made known r. Says (ShowsCreated (born_if made.is_new s.nodes made.stat.num)
    (named who.node name) made.stat (times_at s known.times who.node made.stat.num)
    (handle_made s p.view made)) r
    × (known ≡ with_created s p.view pid who.node name c.cut made)) result

-- ---- open files

abbrev pub reads : Seen → ℕ → ℕ → ℕ → ℕ → Result Reading Failure
reads s pid handle offset size = and_then (file_by s pid handle) (λ file.
    and_then (offset_in offset) (λ from.
    Ok (record { fd = file.fd; count = min size MOST_MOVED; offset = from })))

abbrev pub AnswersRead : Seen → Seen → ℕ → ℕ → ℕ → ℕ → Shown → Shown → Result Reply Failure → Type 0
AnswersRead s later pid handle offset size old new result =
    Answers s later old new (reads s pid handle offset size)
    (λ p. reading pid p.fd p.count p.offset)
    (λ p bytes known r. Says (ShowsBytes bytes) r × (known ≡ s)) result

abbrev pub writes : Seen → ℕ → ℕ → ℕ → ℕ → Result Writing Failure
writes s pid handle offset flags = and_then (file_by s pid handle) (λ file.
    and_then (offset_by flags offset) (λ from.
    Ok (record { inode = file.inode; fd = file.fd; offset = from })))

abbrev pub put_by : ℕ → List ℕ → ℕ → Option ℤ → Course (Result ℕ Fault)
put_by pid bytes fd (Some offset) = writing pid fd bytes offset
put_by pid bytes fd None = appending pid fd bytes

abbrev pub written_by : ℕ → List ℕ → Bool → ℕ → Option ℤ → Course (Result ℕ Fault)
written_by pid bytes dropping fd offset =
    dropping_if pid fd dropping >>= on_ok (λ dropped. put_by pid bytes fd offset)

abbrev pub AnswersWrite : Seen → Seen → ℕ → ℕ → ℕ → ℕ → ℕ → ℕ → List ℕ → Shown → Shown
    → Result Reply Failure → Type 0
AnswersWrite s later pid node handle offset how flags bytes old new result =
    Answers s later old new (writes s pid handle offset flags)
    (λ w. written_by pid bytes (drops how) w.fd w.offset)
    (λ w count known r. Says (ShowsCount count) r
    × (known ≡ with_events node (of_writing w.inode) s)) result

-- ---- ranges of open files

abbrev pub seeks : Seen → ℕ → ℕ → ℕ → Whence → Result Seeking Failure
seeks s pid handle offset whence = and_then (file_by s pid handle) (λ file.
    and_then (looked_from offset) (λ from. and_then (whence_in whence) (λ by.
    Ok (record { fd = file.fd; offset = from; whence = by }))))

abbrev pub AnswersSeek : Seen → Seen → ℕ → ℕ → ℕ → Whence → Shown → Shown → Result Reply Failure
    → Type 0
AnswersSeek s later pid handle offset whence old new result =
    Answers s later old new (seeks s pid handle offset whence)
    (λ p. placing pid p.fd p.offset p.whence)
    (λ p place known r. Says (ShowsPlace place) r × (known ≡ s)) result

abbrev pub allocates : Seen → ℕ → ℕ → ℕ → ℕ → ℕ → Result Allocating Failure
allocates s pid handle offset length mode = and_then (file_by s pid handle) (λ file.
    and_then (space_by mode) (λ space.
    and_then (offset_in offset) (λ from. and_then (offset_in length) (λ count.
    Ok (record {
      inode = file.inode;
      fd = file.fd;
      offset = from;
      length = count;
      space = space;
    })))))

abbrev pub allocating : ℕ → Allocating → Course (Result (Unit {0}) Fault)
allocating pid a = doing pid (call.Fallocate a.fd a.offset a.length a.space)

-- Whatever becomes of the range, the file counts as written (tmpfs).
abbrev pub AnswersFallocate : Seen → Seen → ℕ → ℕ → ℕ → ℕ → ℕ → ℕ → Shown → Shown
    → Result Reply Failure → Type 0
AnswersFallocate s later pid node handle offset length mode old new result =
    Answers s later old new (allocates s pid handle offset length mode) (allocating pid)
    (λ a done known r. Says ShowsNothing r × (known ≡ with_events node (of_writing a.inode) s)) result

-- The file that bytes are copied into. Where another process has it open Linux copies them by reads and
-- writes.
abbrev pub if_same_process : ℕ → OpenFile → Result OpenFile Failure
if_same_process pid file = if file.pid == pid then Ok file else Err (error errno.EXDEV)

abbrev pub target_by : Seen → ℕ → ℕ → Result OpenFile Failure
target_by s pid handle =
    and_then (found_or errno.EBADF (file_at s handle)) (if_same_process pid)

-- Ranges of one file do not overlap.
abbrev pub apart_in : ℕ → ℕ → ℕ → ℕ → ℕ → Result (Unit {0}) Failure
apart_in inode target offset place count =
    if (inode == target) && overlap offset place count then Err (error errno.EINVAL) else Ok tt

abbrev pub copies : Seen → ℕ → ℕ → ℕ → ℕ → ℕ → ℕ → ℕ → Result Copying Failure
copies s pid handle offset to_handle to_offset length flags =
    and_then (flagless flags) (λ none.
    and_then (file_by s pid handle) (λ file.
    and_then (target_by s pid to_handle) (λ target.
    and_then (apart_in file.inode target.inode offset to_offset length) (λ apart.
    and_then (offset_in offset) (λ from.
    and_then (offset_in to_offset) (λ to.
    Ok (record {
      inode = target.inode;
      from = file.fd;
      count = min length MOST_MOVED;
      offset = from;
      to = target.fd;
      place = to;
    })))))))

abbrev pub copying_by : ℕ → Copying → Course (Result ℕ Fault)
copying_by pid c = copying pid c.from c.count c.offset c.to c.place

abbrev pub AnswersCopy : Seen → Seen → ℕ → ℕ → ℕ → ℕ → ℕ → ℕ → ℕ → ℕ → Shown → Shown
    → Result Reply Failure → Type 0
AnswersCopy s later pid node handle offset to_handle to_offset length flags old new result =
    Answers s later old new (copies s pid handle offset to_handle to_offset length flags)
    (copying_by pid)
    (λ c count known r. Says (ShowsCount count) r
    × (known ≡ with_events node (of_copying count c.inode) s)) result

-- ---- directories

-- a directory, by its path, if there is one
abbrev pub directory_of : Seen → ℕ → Directory
directory_of s node = record { inode = inode_of s node; paths = own_paths s node }

abbrev pub listed_by : ℕ → Directory → Course (Result (List (List ℕ)) Fault)
listed_by pid d = listing_at pid d.inode (once d.paths)

abbrev pub planned_directory : Seen → ℕ → Result Directory Failure
planned_directory s node = and_then (stepper_at s node) (λ st. Ok (directory_of s node))

-- a directory was opened, and its lists show these names
abbrev pub with_folder : Seen → ℕ → List (List ℕ) → Seen
with_folder s node names = record s {
  folders = map.insert s.folders s.next_folder
      (record { node = node; names = names; was_read = false });
  next_folder = s.next_folder + 1;
}

abbrev pub AnswersOpenDir : Seen → Seen → ℕ → ℕ → Shown → Shown → Result Reply Failure → Type 0
AnswersOpenDir s later pid node old new result =
    AnswersIfRoom s later old new (planned_directory s node) (listed_by pid)
    (λ d names known r. Says (ShowsHandle s.next_folder) r
    × (known ≡ with_folder s node (shown_names node names))) result

-- an open directory of this node
abbrev pub if_of_node : ℕ → Opened → Result Opened Failure
if_of_node node folder = if folder.node == node then Ok folder else Err (error errno.EBADF)

abbrev pub folder_of : Seen → ℕ → ℕ → Result Opened Failure
folder_of s node handle = and_then (found_or errno.EBADF (folder_at s handle)) (if_of_node node)

-- Its names are taken anew where they were read since and are read from the start again.
abbrev pub is_stale : Opened → ℕ → Bool
is_stale folder offset = folder.was_read && offset == 0

-- the directory whose names are taken anew, where they are
abbrev pub lists : Seen → ℕ → ℕ → ℕ → Result (Option Directory) Failure
lists s node handle offset = and_then (folder_of s node handle) (λ folder.
    Ok (if is_stale folder offset then Some (directory_of s node) else None))

-- the names that are listed: those that were kept, or new ones
abbrev pub kept_names : Option Opened → List (List ℕ)
kept_names (Some folder) = folder.names
kept_names None = []

abbrev pub listing_anew : ℕ → ℕ → List (List ℕ) → Option Directory
    → Course (Result (List (List ℕ)) Fault)
listing_anew pid node kept (Some d) =
    listed_by pid d >>= on_ok (λ taken. Give (Ok (shown_names node taken)))
listing_anew pid node kept None = Give (Ok kept)

-- an open directory has these names, which are read
abbrev pub with_names : Seen → ℕ → ℕ → List (List ℕ) → Seen
with_names s node handle names = record s {
  folders = map.insert s.folders handle (record { node = node; names = names; was_read = true });
}

abbrev pub ListsBy : Seen → Seen → ℕ → ℕ → ℕ → ℕ → ℕ → Result (Option Directory) Failure
    → Shown → Shown → Result Reply Failure → Type 0
ListsBy s later pid node handle offset size plan old new result =
    AnswersIfRoom s later old new plan (listing_anew pid node (kept_names (folder_at s handle)))
    (λ d names known r. Says (Lists offset size names) r × (known ≡ with_names s node handle names))
    result

abbrev pub AnswersReadDir : Seen → Seen → ℕ → ℕ → ℕ → ℕ → ℕ → Shown → Shown → Result Reply Failure
    → Type 0
AnswersReadDir s later pid node handle offset size old new result =
    ListsBy s later pid node handle offset size (lists s node handle offset) old new result

-- ---- all of them

-- no step is made, this is told, and nothing else is known then
abbrev pub Tells : Result Reply Failure → Seen → Seen → Shown → Shown → Result Reply Failure → Type 0
Tells told s later old new result = (result ≡ told) × (new ≡ old) × (later ≡ s)

-- Requests on open files were answered; others are not served.
abbrev pub IsOfFiles : Seen → Seen → ℕ → ℕ → Operation → Shown → Shown → Result Reply Failure
    → Type 0
IsOfFiles s later pid node (asked.Open flags how) old new r =
    AnswersOpen s later pid node flags how old new r
IsOfFiles s later pid node (asked.Read handle offset size flags) old new r =
    AnswersRead s later pid handle offset size old new r
IsOfFiles s later pid node (asked.Write handle offset how flags bytes) old new r =
    AnswersWrite s later pid node handle offset how flags bytes old new r
IsOfFiles s later pid node (asked.Lseek handle offset whence) old new r =
    AnswersSeek s later pid handle offset whence old new r
IsOfFiles s later pid node (asked.Fallocate handle offset length mode) old new r =
    AnswersFallocate s later pid node handle offset length mode old new r
IsOfFiles s later pid node (asked.CopyFileRange handle offset to to_handle to_offset length flags)
    old new r = AnswersCopy s later pid node handle offset to_handle to_offset length flags old new r
IsOfFiles s later pid node _ old new r = Tells (Err (error errno.ENOSYS)) s later old new r

-- or requests that change names
abbrev pub IsOfNames : Seen → Seen → ℕ → Caller → Operation → Shown → Shown → Result Reply Failure
    → Type 0
IsOfNames s later pid who (asked.SymLink name target) old new r =
    AnswersSymLink s later pid who name target old new r
IsOfNames s later pid who (asked.MkNod name mode) old new r =
    AnswersMkNod s later pid who name mode old new r
IsOfNames s later pid who (asked.MkDir name mode) old new r =
    AnswersMkDir s later pid who name mode old new r
IsOfNames s later pid who (asked.Unlink name) old new r =
    AnswersUnlink s later pid who.node name old new r
IsOfNames s later pid who (asked.RmDir name) old new r =
    AnswersRmDir s later pid who.node name old new r
IsOfNames s later pid who (asked.Rename name new_node new_name flags) old new r =
    AnswersRename s later pid who.node name new_node new_name flags old new r
IsOfNames s later pid who (asked.Link of name) old new r =
    AnswersLink s later pid who.node of name old new r
IsOfNames s later pid who (asked.Create name flags mode how) old new r =
    AnswersCreate s later pid who name (creation who.owner flags mode how) old new r
IsOfNames s later pid who operation old new r = IsOfFiles s later pid who.node operation old new r

-- A request about a node, and of an owner, was answered, by the steps of a process.
abbrev pub IsAnswered : Seen → Seen → ℕ → Caller → Operation → Shown → Shown → Result Reply Failure
    → Type 0
IsAnswered s later pid who (asked.Lookup name) old new r =
    AnswersLookUp s later pid who.node name old new r
IsAnswered s later pid who (asked.GetAttr h) old new r =
    AnswersGetAttr s later pid who.node old new r
IsAnswered s later pid who (asked.SetAttr c) old new r =
    AnswersSetAttr s later pid who.node c old new r
IsAnswered s later pid who asked.ReadLink old new r = AnswersReadLink s later pid who.node old new r
IsAnswered s later pid who asked.OpenDir old new r = AnswersOpenDir s later pid who.node old new r
IsAnswered s later pid who (asked.ReadDir handle offset size) old new r =
    AnswersReadDir s later pid who.node handle offset size old new r
IsAnswered s later pid who (asked.Access mask) old new r =
    Tells (Ok reply.Empty) s later old new r
IsAnswered s later pid who operation old new r = IsOfNames s later pid who operation old new r
