-- Where a node is, and how its object is found, by what is known of nodes, views and open files.
use Rattle.std.specs.Prelude.{ℕ, ◌==◌, ◌++◌, ◌∷◌, [], List}
use Rattle.std.specs.Prelude.{Option, Some, None, option_map, option_and_then, filter, not}
use Rattle.std.specs.Prelude.{Result, Ok, Err, if◌then◌else◌}
use Rattle.model.specs.FiniteMap as map
use Rattle.ids.specs.declared.reply.Kind.{Kind}
use Rattle.ids.specs.declared.reply.Kind.TheVariants.{Dir}
use Rattle.fuse.specs.declared.errno.Errno.TheVariants as errno
use Rattle.nodes.specs.Paths.{Way, path_of}
use Rattle.nodes.specs.Tables.{is_current, root_of}
use Rattle.nodes.specs.declared.node.Node.{Node}
use Rattle.course.specs.declared.making.Again.{Again}
use Rattle.course.specs.declared.names.Twice.{Twice}
use Rattle.course.specs.declared.objects.Object.{Object}
use Rattle.course.specs.declared.place.Place.{Place}
use Rattle.course.specs.declared.updates.Paths.{Paths}
use Rattle.mount_tables.specs.Folders.{Opened}
use Rattle.mount_tables.specs.Numbers.{is_reserved, view_of}
use Rattle.mount_tables.specs.declared.open_files.OpenFile.{OpenFile}
use Rattle.mount_tables.specs.declared.views.State.{State}
use Rattle.mount_tables.specs.declared.views.State.TheVariants.{Live, Aborted, Committed, GivenUp}
use Rattle.mount_tables.specs.declared.views.View.{View}
use Rattle.mount_requests.specs.Failures.{and_then, error, found_or}
use Rattle.mount_requests.specs.Seen.{Seen}
use Rattle.mount_requests.specs.declared.failure.Failure.{Failure}
use Rattle.mount_requests.specs.declared.planning.Located.{Located}
use Rattle.mount_requests.specs.declared.planning.LocatedName.{LocatedName}
use Rattle.mount_requests.specs.declared.planning.NewName.{NewName}
use Rattle.mount_requests.specs.declared.tables.Stepper.{Stepper}

-- ---- views

-- What the process of a view may do: nothing after an abort, and nothing where the transaction is
-- over.
abbrev pub stepper_by : ℕ → ℕ → State → Result Stepper Failure
stepper_by view pid Live = Ok (record { view = view; pid = pid })
stepper_by view pid (Aborted why) = Err (error errno.ECANCELED)
stepper_by view pid Committed = Err (error errno.ENOENT)
stepper_by view pid GivenUp = Err (error errno.ENOENT)

abbrev pub stepper_of : ℕ → Option View → Result Stepper Failure
stepper_of view (Some v) = stepper_by view v.pid v.state
stepper_of view None = Err (error errno.ENOENT)

-- The process of a view, or the first one for the plain tree.
abbrev pub stepper_in : Seen → ℕ → Result Stepper Failure
stepper_in s view =
    if view == 0 then Ok (record { view = 0; pid = 1 }) else stepper_of view (map.get s.views view)

-- the view in which a node is, and the process that steps there
abbrev pub stepper_at : Seen → ℕ → Result Stepper Failure
stepper_at s node =
    and_then (found_or errno.ESTALE (view_of (root_of s.nodes node))) (stepper_in s)

-- ---- nodes

-- The path of a node from its root. A node that is not attached has none, nor has one below a
-- directory that was forgotten, nor one whose object is gone and has given its number to another.
abbrev pub if_below : ℕ → Way → Option (List ℕ)
if_below root way = if way.0 == root then Some way.1 else None

abbrev pub path_to : Seen → ℕ → Option (List ℕ)
path_to s node =
    if is_current s.nodes node
    then option_and_then (if_below (root_of s.nodes node)) (path_of s.nodes node) else None

abbrev pub at : ℕ → List ℕ → Located
at view path = record { view = view; path = path }

-- where a node is
abbrev pub located : Seen → ℕ → Result Located Failure
located s node = and_then (stepper_at s node) (λ st.
    and_then (found_or errno.ESTALE (path_to s node)) (λ path. Ok (at st.view path)))

-- the path of a root is a slash
abbrev pub own_path : List ℕ → List ℕ
own_path [] = 47 ∷ []
own_path (byte ∷ bytes) = byte ∷ bytes

abbrev pub located_own : Seen → ℕ → Result Located Failure
located_own s node = and_then (located s node) (λ p. Ok (at p.view (own_path p.path)))

-- the object of a node, and what it is; that of a root is the first of all
abbrev pub inode_by : Option Node → ℕ
inode_by (Some node) = node.inode
inode_by None = 0

abbrev pub inode_of : Seen → ℕ → ℕ
inode_of s node = inode_by (map.get s.nodes.nodes node)

abbrev pub kind_by : Option Node → Kind
kind_by (Some node) = node.kind
kind_by None = Dir

abbrev pub kind_of : Seen → ℕ → Kind
kind_of s node = kind_by (map.get s.nodes.nodes node)

-- ---- names

abbrev pub name_at : ℕ → List ℕ → Option Place → LocatedName
name_at view path place = record { view = view; path = path; place = place }

-- The directory of a name has to be this object, at this path. That of a root is empty, and a root is
-- never moved.
abbrev pub place_of : ℕ → List ℕ → Option Place
place_of inode [] = None
place_of inode (byte ∷ bytes) = Some (record { path = byte ∷ bytes; inode = inode })

-- where a name of a directory is
abbrev pub located_child : Seen → ℕ → List ℕ → Result LocatedName Failure
located_child s node name = and_then (located s node) (λ p.
    Ok (name_at p.view (p.path ++ 47 ∷ name) (place_of (inode_of s node) p.path)))

-- where a name is to be made, moved or taken away: that of the directory of transactions is not for
-- others
abbrev pub located_new : Seen → ℕ → List ℕ → Result LocatedName Failure
located_new s node name =
    if is_reserved node name then Err (error errno.EPERM) else located_child s node name

-- where something is made, with its path once for each further use, and its directory: a root too, which
-- is the first object of all
abbrev pub again : List ℕ → Again
again path = record { owned = path; permitted = path; told = path }

abbrev pub home_in : Option Place → Place
home_in (Some place) = place
home_in None = record { path = 47 ∷ []; inode = 0 }

abbrev pub new_name : LocatedName → NewName
new_name p =
    record { view = p.view; path = p.path; again = again p.path; parent = home_in p.place }

abbrev pub located_made : Seen → ℕ → List ℕ → Result NewName Failure
located_made s node name = and_then (located_new s node name) (λ p. Ok (new_name p))

-- the path of a node as the kernel takes it, where it has one, once for each use
abbrev pub each_use : List ℕ → Paths
each_use path = record { looked = path; sized = path; owned = path; permitted = path }

abbrev pub paths_to : Seen → ℕ → Option Paths
paths_to s node = option_map each_use (option_map own_path (path_to s node))

-- or twice
abbrev pub twice : List ℕ → Twice
twice path = record { first = path; second = path }

abbrev pub own_paths : Seen → ℕ → Option Twice
own_paths s node = option_map twice (option_map own_path (path_to s node))

-- the first use of these
abbrev pub once : Option Twice → Option (List ℕ)
once paths = option_map (λ (p : Twice). p.first) paths

-- ---- open files

-- the open file of a number
abbrev pub file_at : Seen → ℕ → Option OpenFile
file_at s handle = map.get s.files handle

-- the number under which an object is open in a view
abbrev pub handle_of : Seen → ℕ → ℕ → Option ℕ
handle_of s view inode = map.get s.handles (record { view = view; inode = inode })

-- and under which that of a node is, which must not be gone
abbrev pub handle_at : Seen → ℕ → ℕ → Option ℕ
handle_at s view node =
    if is_current s.nodes node then handle_of s view (inode_of s node) else None

-- the open file of a number, where this process has it open
abbrev pub if_by : ℕ → OpenFile → Result OpenFile Failure
if_by pid file = if file.pid == pid then Ok file else Err (error errno.EBADF)

abbrev pub file_by : Seen → ℕ → ℕ → Result OpenFile Failure
file_by s pid handle = and_then (found_or errno.EBADF (file_at s handle)) (if_by pid)

-- the descriptor of a node's object in a view, where this process has it open
abbrev pub fd_if_by : ℕ → OpenFile → Option ℕ
fd_if_by pid file = if file.pid == pid then Some file.fd else None

abbrev pub fd_of : Seen → ℕ → ℕ → ℕ → Option ℕ
fd_of s pid view node =
    option_and_then (fd_if_by pid) (option_and_then (file_at s) (handle_at s view node))

-- the object of a node, and how it is found
abbrev pub object_of : Seen → ℕ → ℕ → Result Object Failure
object_of s pid node = and_then (stepper_at s node) (λ st. Ok (record {
  inode = inode_of s node;
  kind = kind_of s node;
  path = option_map own_path (path_to s node);
  fd = fd_of s pid st.view node;
}))

-- ---- open directories

abbrev pub folder_at : Seen → ℕ → Option Opened
folder_at s handle = map.get s.folders handle

-- the names that lists of a directory show
abbrev pub shown_names : ℕ → List (List ℕ) → List (List ℕ)
shown_names node names = filter (λ name. not (is_reserved node name)) names
