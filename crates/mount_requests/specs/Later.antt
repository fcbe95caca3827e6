-- What is known of nodes, open files and times behind what requests do: all that is not told stands.
use Rattle.std.specs.Prelude.{ℕ, ◌+◌, ◌==◌, List, Bool, true, false, if◌then◌else◌}
use Rattle.model.specs.FiniteMap as map
use Rattle.ids.specs.declared.aspect.Why.{Why}
use Rattle.ids.specs.declared.reply.Stat.{Stat}
use Rattle.nodes.specs.Tables.{detached, exchanged, looked_up, made}
use Rattle.nodes.specs.Tables.{moved as renamed}
use Rattle.course.specs.declared.made.Cut.{Cut}
use Rattle.mount_tables.specs.Files.{counted}
use Rattle.mount_tables.specs.Processes.{held}
use Rattle.mount_tables.specs.Views.{aborted}
use Rattle.view_times.specs.Known.{freed}
use Rattle.view_times.specs.Known.{aborted as forgotten}
use Rattle.mount_requests.specs.Found.{inode_of}
use Rattle.mount_requests.specs.Seen.{Seen}
use Rattle.mount_requests.specs.Times.{inode_named, of_cutting, of_exchanging, of_linking, of_making}
use Rattle.mount_requests.specs.Times.{of_removing, of_renaming, with_events}
use Rattle.mount_requests.specs.Told.{named}

-- ---- names

-- a name was looked up, and gave an object
abbrev pub with_look_up : Seen → ℕ → List ℕ → Stat → Seen
with_look_up s node name stat =
    record s { nodes = looked_up s.nodes (named node name) stat.num stat.kind }

-- An object was made: what its number meant before is gone, and its times.
abbrev pub with_birth : Seen → ℕ → Seen
with_birth s inode = record s { nodes = made s.nodes inode; times = freed s.times inode }

-- it was made in the directory of a node
abbrev pub with_new : Seen → ℕ → ℕ → Seen
with_new s node inode =
    with_events node (of_making inode (inode_of s node)) (with_birth s inode)

abbrev pub with_made : Seen → ℕ → List ℕ → Stat → Seen
with_made s node name stat = with_look_up (with_new s node stat.num) node name stat

-- an object has a further name
abbrev pub with_link : Seen → ℕ → List ℕ → ℕ → Stat → Seen
with_link s node name inode stat =
    with_look_up (with_events node (of_linking inode (inode_of s node)) s) node name stat

-- a name was taken away
abbrev pub without_name : Seen → ℕ → List ℕ → Seen
without_name s node name =
    record (with_events node (of_removing (inode_named s node name) (inode_of s node)) s) {
      nodes = detached s.nodes (named node name);
    }

-- or moved
abbrev pub with_move : Seen → ℕ → List ℕ → ℕ → List ℕ → Seen
with_move s node name new_node new_name =
    record (with_events node
    (of_renaming (inode_named s node name) (inode_named s new_node new_name) (inode_of s node)
    (inode_of s new_node)) s) {
      nodes = renamed s.nodes (named node name) (named new_node new_name);
    }

-- or exchanged with another one
abbrev pub with_exchange : Seen → ℕ → List ℕ → ℕ → List ℕ → Seen
with_exchange s node name new_node new_name =
    record (with_events node
    (of_exchanging (inode_named s node name) (inode_named s new_node new_name)
    (inode_of s node) (inode_of s new_node)) s) {
      nodes = exchanged s.nodes (named node name) (named new_node new_name);
    }

-- ---- open files

-- a file was opened by a descriptor of a process, which has one more in the plain tree
abbrev pub opened_first : Seen → ℕ → ℕ → ℕ → ℕ → Seen
opened_first s view inode pid fd = record s {
  files = map.insert s.files s.next_file
      (record { view = view; inode = inode; pid = pid; fd = fd; opens = 1 });
  handles = map.insert s.handles (record { view = view; inode = inode }) s.next_file;
  next_file = s.next_file + 1;
  roles = if view == 0 then held pid (map.get s.roles pid) s.roles else s.roles;
}

-- or once more under the number that it has
abbrev pub opened_again : Seen → ℕ → Seen
opened_again s handle = record s { files = counted handle (map.get s.files handle) s.files }

-- a file that is opened by its name was made in the directory of a node, or it may be cut
abbrev pub with_creation : Bool → Seen → ℕ → Cut → ℕ → Seen
with_creation true s node how inode = with_new s node inode
with_creation false s node how inode = with_events node (of_cutting how inode) s

-- ---- transactions

-- The cause of an abort is known of the view from then on, and what it had noted of times is gone.
abbrev pub with_aborted : Seen → ℕ → Why → Seen
with_aborted s view why = record s {
  views = aborted why view (map.get s.views view) s.views;
  times = forgotten s.times view;
}
