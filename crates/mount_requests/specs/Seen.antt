-- What requests go by, beside the kernel: nodes, open files and directories, transactions, processes,
-- and times.
use Rattle.std.specs.Prelude.{◌≡◌, ℕ}
use Rattle.std.specs.Cmp.Lexicographic.{slice_cmp}
use Rattle.std.specs.Ordering.{nat_cmp}
use Rattle.model.specs.FiniteMap as map
use Rattle.nodes.specs.Tables.{Table}
use Rattle.mount_tables.specs.FileKeys.{key_cmp}
use Rattle.mount_tables.specs.Folders.{Opened}
use Rattle.mount_tables.specs.declared.open_files.OpenFile.{OpenFile}
use Rattle.mount_tables.specs.declared.processes.Role.{Role}
use Rattle.mount_tables.specs.declared.views.View.{View}
use Rattle.fuse.specs.declared.request.Time.{Time}
use Rattle.view_times.specs.Kept.{known}
use Rattle.view_times.specs.Known.{Known, nothing_known}
use Rattle.view_times.specs.Times.{first_time}
use Rattle.mount_requests.specs.declared.tables.Tables.{Tables}

-- The node of each number; the open file of each number, and the number under which an object is open
-- in a view; the open directory of each number; the view of each number, and the number of each name;
-- what each process is for; the times of each object, as each view sees them; and the time at which the
-- request is served. A number that is next was given to none yet.
pub record Seen : Type 0 where
  pub nodes : Table
  pub files : map.FinMap nat_cmp OpenFile
  pub handles : map.FinMap key_cmp ℕ
  pub next_file : ℕ
  pub folders : map.FinMap nat_cmp Opened
  pub next_folder : ℕ
  pub views : map.FinMap nat_cmp View
  pub names : map.FinMap (slice_cmp nat_cmp) ℕ
  pub next_view : ℕ
  pub roles : map.FinMap nat_cmp Role
  pub times : Known
  pub time : Time

-- what is seen of the tables. Room is no part of it.
abbrev pub seen : Tables → Seen
seen t = record {
  nodes = t.nodes.table;
  files = t.files.each;
  handles = t.files.handles;
  next_file = t.files.next;
  folders = t.folders.each;
  next_folder = t.folders.next;
  views = t.views.each;
  names = t.views.numbers;
  next_view = t.views.next;
  roles = t.processes.roles;
  times = known t.times;
  time = t.time;
}

-- Nothing is known yet: there is no node but roots, no file or directory is open, no transaction goes
-- on, and nothing is known of times. Numbers are given from the first ones on.
pub record IsUnknown (s : Seen) : Type 0 where
  pub nodes : s.nodes.nodes ≡ map.empty
  pub numbers : s.nodes.numbers ≡ map.empty
  pub births : s.nodes.births ≡ map.empty
  pub next_node : s.nodes.next ≡ 16
  pub files : s.files ≡ map.empty
  pub handles : s.handles ≡ map.empty
  pub next_file : s.next_file ≡ 1
  pub folders : s.folders ≡ map.empty
  pub next_folder : s.next_folder ≡ 1
  pub views : s.views ≡ map.empty
  pub names : s.names ≡ map.empty
  pub next_view : s.next_view ≡ 1
  pub roles : s.roles ≡ map.empty
  pub times : s.times ≡ nothing_known
  pub time : s.time ≡ first_time
