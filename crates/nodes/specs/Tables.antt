-- What the numbers of nodes stand for, and how that changes.
use Rattle.std.specs.Prelude.{◌≡◌, ℕ, zero, suc, ◌+◌, ◌-◌, ◌^◌, ◌==◌, ◌&&◌, nat_le, min, Bool, true, false}
use Rattle.std.specs.Prelude.{refl}
use Rattle.std.specs.Prelude.{Option, Some, None, if◌then◌else◌}
use Rattle.std.specs.Coded.{Coded, code_by, coded×, coded_ℕ}
use Rattle.std.specs.Ordering.{nat_cmp}
use Rattle.ids.specs.declared.reply.Kind.{Kind}
use Rattle.ids.specs.declared.reply.Kind.TheVariants.{File, Dir, Pipe, Link, Fifo, Socket}
use Rattle.model.specs.FiniteMap as map
use Rattle.nodes.specs.DirectoryEntries.{entry_cmp, coded_entry}
use Rattle.nodes.specs.declared.node.Node.{Node}
use Rattle.nodes.specs.declared.directory_entry.DirectoryEntry.{DirectoryEntry}

-- The node of each number, the number to which each entry leads, how often an object was made with
-- each object's number, and the number that is next. No rule ties the first two maps together: what an
-- entry leads to is what the second one says.
pub record Table : Type 0 where
  pub nodes : map.FinMap nat_cmp Node
  pub numbers : map.FinMap entry_cmp ℕ
  pub births : map.FinMap nat_cmp ℕ
  pub next : ℕ

-- a kind as a number, and back
abbrev kind_code : Kind → ℕ
kind_code File = 0
kind_code Dir = 1
kind_code Pipe = 2
kind_code Link = 3
kind_code Fifo = 4
kind_code Socket = 5

abbrev kind_from : ℕ → Kind
kind_from zero = File
kind_from (suc zero) = Dir
kind_from (suc (suc zero)) = Pipe
kind_from (suc (suc (suc zero))) = Link
kind_from (suc (suc (suc (suc zero)))) = Fifo
kind_from (suc (suc (suc (suc (suc n))))) = Socket

pub same_kind : (kind : Kind) → kind_from (kind_code kind) ≡ kind
same_kind File = refl
same_kind Dir = refl
same_kind Pipe = refl
same_kind Link = refl
same_kind Fifo = refl
same_kind Socket = refl

abbrev pub coded_kind : Coded Kind
coded_kind = code_by ℕ coded_ℕ kind_code kind_from same_kind

abbrev pub coded_node : Coded Node
coded_node = code_by (DirectoryEntry × (ℕ × (ℕ × (ℕ × (Kind × ℕ)))))
    (coded× coded_entry (coded× coded_ℕ (coded× coded_ℕ (coded× coded_ℕ (coded× coded_kind coded_ℕ)))))
    (λ n. (n.entry, (n.root, (n.inode, (n.birth, (n.kind, n.lookups))))))
    (λ q. record {
      entry = q.0;
      root = q.1.0;
      inode = q.1.1.0;
      birth = q.1.1.1.0;
      kind = q.1.1.1.1.0;
      lookups = q.1.1.1.1.1;
    }) (λ _. refl)

abbrev pub table_code : Coded Table
table_code = code_by
    (map.FinMap nat_cmp Node × (map.FinMap entry_cmp ℕ × (map.FinMap nat_cmp ℕ × ℕ)))
    (coded× (map.code coded_ℕ coded_node)
    (coded× (map.code coded_entry coded_ℕ) (coded× (map.code coded_ℕ coded_ℕ) coded_ℕ)))
    (λ t. (t.nodes, (t.numbers, (t.births, t.next))))
    (λ q. record { nodes = q.0; numbers = q.1.0; births = q.1.1.0; next = q.1.1.1 }) (λ _. refl)

-- one more, as far as 64 bits count
abbrev pub more : ℕ → ℕ
more count = min (count + 1) (2 ^ 64 - 1)

-- ---- objects that are made

-- how often an object was made with a number: never, where nothing is noted
abbrev pub births_by : Option ℕ → ℕ
births_by (Some births) = births
births_by None = 0

abbrev pub births_of : Table → ℕ → ℕ
births_of t inode = births_by (map.get t.births inode)

-- one more was made with it
abbrev pub with_birth : ℕ → map.FinMap nat_cmp ℕ → map.FinMap nat_cmp ℕ
with_birth inode births = map.insert births inode (more (births_by (map.get births inode)))

abbrev pub made : Table → ℕ → Table
made t inode = record t { births = with_birth inode t.births }

-- A node stands for what its object's number means as long as none was made with that number since it
-- was looked up. A number that is no node is a root's, and that stays.
abbrev pub is_current_by : Table → Option Node → Bool
is_current_by t (Some node) = node.birth == births_of t node.inode
is_current_by t None = true

abbrev pub is_current : Table → ℕ → Bool
is_current t number = is_current_by t (map.get t.nodes number)

-- ---- one node

-- the nodes where this one is looked up once more
abbrev pub counted : ℕ → Option Node → map.FinMap nat_cmp Node → map.FinMap nat_cmp Node
counted number None nodes = nodes
counted number (Some node) nodes =
    map.insert nodes number (record node { lookups = more node.lookups })

-- or so many of its look-ups are forgotten
abbrev pub lessened : ℕ → ℕ → Option Node → map.FinMap nat_cmp Node → map.FinMap nat_cmp Node
lessened number count None nodes = nodes
lessened number count (Some node) nodes =
    map.insert nodes number (record node { lookups = node.lookups - count })

-- or it has another entry
abbrev pub with_entry : ℕ → DirectoryEntry → Option Node → map.FinMap nat_cmp Node → map.FinMap nat_cmp Node
with_entry number entry None nodes = nodes
with_entry number entry (Some node) nodes = map.insert nodes number (record node { entry = entry })

-- ---- attached

-- whether a number was found, and it is this one
abbrev pub is_this : ℕ → Option ℕ → Bool
is_this number (Some found) = found == number
is_this number None = false

-- a node is attached where its entry leads to it
abbrev pub is_attached : Table → ℕ → Node → Bool
is_attached t number node = is_this number (map.get t.numbers node.entry)

-- the root below which an entry stands: that of its directory, which is a root where it is no node
abbrev pub root_by : ℕ → Option Node → ℕ
root_by number (Some node) = node.root
root_by number None = number

abbrev pub root_of : Table → ℕ → ℕ
root_of t number = root_by number (map.get t.nodes number)

-- ---- looking up

-- the number, where its node stands for this object: the one of this number that was made last
abbrev pub if_of : ℕ → ℕ → ℕ → Option Node → Option ℕ
if_of inode births number (Some node) =
    if node.inode == inode && node.birth == births then Some number else None
if_of inode births number None = None

abbrev pub if_known : Table → ℕ → Option ℕ → Option ℕ
if_known t inode (Some number) = if_of inode (births_of t inode) number (map.get t.nodes number)
if_known t inode None = None

-- the number to which an entry leads, where that stands for this object
abbrev pub known : Table → DirectoryEntry → ℕ → Option ℕ
known t entry inode = if_known t inode (map.get t.numbers entry)

-- the number that a look-up gives: a known one, or the next
abbrev pub number_by : Table → Option ℕ → ℕ
number_by t (Some number) = number
number_by t None = t.next

abbrev pub number_for : Table → DirectoryEntry → ℕ → ℕ
number_for t entry inode = number_by t (known t entry inode)

-- a new node, to which its entry leads from now on
abbrev pub added : Table → DirectoryEntry → ℕ → Kind → Table
added t entry inode kind = record t {
  nodes = map.insert t.nodes t.next (record {
    entry = entry;
    root = root_of t entry.parent;
    inode = inode;
    birth = births_of t inode;
    kind = kind;
    lookups = 1;
  });
  numbers = map.insert t.numbers entry t.next;
  next = t.next + 1;
}

abbrev pub looked_up_as : Table → DirectoryEntry → ℕ → Kind → Option ℕ → Table
looked_up_as t entry inode kind (Some number) =
    record t { nodes = counted number (map.get t.nodes number) t.nodes }
looked_up_as t entry inode kind None = added t entry inode kind

-- after a look-up of an entry that gave this object, which is of this kind
abbrev pub looked_up : Table → DirectoryEntry → ℕ → Kind → Table
looked_up t entry inode kind = looked_up_as t entry inode kind (known t entry inode)

-- ---- forgetting

-- the index without an entry, where that leads to this number
abbrev pub without : ℕ → DirectoryEntry → map.FinMap entry_cmp ℕ → map.FinMap entry_cmp ℕ
without number entry numbers =
    if is_this number (map.get numbers entry) then map.remove numbers entry else numbers

abbrev pub unlinked : ℕ → Option Node → map.FinMap entry_cmp ℕ → map.FinMap entry_cmp ℕ
unlinked number (Some node) numbers = without number node.entry numbers
unlinked number None numbers = numbers

abbrev pub gone : Table → ℕ → Node → Table
gone t number node = record t {
  nodes = map.remove t.nodes number;
  numbers = without number node.entry t.numbers;
}

-- A node goes with its last look-up, and its entry leads nowhere then, if it led to it.
abbrev pub forgotten_by : Table → ℕ → ℕ → Option Node → Table
forgotten_by t number count None = t
forgotten_by t number count (Some node) =
    if nat_le node.lookups count then gone t number node
    else record t { nodes = lessened number count (Some node) t.nodes }

abbrev pub forgotten : Table → ℕ → ℕ → Table
forgotten t number count = forgotten_by t number count (map.get t.nodes number)

-- ---- names that go and move

-- a name was taken away
abbrev pub detached : Table → DirectoryEntry → Table
detached t entry = record t { numbers = map.remove t.numbers entry }

-- a name was moved, and what the other name led to before is attached no more
abbrev pub moved_by : Table → DirectoryEntry → DirectoryEntry → Option ℕ → Table
moved_by t from to (Some number) = record t {
  nodes = with_entry number to (map.get t.nodes number) t.nodes;
  numbers = map.insert (map.remove t.numbers from) to number;
}
moved_by t from to None = detached t to

abbrev pub moved : Table → DirectoryEntry → DirectoryEntry → Table
moved t from to = moved_by t from to (map.get t.numbers from)

-- the entries where one that leads to a number leads to this one
abbrev pub leading : DirectoryEntry → ℕ → Option ℕ → map.FinMap entry_cmp ℕ → map.FinMap entry_cmp ℕ
leading entry number None numbers = numbers
leading entry number (Some former) numbers = map.insert numbers entry number

-- Two names were exchanged: what each led to is at the other.
abbrev pub placed_both : DirectoryEntry → DirectoryEntry → ℕ → ℕ → map.FinMap nat_cmp Node
    → map.FinMap nat_cmp Node
placed_both first second one other nodes =
    with_entry other first (map.get (with_entry one second (map.get nodes one) nodes) other)
    (with_entry one second (map.get nodes one) nodes)

abbrev pub led_both : DirectoryEntry → DirectoryEntry → ℕ → ℕ → map.FinMap entry_cmp ℕ
    → map.FinMap entry_cmp ℕ
led_both first second one other numbers =
    leading first other (map.get (leading second one (map.get numbers second) numbers) first)
    (leading second one (map.get numbers second) numbers)

abbrev pub exchanged_by : Table → DirectoryEntry → DirectoryEntry → Option ℕ → Option ℕ → Table
exchanged_by t first second (Some one) (Some other) = record t {
  nodes = placed_both first second one other t.nodes;
  numbers = led_both first second one other t.numbers;
}
exchanged_by t first second (Some one) None = moved t first second
exchanged_by t first second None (Some other) = moved t second first
exchanged_by t first second None None = t

abbrev pub exchanged : Table → DirectoryEntry → DirectoryEntry → Table
exchanged t first second =
    exchanged_by t first second (map.get t.numbers first) (map.get t.numbers second)
