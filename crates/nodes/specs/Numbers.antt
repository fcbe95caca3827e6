-- That no number is given twice, and that a node of an object that is gone stands for no other.
use Rattle.std.specs.Prelude.{◌≡◌, ◌≢◌, ℕ, ◌-◌, ◌^◌, ◌<◌, ◌≤◌, List, [], ◌∷◌, false}
use Rattle.std.specs.Prelude.{Option, Some, None}
use Rattle.ids.specs.declared.reply.Kind.{Kind}
use Rattle.model.specs.FiniteMap as map
use Rattle.nodes.specs.Tables.{Table, births_of, detached, exchanged, forgotten, is_current, known}
use Rattle.nodes.specs.Tables.{looked_up, made, moved, number_for}
use Rattle.nodes.specs.declared.node.Node.{Node}
use Rattle.nodes.specs.declared.directory_entry.DirectoryEntry.{DirectoryEntry}

-- A number that was given before this one: those of nodes begin at 16, and are drawn in their order.
pub record IsGiven (next number : ℕ) : Type 0 where
  pub first : 16 ≤ number
  pub before : number < next

-- All numbers of nodes, and all that entries lead to, were given before the next one. What is made is
-- counted in 64 bits, and a node's object was made before.
pub record IsOrderly (t : Table) : Type 0 where
  pub next : 16 ≤ t.next
  pub nodes : (number : ℕ) (node : Node) → map.get t.nodes number ≡ Some node
      → IsGiven t.next number
  pub numbers : (entry : DirectoryEntry) (number : ℕ) → map.get t.numbers entry ≡ Some number
      → IsGiven t.next number
  pub counts : (inode : ℕ) → births_of t inode < 2 ^ 64
  pub births : (number : ℕ) (node : Node) → map.get t.nodes number ≡ Some node
      → node.birth ≤ births_of t node.inode

-- A number that none had before: the next one, where no node has that and no entry leads to it. What
-- is given later is higher.
pub record IsFresh (old new : Table) (number : ℕ) : Type 0 where
  pub is_next : number ≡ old.next
  pub later : number < new.next
  pub unused : map.get old.nodes number ≡ None
  pub unlinked : (entry : DirectoryEntry) → map.get old.numbers entry ≢ Some number

-- a look-up gives the number that was known, and else one that none had before
abbrev pub IsGivenFor : Option ℕ → Table → Table → ℕ → Type 0
IsGivenFor (Some found) old new number = (number ≡ found) × (new.next ≡ old.next)
IsGivenFor None old new number = IsFresh old new number

-- ---- any calls

-- what one call makes of a table: one of these, or nothing where it is refused or makes room
pub data Changes (old new : Table) : Type 0 where
  LooksUp : (entry : DirectoryEntry) (inode : ℕ) (kind : Kind)
      → new ≡ looked_up old entry inode kind → Changes old new
  Forgets : (number count : ℕ) → new ≡ forgotten old number count → Changes old new
  Detaches : (entry : DirectoryEntry) → new ≡ detached old entry → Changes old new
  Moves : (from to : DirectoryEntry) → new ≡ moved old from to → Changes old new
  Exchanges : (first second : DirectoryEntry) → new ≡ exchanged old first second → Changes old new
  Makes : (inode : ℕ) → new ≡ made old inode → Changes old new
  Stays : new ≡ old → Changes old new

-- any number of calls, with the table after each
abbrev pub Becomes : Table → List Table → Table → Type 0
Becomes old [] new = new ≡ old
Becomes old (t ∷ ts) new = Changes old t × Becomes t ts new

-- ---- laws

-- A mount begins with an orderly table, and its table stays orderly. After any calls a new node has a
-- number that no node had and no entry led to before them; of two new nodes the later one has the
-- higher number.
pub record NumbersAreGivenOnce : Type 0 where
  pub begins : (t : Table) → t.nodes ≡ map.empty → t.numbers ≡ map.empty → t.births ≡ map.empty
      → t.next ≡ 16 → IsOrderly t
  pub stays : (t u : Table) (ts : List Table) → IsOrderly t → Becomes t ts u → IsOrderly u
  pub unused : (t u : Table) (ts : List Table) (entry : DirectoryEntry) (inode : ℕ)
      → IsOrderly t → Becomes t ts u → known u entry inode ≡ None
      → map.get t.nodes (number_for u entry inode) ≡ None
  pub unlinked : (t u : Table) (ts : List Table) (entry : DirectoryEntry) (inode : ℕ)
      → IsOrderly t → Becomes t ts u → known u entry inode ≡ None
      → (former : DirectoryEntry) → map.get t.numbers former ≢ Some (number_for u entry inode)
  pub rises : (t u : Table) (ts : List Table) (first second : DirectoryEntry) (inode other : ℕ)
      (kind : Kind) → known t first inode ≡ None → Becomes (looked_up t first inode kind) ts u
      → known u second other ≡ None → number_for t first inode < number_for u second other

-- The number of a node whose object is gone, since another was made with its number, is given by no
-- look-up any more, whatever calls come; nor is the node current as long as it is there. So it is with
-- all nodes of an object's number after one more was made with it, and the first look-up of that one
-- gives a new node: as long as 64 bits count what is made.
pub record GoneObjectsStayGone : Type 0 where
  pub given : (t u : Table) (ts : List Table) (number : ℕ) (node : Node)
      → IsOrderly t → map.get t.nodes number ≡ Some node → node.birth < births_of t node.inode
      → Becomes t ts u
      → (entry : DirectoryEntry) (inode : ℕ) → number_for u entry inode ≢ number
  pub current : (t u : Table) (ts : List Table) (number : ℕ) (node now : Node)
      → IsOrderly t → map.get t.nodes number ≡ Some node → node.birth < births_of t node.inode
      → Becomes t ts u → map.get u.nodes number ≡ Some now → is_current u number ≡ false
  pub after : (t : Table) (number inode : ℕ) (node : Node)
      → IsOrderly t → map.get t.nodes number ≡ Some node → node.inode ≡ inode
      → births_of t inode < 2 ^ 64 - 1 → node.birth < births_of (made t inode) inode
  pub first : (t : Table) (entry : DirectoryEntry) (inode : ℕ) → IsOrderly t
      → births_of t inode < 2 ^ 64 - 1 → known (made t inode) entry inode ≡ None
