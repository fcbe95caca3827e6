-- Each change of a table keeps it orderly.
use Rattle.std.proofs.Common.{◌≡◌, ℕ, ◌+◌, ◌-◌, ◌^◌, ◌<◌, ◌≤◌, Bool, true, false, min, Option, Some, None, inl, inr, refl, sym, subst, ap, ◌∙◌, arith}
use Rattle.std.specs.Prelude.{Result, Ok, Err, OnErr, OnOk, nat_le, if◌then◌else◌}
use Rattle.std.specs.Cmp.{nat_cmp_total}
use Rattle.std.specs.Ordering.{nat_cmp}
use Rattle.ids.specs.declared.reply.Kind.{Kind}
use Rattle.std.proofs.lemmas.Bool.{cases_eq}
use Rattle.model.specs.FiniteMap as map
use Rattle.model.proofs.Laws.{get_other, get_same}
use Rattle.nodes.specs.DirectoryEntries.{entry_cmp, entry_cmp_total, entry_exact}
use Rattle.nodes.specs.Numbers.{IsGiven, IsOrderly}
use Rattle.nodes.specs.Parts.{table_of}
use Rattle.nodes.specs.Tables.{Table, births_by, births_of, counted, detached, forgotten, forgotten_by, gone, exchanged, exchanged_by, is_this, leading, led_both, lessened, looked_up_as, made, more, moved, moved_by, placed_both, unlinked, with_birth, with_entry, without}
use Rattle.nodes.specs.declared.node.Node.{Node}
use Rattle.nodes.specs.declared.directory_entry.DirectoryEntry.{DirectoryEntry}
use Rattle.nodes.proofs.Found.{found_before, no_some, put_or_found}

abbrev Nodes : Type 0
Nodes = map.FinMap nat_cmp Node

abbrev Numbers : Type 0
Numbers = map.FinMap entry_cmp ℕ

abbrev Births : Type 0
Births = map.FinMap nat_cmp ℕ

-- a node of this number was there, for the same object
pub record WasThere (old : Nodes) (number : ℕ) (node : Node) : Type 0 where
  pub former : Node
  pub was : map.get old number ≡ Some former
  pub inode : node.inode ≡ former.inode
  pub birth : node.birth ≡ former.birth

-- no node came, and those that stayed stand for the same objects
abbrev pub NoneCame : Nodes → Nodes → Type 0
NoneCame old new = (number : ℕ) (node : Node) → map.get new number ≡ Some node → WasThere old number node

pub none_came : (old : Nodes) → NoneCame old old
none_came old number node is = record { former = node; was = is; inode = refl; birth = refl }

pub one_went : (old : Nodes) (gone : ℕ) → NoneCame old (map.remove old gone)
one_went old gone number node is = none_came old number node (found_before nat_cmp_total old gone number node is)

one_written : (old : Nodes) (at : ℕ) (former now : Node) → map.get old at ≡ Some former → now.inode ≡ former.inode → now.birth ≡ former.birth → NoneCame old (map.insert old at now)
one_written old at former now there inode birth number node is = elim (put_or_found nat_cmp_total map.nat_cmp-IsAntisymmetric old at now number node is) [
  | inl e ↦ record { former = former; was = ap (map.get old) e.0 ∙ there; inode = ap (λ (n : Node). n.inode) (sym e.1) ∙ inode; birth = ap (λ (n : Node). n.birth) (sym e.1) ∙ birth }
  | inr before ↦ none_came old number node before
]

pub counted_none : (old : Nodes) (at : ℕ) (found : Option Node) → map.get old at ≡ found → NoneCame old (counted at found old)
counted_none old at None there = none_came old
counted_none old at (Some node) there = one_written old at node (record node { lookups = more node.lookups }) there refl refl

pub lessened_none : (old : Nodes) (at count : ℕ) (found : Option Node) → map.get old at ≡ found → NoneCame old (lessened at count found old)
lessened_none old at count None there = none_came old
lessened_none old at count (Some node) there = one_written old at node _ there refl refl

pub moved_none : (old : Nodes) (at : ℕ) (entry : DirectoryEntry) (found : Option Node) → map.get old at ≡ found → NoneCame old (with_entry at entry found old)
moved_none old at entry None there = none_came old
moved_none old at entry (Some node) there = one_written old at node (record node { entry = entry }) there refl refl

-- ---- no node comes

abbrev pub AreGiven : ℕ → Numbers → Type 0
AreGiven next numbers = (entry : DirectoryEntry) (number : ℕ) → map.get numbers entry ≡ Some number → IsGiven next number

pub kept : (t : Table) (nodes : Nodes) (numbers : Numbers) → IsOrderly t → NoneCame t.nodes nodes → AreGiven t.next numbers → IsOrderly (table_of nodes numbers t.births t.next)
kept t nodes numbers o came given = record {
  next = o.next;
  nodes = λ number node is. o.nodes number (came number node is).former (came number node is).was;
  numbers = given;
  counts = o.counts;
  births = λ number node is.
      let w = came number node is in
      omega (arith, o.births number w.former w.was, w.birth, ap (births_of t) w.inode);
}

pub taken_away : (t : Table) (entry : DirectoryEntry) → IsOrderly t → AreGiven t.next (map.remove t.numbers entry)
taken_away t entry o e number is = o.numbers e number (found_before entry_cmp_total t.numbers entry e number is)

without_given : (t : Table) (number : ℕ) (entry : DirectoryEntry) → IsOrderly t → AreGiven t.next (without number entry t.numbers)
without_given t number entry o = tested (is_this number (map.get t.numbers entry))
  where
    tested : (b : Bool) → AreGiven t.next (if b then map.remove t.numbers entry else t.numbers)
    tested true = taken_away t entry o
    tested false = o.numbers

pub unlinked_given : (t : Table) (number : ℕ) (found : Option Node) → IsOrderly t → AreGiven t.next (unlinked number found t.numbers)
unlinked_given t number None o = o.numbers
unlinked_given t number (Some node) o = without_given t number node.entry o

pub detached_orderly : (t : Table) (entry : DirectoryEntry) → IsOrderly t → IsOrderly (detached t entry)
detached_orderly t entry o = kept t t.nodes (map.remove t.numbers entry) o (none_came t.nodes) (taken_away t entry o)

-- a number that an entry led to is at another one
pub put_given : (t : Table) (from to : DirectoryEntry) (number : ℕ) → IsOrderly t → map.get t.numbers from ≡ Some number → AreGiven t.next (map.insert (map.remove t.numbers from) to number)
put_given t from to number o led e found is = elim (put_or_found entry_cmp_total entry_exact (map.remove t.numbers from) to number e found is) [
  | inl same ↦ o.numbers from found (led ∙ ap Some same.1)
  | inr before ↦ taken_away t from o e found before
]

moved_by_orderly : (t : Table) (from to : DirectoryEntry) (led : Option ℕ) → IsOrderly t → map.get t.numbers from ≡ led → IsOrderly (moved_by t from to led)
moved_by_orderly t from to None o is = detached_orderly t to o
moved_by_orderly t from to (Some number) o is = kept t (with_entry number to (map.get t.nodes number) t.nodes) (map.insert (map.remove t.numbers from) to number) o (moved_none t.nodes number to (map.get t.nodes number) refl) (put_given t from to number o is)

pub moved_orderly : (t : Table) (from to : DirectoryEntry) → IsOrderly t → IsOrderly (moved t from to)
moved_orderly t from to o = moved_by_orderly t from to (map.get t.numbers from) o refl

-- two entries lead to what the other one led to
pub came_then : (a b d : Nodes) → NoneCame a b → NoneCame b d → NoneCame a d
came_then a b d f g number node is =
    let w = g number node is in
    let v = f number w.former w.was in
    record { former = v.former; was = v.was; inode = w.inode ∙ v.inode; birth = w.birth ∙ v.birth }

pub placed_none : (old : Nodes) (first second : DirectoryEntry) (one other : ℕ) → NoneCame old (placed_both first second one other old)
placed_none old first second one other =
    let mid : Nodes = with_entry one second (map.get old one) old in
    came_then old mid (with_entry other first (map.get mid other) mid) (moved_none old one second (map.get old one) refl) (moved_none mid other first (map.get mid other) refl)

leading_given : (next : ℕ) (numbers : Numbers) (entry : DirectoryEntry) (number : ℕ) (found : Option ℕ) → AreGiven next numbers → IsGiven next number → AreGiven next (leading entry number found numbers)
leading_given next numbers entry number None h given e found is = h e found is
leading_given next numbers entry number (Some former) h given e found is = elim (put_or_found entry_cmp_total entry_exact numbers entry number e found is) [
  | inl same ↦ subst (λ (k : ℕ). IsGiven next k) same.1 given
  | inr before ↦ h e found before
]

pub led_given : (t : Table) (first second : DirectoryEntry) (one other : ℕ) → IsOrderly t → map.get t.numbers first ≡ Some one → map.get t.numbers second ≡ Some other → AreGiven t.next (led_both first second one other t.numbers)
led_given t first second one other o at_first at_second =
    let mid : Numbers = leading second one (map.get t.numbers second) t.numbers in
    leading_given t.next mid first other (map.get mid first) (leading_given t.next t.numbers second one (map.get t.numbers second) o.numbers (o.numbers first one at_first)) (o.numbers second other at_second)

exchanged_by_orderly : (t : Table) (first second : DirectoryEntry) (one other : Option ℕ) → IsOrderly t → map.get t.numbers first ≡ one → map.get t.numbers second ≡ other → IsOrderly (exchanged_by t first second one other)
exchanged_by_orderly t first second (Some one) (Some other) o is also = kept t (placed_both first second one other t.nodes) (led_both first second one other t.numbers) o (placed_none t.nodes first second one other) (led_given t first second one other o is also)
exchanged_by_orderly t first second (Some one) None o is also = moved_orderly t first second o
exchanged_by_orderly t first second None (Some other) o is also = moved_orderly t second first o
exchanged_by_orderly t first second None None o is also = o

pub exchanged_orderly : (t : Table) (first second : DirectoryEntry) → IsOrderly t → IsOrderly (exchanged t first second)
exchanged_orderly t first second o = exchanged_by_orderly t first second (map.get t.numbers first) (map.get t.numbers second) o refl refl

forgotten_by_orderly : (t : Table) (number count : ℕ) (found : Option Node) → IsOrderly t → map.get t.nodes number ≡ found → IsOrderly (forgotten_by t number count found)
forgotten_by_orderly t number count None o is = o
forgotten_by_orderly t number count (Some node) o is = tested (nat_le node.lookups count)
  where
    tested : (b : Bool) → IsOrderly (if b then gone t number node else record t { nodes = lessened number count (Some node) t.nodes })
    tested true = kept t (map.remove t.nodes number) (without number node.entry t.numbers) o (one_went t.nodes number) (without_given t number node.entry o)
    tested false = kept t (lessened number count (Some node) t.nodes) t.numbers o (lessened_none t.nodes number count (Some node) is) o.numbers

pub forgotten_orderly : (t : Table) (number count : ℕ) → IsOrderly t → IsOrderly (forgotten t number count)
forgotten_orderly t number count o = forgotten_by_orderly t number count (map.get t.nodes number) o refl

-- ---- a node comes

module _ (t : Table) (put : Node) (entry : DirectoryEntry) (o : IsOrderly t) (born : put.birth ≤ births_of t put.inode) where
  next_given : (number : ℕ) → number ≡ t.next → IsGiven (t.next + 1) number
  next_given number e = record { first = omega (arith, o.next, e); before = omega (arith, e) }

  given_later : (number : ℕ) → IsGiven t.next number → IsGiven (t.next + 1) number
  given_later number g = record { first = g.first; before = omega (arith, g.before) }

  put_nodes : (number : ℕ) (node : Node) → map.get (map.insert t.nodes t.next put) number ≡ Some node → IsGiven (t.next + 1) number × (node.birth ≤ births_of t node.inode)
  put_nodes number node is = elim (put_or_found nat_cmp_total map.nat_cmp-IsAntisymmetric t.nodes t.next put number node is) [
    | inl e ↦ (next_given number e.0, omega (arith, born, ap (λ (n : Node). n.birth) e.1, ap (λ (n : Node). births_of t n.inode) e.1))
    | inr before ↦ (given_later number (o.nodes number node before), o.births number node before)
  ]

  put_numbers : AreGiven (t.next + 1) (map.insert t.numbers entry t.next)
  put_numbers e number is = elim (put_or_found entry_cmp_total entry_exact t.numbers entry t.next e number is) [
    | inl same ↦ next_given number (sym same.1)
    | inr before ↦ given_later number (o.numbers e number before)
  ]

  pub put_orderly : IsOrderly (table_of (map.insert t.nodes t.next put) (map.insert t.numbers entry t.next) t.births (t.next + 1))
  put_orderly = record {
    next = omega (arith, o.next);
    nodes = λ number node is. (put_nodes number node is).0;
    numbers = put_numbers;
    counts = o.counts;
    births = λ number node is. (put_nodes number node is).1;
  }

pub looked_up_as_orderly : (t : Table) (entry : DirectoryEntry) (inode : ℕ) (kind : Kind) → IsOrderly t → (found : Option ℕ) → IsOrderly (looked_up_as t entry inode kind found)
looked_up_as_orderly t entry inode kind o None = put_orderly t _ entry o (omega arith)
looked_up_as_orderly t entry inode kind o (Some number) = kept t (counted number (map.get t.nodes number) t.nodes) t.numbers o (counted_none t.nodes number (map.get t.nodes number) refl) o.numbers

-- ---- an object is made

pub count_made : (births : Births) (inode : ℕ) → births_by (map.get (with_birth inode births) inode) ≡ more (births_by (map.get births inode))
count_made births inode = ap births_by (get_same births inode (more (births_by (map.get births inode))))

-- its count grows, and others stay
pub made_count : (births : Births) (inode other : ℕ) → ((i : ℕ) → births_by (map.get births i) < 2 ^ 64) → (births_by (map.get births other) ≤ births_by (map.get (with_birth inode births) other)) × (births_by (map.get (with_birth inode births) other) < 2 ^ 64)
made_count births inode other small = elim (cases_eq other inode) [
  | inl e ↦
      let now : births_by (map.get (with_birth inode births) other) ≡ min (births_by (map.get births inode) + 1) (2 ^ 64 - 1) = ap (λ (i : ℕ). births_by (map.get (with_birth inode births) i)) e ∙ count_made births inode in
      let was : births_by (map.get births other) ≡ births_by (map.get births inode) = ap (λ (i : ℕ). births_by (map.get births i)) e in
      (omega (arith, now, was, small inode), omega (arith, now))
  | inr away ↦
      let same : births_by (map.get (with_birth inode births) other) ≡ births_by (map.get births other) = ap births_by (get_other births inode other _ away) in
      (omega (arith, same), omega (arith, same, small other))
]

pub made_orderly : (t : Table) (inode : ℕ) → IsOrderly t → IsOrderly (made t inode)
made_orderly t inode o = record {
  next = o.next;
  nodes = o.nodes;
  numbers = o.numbers;
  counts = λ other. (made_count t.births inode other o.counts).1;
  births = λ number node is. omega (arith, o.births number node is, (made_count t.births inode node.inode o.counts).0);
}

-- or it is not, where memory is refused
pub noted_orderly : {A E : Type 0} (t : Table) (inode : ℕ) (births : Births) (r : Result A E) → IsOrderly t → OnOk r (births ≡ with_birth inode t.births) → OnErr r (births ≡ t.births) → IsOrderly (table_of t.nodes t.numbers births t.next)
noted_orderly t inode births (Ok x) o done refused = rw done (made_orderly t inode o)
noted_orderly t inode births (Err e) o done refused = rw refused o

-- ---- no node

pub empty_orderly : IsOrderly (table_of map.empty map.empty map.empty 16)
empty_orderly = record {
  next = omega arith;
  nodes = λ number node is. absurd (no_some node (sym (map.get-empty nat_cmp number) ∙ is));
  numbers = λ entry number is. absurd (no_some number (sym (map.get-empty entry_cmp entry) ∙ is));
  counts = λ inode. let none : births_by (map.get map.empty inode) ≡ 0 = ap births_by (map.get-empty nat_cmp inode) in omega (arith, none);
  births = λ number node is. absurd (no_some node (sym (map.get-empty nat_cmp number) ∙ is));
}
