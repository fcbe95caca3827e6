-- A node of an object that is gone stands for no other.
use Rattle.std.proofs.Common.{◌≡◌, ◌≢◌, ℕ, ◌+◌, ◌-◌, ◌^◌, ◌<◌, ◌≤◌, Bool, true, false, min, List, [], ◌∷◌, Option, Some, None, inl, inr, refl, sym, ap, ◌∙◌, arith, ne_eqb}
use Rattle.std.specs.Prelude.{nat_le, if◌then◌else◌}
use Rattle.std.specs.Cmp.{nat_cmp_total}
use Rattle.ids.specs.declared.reply.Kind.{Kind}
use Rattle.model.specs.FiniteMap as map
use Rattle.nodes.specs.Numbers.{Becomes, Changes, GoneObjectsStayGone, IsOrderly}
use Rattle.nodes.specs.Numbers.Changes.{LooksUp, Forgets, Detaches, Moves, Exchanges, Makes, Stays}
use Rattle.nodes.specs.Tables.{Table, births_of, exchanged_by, forgotten_by, gone, is_current, is_current_by, known, lessened, looked_up_as, made, moved_by, number_by, number_for}
use Rattle.nodes.specs.declared.node.Node.{Node}
use Rattle.nodes.specs.declared.directory_entry.DirectoryEntry.{DirectoryEntry}
use Rattle.nodes.proofs.Found.{put_or_found, same_some}
use Rattle.nodes.proofs.Known.{is_known}
use Rattle.nodes.proofs.Numbers.{changed_orderly, next_grows}
use Rattle.nodes.proofs.Orderly.{NoneCame, WasThere, count_made, counted_none, lessened_none, made_count, moved_none, none_came, one_went, placed_none}

-- ---- what one call leaves of nodes and births

-- no node came of a number that was given, and what was made stays made
record Follows (t u : Table) : Type 0 where
  nodes : (number : ℕ) (node : Node) → number < t.next → map.get u.nodes number ≡ Some node → WasThere t.nodes number node
  births : (inode : ℕ) → births_of t inode ≤ births_of u inode

follows : (t u : Table) → NoneCame t.nodes u.nodes → t.births ≡ u.births → Follows t u
follows t u came same = record { nodes = λ number node low is. came number node is; births = λ inode. rw same (omega arith) }

looked_up_follows : (t : Table) (entry : DirectoryEntry) (inode : ℕ) (kind : Kind) (found : Option ℕ) → Follows t (looked_up_as t entry inode kind found)
looked_up_follows t entry inode kind (Some number) = follows t _ (counted_none t.nodes number (map.get t.nodes number) refl) refl
looked_up_follows t entry inode kind None = record { nodes = below; births = λ i. omega arith }
  where
    below : (number : ℕ) (node : Node) → number < t.next → map.get (looked_up_as t entry inode kind None).nodes number ≡ Some node → WasThere t.nodes number node
    below number node low is = elim (put_or_found nat_cmp_total map.nat_cmp-IsAntisymmetric t.nodes t.next _ number node is) [
      | inl e ↦ absurd (omega (arith, low, e.0))
      | inr before ↦ none_came t.nodes number node before
    ]

forgotten_follows : (t : Table) (number count : ℕ) (found : Option Node) → map.get t.nodes number ≡ found → Follows t (forgotten_by t number count found)
forgotten_follows t number count None is = follows t t (none_came t.nodes) refl
forgotten_follows t number count (Some node) is = tested (nat_le node.lookups count)
  where
    tested : (b : Bool) → Follows t (if b then gone t number node else record t { nodes = lessened number count (Some node) t.nodes })
    tested true = follows t _ (one_went t.nodes number) refl
    tested false = follows t _ (lessened_none t.nodes number count (Some node) is) refl

moved_follows : (t : Table) (from to : DirectoryEntry) (led : Option ℕ) → Follows t (moved_by t from to led)
moved_follows t from to None = follows t _ (none_came t.nodes) refl
moved_follows t from to (Some number) = follows t _ (moved_none t.nodes number to (map.get t.nodes number) refl) refl

exchanged_follows : (t : Table) (first second : DirectoryEntry) (one other : Option ℕ) → Follows t (exchanged_by t first second one other)
exchanged_follows t first second (Some one) (Some other) = follows t _ (placed_none t.nodes first second one other) refl
exchanged_follows t first second (Some one) None = moved_follows t first second (map.get t.numbers first)
exchanged_follows t first second None (Some other) = moved_follows t second first (map.get t.numbers second)
exchanged_follows t first second None None = follows t t (none_came t.nodes) refl

changed_follows : (t u : Table) → IsOrderly t → Changes t u → Follows t u
changed_follows t u o (LooksUp entry inode kind is) = rw is (looked_up_follows t entry inode kind (known t entry inode))
changed_follows t u o (Forgets number count is) = rw is (forgotten_follows t number count (map.get t.nodes number) refl)
changed_follows t u o (Detaches entry is) = rw is (follows t _ (none_came t.nodes) refl)
changed_follows t u o (Moves from to is) = rw is (moved_follows t from to (map.get t.numbers from))
changed_follows t u o (Exchanges first second is) = rw is (exchanged_follows t first second (map.get t.numbers first) (map.get t.numbers second))
changed_follows t u o (Makes inode is) = rw is (record { nodes = λ number node low there. none_came t.nodes number node there; births = λ other. (made_count t.births inode other o.counts).0 })
changed_follows t u o (Stays is) = rw is (follows t t (none_came t.nodes) refl)

-- ---- a node whose object is gone

-- a number that was given, and stands for no object but one that is gone
record IsOfGone (t : Table) (number inode birth : ℕ) : Type 0 where
  given : number < t.next
  over : birth < births_of t inode
  nodes : (node : Node) → map.get t.nodes number ≡ Some node → (node.inode ≡ inode) × (node.birth ≡ birth)

module _ (number inode birth : ℕ) where
  changed_gone : (t u : Table) → IsOfGone t number inode birth → Follows t u → t.next ≤ u.next → IsOfGone u number inode birth
  changed_gone t u g f low = record {
    given = omega (arith, g.given, low);
    over = omega (arith, g.over, f.births inode);
    nodes = λ node is.
        let w = f.nodes number node g.given is in
        let was = g.nodes w.former w.was in
        (w.inode ∙ was.0, w.birth ∙ was.1);
  }

  stays_gone : (t u : Table) (ts : List Table) → IsOrderly t → IsOfGone t number inode birth → Becomes t ts u → IsOfGone u number inode birth
  stays_gone t u [] o g is = rw is g
  stays_gone t u (v ∷ ts) o g is = stays_gone v u ts (changed_orderly t v o is.0) (changed_gone t v g (changed_follows t v o is.0) (next_grows t v (v ∷ []) (is.0, refl))) is.1

  not_current : (t : Table) (node : Node) → IsOfGone t number inode birth → map.get t.nodes number ≡ Some node → is_current t number ≡ false
  not_current t node g is =
      let is_of = g.nodes node is in
      ap (is_current_by t) is ∙ ne_eqb node.birth (births_of t node.inode) (λ e. omega (arith, g.over, e, is_of.1, ap (births_of t) is_of.0))

  not_given : (t : Table) (entry : DirectoryEntry) (other : ℕ) → IsOfGone t number inode birth → number_for t entry other ≢ number
  not_given t entry other g = by_known (known t entry other) refl
    where
      by_known : (found : Option ℕ) → known t entry other ≡ found → number_by t found ≢ number
      by_known None none = λ e. omega (arith, g.given, e)
      by_known (Some found) is = λ e.
          let k = is_known t entry other number (is ∙ ap Some e) in
          let is_of = g.nodes k.node k.there in
          omega (arith, g.over, k.birth, is_of.1, ap (births_of t) (sym k.same ∙ is_of.0))

at_first : (t : Table) (number : ℕ) (node : Node) → IsOrderly t → map.get t.nodes number ≡ Some node → node.birth < births_of t node.inode → IsOfGone t number node.inode node.birth
at_first t number node o is over = record {
  given = (o.nodes number node is).before;
  over = over;
  nodes = λ other there. let same : other ≡ node = same_some other node (sym there ∙ is) in (ap (λ (n : Node). n.inode) same, ap (λ (n : Node). n.birth) same);
}

after_made : (t : Table) (number inode : ℕ) (node : Node) → IsOrderly t → map.get t.nodes number ≡ Some node → node.inode ≡ inode → births_of t inode < 2 ^ 64 - 1 → node.birth < births_of (made t inode) inode
after_made t number inode node o is same few =
    let now : births_of (made t inode) inode ≡ min (births_of t inode + 1) (2 ^ 64 - 1) = count_made t.births inode in
    omega (arith, now, few, o.births number node is, ap (births_of t) same)

-- what was just made has no node
first_made : (t : Table) (entry : DirectoryEntry) (inode : ℕ) → IsOrderly t → births_of t inode < 2 ^ 64 - 1 → known (made t inode) entry inode ≡ None
first_made t entry inode o few = by_known (known (made t inode) entry inode) refl
  where
    by_known : (found : Option ℕ) → known (made t inode) entry inode ≡ found → found ≡ None
    by_known None is = refl
    by_known (Some number) is =
        let k = is_known (made t inode) entry inode number is in
        absurd (omega (arith, after_made t number inode k.node o k.there k.same few, k.birth))

pub gone_objects_stay_gone : GoneObjectsStayGone
gone_objects_stay_gone = record {
  given = λ t u ts number node o is over becomes entry inode. not_given number node.inode node.birth u entry inode (stays_gone number node.inode node.birth t u ts o (at_first t number node o is over) becomes);
  current = λ t u ts number node now o is over becomes there. not_current number node.inode node.birth u now (stays_gone number node.inode node.birth t u ts o (at_first t number node o is over) becomes) there;
  after = after_made;
  first = first_made;
}
