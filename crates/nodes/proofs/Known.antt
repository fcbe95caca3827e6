-- What a look-up knows, and the numbers that it gives.
use Rattle.std.proofs.Common.{◌≡◌, ◌≢◌, ℕ, ◌+◌, ◌<◌, ◌==◌, eqb-true, Bool, true, false, Option, Some, None, refl, sym, ap, ◌∙◌, arith}
use Rattle.std.specs.Prelude.{◌&&◌, if◌then◌else◌}
use Rattle.ids.specs.declared.reply.Kind.{Kind}
use Rattle.model.specs.FiniteMap as map
use Rattle.nodes.specs.Numbers.{IsFresh, IsGiven, IsOrderly}
use Rattle.nodes.specs.Tables.{Table, added, births_of, if_known, if_of, known, number_by, number_for}
use Rattle.nodes.specs.declared.node.Node.{Node}
use Rattle.nodes.specs.declared.directory_entry.DirectoryEntry.{DirectoryEntry}
use Rattle.nodes.proofs.Found.{no_some, same_some}

-- a known number: the entry leads to it, and its node stands for the object
pub record IsKnown (t : Table) (entry : DirectoryEntry) (inode number : ℕ) : Type 0 where
  pub led : map.get t.numbers entry ≡ Some number
  pub node : Node
  pub there : map.get t.nodes number ≡ Some node
  pub same : node.inode ≡ inode
  pub birth : node.birth ≡ births_of t inode

module _ (t : Table) (entry : DirectoryEntry) (inode number : ℕ) where
  by_tests : (found : ℕ) (node : Node) (a b : Bool) → map.get t.numbers entry ≡ Some found → map.get t.nodes found ≡ Some node → (node.inode == inode) ≡ a → (node.birth == births_of t inode) ≡ b → (if a && b then Some found else None) ≡ Some number → IsKnown t entry inode number
  by_tests found node true true led there a b is =
      let same : found ≡ number = same_some found number is in
      record { led = led ∙ ap Some same; node = node; there = sym (ap (map.get t.nodes) same) ∙ there; same = eqb-true node.inode inode a; birth = eqb-true node.birth (births_of t inode) b }
  by_tests found node true false led there a b is = absurd (no_some number is)
  by_tests found node false b led there a e is = absurd (no_some number is)

  by_node : (found : ℕ) (there : Option Node) → map.get t.numbers entry ≡ Some found → map.get t.nodes found ≡ there → if_of inode (births_of t inode) found there ≡ Some number → IsKnown t entry inode number
  by_node found None led there is = absurd (no_some number is)
  by_node found (Some node) led there is = by_tests found node (node.inode == inode) (node.birth == births_of t inode) led there refl refl is

  by_entry : (led : Option ℕ) → map.get t.numbers entry ≡ led → if_known t inode led ≡ Some number → IsKnown t entry inode number
  by_entry None led is = absurd (no_some number is)
  by_entry (Some found) led is = by_node found (map.get t.nodes found) led refl is

  pub is_known : known t entry inode ≡ Some number → IsKnown t entry inode number
  is_known is = by_entry (map.get t.numbers entry) refl is

  pub known_given : IsOrderly t → known t entry inode ≡ Some number → IsGiven t.next number
  known_given o is = o.numbers entry number (is_known is).led

pub new_number : (t : Table) (entry : DirectoryEntry) (inode : ℕ) → known t entry inode ≡ None → number_for t entry inode ≡ t.next
new_number t entry inode none = ap (number_by t) none

-- a number that was not given before a later one is no node's, and no entry leads to it
pub unused_number : (t : Table) (number : ℕ) → IsOrderly t → (number < t.next → ⊥) → map.get t.nodes number ≡ None
unused_number t number o new = by_found (map.get t.nodes number) refl
  where
    by_found : (found : Option Node) → map.get t.nodes number ≡ found → found ≡ None
    by_found None is = refl
    by_found (Some node) is = absurd (new (o.nodes number node is).before)

pub unlinked_number : (t : Table) (number : ℕ) → IsOrderly t → (number < t.next → ⊥) → (entry : DirectoryEntry) → map.get t.numbers entry ≢ Some number
unlinked_number t number o new entry = λ is. new (o.numbers entry number is).before

pub added_fresh : (t u : Table) (entry : DirectoryEntry) (inode : ℕ) (kind : Kind) (number : ℕ) → IsOrderly t → u ≡ added t entry inode kind → number ≡ t.next → IsFresh t u number
added_fresh t u entry inode kind number o is next = record {
  is_next = next;
  later = let later : u.next ≡ t.next + 1 = ap (λ (t : Table). t.next) is in omega (arith, next, later);
  unused = unused_number t number o (λ low. omega (arith, next, low));
  unlinked = unlinked_number t number o (λ low. omega (arith, next, low));
}
