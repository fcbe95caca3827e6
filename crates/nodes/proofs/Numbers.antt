-- No number is given twice.
use Rattle.std.proofs.Common.{◌≡◌, ℕ, ◌+◌, ◌<◌, ◌≤◌, Bool, true, false, List, [], ◌∷◌, Option, Some, None, refl, ap, ◌∙◌, arith}
use Rattle.std.specs.Prelude.{nat_le, if◌then◌else◌}
use Rattle.ids.specs.declared.reply.Kind.{Kind}
use Rattle.model.specs.FiniteMap as map
use Rattle.nodes.specs.Numbers.{Becomes, Changes, IsOrderly, NumbersAreGivenOnce}
use Rattle.nodes.specs.Numbers.Changes.{LooksUp, Forgets, Detaches, Moves, Exchanges, Makes, Stays}
use Rattle.nodes.specs.Parts.{table_of}
use Rattle.nodes.specs.Tables.{Table, exchanged_by, forgotten_by, gone, known, lessened, looked_up, looked_up_as, moved_by, number_for}
use Rattle.nodes.specs.declared.node.Node.{Node}
use Rattle.nodes.specs.declared.directory_entry.DirectoryEntry.{DirectoryEntry}
use Rattle.nodes.proofs.Known.{new_number, unlinked_number, unused_number}
use Rattle.nodes.proofs.Orderly.{detached_orderly, empty_orderly, exchanged_orderly, forgotten_orderly, looked_up_as_orderly, made_orderly, moved_orderly}

abbrev next_of : Table → ℕ
next_of t = t.next

-- ---- one call

pub changed_orderly : (t u : Table) → IsOrderly t → Changes t u → IsOrderly u
changed_orderly t u o (LooksUp entry inode kind is) = rw is (looked_up_as_orderly t entry inode kind o (known t entry inode))
changed_orderly t u o (Forgets number count is) = rw is (forgotten_orderly t number count o)
changed_orderly t u o (Detaches entry is) = rw is (detached_orderly t entry o)
changed_orderly t u o (Moves from to is) = rw is (moved_orderly t from to o)
changed_orderly t u o (Exchanges first second is) = rw is (exchanged_orderly t first second o)
changed_orderly t u o (Makes inode is) = rw is (made_orderly t inode o)
changed_orderly t u o (Stays is) = rw is o

looked_up_next : (t : Table) (entry : DirectoryEntry) (inode : ℕ) (kind : Kind) (found : Option ℕ) → t.next ≤ (looked_up_as t entry inode kind found).next
looked_up_next t entry inode kind None = omega arith
looked_up_next t entry inode kind (Some number) = omega arith

pub forgotten_next : (t : Table) (number count : ℕ) (found : Option Node) → (forgotten_by t number count found).next ≡ t.next
forgotten_next t number count None = refl
forgotten_next t number count (Some node) = tested (nat_le node.lookups count)
  where
    tested : (b : Bool) → next_of (if b then gone t number node else record t { nodes = lessened number count (Some node) t.nodes }) ≡ t.next
    tested true = refl
    tested false = refl

pub moved_next : (t : Table) (from to : DirectoryEntry) (led : Option ℕ) → (moved_by t from to led).next ≡ t.next
moved_next t from to None = refl
moved_next t from to (Some number) = refl

pub exchanged_next : (t : Table) (first second : DirectoryEntry) (one other : Option ℕ) → (exchanged_by t first second one other).next ≡ t.next
exchanged_next t first second (Some one) (Some other) = refl
exchanged_next t first second (Some one) None = moved_next t first second (map.get t.numbers first)
exchanged_next t first second None (Some other) = moved_next t second first (map.get t.numbers second)
exchanged_next t first second None None = refl

changed_next : (t u : Table) → Changes t u → t.next ≤ u.next
changed_next t u (LooksUp entry inode kind is) = omega (arith, ap next_of is, looked_up_next t entry inode kind (known t entry inode))
changed_next t u (Forgets number count is) = omega (arith, ap next_of is, forgotten_next t number count (map.get t.nodes number))
changed_next t u (Detaches entry is) = omega (arith, ap next_of is)
changed_next t u (Moves from to is) = omega (arith, ap next_of is, moved_next t from to (map.get t.numbers from))
changed_next t u (Exchanges first second is) = omega (arith, ap next_of is, exchanged_next t first second (map.get t.numbers first) (map.get t.numbers second))
changed_next t u (Makes inode is) = omega (arith, ap next_of is)
changed_next t u (Stays is) = omega (arith, ap next_of is)

-- ---- any calls

pub stays_orderly : (t u : Table) (ts : List Table) → IsOrderly t → Becomes t ts u → IsOrderly u
stays_orderly t u [] o is = rw is o
stays_orderly t u (v ∷ ts) o is = stays_orderly v u ts (changed_orderly t v o is.0) is.1

pub next_grows : (t u : Table) (ts : List Table) → Becomes t ts u → t.next ≤ u.next
next_grows t u [] is = omega (arith, ap next_of is)
next_grows t u (v ∷ ts) is = omega (arith, changed_next t v is.0, next_grows v u ts is.1)

not_given : (t u : Table) (ts : List Table) (entry : DirectoryEntry) (inode : ℕ) → Becomes t ts u → known u entry inode ≡ None → number_for u entry inode < t.next → ⊥
not_given t u ts entry inode is none low = omega (arith, new_number u entry inode none, next_grows t u ts is, low)

rises : (t u : Table) (ts : List Table) (first second : DirectoryEntry) (inode other : ℕ) (kind : Kind) → known t first inode ≡ None → Becomes (looked_up t first inode kind) ts u → known u second other ≡ None → number_for t first inode < number_for u second other
rises t u ts first second inode other kind none is later =
    let more : (looked_up t first inode kind).next ≡ t.next + 1 = ap (λ (found : Option ℕ). next_of (looked_up_as t first inode kind found)) none in
    omega (arith, more, new_number t first inode none, new_number u second other later, next_grows (looked_up t first inode kind) u ts is)

begins_orderly : (t : Table) → t.nodes ≡ map.empty → t.numbers ≡ map.empty → t.births ≡ map.empty → t.next ≡ 16 → IsOrderly t
begins_orderly t nodes numbers births next =
    let same : t ≡ table_of map.empty map.empty map.empty 16 = ap (λ n. table_of n t.numbers t.births t.next) nodes ∙ ap (λ m. table_of map.empty m t.births t.next) numbers ∙ ap (λ b. table_of map.empty map.empty b t.next) births ∙ ap (table_of map.empty map.empty map.empty) next in
    rw same empty_orderly

pub numbers_are_given_once : NumbersAreGivenOnce
numbers_are_given_once = record {
  begins = begins_orderly;
  stays = stays_orderly;
  unused = λ t u ts entry inode o is none. unused_number t (number_for u entry inode) o (not_given t u ts entry inode is none);
  unlinked = λ t u ts entry inode o is none. unlinked_number t (number_for u entry inode) o (not_given t u ts entry inode is none);
  rises = rises;
}
