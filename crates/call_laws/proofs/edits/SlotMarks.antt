-- A change of slots, descriptions or processes changes only the ends that it marks.
use Rattle.std.proofs.Common.{◌≡◌, ◌≢◌, ℕ, ◌+◌, Bool, false, cond, List, [], map, Option, Some, None, refl, sym, ap, subst, ◌∙◌, ◌&&◌, arith, append-nil, ne_eqb, add-zero, nat_cmp}
use Rattle.std.specs.List.{AllByRecursion}
use Rattle.model.specs.FiniteMap.{FinMap, get, insert}
use Rattle.model.specs.State.{Kind, A_pipe, Kernel, Pipe, Description, Process, kind, pipe_of, kind_of, mapped, is_end, links, ends, offset_in, offset_of}
use Rattle.model.specs.Aspects.{Aspect, Entry, Names, Size, Block, Links, Ends, Offset, Front, Back, Target, Rights, Keeps}
use Rattle.model.specs.Changes.{Mode, to_read, to_write, set_inode, set_process, open_at, at_start}
use Rattle.call_laws.specs.Objects.{IsThere, LeavesAlone}
use Rattle.call_laws.specs.Fits.{table_of, IsUnused, ListsPipe, CanPipe}
use Rattle.call_laws.proofs.edits.InodeMarks.{keeps_on, new_marks}
use Rattle.model.proofs.Laws.{all-map, weight, get_other}
use Rattle.call_laws.proofs.edits.NamesAlike.{is_new}
use Rattle.call_laws.proofs.Maps.{not_none, all-mapped}
use Rattle.call_laws.proofs.edits.Ends.{end_count, held, without_process, ends-set_process, ends-without_process, ends-open_at}
use Rattle.call_laws.proofs.edits.SlotsAlike.{with_tables, pipe_at, unused_after, free_after}

pub number_apart : (k : Kernel) (n m : ℕ) (what : Kind) → get k.inodes n ≡ None → kind_of k m ≡ Some what → n ≢ m
number_apart k n m what none is e = not_none what (sym is ∙ ap (kind_of k) (sym e) ∙ ap (mapped kind) none)

tables_mark : (k : Kernel) (ds : FinMap nat_cmp Description) (ps : FinMap nat_cmp Process) (m : ℕ) (a : Aspect)
    → ((d : ℕ) → a ≡ Offset d → offset_in (get ds d) ≡ offset_of k d)
    → ((p : ℕ) → a ≡ Ends p → Keeps k (with_tables k ds ps m) (Ends p))
    → Keeps k (with_tables k ds ps m) a
unfolding links
tables_mark k ds ps m (Entry d x) offsets ended = refl
tables_mark k ds ps m (Names d) offsets ended = refl
tables_mark k ds ps m (Size t) offsets ended = refl
tables_mark k ds ps m (Block t block) offsets ended = λ i is. refl
tables_mark k ds ps m (Links t) offsets ended = refl
tables_mark k ds ps m (Ends p) offsets ended = ended p refl
tables_mark k ds ps m (Offset d) offsets ended = offsets d refl
tables_mark k ds ps m (Front p) offsets ended = ([], sym (append-nil (pipe_of k p)))
tables_mark k ds ps m (Back p) offsets ended = ([], refl)
tables_mark k ds ps m (Target t) offsets ended = refl
tables_mark k ds ps m (Rights t) offsets ended = refl

pub open_marks : (k : Kernel) (d n : ℕ) (how : Mode) (pid f : ℕ) → IsUnused k d → get (table_of k pid) f ≡ None → (a : Aspect)
    → ((e : ℕ) → a ≡ Offset e → e ≢ d) → ((p : ℕ) → a ≡ Ends p → n ≢ p) → Keeps k (open_at d n how pid f k) a
open_marks k d n how pid f unused free a offsets ended = tables_mark k _ _ k.made a
    (λ e is. ap offset_in (get_other k.descriptions d e (at_start n how) (offsets e is)))
    (λ p is. (stays p is (λ it. it.reading), stays p is (λ it. it.writing)))
  where
    stays : (p : ℕ) → a ≡ Ends p → (mode : Description → Bool) → ends (open_at d n how pid f k) p mode ≡ ends k p mode
    stays p is mode = ends-open_at k d n how pid f unused free p mode ∙ ap (λ b. ends k p mode + cond (b && mode (at_start n how)) 1 0) (ne_eqb n p (ended p is)) ∙ add-zero (ends k p mode)

-- an offset that is there is not the new description's
pub offset_apart : (k : Kernel) (d : ℕ) (a : Aspect) → get k.descriptions d ≡ None → IsThere k a → (e : ℕ) → a ≡ Offset e → e ≢ d
offset_apart k d a none there e is same = subst (IsThere k) is there (ap (get k.descriptions) same ∙ none)

pub ends_apart : (k : Kernel) (n : ℕ) (a : Aspect) → get k.inodes n ≡ None → IsThere k a → (p : ℕ) → a ≡ Ends p → n ≢ p
ends_apart k n a none there p is = number_apart k n p A_pipe none (subst (IsThere k) is there)

pub made_pipe_marks : (chosen : List ℕ) (k : Kernel) (p d e pid f g : ℕ) → CanPipe chosen k p d e pid f g → (a : Aspect) → IsThere k a → Keeps k (pipe_at p d e pid f g k) a
made_pipe_marks chosen k p d e pid f g can a there =
    let first : Keeps k (set_inode p (Pipe []) k) a = new_marks k p (Pipe []) can.pipe (is_new k p (Pipe []) can.pipe.inode refl refl refl) a there in
    let second : Keeps (set_inode p (Pipe []) k) (open_at d p to_read pid f (set_inode p (Pipe []) k)) a =
    open_marks (set_inode p (Pipe []) k) d p to_read pid f (record { description = can.reader.description; unheld = can.reader.unheld }) can.slot.free a
    (offset_apart k d a can.reader.description there) (ends_apart k p a can.pipe.inode there) in
    let third : Keeps (open_at d p to_read pid f (set_inode p (Pipe []) k)) (pipe_at p d e pid f g k) a =
    open_marks (open_at d p to_read pid f (set_inode p (Pipe []) k)) e p to_write pid g
    (unused_after (set_inode p (Pipe []) k) d p to_read pid f e (record { description = can.writer.description; unheld = can.writer.unheld }) can.different)
    (free_after (set_inode p (Pipe []) k) d p to_read pid f g can.other.free can.apart) a
    (offset_apart k e a can.writer.description there) (ends_apart k p a can.pipe.inode there) in
    keeps_on k (open_at d p to_read pid f (set_inode p (Pipe []) k)) (pipe_at p d e pid f g k) a
    (keeps_on k (set_inode p (Pipe []) k) (open_at d p to_read pid f (set_inode p (Pipe []) k)) a first second) third

-- a pipe that is not among these is not the description's
pub no_end : (k : Kernel) (pipes : List ℕ) (d p : ℕ) (mode : Description → Bool) → ListsPipe k pipes d → kind_of k p ≡ Some A_pipe → AllByRecursion (λ q. q ≢ p) pipes → is_end mode p (get k.descriptions d) ≡ false
no_end k pipes d p mode lists is none = by_description (get k.descriptions d) refl
  where
    by_description : (x : Option Description) → get k.descriptions d ≡ x → is_end mode p x ≡ false
    by_description None e = refl
    by_description (Some it) e = ap (λ b. b && mode it) (ne_eqb it.inode p (λ same.
        lists it e (ap (kind_of k) same ∙ is) (all-mapped pipes (λ q away other. away (other ∙ same)) none)))

-- marks of ends
pub not_marked : (pipes : List ℕ) (p : ℕ) → AllByRecursion (λ w. LeavesAlone w (Ends p)) (map Ends pipes) → AllByRecursion (λ q. q ≢ p) pipes
not_marked pipes p h = all-mapped pipes (λ q away e. away (ap Ends e)) (all-map (λ w. LeavesAlone w (Ends p)) Ends pipes h)

pub process_marks : (k : Kernel) (q : ℕ) (x : Process) (m : ℕ) (a : Aspect) → ((p : ℕ) → a ≡ Ends p → (mode : Description → Bool) → held k p mode x.table ≡ held k p mode (table_of k q)) → Keeps k (with_tables k k.descriptions (insert k.processes q x) m) a
unfolding ends
process_marks k q x m a same = tables_mark k k.descriptions (insert k.processes q x) m a (λ d is. refl) (λ p is. (stays p is (λ it. it.reading), stays p is (λ it. it.writing)))
  where
    stays : (p : ℕ) → a ≡ Ends p → (mode : Description → Bool) → ends (set_process q x k) p mode ≡ ends k p mode
    stays p is mode =
        let moved : ends (set_process q x k) p mode + held k p mode (table_of k q) ≡ ends k p mode + held k p mode x.table = ends-set_process k q x p mode in
        let alike : held k p mode x.table ≡ held k p mode (table_of k q) = same p is mode in
        omega arith

pub end_marks : (k : Kernel) (q : ℕ) (a : Aspect) → ((p : ℕ) → a ≡ Ends p → (mode : Description → Bool) → held k p mode (table_of k q) ≡ 0) → Keeps k (without_process q k) a
end_marks k q a none = tables_mark k k.descriptions _ k.made a (λ d is. refl) (λ p is. (stays p is (λ it. it.reading), stays p is (λ it. it.writing)))
  where
    stays : (p : ℕ) → a ≡ Ends p → (mode : Description → Bool) → ends (without_process q k) p mode ≡ ends k p mode
    stays p is mode =
        let gone : held k p mode (table_of k q) + ends (without_process q k) p mode ≡ ends k p mode = ends-without_process k q p mode in
        let nothing : held k p mode (table_of k q) ≡ 0 = none p is mode in
        omega arith

-- what a slot gives counts for no pipe that is not listed
pub slot_counts : (k : Kernel) (pid f : ℕ) (pipes : List ℕ) (p : ℕ) (mode : Description → Bool) → ((e : ℕ) → get (table_of k pid) f ≡ Some e → ListsPipe k pipes e) → kind_of k p ≡ Some A_pipe → AllByRecursion (λ q. q ≢ p) pipes → weight (end_count k p mode) (get (table_of k pid) f) ≡ 0
slot_counts k pid f pipes p mode goes is none = by_slot (get (table_of k pid) f) refl
  where
    by_slot : (x : Option ℕ) → get (table_of k pid) f ≡ x → weight (end_count k p mode) x ≡ 0
    by_slot None e = refl
    by_slot (Some d) e = ap (λ b. cond b 1 0) (no_end k pipes d p mode (goes d e) is none)
