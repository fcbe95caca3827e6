-- The edits on slots and processes keep alike what is alike.
use Rattle.std.proofs.Common.{List, ◌≡◌, ◌≢◌, ℕ, ◌+◌, Bool, cond, ◌&&◌, [], Some, None, refl, sym, ap, ◌∙◌, arith, ◌==◌, nat_cmp, inl, inr}
use Rattle.model.specs.FiniteMap.{FinMap, get, insert, remove, get-empty}
use Rattle.std.proofs.lemmas.Bool.{cases_eq}
use Rattle.model.specs.State.{Kernel, Pipe, Description, Process, links, ends, offset_in}
use Rattle.model.specs.Aspects.{Aspect, Entry, Names, Size, Block, Links, Ends, Offset, Front, Back, Target, Rights, Keeps}
use Rattle.model.specs.Changes.{Mode, to_read, to_write, process_of, with_slot, set_inode, set_process, set_description, at_start, open_at}
use Rattle.call_laws.specs.Fits.{table_of, IsUnused, CanPipe, OwnAlike, fixed_of}
use Rattle.model.proofs.Laws.{get_same, get_other}
use Rattle.call_laws.proofs.Maps.{not_none, from_insert, from_remove}
use Rattle.call_laws.proofs.edits.Processes.{table_in, table_here, table_there}
use Rattle.call_laws.proofs.edits.NamesAlike.{new_keeps, is_new}
use Rattle.call_laws.proofs.edits.Ends.{held, without_process, ends-set_process, ends-without_process, held-alike, ends-open_at, reads_alike, writes_alike}

-- a state with other descriptions and processes
abbrev pub with_tables : Kernel → FinMap nat_cmp Description → FinMap nat_cmp Process → ℕ → Kernel
with_tables k descriptions processes made = record k { descriptions = descriptions; processes = processes; made = made }

-- only offsets and ends are left to show
pub tables_keep : (now later : Kernel) (ds es : FinMap nat_cmp Description) (ps qs : FinMap nat_cmp Process) (m n : ℕ)
    → ((d : ℕ) → Keeps now later (Offset d) → Keeps (with_tables now ds ps m) (with_tables later es qs n) (Offset d))
    → ((p : ℕ) → Keeps now later (Ends p) → Keeps (with_tables now ds ps m) (with_tables later es qs n) (Ends p))
    → (a : Aspect) → Keeps now later a → Keeps (with_tables now ds ps m) (with_tables later es qs n) a
unfolding links
tables_keep now later ds es ps qs m n offsets ended (Entry d x) h = h
tables_keep now later ds es ps qs m n offsets ended (Names d) h = h
tables_keep now later ds es ps qs m n offsets ended (Size t) h = h
tables_keep now later ds es ps qs m n offsets ended (Block t block) h = h
tables_keep now later ds es ps qs m n offsets ended (Links t) h = h
tables_keep now later ds es ps qs m n offsets ended (Ends p) h = ended p h
tables_keep now later ds es ps qs m n offsets ended (Offset d) h = offsets d h
tables_keep now later ds es ps qs m n offsets ended (Front p) h = h
tables_keep now later ds es ps qs m n offsets ended (Back p) h = h
tables_keep now later ds es ps qs m n offsets ended (Target t) h = h
tables_keep now later ds es ps qs m n offsets ended (Rights t) h = h

pub open_keeps : (now later : Kernel) (d n : ℕ) (how : Mode) (pid f : ℕ) → IsUnused now d → IsUnused later d → get (table_of now pid) f ≡ None → get (table_of later pid) f ≡ None → (a : Aspect) → Keeps now later a → Keeps (open_at d n how pid f now) (open_at d n how pid f later) a
open_keeps now later d n how pid f one two free free_later = tables_keep now later _ _ _ _ now.made later.made
    (λ e h. elim (cases_eq e d) [
      | inl is ↦ ap (λ e. offset_in (get (insert later.descriptions d (at_start n how)) e)) is ∙ ap offset_in (get_same later.descriptions d (at_start n how))
          ∙ sym (ap (λ e. offset_in (get (insert now.descriptions d (at_start n how)) e)) is ∙ ap offset_in (get_same now.descriptions d (at_start n how)))
      | inr away ↦ ap offset_in (get_other later.descriptions d e (at_start n how) away) ∙ h ∙ sym (ap offset_in (get_other now.descriptions d e (at_start n how) away))
    ])
    (λ p h. (
      ends-open_at later d n how pid f two free_later p (λ it. it.reading) ∙ ap (λ c. c + cond ((n == p) && how.reading) 1 0) h.0 ∙ sym (ends-open_at now d n how pid f one free p (λ it. it.reading)),
      ends-open_at later d n how pid f two free_later p (λ it. it.writing) ∙ ap (λ c. c + cond ((n == p) && how.writing) 1 0) h.1 ∙ sym (ends-open_at now d n how pid f one free p (λ it. it.writing)),
    ))

-- a description unused, after another one with its slot
pub unused_after : (k : Kernel) (d n : ℕ) (how : Mode) (pid f e : ℕ) → IsUnused k e → d ≢ e → IsUnused (open_at d n how pid f k) e
unused_after k d n how pid f e unused different = record {
  description = get_other k.descriptions d e (at_start n how) (λ same. different (sym same)) ∙ unused.description;
  unheld = λ q g is. elim (cases_eq q pid) [
    | inl same ↦ elim (from_insert (table_of k pid) f g d e (ap (λ (t : FinMap nat_cmp ℕ). get t g) (sym (table_here (set_description d (at_start n how) k) pid (with_slot f d (process_of k pid)))) ∙ ap (λ q. get (table_of (open_at d n how pid f k) q) g) (sym same) ∙ is)) [
      | inl here ↦ different here.1
      | inr there ↦ unused.unheld pid g there.1
    ]
    | inr away ↦ unused.unheld q g (ap (λ (t : FinMap nat_cmp ℕ). get t g) (sym (table_there (set_description d (at_start n how) k) pid (with_slot f d (process_of k pid)) q away)) ∙ is)
  ];
}

-- and a slot that is free
pub free_after : (k : Kernel) (d n : ℕ) (how : Mode) (pid f g : ℕ) → get (table_of k pid) g ≡ None → f ≢ g → get (table_of (open_at d n how pid f k) pid) g ≡ None
free_after k d n how pid f g free different = ap (λ (t : FinMap nat_cmp ℕ). get t g) (table_here (set_description d (at_start n how) k) pid (with_slot f d (process_of k pid)))
    ∙ get_other (table_of k pid) f g d (λ same. different (sym same)) ∙ free

-- a pipe with its two descriptions and slots
abbrev pub pipe_at : ℕ → ℕ → ℕ → ℕ → ℕ → ℕ → Kernel → Kernel
pipe_at p d e pid f g k = open_at e p to_write pid g (open_at d p to_read pid f (set_inode p (Pipe []) k))

pub pipe_keeps : (chosen : List ℕ) (now later : Kernel) (p d e pid f g : ℕ) → CanPipe chosen now p d e pid f g → CanPipe chosen later p d e pid f g → (a : Aspect) → Keeps now later a → Keeps (pipe_at p d e pid f g now) (pipe_at p d e pid f g later) a
pipe_keeps chosen now later p d e pid f g can could a h =
    let first : Keeps (set_inode p (Pipe []) now) (set_inode p (Pipe []) later) a = new_keeps now later p (Pipe []) (is_new now p (Pipe []) can.pipe.inode refl refl refl) (is_new later p (Pipe []) could.pipe.inode refl refl refl) (could.pipe.rights ∙ sym can.pipe.rights) a h in
    let second : Keeps (open_at d p to_read pid f (set_inode p (Pipe []) now)) (open_at d p to_read pid f (set_inode p (Pipe []) later)) a =
    open_keeps (set_inode p (Pipe []) now) (set_inode p (Pipe []) later) d p to_read pid f (record { description = can.reader.description; unheld = can.reader.unheld }) (record { description = could.reader.description; unheld = could.reader.unheld }) can.slot.free could.slot.free a first in
    open_keeps (open_at d p to_read pid f (set_inode p (Pipe []) now)) (open_at d p to_read pid f (set_inode p (Pipe []) later)) e p to_write pid g
    (unused_after (set_inode p (Pipe []) now) d p to_read pid f e (record { description = can.writer.description; unheld = can.writer.unheld }) can.different)
    (unused_after (set_inode p (Pipe []) later) d p to_read pid f e (record { description = could.writer.description; unheld = could.writer.unheld }) could.different)
    (free_after (set_inode p (Pipe []) now) d p to_read pid f g can.other.free can.apart)
    (free_after (set_inode p (Pipe []) later) d p to_read pid f g could.other.free could.apart) a second

-- a table that gives the same descriptions, with the same fixed parts
pub record TablesAlike (now later : Kernel) (t u : FinMap nat_cmp ℕ) : Type 0 where
  pub same : u ≡ t
  pub fixed : (f d : ℕ) → get t f ≡ Some d → fixed_of later d ≡ fixed_of now d

pub own_tables : (now later : Kernel) (pid : ℕ) → OwnAlike now later pid → TablesAlike now later (table_of now pid) (table_of later pid)
own_tables now later pid h = record { same = h.table; fixed = h.fixed }

held_reads : (now later : Kernel) (t u : FinMap nat_cmp ℕ) → TablesAlike now later t u → (p : ℕ) → held later p (λ it. it.reading) u ≡ held now p (λ it. it.reading) t
held_reads now later t u alike p = ap (held later p (λ it. it.reading)) alike.same ∙ held-alike now later p (λ it. it.reading) t (λ f d is. reads_alike now later p d (alike.fixed f d is))

held_writes : (now later : Kernel) (t u : FinMap nat_cmp ℕ) → TablesAlike now later t u → (p : ℕ) → held later p (λ it. it.writing) u ≡ held now p (λ it. it.writing) t
held_writes now later t u alike p = ap (held later p (λ it. it.writing)) alike.same ∙ held-alike now later p (λ it. it.writing) t (λ f d is. writes_alike now later p d (alike.fixed f d is))

-- a process in place of an old one, its table and the old one alike in both states
ends_move : (now later : Kernel) (q : ℕ) (x y : Process) (p : ℕ) (mode : Description → Bool) → held later p mode (table_of later q) ≡ held now p mode (table_of now q) → held later p mode y.table ≡ held now p mode x.table
    → ends later p mode ≡ ends now p mode → ends (set_process q y later) p mode ≡ ends (set_process q x now) p mode
ends_move now later q x y p mode old new h =
    let a : ends (set_process q x now) p mode + held now p mode (table_of now q) ≡ ends now p mode + held now p mode x.table = ends-set_process now q x p mode in
    let b : ends (set_process q y later) p mode + held later p mode (table_of later q) ≡ ends later p mode + held later p mode y.table = ends-set_process later q y p mode in
    omega arith

pub process_keeps : (now later : Kernel) (q : ℕ) (x y : Process) (m n : ℕ) → TablesAlike now later (table_of now q) (table_of later q) → TablesAlike now later x.table y.table
    → (a : Aspect) → Keeps now later a → Keeps (with_tables now now.descriptions (insert now.processes q x) m) (with_tables later later.descriptions (insert later.processes q y) n) a
unfolding ends
process_keeps now later q x y m n old new = tables_keep now later now.descriptions later.descriptions (insert now.processes q x) (insert later.processes q y) m n
    (λ d h. h)
    (λ p h. (
      ends_move now later q x y p (λ it. it.reading) (held_reads now later _ _ old p) (held_reads now later _ _ new p) h.0,
      ends_move now later q x y p (λ it. it.writing) (held_writes now later _ _ old p) (held_writes now later _ _ new p) h.1,
    ))

ends_go : (now later : Kernel) (q : ℕ) (p : ℕ) (mode : Description → Bool) → held later p mode (table_of later q) ≡ held now p mode (table_of now q) → ends later p mode ≡ ends now p mode → ends (without_process q later) p mode ≡ ends (without_process q now) p mode
ends_go now later q p mode old h =
    let a : held now p mode (table_of now q) + ends (without_process q now) p mode ≡ ends now p mode = ends-without_process now q p mode in
    let b : held later p mode (table_of later q) + ends (without_process q later) p mode ≡ ends later p mode = ends-without_process later q p mode in
    omega arith

pub end_keeps : (now later : Kernel) (q : ℕ) → TablesAlike now later (table_of now q) (table_of later q) → (a : Aspect) → Keeps now later a → Keeps (without_process q now) (without_process q later) a
end_keeps now later q old = tables_keep now later now.descriptions later.descriptions _ _ now.made later.made
    (λ d h. h)
    (λ p h. (
      ends_go now later q p (λ it. it.reading) (held_reads now later _ _ old p) h.0,
      ends_go now later q p (λ it. it.writing) (held_writes now later _ _ old p) h.1,
    ))

-- a slot more, and a slot less
pub shared_alike : (now later : Kernel) (pid f d from : ℕ) → get (table_of now pid) from ≡ Some d → TablesAlike now later (table_of now pid) (table_of later pid)
    → TablesAlike now later (insert (table_of now pid) f d) (insert (table_of later pid) f d)
shared_alike now later pid f d from is alike = record {
  same = ap (λ (t : FinMap nat_cmp ℕ). insert t f d) alike.same;
  fixed = λ g e gives. elim (from_insert (table_of now pid) f g d e gives) [
    | inl here ↦ let same : d ≡ e = here.1 in ap (fixed_of later) (sym same) ∙ alike.fixed from d is ∙ ap (fixed_of now) same
    | inr there ↦ alike.fixed g e there.1
  ];
}

pub cleared_alike : (now later : Kernel) (pid f : ℕ) → TablesAlike now later (table_of now pid) (table_of later pid) → TablesAlike now later (remove (table_of now pid) f) (remove (table_of later pid) f)
cleared_alike now later pid f alike = record {
  same = ap (λ (t : FinMap nat_cmp ℕ). remove t f) alike.same;
  fixed = λ g e gives. alike.fixed g e (from_remove (table_of now pid) f g e gives).1;
}

-- a process that is not there has no descriptors
pub none_alike : (now later : Kernel) (q : ℕ) → get now.processes q ≡ None → get later.processes q ≡ None → TablesAlike now later (table_of now q) (table_of later q)
none_alike now later q none none_later = record {
  same = ap table_in none_later ∙ sym (ap table_in none);
  fixed = λ f d is. absurd (not_none d (sym is ∙ ap (λ x. get (table_in x) f) none ∙ get-empty nat_cmp f));
}
