-- What a descriptor of a process gives in a well-formed state, and the pipes that a process is told of.
use Rattle.std.proofs.Common.{◌≡◌, ℕ, ◌==◌, Bool, true, false, if◌then◌else◌, List, [], ◌∷◌, map, flat_map, Option, Some, None, IfOk, refl, sym, subst}
use Rattle.std.specs.List.{AllByRecursion, list_any}
use Rattle.model.specs.FiniteMap.{get, entries}
use Rattle.model.specs.State.{Kind, A_file, A_pipe, Kernel, Description, kind_of, mapped}
use Rattle.model.specs.Changes.{is_held}
use Rattle.model.specs.Plan.{EBADF, Plan, given, ◌>>=◌, or_refuse}
use Rattle.model.specs.Calls.{Call, Slot, slot_of, own}
use Rattle.model.specs.Plans.{slot, slot_at, is_pipe, pipe_in, each_once, pipes_in}
use Rattle.model.proofs.Laws.{append-all}
use Rattle.call_laws.specs.WellFormed.{CanBeOpened, WellFormed}
use Rattle.call_laws.specs.Fits.{table_of}
use Rattle.call_laws.proofs.Tidying.{reached, held_by, open_reached}
use Rattle.call_laws.proofs.calls.OwnSlots.{slot_in, Held, held_at, slot_at_is}

-- a slot of a description that is there and held, whose inode is reached
pub record IsOpen (k : Kernel) (s : Slot) : Type 0 where
  pub it : Description
  pub there : get k.descriptions s.description ≡ Some it
  pub kind : s.kind ≡ kind_of k s.inode
  pub can_be_opened : CanBeOpened s.kind
  pub held : is_held k s.description ≡ true
  pub reached : reached k s.inode ≡ true

slot_open : (k : Kernel) → WellFormed k → (d : ℕ) → is_held k d ≡ true → (it : Description) → get k.descriptions d ≡ Some it → IsOpen k (slot_in k d)
slot_open k well d held it is = subst (λ o. IsOpen k (slot_of k d o)) (sym is) (record {
  it = it;
  there = is;
  kind = refl;
  can_be_opened = well.descriptions d it is;
  held = held;
  reached = open_reached k d it held is;
})

pub is_open : (k : Kernel) → WellFormed k → (pid f : ℕ) (s : Slot) → Held k pid f s → IsOpen k s
is_open k well pid f s h =
    let there = well.slots pid f h.description h.gives in
    subst (IsOpen k) (sym h.slot) (slot_open k well h.description (held_by k pid f h.description h.gives) there.0 there.1)

-- a plan that goes on from a slot
pub with_slot : {A : Type 0} (k : Kernel) (pid : ℕ) (call : Call) (f : ℕ) (P : A → Type 0) (rest : Slot → Plan A) → ((s : Slot) → Held k pid f s → IfOk (given k (rest s)) P) → IfOk (given k (slot (own k pid call) f >>= rest)) P
with_slot {A} k pid call f P rest h = by_slot (slot_at (own k pid call) f) refl
  where
    by_slot : (o : Option Slot) → slot_at (own k pid call) f ≡ o → IfOk (given k (or_refuse EBADF o >>= rest)) P
    by_slot None e = tt
    by_slot (Some s) e = h s (held_at k pid call f s e)

pub kind_of_pipe : (o : Option Kind) → is_pipe o ≡ true → o ≡ Some A_pipe
kind_of_pipe (Some A_pipe) e = refl
kind_of_pipe o e = absurd cc

pub kind_of_file : (o : Option Kind) → CanBeOpened o → is_pipe o ≡ false → o ≡ Some A_file
kind_of_file (Some A_file) h e = refl
kind_of_file (Some A_pipe) h e = absurd cc
kind_of_file o h e = absurd h

-- all of these are pipes
abbrev pub ArePipes : Kernel → List ℕ → Type 0
ArePipes k pipes = AllByRecursion (λ p. kind_of k p ≡ Some A_pipe) pipes

pub slot_pipes : (k : Kernel) (d : ℕ) → ArePipes k (pipe_in (Some (slot_in k d)))
slot_pipes k d = by_description (get k.descriptions d)
  where
    by_kind : (n : ℕ) (b : Bool) → is_pipe (kind_of k n) ≡ b → ArePipes k (if b then n ∷ [] else [])
    by_kind n true e = (kind_of_pipe (kind_of k n) e, tt)
    by_kind n false e = tt

    by_description : (x : Option Description) → ArePipes k (pipe_in (Some (slot_of k d x)))
    by_description None = tt
    by_description (Some it) = by_kind it.inode (is_pipe (kind_of k it.inode)) refl

pub slot_at_pipes : (k : Kernel) (pid : ℕ) (call : Call) (f : ℕ) → ArePipes k (pipe_in (slot_at (own k pid call) f))
slot_at_pipes k pid call f = subst (λ o. ArePipes k (pipe_in o)) (sym (slot_at_is k pid call f)) (by_slot (get (table_of k pid) f))
  where
    by_slot : (o : Option ℕ) → ArePipes k (pipe_in (mapped (slot_in k) o))
    by_slot None = tt
    by_slot (Some d) = slot_pipes k d

all_once : (P : ℕ → Type 0) (before ns : List ℕ) → AllByRecursion P ns → AllByRecursion P (each_once before ns)
all_once P before [] h = tt
all_once P before (n ∷ ns) h = by_test (list_any (λ m. m == n) before) (all_once P before ns h.1) (all_once P (n ∷ before) ns h.1)
  where
    by_test : (b : Bool) → AllByRecursion P (each_once before ns) → AllByRecursion P (each_once (n ∷ before) ns) → AllByRecursion P (if b then each_once before ns else n ∷ each_once (n ∷ before) ns)
    by_test true f g = f
    by_test false f g = (h.0, g)

table_pipes : (k : Kernel) (es : List (ℕ × ℕ)) → ArePipes k (flat_map (λ (e : ℕ × Slot). pipe_in (Some e.1)) (map (λ e. (e.0, slot_in k e.1)) es))
table_pipes k [] = tt
table_pipes k (e ∷ es) = append-all (λ p. kind_of k p ≡ Some A_pipe) (pipe_in (Some (slot_in k e.1))) _ (slot_pipes k e.1) (table_pipes k es)

pub own_pipes : (k : Kernel) (pid : ℕ) (call : Call) → ArePipes k (pipes_in (own k pid call))
own_pipes k pid call = all_once (λ p. kind_of k p ≡ Some A_pipe) [] _ (table_pipes k (entries (table_of k pid)))
