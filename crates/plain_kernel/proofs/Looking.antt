-- What a look at a plain kernel tells.
use Rattle.std.proofs.Common.{◌≡◌, ℕ, ◌+◌, ◌<◌, Bool, true, false, ◌||◌, ◌==◌, nat_lt, List, [], ◌∷◌, length, map, take, drop, Option, Some, None, Result, Ok, Err, IfOk, refl, sym, ap, ◌∙◌, arith, ◌++◌, get_or, ◌^◌, ◌-◌, length-drop, length-take, nat_cmp}
use Rattle.std.specs.Prelude.{min}
use Rattle.std.proofs.lemmas.List.{map_more}
use Rattle.model.specs.FiniteMap.{get, entries, entries-empty}
use Rattle.model.specs.State.{Name, Kernel, Kind, Description, Process, entry_of, kind_of, links, mapped, names_of}
use Rattle.model.specs.Changes.{process_of, or_new, is_reached}
use Rattle.model.specs.Calls.{Slot, slot_of}
use Rattle.plain_kernel.specs.Counts.{opened_by_all}
use Rattle.plain_kernel.proofs.Counted.{reached_is}

-- what a name gives, with its kind
pub found_told : (k : Kernel) (d : ℕ) (x : Name) (n : ℕ) (kd : Option Kind) → Some n ≡ get (names_of k d) x → kd ≡ kind_of k n → Some (n, kd) ≡ entry_of k d x
found_told k d x n kd is same = ap (λ (a : Option Kind). Some (n, a)) same ∙ ap (mapped (λ n. (n, kind_of k n))) is

pub not_found : (k : Kernel) (d : ℕ) (x : Name) → None ≡ get (names_of k d) x → None ≡ entry_of k d x
not_found k d x is = ap (mapped (λ n. (n, kind_of k n))) is

-- a descriptor with what never changes of its description
abbrev pub slot_at : Kernel → ℕ × ℕ → ℕ × Slot
slot_at k e = (e.0, slot_of k e.1 (get k.descriptions e.1))

-- a value that equals another equals a third
pub told_by : {A E : Type 0} (r : Result A E) (x y : A) → x ≡ y → IfOk r (λ a. a ≡ x) → IfOk r (λ a. a ≡ y)
told_by (Ok a) x y same is = is ∙ same
told_by (Err e) x y same is = tt

pub told_of : {A B E : Type 0} (f : A → B) (r : Result A E) (x y : B) → x ≡ y → IfOk r (λ a. f a ≡ x) → IfOk r (λ a. f a ≡ y)
told_of f (Ok a) x y same is = is ∙ same
told_of f (Err e) x y same is = tt

-- what never changes of a description
abbrev described : ℕ → Description → Option Kind → Slot
described n it kind = record { description = n; inode = it.inode; kind = kind; reading = it.reading; writing = it.writing; appending = it.appending }

pub slot_told : (k : Kernel) (n : ℕ) (it : Description) (kind : Option Kind) → Some it ≡ get k.descriptions n → kind ≡ kind_of k it.inode → described n it kind ≡ slot_of k n (get k.descriptions n)
slot_told k n it kind is same = ap (described n it) same ∙ ap (slot_of k n) is

-- a process that is not there has no descriptors
pub no_table : (k : Kernel) (pid : ℕ) → None ≡ get k.processes pid → ◌≡◌ {A = List (ℕ × Slot)} [] (map (slot_at k) (entries (process_of k pid).table))
no_table k pid none = ap (map (slot_at k)) (sym (entries-empty nat_cmp)) ∙ ap (λ (o : Option Process). map (slot_at k) (entries (or_new o).table)) none

pub slots_more : (k : Kernel) (slots : List (ℕ × Slot)) (es : List (ℕ × ℕ)) (i : ℕ) (e : ℕ × ℕ) (fd : ℕ) (slot : Slot) → i < length es → e ≡ get_or es i e → slots ≡ map (slot_at k) (take i es) → fd ≡ e.0 → slot ≡ (slot_at k e).1 → slots ++ (fd, slot) ∷ [] ≡ map (slot_at k) (take (i + 1) es)
slots_more k slots es i e fd slot below same so_far first is =
    (λ j. so_far j ++ (first j, is j) ∷ []) ∙ ap (λ x. map (slot_at k) (take i es) ++ slot_at k x ∷ []) same
    ∙ sym (map_more (slot_at k) es i e below)

-- bytes of a short file end soon
pub end_small : {E : Type 0} (r : Result (List ℕ) E) (bytes : List ℕ) (offset count : ℕ) → offset < 2 ^ 32 → length bytes < 2 ^ 32 → IfOk r (λ a. a ≡ take count (drop offset bytes)) → IfOk r (λ a. offset + length a < 2 ^ 32)
end_small (Err e) bytes offset count low few is = tt
end_small (Ok a) bytes offset count low few is =
    let part : length a ≡ min count (length bytes - offset) = ap length is ∙ length-take count (drop offset bytes) ∙ ap (min count) (length-drop offset bytes) in
    omega arith

-- whether a name gives an inode, or a description
abbrev pub named : Kernel → ℕ → Bool
named k n = nat_lt 0 (links k n)

abbrev pub opened : Kernel → ℕ → Bool
opened k n = nat_lt 0 (opened_by_all k.descriptions n)

early : (a m o v : Bool) → v ≡ (a || m) → v ≡ true → true ≡ (a || (m || o))
early true m o v is met = refl
early false m o v is met = ap (λ b. b || o) (sym met ∙ is)

late : (a m o v : Bool) → v ≡ (a || m) → v ≡ false → o ≡ (a || (m || o))
late true m o v is missed = absurd (let h : true ≡ false = sym is ∙ missed in cc)
late false m o v is missed = ap (λ b. b || o) (sym missed ∙ is)

module _ (k : Kernel) (n root : ℕ) (v : Bool) (same : root ≡ k.root) (is : v ≡ ((n == root) || named k n)) where
  by_root : v ≡ ((n == k.root) || named k n)
  by_root = is ∙ ap (λ r. (n == r) || named k n) same

  pub reached_early : v ≡ true → true ≡ is_reached k n
  reached_early met = early (n == k.root) (named k n) (opened k n) v by_root met ∙ sym (reached_is k n)

  pub reached_late : (r : Bool) → v ≡ false → r ≡ opened k n → r ≡ is_reached k n
  reached_late r missed is_open = is_open ∙ late (n == k.root) (named k n) (opened k n) v by_root missed ∙ sym (reached_is k n)
