-- In well-formed states a process's own part, as a call is told it, is the same exactly where its table and what that gives are alike.
use Rattle.std.proofs.Common.{◌≡◌, ℕ, true, List, [], ◌∷◌, map, Option, Some, refl, sym, ap, ap₂, ◌∙◌, false, None, nat_cmp}
use Rattle.model.specs.FiniteMap.{get, entries, same_entries_map, FinMap}
use Rattle.model.specs.State.{Kernel, Description, mapped}
use Rattle.model.specs.Calls.{Call, Fork, Slot, Own, slot_of, own, birth_of}
use Rattle.model.specs.Plans.{slot_at}
use Rattle.model.specs.Entries.{is_inside}
use Rattle.call_laws.specs.WellFormed.{WellFormed}
use Rattle.call_laws.specs.Fits.{table_of, fixed_of, OwnAlike}
use Rattle.call_laws.proofs.calls.OwnSlots.{slot_in, slot_at_is, number_in_slot}
use Rattle.std.specs.Cmp.{nat_cmp_total}
use Rattle.call_laws.proofs.Maps.{maps_alike}
use Rattle.model.proofs.Laws.{all_entries}

-- what a call is told of its process, from its parts
pub slot_or : ℕ → Option Slot → Slot
slot_or d (Some s) = s
slot_or d None = record { description = d; inode = 0; kind = None; reading = false; writing = false; appending = false }

slot_by_fixed : (k : Kernel) (d : ℕ) (x : Option Description) → slot_of k d x ≡ slot_or d (mapped (λ it. slot_of k d (Some it)) x)
unfolding slot_or
slot_by_fixed k d (Some it) = refl
slot_by_fixed k d None = refl

listed : Kernel → FinMap nat_cmp ℕ → List (ℕ × Slot)
listed k table = map (λ e. (e.0, slot_of k e.1 (get k.descriptions e.1))) (entries table)

pub own_of_alike : (now later : Kernel) (pid : ℕ) (call : Call) → OwnAlike now later pid → birth_of later pid call ≡ birth_of now pid call → own later pid call ≡ own now pid call
unfolding listed
own_of_alike now later pid call h born =
    let tables : listed later (table_of later pid) ≡ listed now (table_of now pid) =
    ap (listed later) h.table ∙ maps_alike (λ (e : ℕ × ℕ). (e.0, slot_of later e.1 (get later.descriptions e.1))) (λ (e : ℕ × ℕ). (e.0, slot_of now e.1 (get now.descriptions e.1))) (entries (table_of now pid))
    (all_entries nat_cmp_total (λ (f : ℕ) (d : ℕ). ◌≡◌ {A = ℕ × Slot} (f, slot_of later d (get later.descriptions d)) (f, slot_of now d (get now.descriptions d))) (table_of now pid)
    (λ f d is. ap (λ (s : Slot). (f, s)) (slot_by_fixed later d (get later.descriptions d) ∙ ap (slot_or d) (h.fixed f d is) ∙ sym (slot_by_fixed now d (get now.descriptions d))))) in
    λ i. record { root = h.root i; bounds = h.bounds i; pid = pid; table = tables i; birth = born i }

-- the table again, from what is told of it
abbrev plain : List (ℕ × Slot) → List (ℕ × ℕ)
plain table = map (λ e. (e.0, e.1.description)) table

plain_again : (k : Kernel) (es : List (ℕ × ℕ)) → plain (map (λ e. (e.0, slot_in k e.1)) es) ≡ es
plain_again k [] = refl
plain_again k (e ∷ es) = ap₂ (λ (d : ℕ) (rest : List (ℕ × ℕ)). (e.0, d) ∷ rest) (number_in_slot k e.1 (get k.descriptions e.1)) (plain_again k es)

fixed_is : (k : Kernel) (d : ℕ) (it : Description) → get k.descriptions d ≡ Some it → fixed_of k d ≡ Some (slot_in k d)
fixed_is k d it e = ap (mapped (λ it. slot_of k d (Some it))) e ∙ ap (λ (o : Option Description). Some (slot_of k d o)) (sym e)

pub alike_of_own : (k l : Kernel) (pid : ℕ) (c : Call) → WellFormed k → WellFormed l → own l pid c ≡ own k pid c → OwnAlike k l pid
alike_of_own k l pid c well well_too same = record { root = ap (λ (o : Own). o.root) same; bounds = ap (λ (o : Own). o.bounds) same; table = tables; fixed = fixed }
  where
    tables : table_of l pid ≡ table_of k pid
    tables = same_entries_map (table_of l pid) (table_of k pid) (sym (plain_again l (entries (table_of l pid))) ∙ ap (λ (o : Own). plain o.table) same ∙ plain_again k (entries (table_of k pid)))

    fixed : (f d : ℕ) → get (table_of k pid) f ≡ Some d → fixed_of l d ≡ fixed_of k d
    fixed f d is =
        let is_too : get (table_of l pid) f ≡ Some d = ap (λ t. get t f) tables ∙ is in
        let here = well.slots pid f d is in
        let there = well_too.slots pid f d is_too in
        let slots : Some (slot_in l d) ≡ Some (slot_in k d) =
        ap (mapped (slot_in l)) (sym is_too) ∙ sym (slot_at_is l pid c f) ∙ ap (λ (o : Own). slot_at o f) same ∙ slot_at_is k pid c f ∙ ap (mapped (slot_in k)) is in
        fixed_is l d there.0 there.1 ∙ slots ∙ sym (fixed_is k d here.0 here.1)

-- inside a transaction no call sees births
born_inside : (k l : Kernel) (pid : ℕ) (c : Call) → is_inside c ≡ true → birth_of l pid c ≡ birth_of k pid c
born_inside k l pid Fork e = absurd cc
born_inside k l pid c e = refl

pub own_inside : (k l : Kernel) (pid : ℕ) (c : Call) → is_inside c ≡ true → OwnAlike k l pid → own l pid c ≡ own k pid c
own_inside k l pid c inside alike = own_of_alike k l pid c alike (born_inside k l pid c inside)
