-- What a look at a state with changes on top tells.
use Rattle.std.proofs.Common.{◌≡◌, ℕ, ◌+◌, ◌-◌, ◌^◌, ◌<◌, List, [], ◌∷◌, ◌++◌, length, map, take, drop, get_or, Result, Ok, Err, IfOk, sym, ap, ap₂, ◌∙◌, arith, length-drop, length-take}
use Rattle.std.specs.Prelude.{min}
use Rattle.std.proofs.lemmas.List.{map_more}
use Rattle.model.specs.FiniteMap.{get}
use Rattle.model.specs.State.{Kernel}
use Rattle.model.specs.Calls.{Slot, slot_of}

-- a descriptor with what never changes of its description
abbrev pub slot_at : Kernel → ℕ × ℕ → ℕ × Slot
slot_at k e = (e.0, slot_of k e.1 (get k.descriptions e.1))

pub slots_more : (k : Kernel) (slots : List (ℕ × Slot)) (es : List (ℕ × ℕ)) (i : ℕ) (e : ℕ × ℕ) (slot : Slot) → i < length es → e ≡ get_or es i e → slots ≡ map (slot_at k) (take i es) → slot ≡ (slot_at k e).1 → slots ++ (e.0, slot) ∷ [] ≡ map (slot_at k) (take (i + 1) es)
slots_more k slots es i e slot below same so_far is =
    ap₂ (λ (a : List (ℕ × Slot)) (s : Slot). a ++ (e.0, s) ∷ []) so_far is ∙ ap (λ x. map (slot_at k) (take i es) ++ slot_at k x ∷ []) same
    ∙ sym (map_more (slot_at k) es i e below)

-- bytes of a short file end soon
pub end_small : {E : Type 0} (r : Result (List ℕ) E) (bytes : List ℕ) (place count : ℕ) → place < 2 ^ 32 → length bytes < 2 ^ 32 → IfOk r (λ a. a ≡ take count (drop place bytes)) → IfOk r (λ a. place + length a < 2 ^ 32)
end_small (Err e) bytes place count low few is = tt
end_small (Ok a) bytes place count low few is =
    let part : length a ≡ min count (length bytes - place) = ap length is ∙ length-take count (drop place bytes) ∙ ap (min count) (length-drop place bytes) in
    omega arith
