-- What crates above use of touches that are each kept once.
use Rattle.std.proofs.Common.{◌≡◌, ◌∙◌, sym, refl, ap, List, [], ◌∷◌, ◌++◌, length, take, ◌-◌, if◌then◌else◌, inl, inr, arith}
use Rattle.std.proofs.lemmas.Bool.{cases_Bool}
use Rattle.std.proofs.Math.Seq.{take-append_seam}
use Rattle.std.proofs.lemmas.List.{append_assoc, append-nil, get_or_push, length_push}
use Rattle.model.specs.Steps.{Touch}
use Rattle.model.specs.Clashes.{has_touch}
use Rattle.contention.specs.Contenders.{Contender, contender_at, nobody}
use Rattle.records.specs.Touches.{with_touch, with_touches}
pub use Rattle.contention.proofs.Distinct.{any_distinct}

-- touches are added in one go or in two
pub with_touches-append : (held ts us : List Touch) → with_touches held (ts ++ us) ≡ with_touches (with_touches held ts) us
with_touches-append held [] us = refl
with_touches-append held (t ∷ ts) us = with_touches-append (with_touch held t) ts us

-- the process that came last
pub grown_touches : (all : List Contender) (p : Contender) → (contender_at (all ++ p ∷ []) (length (all ++ p ∷ []) - 1)).touches ≡ p.touches
grown_touches all p =
    ap (λ (c : Contender). c.touches) (get_or_push all p nobody (length (all ++ p ∷ []) - 1) (let l = length_push all p in omega arith))

-- what is held stays where it is
pub record Begins (held all : List Touch) : Type 0 where
  pub more : List Touch
  pub is : all ≡ held ++ more

one_more : (held : List Touch) (t : Touch) → Begins held (with_touch held t)
one_more held t = elim (cases_Bool (has_touch t.aspect t.write held)) [
  | inl has ↦ record { more = []; is = ap (λ b. if b then held else held ++ t ∷ []) has ∙ sym (append-nil held) }
  | inr new ↦ record { more = t ∷ []; is = ap (λ b. if b then held else held ++ t ∷ []) new }
]

pub held_begins : (held ts : List Touch) → Begins held (with_touches held ts)
held_begins held [] = record { more = []; is = sym (append-nil held) }
held_begins held (t ∷ ts) =
    let one = one_more held t in
    let rest = held_begins (with_touch held t) ts in
    record { more = one.more ++ rest.more; is = rest.is ∙ ap (λ xs. xs ++ rest.more) one.is ∙ append_assoc held one.more rest.more }

pub take-held : (held ts : List Touch) → take (length held) (with_touches held ts) ≡ held
take-held held ts =
    let begins = held_begins held ts in
    ap (take (length held)) begins.is ∙ take-append_seam held begins.more
