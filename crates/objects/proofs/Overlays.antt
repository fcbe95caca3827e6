-- Bytes that are laid over others, one more at a time.
use Rattle.std.proofs.Common.{◌≡◌, ◌+◌, ◌-◌, ◌<◌, ℕ, List, Option, None, length, get_or, ap, ◌∙◌, arith, inl, inr}
use Rattle.std.specs.Option.{unwrap_or}
use Rattle.std.proofs.Math.ListN.{set}
use Rattle.std.proofs.lemmas.Bool.{cases_eq}
use Rattle.std.proofs.lemmas.Grind.{get_or-set_at}
use Rattle.std.proofs.lemmas.List.{length-set, get_or-set_other}
use Rattle.objects.specs.Contents.{Overlaid}

-- one more byte
pub overlaid_more : (i offset : ℕ) (bytes : List (Option ℕ)) (old out : List ℕ) (byte : ℕ) → offset + i < length out → byte ≡ unwrap_or (get_or bytes i None) (get_or out (offset + i) 0)
    → Overlaid i offset bytes old out → Overlaid (i + 1) offset bytes old (set out (offset + i) byte)
overlaid_more i offset bytes old out byte low is before = record {
  len = length-set out (offset + i) byte ∙ before.len;
  inside = λ p from to. elim (cases_eq p (offset + i)) [
    | inl here ↦
        let at : i ≡ p - offset = omega arith in
        get_or-set_at out (offset + i) p byte 0 here low ∙ is ∙ ap (λ (o : ℕ). unwrap_or (get_or bytes i None) o) (before.outside (offset + i) (inr (omega arith)))
        ∙ ap (λ n. unwrap_or (get_or bytes i None) (get_or old n 0)) (let e : offset + i ≡ p = omega arith in e) ∙ ap (λ n. unwrap_or (get_or bytes n None) (get_or old p 0)) at
    | inr away ↦ get_or-set_other out (offset + i) p byte 0 away ∙ before.inside p from (omega arith)
  ];
  outside = λ p out'. get_or-set_other out (offset + i) p byte 0 (elim out' [ inl a ↦ omega arith | inr b ↦ omega arith ]) ∙ before.outside p (elim out' [ inl a ↦ inl a | inr b ↦ inr (omega arith) ]);
}
