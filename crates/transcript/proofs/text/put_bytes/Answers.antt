use Rattle.std.proofs.Common.{◌≡◌, ◌++◌, ◌∙◌, List, ℕ, ap, sym, append_assoc, rules}
use Rattle.transcript.specs.Text.{byte_text}
use Rattle.transcript.proofs.Printing.{CanPrint-after, Prints-as, Prints-more}
use Rattle.transcript.proofs.text.put_bytes.Goals as goal

pub loop-rest-preserved-then-is_empty : goal.loop-rest-preserved-then-is_empty
loop-rest-preserved-then-is_empty g c =
    let so_far = c.loop-rest.invariant.1 in
    let front : List ℕ = so_far.0 in
    let portion : List ℕ = c.split_at.result.0.now in
    let behind : List ℕ = c.split_at.result.1.now in
    let printed = Prints-more byte_text front portion so_far.2 c.put_portion.ensures in
    let halves : c.loop-rest.rest.now ≡ portion ++ behind = search rules in (
      CanPrint-after printed c.requires,
      (front ++ portion, so_far.1 ∙ ap (λ (xs : List ℕ). front ++ xs) halves ∙ sym (append_assoc front portion behind), printed),
    )

pub loop-rest-preserved : goal.loop-rest-preserved
loop-rest-preserved g c =
    let so_far = c.loop-rest.invariant.1 in
    let front : List ℕ = so_far.0 in
    let plain : List ℕ = c.split_plain.result.0.now in
    let others : List ℕ = c.split_plain.result.1.now in
    let printed = Prints-more byte_text front plain so_far.2 (Prints-as c.put.ensures (sym c.split_plain.ensures.plain)) in (
      CanPrint-after printed c.requires,
      (front ++ plain, so_far.1 ∙ ap (λ (xs : List ℕ). front ++ xs) c.split_plain.ensures.parts ∙ sym (append_assoc front plain others), printed),
    )
