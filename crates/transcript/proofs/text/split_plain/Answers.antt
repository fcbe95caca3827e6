use Rattle.std.proofs.Common.{◌≡◌, ◌++◌, ◌∙◌, List, ℕ, ap, sym, append_assoc, rules}
use Rattle.std.specs.Prelude.{flat_map}
use Rattle.std.proofs.lemmas.List.Concat.{flat_map-append}
use Rattle.transcript.specs.Text.{byte_text}
use Rattle.transcript.proofs.text.split_plain.Goals as goal

pub loop-portion-preserved : goal.loop-portion-preserved
loop-portion-preserved c =
    let so_far = c.loop-portion.invariant in
    let front : List ℕ = so_far.0 in
    let portion : List ℕ = c.split_at.result.0.now in
    let behind : List ℕ = c.split_at.result.1.now in
    let halves : c.loop-portion.rest.now ≡ portion ++ behind = search rules in
    let plain : flat_map byte_text portion ≡ portion = search rules in (
      front ++ portion,
      so_far.1 ∙ ap (λ (xs : List ℕ). front ++ xs) halves ∙ sym (append_assoc front portion behind),
      flat_map-append byte_text front portion
          ∙ ap (λ (xs : List ℕ). xs ++ flat_map byte_text portion) so_far.2
          ∙ ap (λ (xs : List ℕ). front ++ xs) plain,
    )
