use Rattle.std.proofs.Common.{◌≡◌, ◌+◌, ◌*◌, ◌<◌, ℕ, List, [], Option, get_or, set, length, sym, subst, ap, ◌∙◌, arith, inl, inr}
use Rattle.std.proofs.lemmas.List.{get_or_read, length-map}
use Rattle.ids.specs.declared.limits.TheConstants.{BLOCK_LEN}
use Rattle.file_shadow.specs.Arena.{block_at, blocks_at}
use Rattle.file_shadow.specs.Steps.{Pasted}
use Rattle.file_shadow.proofs.Lying.{block_is, one_changes, pasted_in, written}
use Rattle.file_shadow.proofs.block.Blocks.paste.Goals as goal

pub returns : goal.returns
returns c =
    let places : List ℕ = c.self.inside.places.items in
    let old : List (Option ℕ) = c.self.inside.cells.items in
    let new : List (Option ℕ) = c.write_over.new.out in
    let index : ℕ = c.args.index in
    let low : index < length places = omega (arith, c.requires.within, ap (λ v. length v.blocks) c.self.view_is, length-map places (block_at old)) in
    let is_place : c.index.result.now ≡ get_or places index 0 = get_or_read places index c.index.result.now low c.index.ensures 0 in
    let pasted : Pasted (length c.args.bytes.now) (get_or places index 0 * BLOCK_LEN + c.args.offset) c.args.bytes.now old new =
    subst (λ p. Pasted (length c.args.bytes.now) (p * BLOCK_LEN + c.args.offset) c.args.bytes.now old new) is_place
    (subst (λ (b : List (Option ℕ)). Pasted (length c.args.bytes.now) (c.index.result.now * BLOCK_LEN + c.args.offset) c.args.bytes.now b new) c.as_mut_slice.ensures.value c.write_over.ensures) in
    let whole : length old ≡ length places * BLOCK_LEN = c.self.invariant.whole in
    let small : get_or places index 0 < length places = c.self.invariant.within index low in
    record {
      block = block_at new (get_or places index 0);
      here = subst (λ (b : List (Option ℕ)). Pasted (length c.args.bytes.now) c.args.offset c.args.bytes.now b (block_at new (get_or places index 0)))
          (sym (block_is old places index low) ∙ ap (λ v. get_or v.blocks index []) c.self.view_is)
          (pasted_in old new (get_or places index 0) (length c.args.bytes.now) c.args.offset c.args.bytes.now (omega arith) c.requires.fits pasted);
      blocks = ap (λ (b : List (Option ℕ)). blocks_at b places) (written c.self.inside.cells.len new old (c.self.inside.cells.ok.0 ∙ sym pasted.len))
          ∙ one_changes places old new c.self.invariant index low pasted.len (λ p out. pasted.outside p (elim out [ inl a ↦ inl (omega arith) | inr b ↦ inr (omega (arith, c.requires.fits)) ]))
          ∙ ap (λ v. set v.blocks index (block_at new (get_or places index 0))) c.self.view_is;
      room = ap (λ v. v.room) c.self.view_is;
    }
