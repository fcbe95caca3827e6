use Rattle.std.proofs.Common.{◌≡◌, ◌+◌, ◌*◌, ◌<◌, ℕ, List, [], Option, get_or, set, length, min, sym, subst, ap, ◌∙◌, arith, inl, inr}
use Rattle.std.proofs.lemmas.List.{get_or_read, length-map}
use Rattle.ids.specs.declared.limits.TheConstants.{BLOCK_LEN}
use Rattle.file_shadow.specs.Arena.{block_at, blocks_at}
use Rattle.file_shadow.specs.Steps.{Kept, Wiped}
use Rattle.file_shadow.proofs.Lying.{block_is, kept_in, one_changes, written}
use Rattle.file_shadow.proofs.block.Blocks.clear_from.Goals as goal

pub returns : goal.returns
returns c =
    let places : List ℕ = c.self.inside.places.items in
    let old : List (Option ℕ) = c.self.inside.cells.items in
    let new : List (Option ℕ) = c.wipe.new.out in
    let index : ℕ = c.args.index in
    let low : index < length places = omega (arith, c.requires, ap (λ v. length v.blocks) c.self.view_is, length-map places (block_at old)) in
    let is_place : c.index.result.now ≡ get_or places index 0 = get_or_read places index c.index.result.now low c.index.ensures 0 in
    let wiped : Wiped (get_or places index 0 * BLOCK_LEN + min c.args.offset BLOCK_LEN) (get_or places index 0 * BLOCK_LEN + BLOCK_LEN) old new =
    subst (λ p. Wiped (p * BLOCK_LEN + min c.args.offset BLOCK_LEN) (p * BLOCK_LEN + BLOCK_LEN) old new) is_place
    (subst (λ n. Wiped (c.index.result.now * BLOCK_LEN + n) (c.index.result.now * BLOCK_LEN + BLOCK_LEN) old new) c.min.ensures
    (subst (λ (b : List (Option ℕ)). Wiped (c.index.result.now * BLOCK_LEN + c.min.result) (c.index.result.now * BLOCK_LEN + BLOCK_LEN) b new) c.as_mut_slice.ensures.value c.wipe.ensures)) in
    let whole : length old ≡ length places * BLOCK_LEN = c.self.invariant.whole in
    let small : get_or places index 0 < length places = c.self.invariant.within index low in
    record {
      block = block_at new (get_or places index 0);
      here = subst (λ (b : List (Option ℕ)). Kept c.args.offset b (block_at new (get_or places index 0))) (sym (block_is old places index low) ∙ ap (λ v. get_or v.blocks index []) c.self.view_is)
          (kept_in old new (get_or places index 0) c.args.offset (omega arith) wiped);
      blocks = ap (λ (b : List (Option ℕ)). blocks_at b places) (written c.self.inside.cells.len new old (c.self.inside.cells.ok.0 ∙ sym wiped.len))
          ∙ one_changes places old new c.self.invariant index low wiped.len (λ p out. wiped.outside p (elim out [ inl a ↦ inl (omega arith) | inr b ↦ inr (omega arith) ]))
          ∙ ap (λ v. set v.blocks index (block_at new (get_or places index 0))) c.self.view_is;
      room = ap (λ v. v.room) c.self.view_is;
    }
