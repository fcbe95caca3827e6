use Rattle.std.proofs.Common.{◌≡◌, ◌+◌, ◌-◌, ◌*◌, ◌/◌, ◌<◌, ◌≤◌, min, max, ℕ, List, [], Option, get_or, take, drop, length, refl, sym, ap, subst, ◌∙◌, arith}
use Rattle.std.specs.Prelude.{Contains}
use Rattle.objects.specs.Contents.{Overlaid}
use Rattle.ids.specs.declared.limits.TheConstants.{BLOCK_LEN}
use Rattle.file_shadow.specs.View.{lookup, in_block}
use Rattle.file_shadow.specs.Steps.{IsFirstFrom, end_block}
use Rattle.file_shadow.proofs.Ends.{ends, reaches}
use Rattle.file_shadow.proofs.Clears.{first_le}
use Rattle.file_shadow.proofs.Views.{laid_more, laid_first, laid_last}
use Rattle.std.proofs.lemmas.List.Elements.{Contains-get_or}
use Rattle.file_shadow.proofs.Roomy.{roomy_more}
use Rattle.file_shadow.proofs.blocks.BlockSet.lay_over.Goals as goal

pub loop-i-init : goal.loop-i-init
loop-i-init c =
    let ns : List ℕ = c.args.self.now.numbers.items in
    let f : IsFirstFrom ns 0 c.first_from-first.result = subst (λ (ns : List ℕ). IsFirstFrom ns 0 c.first_from-first.result) c.as_slice-numbers.ensures.value c.first_from-first.ensures in
    record { len = refl; room = c.requires.room; bytes = λ p low. laid_first ns c.args.self.now.blocks.blocks c.first_from-first.result 0 p (get_or c.args.file.now.bytes p 0) f }

pub lay-requires-clause-room : goal.lay-requires-clause-room
lay-requires-clause-room c =
    let ns : List ℕ = c.args.self.now.numbers.items in
    let i : ℕ = c.loop-i.i in
    let value : c.as_slice-numbers.result.now ≡ ns = c.as_slice-numbers.ensures.value in
    let within : i < length ns = omega (arith, c.loop-i-test.true, c.first_from-last.ensures.within, ap length value) in
    let n : ℕ = get_or c.as_slice-numbers.result.now i 0 in
    let there : Contains ns n = subst (λ (x : List ℕ). Contains ns (get_or x i 0)) (sym value) (Contains-get_or ns i 0 within) in
    let room = c.loop-i.invariant.room n there (n * BLOCK_LEN / 15360) (omega arith) (omega arith) in
    let long = c.part.ensures.len in
    let high = c.min-high.ensures in
    omega (arith, room, long, high)

pub loop-i-preserved : goal.loop-i-preserved
loop-i-preserved c =
    let ns : List ℕ = c.args.self.now.numbers.items in
    let bs : List (List (Option ℕ)) = c.args.self.now.blocks.blocks in
    let i : ℕ = c.loop-i.i in
    let out : List ℕ = c.loop-i.file.bytes in
    let first : List ℕ = c.args.file.now.bytes in
    let value : c.as_slice-numbers.result.now ≡ ns = c.as_slice-numbers.ensures.value in
    let within : i < length ns = omega (arith, c.loop-i-test.true, c.first_from-last.ensures.within, ap length value) in
    let number : get_or c.as_slice-numbers.result.now i 0 ≡ get_or ns i 0 = ap (λ (x : List ℕ). get_or x i 0) value in
    let start : ℕ = get_or c.as_slice-numbers.result.now i 0 * BLOCK_LEN in
    let is_start : start ≡ get_or ns i 0 * BLOCK_LEN = ap (λ n. n * BLOCK_LEN) number in
    let is_from : start ≡ max start 0 = omega arith in
    let is_to : c.min-high.result ≡ min (0 + length out) (start + BLOCK_LEN) = c.min-high.ensures ∙ ap (λ n. min n (start + BLOCK_LEN)) (c.len-end.ensures.value ∙ sym c.loop-i.invariant.len ∙ (let e : length out ≡ 0 + length out = omega arith in e)) in
    let below_last : get_or c.as_slice-numbers.result.now i 0 < c.end_block.result = c.first_from-last.ensures.below i c.loop-i-test.true in
    let short : get_or c.as_slice-numbers.result.now i 0 < end_block 0 c.len-end.result = omega (arith, c.end_block.ensures.value) in
    let inside : start < 0 + c.len-end.result = reaches 0 c.len-end.result (end_block 0 c.len-end.result) (get_or c.as_slice-numbers.result.now i 0) (ends 0 c.len-end.result) (omega arith) short in
    let le : start ≤ c.min-high.result = omega (arith, c.min-high.ensures) in
    let to : ℕ = c.min-high.result in
    let chunk : c.part.result.now ≡ take (to - start) (drop (start - start) (get_or bs i [])) = c.part.ensures.value ∙ ap (λ n. take (to - start) (drop n (get_or bs i []))) (let e : 0 ≡ start - start = omega arith in e) in
    let long : length c.part.result.now ≡ to - start = c.part.ensures.len ∙ omega (arith, c.min-high.ensures) in
    let at : start ≡ start - 0 = omega arith in
    let over : Overlaid (to - start) (start - 0) (take (to - start) (drop (start - start) (get_or bs i []))) out c.lay.new.self.bytes =
    subst (λ (b : List (Option ℕ)). Overlaid (to - start) (start - 0) b out c.lay.new.self.bytes) chunk
    (subst (λ n. Overlaid n (start - 0) c.part.result.now out c.lay.new.self.bytes) long (subst (λ n. Overlaid (length c.part.result.now) n c.part.result.now out c.lay.new.self.bytes) at c.lay.ensures.bytes)) in
    record {
      len = over.len ∙ c.loop-i.invariant.len;
      room = roomy_more ns c.loop-i.file.rooms c.lay.new.self.rooms c.lay.ensures.room c.loop-i.invariant.room;
      bytes = λ p short. laid_more ns bs i c.requires.order.rising c.requires.order.same within 0 first out c.lay.new.self.bytes start start to is_start is_from is_to c.loop-i.invariant.bytes le over p (omega (arith, over.len));
    }

pub returns-clause-bytes : goal.returns-clause-bytes
returns-clause-bytes c = λ p low.
    let ns : List ℕ = c.args.self.now.numbers.items in
    let bs : List (List (Option ℕ)) = c.args.self.now.blocks.blocks in
    let count : ℕ = c.len-end.result in
    let value : c.as_slice-numbers.result.now ≡ ns = c.as_slice-numbers.ensures.value in
    let f : IsFirstFrom ns 0 c.first_from-first.result = subst (λ (ns : List ℕ). IsFirstFrom ns 0 c.first_from-first.result) value c.first_from-first.ensures in
    let g : IsFirstFrom ns (end_block 0 count) c.first_from-last.result = subst (λ n. IsFirstFrom ns n c.first_from-last.result) c.end_block.ensures.value (subst (λ (ns : List ℕ). IsFirstFrom ns c.end_block.result c.first_from-last.result) value c.first_from-last.ensures) in
    let order : c.first_from-first.result ≤ c.first_from-last.result = first_le ns 0 (end_block 0 count) c.first_from-first.result c.first_from-last.result f g (omega arith) in
    let is : c.loop-i.i ≡ c.first_from-last.result = omega (arith, c.loop-i-test.false, c.loop-i.auto.i-end order) in
    c.loop-i.invariant.bytes p (omega (arith, c.loop-i.invariant.len))
    ∙ ap (λ i. in_block (lookup ((0 + p) / BLOCK_LEN) (take i ns) (take i bs)) (0 + p) (get_or c.args.file.now.bytes p 0)) is
    ∙ laid_last ns bs c.first_from-last.result 0 count (end_block 0 count) p (get_or c.args.file.now.bytes p 0) (ends 0 count) g (omega (arith, c.len-end.ensures.value))
    ∙ (let e : 0 + p ≡ p = omega arith in ap (λ q. in_block (lookup (q / BLOCK_LEN) ns bs) q (get_or c.args.file.now.bytes p 0)) e)
