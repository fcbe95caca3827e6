use Rattle.std.proofs.Common.{◌≡◌, ◌++◌, ◌≤◌, ℕ, List, drop, length, max, sym, ap, ap₂, ◌∙◌, arith}
use Rattle.std.proofs.lemmas.List.{with_items_is}
use Rattle.fdtable.specs.Words.{bit_in}
use Rattle.fdtable.proofs.Bits.{front_bits, front_long}
use Rattle.fdtable.proofs.words.join.Goals as goal

pub returns-then-len-clause-bits : goal.returns-then-len-clause-bits
returns-then-len-clause-bits c i =
    let words : List ℕ = c.args.words.now.items in
    let others : List ℕ = c.args.other.items in
    let row : List ℕ = c.write_front.new.row in
    let low : length words ≤ length others = omega arith in
    let is : row ≡ words ++ drop (length words) others = c.write_front.ensures ∙ ap₂ (λ (ws : List ℕ) (os : List ℕ). ws ++ drop (length ws) os) c.as_slice.ensures.value c.as_mut_slice.ensures.value in
    let count = ap length is ∙ front_long words others low ∙ sym c.args.other.ok.0 in
    rw c.swap.ensures.x_after (ap (λ (ws : List ℕ). bit_in ws i) (with_items_is c.args.other row count ∙ is) ∙ front_bits words others low c.requires i)

pub returns-then-len-clause-long : goal.returns-then-len-clause-long
returns-then-len-clause-long c =
    let words : List ℕ = c.args.words.now.items in
    let others : List ℕ = c.args.other.items in
    let row : List ℕ = c.write_front.new.row in
    let low : length words ≤ length others = omega arith in
    let is : row ≡ words ++ drop (length words) others = c.write_front.ensures ∙ ap₂ (λ (ws : List ℕ) (os : List ℕ). ws ++ drop (length ws) os) c.as_slice.ensures.value c.as_mut_slice.ensures.value in
    let long : length row ≡ length others = ap length is ∙ front_long words others low in
    let most : length row ≡ max (length words) (length others) = omega (arith, long, low) in
    rw c.swap.ensures.x_after (ap length (with_items_is c.args.other row (long ∙ sym c.args.other.ok.0)) ∙ most)
