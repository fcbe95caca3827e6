use Rattle.std.proofs.Common.{◌≡◌, ◌+◌, ◌-◌, ◌∙◌, ℕ, suc, sym, ap, arith}
use Rattle.model.specs.FiniteMap as map
use Rattle.fdtable.specs.Open.{one_if}
use Rattle.fdtable.proofs.Opened.{all_laid, among, among_more, one_low, open_from, open_none}
use Rattle.fdtable.proofs.patch.SlotPatch.count_over.Goals as goal

pub loop-number-init : goal.loop-number-init
loop-number-init c = (
  omega arith,
  λ laid is. (let whole : c.end_over-number-end.result - 0 ≡ c.end_over-number-end.result = omega arith in
      let all : among c.args.description (open_from laid 0 (c.end_over-number-end.result - 0)) ≡ among c.args.description (map.entries laid) =
      ap (λ n. among c.args.description (open_from laid 0 n)) whole ∙ ap (among c.args.description) (all_laid c.args.self.now c.args.table.now laid c.end_over-number-end.result is c.end_over-number-end.ensures) in omega (arith, all)),
)

pub loop-number-preserved : goal.loop-number-preserved
loop-number-preserved c =
    let k : ℕ = c.loop-number.number in
    let d : ℕ = c.args.description in
    let rest : ℕ = c.end_over-number-end.result - (k + 1) in
    let more : suc rest ≡ c.end_over-number-end.result - k = omega arith in
    let low = one_low d c.get_over.result in
    let one = c.one_if-count.ensures in
    let before = c.loop-number.invariant.0 in (
      omega (arith, before, low, one),
      λ laid is. (
          let found : c.one_if-count.result ≡ one_if d (map.get laid k) = c.one_if-count.ensures ∙ ap (one_if d) (c.get_over.ensures ∙ sym (is k)) in
          let step : among d (open_from laid k (c.end_over-number-end.result - k)) ≡ one_if d (map.get laid k) + among d (open_from laid (k + 1) rest) = ap (λ n. among d (open_from laid k n)) (sym more) ∙ among_more laid k rest d in
          let so_far = c.loop-number.invariant.1 laid is in
          omega (arith, so_far, found, step)),
    )

pub returns : goal.returns
returns c laid is =
    let none : c.end_over-number-end.result - c.loop-number.number ≡ 0 = omega arith in
    let left : among c.args.description (open_from laid c.loop-number.number (c.end_over-number-end.result - c.loop-number.number)) ≡ 0 =
    ap (λ n. among c.args.description (open_from laid c.loop-number.number n)) none ∙ ap (among c.args.description) (open_none laid c.loop-number.number) in
    let so_far = c.loop-number.invariant.1 laid is in
    omega (arith, so_far, left)
