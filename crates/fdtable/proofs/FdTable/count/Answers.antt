use Rattle.std.proofs.Common.{◌≡◌, ◌+◌, ◌-◌, ◌∙◌, ℕ, suc, sym, ap, arith}
use Rattle.model.specs.FiniteMap as map
use Rattle.fdtable.specs.Open.{one_if}
use Rattle.fdtable.proofs.Opened.{all_open, among, among_more, none_behind, one_low, open_from, open_none}
use Rattle.fdtable.proofs.FdTable.count.Goals as goal

pub loop-number-init : goal.loop-number-init
loop-number-init c = (
  omega arith,
  (let whole : c.end-number-end.result - 0 ≡ c.end-number-end.result = omega arith in
      let all : among c.args.description (open_from c.args.self.now 0 (c.end-number-end.result - 0)) ≡ among c.args.description (map.entries c.args.self.now) =
      ap (λ n. among c.args.description (open_from c.args.self.now 0 n)) whole ∙ ap (among c.args.description) (all_open c.args.self.now c.end-number-end.result (none_behind c.args.self.now c.end-number-end.result c.end-number-end.ensures.open)) in omega (arith, all)),
)

pub loop-number-preserved : goal.loop-number-preserved
loop-number-preserved c =
    let m = c.args.self.now in
    let k : ℕ = c.loop-number.number in
    let d : ℕ = c.args.description in
    let rest : ℕ = c.end-number-end.result - (k + 1) in
    let more : suc rest ≡ c.end-number-end.result - k = omega arith in
    let one : c.one_if-count.result ≡ one_if d (map.get m k) = c.one_if-count.ensures ∙ ap (one_if d) c.get.ensures.value in
    let step : among d (open_from m k (c.end-number-end.result - k)) ≡ one_if d (map.get m k) + among d (open_from m (k + 1) rest) = ap (λ n. among d (open_from m k n)) (sym more) ∙ among_more m k rest d in
    let low = one_low d (map.get m k) in
    let before = c.loop-number.invariant.0 in
    let so_far = c.loop-number.invariant.1 in
    (omega (arith, before), omega (arith, so_far))

pub returns : goal.returns
returns c =
    let none : c.end-number-end.result - c.loop-number.number ≡ 0 = omega arith in
    let left : among c.args.description (open_from c.args.self.now c.loop-number.number (c.end-number-end.result - c.loop-number.number)) ≡ 0 =
    ap (λ n. among c.args.description (open_from c.args.self.now c.loop-number.number n)) none ∙ ap (among c.args.description) (open_none c.args.self.now c.loop-number.number) in
    let so_far = c.loop-number.invariant.1 in
    omega (arith, so_far, left)
