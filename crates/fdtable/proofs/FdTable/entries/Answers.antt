use Rattle.std.proofs.Common.{rules, ◌≡◌, ◌+◌, ◌-◌, ◌++◌, ◌∷◌, ◌∙◌, [], ℕ, suc, Some, None, sym, ap, arith, append-nil}
use Rattle.model.specs.FiniteMap as map
use Rattle.fdtable.proofs.Opened.{all_open, none_behind, open_from, open_more, open_none, open_past}
use Rattle.fdtable.proofs.FdTable.entries.Goals as goal
use Rattle.fdtable.proofs.FdTable.entries.Goals.{in-Some+in_ok-push, in_default}

pub loop-number-init : goal.loop-number-init
loop-number-init c =
    let whole : c.end-number-end.result - 0 ≡ c.end-number-end.result = omega arith in
    ap (λ es. es ++ open_from c.args.self.now 0 (c.end-number-end.result - 0)) c.new-entries.ensures.items
    ∙ ap (open_from c.args.self.now 0) whole
    ∙ all_open c.args.self.now c.end-number-end.result (none_behind c.args.self.now c.end-number-end.result c.end-number-end.ensures.open)

pub loop-number-preserved : goal.loop-number-preserved
loop-number-preserved c =
    let m = c.args.self.now in
    let k : ℕ = c.loop-number.number in
    let rest : ℕ = c.end-number-end.result - (k + 1) in
    let more : suc rest ≡ c.end-number-end.result - k = omega arith in
    let so_far = c.loop-number.entries.items in
    elim c.match-get.branch [
      | in-Some+in_ok-push w ↦ (
          let found : map.get m k ≡ Some w.in-Some.description = search rules in
          let grown : c.match-get.entries.items ≡ so_far ++ (k, w.in-Some.description) ∷ [] = search rules in
          ap (λ es. es ++ open_from m (k + 1) rest) grown ∙ sym (open_more m k rest w.in-Some.description so_far found))
      | in_default w ↦ (
          let found : map.get m k ≡ None = search rules in
          let same : c.match-get.entries.items ≡ so_far = search rules in
          ap (λ es. es ++ open_from m (k + 1) rest) same ∙ sym (open_past m k rest so_far found))
    ] ∙ ap (λ n. so_far ++ open_from m k n) more ∙ c.loop-number.invariant

pub returns : goal.returns
returns c =
    let none : c.end-number-end.result - c.loop-number.number ≡ 0 = omega arith in
    sym (append-nil c.loop-number.entries.items)
    ∙ ap (λ es. c.loop-number.entries.items ++ es) (sym (open_none c.args.self.now c.loop-number.number))
    ∙ ap (λ n. c.loop-number.entries.items ++ open_from c.args.self.now c.loop-number.number n) (sym none)
    ∙ c.loop-number.invariant
