use Rattle.std.proofs.Common.{rules, ◌≡◌, ◌+◌, ◌-◌, ◌++◌, ◌∷◌, ◌∙◌, [], ℕ, suc, Some, None, sym, ap, arith, append-nil}
use Rattle.model.specs.FiniteMap as map
use Rattle.fdtable.specs.Patches.{or_before}
use Rattle.fdtable.proofs.Opened.{all_laid, open_from, open_more, open_none, open_past}
use Rattle.fdtable.proofs.patch.SlotPatch.entries_over.Goals as goal
use Rattle.fdtable.proofs.patch.SlotPatch.entries_over.Goals.{in-Some+in_ok-push, in_default}

pub loop-number-init : goal.loop-number-init
loop-number-init c laid is =
    let whole : c.end_over-number-end.result - 0 ≡ c.end_over-number-end.result = omega arith in
    ap (λ es. es ++ open_from laid 0 (c.end_over-number-end.result - 0)) c.new-entries.ensures.items
    ∙ ap (open_from laid 0) whole
    ∙ all_laid c.args.self.now c.args.table.now laid c.end_over-number-end.result is c.end_over-number-end.ensures

pub loop-number-preserved : goal.loop-number-preserved
loop-number-preserved c laid is =
    let k : ℕ = c.loop-number.number in
    let rest : ℕ = c.end_over-number-end.result - (k + 1) in
    let more : suc rest ≡ c.end_over-number-end.result - k = omega arith in
    let so_far = c.loop-number.entries.items in
    elim c.match-get_over.branch [
      | in-Some+in_ok-push w ↦ (
          let given : or_before (map.get c.args.self.now k) (map.get c.args.table.now k) ≡ Some w.in-Some.description = search rules in
          let grown : c.match-get_over.entries.items ≡ so_far ++ (k, w.in-Some.description) ∷ [] = search rules in
          ap (λ es. es ++ open_from laid (k + 1) rest) grown ∙ sym (open_more laid k rest w.in-Some.description so_far (is k ∙ given)))
      | in_default w ↦ (
          let given : or_before (map.get c.args.self.now k) (map.get c.args.table.now k) ≡ None = search rules in
          let same : c.match-get_over.entries.items ≡ so_far = search rules in
          ap (λ es. es ++ open_from laid (k + 1) rest) same ∙ sym (open_past laid k rest so_far (is k ∙ given)))
    ] ∙ ap (λ n. so_far ++ open_from laid k n) more ∙ c.loop-number.invariant laid is

pub returns : goal.returns
returns c laid is =
    let none : c.end_over-number-end.result - c.loop-number.number ≡ 0 = omega arith in
    sym (append-nil c.loop-number.entries.items)
    ∙ ap (λ es. c.loop-number.entries.items ++ es) (sym (open_none laid c.loop-number.number))
    ∙ ap (λ n. c.loop-number.entries.items ++ open_from laid c.loop-number.number n) (sym none)
    ∙ c.loop-number.invariant laid is
