use Rattle.std.proofs.Common.{suc, ◌+◌, length, arith, sym, subst}
use Rattle.std.proofs.lemmas.List.{take_all}
use Rattle.model.specs.Passing.{Passes}
use Rattle.replay.proofs.Passing.{legal_histories_pass}
use Rattle.replay.proofs.Prefixes.{passes_take}
use Rattle.replay.proofs.legal_histories_have_no_fault.Goals as goal

pub returns : goal.returns
returns c = λ root setup limit es legal position fault.
    let wrong = fault.2 in
    let most = suc wrong.at + length es in
    wrong.fails (
      root,
      passes_take root setup es (suc wrong.at) most (omega arith)
          (subst (Passes root setup) (sym (take_all most es (omega arith))) (legal_histories_pass root setup limit es legal)),
    )
