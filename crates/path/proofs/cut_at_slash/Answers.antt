use Rattle.std.proofs.Common.{◌≡◌, ◌+◌, ◌-◌, length, take, drop, sym, arith, length-drop}
use Rattle.std.proofs.lemmas.List.{take_all}
use Rattle.path.proofs.Read.{pieces-slash, pieces-whole}
use Rattle.path.proofs.cut_at_slash.Goals as goal

pub returns-in-Some-clause-pieces : goal.returns-in-Some-clause-pieces
returns-in-Some-clause-pieces c =
    let bytes = c.args.bytes.now in
    let end = c.in-Some.end in
    let all : take (length bytes - (end + 1)) (drop (end + 1) bytes) ≡ drop (end + 1) bytes = take_all _ _ (omega (arith, length-drop (end + 1) bytes)) in
    rw all (pieces-slash bytes end c.in-Some.ensures.within (sym c.in-Some.ensures.index))

pub returns-in-None-clause-pieces : goal.returns-in-None-clause-pieces
returns-in-None-clause-pieces c = pieces-whole c.args.bytes.now (sym c.in-None.ensures.index)
