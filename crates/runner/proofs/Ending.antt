-- What comes of a check's end.
use Rattle.std.proofs.Common.{Result, Ok, Err, IfErr, OnOk}
use Rattle.std.specs.Result.{OnErr}

pub on_ok : {A E P Q : Type 0} (r : Result A E) → (P → Q) → OnOk r P → OnOk r Q
on_ok (Ok x) f h = f h
on_ok (Err e) f h = tt

pub if_err : {A E P : Type 0} {Q R : E → Type 0} (r : Result A E) → ((e : E) → P → Q e → R e) → OnErr r P → IfErr r Q → IfErr r R
if_err (Ok x) f p h = tt
if_err (Err e) f p h = f e p h
