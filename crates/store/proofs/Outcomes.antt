-- What follows of a result's Ok, of its Err, or of both.
use Rattle.std.proofs.Common.{Result, Ok, Err}
use Rattle.std.specs.Result.{OnOk, OnErr}

pub on_ok_by : {X E P Q : Type 0} (r : Result X E) → (P → Q) → OnOk r P → OnOk r Q
on_ok_by (Ok x) f h = f h
on_ok_by (Err e) f h = tt

pub on_err_by : {X E P Q : Type 0} (r : Result X E) → (P → Q) → OnErr r P → OnErr r Q
on_err_by (Ok x) f h = tt
on_err_by (Err e) f h = f h

pub either_way : {X E P : Type 0} (r : Result X E) → OnOk r P → OnErr r P → P
either_way (Ok x) h k = h
either_way (Err e) h k = k
