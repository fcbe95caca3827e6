-- What follows where a call has succeeded, and where it has failed.
use Rattle.std.proofs.Common.{Result, Ok, Err, IfOk, OnOk, OnErr}

pub ok_so : {A E P Q : Type 0} (r : Result A E) → (P → Q) → OnOk r P → OnOk r Q
ok_so (Ok x) f h = f h
ok_so (Err e) f h = tt

pub err_so : {A E P Q : Type 0} (r : Result A E) → (P → Q) → OnErr r P → OnErr r Q
err_so (Ok x) f h = tt
err_so (Err e) f h = f h

-- three things that hold where a call has succeeded give a fourth
pub ok_three : {A E P Q R S : Type 0} (r : Result A E) → (P → Q → R → S) → OnOk r P → OnOk r Q → OnOk r R → OnOk r S
ok_three (Ok x) f p q r = f p q r
ok_three (Err e) f p q r = tt

-- what follows of the value of a call that has succeeded
pub if_so : {A E : Type 0} (r : Result A E) (P Q : A → Type 0) → ((x : A) → P x → Q x) → IfOk r P → IfOk r Q
if_so (Ok x) P Q f h = f x h
if_so (Err e) P Q f h = tt

-- what holds anyhow holds where a call has failed
pub on_err : {A E P : Type 0} (r : Result A E) → P → OnErr r P
on_err (Ok x) h = tt
on_err (Err e) h = h
