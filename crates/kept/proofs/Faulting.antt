-- What a fault of a store leaves.
use Rattle.std.proofs.Common.{◌≡◌, ◌⊎◌, Some, None, Result, Ok, Err, IsErrAnd, OnErr, refl, sym, inl, inr, subst}
use Rattle.sqlite_disk.specs.declared.Disk.{Ghosts}
use Rattle.commit_log.specs.Causes.{HasCause}
use Rattle.commit_log.specs.declared.error.Error.{Error}
use Rattle.commit_log.specs.declared.error.Error.TheVariants as error
use Rattle.commit_log.specs.declared.log.Log.{Log}
use Rattle.kept.specs.Faults.{fault_of_log, IsOfLog, UnlessFailed, UnlessOfLog}
use Rattle.kept.specs.declared.fault.StoreFault.{StoreFault}
use Rattle.kept.specs.declared.fault.StoreFault.TheVariants as fault

pub unless_so : (e : StoreFault) (P Q : Type 0) → (P → Q) → UnlessOfLog e P → UnlessOfLog e Q
unless_so fault.NoMemory P Q so h = so h
unless_so fault.Lost P Q so h = so h
unless_so fault.OutOfStep P Q so h = so h
unless_so (fault.Log e) P Q so h = tt

pub holds_unless : (e : StoreFault) (P : Type 0) → P → UnlessOfLog e P
holds_unless fault.NoMemory P p = p
holds_unless fault.Lost P p = p
holds_unless fault.OutOfStep P p = p
holds_unless (fault.Log e) P p = tt

-- of a fault of writing
pub memory_unless : (e : StoreFault) (P : Type 0) → IsOfLog e → (e ≡ fault.NoMemory → P) → UnlessOfLog e P
memory_unless fault.NoMemory P of_log memory = memory refl
memory_unless fault.Lost P of_log memory = absurd of_log
memory_unless fault.OutOfStep P of_log memory = absurd of_log
memory_unless (fault.Log e) P of_log memory = tt

pub told_of_log : (e : Error) → IsOfLog (fault_of_log e)
told_of_log error.Memory = tt
told_of_log error.NotALog = tt
told_of_log (error.OtherVersion v) = tt
told_of_log (error.Damaged p) = tt
told_of_log error.Taken = tt
told_of_log error.Full = tt
told_of_log error.Failed = tt
told_of_log error.TooLong = tt

memory_is : (e : Error) → fault_of_log e ≡ fault.NoMemory → e ≡ error.Memory
memory_is error.Memory h = refl
memory_is error.NotALog h = absurd cc
memory_is (error.OtherVersion v) h = absurd cc
memory_is (error.Damaged p) h = absurd cc
memory_is error.Taken h = absurd cc
memory_is error.Full h = absurd cc
memory_is error.Failed h = absurd cc
memory_is error.TooLong h = absurd cc

-- refused memory changes no log
pub log_stays : {D : Type 0} {g : Ghosts D} (old new : Log D g) (Limit : Type 0) (e : Error) → (((old.failure ≡ Some e) × (new ≡ old)) ⊎ ((old.failure ≡ None) × HasCause old new Limit e)) → fault_of_log e ≡ fault.NoMemory → new ≡ old
log_stays old new Limit e cause is = elim cause [ inl same ↦ same.1 | inr why ↦ subst (HasCause old new Limit) (memory_is e is) why.1 ]

-- of a fault that is handed on
pub unless_from : {T : Type 0} (r : Result T StoreFault) (e : StoreFault) (P : Type 0) → IsErrAnd r (λ f. f ≡ e) → UnlessOfLog e P → UnlessFailed r P
unless_from (Ok x) e P same u = absurd same
unless_from (Err f) e P same u = subst (λ (f : StoreFault). UnlessOfLog f P) (sym same) u

pub on_err_from : {T : Type 0} (r : Result T StoreFault) (e : StoreFault) (P : Type 0) → IsErrAnd r (λ f. f ≡ e) → UnlessOfLog e P → OnErr r (UnlessFailed r P)
on_err_from (Ok x) e P same u = absurd same
on_err_from (Err f) e P same u = subst (λ (f : StoreFault). UnlessOfLog f P) (sym same) u

pub unless_with : {T : Type 0} (r : Result T StoreFault) (P Q : Type 0) → (P → Q) → UnlessFailed r P → UnlessFailed r Q
unless_with (Ok x) P Q so h = so h
unless_with (Err e) P Q so h = unless_so e P Q so h
