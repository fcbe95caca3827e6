-- The passes of two threads may go to another thread, in a closure.
use mathlib.Core.List.{[], ◌∷◌}
use mir.Syntax.{Lifetime, Sym, Ty}
use denote.Struct.Tuple.{TupleAt, type_at}
use base.Fml.{Lft}
use denote.Exit.{no}
use denote.Param.{arg, param}
use denote.Ref.{ShrRef}
use denote.Param.Send.{IsSend, IsSync, arg_send, param_send, param_sync, recorded_send, shr_send, struct_send}
use denote.Struct.Declared.{shape}
use denote.RattleType.{RattleType}
use Rattle.std.specs.contracts.alloc.Global as Global
use Rattle.heap.specs.contracts.Metered as Metered
use Rattle.machine.specs.declared.machine.Machine.{Ghosts as Machines}
use Rattle.turnstile.specs.contracts.turnstile.Turnstile as Turnstile
use Rattle.turnstile.proofs.Sent.{heap_shared, pass_sent, turnstile_shared}
use Rattle.turnstile.specs.contracts.pass.Pass as Pass

-- what a closure of five captures is made of
five_sent : (ν : Sym) (A B C D E : RattleType) → IsSend A → IsSend B → IsSend C → IsSend D → IsSend E → IsSend (TupleAt ν (A ∷ B ∷ C ∷ D ∷ E ∷ []))
five_sent ν A B C D E a b c d e =
    recorded_send _ _ _ (type_at ν (A ∷ B ∷ C ∷ D ∷ E ∷ [])).to_one (struct_send (shape (type_at ν (A ∷ B ∷ C ∷ D ∷ E ∷ []))) (a, (b, (c, (d, (e, tt))))))

-- a closure that has the runtime, the heap and the turnstile by reference, and two passes
pub closure_with_two_sent : (ν : Sym) (δ : Ty) (R K : RattleType) (g : Machines K.Denot) (ℓ ℓ' ℓ'' : Lifetime) (κ κ' κ'' : Lft) → IsSync R → IsSend K
    → IsSend (param 1 (arg δ no (TupleAt ν
    (ShrRef ℓ κ (param 0 R) ∷ ShrRef ℓ' κ' (Metered.the_row Global.the_row) ∷ ShrRef ℓ'' κ'' (Turnstile.the_row K g) ∷ Pass.the_row K g ∷ Pass.the_row K g ∷ []))))
closure_with_two_sent ν δ R K g ℓ ℓ' ℓ'' κ κ' κ'' r s =
    param_send 1 _ (arg_send δ no _ (five_sent ν _ _ _ _ _ (shr_send ℓ κ (param 0 R) (param_sync 0 R r)) (shr_send ℓ' κ' _ heap_shared) (shr_send ℓ'' κ'' _ (turnstile_shared K g s)) (pass_sent K g s) (pass_sent K g s)))
