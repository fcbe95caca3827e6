-- A turnstile may be shared by threads, and a pass may go to another thread, where its kernel may.
use mathlib.Core.List.{[], ◌∷◌}
use mir.Syntax.{Lifetime, Sym, Ty}
use base.Fml.{Fml, Lft}
use base.Shift.{Keyless}
use denote.Exit.{no}
use denote.Param.{arg, param}
use denote.RawPtr.{Ptr}
use denote.RattleType.{RattleType}
use denote.Ref.{ShrRef}
use denote.Param.Send.{IsSend, IsSync, Frees, arg_send, param_send, part_keyless, param_sync, recorded_send, sendable, shr_send, struct_send}
use denote.Struct.Declared.{shape}
use denote.Struct.Owning as owning
use denote.Struct.Struct.{Struct}
use denote.Struct.Tuple.{TupleAt, type_at}
use Rattle.std.proofs.Crossing.{crosses, frees}
use Rattle.std.proofs.CrossingOver as over
use Rattle.std.specs.contracts.alloc.Global as Global
use Rattle.std.specs.contracts.option.Option.{the_row as OptionOf}
use Rattle.std.specs.declared.alloc.Allocator.{Ghosts}
use Rattle.atomic_table.specs.declared.shared.TableRule.{Ghosts as Rules}
use Rattle.atomic_table.specs.contracts.shared.Seat as Seat
use Rattle.atomic_table.specs.contracts.shared.Shared as Shared
use Rattle.atomic_table.specs.contracts.send_lease.SendLease as SendLease
use Rattle.atomic_table.proofs.Rights.{right_send}
use Rattle.atomic_table.proofs.Sent.{seat_keyless, shares_keyless}
use Rattle.heap.specs.contracts.Metered as Metered
use Rattle.machine.specs.declared.machine.Machine.{Ghosts as Machines}
use Rattle.turnstile.specs.contracts.pass.Pass as Pass
use Rattle.turnstile.specs.contracts.turnstile.Turnstile as Turnstile

-- any thread may give a block back to the heap
frees_by : {D : Type 0} {G : Type 1} (g : G) (holds : D → Ty → Ptr → Fml)
    → ((a : D) (τ : Ty) (p : Ptr) → Keyless (holds a τ p)) → Frees g holds
frees_by g holds h = record { frees = h }

-- a seat and a table may cross where what a slot holds may
seat_sent : (S V : RattleType) → IsSend S → IsSend (Seat.the_row S V)
seat_sent S V s = record {
  owned = λ d vs. ((λ vss. (tt, ((λ uss. (tt, tt)), tt))), seat_keyless S s V.coded.code d.table_id d.id d.me);
  leaving = λ k f vs. tt;
}

shared_sync : (S V K P : RattleType) (g : Rules P.Denot S.Denot V.Denot K.Denot) → IsSend S → IsSync (Shared.the_row S V K P g)
shared_sync S V K P g s =
    let fields : IsSync (Struct (owning.shape (Shared.the_type S V K P g))) = search sendable depth 20 in
    record { shared = λ d b o ν. (fields.shared (d.words, (d.slots, (tt, tt))) b o ν, shares_keyless S s V.coded.code d.table_id (g.holds d.key) d.words d.slots ν) }

lease_sync : (T A : RattleType) (g : Ghosts A.Denot) → Frees g g.dealloc_token → IsSync (SendLease.the_row T A g)
lease_sync T A g f = record { shared = λ d b o ν q. part_keyless (SendLease.the_row T A g) (right_send T A g f) q d b o }

pub heap_shared : IsSync (Metered.the_row Global.the_row)
heap_shared = search (sendable, crosses) depth 40

module _ (K : RattleType) (g : Machines K.Denot) (s : IsSend K) where
  option_sent : IsSend (OptionOf K)
  option_sent = search sendable depth 12

  pub pass_sent : IsSend (Pass.the_row K g)
  pass_sent = search (option_sent, seat_sent, sendable, crosses) depth 40 fits 30000

  pub turnstile_shared : IsSync (Turnstile.the_row K g)
  turnstile_shared = search (option_sent, shared_sync, lease_sync, sendable, crosses, over.crosses, frees_by, frees.frees) depth 40 fits 30000

-- what a closure of four captures is made of
four_sent : (ν : Sym) (A B C D : RattleType) → IsSend A → IsSend B → IsSend C → IsSend D → IsSend (TupleAt ν (A ∷ B ∷ C ∷ D ∷ []))
four_sent ν A B C D a b c d =
    recorded_send _ _ _ (type_at ν (A ∷ B ∷ C ∷ D ∷ [])).to_one (struct_send (shape (type_at ν (A ∷ B ∷ C ∷ D ∷ []))) (a, (b, (c, (d, tt)))))

-- a closure that has the runtime, the heap and the turnstile by reference, and a pass
pub closure_sent : (ν : Sym) (δ : Ty) (R K : RattleType) (g : Machines K.Denot) (ℓ ℓ' ℓ'' : Lifetime) (κ κ' κ'' : Lft) → IsSync R → IsSend K
    → IsSend (param 1 (arg δ no (TupleAt ν
    (ShrRef ℓ κ (param 0 R) ∷ ShrRef ℓ' κ' (Metered.the_row Global.the_row) ∷ ShrRef ℓ'' κ'' (Turnstile.the_row K g) ∷ Pass.the_row K g ∷ []))))
closure_sent ν δ R K g ℓ ℓ' ℓ'' κ κ' κ'' r s =
    param_send 1 _ (arg_send δ no _ (four_sent ν _ _ _ _ (shr_send ℓ κ (param 0 R) (param_sync 0 R r)) (shr_send ℓ' κ' _ heap_shared) (shr_send ℓ'' κ'' _ (turnstile_shared K g s)) (pass_sent K g s)))
