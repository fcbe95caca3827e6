-- A port may go to another thread where its kernel may.
use denote.Param.Send.{IsSend, recorded_send, shr_send, struct_send, view_send}
use denote.Ref.{NamedLft}
use denote.RattleType.{RattleType}
use denote.Struct.Declared.{shape}
use Rattle.machine.specs.declared.machine.Machine.{Ghosts as Machines}
use Rattle.turnstile.proofs.Sent.{pass_sent, turnstile_shared}
use Rattle.ports.specs.contracts.port.TurnstilePort as Port
use Rattle.ports.specs.contracts.port.TurnstilePort.TheInside as Inside

-- what a port is made of: a turnstile by reference, and a pass
inside_sent : (ℓ : NamedLft) (K : RattleType) (g : Machines K.Denot) → IsSend K → IsSend (Inside.the_row ℓ K g)
inside_sent ℓ K g s = recorded_send _ _ _ (Inside.the_type ℓ K g).to_one (struct_send (shape (Inside.the_type ℓ K g))
    (shr_send ℓ.mir ℓ.lft _ (turnstile_shared K g s), (pass_sent K g s, tt)))

pub port_sent : (ℓ : NamedLft) (K : RattleType) (g : Machines K.Denot) → IsSend K → IsSend (Port.the_row ℓ K g)
port_sent ℓ K g s = view_send _ _ _ _ _ (inside_sent ℓ K g s)
