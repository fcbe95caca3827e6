-- Threads may share a script. The kit finds this by itself of types without snapshots, piece by piece.
use base.Fml.{Fml}
use base.Shift.{Keyless}
use mir.Syntax.{Ty}
use denote.RawPtr.{Ptr}
use denote.Param.Send.{IsSync, Frees, sendable}
use Rattle.std.proofs.Crossing.{crosses, frees}
use Rattle.std.proofs.CrossingOver as over
use Rattle.ids.specs.contracts.bytes.Bytes as Bytes
use Rattle.ids.specs.contracts.call.Call as Call
use Rattle.ids.specs.contracts.call.Op as Op
use Rattle.script.specs.contracts.read.Line as Line
use Rattle.script.specs.contracts.read.Script as Script

-- any thread may give a block back to the heap
frees_by : {D : Type 0} {G : Type 1} (g : G) (holds : D → Ty → Ptr → Fml)
    → ((a : D) (τ : Ty) (p : Ptr) → Keyless (holds a τ p)) → Frees g holds
frees_by g holds h = record { frees = h }

bytes_shared : IsSync Bytes.the_row
bytes_shared = search (sendable, crosses, over.crosses, frees_by, frees.frees) depth 40 fits 30000

call_shared : IsSync (Call.the_field).row
call_shared = search (bytes_shared, sendable, crosses, over.crosses) depth 40 fits 30000

op_shared : IsSync (Op.the_field).row
op_shared = search (call_shared, sendable, crosses, over.crosses) depth 40 fits 30000

line_shared : IsSync Line.the_row
line_shared = search (op_shared, sendable, crosses, over.crosses) depth 40 fits 30000

pub script_shared : IsSync Script.the_row
script_shared = search (line_shared, sendable, crosses, over.crosses) depth 40 fits 30000
