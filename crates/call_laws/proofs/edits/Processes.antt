-- What a changed process changes.
use Rattle.std.proofs.Common.{◌≡◌, ◌≢◌, ℕ, Option, ap, nat_cmp}
use Rattle.model.specs.FiniteMap.{FinMap}
use Rattle.model.specs.State.{Kernel, Process}
use Rattle.model.specs.Changes.{or_new, set_process}
use Rattle.call_laws.specs.Fits.{table_of}
use Rattle.model.proofs.Laws.{get_same, get_other}

abbrev pub table_in : Option Process → FinMap nat_cmp ℕ
table_in x = (or_new x).table

pub table_here : (k : Kernel) (pid : ℕ) (process : Process) → table_of (set_process pid process k) pid ≡ process.table
table_here k pid process = ap table_in (get_same k.processes pid process)

pub table_there : (k : Kernel) (pid : ℕ) (process : Process) (q : ℕ) → q ≢ pid → table_of (set_process pid process k) q ≡ table_of k q
table_there k pid process q away = ap table_in (get_other k.processes pid q process away)
