-- What never changes is no directory, no file and no pipe, and cannot be opened.
use Rattle.std.proofs.Common.{◌≡◌, Some}
use Rattle.model.specs.State.{A_directory, A_file, A_pipe, Fixed_content, Link_to, Fifo, Socket}
use Rattle.ids.specs.Fixed.{fixed_kind}
use Rattle.call_laws.specs.WellFormed.{CanBeOpened}

pub no_directory : {X : Type 0} (fixed : Fixed_content) → Some (fixed_kind fixed) ≡ Some A_directory → X
no_directory (Link_to target) is = absurd cc
no_directory Fifo is = absurd cc
no_directory Socket is = absurd cc

pub no_file : {X : Type 0} (fixed : Fixed_content) → Some (fixed_kind fixed) ≡ Some A_file → X
no_file (Link_to target) is = absurd cc
no_file Fifo is = absurd cc
no_file Socket is = absurd cc

pub no_pipe : {X : Type 0} (fixed : Fixed_content) → Some (fixed_kind fixed) ≡ Some A_pipe → X
no_pipe (Link_to target) is = absurd cc
no_pipe Fifo is = absurd cc
no_pipe Socket is = absurd cc

pub not_opened : (fixed : Fixed_content) → CanBeOpened (Some (fixed_kind fixed)) → ⊥
not_opened (Link_to target) can = can
not_opened Fifo can = can
not_opened Socket can = can
