-- Sets of named bits. A set is the sum of the bits that it has.
use Rattle.std.specs.Prelude.{ℕ, ◌==◌, Bool}
use Rattle.std.specs.Int.RustNames.{bit_and}
use Rattle.ids.specs.declared.flags.OpenFlags.{OpenFlags}
use Rattle.ids.specs.declared.flags.BeginFlags.{BeginFlags}

-- whether a set has this bit
abbrev pub has : ℕ → ℕ → Bool
has bits bit = bit_and bits bit == bit

-- how a file is opened (POSIX.1-2017, fcntl.h; the numbers are the kernel's own)
abbrev pub open_bits : OpenFlags → ℕ
open_bits flags = flags.0

abbrev pub is_reading : OpenFlags → Bool
is_reading flags = has flags.0 1

abbrev pub is_writing : OpenFlags → Bool
is_writing flags = has flags.0 2

abbrev pub is_creating : OpenFlags → Bool
is_creating flags = has flags.0 4

abbrev pub is_exclusive : OpenFlags → Bool
is_exclusive flags = has flags.0 8

abbrev pub is_truncating : OpenFlags → Bool
is_truncating flags = has flags.0 16

abbrev pub is_appending : OpenFlags → Bool
is_appending flags = has flags.0 32

-- how a transaction begins (TxOS, section 4: sys_xbegin takes flags)
abbrev pub begin_bits : BeginFlags → ℕ
begin_bits flags = flags.0

abbrev pub is_restarting : BeginFlags → Bool
is_restarting flags = has flags.0 1

abbrev pub is_aborting_unsupported : BeginFlags → Bool
is_aborting_unsupported flags = has flags.0 2
