-- What has to be on the disk before it is answered.
use Rattle.std.specs.Prelude.{Bool, true, false}
use Rattle.words.specs.declared.Sync.{Sync}
use Rattle.words.specs.declared.Sync.TheVariants.{Always, Soon, Never}

-- whether what was committed has to be, where the end of a transaction is among it, or none
abbrev pub waits : Sync → Bool → Bool
waits Always has_ended = true
waits Soon has_ended = has_ended
waits Never has_ended = false
