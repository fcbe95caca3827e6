-- How the script of a run is read. `old` and `new` are what the source has to give before and after.
use Rattle.std.specs.Prelude.{◌≡◌, ◌≤◌, List, ℕ, length, Option, Ok, Err, ⊤}
use Rattle.std.specs.Io.KnownBytes.{prepend_known, IsAtEnd}
use Rattle.script.specs.declared.limits.TheConstants.{SCRIPT_LIMIT}
use Rattle.script.specs.Scripts.{script_of}
use Rattle.script.specs.Contents.{ScriptContents}
use Rattle.script.specs.declared.faults.ScriptFault.{ScriptFault}
use Rattle.runner.specs.declared.fault.RunFault.{RunFault}
use Rattle.runner.specs.declared.fault.RunFault.TheVariants.{Script, Read, NoMemory}

-- The text is what a source gave, up to its end, or longer than a script may be.
pub record IsRead (old new : Option (List ℕ)) (text : List ℕ) : Type 0 where
  pub given : old ≡ prepend_known text new
  pub ended : length text ≤ SCRIPT_LIMIT → IsAtEnd new

-- What a source gave spells this script.
pub record GivesScript (old new : Option (List ℕ)) (script : ScriptContents) : Type 0 where
  pub text : List ℕ
  pub read : IsRead old new text
  pub spells : script_of text ≡ Ok script

-- What a source gave has this fault.
pub record GivesFault (old new : Option (List ℕ)) (fault : ScriptFault) : Type 0 where
  pub text : List ℕ
  pub read : IsRead old new text
  pub spells : script_of text ≡ Err fault

-- why no script was read: a fault of what the source gave, or that the source or memory has failed
abbrev pub NoScript : Option (List ℕ) → Option (List ℕ) → RunFault → Type 0
NoScript old new (Script fault) = GivesFault old new fault
NoScript old new Read = ⊤
NoScript old new NoMemory = ⊤
NoScript old new _ = ⊥
