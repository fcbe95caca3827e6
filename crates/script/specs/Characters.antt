-- The characters that mean something in scripts and schedules, as bytes.
use Rattle.std.specs.Prelude.{ℕ}

abbrev pub newline : ℕ
newline = 10

abbrev pub space : ℕ
space = 32

-- begins a comment
abbrev pub hash : ℕ
hash = 35

abbrev pub comma : ℕ
comma = 44

abbrev pub minus : ℕ
minus = 45

-- begins an escape, with the letter x
abbrev pub backslash : ℕ
backslash = 92

abbrev pub letter_x : ℕ
letter_x = 120
