-- What the bytes at a place say.
use Rattle.std.proofs.Common.{◌≡◌, ℕ, ◌^◌, ◌<◌, List, length, drop, sym, ◌∙◌, ap, subst, arith, length-drop}
use Rattle.std.specs.Prelude.{Option, Some, None, IfSome, IfNone, MatchOption}
use Rattle.sqlite_disk.specs.Disk.{Holds}
use Rattle.commit_log.specs.Frame.{part, number, frame, frame_length, HasFrame, HasRecord}
use Rattle.commit_log.specs.File.{HasNone}
use Rattle.commit_log.proofs.Numbers.{value, value-number}
use Rattle.commit_log.proofs.Parts.{part_held, part_of_held}
use Rattle.commit_log.proofs.Spelled.{length-frame, length_at, place_at}

-- a number where a frame has its length is the length of the record that stands there
pub told_length : (key : ℕ) (file : List ℕ) (place told : ℕ) (head payload : List ℕ) → Holds file place head → length head ≡ 32 → number told ≡ part head 24 8 → told < 2 ^ 64 → HasRecord key file place payload → told ≡ length payload
told_length key file place told head payload held long told_at fits has =
    sym (value-number told fits)
    ∙ ap value (told_at ∙ sym (part_of_held file head place 24 8 held (omega arith)))
    ∙ length_at key file place has.0 payload has.1

-- a number where a frame has its place is that of the record that stands there
pub told_place : (key : ℕ) (file : List ℕ) (place told : ℕ) (head payload : List ℕ) → Holds file place head → length head ≡ 32 → number told ≡ part head 8 8 → told < 2 ^ 64 → place < 2 ^ 64 → HasRecord key file place payload → told ≡ place
told_place key file place told head payload held long told_at fits place_fits has =
    sym (value-number told fits)
    ∙ ap value (told_at ∙ sym (part_of_held file head place 8 8 held (omega arith)) ∙ place_at key file place has.0 payload has.1)
    ∙ value-number place place_fits

-- bytes that were read, and what they were found to be
pub found_in : (key : ℕ) (file : List ℕ) (place : ℕ) (bytes : List ℕ) (size : ℕ) (found : Option ℕ) → Holds file place bytes → length bytes ≡ size → length bytes < 2 ^ 64 → IfSome found (λ kept. (kept < 2 ^ 64) × (bytes ≡ frame key place kept (drop 32 bytes)))
    → IfNone found ((kept : ℕ) (payload : List ℕ) → bytes ≡ frame key place kept payload → ⊥)
    → MatchOption found ((kept : ℕ) (payload : List ℕ) → size ≡ frame_length payload → HasFrame key file place kept payload → ⊥) (λ kept. HasFrame key file place kept (drop 32 bytes))
found_in key file place bytes size None held whole fits good none = λ kept payload long has.
    none kept payload (
    sym (part_held file bytes place size held whole)
    ∙ part_held file (frame key place kept payload) place size has.bytes (omega (arith, length-frame key place kept payload))
    )
found_in key file place bytes size (Some kept) held whole fits good none = record {
  bytes = subst (Holds file place) good.1 held;
  kept_fits = good.0;
  length_fits = omega (arith, length-drop 32 bytes);
}

-- the same, where each record that may stand there would have this many bytes
pub none_or_found : (key : ℕ) (file : List ℕ) (place size : ℕ) (payload : List ℕ) (found : Option ℕ) → ((other : List ℕ) → HasRecord key file place other → size ≡ frame_length other)
    → MatchOption found ((kept : ℕ) (other : List ℕ) → size ≡ frame_length other → HasFrame key file place kept other → ⊥) (λ kept. HasFrame key file place kept payload)
    → MatchOption found (HasNone key file place) (λ kept. HasFrame key file place kept payload)
none_or_found key file place size payload None long none = λ other has. none has.0 other (long other has) has.1
none_or_found key file place size payload (Some kept) long found = found
