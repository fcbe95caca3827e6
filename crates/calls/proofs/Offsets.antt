-- A read from an offset at which no file can have a byte comes to what one from a nearer such offset comes to.
use Rattle.std.proofs.Common.{◌≡◌, ℕ, ◌+◌, ◌-◌, ◌<◌, ◌≤◌, ◌^◌, List, [], ◌∷◌, Bool, true, false, Option, Result, Ok, Err, map, min, length, take, drop, sym, ap, subst, ◌∙◌, arith, inl, inr}
use Rattle.std.proofs.lemmas.Bool.{cases_lt, true≢false}
use Rattle.std.proofs.lemmas.List.{length-take, length-drop, nil_from_length}
use Rattle.model.specs.State.{Kernel, file_of}
use Rattle.model.specs.Aspects.{Size, Block}
use Rattle.model.specs.Plan.{Errno as Refused, Read_file, ask, blocks}
use Rattle.model.specs.Steps.{Touch}
use Rattle.ids.specs.declared.errno.Refusal.{Refusal}
use Rattle.ids.specs.declared.errno.Refusal.TheVariants.{Errno, NoMemory}
use Rattle.look.specs.Asked.{asked, noting, Comes}

-- where no bytes are read from an offset on, none are read further on
none_further : (count near offset : ℕ) (file : List ℕ) → near ≤ offset → take count (drop near file) ≡ [] → take count (drop offset file) ≡ []
none_further count near offset file further none =
    let here : length (take count (drop near file)) ≡ min count (length file - near) = length-take count (drop near file) ∙ ap (min count) (length-drop near file) in
    let there : length (take count (drop offset file)) ≡ min count (length file - offset) = length-take count (drop offset file) ∙ ap (min count) (length-drop offset file) in
    let nothing : length (take count (drop near file)) ≡ 0 = ap (λ (bytes : List ℕ). length bytes) none in
    nil_from_length (take count (drop offset file)) (omega arith)

abbrev bytes_of : Result (List ℕ) Refused × Option (List Touch) → List ℕ
bytes_of (Ok bytes, after) = bytes
bytes_of (Err e, after) = []

abbrev is_given : Result (List ℕ) Refused × Option (List Touch) → Bool
is_given (Ok bytes, after) = true
is_given (Err e, after) = false

module _ (k : Kernel) (n count : ℕ) (before : Option (List Touch)) where
  -- a read that gives no bytes sees the length alone
  none_read : (offset : ℕ) → take count (drop offset (file_of k n)) ≡ [] → asked k (ask (Read_file n offset count)) before ≡ (Ok [], noting before (Size n ∷ []))
  none_read offset none = λ i. (Ok (none i), noting before (Size n ∷ map (Block n) (blocks offset (length (none i)))))

  -- from an offset on, by what is read from the last offset of 32 bits on where it lies behind that
  pub read_from_last : (offset near : ℕ) (bytes : List ℕ) (after : Option (List Touch)) → near ≡ min offset (2 ^ 32 - 1) → near + length bytes < 2 ^ 32 → Comes k (ask (Read_file n near count)) before (Ok bytes) after → Comes k (ask (Read_file n offset count)) before (Ok bytes) after
  read_from_last offset near bytes after is low read = elim (cases_lt near offset) [
    | inl behind ↦
        let few : length bytes ≡ 0 = omega arith in
        let none : take count (drop near (file_of k n)) ≡ [] = ap bytes_of read.is ∙ nil_from_length bytes few in
        record { is = none_read offset (none_further count near offset (file_of k n) (omega arith) none) ∙ sym (none_read near none) ∙ read.is }
    | inr there ↦
        let same : near ≡ offset = omega arith in
        subst (λ (at : ℕ). Comes k (ask (Read_file n at count)) before (Ok bytes) after) same read
  ]

  -- a read is refused for memory alone, whatever its offset
  pub read_fails : (offset near : ℕ) (why : Refusal) (after : Option (List Touch)) → Comes k (ask (Read_file n near count)) before (Err why) after → Comes k (ask (Read_file n offset count)) before (Err why) after
  read_fails offset near (Errno e) after read = absurd (true≢false (ap is_given read.is))
  read_fails offset near NoMemory after read = record { is = tt }
