-- What the bytes of a frame say.
use Rattle.std.proofs.Common.{◌≡◌, ℕ, ◌+◌, ◌-◌, ◌^◌, ◌<◌, ◌≤◌, List, ◌++◌, length, take, drop, sym, ◌∙◌, ap, ap₂, arith, append_assoc, length-append, drop-drop, take-append-drop}
use Rattle.std.proofs.lemmas.List.{append-nil, take_at, drop_at, take_all, drop_all, length-take-le}
use Rattle.sqlite_disk.specs.Digest.{digest}
use Rattle.sqlite_disk.specs.Disk.{Holds}
use Rattle.commit_log.specs.Frame.{part, number, content, frame, frame_length, HasFrame, HasRecord}
use Rattle.commit_log.specs.File.{magic, version, named, header}
use Rattle.commit_log.proofs.Numbers.{value, value-number, length-number}
use Rattle.commit_log.proofs.Parts.{part_is, held_part, part_of_held}

pub length-content : (place kept : ℕ) (payload : List ℕ) → length (content place kept payload) ≡ 24 + length payload
unfolding content
length-content place kept payload =
    omega (arith, length-append (number place) (number kept ++ (number (length payload) ++ payload)), length-append (number kept) (number (length payload) ++ payload), length-append (number (length payload)) payload, length-number place, length-number kept, length-number (length payload))

pub length-frame : (key place kept : ℕ) (payload : List ℕ) → length (frame key place kept payload) ≡ frame_length payload
unfolding frame
length-frame key place kept payload =
    omega (arith, length-append (number (digest key (content place kept payload))) (content place kept payload), length-number (digest key (content place kept payload)), length-content place kept payload)

pub drop_8_frame : (key place kept : ℕ) (payload : List ℕ) → drop 8 (frame key place kept payload) ≡ content place kept payload
unfolding frame
drop_8_frame key place kept payload = drop_at (number (digest key (content place kept payload))) (content place kept payload) 8 (length-number _)

-- what follows the place
tail_at_16 : (key place kept : ℕ) (payload : List ℕ) → drop 16 (frame key place kept payload) ≡ number kept ++ (number (length payload) ++ payload)
unfolding content
tail_at_16 key place kept payload =
    sym (drop-drop 8 8 (frame key place kept payload)) ∙ ap (drop 8) (drop_8_frame key place kept payload) ∙ drop_at (number place) (number kept ++ (number (length payload) ++ payload)) 8 (length-number place)

tail_at_24 : (key place kept : ℕ) (payload : List ℕ) → drop 24 (frame key place kept payload) ≡ number (length payload) ++ payload
tail_at_24 key place kept payload =
    sym (drop-drop 8 16 (frame key place kept payload)) ∙ ap (drop 8) (tail_at_16 key place kept payload) ∙ drop_at (number kept) (number (length payload) ++ payload) 8 (length-number kept)

pub drop_32_frame : (key place kept : ℕ) (payload : List ℕ) → drop 32 (frame key place kept payload) ≡ payload
drop_32_frame key place kept payload =
    sym (drop-drop 8 24 (frame key place kept payload)) ∙ ap (drop 8) (tail_at_24 key place kept payload) ∙ drop_at (number (length payload)) payload 8 (length-number _)

pub place_in_frame : (key place kept : ℕ) (payload : List ℕ) → part (frame key place kept payload) 8 8 ≡ number place
unfolding content
place_in_frame key place kept payload =
    part_is (frame key place kept payload) 8 8 ∙ ap (take 8) (drop_8_frame key place kept payload) ∙ take_at (number place) (number kept ++ (number (length payload) ++ payload)) 8 (length-number place)

pub kept_in_frame : (key place kept : ℕ) (payload : List ℕ) → part (frame key place kept payload) 16 8 ≡ number kept
kept_in_frame key place kept payload =
    part_is (frame key place kept payload) 16 8 ∙ ap (take 8) (tail_at_16 key place kept payload) ∙ take_at (number kept) _ 8 (length-number kept)

pub length_in_frame : (key place kept : ℕ) (payload : List ℕ) → part (frame key place kept payload) 24 8 ≡ number (length payload)
length_in_frame key place kept payload =
    part_is (frame key place kept payload) 24 8 ∙ ap (take 8) (tail_at_24 key place kept payload) ∙ take_at (number (length payload)) _ 8 (length-number _)

pub payload_in_frame : (key place kept : ℕ) (payload : List ℕ) → part (frame key place kept payload) 32 (length payload) ≡ payload
payload_in_frame key place kept payload =
    part_is (frame key place kept payload) 32 (length payload) ∙ ap (take (length payload)) (drop_32_frame key place kept payload) ∙ take_all (length payload) payload (omega arith)

-- a frame names its payload
module _ (key : ℕ) (file : List ℕ) (place kept : ℕ) (payload : List ℕ) (has : HasFrame key file place kept payload) where
  pub frame_within : place + frame_length payload ≤ length file
  frame_within = omega (arith, has.bytes.within, length-frame key place kept payload)

  pub place_at : part file (place + 8) 8 ≡ number place
  place_at = part_of_held file _ place 8 8 has.bytes (omega (arith, length-frame key place kept payload)) ∙ place_in_frame key place kept payload

  pub kept_at : value (part file (place + 16) 8) ≡ kept
  kept_at =
      ap value (part_of_held file _ place 16 8 has.bytes (omega (arith, length-frame key place kept payload)) ∙ kept_in_frame key place kept payload) ∙ value-number kept has.kept_fits

  pub length_at : value (part file (place + 24) 8) ≡ length payload
  length_at =
      ap value (part_of_held file _ place 24 8 has.bytes (omega (arith, length-frame key place kept payload)) ∙ length_in_frame key place kept payload) ∙ value-number (length payload) has.length_fits

  pub payload_at : part file (place + 32) (length payload) ≡ payload
  payload_at =
      part_of_held file _ place 32 (length payload) has.bytes (omega (arith, length-frame key place kept payload)) ∙ payload_in_frame key place kept payload

-- a place has one record at most
pub same_record : (key : ℕ) (file : List ℕ) (place : ℕ) (a b : List ℕ) → HasRecord key file place a → HasRecord key file place b → a ≡ b
same_record key file place a b first second =
    let long = sym (length_at key file place first.0 a first.1) ∙ length_at key file place second.0 b second.1 in
    sym (payload_at key file place first.0 a first.1) ∙ ap (part file (place + 32)) long ∙ payload_at key file place second.0 b second.1

length-named : (key : ℕ) → length (named key) ≡ 24
unfolding named
length-named key =
    omega (arith, length-append (number magic) (number version ++ number key), length-append (number version) (number key), length-number magic, length-number version, length-number key)

pub length-header : (key : ℕ) → length (header key) ≡ 32
unfolding header
length-header key =
    omega (arith, length-append (named key) (number (digest key (named key))), length-named key, length-number (digest key (named key)))

-- eight bytes and the rest
cut_8 : (f : List ℕ) (n : ℕ) → drop n f ≡ part f n 8 ++ drop (n + 8) f
cut_8 f n =
    sym (take-append-drop 8 (drop n f)) ∙ ap₂ (λ (a b : List ℕ). a ++ b) (sym (part_is f n 8)) (drop-drop 8 n f)

-- bytes that have the numbers of a frame where it has them are that frame
pub spelled : (key place kept d p l : ℕ) (f : List ℕ) → number d ≡ part f 0 8 → d ≡ digest key (drop 8 f) → number p ≡ part f 8 8 → p ≡ place → number kept ≡ part f 16 8 → number l ≡ part f 24 8 → l ≡ length (drop 32 f) → f ≡ frame key place kept (drop 32 f)
unfolding frame content
spelled key place kept d p l f d_at d_is p_at p_is kept_is l_at l_is =
    let last : drop 24 f ≡ number (length (drop 32 f)) ++ drop 32 f = cut_8 f 24 ∙ ap (λ (a : List ℕ). a ++ drop 32 f) (sym l_at ∙ ap number l_is) in
    let middle : drop 16 f ≡ number kept ++ (number (length (drop 32 f)) ++ drop 32 f) = cut_8 f 16 ∙ ap₂ (λ (a b : List ℕ). a ++ b) (sym kept_is) last in
    let whole : drop 8 f ≡ content place kept (drop 32 f) = cut_8 f 8 ∙ ap₂ (λ (a b : List ℕ). a ++ b) (sym p_at ∙ ap number p_is) middle in
    cut_8 f 0 ∙ ap₂ (λ (a b : List ℕ). a ++ b) (sym d_at ∙ ap number (d_is ∙ ap (digest key) whole)) whole

pub same_number : (a b : ℕ) → a < 2 ^ 64 → b < 2 ^ 64 → number a ≡ number b → a ≡ b
same_number a b a_fits b_fits same = sym (value-number a a_fits) ∙ ap value same ∙ value-number b b_fits

module _ (key place kept : ℕ) (payload f : List ℕ) (is : f ≡ frame key place kept payload) where
  pub says_digest : part f 0 8 ≡ number (digest key (drop 8 f))
  unfolding frame
  says_digest =
      ap (λ (x : List ℕ). part x 0 8) is
      ∙ part_is (frame key place kept payload) 0 8
      ∙ take_at (number (digest key (content place kept payload))) (content place kept payload) 8 (length-number _)
      ∙ ap (λ (x : List ℕ). number (digest key x)) (sym (ap (drop 8) is ∙ drop_8_frame key place kept payload))

  pub says_place : part f 8 8 ≡ number place
  unfolding content
  says_place =
      ap (λ (x : List ℕ). part x 8 8) is
      ∙ part_is (frame key place kept payload) 8 8
      ∙ ap (take 8) (drop_8_frame key place kept payload)
      ∙ take_at (number place) (number kept ++ (number (length payload) ++ payload)) 8 (length-number place)

  pub says_length : part f 24 8 ≡ number (length f - 32)
  says_length =
      let long : length payload ≡ length f - 32 = omega (arith, ap length is, length-frame key place kept payload) in
      ap (λ (x : List ℕ). part x 24 8) is ∙ length_in_frame key place kept payload ∙ ap number long

-- bytes that have the numbers of a header where it has them are that header
pub spelled_header : (m v k d : ℕ) (b : List ℕ) → length b ≡ 32 → number m ≡ part b 0 8 → m ≡ magic → number v ≡ part b 8 8 → v ≡ version → number k ≡ part b 16 8 → number d ≡ part b 24 8 → d ≡ digest k (take 24 b) → b ≡ header k
unfolding header named
spelled_header m v k d b whole m_at m_is v_at v_is k_at d_at d_is =
    let last : drop 24 b ≡ number d = cut_8 b 24 ∙ ap₂ (λ (x y : List ℕ). x ++ y) (sym d_at) (drop_all 32 b (omega arith)) ∙ append-nil (number d) in
    let head : take 24 b ≡ named k =
    sym (take_at (take 24 b) (drop 24 b) 24 (length-take-le 24 b (omega arith)))
    ∙ ap (take 24) (take-append-drop 24 b ∙ cut_8 b 0 ∙ ap₂ (λ (x y : List ℕ). x ++ y) (sym m_at ∙ ap number m_is) (cut_8 b 8 ∙ ap₂ (λ (x y : List ℕ). x ++ y) (sym v_at ∙ ap number v_is) (cut_8 b 16 ∙ ap₂ (λ (x y : List ℕ). x ++ y) (sym k_at) last)))
    ∙ ap (take 24) (sym (regroup (number magic) (number version) (number k) (number d)))
    ∙ take_at (named k) (number d) 24 (length-named k) in
    sym (take-append-drop 24 b) ∙ ap₂ (λ (x y : List ℕ). x ++ y) head (last ∙ ap number (d_is ∙ ap (digest k) head))
  where
    regroup : (w x y z : List ℕ) → (w ++ (x ++ y)) ++ z ≡ w ++ (x ++ (y ++ z))
    regroup w x y z = simp append_assoc

module _ (key : ℕ) (b : List ℕ) (is : b ≡ header key) where
  take_24 : take 24 b ≡ named key
  unfolding header
  take_24 = ap (take 24) is ∙ take_at (named key) (number (digest key (named key))) 24 (length-named key)

  drop_8 : drop 8 b ≡ (number version ++ number key) ++ number (digest key (named key))
  unfolding header named
  drop_8 =
      ap (drop 8) (is ∙ append_assoc (number magic) (number version ++ number key) (number (digest key (named key))))
      ∙ drop_at (number magic) ((number version ++ number key) ++ number (digest key (named key))) 8 (length-number magic)

  drop_16 : drop 16 b ≡ number key ++ number (digest key (named key))
  drop_16 =
      sym (drop-drop 8 8 b)
      ∙ ap (drop 8) (drop_8 ∙ append_assoc (number version) (number key) (number (digest key (named key))))
      ∙ drop_at (number version) (number key ++ number (digest key (named key))) 8 (length-number version)

  pub header_magic : part b 0 8 ≡ number magic
  unfolding header named
  header_magic =
      part_is b 0 8
      ∙ ap (take 8) (is ∙ append_assoc (number magic) (number version ++ number key) (number (digest key (named key))))
      ∙ take_at (number magic) ((number version ++ number key) ++ number (digest key (named key))) 8 (length-number magic)

  pub header_version : part b 8 8 ≡ number version
  header_version =
      part_is b 8 8
      ∙ ap (take 8) (drop_8 ∙ append_assoc (number version) (number key) (number (digest key (named key))))
      ∙ take_at (number version) (number key ++ number (digest key (named key))) 8 (length-number version)

  pub header_key : part b 16 8 ≡ number key
  header_key =
      part_is b 16 8 ∙ ap (take 8) drop_16 ∙ take_at (number key) (number (digest key (named key))) 8 (length-number key)

  pub header_digest : part b 24 8 ≡ number (digest key (take 24 b))
  header_digest =
      part_is b 24 8
      ∙ ap (take 8) (sym (drop-drop 8 16 b) ∙ ap (drop 8) drop_16 ∙ drop_at (number key) (number (digest key (named key))) 8 (length-number key))
      ∙ take_all 8 (number (digest key (named key))) (omega (arith, length-number (digest key (named key))))
      ∙ ap (λ (x : List ℕ). number (digest key x)) (sym take_24)

-- two numbers in front of what a file holds
pub two_numbers : (file bytes : List ℕ) (m v : ℕ) → Holds file 0 bytes → length bytes ≡ 32 → part bytes 0 8 ≡ number m → part bytes 8 8 ≡ number v → Holds file 0 (number m ++ number v)
two_numbers file bytes m v held whole first second =
    let long : length (number m ++ number v) ≡ 16 = omega (arith, length-append (number m) (number v), length-number m, length-number v) in
    let both : part bytes 0 16 ≡ number m ++ number v =
    part_is bytes 0 16
    ∙ ap (take 16) (cut_8 bytes 0 ∙ ap₂ (λ (x y : List ℕ). x ++ y) first (cut_8 bytes 8 ∙ ap (λ (x : List ℕ). x ++ drop 16 bytes) second) ∙ sym (append_assoc (number m) (number v) (drop 16 bytes)))
    ∙ take_at (number m ++ number v) (drop 16 bytes) 16 long in
    held_part file (number m ++ number v) 0 16 (omega (arith, held.within)) long (part_of_held file bytes 0 0 16 held (omega arith) ∙ both)

-- and back
pub numbers_in_front : (file bytes : List ℕ) (m v : ℕ) → Holds file 0 (number m ++ number v) → Holds file 0 bytes → length bytes ≡ 32 → (part bytes 0 8 ≡ number m) × (part bytes 8 8 ≡ number v)
numbers_in_front file bytes m v front held whole =
    let both = number m ++ number v in
    let long : length both ≡ 16 = omega (arith, length-append (number m) (number v), length-number m, length-number v) in
    let second : part both 8 8 ≡ number v = part_is both 8 8 ∙ ap (take 8) (drop_at (number m) (number v) 8 (length-number m)) ∙ take_all 8 (number v) (omega (arith, length-number v)) in (
      sym (part_of_held file bytes 0 0 8 held (omega arith))
          ∙ part_of_held file both 0 0 8 front (omega (arith, long))
          ∙ part_is both 0 8
          ∙ take_at (number m) (number v) 8 (length-number m),
      sym (part_of_held file bytes 0 8 8 held (omega arith)) ∙ part_of_held file both 0 8 8 front (omega (arith, long)) ∙ second,
    )
