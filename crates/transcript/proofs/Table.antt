-- The table of spellings, and a spelling that is appended.
use Rattle.std.proofs.Common.{◌≡◌, ℕ, ◌+◌, ◌<◌, ◌≤◌, List, [], ◌∷◌, ◌++◌, Bool, true, false, refl, sym, ap, ◌∙◌, take, drop, length, get_or, arith, append_assoc, append-nil, length-append, length-take}
use Rattle.std.specs.Prelude.{◌/◌, ◌%◌, if◌then◌else◌, flat_map, map}
use Rattle.std.specs.List.{range_with_len}
use Rattle.std.proofs.lemmas.List.{take-append-le, take-append-drop, take_more}
use Rattle.std.proofs.lemmas.List.Concat.{flat_map-append}
use Rattle.std.proofs.Math.Seq.{take-append-add}
use Rattle.std.proofs.lemmas.List.FromFn.{get_or-map-range_with_len}
use Rattle.transcript.specs.Text.{backslash, byte_text, hex_digit, is_plain, letter_x}
use Rattle.transcript.specs.declared.spelling.TheConstants.{SPELLINGS, WIDTHS}

-- the entry of a byte
abbrev pub entry_of : ℕ → List ℕ
entry_of byte =
    if is_plain byte then byte ∷ 0 ∷ 0 ∷ 0 ∷ []
    else backslash ∷ letter_x ∷ hex_digit (byte / 16) ∷ hex_digit (byte % 16) ∷ []

table_is : SPELLINGS ≡ map entry_of (range_with_len 0 256)
table_is = refl

pub entry_is : (byte : ℕ) → byte < 256 → get_or SPELLINGS byte [] ≡ entry_of byte
entry_is byte below = ap (λ (t : List (List ℕ)). get_or t byte []) table_is ∙ get_or-map-range_with_len entry_of 0 256 byte byte [] below (omega arith)

-- as much of the front of a text as stands behind the front of its beginning
pub appended : (front bytes entry : List ℕ) (kept width : ℕ) → take kept bytes ≡ front ++ entry → width ≤ length entry
    → take (length front + width) bytes ≡ front ++ take width entry
appended front bytes entry kept width is within =
    let all : length (take kept bytes) ≡ length front + length entry = ap length is ∙ length-append front entry in
    let inside : length front + width ≤ length (take kept bytes) = omega (arith, all) in
    ap (take (length front + width)) (sym (take-append-drop kept bytes))
    ∙ take-append-le (length front + width) (take kept bytes) (drop kept bytes) inside
    ∙ ap (take (length front + width)) is
    ∙ take-append-add front entry width

-- the width of a spelling
abbrev pub width_of : Bool → ℕ
width_of true = 1
width_of false = 4

entry_cut : (byte : ℕ) (plain : Bool) → take (width_of plain) (if plain then byte ∷ 0 ∷ 0 ∷ 0 ∷ [] else backslash ∷ letter_x ∷ hex_digit (byte / 16) ∷ hex_digit (byte % 16) ∷ [])
    ≡ (if plain then byte ∷ [] else backslash ∷ letter_x ∷ hex_digit (byte / 16) ∷ hex_digit (byte % 16) ∷ [])
entry_cut byte true = refl
entry_cut byte false = refl

width_within : (byte : ℕ) (plain : Bool) → width_of plain ≤ length (if plain then byte ∷ 0 ∷ 0 ∷ 0 ∷ [] else backslash ∷ letter_x ∷ hex_digit (byte / 16) ∷ hex_digit (byte % 16) ∷ [])
width_within byte true = omega arith
width_within byte false = omega arith

-- a byte's entry appended, and cut to the spelling
pub spelled : (front bytes : List ℕ) (kept byte width : ℕ) → byte < 256 → width ≡ width_of (is_plain byte) → take kept bytes ≡ front ++ get_or SPELLINGS byte []
    → take (length front + width) bytes ≡ front ++ byte_text byte
spelled front bytes kept byte width below width_is is =
    let here : take kept bytes ≡ front ++ entry_of byte = is ∙ ap (λ (entry : List ℕ). front ++ entry) (entry_is byte below) in
    ap (λ (n : ℕ). take (length front + n) bytes) width_is
    ∙ appended front bytes (entry_of byte) kept (width_of (is_plain byte)) here (width_within byte (is_plain byte))
    ∙ ap (λ (text : List ℕ). front ++ text) (entry_cut byte (is_plain byte))

width_cut : (byte : ℕ) (plain : Bool) → length (if plain then byte ∷ [] else backslash ∷ letter_x ∷ hex_digit (byte / 16) ∷ hex_digit (byte % 16) ∷ []) ≡ width_of plain
width_cut byte true = refl
width_cut byte false = refl

width_is : (byte : ℕ) → length (byte_text byte) ≡ width_of (is_plain byte)
width_is byte = width_cut byte (is_plain byte)

width_below : (plain : Bool) → width_of plain ≤ 4
width_below true = omega arith
width_below false = omega arith

-- no spelling is longer than an entry
pub spelled_within : (byte : ℕ) → length (byte_text byte) ≤ 4
spelled_within byte = omega (arith, width_is byte, width_below (is_plain byte))

text_more : (xs : List ℕ) (i : ℕ) → i < length xs
    → flat_map byte_text (take i xs) ++ byte_text (get_or xs i 0) ≡ flat_map byte_text (take (i + 1) xs)
text_more xs i below =
    ap (λ (ys : List ℕ). flat_map byte_text (take i xs) ++ ys) (sym (append-nil (byte_text (get_or xs i 0))))
    ∙ sym (flat_map-append byte_text (take i xs) (get_or xs i 0 ∷ []))
    ∙ ap (λ (ys : List ℕ). flat_map byte_text ys) (sym (take_more xs i 0 below))

-- one more byte is spelled
pub spelled_more : (before out after bytes : List ℕ) (end i : ℕ) → end ≤ length out → i < length bytes → get_or bytes i 0 < 256
    → take end out ≡ before ++ flat_map byte_text (take i bytes)
    → take (end + 4) after ≡ take end out ++ get_or SPELLINGS (get_or bytes i 0) []
    → take (end + length (byte_text (get_or bytes i 0))) after ≡ before ++ flat_map byte_text (take (i + 1) bytes)
spelled_more before out after bytes end i within below byte so_far entry =
    let at : end ≡ length (take end out) = omega (arith, length-take end out) in
    ap (λ (n : ℕ). take (n + length (byte_text (get_or bytes i 0))) after) at
    ∙ spelled (take end out) after (end + 4) (get_or bytes i 0) (length (byte_text (get_or bytes i 0))) byte (width_is (get_or bytes i 0)) entry
    ∙ ap (λ (ys : List ℕ). ys ++ byte_text (get_or bytes i 0)) so_far
    ∙ append_assoc before (flat_map byte_text (take i bytes)) (byte_text (get_or bytes i 0))
    ∙ ap (λ (ys : List ℕ). before ++ ys) (text_more bytes i below)

widths_are : WIDTHS ≡ map (λ byte. width_of (is_plain byte)) (range_with_len 0 256)
widths_are = refl

-- what the table of lengths tells
pub width_told : (byte : ℕ) → byte < 256 → get_or WIDTHS byte 0 ≡ length (byte_text byte)
width_told byte below =
    ap (λ (t : List ℕ). get_or t byte 0) widths_are
    ∙ get_or-map-range_with_len (λ (b : ℕ). width_of (is_plain b)) 0 256 byte byte 0 below (omega arith)
    ∙ sym (width_is byte)
