-- Parts of a file, and what a write leaves below its place.
use Rattle.std.proofs.Common.{◌≡◌, ℕ, ◌+◌, ◌<◌, ◌≤◌, List, ◌++◌, length, take, drop, slice_index, refl, sym, ◌∙◌, ap, arith, rules, ext_get_or, get_or-take, get_or-drop}
use Rattle.std.proofs.lemmas.List.{places, drop_all, take_all, append-nil}
use Rattle.sqlite_disk.specs.Disk.{Holds, Torn}
use Rattle.commit_log.specs.Frame.{part}
use Rattle.commit_log.specs.Reads.{KeepsBelow}

pub slice_index-part : (file : List ℕ) (at n i : ℕ) → i < n → slice_index (part file at n) i ≡ slice_index file (at + i)
unfolding part
slice_index-part file at n i h = get_or-take n (drop at file) i 0 h ∙ get_or-drop at file i 0

pub length-part : (file : List ℕ) (at n : ℕ) → at + n ≤ length file → length (part file at n) ≡ n
unfolding part
length-part file at n h = search (rules, places)

pub part_is : (file : List ℕ) (at n : ℕ) → part file at n ≡ take n (drop at file)
unfolding part
part_is file at n = refl

-- what the file holds is its part
pub part_held : (file bytes : List ℕ) (at n : ℕ) → Holds file at bytes → length bytes ≡ n → part file at n ≡ bytes
part_held file bytes at n held whole =
    let len = length-part file at n (omega (arith, held.within)) in
    ext_get_or 0 _ _ (len ∙ sym whole) λ i low.
    slice_index-part file at n i (omega arith) ∙ held.each i (omega arith)

-- and back
pub held_part : (file bytes : List ℕ) (at n : ℕ) → at + n ≤ length file → length bytes ≡ n → part file at n ≡ bytes → Holds file at bytes
held_part file bytes at n within whole same = record {
  within = omega arith;
  each = λ i low. sym (slice_index-part file at n i (omega arith)) ∙ ap (λ (xs : List ℕ). slice_index xs i) same;
}

-- a part of what the file holds
pub part_of_held : (file bytes : List ℕ) (at a m : ℕ) → Holds file at bytes → a + m ≤ length bytes → part file (at + a) m ≡ part bytes a m
part_of_held file bytes at a m held within =
    let in_file = length-part file (at + a) m (omega (arith, held.within)) in
    ext_get_or 0 _ _ (in_file ∙ sym (length-part bytes a m within)) λ i low.
    let under : i < m = omega arith in
    let here : at + a + i ≡ at + (a + i) = omega arith in
    slice_index-part file (at + a) m i under ∙ ap (slice_index file) here ∙ held.each (a + i) (omega arith) ∙ sym (slice_index-part bytes a m i under)

pub torn_keeps : (place at n : ℕ) (old new : List ℕ) → place ≤ at → Torn at n old new → KeepsBelow place old new
torn_keeps place at n old new low torn =
    record { no_shorter = torn.no_shorter; below = λ i within under. torn.below i within (omega arith) }

pub keeps_on : (place : ℕ) (a b c : List ℕ) → KeepsBelow place a b → KeepsBelow place b c → KeepsBelow place a c
keeps_on place a b c first then = record {
  no_shorter = omega (arith, first.no_shorter, then.no_shorter);
  below = λ i within under. then.below i (omega (arith, first.no_shorter)) under ∙ first.below i within under;
}

pub held_below : (place : ℕ) (old new bytes : List ℕ) (at : ℕ) → KeepsBelow place old new → at + length bytes ≤ place → Holds old at bytes → Holds new at bytes
held_below place old new bytes at keeps low held = record {
  within = omega (arith, held.within, keeps.no_shorter);
  each = λ i inside. keeps.below (at + i) (omega (arith, held.within)) (omega arith) ∙ held.each i inside;
}

-- a vector whose bytes were all written over
pub written_over : (len : ℕ) (bytes items : List ℕ) → length bytes ≡ length items → len ≡ length items → take len (bytes ++ drop (length bytes) items) ≡ bytes
written_over len bytes items long all =
    ap (λ (t : List ℕ). take len (bytes ++ t)) (drop_all (length bytes) items (omega arith)) ∙ ap (take len) (append-nil bytes) ∙ take_all len bytes (omega arith)
