-- The forms of numbers, sizes, bytes, flags and lists.
use Rattle.std.proofs.Common.{◌≡◌, ℕ, ℤ, zero, suc, ◌+◌, ◌^◌, ◌<◌, ◌≤◌, Bool, true, false, cond, ltb, List, [], ◌∷◌, ◌++◌, length, take, drop, Option, Some, None, Ok, Err, refl, sym, ap, subst, ◌∙◌, append_assoc, arith, inl, inr}
use Rattle.std.specs.Prelude.{IfSome, FitsSigned}
use Rattle.std.specs.List.{flat_map, AllByRecursion}
use Rattle.std.specs.Int.{Width, w16, w32, w64, byte_len, from_le_bytes, to_le_bytes, cast_signed, cast_unsigned}
use Rattle.std.proofs.lemmas.Bool.{cases_lt, ltb-true, ltb-false, lt-ltb, le-ltb}
use Rattle.std.proofs.lemmas.Int.{of_z-to_z, to_z-of_z}
use mir.Facts.{sfits_to_z, Fits-of_z}
use Rattle.std.proofs.lemmas.List.{take_at, drop_at, take-append-drop, length-append, length-take, get_or-drop, get_or-take, get_or_past}
use Rattle.std.proofs.lemmas.List.Concat.{flat_map-cons}
use Rattle.std.proofs.lemmas.Nat.{le_bytes_2, le_bytes_4, le_bytes_8, from_le_bytes-to_le_bytes_2, from_le_bytes-to_le_bytes_4, from_le_bytes-to_le_bytes_8}
use Rattle.entry_codec.specs.declared.fault.Wrong.TheVariants as wrong
use Rattle.entry_codec.specs.Parts.{u16_bytes, u32_bytes, u64_bytes, signed_bytes, size_bytes, text_bytes, IsText, flag_bytes, optional_bytes, list_bytes, IsList}
use Rattle.entry_codec.specs.Reading.{Read, ◌>>=◌, fault_at, byte_at, number_at, signed_at, permissions_at, size_at, text_at, flag_of, flag_at, where_set, optional_at, items_at, list_at}
use Rattle.entry_codec.proofs.Formats.{IsBytes, Takes, Takes-then, IsFormat, bind_ok, guard_ok, holds_ok, ok_is, done, choose, one_takes, one_again, variant0, numbered, Always, Took}

IsBytes-drop : (n : ℕ) (bytes : List ℕ) → IsBytes bytes → IsBytes (drop n bytes)
IsBytes-drop n bytes h i = rw get_or-drop (h (n + i))

IsBytes-take : (n : ℕ) (bytes : List ℕ) → IsBytes bytes → IsBytes (take n bytes)
IsBytes-take n bytes h i =
    elim (cases_lt i n) [
      | inl lt ↦ rw (get_or-take n bytes i 0 lt) (h i)
      | inr le ↦ rw (get_or_past (take n bytes) i 0 (omega (arith, length-take n bytes))) (omega arith)
    ]

-- ---- a byte

byte_takes : (bytes : List ℕ) (x : ℕ × List ℕ) → IsBytes bytes → byte_at bytes ≡ Ok x → Takes bytes (x.0 ∷ []) x.1 × (x.0 < 256)
byte_takes [] x fits e = absurd cc
byte_takes (b ∷ rest) x fits e =
    let made : ℕ × List ℕ = (b, rest) in
    subst (λ (y : ℕ × List ℕ). Takes (b ∷ rest) (y.0 ∷ []) y.1 × (y.0 < 256)) (ok_is made x e)
    (record { parts = refl; rest_fits = λ i. fits (suc i) }, fits 0)

pub byte_format : IsFormat (λ b. b ∷ []) (λ b. b < 256) byte_at
byte_format = record { takes = byte_takes; again = λ b rest p. refl }

-- ---- numbers of two, four and eight bytes

pub record IsWide (w : Width) (limit : ℕ) : Type 0 where
  pub len : (n : ℕ) → length (to_le_bytes w n) ≡ byte_len w
  pub back : (bytes : List ℕ) → length bytes ≡ byte_len w → IsBytes bytes → to_le_bytes w (from_le_bytes w bytes) ≡ bytes
  pub again : (n : ℕ) → n < limit → from_le_bytes w (to_le_bytes w n) ≡ n
  pub below : (bytes : List ℕ) → IsBytes bytes → from_le_bytes w bytes < limit

wide16 : IsWide w16 (2 ^ 16)
wide16 = record {
  len = λ n. refl;
  back = λ bytes len fits. le_bytes_2 bytes _ len fits refl;
  again = λ n lt. from_le_bytes-to_le_bytes_2 n lt;
  below = λ bytes fits. omega (arith, fits 0, fits 1);
}

wide32 : IsWide w32 (2 ^ 32)
wide32 = record {
  len = λ n. refl;
  back = λ bytes len fits. le_bytes_4 bytes _ len fits refl;
  again = λ n lt. from_le_bytes-to_le_bytes_4 n lt;
  below = λ bytes fits. omega (arith, fits 0, fits 1, fits 2, fits 3);
}

wide64 : IsWide w64 (2 ^ 64)
wide64 = record {
  len = λ n. refl;
  back = λ bytes len fits. le_bytes_8 bytes _ len fits refl;
  again = λ n lt. from_le_bytes-to_le_bytes_8 n lt;
  below = λ bytes fits. omega (arith, fits 0, fits 1, fits 2, fits 3, fits 4, fits 5, fits 6, fits 7);
}

number_takes : (w : Width) (limit : ℕ) (wide : IsWide w limit) (bytes : List ℕ) (x : ℕ × List ℕ) → IsBytes bytes → number_at w bytes ≡ Ok x → Takes bytes (to_le_bytes w x.0) x.1 × (x.0 < limit)
number_takes w limit wide bytes x fits e =
    let made : ℕ × List ℕ = (from_le_bytes w (take (byte_len w) bytes), drop (byte_len w) bytes) in
    let g = guard_ok (ltb (length bytes) (byte_len w)) (fault_at wrong.Short bytes) made x e in
    let long : byte_len w ≤ length bytes = ltb-false _ _ g.0 in
    let front_fits = IsBytes-take (byte_len w) bytes fits in
    let front : to_le_bytes w made.0 ≡ take (byte_len w) bytes = wide.back (take (byte_len w) bytes) (omega (arith, length-take (byte_len w) bytes)) front_fits in
    let whole : bytes ≡ to_le_bytes w made.0 ++ drop (byte_len w) bytes = rw front (sym (take-append-drop (byte_len w) bytes)) in
    subst (λ (y : ℕ × List ℕ). Takes bytes (to_le_bytes w y.0) y.1 × (y.0 < limit)) g.1
    (record { parts = whole; rest_fits = IsBytes-drop (byte_len w) bytes fits }, wide.below (take (byte_len w) bytes) front_fits)

number_again : (w : Width) (limit : ℕ) (wide : IsWide w limit) (n : ℕ) (rest : List ℕ) → n < limit → number_at w (to_le_bytes w n ++ rest) ≡ Ok (n, rest)
number_again w limit wide n rest lt =
    let len = wide.len n in
    let long : ltb (length (to_le_bytes w n ++ rest)) (byte_len w) ≡ false = le-ltb _ _ (omega (arith, length-append (to_le_bytes w n) rest)) in
    rw (long, take_at (to_le_bytes w n) rest (byte_len w) len, drop_at (to_le_bytes w n) rest (byte_len w) len, wide.again n lt) refl

abbrev number_format : (w : Width) (limit : ℕ) → IsWide w limit → IsFormat (to_le_bytes w) (λ n. n < limit) (number_at w)
number_format w limit wide = record { takes = number_takes w limit wide; again = number_again w limit wide }

pub u16_format : IsFormat u16_bytes (λ n. n < 2 ^ 16) (number_at w16)
unfolding u16_bytes
u16_format = number_format w16 (2 ^ 16) wide16

pub u32_format : IsFormat u32_bytes (λ n. n < 2 ^ 32) (number_at w32)
unfolding u32_bytes
u32_format = number_format w32 (2 ^ 32) wide32

pub u64_format : IsFormat u64_bytes (λ n. n < 2 ^ 64) (number_at w64)
unfolding u64_bytes
u64_format = number_format w64 (2 ^ 64) wide64

permissions_takes : (bytes : List ℕ) (x : ℕ × List ℕ) → IsBytes bytes → permissions_at bytes ≡ Ok x → Takes bytes (u16_bytes x.0) x.1 × (x.0 < 4096)
permissions_takes bytes x fits e =
    let a = bind_ok (number_at w16 bytes) (λ n. cond (ltb n.0 4096) (Ok n) (Err (fault_at wrong.Range n.1))) x e in
    let g = holds_ok (ltb a.0.0 4096) (fault_at wrong.Range a.0.1) a.0 x a.2 in
    let t = u16_format.takes bytes a.0 fits a.1 in
    subst (λ (y : ℕ × List ℕ). Takes bytes (u16_bytes y.0) y.1 × (y.0 < 4096)) g.1 (t.0, ltb-true _ _ g.0)

permissions_again : (n : ℕ) (rest : List ℕ) → n < 4096 → permissions_at (u16_bytes n ++ rest) ≡ Ok (n, rest)
permissions_again n rest lt =
    let wide : n < 2 ^ 16 = omega arith in
    let in_range : ltb n 4096 ≡ true = lt-ltb _ _ lt in
    ap (λ (y : Read ℕ). y >>= λ n. cond (ltb n.0 4096) (Ok n) (Err (fault_at wrong.Range n.1))) (u16_format.again n rest wide)
    ∙ rw in_range refl

pub permissions_format : IsFormat u16_bytes (λ n. n < 4096) permissions_at
permissions_format = record { takes = permissions_takes; again = permissions_again }

signed_takes : (bytes : List ℕ) (x : ℤ × List ℕ) → IsBytes bytes → signed_at bytes ≡ Ok x → Takes bytes (signed_bytes x.0) x.1 × FitsSigned w64 x.0
unfolding signed_bytes
signed_takes bytes x fits e =
    one_takes u64_format (cast_signed w64) bytes x (λ (y : ℤ × List ℕ). Takes bytes (signed_bytes y.0) y.1 × FitsSigned w64 y.0) fits e
    (λ n rest t lt. (subst (λ (k : ℕ). Takes bytes (u64_bytes k) rest) (sym (of_z-to_z w64 n lt)) t, sfits_to_z {w = w64} {n = n} record { fits = lt }))

signed_again : (z : ℤ) (rest : List ℕ) → FitsSigned w64 z → signed_at (signed_bytes z ++ rest) ≡ Ok (z, rest)
unfolding signed_bytes
signed_again z rest fits =
    one_again u64_format (cast_signed w64) (cast_unsigned w64 z) rest (Fits-of_z {w = w64} {z = z} fits).fits
    ∙ ap (λ (y : ℤ). done {A = ℤ × List ℕ} (y, rest)) (to_z-of_z w64 z fits)

pub signed_format : IsFormat signed_bytes (FitsSigned w64) signed_at
signed_format = record { takes = signed_takes; again = signed_again }

-- ---- sizes

size_small : (n : ℕ) → ltb n 255 ≡ true → size_bytes n ≡ n ∷ []
unfolding size_bytes
size_small n e = rw e refl

size_wide : (n : ℕ) → ltb n 255 ≡ false → size_bytes n ≡ 255 ∷ u64_bytes n
unfolding size_bytes
size_wide n e = rw e refl

-- eight bytes, where they are wanted
abbrev wide_of : ℕ × List ℕ → Read ℕ
wide_of wide = cond (ltb wide.0 255) (Err (fault_at wrong.Long wide.1)) (Ok wide)

-- what the first byte says
size_from : (bytes : List ℕ) (small x : ℕ × List ℕ) (b : Bool) → Takes bytes (small.0 ∷ []) small.1 → small.0 < 256 → ltb small.0 255 ≡ b
    → cond b (Ok small) (number_at w64 small.1 >>= λ wide. wide_of wide) ≡ Ok x → Takes bytes (size_bytes x.0) x.1 × (x.0 < 2 ^ 64)
size_from bytes small x true t lt is e =
    let low : small.0 < 2 ^ 64 = omega arith in
    subst (λ (y : ℕ × List ℕ). Takes bytes (size_bytes y.0) y.1 × (y.0 < 2 ^ 64)) (ok_is small x e)
    (subst (λ (text : List ℕ). Takes bytes text small.1) (sym (size_small small.0 is)) t, low)
size_from bytes small x false t lt is e =
    let a = bind_ok (number_at w64 small.1) (λ wide. wide_of wide) x e in
    let g = guard_ok (ltb a.0.0 255) (fault_at wrong.Long a.0.1) a.0 x a.2 in
    let u = u64_format.takes small.1 a.0 t.rest_fits a.1 in
    let high : 255 ≤ small.0 = ltb-false _ _ is in
    let first : small.0 ≡ 255 = omega arith in
    let both = Takes-then bytes (small.0 ∷ []) small.1 (u64_bytes a.0.0) a.0.1 t u.0 in
    let text : (small.0 ∷ []) ++ u64_bytes a.0.0 ≡ size_bytes a.0.0 = ap (λ (b : ℕ). b ∷ u64_bytes a.0.0) first ∙ sym (size_wide a.0.0 g.0) in
    subst (λ (y : ℕ × List ℕ). Takes bytes (size_bytes y.0) y.1 × (y.0 < 2 ^ 64)) g.1
    (subst (λ (y : List ℕ). Takes bytes y a.0.1) text both, u.1)

size_takes : (bytes : List ℕ) (x : ℕ × List ℕ) → IsBytes bytes → size_at bytes ≡ Ok x → Takes bytes (size_bytes x.0) x.1 × (x.0 < 2 ^ 64)
unfolding size_at
size_takes bytes x fits e =
    let a = bind_ok (byte_at bytes) (λ small. cond (ltb small.0 255) (Ok small) (number_at w64 small.1 >>= λ wide. wide_of wide)) x e in
    let t = byte_format.takes bytes a.0 fits a.1 in
    size_from bytes a.0 x (ltb a.0.0 255) t.0 t.1 refl a.2

size_again_by : (n : ℕ) (rest : List ℕ) (b : Bool) → ltb n 255 ≡ b → n < 2 ^ 64 → size_at (size_bytes n ++ rest) ≡ Ok (n, rest)
unfolding size_at
size_again_by n rest true is lt = ap (λ (text : List ℕ). size_at (text ++ rest)) (size_small n is) ∙ rw is refl
size_again_by n rest false is lt =
    ap (λ (text : List ℕ). size_at (text ++ rest)) (size_wide n is)
    ∙ ap (λ (y : Read ℕ). y >>= λ wide. wide_of wide) (u64_format.again n rest lt)
    ∙ rw is refl

pub size_format : IsFormat size_bytes (λ n. n < 2 ^ 64) size_at
size_format = record { takes = size_takes; again = λ n rest lt. size_again_by n rest (ltb n 255) refl lt }

-- ---- bytes behind their number

text_takes : (bytes : List ℕ) (x : List ℕ × List ℕ) → IsBytes bytes → text_at bytes ≡ Ok x → Takes bytes (text_bytes x.0) x.1 × IsText x.0
unfolding text_at
text_takes bytes x fits e =
    let a = bind_ok (size_at bytes) (λ size. cond (ltb (length size.1) size.0) (Err (fault_at wrong.Short size.1)) (Ok (take size.0 size.1, drop size.0 size.1))) x e in
    let t = size_format.takes bytes a.0 fits a.1 in
    let n = a.0.0 in
    let left = a.0.1 in
    let made : List ℕ × List ℕ = (take n left, drop n left) in
    let g = guard_ok (ltb (length left) n) (fault_at wrong.Short left) made x a.2 in
    let long : n ≤ length left = ltb-false _ _ g.0 in
    let len : length (take n left) ≡ n = omega (arith, length-take n left) in
    let second : Takes left (take n left) (drop n left) = record { parts = sym (take-append-drop n left); rest_fits = IsBytes-drop n left t.0.rest_fits } in
    let both = Takes-then bytes (size_bytes n) left (take n left) (drop n left) t.0 second in
    let whole : Takes bytes (text_bytes (take n left)) (drop n left) = subst (λ (k : ℕ). Takes bytes (size_bytes k ++ take n left) (drop n left)) (sym len) both in
    let short : IsText (take n left) = subst (λ (k : ℕ). k < 2 ^ 64) (sym len) t.1 in
    subst (λ (y : List ℕ × List ℕ). Takes bytes (text_bytes y.0) y.1 × IsText y.0) g.1 (whole, short)

text_again : (text rest : List ℕ) → IsText text → text_at (text_bytes text ++ rest) ≡ Ok (text, rest)
unfolding text_at
text_again text rest lt =
    let long : ltb (length (text ++ rest)) (length text) ≡ false = le-ltb _ _ (omega (arith, length-append text rest)) in
    ap text_at (append_assoc (size_bytes (length text)) text rest)
    ∙ ap (λ (y : Read ℕ). y >>= λ size. cond (ltb (length size.1) size.0) (Err (fault_at wrong.Short size.1)) (Ok (take size.0 size.1, drop size.0 size.1))) (size_format.again (length text) (text ++ rest) lt)
    ∙ rw (long, take_at text rest (length text) refl, drop_at text rest (length text) refl) refl

pub text_format : IsFormat text_bytes IsText text_at
text_format = record { takes = text_takes; again = text_again }

-- ---- flags, and numbers behind them

flag_takes : (n : ℕ) (bytes : List ℕ) (x : Bool × List ℕ) → IsBytes bytes → flag_of n bytes ≡ Ok x → Took flag_bytes Always n bytes x
unfolding flag_bytes
flag_takes n bytes x fits e =
    choose n 0 _ _ x _ e (λ is read. variant0 flag_bytes Always false 0 refl tt n bytes x fits is read)
    (λ e. choose n 1 _ _ x _ e (λ is read. variant0 flag_bytes Always true 1 refl tt n bytes x fits is read)
    (λ e. absurd cc))

flag_again : (b : Bool) (rest : List ℕ) → flag_at (flag_bytes b ++ rest) ≡ Ok (b, rest)
unfolding flag_at flag_bytes
flag_again false rest = refl
flag_again true rest = refl

flag_taken : (bytes : List ℕ) (x : Bool × List ℕ) → IsBytes bytes → flag_at bytes ≡ Ok x → Takes bytes (flag_bytes x.0) x.1 × Always x.0
unfolding flag_at
flag_taken bytes x fits e = numbered flag_bytes Always flag_of flag_takes bytes x fits e

pub flag_format : IsFormat flag_bytes Always flag_at
flag_format = record { takes = flag_taken; again = λ b rest p. flag_again b rest }

optional_from : (bytes rest : List ℕ) (b : Bool) (x : Option ℕ × List ℕ) → Takes bytes (flag_bytes b) rest → where_set b rest ≡ Ok x
    → Takes bytes (optional_bytes x.0) x.1 × IfSome x.0 (λ n. n < 2 ^ 32)
unfolding flag_bytes optional_bytes
optional_from bytes rest false x t e =
    let made : Option ℕ × List ℕ = (None, rest) in
    subst (λ (y : Option ℕ × List ℕ). Takes bytes (optional_bytes y.0) y.1 × IfSome y.0 (λ n. n < 2 ^ 32)) (ok_is made x e) (t, tt)
optional_from bytes rest true x t e =
    one_takes u32_format (λ n. Some n) rest x (λ (y : Option ℕ × List ℕ). Takes bytes (optional_bytes y.0) y.1 × IfSome y.0 (λ n. n < 2 ^ 32)) t.rest_fits e
    (λ n after u lt. (Takes-then bytes (1 ∷ []) rest (u32_bytes n) after t u, lt))

optional_takes : (bytes : List ℕ) (x : Option ℕ × List ℕ) → IsBytes bytes → optional_at bytes ≡ Ok x → Takes bytes (optional_bytes x.0) x.1 × IfSome x.0 (λ n. n < 2 ^ 32)
unfolding optional_at
optional_takes bytes x fits e =
    let a = bind_ok (flag_at bytes) (λ is_set. where_set is_set.0 is_set.1) x e in
    optional_from bytes a.0.1 a.0.0 x (flag_format.takes bytes a.0 fits a.1).0 a.2

optional_again : (o : Option ℕ) (rest : List ℕ) → IfSome o (λ n. n < 2 ^ 32) → optional_at (optional_bytes o ++ rest) ≡ Ok (o, rest)
unfolding optional_at optional_bytes flag_at
optional_again None rest lt = refl
optional_again (Some n) rest lt = one_again u32_format (λ n. Some n) n rest lt

pub optional_format : IsFormat optional_bytes (λ o. IfSome o (λ n. n < 2 ^ 32)) optional_at
optional_format = record { takes = optional_takes; again = optional_again }

-- ---- lists

items_take : {A : Type 0} {f : A → List ℕ} {F : A → Type 0} {r : List ℕ → Read A} → IsFormat f F r → (n : ℕ) (bytes : List ℕ) (x : List A × List ℕ) → IsBytes bytes → items_at r n bytes ≡ Ok x
    → Takes bytes (flat_map f x.0) x.1 × (length x.0 ≡ n) × AllByRecursion F x.0
unfolding items_at
items_take {A = A} {f = f} {F = F} fa zero bytes x fits e =
    let made : List A × List ℕ = ([], bytes) in
    subst (λ (y : List A × List ℕ). Takes bytes (flat_map f y.0) y.1 × (length y.0 ≡ 0) × AllByRecursion F y.0) (ok_is made x e) (record { parts = refl; rest_fits = fits }, refl, tt)
items_take {A = A} {f = f} {F = F} {r = r} fa (suc n) bytes x fits e =
    let a = bind_ok (r bytes) (λ first. items_at r n first.1 >>= λ others. Ok (first.0 ∷ others.0, others.1)) x e in
    let b = bind_ok (items_at r n a.0.1) (λ others. Ok (a.0.0 ∷ others.0, others.1)) x a.2 in
    let first = fa.takes bytes a.0 fits a.1 in
    let others = items_take fa n a.0.1 b.0 first.0.rest_fits b.1 in
    let both = Takes-then bytes (f a.0.0) a.0.1 (flat_map f b.0.0) b.0.1 first.0 others.0 in
    let made : List A × List ℕ = (a.0.0 ∷ b.0.0, b.0.1) in
    subst (λ (y : List A × List ℕ). Takes bytes (flat_map f y.0) y.1 × (length y.0 ≡ suc n) × AllByRecursion F y.0) (ok_is made x b.2) (rw flat_map-cons both, ap suc others.1, (first.1, others.2))

items_again : {A : Type 0} {f : A → List ℕ} {F : A → Type 0} {r : List ℕ → Read A} → IsFormat f F r → (xs : List A) (rest : List ℕ) → AllByRecursion F xs
    → items_at r (length xs) (flat_map f xs ++ rest) ≡ Ok (xs, rest)
unfolding items_at
items_again fa [] rest fits = refl
items_again {A = A} {f = f} {r = r} fa (x ∷ xs) rest fits =
    let regrouped : flat_map f (x ∷ xs) ++ rest ≡ f x ++ (flat_map f xs ++ rest) = ap (λ (y : List ℕ). y ++ rest) (flat_map-cons f x xs) ∙ append_assoc (f x) (flat_map f xs) rest in
    ap (items_at r (suc (length xs))) regrouped
    ∙ ap (λ (y : Read A). y >>= λ first. items_at r (length xs) first.1 >>= λ others. Ok (first.0 ∷ others.0, others.1)) (fa.again x (flat_map f xs ++ rest) fits.0)
    ∙ ap (λ (y : Read (List A)). y >>= λ others. Ok (x ∷ others.0, others.1)) (items_again fa xs rest fits.1)

pub list_takes : {A : Type 0} {f : A → List ℕ} {F : A → Type 0} {r : List ℕ → Read A} → IsFormat f F r → (bytes : List ℕ) (x : List A × List ℕ) → IsBytes bytes → list_at r bytes ≡ Ok x
    → Takes bytes (list_bytes f x.0) x.1 × IsList F x.0
list_takes {f = f} {F = F} {r = r} fa bytes x fits e =
    let a = bind_ok (size_at bytes) (λ size. items_at r size.0 size.1) x e in
    let t = size_format.takes bytes a.0 fits a.1 in
    let u = items_take fa a.0.0 a.0.1 x t.0.rest_fits a.2 in
    let both = Takes-then bytes (size_bytes a.0.0) a.0.1 (flat_map f x.0) x.1 t.0 u.0 in
    subst (λ (k : ℕ). Takes bytes (size_bytes k ++ flat_map f x.0) x.1 × ((k < 2 ^ 64) × AllByRecursion F x.0)) (sym u.1) (both, (t.1, u.2))

pub list_again : {A : Type 0} {f : A → List ℕ} {F : A → Type 0} {r : List ℕ → Read A} → IsFormat f F r → (xs : List A) (rest : List ℕ) → IsList F xs → list_at r (list_bytes f xs ++ rest) ≡ Ok (xs, rest)
list_again {f = f} {r = r} fa xs rest fits =
    ap (list_at r) (append_assoc (size_bytes (length xs)) (flat_map f xs) rest)
    ∙ ap (λ (y : Read ℕ). y >>= λ size. items_at r size.0 size.1) (size_format.again (length xs) (flat_map f xs ++ rest) fits.0)
    ∙ items_again fa xs rest fits.1

pub list_format : {A : Type 0} {f : A → List ℕ} {F : A → Type 0} {r : List ℕ → Read A} → IsFormat f F r → IsFormat (list_bytes f) (IsList F) (list_at r)
list_format fa = record { takes = list_takes fa; again = list_again fa }
