-- Directories that are read to their ends.
use Rattle.std.proofs.Common.{◌≡◌, ◌⊎◌, inl, inr, ℕ, zero, suc, ◌+◌, ◌-◌, ◌*◌, ◌/◌, ◌%◌, ◌^◌, ◌<◌, ◌≤◌, min, Bool, true, false, List, [], ◌∷◌, ◌++◌, length, take, drop, replicate, refl, sym, ap, subst, ◌∙◌, append_assoc, arith, length-append, length-drop}
use Rattle.std.specs.Prelude.{nat_le, if◌then◌else◌}
use Rattle.std.specs.List.{AllByRecursion}
use Rattle.std.proofs.lemmas.Bool.{le-leb}
use Rattle.std.proofs.lemmas.List.{append-nil, drop-drop, drop_all, drop_at, length-replicate, take_at}
use Rattle.fuse.specs.Listings.{padded}
use Rattle.fuse.specs.Numbers.{u32_at, u32_bytes, u32s, u64_at, u64_bytes, u64s}
use Rattle.fuse.proofs.Lengths.{length-u32_bytes, length-u64_bytes}
use Rattle.fuse.proofs.Messages.{u32_at-u32_bytes, u64_at-u64_bytes}
use Rattle.mount_requests.specs.Listed.{entry_size, fitting, given, listed, plain_entry, with_dots}
use Rattle.mount_requests.proofs.Telling.{entry_length}
use Rattle.mount_requests.specs.WholeLists.{AreRead, HasRoom, IsShort, Read, behind, each_read, read_by, read_next, read_once}

-- ---- names that fit

-- the names that fit come first, and the others behind them
fit_first : (b : Bool) (name : List ℕ) (fit names : List (List ℕ)) → fit ++ drop (length fit) names ≡ names → (if b then name ∷ fit else []) ++ drop (length (if b then name ∷ fit else [])) (name ∷ names) ≡ name ∷ names
fit_first true name fit names h = ap (λ (xs : List (List ℕ)). name ∷ xs) h
fit_first false name fit names h = refl

fits_first : (room : ℕ) (names : List (List ℕ)) → fitting room names ++ drop (length (fitting room names)) names ≡ names
fits_first room [] = refl
fits_first room (name ∷ names) = fit_first (nat_le (entry_size name) room) name (fitting (room - entry_size name) names) names (fits_first (room - entry_size name) names)

-- ---- names of at most 255 bytes

rounded : (n : ℕ) → n ≤ 255 → n + (8 - n % 8) % 8 ≤ 256
rounded n short = omega arith

padded_length : (name : List ℕ) → length (padded name) ≡ length name + (8 - length name % 8) % 8
unfolding padded
padded_length name = length-append name (replicate ((8 - length name % 8) % 8) 0) ∙ ap (λ (n : ℕ). length name + n) (length-replicate ((8 - length name % 8) % 8) 0)

short_entry : (name : List ℕ) → IsShort name → entry_size name ≤ 280
short_entry name short = omega (arith, padded_length name, rounded (length name) short)

taken : (b : Bool) (name : List ℕ) (names : List (List ℕ)) → b ≡ true → (if b then name ∷ names else []) ≡ [] → ⊥
taken true name names is none = absurd cc
taken false name names is none = cc

-- where none of short names fits, there is none
none_left : (room : ℕ) (names : List (List ℕ)) → HasRoom room → AllByRecursion IsShort names → fitting room names ≡ [] → names ≡ []
none_left room [] big short none = refl
none_left room (name ∷ names) big short none =
    absurd (taken (nat_le (entry_size name) room) name (fitting (room - entry_size name) names) (le-leb (entry_size name) room (omega (arith, short_entry name short.0, big))) none)

all_drop : (n : ℕ) (names : List (List ℕ)) → AllByRecursion IsShort names → AllByRecursion IsShort (drop n names)
all_drop zero names h = h
all_drop (suc n) [] h = tt
all_drop (suc n) (name ∷ names) h = all_drop n names h.1

with_dots_short : (names : List (List ℕ)) → AllByRecursion IsShort names → AllByRecursion IsShort (with_dots names)
with_dots_short names h = (omega arith, (omega arith, h))

-- ---- offsets

behind_each : (index : ℕ) (names : List (List ℕ)) → behind index (each_read index names) ≡ index + length names
behind_each index [] = omega arith
behind_each index (name ∷ names) = behind_each (index + 1) names ∙ omega arith

behind_both : (offset : ℕ) (first second : List Read) → behind offset (first ++ second) ≡ behind (behind offset first) second
behind_both offset [] second = refl
behind_both offset (entry ∷ first) second = behind_both entry.behind first second

read_both : (index : ℕ) (first second : List (List ℕ)) → each_read index first ++ each_read (index + length first) second ≡ each_read index (first ++ second)
read_both index [] second = ap (λ (i : ℕ). each_read i second) (omega arith)
read_both index (name ∷ first) second =
    let at : index + suc (length first) ≡ index + 1 + length first = omega arith in
    ap (λ (rest : List Read). record { behind = index + 1; name = name } ∷ rest)
    (ap (λ (i : ℕ). each_read (index + 1) first ++ each_read i second) at ∙ read_both (index + 1) first second)

no_names : (index : ℕ) (names : List (List ℕ)) → each_read index names ≡ [] → names ≡ []
no_names index [] none = refl
no_names index (name ∷ names) none = absurd cc

-- ---- lists, one after the other

module _ (names : List (List ℕ)) where
  abbrev all : List (List ℕ)
  all = with_dots names

  abbrev left : ℕ → List Read
  left offset = each_read offset (drop offset all)

  -- what one list gives, and what is left behind it
  once_more : (offset size : ℕ) → read_once names offset size ++ left (behind offset (read_once names offset size)) ≡ left offset
  once_more offset size =
      let fit : List (List ℕ) = given offset size names in
      ap (λ (next : ℕ). each_read offset fit ++ left next) (behind_each offset fit)
      ∙ ap (λ (rest : List (List ℕ)). each_read offset fit ++ each_read (offset + length fit) rest) (sym (drop-drop (length fit) offset all))
      ∙ read_both offset fit (drop (length fit) (drop offset all))
      ∙ ap (each_read offset) (fits_first (min size 1_048_576) (drop offset all))

  -- what lists give, and what is left behind them
  so_far : (offset : ℕ) (sizes : List ℕ) → read_by names offset sizes ++ left (behind offset (read_by names offset sizes)) ≡ left offset
  so_far offset [] = refl
  so_far offset (size ∷ sizes) =
      let here : List Read = read_once names offset size in
      let next : ℕ = behind offset here in
      let rest : List Read = read_by names next sizes in
      ap (λ (n : ℕ). (here ++ rest) ++ left n) (behind_both offset here rest)
      ∙ append_assoc here rest (left (behind next rest))
      ∙ ap (λ (xs : List Read). here ++ xs) (so_far next sizes)
      ∙ once_more offset size

  -- where the next list has room and is empty, nothing is left
  nothing_left : (offset size : ℕ) → AllByRecursion IsShort names → HasRoom size → read_once names offset size ≡ [] → drop offset all ≡ []
  nothing_left offset size short big none =
      none_left (min size 1_048_576) (drop offset all) (omega (arith, big)) (all_drop offset all (with_dots_short names short))
      (no_names offset (given offset size names) none)

  pub whole : (sizes : List ℕ) (size : ℕ) → AllByRecursion IsShort names → HasRoom size → read_next names sizes size ≡ [] → read_by names 0 sizes ≡ each_read 0 all
  whole sizes size short big none =
      let last : ℕ = behind 0 (read_by names 0 sizes) in
      sym (append-nil (read_by names 0 sizes))
      ∙ ap (λ (rest : List (List ℕ)). read_by names 0 sizes ++ each_read last rest) (sym (nothing_left last size short big none))
      ∙ so_far 0 sizes

  -- a list that has room is one name further, or all names were given
  further : (offset size : ℕ) (fit : List (List ℕ)) → given offset size names ≡ fit → AllByRecursion IsShort names → HasRoom size → (length all ≤ offset) ⊎ (0 < length fit)
  further offset size [] is short big =
      let none : drop offset all ≡ [] = nothing_left offset size short big (ap (each_read offset) is) in
      inl (omega (arith, length-drop offset all, ap length none))
  further offset size (name ∷ fit) is short big = inr (omega arith)

  reaches : (offset : ℕ) (sizes : List ℕ) → AllByRecursion IsShort names → AllByRecursion HasRoom sizes → length all ≤ offset + length sizes → length all ≤ behind offset (read_by names offset sizes)
  reaches offset [] short big enough = omega (arith, enough)
  reaches offset (size ∷ sizes) short big enough =
      let fit : List (List ℕ) = given offset size names in
      let here : List Read = read_once names offset size in
      let next : behind offset here ≡ offset + length fit = behind_each offset fit in
      let on : (length all ≤ offset) ⊎ (0 < length fit) = further offset size fit refl short big.0 in
      let still : length all ≤ behind offset here + length sizes = omega (arith, next, on, enough) in
      subst (λ (n : ℕ). length all ≤ n) (sym (behind_both offset here (read_by names (behind offset here) sizes)))
      (reaches (behind offset here) sizes short big.1 still)

  pub ends : (sizes : List ℕ) (size : ℕ) → AllByRecursion IsShort names → AllByRecursion HasRoom sizes → length all ≤ length sizes → read_next names sizes size ≡ []
  ends sizes size short big enough =
      let last : ℕ = behind 0 (read_by names 0 sizes) in
      ap (λ (rest : List (List ℕ)). each_read last (fitting (min size 1_048_576) rest)) (drop_all last all (reaches 0 sizes short big (omega (arith, enough))))

-- ---- bytes of lists

laid : (a b c : ℕ) (text rest : List ℕ) → ((u64s (a ∷ b ∷ []) ++ u32s (c ∷ 0 ∷ [])) ++ text) ++ rest ≡ u64_bytes a ++ (u64_bytes b ++ (u32_bytes c ++ (u32_bytes 0 ++ (text ++ rest))))
unfolding u64s u32s
laid a b c text rest = simp (append_assoc, append-nil)

past_both : (m n : ℕ) (first second rest : List ℕ) → length first ≡ m → length second ≡ n → drop (m + n) (first ++ (second ++ rest)) ≡ rest
past_both m n first second rest a b =
    sym (drop-drop n m (first ++ (second ++ rest))) ∙ ap (drop n) (drop_at first (second ++ rest) m a) ∙ drop_at second rest n b

second_at : (a b : ℕ) (rest : List ℕ) → b < 2 ^ 64 → u64_at (u64_bytes a ++ (u64_bytes b ++ rest)) 8 ≡ b
unfolding u64_at
second_at a b rest below = ap (λ (bytes : List ℕ). u64_at bytes 0) (drop_at (u64_bytes a) (u64_bytes b ++ rest) 8 (length-u64_bytes a)) ∙ u64_at-u64_bytes b rest below

third_at : (a b c : ℕ) (rest : List ℕ) → c < 2 ^ 32 → u32_at (u64_bytes a ++ (u64_bytes b ++ (u32_bytes c ++ rest))) 16 ≡ c
unfolding u32_at
third_at a b c rest below = ap (λ (bytes : List ℕ). u32_at bytes 0) (past_both 8 8 (u64_bytes a) (u64_bytes b) (u32_bytes c ++ rest) (length-u64_bytes a) (length-u64_bytes b)) ∙ u32_at-u32_bytes c rest below

behind_numbers : (a b c d : ℕ) (rest : List ℕ) → drop 24 (u64_bytes a ++ (u64_bytes b ++ (u32_bytes c ++ (u32_bytes d ++ rest)))) ≡ rest
behind_numbers a b c d rest =
    let numbers : List ℕ = u32_bytes c ++ (u32_bytes d ++ rest) in
    sym (drop-drop 8 16 (u64_bytes a ++ (u64_bytes b ++ numbers)))
    ∙ ap (drop 8) (past_both 8 8 (u64_bytes a) (u64_bytes b) numbers (length-u64_bytes a) (length-u64_bytes b))
    ∙ past_both 4 4 (u32_bytes c) (u32_bytes d) rest (length-u32_bytes c) (length-u32_bytes d)

starts_with : (name rest : List ℕ) → take (length name) (padded name ++ rest) ≡ name
unfolding padded
starts_with name rest =
    let zeros : List ℕ = replicate ((8 - length name % 8) % 8) 0 in
    ap (take (length name)) (append_assoc name zeros rest) ∙ take_at name (zeros ++ rest) (length name) refl

rounded_up : (n : ℕ) → (24 + n + 7) / 8 * 8 ≡ 24 + (n + (8 - n % 8) % 8)
rounded_up n = omega arith

names_told : (index : ℕ) (names : List (List ℕ)) → index + length names < 2 ^ 64 → AllByRecursion IsShort names → AreRead (listed index names) (each_read index names)
names_told index [] below short = refl
names_told index (name ∷ names) below short =
    let rest : List ℕ = listed (index + 1) names in
    let behind_name : List ℕ = padded name ++ rest in
    let bytes = laid (2 ^ 32 - 1) (index + 1) (length name) (padded name) rest in
    let size : u32_at (plain_entry index name ++ rest) 16 ≡ length name =
    ap (λ (b : List ℕ). u32_at b 16) bytes ∙ third_at (2 ^ 32 - 1) (index + 1) (length name) (u32_bytes 0 ++ behind_name) (omega (arith, short.0)) in
    let text : drop 24 (plain_entry index name ++ rest) ≡ behind_name = ap (drop 24) bytes ∙ behind_numbers (2 ^ 32 - 1) (index + 1) (length name) 0 behind_name in (
      ap (λ (b : List ℕ). u64_at b 8) bytes ∙ second_at (2 ^ 32 - 1) (index + 1) (u32_bytes (length name) ++ (u32_bytes 0 ++ behind_name)) (omega (arith, below)),
      ap (λ (n : ℕ). take n (drop 24 (plain_entry index name ++ rest))) size ∙ ap (take (length name)) text ∙ starts_with name rest,
      subst (λ (b : List ℕ). AreRead b (each_read (index + 1) names)) (sym (
          ap (λ (n : ℕ). drop ((24 + n + 7) / 8 * 8) (plain_entry index name ++ rest)) size
          ∙ ap (λ (n : ℕ). drop n (plain_entry index name ++ rest)) (rounded_up (length name) ∙ ap (λ (n : ℕ). 24 + n) (sym (padded_length name)))
          ∙ drop_at (plain_entry index name) rest (entry_size name) (entry_length index name)
          )) (names_told (index + 1) names (omega (arith, below)) short.1),
    )

fitting_short : (room : ℕ) (names : List (List ℕ)) → AllByRecursion IsShort names → AllByRecursion IsShort (fitting room names)
fitting_short room [] short = tt
fitting_short room (name ∷ names) short = by (nat_le (entry_size name) room) (fitting_short (room - entry_size name) names short.1) where
  by : (b : Bool) → AllByRecursion IsShort (fitting (room - entry_size name) names) → AllByRecursion IsShort (if b then name ∷ fitting (room - entry_size name) names else [])
  by true h = (short.0, h)
  by false h = tt

pub told : (names : List (List ℕ)) (offset size : ℕ) → AllByRecursion IsShort names → offset + length (given offset size names) < 2 ^ 64 → AreRead (listed offset (given offset size names)) (read_once names offset size)
told names offset size short below =
    names_told offset (given offset size names) below
    (fitting_short (min size 1_048_576) (drop offset (with_dots names)) (all_drop offset (with_dots names) (with_dots_short names short)))
