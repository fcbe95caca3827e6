-- Lists of names that are told one after another.
use Rattle.std.proofs.Common.{◌≡◌, ◌⊎◌, inl, inr, ℕ, ◌+◌, ◌-◌, ◌%◌, ◌^◌, ◌<◌, ◌≤◌, List, length, get_or, min, replicate, [], ◌∷◌, ◌++◌, drop, Option, Some, None, Bool, true, false, sym, ap, subst, ◌∙◌, append_assoc, arith, length-append}
use Rattle.std.specs.Prelude.{Result, IfOk, OnOk, nat_le, slice_get, if◌then◌else◌}
use Rattle.std.proofs.lemmas.Bool.{le-leb, leb-false, leb-true, lt-leb}
use Rattle.std.proofs.lemmas.List.{append-nil, drop_all, drop_more}
use Rattle.std.proofs.lemmas.Option.{get_or_from_slice_get, slice_get_cases, slice_get_within}
use Rattle.fuse.specs.Listed.{Listed}
use Rattle.fuse.specs.Listings.{added, directory_entry_bytes, fits, kind_number, padded}
use Rattle.fuse.specs.Numbers.{u32s, u64s}
use Rattle.fuse.proofs.Lengths.{length-u32_bytes, length-u64_bytes}
use Rattle.fuse.specs.declared.listing.DirectoryEntry.{DirectoryEntry}
use Rattle.fuse.specs.declared.listing.Kind.{Kind}
use Rattle.fuse.specs.declared.listing.Kind.TheVariants as kind
use Rattle.mount_requests.specs.Listed.{entry_size, fitting, given, listed, plain_entry, with_dots}

-- ---- one name more

pub drop_at : {A : Type 0} (xs : List A) (i : ℕ) (x : A) → slice_get xs i ≡ Some x → drop i xs ≡ x ∷ drop (i + 1) xs
drop_at xs i x h = drop_more xs i x (slice_get_within xs i x h) ∙ ap (λ z. z ∷ drop (i + 1) xs) (get_or_from_slice_get xs i x x h)

-- how long an entry is
size_of : (a b c : ℕ) (rest : List ℕ) → length ((u64s (a ∷ b ∷ []) ++ u32s (c ∷ 0 ∷ [])) ++ rest) ≡ 24 + length rest
unfolding u64s u32s
size_of a b c rest = simp (length-append, length-u64_bytes, length-u32_bytes)

pub entry_length : (index : ℕ) (name : List ℕ) → length (plain_entry index name) ≡ entry_size name
entry_length index name = size_of (2 ^ 32 - 1) (index + 1) (length name) (padded name)

takes : (room : ℕ) (name : List ℕ) (names : List (List ℕ)) {b : Bool} → nat_le (entry_size name) room ≡ b → fitting room (name ∷ names) ≡ (if b then name ∷ fitting (room - entry_size name) names else [])
takes room name names is = ap (λ (b : Bool). if b then name ∷ fitting (room - entry_size name) names else []) is

pub adds : (list : Listed) (bytes : List ℕ) {b : Bool} → fits list bytes ≡ b → added list bytes ≡ (if b then record { size = list.size; bytes = list.bytes ++ bytes } else list)
adds list bytes is = ap (λ (b : Bool). if b then record { size = list.size; bytes = list.bytes ++ bytes } else list) is

-- What was told so far, and what fits of the names behind it, is all.
abbrev pub IsSoFar : List (List ℕ) → ℕ → Listed → List ℕ → Type 0
IsSoFar names index list all =
    list.bytes ++ listed index (fitting (list.size - length list.bytes) (drop index names)) ≡ all

left_over : (size : ℕ) (bytes more : List ℕ) (n : ℕ) → length more ≡ n → size - length (bytes ++ more) ≡ size - length bytes - n
left_over size bytes more n is = omega (arith, length-append bytes more, is)

-- an entry more
pub one_more : (names : List (List ℕ)) (index : ℕ) (name : List ℕ) (old new : Listed) (size : ℕ) (all : List ℕ) → slice_get names index ≡ Some name → fits old (plain_entry index name) ≡ true → new ≡ added old (plain_entry index name) → old.size ≡ size → IsSoFar names index old all → (new.size ≡ size) × IsSoFar names (index + 1) new all
one_more names index name old new size all at fit is same h =
    let bytes : List ℕ = plain_entry index name in
    let rest : List (List ℕ) = drop (index + 1) names in
    let room : ℕ = old.size - length old.bytes in
    let within : length old.bytes + length bytes ≤ old.size = leb-true (length old.bytes + length bytes) old.size fit in
    let there : nat_le (entry_size name) room ≡ true = le-leb (entry_size name) room (omega (arith, within, entry_length index name)) in
    subst (λ (l : Listed). (l.size ≡ size) × IsSoFar names (index + 1) l all) (sym (is ∙ adds old bytes fit)) (
      same,
      ap (λ (n : ℕ). (old.bytes ++ bytes) ++ listed (index + 1) (fitting n rest)) (left_over old.size old.bytes bytes (entry_size name) (entry_length index name))
          ∙ append_assoc old.bytes bytes (listed (index + 1) (fitting (room - entry_size name) rest))
          ∙ ap (λ (names : List (List ℕ)). old.bytes ++ listed index names) (sym (ap (fitting room) (drop_at names index name at) ∙ takes room name rest there))
          ∙ h,
    )

-- the same bytes, and the next entry does not fit
pub no_more : (names : List (List ℕ)) (index : ℕ) (name : List ℕ) (list new : Listed) (all : List ℕ) → slice_get names index ≡ Some name → fits list (plain_entry index name) ≡ false → new ≡ added list (plain_entry index name) → IsSoFar names index list all → new.bytes ≡ all
no_more names index name list new all at not_fit is h =
    let room : ℕ = list.size - length list.bytes in
    let beyond : list.size < length list.bytes + length (plain_entry index name) = leb-false (length list.bytes + length (plain_entry index name)) list.size not_fit in
    let not_there : nat_le (entry_size name) room ≡ false = lt-leb (entry_size name) room (omega (arith, beyond, entry_length index name)) in
    ap (λ (l : Listed). l.bytes) (is ∙ adds list (plain_entry index name) not_fit)
    ∙ sym (append-nil list.bytes)
    ∙ ap (λ (names : List (List ℕ)). list.bytes ++ listed index names) (sym (ap (fitting room) (drop_at names index name at) ∙ takes room name (drop (index + 1) names) not_there))
    ∙ h

-- no entry yet
pub begins : (names : List (List ℕ)) (offset size : ℕ) (list : Listed) → list.size ≡ min size 1_048_576 → list.bytes ≡ [] → IsSoFar (with_dots names) offset list (listed offset (given offset size names))
begins names offset size list same none =
    let whole : list.size - 0 ≡ list.size = omega arith in
    ap (λ (bytes : List ℕ). bytes ++ listed offset (fitting (list.size - length bytes) (drop offset (with_dots names)))) none
    ∙ ap (λ (n : ℕ). listed offset (fitting n (drop offset (with_dots names)))) (whole ∙ same)

not_both : {A : Type 0} {x : A} (o : Option A) → o ≡ Some x → o ≡ None → ⊥
not_both o a b = cc

pub none_from : (names : List (List ℕ)) (index : ℕ) → slice_get names index ≡ None → length names ≤ index
none_from names index none = by (slice_get_cases names index).1 where
  by : ((x : List ℕ) × (index < length names) × (slice_get names index ≡ Some x) × (get_or names index x ≡ x)) ⊎ ((length names ≤ index) × (slice_get names index ≡ None)) → length names ≤ index
  by (inl there) = absurd (not_both (slice_get names index) there.2 none)
  by (inr past) = past.0

-- or there is none
pub all_told : (names : List (List ℕ)) (index : ℕ) (list : Listed) (all : List ℕ) → length names ≤ index → IsSoFar names index list all → list.bytes ≡ all
all_told names index list all past h =
    sym (append-nil list.bytes)
    ∙ ap (λ (rest : List (List ℕ)). list.bytes ++ listed index (fitting (list.size - length list.bytes) rest)) (sym (drop_all index names past))
    ∙ h

-- a name that is longer than the list has room fits not
pub too_long : (list : Listed) (index : ℕ) (name : List ℕ) → list.size < length name → fits list (plain_entry index name) ≡ false
unfolding padded
too_long list index name long =
    lt-leb (length list.bytes + length (plain_entry index name)) list.size
    (omega (arith, entry_length index name, length-append name (replicate ((8 - length name % 8) % 8) 0), long))

-- an entry, by its fields
pub entry_is : (entry : DirectoryEntry) (index : ℕ) (name : List ℕ) → entry.inode ≡ 2 ^ 32 - 1 → entry.offset ≡ index + 1 → entry.kind ≡ kind.Unknown → entry.name.now ≡ name → directory_entry_bytes entry ≡ plain_entry index name
unfolding directory_entry_bytes
entry_is entry index name a b c d =
    ap (λ (n : ℕ). u64s (n ∷ entry.offset ∷ []) ++ u32s (length entry.name.now ∷ kind_number entry.kind ∷ []) ++ padded entry.name.now) a
    ∙ ap (λ (n : ℕ). u64s ((2 ^ 32 - 1) ∷ n ∷ []) ++ u32s (length entry.name.now ∷ kind_number entry.kind ∷ []) ++ padded entry.name.now) b
    ∙ ap (λ (k : Kind). u64s ((2 ^ 32 - 1) ∷ (index + 1) ∷ []) ++ u32s (length entry.name.now ∷ kind_number k ∷ []) ++ padded entry.name.now) c
    ∙ ap (λ (n : List ℕ). u64s ((2 ^ 32 - 1) ∷ (index + 1) ∷ []) ++ u32s (length n ∷ 0 ∷ []) ++ padded n) d

-- an entry that was added is told
pub adds_told : {E : Type 0} (r : Result Bool E) (old new : Listed) {bytes told : List ℕ} → bytes ≡ told → IfOk r (λ f. f ≡ fits old bytes) → OnOk r (new ≡ added old bytes) → IfOk r (λ f. f ≡ fits old told) × OnOk r (new ≡ added old told)
adds_told r old new same is h = (subst (λ (b : List ℕ). IfOk r (λ f. f ≡ fits old b)) same is, subst (λ (b : List ℕ). OnOk r (new ≡ added old b)) same h)
