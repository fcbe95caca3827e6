-- How a log is opened.
use Rattle.std.proofs.Common.{◌≡◌, inl, inr, ℕ, ◌+◌, ◌-◌, ◌<◌, ◌≤◌, List, [], ◌∷◌, ◌++◌, length, slice_index, drop, refl, sym, ◌∙◌, ap, subst, arith, length-drop}
use Rattle.std.specs.Prelude.{IsTrue}
use Rattle.std.proofs.Math.ListN.{replicate}
use Rattle.std.proofs.lemmas.Bool.{cases_lt}
use Rattle.std.proofs.lemmas.List.{get_or-replicate, get_or_past, length-replicate}
use Rattle.sqlite_disk.specs.declared.Disk.{Ghosts}
use Rattle.sqlite_disk.specs.Disk.{Holds, Torn, Follows}
use Rattle.commit_log.specs.Frame.{frame_length, HasFrame}
use Rattle.commit_log.specs.File.{HasNone, NoneTells, Reaches, Stand}
use Rattle.commit_log.specs.Reads.{ChangesFrom, KeepsBelow, OnlyReads}
use Rattle.commit_log.proofs.Parts.{keeps_on, torn_keeps}
use Rattle.commit_log.proofs.Spelled.{frame_within, kept_at}
use Rattle.commit_log.proofs.Standing.{stand_on}

pub reads_on : {D : Type 0} (g : Ghosts D) (a b c : D) → OnlyReads g a b → OnlyReads g b c → OnlyReads g a c
reads_on g a b c first then = record {
  seen = then.seen ∙ first.seen;
  clean = λ h. first.clean (then.clean h);
  usable = then.usable;
  crash = λ file left. first.crash file (then.crash file left);
}

pub reaches_here : (key : ℕ) (file : List ℕ) (from : ℕ) → Reaches key file from from
reaches_here key file from = ([], refl)

pub reaches_more : (key : ℕ) (file : List ℕ) (from end next kept : ℕ) (bytes : List ℕ) → Reaches key file from end → HasFrame key file end kept (drop 32 bytes) → 32 ≤ length bytes → end + length bytes ≡ next → Reaches key file from next
reaches_more key file from end next kept bytes reach has long is =
    let whole : end + frame_length (drop 32 bytes) ≡ next = omega (arith, length-drop 32 bytes) in (
      reach.0 ++ drop 32 bytes ∷ [],
      stand_on key file from reach.0 end (drop 32 bytes ∷ []) next reach.1 ((kept, has), whole),
    )

pub none_past : (key : ℕ) (file : List ℕ) (place : ℕ) → length file ≤ place → HasNone key file place
none_past key file place short payload has = omega (arith, frame_within key file place has.0 payload has.1)

-- what was found at a place says how far the file was kept
pub one_kept : (key : ℕ) (file : List ℕ) (place a b : ℕ) (p q : List ℕ) → HasFrame key file place a p → HasFrame key file place b q → a ≡ b
one_kept key file place a b p q first second = sym (kept_at key file place a p first) ∙ kept_at key file place b q second

-- no frame up to a place tells of damage, nor does the next one
pub none_tells_more : (key : ℕ) (file : List ℕ) (place before : ℕ) → ((later kept : ℕ) (payload : List ℕ) → place < later → later ≤ before → HasFrame key file later kept payload → kept ≤ place)
    → ((kept : ℕ) (payload : List ℕ) → HasFrame key file (before + 1) kept payload → kept ≤ place)
    → (later kept : ℕ) (payload : List ℕ) → place < later → later ≤ before + 1 → HasFrame key file later kept payload → kept ≤ place
none_tells_more key file place before none next later kept payload behind low has = elim (cases_lt later (before + 1)) [
  | inl earlier ↦ none later kept payload behind (omega arith) has
  | inr here ↦
      let same : later ≡ before + 1 = omega arith in
      next kept payload (subst (λ (x : ℕ). HasFrame key file x kept payload) same has)
]

pub none_tells_all : (key : ℕ) (file : List ℕ) (place size : ℕ) → length file ≤ size → ((later kept : ℕ) (payload : List ℕ) → place < later → later ≤ size → HasFrame key file later kept payload → kept ≤ place) → NoneTells key file place
none_tells_all key file place size short none later kept payload behind has =
    none later kept payload behind (omega (arith, frame_within key file later kept payload has)) has

pub keeps_same : (place : ℕ) (file : List ℕ) → KeepsBelow place file file
keeps_same place file = record { no_shorter = omega arith; below = λ i within low. refl }

pub changes_same : (place : ℕ) (old : List ℕ → Type 0) → ChangesFrom place old old
changes_same place old file left = (file, left, keeps_same place file)

-- one write more behind that place
pub changes_more : (place at n : ℕ) (first old new : List ℕ → Type 0) → place ≤ at → ChangesFrom place first old → Follows (Torn at n) old new → ChangesFrom place first new
changes_more place at n first old new low changes follows file left =
    let from = follows file left in
    let before = changes from.0 from.1 in
    (before.0, before.1, keeps_on place before.0 from.0 file before.2 (torn_keeps place at n from.0 file low from.2))

pub changes_less : (place : ℕ) (first old new : List ℕ → Type 0) → ChangesFrom place first old → ((file : List ℕ) → new file → old file) → ChangesFrom place first new
changes_less place first old new changes less file left = changes file (less file left)

pub slice_index-zeros : (n i : ℕ) → slice_index (replicate n 0) i ≡ 0
slice_index-zeros n i = elim (cases_lt i n) [
  | inl low ↦ get_or-replicate n i 0 0 low
  | inr past ↦ get_or_past (replicate n 0) i 0 (omega (arith, length-replicate {A = ℕ} n 0))
]

-- zeros that were written at a place, behind zeros
pub zeros_more : (from at size n : ℕ) (old new bytes : List ℕ) → from ≤ at → at + length bytes ≤ size → bytes ≡ replicate n 0 → Torn at (length bytes) old new → Holds new at bytes → length old ≡ size → ((i : ℕ) → from ≤ i → i < at → slice_index old i ≡ 0)
    → (length new ≡ size) × ((i : ℕ) → from ≤ i → i < at + length bytes → slice_index new i ≡ 0)
zeros_more from at size n old new bytes low high zeros torn holds sized before = (
  omega (arith, torn.no_longer, torn.no_shorter),
  λ i above below. elim (cases_lt i at) [
    | inl earlier ↦ torn.below i (omega arith) earlier ∙ before i above earlier
    | inr here ↦
        let place : at + (i - at) ≡ i = omega arith in
        ap (slice_index new) (sym place)
        ∙ holds.each (i - at) (omega arith)
        ∙ ap (λ (xs : List ℕ). slice_index xs (i - at)) zeros
        ∙ slice_index-zeros n (i - at)
  ],
)

-- the end of records depends on nothing but them
pub same_end : (key : ℕ) (a b : List ℕ) (from : ℕ) (records : List (List ℕ)) (c d : ℕ) → Stand key a from records c → Stand key b from records d → c ≡ d
same_end key a b from [] c d first second = sym first ∙ second
same_end key a b from (r ∷ records) c d first second =
    same_end key a b (from + frame_length r) records c d first.1 second.1

pub reads_same : {D : Type 0} (g : Ghosts D) (a : D) → IsTrue (g.is_usable a) → OnlyReads g a a
reads_same g a usable = record { seen = refl; clean = λ h. h; usable = usable; crash = λ file left. left }
