-- What a file that begins with the kept records reads as.
use Rattle.std.proofs.Common.{◌≡◌, ◌⊎◌, inl, inr, ℕ, suc, ◌+◌, ◌≤◌, List, [], ◌∷◌, length, take, drop, refl, sym, subst, arith}
use Rattle.sqlite_disk.specs.Disk.{Torn, Follows, Only}
use Rattle.commit_log.specs.Frame.{frame_length, HasRecord}
use Rattle.commit_log.specs.File.{HasNone, Stand}
use Rattle.commit_log.specs.Kept.{BeginsWith, AreKept, ReadsFirst, IsForged, LeavesFirst}
use Rattle.commit_log.proofs.Decide.{cases_list, decide_frame}
use Rattle.commit_log.proofs.Parts.{torn_keeps}
use Rattle.commit_log.proofs.Standing.{stand_on, begins_below}

-- how far the file has these records, and what stands where they end
record Walked (key : ℕ) (file : List ℕ) (from : ℕ) (records : List (List ℕ)) : Type 0 where
  count : ℕ
  no_more : count ≤ length records
  end : ℕ
  stand : Stand key file from (take count records) end
  stops : HasNone key file end ⊎ ((payload : List ℕ) × HasRecord key file end payload × ((rest : List (List ℕ)) → drop count records ≡ payload ∷ rest → ⊥))

walk : (key : ℕ) (file : List ℕ) (from : ℕ) (records : List (List ℕ)) → Walked key file from records
walk key file from [] = elim (decide_frame key file from) [
  | inl has ↦
      record { count = 0; no_more = omega arith; end = from; stand = refl; stops = inr (has.0, has.1, λ rest e. cc) }
  | inr none ↦ record { count = 0; no_more = omega arith; end = from; stand = refl; stops = inl none }
]
walk key file from (r ∷ records) = elim (decide_frame key file from) [
  | inl has ↦ elim (cases_list r has.0) [
    | inl same ↦
        let further = walk key file (from + frame_length r) records in
        record {
          count = suc further.count;
          no_more = omega (arith, further.no_more);
          end = further.end;
          stand = (subst (λ (p : List ℕ). HasRecord key file from p) (sym same) has.1, further.stand);
          stops = further.stops;
        }
    | inr other ↦
        record { count = 0; no_more = omega arith; end = from; stand = refl; stops = inr (has.0, has.1, λ rest e. other (cc)) }
  ]
  | inr none ↦ record { count = 0; no_more = omega arith; end = from; stand = refl; stops = inl none }
]

pub reads_first : (key : ℕ) (kept appended : List (List ℕ)) (end : ℕ) (file : List ℕ) → BeginsWith key kept end file → ReadsFirst key kept appended file ⊎ IsForged key kept appended file
reads_first key kept appended end file begins =
    let further = walk key file end appended in
    let stand = stand_on key file 32 kept end (take further.count appended) further.end begins.stand further.stand in
    elim further.stops [
      | inl none ↦ inl (
          record {
            count = further.count;
            no_more = further.no_more;
            reads = record { header = begins.header; continues = record { end = further.end; stand = stand; stops = none } };
          }
          )
      | inr forged ↦ inr (
          record {
            count = further.count;
            no_more = further.no_more;
            end = further.end;
            before = record { header = begins.header; stand = stand };
            payload = forged.0;
            fits = forged.1;
            never = forged.2;
          }
          )
    ]

pub leaves_first : (may_leave : List ℕ → Type 0) (key : ℕ) (kept : List (List ℕ)) (end : ℕ) (appended : List (List ℕ)) → AreKept may_leave key kept end → LeavesFirst may_leave key kept appended
leaves_first may_leave key kept end appended kept_all file left = reads_first key kept appended end file (kept_all file left)

-- a write behind the kept records leaves them in whatever a crash leaves
pub kept_through_write : (old new : List ℕ → Type 0) (key : ℕ) (kept : List (List ℕ)) (end at n : ℕ) → end ≤ at → AreKept old key kept end → Follows (Torn at n) old new → AreKept new key kept end
kept_through_write old new key kept end at n low all follows file left =
    let from = follows file left in
    begins_below key from.0 file end kept end (torn_keeps end at n from.0 file low from.2) (omega arith) (all from.0 from.1)

-- a sync keeps what is in the file
pub kept_by_sync : (file : List ℕ) (new : List ℕ → Type 0) (key : ℕ) (records : List (List ℕ)) (end : ℕ) → BeginsWith key records end file → Only file new → AreKept new key records end
kept_by_sync file new key records end begins only left may = subst (BeginsWith key records end) (sym (only left may)) begins
