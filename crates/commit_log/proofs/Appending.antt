-- What a file is like behind its records, and after one more.
use Rattle.std.proofs.Common.{◌≡◌, inl, inr, ℕ, ◌+◌, ◌^◌, ◌<◌, ◌≤◌, List, [], ◌∷◌, ◌++◌, length, slice_index, sym, refl, ◌∙◌, ap, subst, arith, append_assoc, ext_get_or}
use Rattle.std.proofs.Math.ListN.{replicate}
use Rattle.std.proofs.lemmas.Bool.{cases_lt}
use Rattle.std.proofs.lemmas.List.{get_or-replicate}
use Rattle.sqlite_disk.specs.Disk.{Holds, Torn}
use Rattle.commit_log.specs.Frame.{part, number, frame, frame_length, HasFrame}
use Rattle.commit_log.specs.File.{HasNone, IsBlankFrom, Reads}
use Rattle.commit_log.specs.Kept.{BeginsWith}
use Rattle.commit_log.proofs.Numbers.{length-number}
use Rattle.commit_log.proofs.Parts.{torn_keeps, part_of_held, slice_index-part, length-part}
use Rattle.commit_log.proofs.Spelled.{length-frame, says_place, same_number}
use Rattle.commit_log.proofs.Standing.{stand_forward, begins_below, begins_push}

zeros_are_0 : number 0 ≡ replicate 8 0
unfolding number
zeros_are_0 = refl

-- where a file is blank no record stands, since a record begins with its own place
pub blank_has_none : (key : ℕ) (file : List ℕ) (place : ℕ) → IsBlankFrom file place → 0 < place → place < 2 ^ 64 → HasNone key file place
blank_has_none key file place blank some fits payload has =
    let f = frame key place has.0 payload in
    let long = length-frame key place has.0 payload in
    let in_frame : part f 8 8 ≡ number place = says_place key place has.0 payload f refl in
    let in_file : part file (place + 8) 8 ≡ number place = part_of_held file f place 8 8 has.1.bytes (omega (arith, long)) ∙ in_frame in
    let within : place + 8 + 8 ≤ length file = omega (arith, has.1.bytes.within, long) in
    let zeros : part file (place + 8) 8 ≡ number 0 = ext_get_or 0 _ _ (length-part file (place + 8) 8 within ∙ sym (length-number 0)) λ i low.
    let under : i < 8 = omega (arith, length-part file (place + 8) 8 within) in
    let here : place + 8 + i ≡ place + (8 + i) = omega arith in
    slice_index-part file (place + 8) 8 i under ∙ ap (slice_index file) here ∙ blank (8 + i) (omega arith) ∙ sym (ap (λ (xs : List ℕ). slice_index xs i) zeros_are_0 ∙ get_or-replicate 8 i 0 0 under) in
    let nowhere : place ≡ 0 = same_number place 0 fits (omega arith) (sym in_file ∙ zeros) in
    omega arith

pub reads_whole : (key : ℕ) (file : List ℕ) (records : List (List ℕ)) (end : ℕ) → BeginsWith key records end file → IsBlankFrom file end → end < 2 ^ 64 → Reads key file records
reads_whole key file records end begins blank fits = record {
  header = begins.header;
  continues = record {
    end = end;
    stand = begins.stand;
    stops = blank_has_none key file end blank (omega (arith, stand_forward key file 32 records end begins.stand)) fits;
  };
}

-- a frame that was written behind the records is one record more
pub begins_more : (key : ℕ) (old new : List ℕ) (kept appended : List (List ℕ)) (end upto n : ℕ) (payload bytes : List ℕ) → BeginsWith key (kept ++ appended) end old → Torn end n old new → Holds new end bytes → bytes ≡ frame key end upto payload → upto < 2 ^ 64 → length payload < 2 ^ 64
    → BeginsWith key (kept ++ (appended ++ payload ∷ [])) (end + frame_length payload) new
begins_more key old new kept appended end upto n payload bytes begins torn holds is upto_fits fits =
    let still = begins_below key old new end (kept ++ appended) end (torn_keeps end end n old new (omega arith) torn) (omega arith) begins in
    let has : HasFrame key new end upto payload = record { bytes = subst (Holds new end) is holds; kept_fits = upto_fits; length_fits = fits } in
    subst (λ (l : List (List ℕ)). BeginsWith key l (end + frame_length payload) new) (append_assoc kept appended (payload ∷ [])) (
    begins_push key new (kept ++ appended) end payload still (upto, has)
    )

pub blank_behind : (old new : List ℕ) (end n : ℕ) → IsBlankFrom old end → Torn end n old new → IsBlankFrom new (end + n)
blank_behind old new end n blank torn i within = elim (cases_lt (end + n + i) (length old)) [
  | inl inside ↦
      let here : end + (n + i) ≡ end + n + i = omega arith in
      torn.above (end + n + i) inside (omega arith) ∙ ap (slice_index old) (sym here) ∙ blank (n + i) (omega arith)
  | inr past ↦ absurd (omega (arith, torn.no_longer))
]
