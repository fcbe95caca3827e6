-- Records one behind the other.
use Rattle.std.proofs.Common.{◌≡◌, ℕ, ◌+◌, ◌≤◌, List, [], ◌∷◌, ◌++◌, refl, sym, ◌∙◌, subst, arith}
use Rattle.commit_log.specs.Frame.{frame_length, HasFrame, HasRecord}
use Rattle.commit_log.specs.File.{HasHeader, HasNone, Stand}
use Rattle.commit_log.specs.Kept.{BeginsWith}
use Rattle.commit_log.specs.Reads.{KeepsBelow}
use Rattle.commit_log.proofs.Parts.{held_below}
use Rattle.commit_log.proofs.Spelled.{length-frame, length-header, same_record}

pub stand_forward : (key : ℕ) (file : List ℕ) (from : ℕ) (records : List (List ℕ)) (end : ℕ) → Stand key file from records end → from ≤ end
stand_forward key file from [] end stand = omega (arith, stand)
stand_forward key file from (r ∷ records) end stand =
    omega (arith, stand_forward key file (from + frame_length r) records end stand.1)

pub stand_on : (key : ℕ) (file : List ℕ) (from : ℕ) (a : List (List ℕ)) (middle : ℕ) (b : List (List ℕ)) (end : ℕ) → Stand key file from a middle → Stand key file middle b end → Stand key file from (a ++ b) end
stand_on key file from [] middle b end first then = subst (λ (p : ℕ). Stand key file p b end) (sym first) then
stand_on key file from (r ∷ a) middle b end first then =
    (first.0, stand_on key file (from + frame_length r) a middle b end first.1 then)

-- where records stand, all their beginnings end somewhere
pub stand_split : (key : ℕ) (file : List ℕ) (from : ℕ) (a b : List (List ℕ)) (end : ℕ) → Stand key file from (a ++ b) end → (middle : ℕ) × Stand key file from a middle × Stand key file middle b end
stand_split key file from [] b end stand = (from, refl, stand)
stand_split key file from (r ∷ a) b end stand =
    let rest = stand_split key file (from + frame_length r) a b end stand.1 in (rest.0, (stand.0, rest.1), rest.2)

pub frame_below : (key : ℕ) (old new : List ℕ) (below place kept : ℕ) (payload : List ℕ) → KeepsBelow below old new → place + frame_length payload ≤ below → HasFrame key old place kept payload → HasFrame key new place kept payload
frame_below key old new below place kept payload keeps low has = record {
  bytes = held_below below old new _ place keeps (omega (arith, length-frame key place kept payload)) has.bytes;
  kept_fits = has.kept_fits;
  length_fits = has.length_fits;
}

pub stand_below : (key : ℕ) (old new : List ℕ) (below from : ℕ) (records : List (List ℕ)) (end : ℕ) → KeepsBelow below old new → end ≤ below → Stand key old from records end → Stand key new from records end
stand_below key old new below from [] end keeps low stand = stand
stand_below key old new below from (r ∷ records) end keeps low stand =
    let forward = stand_forward key old (from + frame_length r) records end stand.1 in (
      (stand.0.0, frame_below key old new below from stand.0.0 r keeps (omega arith) stand.0.1),
      stand_below key old new below (from + frame_length r) records end keeps low stand.1,
    )

pub header_below : (key : ℕ) (old new : List ℕ) (below : ℕ) → KeepsBelow below old new → 32 ≤ below → HasHeader key old → HasHeader key new
header_below key old new below keeps low has =
    record { bytes = held_below below old new _ 0 keeps (omega (arith, length-header key)) has.bytes; key_fits = has.key_fits }

pub begins_below : (key : ℕ) (old new : List ℕ) (below : ℕ) (records : List (List ℕ)) (end : ℕ) → KeepsBelow below old new → end ≤ below → BeginsWith key records end old → BeginsWith key records end new
begins_below key old new below records end keeps low begins = record {
  header = header_below key old new below keeps (omega (arith, stand_forward key old 32 records end begins.stand)) begins.header;
  stand = stand_below key old new below 32 records end keeps low begins.stand;
}

-- one record more
pub begins_push : (key : ℕ) (file : List ℕ) (records : List (List ℕ)) (end : ℕ) (payload : List ℕ) → BeginsWith key records end file → HasRecord key file end payload → BeginsWith key (records ++ payload ∷ []) (end + frame_length payload) file
begins_push key file records end payload begins has = record {
  header = begins.header;
  stand = stand_on key file 32 records end (payload ∷ []) (end + frame_length payload) begins.stand (has, refl);
}

-- the records from a place on are known
pub same_records : (key : ℕ) (file : List ℕ) (from : ℕ) (a b : List (List ℕ)) (c d : ℕ) → Stand key file from a c → HasNone key file c → Stand key file from b d → HasNone key file d → (a ≡ b) × (c ≡ d)
same_records key file from [] [] c d first none second other = (refl, sym first ∙ second)
same_records key file from [] (r ∷ b) c d first none second other =
    absurd (none r (subst (λ (p : ℕ). HasRecord key file p r) first second.0))
same_records key file from (r ∷ a) [] c d first none second other =
    absurd (other r (subst (λ (p : ℕ). HasRecord key file p r) second first.0))
same_records key file from (r ∷ a) (s ∷ b) c d first none second other =
    let same = same_record key file from r s first.0 second.0 in
    let rest = same_records key file (from + frame_length r) a b c d first.1 none (subst (λ (q : List ℕ). Stand key file (from + frame_length q) b d) (sym same) second.1) other in
    ((λ i. same i ∷ rest.0 i), rest.1)
