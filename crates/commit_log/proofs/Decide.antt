-- Whether a record stands at a place.
use Rattle.std.proofs.Common.{◌≡◌, ◌≢◌, ◌⊎◌, inl, inr, ℕ, ◌+◌, ◌^◌, List, [], ◌∷◌, length, sym, refl, ◌∙◌, ap, ap₂, arith}
use Rattle.std.proofs.lemmas.Bool.{cases_eq, cases_lt}
use Rattle.commit_log.specs.Frame.{part, frame, HasRecord}
use Rattle.commit_log.specs.File.{HasNone}
use Rattle.commit_log.proofs.Numbers.{value}
use Rattle.commit_log.proofs.Parts.{part_held, held_part, length-part}
use Rattle.commit_log.proofs.Spelled.{length-frame, frame_within, kept_at, length_at, payload_at}

-- two lists are one or they are not
pub cases_list : (xs ys : List ℕ) → (xs ≡ ys) ⊎ (xs ≢ ys)
cases_list [] [] = inl refl
cases_list [] (y ∷ ys) = inr (λ e. cc)
cases_list (x ∷ xs) [] = inr (λ e. cc)
cases_list (x ∷ xs) (y ∷ ys) = elim (cases_eq x y) [
  | inl same ↦ elim (cases_list xs ys) [
    | inl all ↦ inl (λ i. same i ∷ all i)
    | inr others ↦ inr (λ e. others (cc))
  ]
  | inr other ↦ inr (λ e. other (cc))
]

-- the same, where these are the numbers and the bytes that stand where a frame has them
decide_with : (key : ℕ) (file : List ℕ) (place k n : ℕ) (r : List ℕ) → k ≡ value (part file (place + 16) 8) → n ≡ value (part file (place + 24) 8) → r ≡ part file (place + 32) n
    → ((payload : List ℕ) × HasRecord key file place payload) ⊎ HasNone key file place
decide_with key file place k n r k_is n_is r_is = elim (cases_lt (length file) (place + (32 + n))) [
  | inl beyond ↦ inr (λ payload has. omega (arith, frame_within key file place has.0 payload has.1, n_is ∙ length_at key file place has.0 payload has.1))
  | inr within ↦ elim (cases_lt k (2 ^ 64)) [
    | inr large ↦ inr (λ payload has. omega (arith, has.1.kept_fits, k_is ∙ kept_at key file place has.0 payload has.1))
    | inl k_fits ↦ elim (cases_lt n (2 ^ 64)) [
      | inr long ↦ inr (λ payload has. omega (arith, has.1.length_fits, n_is ∙ length_at key file place has.0 payload has.1))
      | inl n_fits ↦ elim (cases_list (part file place (32 + n)) (frame key place k r)) [
        | inl same ↦
            let long : length r ≡ n = ap length r_is ∙ length-part file (place + 32) n (omega arith) in
            inl (
              r,
              (
                k,
                record {
                  bytes = held_part file (frame key place k r) place (32 + n) within (omega (arith, length-frame key place k r, long)) same;
                  kept_fits = k_fits;
                  length_fits = omega (arith, long);
                },
              ),
            )
        | inr differs ↦ inr (λ payload has.
            let same_length = n_is ∙ length_at key file place has.0 payload has.1 in
            let same_payload = r_is ∙ ap (part file (place + 32)) same_length ∙ payload_at key file place has.0 payload has.1 in
            let same_kept = k_is ∙ kept_at key file place has.0 payload has.1 in
            differs (
            part_held file _ place (32 + n) has.1.bytes (omega (arith, length-frame key place has.0 payload, same_length))
            ∙ ap₂ (λ (x : ℕ) (y : List ℕ). frame key place x y) (sym same_kept) (sym same_payload)
            ))
      ]
    ]
  ]
]

pub decide_frame : (key : ℕ) (file : List ℕ) (place : ℕ) → ((payload : List ℕ) × HasRecord key file place payload) ⊎ HasNone key file place
decide_frame key file place = decide_with key file place _ _ _ refl refl refl
