-- The entries that are kept stand behind those that were forgotten.
use Rattle.std.proofs.Common.{◌≡◌, ◌+◌, List, [], ◌∷◌, ◌++◌, length, drop, sum, refl, sym, ◌∙◌, ap, arith}
use Rattle.std.proofs.Math.Seq.{drop-append_seam}
use Rattle.std.proofs.lemmas.List.{length-append}
use Rattle.std.proofs.lemmas.List.Sums.{sum_by-append}
use Rattle.ids.specs.declared.entry.Entry.{Entry}
use Rattle.history.specs.declared.past.Past.{Past, Start, Then'}
use Rattle.history.specs.Past.{counts_in, entries_in}

pub count_is : (past : Past) → sum (counts_in past) ≡ length (entries_in past)
count_is Start = refl
count_is (Then' shape before entries) =
    let rest : sum (counts_in before) ≡ length (entries_in before) = count_is before in
    let parts : sum (counts_in before ++ length entries.value.items ∷ []) ≡ sum (counts_in before) + length entries.value.items = sum_by-append (λ x. x) (counts_in before) (length entries.value.items ∷ []) ∙ ap (λ x. sum (counts_in before) + x) (omega arith) in
    parts ∙ ap (λ x. x + length entries.value.items) rest ∙ sym (length-append (entries_in before) entries.value.items)

pub kept_are : (past : Past) (es : List Entry) → drop (sum (counts_in past)) (entries_in past ++ es) ≡ es
kept_are past es = ap (λ n. drop n (entries_in past ++ es)) (count_is past) ∙ drop-append_seam (entries_in past) es

-- where no count was forgotten, nothing was
pub none_before : (past : Past) (es : List Entry) → counts_in past ≡ [] → entries_in past ++ es ≡ es
none_before past es none = none_of (entries_in past) (sym (count_is past) ∙ ap sum none) where
  none_of : (before : List Entry) → length before ≡ 0 → before ++ es ≡ es
  none_of [] h = refl
  none_of (e ∷ before) h = absurd (omega arith)
