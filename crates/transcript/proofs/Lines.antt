-- Lines that grow by one.
use Rattle.std.proofs.Common.{◌≡◌, ℕ, ◌+◌, ◌<◌, List, [], ◌∷◌, ◌++◌, sym, ap, ◌∙◌, append_assoc, append-nil, take, length, get_or, arith, length-take}
use Rattle.std.proofs.lemmas.List.{take_more}
use Rattle.ids.specs.declared.entry.Entry.{Entry}
use Rattle.transcript.specs.Line.{line_of, lines_from}

-- the lines of entries and of one more
pub lines_from-push : (first position : ℕ) (xs : List Entry) (x : Entry) → position ≡ first + length xs → lines_from first (xs ++ x ∷ []) ≡ lines_from first xs ++ line_of position x
lines_from-push first position [] x e = append-nil (line_of first x) ∙ ap (λ (k : ℕ). line_of k x) (let same : first ≡ position = omega arith in same)
lines_from-push first position (y ∷ ys) x e =
    ap (λ (t : List ℕ). line_of first y ++ t) (lines_from-push (first + 1) position ys x (omega arith))
    ∙ sym (append_assoc (line_of first y) (lines_from (first + 1) ys) (line_of position x))

pub lines_from-more : (first i : ℕ) (xs : List Entry) (x : Entry) → i < length xs → x ≡ get_or xs i x → lines_from first (take (i + 1) xs) ≡ lines_from first (take i xs) ++ line_of (first + i) x
lines_from-more first i xs x below is =
    ap (lines_from first) (take_more xs i x below ∙ ap (λ (y : Entry). take i xs ++ y ∷ []) (sym is))
    ∙ lines_from-push first (first + i) (take i xs) x (omega (arith, length-take {A = Entry} i xs))

-- the lines of one entry are its line
pub lines_from-one : (position : ℕ) (entry : Entry) (entries : List Entry) → entries ≡ entry ∷ [] → lines_from position entries ≡ line_of position entry
lines_from-one position entry entries is = ap (lines_from position) is ∙ append-nil (line_of position entry)
