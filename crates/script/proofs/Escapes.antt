-- The bytes of a word, one after another.
use Rattle.std.proofs.Common.{◌≡◌, ℕ, ◌++◌, ◌&&◌, ◌==◌, List, [], ◌∷◌, Option, Some, None, Bool, true, false, cond, eqb, length, ap, sym, ◌∙◌, refl, append_assoc, append-nil}
use Rattle.std.specs.List.{list_all}
use Rattle.script.specs.Numbers.{hex_in, with_digits}
use Rattle.script.specs.Texts.{before, bytes_after, bytes_behind, escape_of, first_of, is_plain}

at_plain : (done : List ℕ) (a : ℕ) (rest : List ℕ) → is_plain a ≡ true → bytes_after done (a ∷ rest) ≡ bytes_after (done ++ a ∷ []) rest
at_plain done a [] e = ap (λ (t : Bool). cond t (Some (done ++ a ∷ [])) None) e
at_plain done a (b ∷ []) e = ap (λ (t : Bool). cond t (bytes_after (done ++ a ∷ []) (b ∷ [])) None) e
at_plain done a (b ∷ c ∷ []) e = ap (λ (t : Bool). cond t (bytes_after (done ++ a ∷ []) (b ∷ c ∷ [])) None) e
at_plain done a (b ∷ c ∷ d ∷ rest) e =
    ap (λ (t : Bool). cond t (bytes_after (done ++ a ∷ []) (b ∷ c ∷ d ∷ rest)) (bytes_behind (λ byte. bytes_after (done ++ byte ∷ []) rest) (escape_of (a ∷ b ∷ c ∷ d ∷ rest)))) e

at_none : (done : List ℕ) (a : ℕ) (rest : List ℕ) → is_plain a ≡ false → escape_of (a ∷ rest) ≡ None → bytes_after done (a ∷ rest) ≡ None
at_none done a [] e f = ap (λ (t : Bool). cond t (Some (done ++ a ∷ [])) None) e
at_none done a (b ∷ []) e f = ap (λ (t : Bool). cond t (bytes_after (done ++ a ∷ []) (b ∷ [])) None) e
at_none done a (b ∷ c ∷ []) e f = ap (λ (t : Bool). cond t (bytes_after (done ++ a ∷ []) (b ∷ c ∷ [])) None) e
at_none done a (b ∷ c ∷ d ∷ rest) e f =
    ap (λ (t : Bool). cond t (bytes_after (done ++ a ∷ []) (b ∷ c ∷ d ∷ rest)) (bytes_behind (λ byte. bytes_after (done ++ byte ∷ []) rest) (escape_of (a ∷ b ∷ c ∷ d ∷ rest)))) e
    ∙ ap (bytes_behind (λ byte. bytes_after (done ++ byte ∷ []) rest)) f

abbrev goes_on : List ℕ → Option (ℕ × List ℕ) → Option (List ℕ)
goes_on done None = None
goes_on done (Some p) = bytes_after (done ++ p.0 ∷ []) p.1

behind_escape : (done rest after : List ℕ) (byte : ℕ) (t : Bool) (o : Option ℕ) → cond t (before rest o) None ≡ Some (byte, after)
    → bytes_behind (λ x. bytes_after (done ++ x ∷ []) rest) (cond t (before rest o) None) ≡ bytes_after (done ++ byte ∷ []) after
behind_escape done rest after byte true None f = cc f
behind_escape done rest after byte true (Some x) f = ap (goes_on done) f
behind_escape done rest after byte false o f = cc f

at_escape : (done : List ℕ) (a : ℕ) (rest : List ℕ) (byte : ℕ) (after : List ℕ) → is_plain a ≡ false → escape_of (a ∷ rest) ≡ Some (byte, after)
    → bytes_after done (a ∷ rest) ≡ bytes_after (done ++ byte ∷ []) after
at_escape done a [] byte after e f = cc f
at_escape done a (b ∷ []) byte after e f = cc f
at_escape done a (b ∷ c ∷ []) byte after e f = cc f
at_escape done a (b ∷ c ∷ d ∷ rest) byte after e f =
    ap (λ (t : Bool). cond t (bytes_after (done ++ a ∷ []) (b ∷ c ∷ d ∷ rest)) (bytes_behind (λ byte. bytes_after (done ++ byte ∷ []) rest) (escape_of (a ∷ b ∷ c ∷ d ∷ rest)))) e
    ∙ behind_escape done rest after byte (a == 92 && b == 120) (with_digits (hex_in c) (hex_in d)) f

more_at : (done : List ℕ) (a : ℕ) (rest : List ℕ) (byte : ℕ) (after : List ℕ) (t : Bool) → is_plain a ≡ t → cond t (Some (a, rest)) (escape_of (a ∷ rest)) ≡ Some (byte, after)
    → bytes_after done (a ∷ rest) ≡ bytes_after (done ++ byte ∷ []) after
more_at done a rest byte after true e f = at_plain done a rest e ∙ ap (goes_on done) f
more_at done a rest byte after false e f = at_escape done a rest byte after e f

pub at_more : (done text : List ℕ) (byte : ℕ) (after : List ℕ) → first_of text ≡ Some (byte, after) → bytes_after done text ≡ bytes_after (done ++ byte ∷ []) after
at_more done [] byte after f = cc f
at_more done (a ∷ rest) byte after f = more_at done a rest byte after (is_plain a) refl f

ends_at : (done : List ℕ) (a : ℕ) (rest : List ℕ) (t : Bool) → is_plain a ≡ t → cond t (Some (a, rest)) (escape_of (a ∷ rest)) ≡ None → bytes_after done (a ∷ rest) ≡ None
ends_at done a rest true e f = cc f
ends_at done a rest false e f = at_none done a rest e f

pub at_end : (done text : List ℕ) → eqb (length text) 0 ≡ false → first_of text ≡ None → bytes_after done text ≡ None
at_end done [] some f = absurd (cc some)
at_end done (a ∷ rest) some f = ends_at done a rest (is_plain a) refl f

both : (s t : Bool) → (s && t) ≡ true → (s ≡ true) × (t ≡ true)
both true t e = (refl, e)
both false t e = absurd (cc e)

-- bytes that stand for themselves
pub all_plain : (done text : List ℕ) → list_all is_plain text ≡ true → bytes_after done text ≡ Some (done ++ text)
all_plain done [] e = ap Some (sym (append-nil done))
all_plain done (a ∷ rest) e =
    let each = both (is_plain a) (list_all is_plain rest) e in
    at_plain done a rest each.0 ∙ all_plain (done ++ a ∷ []) rest each.1 ∙ ap Some (append_assoc done (a ∷ []) rest)
