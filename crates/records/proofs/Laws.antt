-- Touches that are kept each once: what a list of them tells does not change by it.
use Rattle.std.proofs.Common.{◌≡◌, ◌∙◌, sym, refl, ap, ℕ, ◌≤◌, Bool, true, false, not, ◌&&◌, ◌||◌, List, [], ◌∷◌, ◌++◌, length, take, Option, Some, None, if◌then◌else◌, arith}
use Rattle.std.specs.List.{list_any}
use Rattle.std.proofs.lemmas.List.{take-take, take_at, take_all, length_push}
use Rattle.std.proofs.lemmas.List.Folds.{list_any-append}
use Rattle.model.specs.Steps.{Touch}
use Rattle.model.specs.Clashes.{same_aspect, has_touch, clash, clashes, any_clash, with_name, written_name, least_written, by_names, entry_or, clashing_touch, doomed_touch}
use Rattle.model.specs.Aspects.{Aspect, Entry, Names, Size, Block, Links, Ends, Offset, Front, Back}
use Rattle.model.specs.Aspects.{Target, Rights}
use Rattle.records.specs.Touches.{with_touch, with_touches, distinct}
use Rattle.records.specs.Index.{has}
use Rattle.records.proofs.Exact.{touch_from_test}
use Rattle.records.proofs.Names.{least_assoc, lesser_again}

pub with_there : (held : List Touch) (t : Touch) → has t held ≡ true → with_touch held t ≡ held
with_there held t h = ap (λ b. if b then held else held ++ t ∷ []) h

pub with_new : (held : List Touch) (t : Touch) → has t held ≡ false → with_touch held t ≡ held ++ t ∷ []
with_new held t h = ap (λ b. if b then held else held ++ t ∷ []) h

pub with_touches_append : (held xs ys : List Touch) → with_touches held (xs ++ ys) ≡ with_touches (with_touches held xs) ys
with_touches_append held [] ys = refl
with_touches_append held (t ∷ xs) ys = with_touches_append (with_touch held t) xs ys

take_with_touch : (held : List Touch) (t : Touch) (b : Bool) → take (length held) (if b then held else held ++ t ∷ []) ≡ held
take_with_touch held t true = take_all (length held) held (omega arith)
take_with_touch held t false = take_at held (t ∷ []) (length held) refl

with_grows : (held : List Touch) (t : Touch) (b : Bool) → length held ≤ length (if b then held else held ++ t ∷ [])
with_grows held t true = omega arith
with_grows held t false = omega (arith, length_push held t)

-- the touches that were there stand first
pub take_with_touches : (held ts : List Touch) → take (length held) (with_touches held ts) ≡ held
take_with_touches held [] = take_all (length held) held (omega arith)
take_with_touches held (t ∷ ts) =
    sym (take-take (length held) (length (with_touch held t)) (with_touches (with_touch held t) ts) (with_grows held t (has t held)))
    ∙ ap (take (length held)) (take_with_touches (with_touch held t) ts)
    ∙ take_with_touch held t (has t held)

passes : (p : Touch → Bool) (t u : Touch) (b : Bool) → (same_aspect u.aspect t.aspect && (if t.write then u.write else not u.write)) ≡ true → p t ≡ true → (p u || b) ≡ true
passes p t u b h k = ap (λ v. p v || b) (touch_from_test u t h) ∙ ap (λ c. c || b) k

or_right : (a b : Bool) → b ≡ true → (a || b) ≡ true
or_right true b h = refl
or_right false b h = h

by_first : (p : Touch → Bool) (t u : Touch) (us : List Touch) (b : Bool) → (same_aspect u.aspect t.aspect && (if t.write then u.write else not u.write)) ≡ b → p t ≡ true → (has t us ≡ true → list_any p us ≡ true) → (b || has t us) ≡ true → (p u || list_any p us) ≡ true
by_first p t u us true e k rest h = passes p t u (list_any p us) e k
by_first p t u us false e k rest h = or_right (p u) (list_any p us) (rest h)

-- a touch that is there and passes
there_passes : (p : Touch → Bool) (t : Touch) (us : List Touch) → p t ≡ true → has t us ≡ true → list_any p us ≡ true
there_passes p t [] k h = cc
there_passes p t (u ∷ us) k h = by_first p t u us (same_aspect u.aspect t.aspect && (if t.write then u.write else not u.write)) refl k (there_passes p t us k) h

or_false : (b : Bool) → (b || false) ≡ b
or_false true = refl
or_false false = refl

or_assoc : (a b c : Bool) → ((a || b) || c) ≡ (a || (b || c))
or_assoc true b c = refl
or_assoc false b c = refl

any_kept : (p : Touch → Bool) (t : Touch) (us : List Touch) (b : Bool) → p t ≡ b → has t us ≡ true → list_any p us ≡ (list_any p us || b)
any_kept p t us true e h = there_passes p t us e h ∙ sym (or_right (list_any p us) true refl)
any_kept p t us false e h = sym (or_false (list_any p us))

any_with_one : (p : Touch → Bool) (held : List Touch) (t : Touch) (b : Bool) → has t held ≡ b → list_any p (if b then held else held ++ t ∷ []) ≡ (list_any p held || p t)
any_with_one p held t true h = any_kept p t held (p t) refl h
any_with_one p held t false h = list_any-append p held (t ∷ []) ∙ ap (λ b. list_any p held || b) (or_false (p t))

-- whether some touch passes a test
pub any_with : (p : Touch → Bool) (held ts : List Touch) → list_any p (with_touches held ts) ≡ (list_any p held || list_any p ts)
any_with p held [] = sym (or_false (list_any p held))
any_with p held (t ∷ ts) = any_with p (with_touch held t) ts ∙ ap (λ b. b || list_any p ts) (any_with_one p held t (has t held) refl) ∙ or_assoc (list_any p held) (p t) (list_any p ts)

pub has_with : (a : Aspect) (w : Bool) (held ts : List Touch) → has_touch a w (with_touches held ts) ≡ (has_touch a w held || has_touch a w ts)
has_with a w held ts = any_with (λ u. same_aspect u.aspect a && (if w then u.write else not u.write)) held ts

pub clashes_with : (t : Touch) (held ts : List Touch) → clashes t (with_touches held ts) ≡ (clashes t held || clashes t ts)
clashes_with t held ts = any_with (clash t) held ts

pub any_distinct : (p : Touch → Bool) (ts : List Touch) → list_any p (distinct ts) ≡ list_any p ts
any_distinct p ts = any_with p [] ts

pub has_distinct : (a : Aspect) (w : Bool) (ts : List Touch) → has_touch a w (distinct ts) ≡ has_touch a w ts
has_distinct a w ts = has_with a w [] ts

pub clashes_distinct : (t : Touch) (us : List Touch) → clashes t (distinct us) ≡ clashes t us
clashes_distinct t us = any_distinct (clash t) us

-- of either list
pub any_clash_distinct : (ts us : List Touch) → any_clash ts (distinct us) ≡ any_clash ts us
any_clash_distinct [] us = refl
any_clash_distinct (t ∷ ts) us = ap (λ b. b || any_clash ts (distinct us)) (clashes_distinct t us) ∙ ap (λ b. clashes t us || b) (any_clash_distinct ts us)

pub any_distinct_clash : (ts us : List Touch) → any_clash (distinct ts) us ≡ any_clash ts us
any_distinct_clash ts us = any_distinct (λ t. clashes t us) ts

name_or_none : (o : Option (List ℕ)) → with_name o None ≡ o
name_or_none None = refl
name_or_none (Some x) = refl

least_append : (d : ℕ) (us : List Touch) (t : Touch) → least_written d (us ++ t ∷ []) ≡ with_name (least_written d us) (written_name d t.aspect t.write)
least_append d [] t = name_or_none (written_name d t.aspect t.write)
least_append d (u ∷ us) t = ap (with_name (written_name d u.aspect u.write)) (least_append d us t) ∙ sym (least_assoc (written_name d u.aspect u.write) (least_written d us) (written_name d t.aspect t.write))

least_by_first : (d : ℕ) (t u : Touch) (us : List Touch) (b : Bool) → (same_aspect u.aspect t.aspect && (if t.write then u.write else not u.write)) ≡ b → (has t us ≡ true → with_name (least_written d us) (written_name d t.aspect t.write) ≡ least_written d us) → (b || has t us) ≡ true → with_name (with_name (written_name d u.aspect u.write) (least_written d us)) (written_name d t.aspect t.write) ≡ with_name (written_name d u.aspect u.write) (least_written d us)
least_by_first d t u us true e rest h =
    ap (λ (v : Touch). with_name (with_name (written_name d u.aspect u.write) (least_written d us)) (written_name d v.aspect v.write)) (sym (touch_from_test u t e))
    ∙ lesser_again (written_name d u.aspect u.write) (least_written d us)
least_by_first d t u us false e rest h = least_assoc (written_name d u.aspect u.write) (least_written d us) (written_name d t.aspect t.write) ∙ ap (with_name (written_name d u.aspect u.write)) (rest h)

-- the name of an entry that is there
least_there : (d : ℕ) (t : Touch) (us : List Touch) → has t us ≡ true → with_name (least_written d us) (written_name d t.aspect t.write) ≡ least_written d us
least_there d t [] h = cc
least_there d t (u ∷ us) h = least_by_first d t u us (same_aspect u.aspect t.aspect && (if t.write then u.write else not u.write)) refl (least_there d t us) h

least_with_one : (d : ℕ) (held : List Touch) (t : Touch) (b : Bool) → has t held ≡ b → least_written d (if b then held else held ++ t ∷ []) ≡ with_name (least_written d held) (written_name d t.aspect t.write)
least_with_one d held t true h = sym (least_there d t held h)
least_with_one d held t false h = least_append d held t

-- the least name of the written entries of a directory
pub least_with : (d : ℕ) (held ts : List Touch) → least_written d (with_touches held ts) ≡ with_name (least_written d held) (least_written d ts)
least_with d held [] = sym (name_or_none (least_written d held))
least_with d held (t ∷ ts) =
    least_with d (with_touch held t) ts
    ∙ ap (λ o. with_name o (least_written d ts)) (least_with_one d held t (has t held) refl)
    ∙ least_assoc (least_written d held) (written_name d t.aspect t.write) (least_written d ts)

pub least_distinct : (d : ℕ) (us : List Touch) → least_written d (distinct us) ≡ least_written d us
least_distinct d us = least_with d [] us

by_names_distinct : (a : Aspect) (us : List Touch) → by_names a (distinct us) ≡ by_names a us
by_names_distinct (Entry d x) us = refl
by_names_distinct (Names d) us = ap (entry_or d) (least_distinct d us)
by_names_distinct (Size n) us = refl
by_names_distinct (Block n i) us = refl
by_names_distinct (Links n) us = refl
by_names_distinct (Ends p) us = refl
by_names_distinct (Offset d) us = refl
by_names_distinct (Front p) us = refl
by_names_distinct (Back p) us = refl
by_names_distinct (Target p) us = refl
by_names_distinct (Rights p) us = refl

abbrev told : Touch → Bool → Bool → Touch → Touch
told t written read rest =
    if written then record { aspect = t.aspect; write = true }
    else if t.write && read then record { aspect = t.aspect; write = false }
    else rest

pub clashing_distinct : (t : Touch) (us : List Touch) → clashing_touch t (distinct us) ≡ clashing_touch t us
clashing_distinct t us =
    ap (λ b. told t b (has_touch t.aspect false (distinct us)) (by_names t.aspect (distinct us))) (has_distinct t.aspect true us)
    ∙ ap (λ b. told t (has_touch t.aspect true us) b (by_names t.aspect (distinct us))) (has_distinct t.aspect false us)
    ∙ ap (told t (has_touch t.aspect true us) (has_touch t.aspect false us)) (by_names_distinct t.aspect us)

-- the touch that a doomed process is told
pub doomed_distinct : (ts us : List Touch) → doomed_touch ts (distinct us) ≡ doomed_touch ts us
doomed_distinct [] us = refl
doomed_distinct (t ∷ ts) us =
    ap (λ b. if b then clashing_touch t (distinct us) else doomed_touch ts (distinct us)) (clashes_distinct t us)
    ∙ ap (λ v. if clashes t us then v else doomed_touch ts (distinct us)) (clashing_distinct t us)
    ∙ ap (λ v. if clashes t us then clashing_touch t us else v) (doomed_distinct ts us)
