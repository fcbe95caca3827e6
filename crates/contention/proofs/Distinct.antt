-- Touches that are each kept once say of clashes what the touches themselves say.
use Rattle.std.proofs.Common.{◌≡◌, ◌∙◌, sym, refl, ap, Bool, true, false, ◌&&◌, ◌||◌, List, [], ◌∷◌, if◌then◌else◌, inl, inr}
use Rattle.std.specs.List.{list_any}
use Rattle.std.proofs.lemmas.Bool.{cases_Bool}
use Rattle.std.proofs.lemmas.List.Folds.{list_any-append}
use Rattle.model.specs.Aspects.{Aspect, Entry, Names}
use Rattle.model.specs.Steps.{Touch}
use Rattle.model.specs.Clashes.{clash, clashes, any_clash, has_touch, entry_or, by_names, clashing_touch, doomed_touch}
use Rattle.records.specs.Touches.{with_touch, with_touches, distinct}
use Rattle.contention.proofs.Alike.{touch_on, alike, has_passes, or_none}
use Rattle.contention.proofs.Least.{least_same}

or_kept : (a b : Bool) → (b ≡ true → a ≡ true) → a ≡ (a || b)
or_kept true b f = refl
or_kept false true f = f refl
or_kept false false f = refl

or_assoc : (a b c : Bool) → ((a || b) || c) ≡ (a || (b || c))
or_assoc true b c = refl
or_assoc false b c = refl

any_with : (p : Touch → Bool) (held : List Touch) (t : Touch) → list_any p (with_touch held t) ≡ (list_any p held || p t)
any_with p held t = elim (cases_Bool (has_touch t.aspect t.write held)) [
  | inl has ↦ rw has (or_kept (list_any p held) (p t) (λ e. has_passes p t held has e))
  | inr new ↦ rw new (list_any-append p held (t ∷ []) ∙ ap (λ b. list_any p held || b) (or_none (p t)))
]

pub any_withs : (p : Touch → Bool) (held ts : List Touch) → list_any p (with_touches held ts) ≡ (list_any p held || list_any p ts)
any_withs p held [] = sym (or_none (list_any p held))
any_withs p held (t ∷ ts) =
    any_withs p (with_touch held t) ts ∙ ap (λ b. b || list_any p ts) (any_with p held t) ∙ or_assoc (list_any p held) (p t) (list_any p ts)

-- a test of some touch
pub any_distinct : (p : Touch → Bool) (ts : List Touch) → list_any p (distinct ts) ≡ list_any p ts
any_distinct p ts = any_withs p [] ts

pub any_clash_distinct : (ts us : List Touch) → any_clash ts (distinct us) ≡ any_clash ts us
any_clash_distinct [] us = refl
any_clash_distinct (t ∷ ts) us =
    ap (λ b. b || any_clash ts (distinct us)) (any_distinct (clash t) us) ∙ ap (λ b. clashes t us || b) (any_clash_distinct ts us)

by_names_distinct : (a : Aspect) (us : List Touch) → by_names a (distinct us) ≡ by_names a us
by_names_distinct (Names d) us = ap (entry_or d) (least_same d (distinct us) us (λ y. any_distinct (alike (Entry d y) true) us))
by_names_distinct a us = refl

clashing_distinct : (t : Touch) (us : List Touch) → clashing_touch t (distinct us) ≡ clashing_touch t us
clashing_distinct t us =
    ap (λ b. if b then touch_on t.aspect true else if t.write && has_touch t.aspect false (distinct us) then touch_on t.aspect false else by_names t.aspect (distinct us)) (any_distinct (alike t.aspect true) us)
    ∙ ap (λ b. if has_touch t.aspect true us then touch_on t.aspect true else if t.write && b then touch_on t.aspect false else by_names t.aspect (distinct us)) (any_distinct (alike t.aspect false) us)
    ∙ ap (λ u. if has_touch t.aspect true us then touch_on t.aspect true else if t.write && has_touch t.aspect false us then touch_on t.aspect false else u) (by_names_distinct t.aspect us)

pub doomed_distinct : (ts us : List Touch) → doomed_touch ts (distinct us) ≡ doomed_touch ts us
doomed_distinct [] us = refl
doomed_distinct (t ∷ ts) us =
    ap (λ b. if b then clashing_touch t (distinct us) else doomed_touch ts (distinct us)) (any_distinct (clash t) us)
    ∙ ap (λ u. if clashes t us then u else doomed_touch ts (distinct us)) (clashing_distinct t us)
    ∙ ap (λ u. if clashes t us then clashing_touch t us else u) (doomed_distinct ts us)
