use Rattle.std.proofs.Common.{◌≡◌, ◌<◌, List, [], ◌∷◌, length, drop, Result, Ok, Err, IfOk, OnOk, IfSome, slice_index_or, sym, ap, subst, arith}
use Rattle.redo_records.specs.declared.recorder.Record.{Record}
use Rattle.kept.proofs.bytes.first_bytes.Goals as goal

first_is : (items : List Record) (r : Record) → r ≡ slice_index_or items 0 r → 0 < length items → items ≡ r ∷ drop 1 items
first_is [] r h some = absurd (omega (arith, some))
first_is (x ∷ xs) r h some = ap (λ (y : Record). y ∷ xs) (sym h)

both : {A E : Type 0} (r : Result A E) (P Q : A → Type 0) (R : Type 0) → ((x : A) → P x → R → Q x) → IfOk r P → OnOk r R → IfOk r Q
both (Ok x) P Q R so p q = so x p q
both (Err e) P Q R so p q = tt

pub returns : goal.returns
returns c =
    let waiting = c.args.waiting.now in
    let value : IfSome c.front.result (λ x. x.now ≡ slice_index_or waiting.items 0 x.now) = c.front.ensures.lookup in
    let lent = subst (λ o. IfSome o (λ x. x.now ≡ slice_index_or waiting.items 0 x.now)) c.unwrap-first.ensures value in
    let first : waiting.items ≡ c.unwrap-first.result.now ∷ drop 1 waiting.items = first_is waiting.items c.unwrap-first.result.now lent c.requires in
    both c.bytes_of.result _ _ _ (λ bytes is fits. record { made = c.unwrap-first.result.now; rest = drop 1 waiting.items; first = first; is = is; fits = fits }) c.bytes_of.ensures.bytes c.bytes_of.ensures.fits
