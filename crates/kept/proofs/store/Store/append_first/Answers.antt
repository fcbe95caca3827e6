use Rattle.std.proofs.Common.{[], ◌∷◌, refl, sym, subst}
use Rattle.kept.specs.Appending.{IsOfFirst}
use Rattle.kept.proofs.Holding.{holds_one, leaves_held, leaves_one}
use Rattle.kept.proofs.store.Store.append_first.Goals as goal

pub returns-in_err-bytes-clause-crash : goal.returns-in_err-bytes-clause-crash
returns-in_err-bytes-clause-crash g c = λ history kept appended holds. leaves_held history kept appended c.args.self.now holds

pub returns-in_err-append-clause-crash : goal.returns-in_err-append-clause-crash
returns-in_err-append-clause-crash g c = λ history kept appended holds.
    let old = c.args.self.now in
    let payload = c.as_slice.result.now in
    let of : IsOfFirst old.waiting.items payload = subst (IsOfFirst old.waiting.items) (sym c.as_slice.ensures.value) c.in_ok-bytes.ensures in
    leaves_one old history kept appended holds payload of _ (c.in_err-append.ensures.crash kept appended holds.stands)

pub returns-clause-appended : goal.returns-clause-appended
returns-clause-appended g c = λ history kept appended holds.
    let old = c.args.self.now in
    let payload = c.as_slice.result.now in
    let of : IsOfFirst old.waiting.items payload = subst (IsOfFirst old.waiting.items) (sym c.as_slice.ensures.value) c.in_ok-bytes.ensures in
    (payload ∷ [], holds_one old history kept appended holds payload of _ c.pop_front.ensures.rest refl (c.in_ok-append.ensures.appended kept appended holds.stands) (c.in_ok-append.ensures.crash kept appended holds.stands))

pub returns-clause-crash : goal.returns-clause-crash
returns-clause-crash g c = λ history kept appended holds.
    let old = c.args.self.now in
    let payload = c.as_slice.result.now in
    let of : IsOfFirst old.waiting.items payload = subst (IsOfFirst old.waiting.items) (sym c.as_slice.ensures.value) c.in_ok-bytes.ensures in
    leaves_one old history kept appended holds payload of _ (c.in_ok-append.ensures.crash kept appended holds.stands)
