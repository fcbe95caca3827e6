use Rattle.std.proofs.Common.{◌≡◌, ℕ, List, Option, Some, None, nat_eq, sym, ap, ◌∙◌, rules}
use Rattle.std.specs.Cmp.Lexicographic.{pointwise, texts_ties}
use Rattle.model.specs.FiniteMap as finite
use Rattle.model.specs.State.{Name, name_cmp}
use Rattle.dirlist.specs.Patches.{Notes, noted_back}
use Rattle.dirlist.proofs.Names.{name_exact, name_total}
use Rattle.model.proofs.Laws.{get_at, inserted, removed}
use Rattle.dirlist.proofs.Noted.{back_given, back_gone, back_unnoted}
use Rattle.dirlist.proofs.patch.NamePatch.put_back.Goals as goal

pub returns-in-Some-get_mut : goal.returns-in-Some-get_mut
returns-in-Some-get_mut c =
    let es : List (Name × Option ℕ) = c.self.inside.given.entries in
    let x : Name = c.args.name.now in
    let noted : finite.get c.args.self.now x ≡ Some c.in-Some-get_mut.noted.now
    = ap (λ (m : Notes). finite.get m x) (sym c.self.view_is) ∙ get_at name_total name_exact (pointwise nat_eq) texts_ties es x ∙ sym c.in-Some-get_mut.ensures.value in
    inserted name_total name_exact (pointwise nat_eq) texts_ties es (c.get_mut.follows.lender c.in-Some.given).entries x c.in-Some.given ((c.get_mut.follows.holds c.in-Some.given).3 (search rules)).0
    ∙ ap (λ (m : Notes). finite.insert m x c.in-Some.given) c.self.view_is
    ∙ sym (back_given x c.in-Some.given c.in-Some-get_mut.noted.now c.args.self.now noted)
    ∙ ap (λ (former : Option (Option ℕ)). noted_back x former c.args.self.now) (sym c.in-Some.is)

pub returns-in_default : goal.returns-in_default
returns-in_default c =
    let es : List (Name × Option ℕ) = c.self.inside.given.entries in
    let x : Name = c.args.name.now in
    let none : finite.get c.args.self.now x ≡ None
    = ap (λ (m : Notes). finite.get m x) (sym c.self.view_is) ∙ get_at name_total name_exact (pointwise nat_eq) texts_ties es x ∙ sym c.in_default.ensures.value in
    ap (λ m. finite.from_entries {R = name_cmp} m.entries) c.get_mut.follows.holds-at-none
    ∙ c.self.view_is
    ∙ sym (back_unnoted x c.args.former c.args.self.now none)

pub returns-in-None : goal.returns-in-None
returns-in-None c =
    let x : Name = c.args.name.now in
    removed name_total name_exact (pointwise nat_eq) texts_ties c.self.inside.given.entries c.remove-given.new.self.entries x c.remove-given.ensures.updates.0
    ∙ ap (λ (m : Notes). finite.remove m x) c.self.view_is
    ∙ sym (back_gone x c.args.self.now)
    ∙ ap (λ (former : Option (Option ℕ)). noted_back x former c.args.self.now) (sym c.in-None.is)
