-- A name's note, taken back.
use Rattle.std.proofs.Common.{◌≡◌, ℕ, Bool, true, false, cond, Option, Some, None, refl, sym, ap, ◌∙◌}
use Rattle.std.specs.Ordering.{eq_by_cmp, is_eq}
use Rattle.std.specs.declared.cmp.Ordering.{Ordering}
use Rattle.std.specs.declared.cmp.Ordering.TheVariants.{Less, Equal, Greater}
use Rattle.model.specs.FiniteMap.{get, get-remove, get_tied, insert, remove, same_map}
use Rattle.dirlist.specs.Patches.{Notes, back_over, noted_back}
use Rattle.model.specs.State.{Name, name_cmp}
use Rattle.dirlist.proofs.Names.{name_exact, name_total}

tied : (o : Ordering) → is_eq o ≡ true → o ≡ Equal
tied Less e = absurd cc
tied Equal e = refl
tied Greater e = absurd cc

-- a name that is not noted is removed already
removed_already : (x : Name) (notes : Notes) → get notes x ≡ None → remove notes x ≡ notes
removed_already x notes none =
    same_map name_total name_exact (remove notes x) notes (λ q.
    get-remove name_total notes x q ∙ at q (eq_by_cmp name_cmp q x) refl)
  where
    at : (q : Name) (b : Bool) → eq_by_cmp name_cmp q x ≡ b → cond b None (get notes q) ≡ get notes q
    at q true e = sym none ∙ get_tied name_total notes q x (tied _ e)
    at q false e = refl

pub back_gone : (x : Name) (notes : Notes) → noted_back x None notes ≡ remove notes x
back_gone x notes = by (get notes x) refl
  where
    by : (o : Option (Option ℕ)) → get notes x ≡ o → back_over o x None notes ≡ remove notes x
    by (Some now) e = refl
    by None e = sym (removed_already x notes e)

pub back_given : (x : Name) (given now : Option ℕ) (notes : Notes) → get notes x ≡ Some now → noted_back x (Some given) notes ≡ insert notes x given
back_given x given now notes e = ap (λ (o : Option (Option ℕ)). back_over o x (Some given) notes) e

pub back_unnoted : (x : Name) (former : Option (Option ℕ)) (notes : Notes) → get notes x ≡ None → noted_back x former notes ≡ notes
back_unnoted x former notes e = ap (λ (o : Option (Option ℕ)). back_over o x former notes) e
