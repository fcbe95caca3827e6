use Rattle.std.proofs.Common.{None, Some, sym, ap, refl, ◌∙◌}
use Rattle.model.specs.FiniteMap.{get, get-empty}
use Rattle.model.specs.State.{name_cmp, names_of_inode}
use Rattle.notes.specs.Patches.{names_before, patched}
use Rattle.notes.proofs.NamesOver.{given_told}
use Rattle.notes.proofs.overlay.given_over.Goals as goal

pub returns-in-Bytes : goal.returns-in-Bytes
returns-in-Bytes c = λ o same. sym (get-empty name_cmp c.args.name.now) ∙ ap (λ t. get (names_of_inode (patched t o)) c.args.name.now) (sym c.in-Bytes.is)

pub returns-in-Pipe : goal.returns-in-Pipe
returns-in-Pipe c = λ o same. sym (get-empty name_cmp c.args.name.now) ∙ ap (λ t. get (names_of_inode (patched t o)) c.args.name.now) (sym c.in-Pipe.is)

pub returns-in-Fixed : goal.returns-in-Fixed
returns-in-Fixed c = λ o same. sym (get-empty name_cmp c.args.name.now) ∙ ap (λ t. get (names_of_inode (patched t o)) c.args.name.now) (sym c.in-Fixed.is)

pub returns-in-Some : goal.returns-in-Some
returns-in-Some c = given_told _ c.in-Names.is_fresh c.in-Names.names c.args.name.now (Some c.in-Some.given) _ _ c.in-Names.is (sym c.in-Some.is ∙ c.look.ensures) (λ o same. refl)

pub returns-in-None : goal.returns-in-None
returns-in-None c =
    given_told _ c.in-Names.is_fresh c.in-Names.names c.args.name.now None _ _ c.in-Names.is (sym c.in-None.is ∙ c.look.ensures)
    (λ o same. sym (get-empty name_cmp c.args.name.now) ∙ ap (λ b. get (names_before b o) c.args.name.now) (sym c.if-is_fresh.true))

pub returns-in-None-2 : goal.returns-in-None-2
returns-in-None-2 c =
    given_told _ c.in-Names.is_fresh c.in-Names.names c.args.name.now None _ _ c.in-Names.is (sym c.in-None.is ∙ c.look.ensures)
    (λ o same. sym same ∙ ap (λ b. get (names_before b o) c.args.name.now) (sym c.if-is_fresh.false))
