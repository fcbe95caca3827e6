use Rattle.std.proofs.Common.{◌≡◌, ℕ, List, sym, ap, ◌∙◌, None, Some, refl}
use Rattle.fdtable.specs.Words.{as_bit, bit_in}
use Rattle.fdtable.proofs.Patched.{noted_as}
use Rattle.fdtable.proofs.patch.SlotPatch.get.Goals as goal

pub returns-in-Some : goal.returns-in-Some
returns-in-Some c = noted_as c.self.inside.given c.self.inside.closed.items c.self.invariant c.args.self.now c.self.view_is c.args.fd (Some c.in-Some.description) (bit_in c.self.inside.closed.items c.args.fd) c.in-Some.ensures.value refl

pub returns-in-None : goal.returns-in-None
returns-in-None c =
    let bit : 1 ≡ bit_in c.self.inside.closed.items c.args.fd =
    sym (ap as_bit c.if-is_set.true) ∙ c.is_set.ensures ∙ ap (λ (ws : List ℕ). bit_in ws c.fd.inside.0) c.as_slice.ensures.value ∙ ap (bit_in c.self.inside.closed.items) c.fd.view_is in
    noted_as c.self.inside.given c.self.inside.closed.items c.self.invariant c.args.self.now c.self.view_is c.args.fd None 1 (sym c.in-None.is ∙ c.get.ensures.value) bit

pub returns-in-None-2 : goal.returns-in-None-2
returns-in-None-2 c =
    let bit : 0 ≡ bit_in c.self.inside.closed.items c.args.fd =
    sym (ap as_bit c.if-is_set.false) ∙ c.is_set.ensures ∙ ap (λ (ws : List ℕ). bit_in ws c.fd.inside.0) c.as_slice.ensures.value ∙ ap (bit_in c.self.inside.closed.items) c.fd.view_is in
    noted_as c.self.inside.given c.self.inside.closed.items c.self.invariant c.args.self.now c.self.view_is c.args.fd None 0 (sym c.in-None.is ∙ c.get.ensures.value) bit
