use Rattle.std.proofs.Common.{◌+◌, ◌*◌, ◌<◌, ◌^◌, ℕ, get_or, nat_cmp, ap, ap₂, ◌∙◌, arith}
use Rattle.std.specs.Option.{is_some}
use Rattle.model.specs.FiniteMap.{FinMap, get}
use Rattle.fdtable.specs.Patches.{Given, or_before}
use Rattle.fdtable.specs.Words.{as_bit}
use Rattle.fdtable.proofs.Patched.{over_shows}
use Rattle.fdtable.proofs.patch.SlotPatch.word_over.Goals as goal

pub returns : goal.returns
returns c i low =
    let small : c.word_at.result < 2 ^ 64 = omega arith in
    over_shows c.self.inside.given c.self.inside.closed.items c.self.invariant c.args.index c.word-2.result c.word_at.result i low (c.word-2.ensures i low)
    (c.word_at.ensures ∙ ap (λ ws. get_or ws c.args.index 0) c.as_slice.ensures.value) c.table.inside.pages.slots c.word.result small (c.word.ensures i low)
    ∙ ap₂ (λ (m : Given) (t : FinMap nat_cmp ℕ). as_bit (is_some (or_before (get m (64 * c.args.index + i)) (get t (64 * c.args.index + i))))) c.self.view_is c.table.view_is
