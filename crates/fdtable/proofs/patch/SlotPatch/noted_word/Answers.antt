use Rattle.std.proofs.Common.{◌+◌, ◌*◌, get_or, ap, ◌∙◌}
use Rattle.std.specs.Option.{is_some}
use Rattle.model.specs.FiniteMap.{get}
use Rattle.fdtable.specs.Patches.{Given}
use Rattle.fdtable.specs.Words.{as_bit}
use Rattle.fdtable.proofs.Patched.{noted_shows}
use Rattle.fdtable.proofs.patch.SlotPatch.noted_word.Goals as goal

pub returns : goal.returns
returns c i low =
    noted_shows c.self.inside.given c.self.inside.closed.items c.self.invariant c.args.index c.word.result c.word_at.result i low (c.word.ensures i low)
    (c.word_at.ensures ∙ ap (λ ws. get_or ws c.args.index 0) c.as_slice.ensures.value)
    ∙ ap (λ (m : Given). as_bit (is_some (get m (64 * c.args.index + i)))) c.self.view_is
