use Rattle.std.proofs.Common.{◌∙◌, ℕ, sym, ap₂}
use Rattle.model.specs.State.{Kernel}
use Rattle.freeing_laws.proofs.Pipes.{pipes_keep_their_ends_lem}
use Rattle.shadow.proofs.view.ViewLook.ends.Goals as goal

pub returns-in_ok-writing-in-Some : goal.returns-in_ok-writing-in-Some
returns-in_ok-writing-in-Some c =
    let k : Kernel = c.args.self.now.state in
    ap₂ (λ (a b : ℕ). (a, b)) (c.in_ok-reading-in-Some.ensures ∙ sym (pipes_keep_their_ends_lem.reading k c.args.pipe _ _ c.in-Some.ensures))
    (c.in_ok-writing-in-Some.ensures ∙ sym (pipes_keep_their_ends_lem.writing k c.args.pipe _ _ c.in-Some.ensures))
