use Rattle.std.proofs.Common.{◌≡◌, ◌||◌, ◌==◌, nat_lt, ℕ, sym, ap, ◌∙◌}
use Rattle.plain_kernel.specs.Counts.{given_by_all}
use Rattle.plain_kernel.proofs.Counted.{links_is}
use Rattle.plain_kernel.proofs.Looking.{named, opened, reached_early, reached_late}
use Rattle.plain_kernel.proofs.plain.PlainKernel.is_reached.Goals as goal
use Rattle.plain_kernel.proofs.plain.PlainKernel.is_reached.Goals.{then-eq, else-eq}

pub returns-then-count-gt0 : goal.returns-then-count-gt0
returns-then-count-gt0 c =
    let k = c.args.self.now in
    let n : ℕ = c.args.inode in
    let told : c.if-eq.value ≡ ((n == c.self.inside.root) || named k n) = elim c.if-eq.branch [
      | then-eq w ↦ w.value-is ∙ w.if-eq.true ∙ ap (λ b. b || named k n) w.if-eq.ensures
      | else-eq w ↦ w.value-is ∙ ap (nat_lt 0) w.count.ensures
          ∙ ap (λ k. nat_lt 0 (given_by_all k.inodes n)) c.self.view_is ∙ ap (nat_lt 0) (sym (links_is k n))
          ∙ ap (λ b. b || named k n) w.if-eq.ensures
    ] in
    c.if-count-gt0.true ∙ reached_early k n c.self.inside.root c.if-eq.value (ap (λ k. k.root) c.self.view_is) told c.if-count-gt0.true

pub returns-else-count-gt0 : goal.returns-else-count-gt0
returns-else-count-gt0 c =
    let k = c.args.self.now in
    let n : ℕ = c.args.inode in
    let told : c.if-eq.value ≡ ((n == c.self.inside.root) || named k n) = elim c.if-eq.branch [
      | then-eq w ↦ w.value-is ∙ w.if-eq.true ∙ ap (λ b. b || named k n) w.if-eq.ensures
      | else-eq w ↦ w.value-is ∙ ap (nat_lt 0) w.count.ensures
          ∙ ap (λ k. nat_lt 0 (given_by_all k.inodes n)) c.self.view_is ∙ ap (nat_lt 0) (sym (links_is k n))
          ∙ ap (λ b. b || named k n) w.if-eq.ensures
    ] in
    reached_late k n c.self.inside.root c.if-eq.value (ap (λ k. k.root) c.self.view_is) told _ c.if-count-gt0.false
    (ap (nat_lt 0) c.count-else-count-gt0.ensures ∙ ap (λ k. opened k n) c.self.view_is)
