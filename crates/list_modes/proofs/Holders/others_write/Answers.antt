use Rattle.std.proofs.Common.{◌≡◌, ℕ, sym, ◌∙◌, ap, refl, subst, Bool, true, false, arith}
use Rattle.std.specs.Prelude.{nat_lt}
use Rattle.std.specs.Int.{from_bool}
use Rattle.list_modes.specs.Holding.{Held, Table, held_of, IsBelow, others_write}
use Rattle.list_modes.specs.Counted.{Counts, one}
use Rattle.list_modes.proofs.Modes.{others_counted}
use Rattle.list_modes.proofs.Tallies.{below_pids}
use Rattle.list_modes.proofs.Holders.others_write.Goals as goal

as_number : (b : Bool) → from_bool b ≡ one b
as_number true = refl
as_number false = refl

pub returns : goal.returns
returns c = subst (λ (t : Table). (n : ℕ) → IsBelow n t → nat_lt c.from.result c.counts_at.result.writers ≡ others_write t c.args.dir c.args.pid n) c.self.view_is
    (λ n below.
    ap (λ x. nat_lt x c.counts_at.result.writers) (c.from.ensures ∙ as_number c.held-own.result.entry_written ∙ ap (λ (h : Held). one h.entry_written) (c.held-own.ensures ∙ ap (λ (t : Table). held_of t c.args.pid c.args.dir) (sym c.self.view_is)))
    ∙ ap (λ (k : Counts). nat_lt (one (held_of c.self.inside.marks.entries c.args.pid c.args.dir).entry_written) k.writers) c.counts_at.ensures
    ∙ sym (others_counted c.self.inside.marks.entries c.self.inside.counts c.args.dir c.args.pid n (below_pids c.args.pid (omega arith)) c.self.invariant below))
