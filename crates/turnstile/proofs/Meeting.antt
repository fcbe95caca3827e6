-- Two passes that are compared.
use Rattle.std.proofs.Common.{◌≡◌, Option, sym, ap, ◌∙◌, inl, inr}
use Rattle.atomic_table.specs.Table.{Me}
use Rattle.atomic_table.specs.Seated.{TableId}
use Rattle.history.specs.Log.{Log}
use Rattle.turnstile.specs.Rule.{Compares, copied, informed, met}
use Rattle.turnstile.specs.Passes.{pass_view, pass_of}
use Rattle.turnstile.specs.Calls.{Met}
use Rattle.turnstile.specs.declared.rule.PassState.{PassState}
use Rattle.turnstile.specs.declared.rule.Role.{Role}
use Rattle.turnstile.specs.declared.rule.Role.TheVariants.{Process, Knows, Meets}

abbrev M : Type 0 → Type 0
M K = Me (Option K) Role

pub meets : (z z' : TableId) (o o' : PassState) → Compares o o'.seen → Compares o' o.seen → Met (pass_view z o) (pass_view z' o')
meets z z' o o' one two = elim one.1 [ inl before ↦ inl record { longer = before; own_kept = one.0 before } | inr before ↦ inr record { longer = before; own_kept = two.0 before } ]

pub copied_is : (w : Role) → w ≡ Process (pass_of w) → copied w ≡ Knows (pass_of w).seen
copied_is w is = ap copied is

pub informed_is : (v w : Role) → v ≡ Process (pass_of v) → w ≡ Process (pass_of w) → informed v (copied w) ≡ Meets (pass_of v) (pass_of w).seen
informed_is v w is at = λ i. informed (is i) (copied (at i))

-- the seat is as it was before it was told
pub as_before : {K : Type 0} (m j l : M K) (x : Role) (h : Log) → j ≡ (x, m.1) → x ≡ Meets (pass_of m.0) h → m.0 ≡ Process (pass_of m.0) → l ≡ (met j.0, j.1) → l ≡ m
as_before {K = K} m j l x h is at rest then = then ∙ (ap (λ (j : M K). (met j.0, j.1)) is ∙ ((λ i. (met (at i), m.1)) ∙ (λ i. (sym rest i, m.1))))
