-- What is written into the file of a transaction, and is no order.
use Rattle.std.proofs.Common.{◌≡◌, ℕ, List, refl, sym, subst, ◌∙◌}
use Rattle.std.specs.Prelude.{Result, Err}
use Rattle.fuse.specs.declared.reply.Reply.{Reply}
use Rattle.machine.specs.Shown.{Shown}
use Rattle.mount_requests.specs.Seen.{Seen}
use Rattle.mount_requests.specs.declared.failure.Failure.{Failure}
use Rattle.mounted.specs.Controls.{OrdersBy, ordered}
use Rattle.mounted.specs.Served.{ToldBy, told}
use Rattle.mounted.specs.declared.control.Order.{Order}

pub not_ordered : (s later : Seen) (view : ℕ) (bytes : List ℕ) (e : Failure) {r : Result (ℕ × Order) Failure} {old new : Shown} {answer : Reply} → r ≡ ordered s view bytes → r ≡ Err e → new ≡ old → later ≡ s → answer ≡ told (Err e)
    → ToldBy (OrdersBy (ordered s view bytes) s later view bytes old new) answer
not_ordered s later view bytes e {r} {old} {new} {answer} is failed same known tells = record {
  outcome = Err e;
  served = subst (λ (z : Result (ℕ × Order) Failure). OrdersBy z s later view bytes old new (Err e)) (sym failed ∙ is) (refl, same, known);
  is = tells;
}
