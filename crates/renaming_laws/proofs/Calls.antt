-- Each call in a renamed state, and what its edits speak of.
use Rattle.std.proofs.Common.{◌≡◌, ℕ, map, Result, Ok, Err, refl, ap, ◌∙◌}
use Rattle.model.specs.State.{Kernel}
use Rattle.model.specs.Plan.{Errno, given}
use Rattle.model.specs.Calls.{Call, Own, own}
use Rattle.model.specs.Plans.{Change, plan}
use Rattle.model.specs.Steps.{outcome, reply_of, edits_of}
use Rattle.renaming_laws.specs.Renaming.{IsRenaming, renamed}
use Rattle.renaming_laws.specs.Renamed.{renamed_edit, renamed_answer, renamed_change, mapped_ok}
use Rattle.renaming_laws.specs.Laws.{SlotsAreThere, CallsAreRenamed}
use Rattle.renaming_laws.proofs.Own.{own_renamed}
use Rattle.renaming_laws.proofs.Plans.{plan_goes}

module _ (f : ℕ → ℕ) (r : IsRenaming f) where
  outcome_renamed : (k : Kernel) → SlotsAreThere k → (pid : ℕ) (call : Call) → outcome (renamed f k) pid call ≡ mapped_ok (renamed_change f) (outcome k pid call)
  outcome_renamed k slots pid call = ap (λ (o : Own). given (renamed f k) (plan o call)) (own_renamed f r k slots pid call) ∙ (plan_goes f r k (own k pid call) call).same

  reply_renamed : (o : Result Change Errno) → reply_of (mapped_ok (renamed_change f) o) ≡ mapped_ok (renamed_answer f) (reply_of o)
  reply_renamed (Ok c) = refl
  reply_renamed (Err e) = refl

  edits_renamed : (o : Result Change Errno) → edits_of (mapped_ok (renamed_change f) o) ≡ map (renamed_edit f) (edits_of o)
  edits_renamed (Ok c) = refl
  edits_renamed (Err e) = refl

pub calls_are_renamed : CallsAreRenamed
calls_are_renamed f r k slots pid call =
    let same : outcome (renamed f k) pid call ≡ mapped_ok (renamed_change f) (outcome k pid call) = outcome_renamed f r k slots pid call in
    record {
      own = own_renamed f r k slots pid call;
      reply = ap reply_of same ∙ reply_renamed f r (outcome k pid call);
      edits = ap edits_of same ∙ edits_renamed f r (outcome k pid call);
    }
