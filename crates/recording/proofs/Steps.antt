-- Steps of the machine below, and what is noted of them.
use Rattle.std.proofs.Common.{◌≡◌, ℕ, Bool, true, false, Option, sym, ap, subst, subst₂}
use Rattle.std.specs.Prelude.{IfSome, MatchBool}
use Rattle.history.specs.Log.{Log}
use Rattle.model.specs.Entries.{Op, Reply}
use Rattle.model.specs.Moments.{Moment}
use Rattle.machine.specs.Shown.{Shown, moment}
use Rattle.machine.specs.Steps.{Added, IsStep, entry_of, is_no_entry}
use Rattle.redo_records.specs.Recording.{Follows, HasRoom}
use Rattle.recording.specs.Noted.{AreFaithful, CanNote, Keep}
use Rattle.recording.specs.Recorded.{AreRest}
use Rattle.recording.specs.declared.notes.Notes.{Notes}

module _ (old new : Shown) (pid : ℕ) (op : Op) (reply : Reply) (step : IsStep old new pid op reply) where
  pub added_in : is_no_entry reply ≡ false → Added old.log new.log pid op reply
  added_in some = subst (λ b. MatchBool b (new ≡ old) (Added old.log new.log pid op reply)) some step.entry

  pub same_in : is_no_entry reply ≡ true → new ≡ old
  same_in none = subst (λ b. MatchBool b (new ≡ old) (Added old.log new.log pid op reply)) none step.entry

  pub can_note : (notes : Notes) (copy : Option Op) → is_no_entry reply ≡ false → HasRoom notes.recorder pid op → IfSome copy (λ c. c ≡ op) → Keep old.log notes → CanNote new.log notes copy
  can_note notes copy some room copied keep =
      let a = added_in some in
      record { old = old.log; entry = entry_of pid op reply a.chosen a.doomed; is = a.is; room = room; copy = copied; keep = keep }

  pub nothing_noted : (notes : Notes) → is_no_entry reply ≡ true → Keep old.log notes → AreFaithful new.log notes
  nothing_noted notes none keep alive = subst (λ (v : Shown). Keep v.log notes) (sym (same_in none)) keep

  pub same_priorities : new.log.priorities ≡ old.log.priorities
  same_priorities = by (is_no_entry reply) step.entry where
    by : (b : Bool) → MatchBool b (new ≡ old) (Added old.log new.log pid op reply) → new.log.priorities ≡ old.log.priorities
    by true same = ap (λ (v : Shown). v.log.priorities) same
    by false a = ap (λ (l : Log). l.priorities) a.is

-- memory was asked for
pub asked : (log : Log) (old new : Notes) → ((m : Moment) → Follows m old.recorder → Follows m new.recorder) → new.waiting.items ≡ old.waiting.items → new.taken ≡ old.taken → Keep log old → Keep log new
asked log old new follows waiting taken keep = record {
  follows = follows (moment log) keep.follows;
  waiting = subst₂ (AreRest log) (sym taken) (sym waiting) keep.waiting;
}
