-- Each legal history is strictly serializable.
use Rattle.std.proofs.Common.{◌≡◌, List, [], ◌∷◌, ◌++◌, refl, sym, ◌∙◌, ap, subst, append_assoc}
use Rattle.model.specs.Entries.{Entry}
use Rattle.model.specs.Forgetting.{Limit}
use Rattle.model.specs.Moments.{Moment, status, next, at_start, after, after_from, run_by}
use Rattle.model.specs.Legal.{LegalFrom, Legal, items, serial, serial_from}
use Rattle.history_laws.proofs.FromCallLaws.{FromCallLaws}
use Rattle.history_laws.specs.Headline.{IsAsAsked, LegalHistoriesAreSerializable}
use Rattle.history_laws.proofs.Beginnings.{legality_follows}
use Rattle.history_laws.proofs.Histories.{serial_is}
use Rattle.history_laws.proofs.Replies.{replies_are_a_function}

-- the serial list grows at its end alone
serial_more : (m : Moment) (before later : List Entry) → serial_from m (before ++ later) ≡ serial_from m before ++ serial_from (after_from m before) later
serial_more m [] later = refl
serial_more m (e ∷ es) later = ap (λ xs. items e.pid (run_by (status m e.pid) e.op e.reply e.chosen) ++ xs) (serial_more (next m e) es later)
    ∙ sym (append_assoc (items e.pid (run_by (status m e.pid) e.op e.reply e.chosen)) (serial_from (next m e) es) (serial_from (after_from (next m e) es) later))

asked : (limit : Limit) (m : Moment) (e : Entry) (later : List Entry) → LegalFrom limit m (e ∷ later) → IsAsAsked limit m e
asked limit m e later legal = let said = replies_are_a_function limit m e legal.1 in record { reply = said.0; doomed = said.1 }

pub serializable : FromCallLaws LegalHistoriesAreSerializable
serializable laws root setup limit es legal = record {
  run = serial_is laws root setup limit es legal;
  strict = λ before later is. ap (serial root setup) is ∙ serial_more (at_start root setup) before later;
  alone = legality_follows.runs root setup limit es legal;
  replies = λ before e later is. asked limit (after root setup before) e later (legality_follows.rest root setup limit before (e ∷ later) (subst (Legal root setup limit) is legal));
}
