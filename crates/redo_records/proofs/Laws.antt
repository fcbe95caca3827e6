-- The laws as the crates above cite them.
use Rattle.std.proofs.Common.{List, take, subst}
use Rattle.model.specs.Steps.{Run}
use Rattle.model.specs.Entries.{Entry}
use Rattle.model.specs.Moments.{start, after}
use Rattle.model.specs.Legal.{Legal}
use Rattle.history_laws.proofs.Laws.{beginnings_are_legal}
use Rattle.redo_records.specs.Records.{records, all_of}
use Rattle.redo_records.specs.Recovery.{FirstRecordsMakeItAgain}
use Rattle.redo_records.proofs.Running.{same_end}
pub use Rattle.redo_records.proofs.Beginnings.{beginnings_have_records, records_grow}
pub use Rattle.redo_records.proofs.Looking.{left_out_changes_nothing}
pub use Rattle.redo_records.proofs.Leading.{records_lead_to_the_state}
pub use Rattle.redo_records.proofs.Telling.{are_items, tell_first, tell_items, tell_more}
pub use Rattle.redo_records.proofs.Suiting.{legal_entries_suit}
pub use Rattle.redo_records.proofs.Rooms.{none_is_gone, room_where_no_place_is_needed}

pub first_records_make_it_again : FirstRecordsMakeItAgain
first_records_make_it_again root setup limit es n legal =
    let begins = beginnings_have_records root setup es n in
    let before : List Entry = begins.0 in
    let legal_before : Legal root setup limit before = beginnings_are_legal root setup limit before es begins.1.is_before legal in
    let run : Run (start root setup) (all_of (take n (records root setup es))) (after root setup before).committed
    = subst (λ rs. Run (start root setup) (all_of rs) (after root setup before).committed) begins.1.same (records_lead_to_the_state root setup limit before legal_before) in (
      before,
      record {
        has = begins.1;
        legal = legal_before;
        run = run;
        only = λ state other. same_end (start root setup) (after root setup before).committed state (all_of (take n (records root setup es))) run other;
      },
    )
