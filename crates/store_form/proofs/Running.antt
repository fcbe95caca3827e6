-- What the records of a history tell runs to what it committed.
use Rattle.std.proofs.Common.{take, refl}
use Rattle.redo_records.specs.Records.{records, all_of}
use Rattle.redo_records.proofs.Laws.{first_records_make_it_again, records_lead_to_the_state}
use Rattle.store_form.specs.Laws.{FirstRecordsRunToABeginning, RecordsRunToTheState}

pub records_run_to_the_state : RecordsRunToTheState
records_run_to_the_state setup limit es legal = record {
  items = all_of (records 0 setup es);
  tell = refl;
  run = records_lead_to_the_state 0 setup limit es legal;
}

pub first_records_run_to_a_beginning : FirstRecordsRunToABeginning
first_records_run_to_a_beginning setup limit es n legal =
    let made = first_records_make_it_again 0 setup limit es n legal in (
      made.0,
      record {
        has = made.1.has;
        legal = made.1.legal;
        runs = record { items = all_of (take n (records 0 setup es)); tell = refl; run = made.1.run };
      },
    )
