-- A store that was opened again goes on.
use Rattle.std.proofs.Common.{◌≡◌, List, sym, ap, subst₂, ◌∙◌}
use Rattle.sqlite_disk.specs.declared.Disk.{Ghosts}
use Rattle.model.specs.Moments.{Setup}
use Rattle.redo_records.specs.Records.{records}
use Rattle.recording.specs.Recorded.{records_of}
use Rattle.store_form.specs.Laws.{told_records}
use Rattle.store_form.specs.Stores.{IsStore, Told}
use Rattle.store_laws.specs.Resuming.{ReopenedStoresGoOn}

module _ {D : Type 0} (g : Ghosts D) where
  pub reopened_stores_go_on : ReopenedStoresGoOn g
  reopened_stores_go_on disk shown log again read clean payloads reads =
      let all = again.replayed read payloads reads in
      let told : all.told ≡ told_records (records_of shown.log) = sym all.comes.tells ∙ ap (λ (s : Setup). told_records (records 0 s shown.log.entries)) (sym all.comes.of_setup) in
      record {
        stands = again.stands clean payloads all.is_at;
        store = subst₂ (λ (s : Setup) (ts : List Told). IsStore s payloads ts) (sym all.comes.of_setup) told all.store;
      }
