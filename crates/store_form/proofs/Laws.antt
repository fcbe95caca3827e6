-- The laws as the crates above cite them.
pub use Rattle.store_form.proofs.Apart.{stores_are_told_apart}
pub use Rattle.store_form.proofs.Forms.{one_setup, setup_again}
pub use Rattle.store_form.proofs.Growing.{records_are_changes, stores_grow, told_records_are_changes}
pub use Rattle.store_form.proofs.Running.{first_records_run_to_a_beginning, records_run_to_the_state}
