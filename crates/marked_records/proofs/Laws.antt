-- What the crates above cite.
pub use Rattle.marked_records.proofs.Plain.{writer_held}
pub use Rattle.marked_records.proofs.Dropping.{dropped_clashes}
