-- The lemmas that crates above cite.
pub use Rattle.recovery.proofs.Coming.{after_forgetting, answered, runs_to, tells_both, tells_none}
pub use Rattle.recovery.proofs.Going.{goes_then, reads_both, reads_same, stood_last, stood_more}
