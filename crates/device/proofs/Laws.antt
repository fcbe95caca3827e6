-- What the crates above may cite.
pub use Rattle.device.proofs.Parts.{append_known-append_known, append_known-nil}
