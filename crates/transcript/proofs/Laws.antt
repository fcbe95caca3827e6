-- What the crates above may cite: texts printed one after another, and to the end.
pub use Rattle.transcript.proofs.Printing.{CanPrint-after, Finished, Finished-by, Prints-as, Prints-none, Prints-then}
