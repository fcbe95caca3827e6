-- What the crates above may cite.
pub use Rattle.dirlist.proofs.Laid.{by_order, same}
pub use Rattle.dirlist.proofs.Names.{name_exact, name_total}
pub use Rattle.dirlist.proofs.Ordered.{keys_rise}
