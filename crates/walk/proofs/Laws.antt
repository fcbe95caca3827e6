-- What the crates above may cite.
pub use Rattle.walk.proofs.Then.{asked-is, gives, goes, noting_more, stops, via}
