-- What the crates above may cite.
pub use Rattle.plain_kernel.proofs.Choosing.{front, none_are, rest_of, same_first}
pub use Rattle.plain_kernel.proofs.Freed.{all_at}
pub use Rattle.plain_kernel.proofs.Keyed.{at_none, at_set, gone, put_back}
pub use Rattle.plain_kernel.proofs.Setting.{if_ok, ok_then}
