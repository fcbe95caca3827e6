-- What the crates above may cite.
pub use Rattle.objects.proofs.Rows.{ends_with, goes_on_with}
pub use Rattle.objects.proofs.Places.{drop_append, is_sized, is_written, length-sized, sized_at, take_append, written_behind, written_in}
