-- What the crates above may cite.
pub use Rattle.model.proofs.Answers.{SameWay, goes_the_same_way}
pub use Rattle.model.proofs.Contents.{length-sized, length-written, sized_at, written_before, written_behind, written_in}
pub use Rattle.model.proofs.Inodes.{apart, get_other, get_same, given_in, links-set_inode, name_exact, tie, unchanged_by, weighed}
pub use Rattle.model.proofs.Law.{depends_on_what_it_saw}
pub use Rattle.model.proofs.Lists.{all-append, all-map, append-all, in_blocks, nothing_left, same_by_ends}
pub use Rattle.model.proofs.Passed.{alike, hole_zero, row_begins, row_done, row_more, row_stops, zero_hole}
pub use Rattle.model.proofs.Places.{get-placed, insert-placed, remove-placed, removed_other, removed_same, tied, untied}
pub use Rattle.model.proofs.Sums.{all_entries, keys-insert, keys-remove, sum-insert, sum-remove, sum-retain_keys, weight}
pub use Rattle.model.proofs.Tables.{get_at, inserted, removed, same_made}
