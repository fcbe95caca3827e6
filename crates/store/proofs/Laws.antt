-- What the crates above may cite.
pub use Rattle.store.proofs.Changes.{altered-none, altered-some, with_place, without_place, with_value-held}
pub use Rattle.store.proofs.Changes.{get-inodes, get-inodes_by, inodes-altered, inodes-changed, inodes-filed, inodes-freed, inodes-installed, inodes-kept, inodes-left, inodes-lost, inodes-opened, inodes-passed, inodes-released, inodes-reserved, inodes-set, inodes-swapped, inodes-swept, with_names-there}
pub use Rattle.store.proofs.Changes.{get-descriptions, get-descriptions_by, descriptions-altered, descriptions-changed, descriptions-filed, descriptions-freed, descriptions-installed, descriptions-left, descriptions-lost, descriptions-moved, descriptions-opened, descriptions-piped, descriptions-released, descriptions-reserved, descriptions-set, descriptions-swept, with_offset-there}
pub use Rattle.store.proofs.Changes.{rights-lost, rights-swept}
pub use Rattle.store.proofs.Chosen.{get-chosen, insert-held, remove-absent}
pub use Rattle.store.proofs.Counts.{links-links_in}
pub use Rattle.store.proofs.Beside.{file-beside_pipe, listing-beside_pipe, opened-beside_pipe, pipe-beside_file, pipe-beside_listing, pipe-beside_opened, pipe-changed, file-beside_listing, file-beside_opened, file-changed, holders-less, holders-more, listing-beside_file, listing-beside_opened, opened-beside_file, opened-beside_listing, opened-changed, openings-less, openings-more}
pub use Rattle.store.proofs.Laid.{laid_is}
pub use Rattle.store.proofs.Laying.{MayBeNamed, altered-alike, altered-same, altered-twice, left-altered}
pub use Rattle.store.proofs.Listings.{listing-changed, listing-staged, place-altered, place-other, place-over, place-swept-other, swept-stays}
