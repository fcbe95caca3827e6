-- What the crates above may cite.
pub use Rattle.notes.proofs.DistinctProcesses.{kept_its, key_at, none_ahead, once_set, patch_at}
pub use Rattle.notes.proofs.EditCases.{applies, by_one, first_cases, last_cases}
pub use Rattle.notes.proofs.EditPairs.{news_of_two, two_edits}
pub use Rattle.notes.proofs.NamesOver.{no_keys}
pub use Rattle.notes.proofs.Outcomes.{err_so, ok_so, on_err}
pub use Rattle.notes.proofs.SlotRooms.{room_at, rooms_reach}
pub use Rattle.notes.proofs.SlotLemmas.{Entries, map_over, new_of, none_over, noted_over, pushed_other, pushed_same}
pub use Rattle.notes.proofs.SortedKeys.{first_absent, first_kept, later_kept, not_first, rest_sorted}
