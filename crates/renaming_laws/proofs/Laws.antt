-- What the crates above may cite.
pub use Rattle.renaming_laws.proofs.Calls.{calls_are_renamed}
pub use Rattle.renaming_laws.proofs.Chosen.{root_is_never_chosen}
pub use Rattle.renaming_laws.proofs.Edits.{edits_are_renamed}
pub use Rattle.renaming_laws.proofs.Histories.{histories_are_renamed, root_is_free_in_histories}
pub use Rattle.renaming_laws.proofs.Maps.{get_at, get_renamed, renamed-empty, renamed-insert, renamed-remove, renamed-retain_keys, sum-renamed, entries-with_values, keys-with_values}
pub use Rattle.renaming_laws.proofs.Own.{own_renamed}
pub use Rattle.renaming_laws.proofs.Roots.{root_is_renamed, start_renamed, start_swapped}
pub use Rattle.renaming_laws.proofs.Runs.{run_renamed, runs_are_renamed, slots_after, step_renamed}
pub use Rattle.renaming_laws.proofs.Slots.{slots_at_start}
pub use Rattle.renaming_laws.proofs.Stats.{root_is_told, root_is_told_by_lstat, stat_tells_the_root, stats_tell_the_root}
pub use Rattle.renaming_laws.proofs.Swaps.{HasNeither, item_stays, items_stay, swap_first, swap_other, swap_renames, swap_second}
pub use Rattle.renaming_laws.proofs.Told.{only_chosen_are_told, root_is_free, run_has_neither}
pub use Rattle.renaming_laws.proofs.States.{questions_are_renamed, inode_at, description_at, names_at, file_at, pipe_at, target_at, set_at, kind_at, given_at, process_at, links_at, holders_at, openings_at}
