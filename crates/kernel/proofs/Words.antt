-- The words and laws of which most proofs here speak.
pub use Rattle.std.proofs.Common.{Bool, Err, IfOk, List, None, Ok, Option, Result, Some, [], add-one, ap, ap₂, arith, eq-eqb, eqb, eqb-true, false, filter}
pub use Rattle.std.proofs.Common.{get_or, inl, inr, is_some, le-leb, length, map, nat_le, not, refl, rules, subst, subst₂, suc, sum_by, sym, take, true}
pub use Rattle.std.proofs.Common.{true≢false, vec_capacity, zero, ℕ, ◌++◌, ◌+◌, ◌<◌, ◌==◌, ◌∙◌, ◌∷◌, ◌≡◌, ◌≢◌, ◌≤◌, ◌⊎◌}
pub use Rattle.std.proofs.Math.Seq.{take-append_seam, take-length}
pub use Rattle.std.proofs.lemmas.Bool.{cases_Bool, cases_lt, eqb-false, false≢true}
pub use Rattle.std.proofs.lemmas.List.{append-nil, append_assoc, get_or_past, length-append, nil_from_length}
pub use Rattle.std.specs.List.{AllByRecursion}
pub use Rattle.std.specs.Prelude.{MatchBool, count_by, if◌then◌else◌, unwrap_or}
pub use Rattle.std.specs.Vec.Iter.{into_iter_items}
pub use Rattle.model.specs.Changes.{Edit, Make_directory, Unname_directory, all_applied, news, or_new, tidy}
pub use Rattle.model.specs.Effects.{Effect, all_done, effects}
pub use Rattle.model.specs.Entries.{Abort, Aborted, Answers, Begin, BeginFlags, Begun, Busy, Cause, Clash, Do, End, Entry, Executed, GivenUp, HistoryFull}
pub use Rattle.model.specs.Entries.{InTransaction, NoMemory, NoProcess, NotInTransaction, Op, Reply, answer_in, is_inside, is_unsupported}
pub use Rattle.model.specs.FiniteMap.{get}
pub use Rattle.history.specs.Log.{Log, all_forgotten, kept}
pub use Rattle.model.specs.Forgetting.{Limit, limit_at}
pub use Rattle.model.specs.Legal.{Alone, Free, Inside, IsApart, Legal, Outcome, Right, RightAt, Taken}
pub use Rattle.model.specs.Moments.{Moment, Status, after_list, after_one, all_below, at_start, bound, calls_at, calls_of, clashes_with, count_below, counted}
pub use Rattle.model.specs.Moments.{counted_touches, doom_cause, doomed, dooming_touches, gone, has_free, held_by, holds_place, idle, is_alive, is_in}
pub use Rattle.model.specs.Moments.{list_touches, live, losing_cause, next, numbers, own_next, priority_of, reserved, run_by, seen_by, settled, start, status}
pub use Rattle.model.specs.Replies.{answered, needed}
pub use Rattle.model.specs.State.{A_directory, A_file, A_pipe, Kernel, Name, Process, names_of}
pub use Rattle.model.specs.Steps.{IsNowhere, Touch, edits, edits_of, reply, touches}
pub use Rattle.call_laws.specs.Fits.{FitsAll}
pub use Rattle.history_laws.proofs.Laws.{calls_go_in, childless, commits_run_the_list, executed_again, forgetting_is_legal, legal_start, limits_are_kept, nowhere_seen, phase_is}
pub use Rattle.history_laws.proofs.Laws.{plain_calls_run, right_by, serializable_at, tree_at, views_may_be_loose, what_stands}
pub use Rattle.history_laws.specs.Entered.{CallGoesIn, PhasesMove, view}
pub use Rattle.history_laws.specs.Limits.{StaysWithinLimits, most_processes}
pub use Rattle.history_laws.specs.Processes.{IsAsBefore, ProcessesMove, born, child_in, is_ended}
pub use Rattle.calls.specs.Planned.{IsPlan, IsPlanWithoutTouches, counting}
pub use Rattle.commit.specs.Edits.{AreNew, with_change, made_by}
pub use Rattle.commit.specs.Views.{AreFirst, View, gone_slot, cause_of, changes_in, doomed_slot, idle_slot, view_at}
pub use Rattle.records.specs.Touches.{distinct, with_touches}
pub use Rattle.contention.proofs.Laws.{grown_touches, take-held, with_touches-append}
pub use Rattle.contention.specs.Contenders.{SetsContender, Contender, contender_at, contender_of, live_age, nobody}
pub use Rattle.contention.specs.Verdicts.{IsDoomedBy, IsVerdict}
pub use Rattle.contention.specs.declared.Doomed.{Doomed}
pub use Rattle.notes.specs.Log.{effect}
pub use Rattle.notes.specs.Steps.{CanEdit}
pub use Rattle.shadow.specs.Committed.{Committed}
pub use Rattle.machine.specs.Shown.{Kept, Shown, is_live, is_live_status, limit_of, moment, setup_of}
pub use Rattle.kernel.specs.States.{Asks, CanEnter, CanEndTransaction, Does, Dooms, Fields, IsConsistent, IsIn, Moves, Part, Plans, Prepares, Stands, Unchanged, calling}
pub use Rattle.kernel.specs.States.{changes_of, cleared, doomed_by, fields, part_at, part_of, part_with, plain, settled_as, shown, shown_by, state_with}
pub use Rattle.kernel.specs.States.{Born, Calls, CanChange, ends_process, first_is, makes_process, no_part, part_after, with_born, with_child}
pub use Rattle.machine.specs.Steps.{Added, Steps, has_place, is_no_entry, with_entry}
pub use Rattle.commit.specs.declared.process_state.Standing.TheVariants.{Idle, Live}
