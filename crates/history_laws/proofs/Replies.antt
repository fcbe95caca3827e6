-- Replies and dooms are a function of what stood before, and a right entry finds its places.
use Rattle.std.proofs.Common.{◌≡◌, ◌+◌, ◌≤◌, arith, Option, Some, None, Result, Err, refl, ◌∙◌, ap, true, false, Bool, cond}
use Rattle.model.specs.Plan.{Errno}
use Rattle.model.specs.Calls.{Call, Answer}
use Rattle.model.specs.Entries.{BeginFlags, Op, Do, Begin, End, Abort, Cause, Reply, Refuses, Entry, answer_in, is_inside, is_unsupported}
use Rattle.model.specs.Forgetting.{limit_at}
use Rattle.model.specs.Moments.{Status, gone, idle, live, doomed, status, counted_touches, losing_cause, reserved}
use Rattle.model.specs.Legal.{Outcome, Inside, RightAt}
use Rattle.model.specs.Replies.{Spoken, answered, outcome_for, inside_for, spoken_at, needed}
use Rattle.history_laws.specs.Histories.{RepliesAreAFunction, RightEntriesHavePlaces}

abbrev Says : Entry → Spoken → Type 0
Says e s = (e.reply ≡ s.reply) × (e.doomed ≡ s.doomed)

-- the reply of an answer, or another where there is none
reply_or : Reply → Option (Result Answer Errno) → Reply
reply_or other (Some answer) = answered answer
reply_or other None = other

back : (r : Reply) → r ≡ reply_or r (answer_in r)
unfolding reply_or
back (Refuses e) = at_test (is_unsupported e) where
  at_test : (b : Bool) → Refuses e ≡ reply_or (Refuses e) (cond b None (Some (Err e)))
  at_test true = refl
  at_test false = refl
back r = refl

said : (r : Reply) (answer : Result Answer Errno) → answer_in r ≡ Some answer → r ≡ answered answer
unfolding reply_or
said r answer h = back r ∙ ap (reply_or r) h

pub replies_are_a_function : RepliesAreAFunction
replies_are_a_function limit m e right = by_status (status m e.pid) e.op right where
  by_cause : (s : Status) (call : Call) (o : Option Cause) → Outcome m e s call o → Says e (outcome_for m e.pid s call o)
  by_cause s call (Some c) r = (r.0, r.1.doomed)
  by_cause s call None r = (said e.reply _ r.answer, r.doomed)

  inside : (s : Status) (flags : BeginFlags) (call : Call) (b : Bool) → Inside limit m e s flags call b → Says e (inside_for m e.pid s flags call b)
  inside s flags call true r = by_cause s call (losing_cause m e.pid (counted_touches m e.pid call)) r.0
  inside s flags call false r = (r.0, r.1.doomed)

  by_status : (s : Status) (op : Op) → RightAt limit m e s op → Says e (spoken_at limit m e.pid s op)
  by_status (doomed c flags age) op r = (r.0, r.1.doomed)
  by_status (live flags age es) End r = (r.0, r.1.doomed)
  by_status (live flags age es) (Abort no_restart) r = (r.0, r.1.doomed)
  by_status gone op r = (r.0, r.1.doomed)
  by_status idle (Begin flags) r = (r.0, r.1.doomed)
  by_status (live flags age es) (Begin more) r = (r.0, r.1.doomed)
  by_status idle End r = (r.0, r.1.doomed)
  by_status idle (Abort no_restart) r = (r.0, r.1.doomed)
  by_status (live flags age es) (Do call) r = inside (live flags age es) flags call (is_inside call) r
  by_status idle (Do call) r = by_cause idle call (losing_cause m e.pid (counted_touches m e.pid call)) r.0

pub right_entries_have_places : RightEntriesHavePlaces
right_entries_have_places limit m e right placed = by_status (status m e.pid) e.op right where
  inside : (s : Status) (flags : BeginFlags) (call : Call) (b : Bool) → Inside limit m e s flags call b → m.entries + reserved m + 1 ≤ limit_at limit m.entries
  inside s flags call true r = r.1
  inside s flags call false r = r.2

  by_status : (s : Status) (op : Op) → RightAt limit m e s op → m.entries + reserved m + needed s op ≤ limit_at limit m.entries
  by_status (doomed c flags age) op r = omega (arith, placed)
  by_status (live flags age es) End r = omega (arith, placed)
  by_status (live flags age es) (Abort no_restart) r = omega (arith, placed)
  by_status gone op r = r.2
  by_status idle (Begin flags) r = r.2
  by_status (live flags age es) (Begin more) r = r.2
  by_status idle End r = r.2
  by_status idle (Abort no_restart) r = r.2
  by_status (live flags age es) (Do call) r = inside (live flags age es) flags call (is_inside call) r
  by_status idle (Do call) r = r.1
