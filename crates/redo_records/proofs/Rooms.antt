-- What is told of a process, and when there is room for what it asks.
use Rattle.std.proofs.Common.{◌≡◌, ◌≢◌, ◌<◌, ◌≤◌, ◌==◌, ℕ, Bool, true, false, Option, Some, None, Result, Ok, Err, OnOk, refl, sym, subst, arith, nat_eq}
use Rattle.std.proofs.lemmas.Bool.{eqb-true}
use Rattle.std.specs.Prelude.{if◌then◌else◌, is_some}
use Rattle.std.specs.HashMap.{get}
use Rattle.model.specs.Entries.{BeginFlags, Cause, Op, Do, Begin, End, Abort}
use Rattle.model.specs.Moments.{Status, gone, idle, live, doomed, Moment, status, is_alive}
use Rattle.model.specs.Replies.{needed}
use Rattle.redo_records.specs.Kept.{HasPlace, HasSlot, IsKept, in_place, kept_standing, standing_of}
use Rattle.redo_records.specs.Recording.{Follows, HasRoom}
use Rattle.redo_records.specs.declared.recorder.Recorder.{Recorder}
use Rattle.redo_records.specs.declared.transaction.Transaction.{Transaction}
use Rattle.redo_records.specs.declared.transaction.Transaction.TheVariants.{Live, Doomed}

pub stands : (pid : ℕ) (s : Status) (t : Option Transaction) → IsKept pid s t → kept_standing t ≡ standing_of s
stands pid idle None h = refl
stands pid idle (Some (Live kept)) h = absurd h
stands pid idle (Some Doomed) h = absurd h
stands pid gone None h = absurd h
stands pid gone (Some (Live kept)) h = absurd h
stands pid gone (Some Doomed) h = absurd h
stands pid (live flags age calls) (Some (Live kept)) h = refl
stands pid (live flags age calls) (Some Doomed) h = absurd h
stands pid (live flags age calls) None h = absurd h
stands pid (doomed cause flags age) (Some Doomed) h = refl
stands pid (doomed cause flags age) (Some (Live kept)) h = absurd h
stands pid (doomed cause flags age) None h = absurd h

-- a slot is there where something is kept, and where one is free
pub slot_kept : (spare : ℕ) (t : Option Transaction) → is_some t ≡ true → HasSlot spare t
slot_kept spare None h = absurd cc
slot_kept spare (Some x) h = tt

pub slot_free : (spare : ℕ) (t : Option Transaction) → 0 < spare → HasSlot spare t
slot_free spare None h = h
slot_free spare (Some x) h = tt

pub free_of_slot : (spare : ℕ) (t : Option Transaction) → HasSlot spare t → is_some t ≡ false → 0 < spare
free_of_slot spare None h none = h
free_of_slot spare (Some x) h none = absurd cc

pub set_in_place : (next : Transaction) (t : Option Transaction) → is_some t ≡ true → in_place next t ≡ Some next
set_in_place next None h = absurd cc
set_in_place next (Some x) h = refl

-- where something is kept of a process, it is set by a begin
pub begun_in_place : (next : Transaction) (q p : ℕ) (f : ℕ → Option Transaction) → is_some (f p) ≡ true → (if q == p then in_place next (f q) else f q) ≡ (if q == p then Some next else f q)
begun_in_place next q p f there = by (q == p) refl where
  by : (b : Bool) → (q == p) ≡ b → (if b then in_place next (f q) else f q) ≡ (if b then Some next else f q)
  by true is = set_in_place next (f q) (subst (λ (n : ℕ). is_some (f n) ≡ true) (sym (eqb-true q p is)) there)
  by false is = refl

pub slot_if_ok : {A E : Type 0} (r : Result A E) (spare : ℕ) (t : Option Transaction) → OnOk r (1 ≤ spare) → OnOk r (HasSlot spare t)
slot_if_ok (Ok x) spare t h = slot_free spare t (omega arith)
slot_if_ok (Err e) spare t h = tt

doomed_slot : (spare pid : ℕ) (cause : Cause) (flags : BeginFlags) (age : ℕ) (t : Option Transaction) → IsKept pid (doomed cause flags age) t → HasSlot spare t
doomed_slot spare pid cause flags age None h = absurd h
doomed_slot spare pid cause flags age (Some x) h = tt

doomed_place : (pid : ℕ) (cause : Cause) (flags : BeginFlags) (age : ℕ) (t : Option Transaction) → IsKept pid (doomed cause flags age) t → HasPlace t
doomed_place pid cause flags age None h = tt
doomed_place pid cause flags age (Some (Live kept)) h = absurd h
doomed_place pid cause flags age (Some Doomed) h = tt

free_room : (r : Recorder) (pid : ℕ) (b : Bool) (s : Status) (op : Op) → IsKept pid s (get nat_eq r.transactions pid) → needed (if b then s else gone) op ≡ 0 → HasRoom r pid op
free_room r pid b s End h none = tt
free_room r pid b s (Abort no_restart) h none = tt
free_room r pid false s (Begin new) h none = absurd (omega arith)
free_room r pid false s (Do call) h none = absurd (omega arith)
free_room r pid true gone (Begin new) h none = absurd (omega arith)
free_room r pid true gone (Do call) h none = absurd (omega arith)
free_room r pid true idle (Begin new) h none = absurd (omega arith)
free_room r pid true idle (Do call) h none = absurd (omega arith)
free_room r pid true (live flags age calls) (Begin new) h none = absurd (omega arith)
free_room r pid true (live flags age calls) (Do call) h none = absurd (omega arith)
free_room r pid true (doomed cause flags age) (Begin new) h none = doomed_slot _ pid cause flags age (get nat_eq r.transactions pid) h
free_room r pid true (doomed cause flags age) (Do call) h none = λ changes. doomed_place pid cause flags age (get nat_eq r.transactions pid) h

-- An operation that needs no place in the history has room.
pub room_where_no_place_is_needed : (m : Moment) (r : Recorder) (pid : ℕ) (op : Op) → Follows m r → needed (status m pid) op ≡ 0 → HasRoom r pid op
room_where_no_place_is_needed m r pid op follows none = free_room r pid (is_alive m.committed pid) (m.phase pid) op (follows pid) none

gone_is_not_kept : (pid : ℕ) (s : Status) (t : Option Transaction) → IsKept pid s t → s ≢ gone
gone_is_not_kept pid gone None h is = absurd h
gone_is_not_kept pid gone (Some (Live kept)) h is = absurd h
gone_is_not_kept pid gone (Some Doomed) h is = absurd h
gone_is_not_kept pid idle t h is = absurd cc
gone_is_not_kept pid (live flags age calls) t h is = absurd cc
gone_is_not_kept pid (doomed cause flags age) t h is = absurd cc

-- No process that is followed is gone: of one that was never made or has ended nothing is kept, as of one in no transaction.
pub none_is_gone : (m : Moment) (r : Recorder) (pid : ℕ) → Follows m r → m.phase pid ≢ gone
none_is_gone m r pid follows = gone_is_not_kept pid (m.phase pid) (get nat_eq r.transactions pid) (follows pid)
