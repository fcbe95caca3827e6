-- What is noted stands for the history.
use Rattle.std.proofs.Common.{◌≡◌, ℕ, ◌+◌, ◌-◌, ◌≤◌, Bool, true, false, List, [], ◌∷◌, ◌++◌, length, map, drop, Option, Some, None, Result, Ok, Err, refl, sym, ap, ◌∙◌, subst, subst₂, arith}
use Rattle.std.proofs.Math.Seq.{drop-length}
use Rattle.std.proofs.lemmas.List.{drop-append-le, length-append, length-drop, length-map, map-append}
use Rattle.std.specs.Prelude.{IfOk, OnOk, is_err}
use Rattle.history.specs.Log.{Log, all_forgotten}
use Rattle.model.specs.Steps.{Item}
use Rattle.model.specs.Entries.{Entry}
use Rattle.model.specs.Moments.{Moment, after, at_start, idle, next, status}
use Rattle.model.specs.Legal.{Legal}
use Rattle.model.specs.Suits.{suits}
use Rattle.history_laws.proofs.Laws.{after_one_more}
use Rattle.machine.specs.Shown.{Shown, Kept, limit_of, moment, setup_of}
use Rattle.machine.specs.Steps.{forgetting, with_entry}
use Rattle.redo_records.specs.Records.{added, as_record, records_from}
use Rattle.redo_records.specs.Recording.{Follows, Tell, entries_of, told}
use Rattle.redo_records.specs.declared.recorder.Record.{Record}
use Rattle.redo_records.specs.declared.recorder.Recorder.{Recorder}
use Rattle.redo_records.proofs.Laws.{legal_entries_suit, records_grow, tell_more}
use Rattle.recording.specs.Noted.{IsRecorded, Keep, made_of}
use Rattle.recording.specs.Recorded.{AreRest, records_of}
use Rattle.recording.specs.declared.notes.Notes.{Notes}

-- ---- at the start

pub idle_at_start : (log : Log) → log.entries ≡ [] → (pid : ℕ) → (moment log).phase pid ≡ idle
idle_at_start log none pid = ap (λ es. (after 0 (setup_of log) es).phase pid) none

pub none_at_start : (log : Log) → log.entries ≡ [] → (rs : List Record) → rs ≡ [] → AreRest log 0 rs
none_at_start log none rs empty = subst₂ (λ (es : List Entry) (xs : List Record). AreRest (record log { entries = es }) 0 xs) (sym none) (sym empty) (record { order = omega arith; tell = tt })

pub recorded_at_start : (v : Shown) (notes : Notes) (priorities : List ℕ) → Kept v → v.log.entries ≡ [] → v.log.priorities ≡ priorities → length priorities ≤ 4096 → ((log : Log) → log.entries ≡ [] → Keep log notes) → IsRecorded v notes
recorded_at_start v notes priorities kept none same few keep = record {
  kept = kept;
  faithful = λ alive. keep v.log none;
  few = subst (λ (ps : List ℕ). length ps ≤ 4096) (sym same) few;
}

-- ---- entries are forgotten

keep_forgotten : (log : Log) (notes : Notes) → Keep log notes → Keep (all_forgotten log) notes
keep_forgotten log notes keep = record { follows = keep.follows; waiting = record { order = keep.waiting.order; tell = keep.waiting.tell } }

pub recorded_forgotten : (old new : Shown) (notes : Notes) (b : Bool) → IsRecorded old notes → Kept new → (b ≡ true → new ≡ forgetting old) → (b ≡ false → new ≡ old) → IsRecorded new notes
recorded_forgotten old new notes true is kept forgets stays = record {
  kept = kept;
  faithful = λ alive. subst (λ (v : Shown). Keep v.log notes) (sym (forgets refl)) (keep_forgotten old.log notes (is.faithful alive));
  few = subst (λ (v : Shown). length v.log.priorities ≤ 4096) (sym (forgets refl)) is.few;
}
recorded_forgotten old new notes false is kept forgets stays = subst (λ (v : Shown). IsRecorded v notes) (sym (stays refl)) is

-- ---- one entry more

-- the entry suits what stood before it
pub suits_next : (old new : Log) (e : Entry) → new ≡ with_entry old e → Legal 0 (setup_of new) (limit_of new) new.entries → suits (status (moment old) e.pid) e.op e.reply ≡ true
suits_next old new e is legal =
    let now : Legal 0 (setup_of old) (limit_of old) (old.entries ++ e ∷ []) = subst (λ (l : Log). Legal 0 (setup_of l) (limit_of l) l.entries) is legal in
    legal_entries_suit 0 (setup_of old) (limit_of old) old.entries e now

pub moment_next : (old new : Log) (e : Entry) → new ≡ with_entry old e → moment new ≡ next (moment old) e
moment_next old new e is = ap moment is ∙ after_one_more 0 (setup_of old) old.entries e

records_next : (old : Log) (e : Entry) → records_of (with_entry old e) ≡ records_of old ++ as_record (added (moment old) e)
records_next old e = records_grow 0 (setup_of old) old.entries e

rest_next : (old : Log) (e : Entry) (taken : ℕ) (rs more : List Record) → AreRest old taken rs → Tell (as_record (added (moment old) e)) (map entries_of more) → AreRest (with_entry old e) taken (rs ++ more)
rest_next old e taken rs more rest tells =
    let grown = records_next old e in
    let behind : drop taken (records_of old ++ as_record (added (moment old) e)) ≡ drop taken (records_of old) ++ as_record (added (moment old) e) = drop-append-le taken (records_of old) (as_record (added (moment old) e)) rest.order in
    let long : length (records_of (with_entry old e)) ≡ length (records_of old) + length (as_record (added (moment old) e)) = ap length grown ∙ length-append (records_of old) (as_record (added (moment old) e)) in
    record {
      order = omega (arith, rest.order, long);
      tell = subst₂ Tell (sym (ap (drop taken) grown ∙ behind)) (sym (map-append entries_of rs more)) (tell_more (drop taken (records_of old)) (as_record (added (moment old) e)) (map entries_of rs) (map entries_of more) rest.tell tells);
    }

tells_made : (made : Option Record) → map entries_of (made_of made) ≡ told made
tells_made (Some r) = refl
tells_made None = refl

-- what an entry leaves to be followed, and to be taken
pub noted : (old new : Log) (e : Entry) (taken : ℕ) (before after : Recorder) (waiting now : List Record) (made : Option Record)
    → ((m : Moment) → Follows m before → suits (status m e.pid) e.op e.reply ≡ true → Follows (next m e) after)
    → ((m : Moment) → Follows m before → suits (status m e.pid) e.op e.reply ≡ true → Tell (as_record (added m e)) (told made))
    → now ≡ waiting ++ made_of made → Follows (moment old) before → AreRest old taken waiting → new ≡ with_entry old e → Legal 0 (setup_of new) (limit_of new) new.entries
    → Follows (moment new) after × AreRest new taken now
noted old new e taken before after waiting now made follows tells grown followed rest is legal =
    let fits = suits_next old new e is legal in
    let more : AreRest (with_entry old e) taken (waiting ++ made_of made) =
    rest_next old e taken waiting (made_of made) rest (subst (Tell (as_record (added (moment old) e))) (sym (tells_made made)) (tells (moment old) followed fits)) in (
      subst (λ (m : Moment). Follows m after) (sym (moment_next old new e is)) (follows (moment old) followed fits),
      subst₂ (λ (l : Log) (rs : List Record). AreRest l taken rs) (sym is) (sym grown) more,
    )

-- what holds where a result is no error
pub on_ok : {A E : Type 0} (r : Result A E) (P : Type 0) → OnOk r P → is_err r ≡ false → P
on_ok (Ok x) P h none = h
on_ok (Err e) P h none = absurd cc

pub on_ok_so : {A E : Type 0} (r : Result A E) (P Q : Type 0) → (P → Q) → OnOk r P → OnOk r Q
on_ok_so (Ok x) P Q so h = so h
on_ok_so (Err e) P Q so h = tt

-- ---- records are taken

tell_length : (rs : List (List Item)) (ess : List (List Entry)) → Tell rs ess → length rs ≡ length ess
tell_length [] [] h = refl
tell_length [] (es ∷ ess) h = absurd h
tell_length (r ∷ rs) [] h = absurd h
tell_length (r ∷ rs) (es ∷ ess) h = omega (arith, tell_length rs ess h.1)

pub all_counted : (log : Log) (taken : ℕ) (rs : List Record) → AreRest log taken rs → taken + length rs ≡ length (records_of log)
all_counted log taken rs rest =
    let same : length (drop taken (records_of log)) ≡ length (map entries_of rs) = tell_length _ _ rest.tell in
    omega (arith, same, rest.order, length-drop taken (records_of log), length-map rs entries_of)

low_record : (its : List Item) → length (as_record its) ≤ 1
low_record [] = omega arith
low_record (it ∷ its) = omega arith

few_records : (m : Moment) (es : List Entry) → length (records_from m es) ≤ length es
few_records m [] = omega arith
few_records m (e ∷ es) = omega (arith, few_records (next m e) es, low_record (added m e), length-append (as_record (added m e)) (records_from (next m e) es))

-- there are no more than entries
pub counted_low : (log : Log) (taken : ℕ) (rs : List Record) → AreRest log taken rs → taken + length rs ≤ length log.entries
counted_low log taken rs rest = omega (arith, all_counted log taken rs rest, few_records (at_start 0 (setup_of log)) log.entries)

-- none is left
pub all_taken : (log : Log) (taken now : ℕ) (rs none : List Record) → AreRest log taken rs → now ≡ taken + length rs → none ≡ [] → AreRest log now none
all_taken log taken now rs none rest is empty =
    let all : now ≡ length (records_of log) = is ∙ all_counted log taken rs rest in
    record {
      order = omega (arith, all);
      tell = subst₂ Tell (sym (ap (λ n. drop n (records_of log)) all ∙ drop-length (records_of log))) (ap (map entries_of) (sym empty)) tt;
    }

-- ---- what a fault tells

pub if_ok_so : {A E : Type 0} (r : Result A E) (P Q : A → Type 0) (R : Type 0) → ((x : A) → R → P x → Q x) → OnOk r R → IfOk r P → IfOk r Q
if_ok_so (Ok x) P Q R so h p = so x h p
if_ok_so (Err e) P Q R so h p = tt

pub on_ok_both : {A E : Type 0} (r : Result A E) (P Q R : Type 0) → (P → Q → R) → OnOk r P → OnOk r Q → OnOk r R
on_ok_both (Ok x) P Q R so p q = so p q
on_ok_both (Err e) P Q R so p q = tt
