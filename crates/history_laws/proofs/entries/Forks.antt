-- Each process that was not there at the start was made by a fork, which has an entry.
use Rattle.std.proofs.Common.{◌≡◌, ◌≢◌, ℕ, zero, suc, ◌+◌, ◌<◌, ◌≤◌, List, [], ◌∷◌, Option, Some, None, refl, sym, ◌∙◌, ap, true, false, inl, inr, arith}
use Rattle.std.proofs.lemmas.Bool.{cases_Bool, cases_eq, cases_lt, false≢true}
use Rattle.model.specs.State.{Kernel}
use Rattle.model.specs.Calls.{Call, Exit, Fork, Child}
use Rattle.model.specs.Steps.{reply}
use Rattle.model.specs.Entries.{Do, Reply, Answers, Entry, answer_in, is_inside}
use Rattle.model.specs.Forgetting.{Limit}
use Rattle.model.specs.Moments.{idle, Moment, is_alive, at_start, after_from, next, seen_by}
use Rattle.model.specs.Legal.{Right, LegalFrom, Legal}
use Rattle.call_laws.specs.WellFormed.{WellFormed}
use Rattle.call_laws.specs.CallLaws.{CallLaws}
use Rattle.call_laws.proofs.Laws.{first_processes_live}
use Rattle.history_laws.proofs.FromCallLaws.{FromCallLaws}
use Rattle.history_laws.specs.Processes.{child_in, born, is_ended, ProcessesMove, IsForked, ChildrenAreForked}
use Rattle.history_laws.proofs.entries.Moments.{alive_is}
use Rattle.history_laws.proofs.entries.Places.{Steady}
use Rattle.history_laws.proofs.entries.Kinds.{Kind, Changes, Pushes, Commits, Begins, Settles, Rests, kind}
use Rattle.history_laws.proofs.entries.Processes.{said_child, unsaid_child, processes_move}
use Rattle.history_laws.proofs.Legality.{steady_start, steady_next}
use Rattle.history_laws.proofs.calls.Processes.{child_of, inside_childless}

no_child : (q : ℕ) {A : Type 0} → ◌≡◌ {A = Option ℕ} None (Some q) → A
no_child q h = absurd cc

-- no call but fork is answered Child
only_fork : (k : Kernel) (pid q : ℕ) (call : Call) → child_of (reply k pid call) ≡ Some q → call ≡ Fork
only_fork k pid q call h = elim (cases_Bool (is_inside call)) [
  | inl inside ↦ no_child q (sym (inside_childless k pid call inside) ∙ h)
  | inr out ↦ outside call out h
] where
  outside : (c : Call) → is_inside c ≡ false → child_of (reply k pid c) ≡ Some q → c ≡ Fork
  outside Fork out h = refl
  outside Exit out h = no_child q h
  outside c out h = absurd (false≢true (sym out))

-- the reply that names a child
names : (r : Reply) (q : ℕ) → child_in r ≡ Some q → r ≡ Answers (Child q)
names (Answers (Child p)) q h = (let or_none : Option ℕ → ℕ = λ o. elim o [ Some n ↦ n | None ↦ 0 ] in ap (λ n. Answers (Child n)) (ap or_none h))
names r q h = no_child q h

-- an entry that makes none, or the child that it makes
data Makes (r : Reply) : Type 0 where
  Nothing : born r ≡ 0 → Makes r
  One : (q : ℕ) → child_in r ≡ Some q → born r ≡ 1 → Makes r

makes : (r : Reply) → Makes r
makes (Answers (Child q)) = One q refl refl
makes r = Nothing refl

module _ (laws : CallLaws WellFormed) (limit : Limit) where
  -- an entry that makes a process is a fork of one that lives
  by_fork : (m : Moment) (e : Entry) (q : ℕ) → Right limit m e → child_in e.reply ≡ Some q → (e.op ≡ Do Fork) × (is_alive m.committed e.pid ≡ true)
  by_fork m e q right child = by (kind limit m e right) where
    none : child_in e.reply ≡ None → (e.op ≡ Do Fork) × (is_alive m.committed e.pid ≡ true)
    none h = no_child q (sym h ∙ child)

    by : Kind m e → (e.op ≡ Do Fork) × (is_alive m.committed e.pid ≡ true)
    by (Changes call is_s is_op taken) = (
      is_op ∙ ap Do (only_fork (seen_by m e.pid) e.pid q call (sym (said_child e.reply (reply (seen_by m e.pid) e.pid call) taken.answer).0 ∙ child)),
      alive_is m e.pid idle is_s (λ h. absurd cc),
    )
    by (Pushes flags age calls call is_s is_op inside taken) =
        none ((said_child e.reply (reply (seen_by m e.pid) e.pid call) taken.answer).0 ∙ inside_childless (seen_by m e.pid) e.pid call inside)
    by (Commits flags age calls is_s is_op is_reply alone) = none (unsaid_child e.reply (ap answer_in is_reply)).0
    by (Begins flags is_s is_op is_reply alone) = none (unsaid_child e.reply (ap answer_in is_reply)).0
    by (Settles st again is_phase holds some left) = none (unsaid_child e.reply left.unanswered).0
    by (Rests some left) = none (unsaid_child e.reply left.unanswered).0

  -- no process has number 0
  stays_unmade : (m : Moment) (e : Entry) → Right limit m e → Steady WellFormed limit m → is_alive m.committed 0 ≡ false → is_alive (next m e).committed 0 ≡ false
  stays_unmade m e right s dead = elim (cases_Bool (is_ended e.op e.reply)) [
    | inr stays ↦ (moves.others 0 other (inl stays)).alive ∙ dead
    | inl ends ↦ elim (cases_eq 0 e.pid) [
      | inl own ↦ ap (is_alive (next m e).committed) own ∙ moves.ended ends
      | inr ne ↦ (moves.others 0 other (inr ne)).alive ∙ dead
    ]
  ] where
    moves : ProcessesMove m e
    moves = processes_move limit m e right s laws

    other : child_in e.reply ≢ Some 0
    other h = (let number : 0 ≡ suc m.committed.made = (moves.born 0 h).number in absurd (omega arith))

  positive : (m : Moment) (p : ℕ) → is_alive m.committed 0 ≡ false → is_alive m.committed p ≡ true → 0 < p
  positive m zero dead alive = absurd (false≢true (sym dead ∙ alive))
  positive m (suc p) dead alive = omega arith

  forked_here : (m : Moment) (e : Entry) (es : List Entry) (q : ℕ) → Right limit m e → Steady WellFormed limit m → is_alive m.committed 0 ≡ false → child_in e.reply ≡ Some q → q ≡ suc m.committed.made → IsForked (e ∷ es) q
  forked_here m e es q right s dead child is =
      let by = by_fork m e q right child in
      let low : e.pid ≤ m.committed.made = laws.alive_counted m.committed s.sound.lists.well e.pid by.1 in
      record {
        before = [];
        fork = e;
        later = es;
        among = refl;
        asked = by.0;
        answered = names e.reply q child;
        number = positive m e.pid dead by.1;
        earlier = omega arith;
      }

  forked_later : (e : Entry) (es : List Entry) (q : ℕ) → IsForked es q → IsForked (e ∷ es) q
  forked_later e es q f = record {
    before = e ∷ f.before;
    fork = f.fork;
    later = f.later;
    among = ap (λ xs. e ∷ xs) f.among;
    asked = f.asked;
    answered = f.answered;
    number = f.number;
    earlier = f.earlier;
  }

  forked_from : (m : Moment) (es : List Entry) → LegalFrom limit m es → Steady WellFormed limit m → is_alive m.committed 0 ≡ false → (q : ℕ) → m.committed.made < q → q ≤ (after_from m es).committed.made → IsForked es q
  forked_from m [] legal s dead q high low = absurd (omega arith)
  forked_from m (e ∷ es) legal s dead q high low =
      let on = forked_from (next m e) es legal.2 (steady_next WellFormed laws limit m e legal.1 s) (stays_unmade m e legal.1 s dead) q in
      by (makes e.reply) (λ above. forked_later e es q (on above low)) where
        moved : (next m e).committed.made ≡ m.committed.made + born e.reply
        moved = (processes_move limit m e legal.1 s laws).made

        by : Makes e.reply → ((next m e).committed.made < q → IsForked (e ∷ es) q) → IsForked (e ∷ es) q
        by (Nothing none) later = later (let made : (next m e).committed.made ≡ m.committed.made + born e.reply = moved in omega arith)
        by (One p child one) later = elim (cases_lt (next m e).committed.made q) [
          | inl above ↦ later above
          | inr reached ↦
              let number : p ≡ suc m.committed.made = ((processes_move limit m e legal.1 s laws).born p child).number in
              let made : (next m e).committed.made ≡ m.committed.made + born e.reply = moved in
              let is : q ≡ suc m.committed.made = omega arith in
              forked_here m e es q legal.1 s dead (child ∙ ap Some (number ∙ sym is)) is
        ]

pub children_are_forked : FromCallLaws ChildrenAreForked
unfolding Legal
children_are_forked laws root setup limit es legal q high low =
    forked_from laws limit (at_start root setup) es legal (steady_start WellFormed laws limit root setup) ((first_processes_live root setup).none 0 (inl refl)) q high low
