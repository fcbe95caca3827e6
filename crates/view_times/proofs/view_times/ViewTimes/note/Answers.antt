use Rattle.std.proofs.Common.{◌≡◌, ℕ, ◌==◌, ◌&&◌, cond, Some, ne_eqb, sym, ap, subst, ◌∙◌}
use Rattle.model.specs.FiniteMap.{insert}
use Rattle.view_times.specs.Events.{notes_of}
use Rattle.view_times.specs.Kept.{Kept, known, note_at, notes_in, times_in}
use Rattle.view_times.specs.Known.{noted_by}
use Rattle.view_times.specs.Noted.{behind, over}
use Rattle.view_times.specs.declared.noted.Notes.{Notes}
use Rattle.view_times.proofs.After.{kept_of, known_noted, known_plain, places_noted, places_put, places_stay}
use Rattle.view_times.proofs.view_times.ViewTimes.note.Goals as goal

-- in the plain tree

pub invariant_of-self : goal.invariant_of-self
invariant_of-self c = rw c.put.ensures.rows
    (places_stay c.self.inside.everybody.rows (insert c.self.inside.everybody.rows c.number_of-number.result c.over.result) c.self.inside.views c.self.inside.views c.self.invariant
    (places_put c.self.inside.everybody.rows c.number_of-number.result c.over.result) (λ v q noted. noted))

pub returns-then-view-eq-PLAIN-clause-known : goal.returns-then-view-eq-PLAIN-clause-known
returns-then-view-eq-PLAIN-clause-known c =
    let everybody = c.self.inside.everybody in
    let times : c.over.result ≡ over (notes_of c.args.event c.args.now) (times_in everybody.rows c.number_of-number.result) =
    c.over.ensures ∙ ap (λ (n : Notes). over n c.of-times.result) c.notes-notes.ensures ∙ ap (over (notes_of c.args.event c.args.now)) c.of-times.ensures in
    subst (λ (k : Kept). known (kept_of c.put.new.self c.self.inside.views) ≡ noted_by (known k) c.args.view c.args.inode c.args.event c.args.now) c.self.view_is
    (known_plain everybody c.put.new.self c.self.inside.views c.number_of-number.result c.args.event c.args.now
    (c.put.ensures.rows ∙ ap (insert everybody.rows c.number_of-number.result) times)
    ∙ ap (λ (v : ℕ). noted_by (known (kept_of everybody c.self.inside.views)) v c.number_of-number.result c.args.event c.args.now) (sym c.if-view-eq-PLAIN.true)
    ∙ ap (λ (i : ℕ). noted_by (known (kept_of everybody c.self.inside.views)) c.args.view i c.args.event c.args.now) c.number_of-number.ensures)

-- in a transaction

pub invariant_of-self-else-view-eq-PLAIN : goal.invariant_of-self-else-view-eq-PLAIN
invariant_of-self-else-view-eq-PLAIN c = rw c.put-else-view-eq-PLAIN.ensures.rows
    (places_noted c.self.inside.everybody.rows c.self.inside.views c.note.new.self c.args.view c.number_of-number.result c.of-times.result
    (behind c.notes-notes.result (notes_in c.self.inside.views c.args.view c.number_of-number.result)) c.self.invariant c.note.ensures.notes)

pub returns-else-view-eq-PLAIN-clause-known : goal.returns-else-view-eq-PLAIN-clause-known
returns-else-view-eq-PLAIN-clause-known c =
    let everybody = c.self.inside.everybody in
    let views = c.self.inside.views in
    let number = c.number_of-number.result in
    subst (λ (k : Kept). known (kept_of c.put-else-view-eq-PLAIN.new.self c.note.new.self) ≡ noted_by (known k) c.args.view c.args.inode c.args.event c.args.now) c.self.view_is
    (known_noted everybody c.put-else-view-eq-PLAIN.new.self views number c.args.event c.args.now c.args.view c.note.new.self (ne_eqb c.args.view 0 c.if-view-eq-PLAIN.false)
    (c.put-else-view-eq-PLAIN.ensures.rows ∙ ap (insert everybody.rows number) c.of-times.ensures)
    (λ v q. c.note.ensures.notes v q
    ∙ ap (λ (n : Notes). cond (c.args.view == v && number == q) (Some (behind n (notes_in views c.args.view number))) (note_at views v q)) c.notes-notes.ensures)
    ∙ ap (λ (i : ℕ). noted_by (known (kept_of everybody views)) c.args.view i c.args.event c.args.now) c.number_of-number.ensures)
