use Rattle.std.proofs.Common.{◌≡◌, ◌≤◌, ℕ, ◌==◌, cond, Some, None, arith, nat_cmp, sym, ap, subst, ◌∙◌}
use Rattle.model.specs.FiniteMap.{FinMap, get}
use Rattle.view_times.specs.Kept.{note_at, room_by}
use Rattle.view_times.specs.Rows.{Rows, rows_in}
use Rattle.view_times.specs.declared.noted.Notes.{Notes}
use Rattle.view_times.proofs.Tables.{empty_notes, here_now, notes_stay, room_grows}
use Rattle.view_times.proofs.Written.{is_absent, written}
use Rattle.view_times.proofs.views.Views.make_table.Goals as goal

abbrev Tables : Type 0
Tables = FinMap nat_cmp (Rows Notes)

absent : (c : goal.After-drop) → get (rows_in c.self.inside.tables) c.args.view ≡ None
absent c =
    ap (λ (m : Tables). get m c.args.view) c.self.view_is
    ∙ is_absent c.table.result (get c.args.self.now c.args.view) c.table.ensures (sym c.is_some.ensures ∙ c.if-is_some.false)

made : (c : goal.After-drop) (v : ℕ) → get (rows_in c.insert.new.self) v ≡ cond (c.args.view == v) (Some c.new.result) (get (rows_in c.self.inside.tables) v)
made c = written c.args.view c.new.result c.self.inside.tables.entries c.insert.new.self.entries c.in_ok-insert.ensures.updates.0

pub returns-clause-notes : goal.returns-clause-notes
returns-clause-notes c = λ v q.
    subst (λ (m : Tables). note_at (rows_in c.insert.new.self) v q ≡ note_at m v q) c.self.view_is
    (notes_stay (rows_in c.self.inside.tables) (rows_in c.insert.new.self) c.args.view None (Some c.new.result) (absent c) (made c) (λ q. empty_notes c.new.result q c.new.ensures) v q)

pub returns-clause-room : goal.returns-clause-room
returns-clause-room c = λ v.
    subst (λ (m : Tables). room_by (get m v) ≤ room_by (get (rows_in c.insert.new.self) v)) c.self.view_is
    (room_grows (rows_in c.self.inside.tables) (rows_in c.insert.new.self) c.args.view None (Some c.new.result) (absent c) (made c) (omega arith) v)

pub returns-clause-ok : goal.returns-clause-ok
returns-clause-ok c = λ none.
    let there = here_now (rows_in c.self.inside.tables) (rows_in c.insert.new.self) c.args.view None (Some c.new.result) (absent c) (made c) in
    let e : Some c.new.result ≡ None = sym there ∙ none in
    absurd cc
