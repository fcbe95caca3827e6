use Rattle.std.proofs.Common.{◌≡◌, ◌≤◌, ℕ, ◌==◌, cond, Some, OnOk, arith, nat_cmp, sym, ap, subst, ◌∙◌}
use Rattle.std.specs.Option.{is_some}
use Rattle.model.specs.FiniteMap.{FinMap, get}
use Rattle.view_times.specs.Kept.{note_at, room_by}
use Rattle.view_times.specs.Rows.{Rows, rows_in}
use Rattle.view_times.specs.declared.noted.Notes.{Notes}
use Rattle.view_times.proofs.Tables.{here_now, notes_stay, room_grows}
use Rattle.view_times.proofs.Written.{found, written}
use Rattle.view_times.proofs.views.Views.reserve_in.Goals as goal

abbrev Tables : Type 0
Tables = FinMap nat_cmp (Rows Notes)

pub unreachable-requires : goal.unreachable-requires
unreachable-requires c = c.requires
    (sym (ap (λ (m : Tables). get m c.args.view) c.self.view_is) ∙ found c.self.inside.tables.entries c.args.view ∙ sym c.in-None.ensures.value)

abbrev old : goal.After-self-in-Some-1 → Tables
old c = rows_in c.self.inside.tables

abbrev new : goal.After-self-in-Some-1 → Tables
new c = rows_in (c.get_mut.follows.lender c.reserve.new.self)

there : (c : goal.After-self-in-Some-1) → get (old c) c.args.view ≡ Some c.in-Some.table.now
there c = found c.self.inside.tables.entries c.args.view ∙ sym c.in-Some.ensures.value

changed : (c : goal.After-self-in-Some-1) (v : ℕ) → get (new c) v ≡ cond (c.args.view == v) (Some c.reserve.new.self) (get (old c) v)
changed c = written c.args.view c.reserve.new.self c.self.inside.tables.entries (c.get_mut.follows.lender c.reserve.new.self).entries
    ((c.get_mut.follows.holds c.reserve.new.self).3 (ap is_some (sym c.in-Some.ensures.value))).0

pub returns-clause-notes : goal.returns-clause-notes
returns-clause-notes c = λ v q.
    subst (λ (m : Tables). note_at (new c) v q ≡ note_at m v q) c.self.view_is
    (notes_stay (old c) (new c) c.args.view (Some c.in-Some.table.now) (Some c.reserve.new.self) (there c) (changed c)
    (λ q. ap (λ (m : FinMap nat_cmp Notes). get m q) c.reserve.ensures.rows) v q)

pub returns-clause-room : goal.returns-clause-room
returns-clause-room c = λ v.
    subst (λ (m : Tables). room_by (get m v) ≤ room_by (get (new c) v)) c.self.view_is
    (room_grows (old c) (new c) c.args.view (Some c.in-Some.table.now) (Some c.reserve.new.self) (there c) (changed c) c.reserve.ensures.room v)

pub returns-clause-ok : goal.returns-clause-ok
returns-clause-ok c =
    subst (λ o. OnOk c.reserve.result (c.args.more ≤ room_by o))
    (sym (here_now (old c) (new c) c.args.view (Some c.in-Some.table.now) (Some c.reserve.new.self) (there c) (changed c)))
    c.reserve.ensures.ok

pub returns-clause-succeeds : goal.returns-clause-succeeds
returns-clause-succeeds c = λ fits.
    let room : room_by (get c.args.self.now c.args.view) ≡ c.in-Some.table.now.room = ap (λ (m : Tables). room_by (get m c.args.view)) (sym c.self.view_is) ∙ ap room_by (there c) in
    c.reserve.ensures.succeeds (omega (arith, room, fits))
