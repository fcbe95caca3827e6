use Rattle.std.proofs.Common.{◌≡◌, ◌≤◌, ℕ, ◌==◌, cond, Option, None, nat_cmp, nat_eq, rules, sym, ap, subst, ◌∙◌}
use Rattle.std.specs.Map.{lookup}
use Rattle.model.specs.FiniteMap.{FinMap, get}
use Rattle.view_times.specs.Kept.{note_at, note_by, room_by}
use Rattle.view_times.specs.Rows.{Rows, rows_in}
use Rattle.view_times.specs.declared.noted.Notes.{Notes}
use Rattle.view_times.proofs.Tables.{Forgets, IsEach, all_kept, forgotten_notes, forgotten_room}
use Rattle.view_times.proofs.Written.{found}
use Rattle.view_times.proofs.views.Views.forget.Goals as goal

abbrev Tables : Type 0
Tables = FinMap nat_cmp (Rows Notes)

-- the closure keeps each table, without the inode
each : (c : goal.After-retain) (v : ℕ) → IsEach (Forgets c.args.inode) (lookup (nat_eq v) c.self.inside.tables.entries) (lookup (nat_eq v) c.retain.new.self.entries)
each c v = all_kept _ (Forgets c.args.inode) _ (λ k was b now f' t. search rules) c.self.inside.tables.entries c.retain.new.self.entries c.retain.ensures.filtered v

pub returns-clause-notes : goal.returns-clause-notes
returns-clause-notes c = λ v q.
    let es = c.self.inside.tables.entries in
    let fs = c.retain.new.self.entries in
    subst (λ (m : Tables). note_at (rows_in c.retain.new.self) v q ≡ cond (c.args.inode == q) None (note_at m v q)) c.self.view_is
    (ap (λ (o : Option (Rows Notes)). note_by o q) (found fs v)
    ∙ forgotten_notes c.args.inode (lookup (nat_eq v) es) (lookup (nat_eq v) fs) (each c v) q
    ∙ sym (ap (λ (o : Option (Rows Notes)). cond (c.args.inode == q) None (note_by o q)) (found es v)))

pub returns-clause-room : goal.returns-clause-room
returns-clause-room c = λ v.
    let es = c.self.inside.tables.entries in
    let fs = c.retain.new.self.entries in
    subst (λ (m : Tables). room_by (get m v) ≤ room_by (get (rows_in c.retain.new.self) v)) c.self.view_is
    (subst (λ (o : Option (Rows Notes)). room_by o ≤ room_by (get (rows_in c.retain.new.self) v)) (sym (found es v))
    (subst (λ (o : Option (Rows Notes)). room_by (lookup (nat_eq v) es) ≤ room_by o) (sym (found fs v))
    (forgotten_room c.args.inode (lookup (nat_eq v) es) (lookup (nat_eq v) fs) (each c v))))
