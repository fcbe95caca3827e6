use Rattle.std.proofs.Common.{◌≡◌, ◌≤◌, arith, nat_cmp, ap, subst, ◌∙◌}
use Rattle.model.specs.FiniteMap.{FinMap, get}
use Rattle.view_times.specs.Kept.{Kept, known, room_by, room_of}
use Rattle.view_times.specs.Known.{aborted}
use Rattle.view_times.specs.Rows.{Rows}
use Rattle.view_times.specs.declared.noted.Notes.{Notes}
use Rattle.view_times.proofs.After.{aborted_places, kept_of, known_aborted, room_more, taken_room}
use Rattle.view_times.proofs.view_times.ViewTimes.abort.Goals as goal

pub invariant_of-self : goal.invariant_of-self
invariant_of-self c = rw c.take.ensures.tables (aborted_places _ _ _ c.self.invariant)

pub returns-clause-known : goal.returns-clause-known
returns-clause-known c =
    subst (λ (k : Kept). known (kept_of c.self.inside.everybody c.take.new.self) ≡ aborted (known k) c.args.view) c.self.view_is
    (rw c.take.ensures.tables (known_aborted c.self.inside.everybody c.self.inside.views c.args.view))

pub returns-clause-room : goal.returns-clause-room
returns-clause-room c = λ other away.
    let own : room_by (get c.take.new.self other) ≡ room_by (get c.self.inside.views other) = ap (λ (m : FinMap nat_cmp (Rows Notes)). room_by (get m other)) c.take.ensures.tables ∙ taken_room c.self.inside.views c.args.view other away in
    let more = room_more c.self.inside.everybody c.self.inside.everybody c.self.inside.views c.take.new.self 0 other (omega arith) (omega (arith, own)) in
    subst (λ (k : Kept). room_of k other ≤ room_of (kept_of c.self.inside.everybody c.take.new.self) other) c.self.view_is (omega (arith, more))
