use Rattle.std.proofs.Common.{◌≡◌, ◌≤◌, None, Some, arith, nat_cmp, ne_eqb, sym, ap, subst, ◌∙◌}
use Rattle.model.specs.FiniteMap.{FinMap, get}
use Rattle.view_times.specs.Kept.{Kept, known, room_by, room_of}
use Rattle.view_times.specs.Known.{committed}
use Rattle.view_times.specs.Rows.{Rows}
use Rattle.view_times.specs.declared.noted.Notes.{Notes}
use Rattle.view_times.proofs.After.{committed_places, kept_of, known_committed, nothing_merged, room_more, taken_room}
use Rattle.view_times.proofs.view_times.ViewTimes.commit.Goals as goal

abbrev Tables : Type 0
Tables = FinMap nat_cmp (Rows Notes)

taken : (c : goal.After-drop-noted) → get c.self.inside.views c.args.view ≡ Some c.in-Some.noted
taken c = sym c.take.ensures.table ∙ c.in-Some.is

nothing : (c : goal.In_default) → get c.self.inside.views c.args.view ≡ None
nothing c = sym c.take.ensures.table ∙ c.in_default.is

pub invariant_of-self : goal.invariant_of-self
invariant_of-self c = rw c.take.ensures.tables
    (committed_places c.self.inside.everybody c.merge_all.new.self c.self.inside.views c.args.view (Some c.in-Some.noted) (taken c) c.merge_all.ensures.times c.self.invariant)

pub invariant_of-self-in_default : goal.invariant_of-self-in_default
invariant_of-self-in_default c = rw c.take.ensures.tables
    (committed_places c.self.inside.everybody c.self.inside.everybody c.self.inside.views c.args.view None (nothing c) (nothing_merged c.self.inside.everybody.rows) c.self.invariant)

pub returns-in-Some-clause-known : goal.returns-in-Some-clause-known
returns-in-Some-clause-known c =
    subst (λ (k : Kept). known (kept_of c.merge_all.new.self c.take.new.self) ≡ committed (known k) c.args.view) c.self.view_is
    (rw c.take.ensures.tables
    (known_committed c.self.inside.everybody c.merge_all.new.self c.self.inside.views c.args.view (Some c.in-Some.noted) (taken c) c.merge_all.ensures.times (ne_eqb c.args.view 0 c.if-view-eq-PLAIN.false) c.self.invariant))

pub returns-in_default-clause-known : goal.returns-in_default-clause-known
returns-in_default-clause-known c =
    subst (λ (k : Kept). known (kept_of c.self.inside.everybody c.take.new.self) ≡ committed (known k) c.args.view) c.self.view_is
    (rw c.take.ensures.tables
    (known_committed c.self.inside.everybody c.self.inside.everybody c.self.inside.views c.args.view None (nothing c) (nothing_merged c.self.inside.everybody.rows) (ne_eqb c.args.view 0 c.if-view-eq-PLAIN.false) c.self.invariant))

pub returns-in-Some-clause-room : goal.returns-in-Some-clause-room
returns-in-Some-clause-room c = λ other away.
    let own : room_by (get c.take.new.self other) ≡ room_by (get c.self.inside.views other) = ap (λ (m : Tables). room_by (get m other)) c.take.ensures.tables ∙ taken_room c.self.inside.views c.args.view other away in
    let more = room_more c.self.inside.everybody c.merge_all.new.self c.self.inside.views c.take.new.self 0 other (omega (arith, c.merge_all.ensures.room)) (omega (arith, own)) in
    subst (λ (k : Kept). room_of k other ≤ room_of (kept_of c.merge_all.new.self c.take.new.self) other) c.self.view_is (omega (arith, more))

pub returns-in_default-clause-room : goal.returns-in_default-clause-room
returns-in_default-clause-room c = λ other away.
    let own : room_by (get c.take.new.self other) ≡ room_by (get c.self.inside.views other) = ap (λ (m : Tables). room_by (get m other)) c.take.ensures.tables ∙ taken_room c.self.inside.views c.args.view other away in
    let more = room_more c.self.inside.everybody c.self.inside.everybody c.self.inside.views c.take.new.self 0 other (omega arith) (omega (arith, own)) in
    subst (λ (k : Kept). room_of k other ≤ room_of (kept_of c.self.inside.everybody c.take.new.self) other) c.self.view_is (omega (arith, more))
