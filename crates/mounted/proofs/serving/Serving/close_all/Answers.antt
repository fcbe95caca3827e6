use Rattle.std.proofs.Common.{◌≡◌, Bool, ℕ, refl, sym, ap, subst, ◌∙◌, ◌&&◌}
use Rattle.machine.specs.Shown.{Shown}
use Rattle.mount_requests.specs.Seen.{Seen, seen}
use Rattle.mount_requests.specs.declared.tables.Tables.{Tables}
use Rattle.mounted.proofs.Closing.{all_closed, go_on}
use Rattle.mounted.proofs.serving.Serving.close_all.Goals as goal

pub loop-handle-preserved-then-all : goal.loop-handle-preserved-then-all
loop-handle-preserved-then-all g c =
    let e = c.close_in-is_closed.ensures.tables in
    let now : Seen = seen c.loop-handle.self.tables in
    let there = c.in-Some.ensures.taken in
    let more = go_on (seen c.args.self.now.tables) now (seen c.close_in-is_closed.new.self.tables) c.args.view c.in-Some._handle c.in-Some.file c.args.pid c.args.self.now.hand.pid c.loop-handle.self.hand.pid c.args.is_open c.loop-handle.all c.close_in-is_closed.result _ c.args.self.now.hand.shown c.loop-handle.self.hand.shown c.close_in-is_closed.new.self.hand.shown
    c.loop-handle.invariant.1 c.loop-handle.invariant.2 c.loop-handle.invariant.3 there.0 there.1 (ap (λ (t : Tables). t.files.each) e ∙ there.2) (ap (λ (t : Tables). t.files.next) e ∙ c.in-Some.ensures.next)
    (subst (λ (t : Tables). seen t ≡ record now { files = t.files.each; handles = t.files.handles; next_file = t.files.next }) (sym e) refl)
    (ap (λ (b : ℕ × Shown). b.0) c.loop-handle.invariant.0) c.close_in-is_closed.ensures.closed (ap (λ (b : Bool). b && c.close_in-is_closed.result) (sym c.if-all.true))
    in (c.close_in-is_closed.ensures.bound ∙ c.loop-handle.invariant.0, more.0, more.1, more.2)

pub loop-handle-preserved : goal.loop-handle-preserved
loop-handle-preserved g c =
    let e = c.close_in-is_closed.ensures.tables in
    let now : Seen = seen c.loop-handle.self.tables in
    let there = c.in-Some.ensures.taken in
    let more = go_on (seen c.args.self.now.tables) now (seen c.close_in-is_closed.new.self.tables) c.args.view c.in-Some._handle c.in-Some.file c.args.pid c.args.self.now.hand.pid c.loop-handle.self.hand.pid c.args.is_open c.loop-handle.all c.close_in-is_closed.result _ c.args.self.now.hand.shown c.loop-handle.self.hand.shown c.close_in-is_closed.new.self.hand.shown
    c.loop-handle.invariant.1 c.loop-handle.invariant.2 c.loop-handle.invariant.3 there.0 there.1 (ap (λ (t : Tables). t.files.each) e ∙ there.2) (ap (λ (t : Tables). t.files.next) e ∙ c.in-Some.ensures.next)
    (subst (λ (t : Tables). seen t ≡ record now { files = t.files.each; handles = t.files.handles; next_file = t.files.next }) (sym e) refl)
    (ap (λ (b : ℕ × Shown). b.0) c.loop-handle.invariant.0) c.close_in-is_closed.ensures.closed (c.if-all.false ∙ ap (λ (b : Bool). b && c.close_in-is_closed.result) (sym c.if-all.false))
    in (c.close_in-is_closed.ensures.bound ∙ c.loop-handle.invariant.0, more.0, more.1, more.2)

pub returns-clause-closed : goal.returns-clause-closed
returns-clause-closed g c =
    all_closed (seen c.args.self.now.tables) (seen c.loop-handle.self.tables) c.args.view c.in_default.ensures.taken.0 c.args.is_open c.args.pid c.args.self.now.hand.pid c.loop-handle.all c.args.self.now.hand.shown c.loop-handle.self.hand.shown c.loop-handle.invariant.3
