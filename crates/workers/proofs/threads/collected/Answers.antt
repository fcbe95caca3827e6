use Rattle.std.proofs.Common.{◌≡◌, rules, ◌++◌, [], ◌∷◌, None}
use Rattle.workers.proofs.Gathering.{all_joined, joined, over_rest}
use Rattle.workers.proofs.threads.collected.Goals as goal

pub loop-thread-preserved : goal.loop-thread-preserved
loop-thread-preserved g c =
    let items : c.loop-thread.threads.items ≡ c.in-Some.thread ∷ c.pop_front.new.self.items = search rules in
    let lines = c.args.lines.now in
    let over = over_rest lines c.loop-thread.threads.items c.pop_front.new.self.items c.in-Some.thread items c.loop-thread.invariant.over in
    record {
      over = over.1;
      none = λ unstopped.
          let none : c.lower-stop.result ≡ None = search rules in
          c.loop-thread.invariant.none (c.lower-stop.ensures.none none).0;
      rest = λ unstopped.
          let both : (c.lower-stop.result ≡ None) × (c.append.new.self.items ≡ c.loop-thread.ports.items ++ c.join-family.result.ports.items) = search rules in
          let stops = c.lower-stop.ensures.none both.0 in
          joined g.P.Port.number g.P.Port.home g.P.Port.done g.L.Lines.listed g.L.Lines.port lines _ c.loop-thread.threads.items c.pop_front.new.self.items c.in-Some.thread c.args.ports.items c.loop-thread.ports.items c.join-family.result.ports.items c.append.new.self.items
          items over.0 both.1 (c.loop-thread.invariant.rest stops.0) (c.join-family.ensures stops.1);
    }

pub returns-clause-added : goal.returns-clause-added
returns-clause-added g c = λ unstopped.
    let none : c.loop-thread.threads.items ≡ [] = search rules in
    all_joined g.P.Port.number g.P.Port.home g.P.Port.done (g.L.Lines.listed c.args.lines.now) (g.P.Port.home (g.L.Lines.port c.args.lines.now)) _ c.loop-thread.threads.items c.args.ports.items c.loop-thread.ports.items none (c.loop-thread.invariant.rest unstopped)
