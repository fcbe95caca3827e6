use Rattle.std.proofs.Common.{true, false, ap, ◌∙◌}
use Rattle.model.specs.FiniteMap as map
use Rattle.mount_tables.specs.Rows.{replaced}
use Rattle.mount_tables.specs.Views.{unnamed}
use Rattle.mount_tables.specs.declared.processes.Role.TheVariants.{Idle}
use Rattle.mount_requests.specs.Seen.{Seen, seen}
use Rattle.mounted.proofs.Leaving.{view_removed}
use Rattle.mounted.proofs.Stepping.{stands_since}
use Rattle.mounted.proofs.serving.Serving.drop_view.Goals as goal
use Rattle.mounted.proofs.serving.Serving.drop_view.Goals.{then-is_closed, else-is_closed}

pub returns-clause-sound : goal.returns-clause-sound
returns-clause-sound g c =
    let rest = c.close_all-is_closed.ensures.rest in
    let views = c.remove-number.ensures.each ∙ ap (λ (z : Seen). unnamed (map.get z.names c.args.name.now) z.views) rest in
    let next = c.remove-number.ensures.next ∙ ap (λ (z : Seen). z.next_view) rest in
    let stand = stands_since c.close_all-is_closed.ensures.bound c.bind.ensures.since c.history-history.ensures.stand in
    elim c.if-is_closed.branch [
      | then-is_closed w ↦ rw w.self-is (view_removed (seen c.args.self.now.tables) _ c.args.name.now c.args.leaving true c.requires.found views next (w.assign.ensures.roles ∙ ap (λ (z : Seen). replaced c.args.leaving.pid (Idle c.args.leaving.level) (map.get z.roles c.args.leaving.pid) z.roles) rest) stand)
      | else-is_closed w ↦ rw w.self-is (view_removed (seen c.args.self.now.tables) _ c.args.name.now c.args.leaving false c.requires.found views next (ap (λ (z : Seen). z.roles) rest) stand)
    ]
