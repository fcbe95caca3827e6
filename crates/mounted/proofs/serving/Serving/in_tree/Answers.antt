use Rattle.std.proofs.Common.{refl, sym, ◌∙◌}
use Rattle.std.proofs.lemmas.Bool.{eq-eqb}
use Rattle.mount_requests.specs.Seen.{seen}
use Rattle.mounted.proofs.Viewing.{in_view, refuses, serves_plain, view_sound}
use Rattle.mounted.proofs.serving.Serving.in_tree.Goals as goal

pub returns-then-stepper-eq-PLAIN-clause-served : goal.returns-then-stepper-eq-PLAIN-clause-served
returns-then-stepper-eq-PLAIN-clause-served g c =
    serves_plain (seen c.args.self.now.tables) (seen c.in_plain.new.self.tables) c.args.caller c.args.operation c.in-Ok.stepper c.in_plain.result (sym c.in-Ok.is ∙ c.stepper_at.ensures) (eq-eqb c.in-Ok.stepper.view 0 c.if-stepper-eq-PLAIN.true) c.in_plain.ensures.serves c.reply_of.ensures

pub returns-else-stepper-eq-PLAIN-clause-sound : goal.returns-else-stepper-eq-PLAIN-clause-sound
returns-else-stepper-eq-PLAIN-clause-sound g c =
    view_sound (seen c.args.self.now.tables) (seen c.in_view.new.self.tables) c.args.caller c.args.operation c.in-Ok.stepper.view c.in-Ok.stepper.pid c.in_view.ensures.served c.in_view.ensures.stand

pub returns-else-stepper-eq-PLAIN-clause-in_view : goal.returns-else-stepper-eq-PLAIN-clause-in_view
returns-else-stepper-eq-PLAIN-clause-in_view g c = in_view (seen c.args.self.now.tables) c.args.caller.node c.in-Ok.stepper (sym c.in-Ok.is ∙ c.stepper_at.ensures) c.in_view.ensures.since

pub returns-in-Err-clause-served : goal.returns-in-Err-clause-served
returns-in-Err-clause-served g c = refuses (seen c.args.self.now.tables) (seen c.args.self.now.tables) c.args.caller c.args.operation (sym c.in-Err.is ∙ c.stepper_at.ensures) refl refl c.reply_of-in-Err.ensures
