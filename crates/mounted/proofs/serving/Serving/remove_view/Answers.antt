use Rattle.std.proofs.Common.{ap}
use Rattle.mount_requests.specs.Seen.{seen}
use Rattle.mount_requests.specs.declared.tables.Tables.{Tables}
use Rattle.mounted.proofs.Leaving.{given_up_then, not_given_up}
use Rattle.mounted.proofs.serving.Serving.remove_view.Goals as goal

pub returns-in_err-give_up_by-in-Live-clause-leaves : goal.returns-in_err-give_up_by-in-Live-clause-leaves
returns-in_err-give_up_by-in-Live-clause-leaves g c =
    not_given_up (seen c.args.self.now.tables) (seen c.give_up_by.new.self.tables) c.args.name.now c.args.leaving c.args.leaving.standing c.in-Live.is c.give_up_by.ensures.gave _ c.in_err-give_up_by-in-Live.was c.from_residual.ensures.1 (ap (λ (t : Tables). seen t) c.give_up_by.ensures.tables)

pub returns-in_ok-give_up_by-in-Live-clause-leaves : goal.returns-in_ok-give_up_by-in-Live-clause-leaves
returns-in_ok-give_up_by-in-Live-clause-leaves g c =
    given_up_then (seen c.args.self.now.tables) (seen c.drop_view.new.self.tables) c.args.name.now c.args.leaving c.args.leaving.standing c.in-Live.is c.give_up_by.ensures.gave (seen c.give_up_by.new.self.tables) c.drop_view.result c.in_ok-give_up_by-in-Live.was (ap (λ (t : Tables). seen t) c.give_up_by.ensures.tables) c.drop_view.ensures.left
