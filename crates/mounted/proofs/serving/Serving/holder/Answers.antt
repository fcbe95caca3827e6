use Rattle.std.proofs.Common.{◌∙◌}
use Rattle.mount_requests.specs.Seen.{seen}
use Rattle.mounted.proofs.Choosing.{free_holder_is, same_roles}
use Rattle.mounted.proofs.Staying.{roles_from, stays_by_roles}
use Rattle.mounted.proofs.serving.Serving.holder.Goals as goal

pub returns-in-Some-clause-ready : goal.returns-in-Some-clause-ready
returns-in-Some-clause-ready g c =
    free_holder_is (seen c.args.self.now.tables) c.in-Some.pid c.most_descriptors-most.ensures c.free_holder.ensures.found c.in-Some.is c.in_ok-reserve.ensures.roles (same_roles (seen c.args.self.now.tables) (c.free_holder.ensures.roles ∙ c.in_ok-reserve.ensures.roles))

pub returns-in-None-clause-sound : goal.returns-in-None-clause-sound
returns-in-None-clause-sound g c =
    stays_by_roles (roles_from (c.free_holder.ensures.roles ∙ c.in_ok-reserve.ensures.roles) c.make_process.ensures.sound) c.make_process.ensures.rest
