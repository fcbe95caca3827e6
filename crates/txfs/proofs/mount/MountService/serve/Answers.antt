use Rattle.std.proofs.Common.{subst}
use Rattle.mounted.specs.Server.{HasServed, Served}
use Rattle.txfs.proofs.mount.MountService.serve.Goals as goal

pub returns-clause-serves : goal.returns-clause-serves
returns-clause-serves g c =
    subst (λ (v : Served). HasServed v c.serve.new.self c.args.request c.serve.result) c.self.view_is record {
      now = c.args.now;
      kept = c.serve.ensures.kept;
      serial = c.serve.ensures.serial;
      grows = c.serve.ensures.grows;
      sound = c.serve.ensures.sound;
      in_view = c.serve.ensures.in_view;
      times = c.serve.ensures.times;
      served = c.serve.ensures.served;
    }
