use Rattle.std.proofs.Common.{ap, refl}
use Rattle.std.specs.Prelude.{Ok}
use Rattle.course.specs.Hands.{Held}
use Rattle.mount_requests.specs.Seen.{seen}
use Rattle.mounted.proofs.Asking.{controls_other}
use Rattle.mounted.proofs.Staying.{sound_same, stand_is}
use Rattle.mounted.proofs.Stepping.{grown_is}
use Rattle.mounted.proofs.serving.Serving.in_control.Goals as goal

pub returns-in_default : goal.returns-in_default
returns-in_default g c =
    let same = ap (λ (h : Held). h.shown) c.about_control.ensures.hand in record {
      serves = record {
        outcome = Ok c.about_control.result;
        served = controls_other (seen c.args.self.now.tables) (seen c.about_control.new.self.tables) c.args.view c.args.operation _ _ (Ok c.about_control.result) c.in_default.not-Read c.in_default.not-Write same c.about_control.ensures.seen;
        is = refl;
      };
      stand = stand_is same;
      grows = grown_is same;
      sound = sound_same c.about_control.ensures.seen (stand_is same);
    }
