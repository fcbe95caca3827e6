use Rattle.std.proofs.Common.{ap}
use Rattle.course.specs.Hands.{Held}
use Rattle.mount_requests.specs.Seen.{seen}
use Rattle.mounted.proofs.Asking.{asks_keep, begins, serves_other}
use Rattle.mounted.proofs.Staying.{keeps_sound, stand_is}
use Rattle.mounted.proofs.Stepping.{grown_is}
use Rattle.mounted.proofs.serving.Serving.in_transactions.Goals as goal

pub returns-in-MkDir-clause-serves : goal.returns-in-MkDir-clause-serves
returns-in-MkDir-clause-serves g c = begins (seen c.args.self.now.tables) (seen c.begin_transaction.new.self.tables) c.begin_transaction.result c.in-MkDir.is c.begin_transaction.ensures.begins

pub returns-in_default : goal.returns-in_default
returns-in_default g c =
    let same = ap (λ (h : Held). h.shown) c.about_transactions.ensures.hand in record {
      serves = serves_other (seen c.args.self.now.tables) (seen c.about_transactions.new.self.tables) c.args.operation _ _ c.about_transactions.result c.in_default.not-Lookup c.in_default.not-MkDir c.in_default.not-RmDir c.about_transactions.ensures.seen same;
      stand = stand_is same;
      grows = grown_is same;
      sound = keeps_sound (asks_keep (seen c.args.self.now.tables) (seen c.about_transactions.new.self.tables) c.args.operation c.about_transactions.result c.about_transactions.ensures.seen) (stand_is same);
    }
