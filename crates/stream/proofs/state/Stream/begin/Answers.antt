use Rattle.std.proofs.Common.{refl}
use Rattle.stream.proofs.state.Stream.begin.Goals as goal

pub returns-in-Ok-clause-ok : goal.returns-in-Ok-clause-ok
returns-in-Ok-clause-ok g c = record {
  kernel = c.in-Ok.kernel;
  made = refl;
  kept = c.in-Ok.ensures.kept;
  log = c.in-Ok.ensures.log;
  follower = c.in_ok-follower.ensures;
  same = record { line = refl; number = refl; good = refl };
}
