use Rattle.kernel.proofs.Words.{length, ap, arith, fields}
use Rattle.std.proofs.lemmas.Bool.Decides.{nat_tests}
use Rattle.kernel.proofs.Entries.{free_places, used_places}
use Rattle.kernel.proofs.step.has_free.Goals as goal

pub overflow_sub-result-2 : goal.overflow_sub-result-2
overflow_sub-result-2 c = omega (arith, used_places (fields c.args.s.now) c.requires, c.count-held.ensures, ap length c.entries.ensures.kept, c.limit.ensures.value)

pub returns : goal.returns
returns c = grind (arith, nat_tests, used_places (fields c.args.s.now) c.requires, free_places (fields c.args.s.now) c.args.needed c.requires, c.count-held.ensures, ap length c.entries.ensures.kept, c.limit.ensures.value)
