use Rattle.bench.proofs.lock.print_looks.Goals as goal

pub look_by-answered-requires-clause-low : goal.look_by-answered-requires-clause-low
look_by-answered-requires-clause-low g c κs within =
    c.in-Some-two_of.ensures.two c.args.turnstile.now (c.in-Some.ensures.rest c.args.turnstile.now c.requires)

pub look_by-answered-requires-clause-high : goal.look_by-answered-requires-clause-high
look_by-answered-requires-clause-high g c κs within = c.in-Some.ensures.two c.args.turnstile.now c.requires
