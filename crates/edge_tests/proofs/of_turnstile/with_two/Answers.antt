use Rattle.edge_tests.proofs.of_turnstile.with_two.Goals as goal

pub returns-clause-one : goal.returns-clause-one
returns-clause-one g c = (c.in_ok-one.ensures c.args.turnstile c.requires).0

pub returns-clause-two : goal.returns-clause-two
returns-clause-two g c = (c.in_ok-one.ensures c.args.turnstile c.requires).1
