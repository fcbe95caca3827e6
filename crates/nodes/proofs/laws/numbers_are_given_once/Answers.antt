use Rattle.nodes.proofs.Numbers.{numbers_are_given_once}
use Rattle.nodes.proofs.laws.numbers_are_given_once.Goals as goal

pub returns : goal.returns
returns c = numbers_are_given_once
