use Rattle.commit.specs.ProcessStates.{views}
use Rattle.commit.proofs.Claims.{covers_none}
use Rattle.commit.proofs.Showing.{first_views, none_changed}
use Rattle.commit.proofs.transactions.Transactions.new.Goals as goal

pub invariant_of-result : goal.invariant_of-result
invariant_of-result c = covers_none (views c.in_ok-slots.slots) c.in_ok-stable.stable c.in_ok-stable.ensures.kept (none_changed c.in_ok-slots.slots _ c.in_ok-slots.ensures.count c.in_ok-slots.ensures.first)

pub returns-clause-first : goal.returns-clause-first
returns-clause-first c = first_views c.in_ok-slots.slots _ c.in_ok-slots.ensures.first
