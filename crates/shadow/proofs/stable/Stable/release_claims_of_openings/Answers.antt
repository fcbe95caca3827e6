use Rattle.std.proofs.Common.{false, subst, ap}
use Rattle.notes.specs.Patches.{is_new}
use Rattle.shadow.proofs.claims.ReleasedClaims.{GivesUp, opened_at}
use Rattle.shadow.proofs.claims.ReleasedDescriptions.{gives_new, gives_none, number_kept}
use Rattle.shadow.proofs.stable.Stable.release_claims_of_openings.Goals as goal

pub give_back-requires : goal.give_back-requires
give_back-requires c =
    let gives = subst (GivesUp opened_at c.args.self.now c.loop-num.self c.args.openings) c.in-Some.ensures.steps c.loop-num.invariant in
    (false, number_kept c.args.self.now c.loop-num.self c.args.openings c.in-Some.num c.in-Some.opening c.next.new.self gives (ap is_new c.in-New.is) c.requires)

pub loop-num-preserved-in-New : goal.loop-num-preserved-in-New
loop-num-preserved-in-New c =
    let gives = subst (GivesUp opened_at c.args.self.now c.loop-num.self c.args.openings) c.in-Some.ensures.steps c.loop-num.invariant in
    gives_new c.args.self.now c.loop-num.self c.args.openings c.in-Some.num c.in-Some.opening c.next.new.self gives c.give_back.new.self (ap is_new c.in-New.is) c.give_back.ensures.state
    (c.give_back.ensures.kept false (number_kept c.args.self.now c.loop-num.self c.args.openings c.in-Some.num c.in-Some.opening c.next.new.self gives (ap is_new c.in-New.is) c.requires))

pub loop-num-preserved-in-Kept : goal.loop-num-preserved-in-Kept
loop-num-preserved-in-Kept c =
    let gives = subst (GivesUp opened_at c.args.self.now c.loop-num.self c.args.openings) c.in-Some.ensures.steps c.loop-num.invariant in
    gives_none c.args.self.now c.loop-num.self c.args.openings c.in-Some.num c.in-Some.opening c.next.new.self gives (ap is_new c.in-Kept.is)

pub loop-num-preserved : goal.loop-num-preserved
loop-num-preserved c =
    let gives = subst (GivesUp opened_at c.args.self.now c.loop-num.self c.args.openings) c.in-Some.ensures.steps c.loop-num.invariant in
    gives_none c.args.self.now c.loop-num.self c.args.openings c.in-Some.num c.in-Some.opening c.next.new.self gives (ap is_new c.in-Moved.is)
