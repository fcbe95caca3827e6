use Rattle.std.proofs.Common.{◌≡◌, Some, arith}
use Rattle.notes.specs.Patches.{net_of}
use Rattle.shadow.proofs.claims.ReleasedClaims.{made_given, more_room_left, number_left}
use Rattle.shadow.proofs.stable.Stable.release_claims_of_inode.Goals as goal

pub unpromise-requires : goal.unpromise-requires
unpromise-requires c = more_room_left c.args.self.now c.loop-given.self c.args.num c.loop-given._given (net_of (Some c.args.change.now)) c.loop-given.invariant c.requires c.loop-given-test.true

pub give_back-requires : goal.give_back-requires
give_back-requires c =
    let low : c.loop-given._given ≡ c.args.change.now.promised = omega (arith, c.loop-given-test.false, c.loop-given.auto._given-end) in
    number_left c.args.self.now c.loop-given.self c.args.num c.loop-given._given (net_of (Some c.args.change.now)) c.loop-given.invariant c.requires c.in-Some.field-0 c.in-Some.is low

pub returns-in-Some-clause-kept : goal.returns-in-Some-clause-kept
returns-in-Some-clause-kept c =
    let low : c.loop-given._given ≡ c.args.change.now.promised = omega (arith, c.loop-given-test.false, c.loop-given.auto._given-end) in
    made_given c.args.self.now c.loop-given.self c.args.num c.loop-given._given (net_of (Some c.args.change.now)) c.loop-given.invariant c.requires c.give_back.new.self c.in-Some.field-0 c.in-Some.is low c.give_back.ensures.kept
