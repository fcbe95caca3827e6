use Rattle.std.proofs.Common.{Some, subst}
use Rattle.shadow.specs.Claims.{inode_claim}
use Rattle.notes.specs.Patches.{net_of}
use Rattle.shadow.proofs.claims.ReleasedClaims.{GivesUp, gives_up_next, inode_at, inode_away, inode_here, no_inode_at}
use Rattle.shadow.proofs.stable.Stable.release_claims_of_inodes.Goals as goal

pub loop-num-preserved : goal.loop-num-preserved
loop-num-preserved c =
    let gives = subst (GivesUp inode_at c.args.self.now c.loop-num.self c.args.inodes) c.in-Some.ensures.steps c.loop-num.invariant in
    gives_up_next inode_at no_inode_at c.args.self.now c.loop-num.self c.args.inodes c.in-Some.num c.in-Some.change c.next.new.self gives c.release_claims_of_inode.new.self (inode_claim c.in-Some.num (net_of (Some c.in-Some.change)))
    c.release_claims_of_inode.ensures.state c.release_claims_of_inode.ensures.kept (inode_here c.in-Some.num c.in-Some.change) (inode_away c.in-Some.num c.in-Some.change)
