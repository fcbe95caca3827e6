use Rattle.freeing_laws.specs.Counts.{listed}
use Rattle.shadow.specs.Claims.{IsDirectory}
use Rattle.shadow.proofs.claims.Rooms.{all_stay, first_all, given_up, last_all, may_give_up, promised_both}
use Rattle.shadow.proofs.stable.Stable.promise_both.Goals as goal

pub promise_in-requires : goal.promise_in-requires
promise_in-requires c = first_all (IsDirectory c.args.self.now.reserves) (listed c.args.parents.0) (listed c.args.parents.1) c.requires

pub promise_in-requires-2 : goal.promise_in-requires-2
promise_in-requires-2 c = all_stay c.args.self.now c.promise_in.new.self c.in_ok-promise_in.ensures.stays (listed c.args.parents.1) (last_all (IsDirectory c.args.self.now.reserves) (listed c.args.parents.0) (listed c.args.parents.1) c.requires)

pub unpromise_in-requires : goal.unpromise_in-requires
unpromise_in-requires c = may_give_up c.args.self.now c.promise_in.new.self (listed c.args.parents.0) (listed c.args.parents.1) c.in_ok-promise_in.ensures.kept c.promise_in-2.new.self c.in-Err.ensures.err

pub returns-in-Ok-clause-kept : goal.returns-in-Ok-clause-kept
returns-in-Ok-clause-kept c = promised_both c.args.self.now c.promise_in.new.self (listed c.args.parents.0) (listed c.args.parents.1) c.in_ok-promise_in.ensures.kept c.promise_in-2.new.self c.in-Ok.ensures.kept

pub returns-in-Err-clause-err : goal.returns-in-Err-clause-err
returns-in-Err-clause-err c = given_up c.args.self.now c.promise_in.new.self (listed c.args.parents.0) (listed c.args.parents.1) c.in_ok-promise_in.ensures.kept c.promise_in-2.new.self c.unpromise_in.new.self c.in-Err.ensures.err c.unpromise_in.ensures.kept
