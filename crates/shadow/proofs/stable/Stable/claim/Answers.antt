use Rattle.std.proofs.Common.{◌++◌}
use Rattle.freeing_laws.specs.Counts.{listed}
use Rattle.shadow.proofs.claims.NewNumbers.{apart_from, may_still_release_claims, none_added, same_kept, unused_numbers}
use Rattle.shadow.proofs.claims.Rooms.{kept_rooms, parents_are}
use Rattle.shadow.proofs.stable.Stable.claim.Goals as goal

pub release_claims-requires : goal.release_claims-requires
release_claims-requires c = may_still_release_claims c.args.self.now c.claim_numbers.new.self c.promise_both.new.self c.args.edits.now c.in_ok-chosen.chosen c.as_slice.result.now c.in_ok-chosen.ensures.ok
    (none_added c.claim_numbers.new.self c.promise_both.new.self c.in_ok-chosen.chosen c.as_slice.result.now c.as_slice.ensures c.in-Err.ensures.err)

pub returns-in-Ok-clause-new : goal.returns-in-Ok-clause-new
returns-in-Ok-clause-new c = unused_numbers c.args.self.now c.claim_numbers.new.self c.args.edits.now c.in_ok-chosen.chosen c.in_ok-chosen.ensures.ok

pub returns-in-Ok-clause-apart : goal.returns-in-Ok-clause-apart
returns-in-Ok-clause-apart c = apart_from c.args.self.now c.claim_numbers.new.self c.args.edits.now c.in_ok-chosen.chosen c.requires.kinds c.requires.parents c.in_ok-chosen.ensures.ok

pub returns-in-Ok-clause-kept : goal.returns-in-Ok-clause-kept
returns-in-Ok-clause-kept c =
    kept_rooms c.args.self.now c.claim_numbers.new.self c.promise_both.new.self c.args.edits.now c.in_ok-chosen.chosen (listed c.parents_of.result.0 ++ listed c.parents_of.result.1) c.parents_of.ensures c.in_ok-chosen.ensures.ok c.in-Ok.ensures.kept

pub promise_both-requires : goal.promise_both-requires
promise_both-requires c =
    parents_are c.args.self.now c.claim_numbers.new.self c.args.edits.now (listed c.parents_of.result.0 ++ listed c.parents_of.result.1) c.in_ok-chosen.ensures.ok.stays c.parents_of.ensures c.requires.parents

pub returns-in-Err-clause-err : goal.returns-in-Err-clause-err
returns-in-Err-clause-err c = same_kept c.args.self.now c.claim_numbers.new.self c.promise_both.new.self c.args.edits.now c.in_ok-chosen.chosen c.as_slice.result.now c.in_ok-chosen.ensures.ok
    (none_added c.claim_numbers.new.self c.promise_both.new.self c.in_ok-chosen.chosen c.as_slice.result.now c.as_slice.ensures c.in-Err.ensures.err)
    c.release_claims.new.self c.release_claims.ensures.kept
