use Rattle.std.proofs.Common.{subst}
use Rattle.std.specs.Prelude.{IfOk, IfSome}
use Rattle.shadow.specs.Laid.{FitsRoom}
use Rattle.notes.proofs.Laws.{ok_so}
use Rattle.shadow.proofs.claims.CallClaims.{both_kept, both_made, first_covers, last_covers}
use Rattle.shadow.proofs.claims.CallClaims.{last_fits, last_is}
use Rattle.shadow.proofs.stable.Stable.perform_two.Goals as goal

pub room_for-requires : goal.room_for-requires
room_for-requires c =
    let last = last_is c.args.self.now c.args.chosen.now c.args.first c.args.last.now
    c.requires.kinds c.requires.count c.requires.fits c.requires.covers in
    (last.0, last.1)

pub perform_last-requires-clause-room : goal.perform_last-requires-clause-room
perform_last-requires-clause-room c =
    subst (λ r. IfOk r (λ room. IfSome room (FitsRoom c.args.last.now))) c.in-Ok.is
    c.room_for.ensures.fits

pub perform_first-requires-clause-covers : goal.perform_first-requires-clause-covers
perform_first-requires-clause-covers c =
    first_covers c.args.self.now c.args.chosen.now c.args.first c.args.last.now
    c.requires.kinds c.requires.count c.requires.fits c.requires.covers

pub perform_last-requires-clause-last : goal.perform_last-requires-clause-last
perform_last-requires-clause-last c =
    last_is c.args.self.now c.args.chosen.now c.args.first c.args.last.now
    c.requires.kinds c.requires.count c.requires.fits c.requires.covers

pub perform_last-requires-clause-fits : goal.perform_last-requires-clause-fits
perform_last-requires-clause-fits c =
    last_fits c.args.self.now c.args.chosen.now c.args.first c.args.last.now
    c.requires.kinds c.requires.count c.requires.fits c.requires.covers
    c.perform_first.new.self c.state_is_tidied.ensures
    c.in_ok-perform_first-in-Ok.ensures.state c.in_ok-perform_first-in-Ok.ensures.kept

pub perform_last-requires-clause-covers : goal.perform_last-requires-clause-covers
perform_last-requires-clause-covers c =
    last_covers c.args.self.now c.args.chosen.now c.args.first c.args.last.now
    c.requires.kinds c.requires.count c.requires.fits c.requires.covers
    c.perform_first.new.self c.state_is_tidied.ensures
    c.in_ok-perform_first-in-Ok.ensures.state c.in_ok-perform_first-in-Ok.ensures.kept

pub returns-in_ok-perform_first-in-Ok-clause-state : goal.returns-in_ok-perform_first-in-Ok-clause-state
returns-in_ok-perform_first-in-Ok-clause-state c = ok_so c.perform_last.result (λ made.
    both_made c.args.self.now c.args.chosen.now c.args.first c.args.last.now
    c.requires.kinds c.requires.count c.requires.fits c.requires.covers
    c.perform_first.new.self c.state_is_tidied.ensures
    c.in_ok-perform_first-in-Ok.ensures.state c.in_ok-perform_first-in-Ok.ensures.kept
    c.perform_last.new.self made) c.perform_last.ensures.state

pub returns-in_ok-perform_first-in-Ok-clause-kept : goal.returns-in_ok-perform_first-in-Ok-clause-kept
returns-in_ok-perform_first-in-Ok-clause-kept c = ok_so c.perform_last.result (λ kept.
    both_kept c.args.self.now c.args.chosen.now c.args.first c.args.last.now
    c.requires.kinds c.requires.count c.requires.fits c.requires.covers
    c.perform_first.new.self c.state_is_tidied.ensures
    c.in_ok-perform_first-in-Ok.ensures.state c.in_ok-perform_first-in-Ok.ensures.kept
    c.perform_last.new.self kept) c.perform_last.ensures.kept
