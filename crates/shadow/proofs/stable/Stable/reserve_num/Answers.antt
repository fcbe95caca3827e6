use Rattle.std.proofs.Common.{sym, subst, ap, ◌∙◌, is_some}
use Rattle.std.specs.Option.{option_and_then}
use Rattle.model.specs.FiniteMap.{get}
use Rattle.model.specs.Steps.{IsNowhere}
use Rattle.store.specs.Numbers.{coming}
use Rattle.store.specs.Places.{listing_of}
use Rattle.shadow.specs.Committed.{Committed}
use Rattle.shadow.specs.Claims.{KeepsMore, Stays, number_as}
use Rattle.shadow.specs.Stored.{committed_of, reserve_in}
use Rattle.shadow.proofs.claims.ClaimCounts.{reserves, with_place}
use Rattle.shadow.proofs.shared.PlaceLemmas.{get_chosen}
use Rattle.shadow.proofs.claims.Reservations.{bare_names, reserved_sound, unused_nowhere}
use Rattle.shadow.proofs.shared.CommittedLemmas.{more_of, now_used, stays_with}
use Rattle.shadow.proofs.stable.Stable.reserve_num.Goals as goal

pub reserve_num-requires : goal.reserve_num-requires
reserve_num-requires c = bare_names c.args.object c.requires

pub invariant_of-self-2 : goal.invariant_of-self-2
invariant_of-self-2 c =
    reserved_sound c.self.inside.processes c.self.inside.store c.reserve_num.new.self c.in_ok-num.num c.args.object c.self.invariant c.requires c.in_ok-num.ensures.reserved c.in_ok-num.ensures.shown c.in_ok-num.ensures.open

pub returns-clause-unused : goal.returns-clause-unused
returns-clause-unused c =
    let n = c.in_ok-num.num in
    ap (λ (v : Committed). get v.reserves n) (sym c.self.view_is) ∙ get_chosen reserve_in c.self.inside.store.places n ∙ ap (option_and_then reserve_in) c.in_ok-num.ensures.unused

pub returns-clause-nowhere : goal.returns-clause-nowhere
returns-clause-nowhere c =
    subst (λ (v : Committed). IsNowhere v.state c.in_ok-num.num) c.self.view_is
    (unused_nowhere c.unused_numbers_are_nowhere.ensures c.self.inside.processes c.self.inside.store c.in_ok-num.num c.self.invariant c.in_ok-num.ensures.unused)

pub returns-clause-kept : goal.returns-clause-kept
returns-clause-kept c =
    let ps = c.self.inside.processes in let s = c.self.inside.store in let n = c.in_ok-num.num in
    subst (λ t. KeepsMore c.args.self.now (committed_of ps t) (number_as (is_some (listing_of c.args.object)) n)) (sym c.in_ok-num.ensures.reserved)
    (more_of ps s c.args.self.now c.self.view_is (with_place s n (coming c.args.object)) (number_as (is_some (listing_of c.args.object)) n) (reserves s n c.args.object c.in_ok-num.ensures.unused c.requires))

pub returns-clause-used : goal.returns-clause-used
returns-clause-used c = now_used c.self.inside.processes c.reserve_num.new.self c.in_ok-num.num (coming c.args.object) c.in_ok-num.ensures.ready

pub returns-clause-stays : goal.returns-clause-stays
returns-clause-stays c =
    let ps = c.self.inside.processes in let s = c.self.inside.store in let n = c.in_ok-num.num in
    subst (λ t. Stays c.args.self.now (committed_of ps t)) (sym c.in_ok-num.ensures.reserved) (stays_with ps s c.args.self.now c.self.view_is n c.args.object c.in_ok-num.ensures.unused)
