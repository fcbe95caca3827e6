use Rattle.std.proofs.Common.{Result, Ok, Err, sym, subst}
use Rattle.std.specs.Result.{OnOk, OnErr}
use Rattle.store.specs.Places.{altered, more_room, with_listing}
use Rattle.shadow.specs.Claims.{KeepsMore, Stays, room_in}
use Rattle.shadow.specs.Stored.{Sound, committed_of}
use Rattle.shadow.proofs.claims.ClaimCounts.{gives_one}
use Rattle.shadow.proofs.claims.Reservations.{promised_sound}
use Rattle.shadow.proofs.claims.Rooms.{stays_promised}
use Rattle.shadow.proofs.shared.CommittedLemmas.{listed_in, more_of}
use Rattle.shadow.proofs.stable.Stable.promise.Goals as goal

on_ok_by : {X E P Q : Type 0} (r : Result X E) → (P → Q) → OnOk r P → OnOk r Q
on_ok_by (Ok x) f h = f h
on_ok_by (Err e) f h = tt

either_way : {X E P Q R : Type 0} (r : Result X E) → (P → R) → (Q → R) → OnOk r P → OnErr r Q → R
either_way (Ok x) f g h k = f h
either_way (Err e) f g h k = g k

pub invariant_of-self : goal.invariant_of-self
invariant_of-self c =
    let ps = c.self.inside.processes in let s = c.self.inside.store in
    either_way c.promise.result (λ e. promised_sound ps s c.promise.new.self c.args.dir c.self.invariant e c.promise.ensures.shown c.promise.ensures.open) (λ e. subst (Sound ps) (sym e) c.self.invariant) c.promise.ensures.ok c.promise.ensures.err

pub returns-clause-kept : goal.returns-clause-kept
returns-clause-kept c =
    let ps = c.self.inside.processes in let s = c.self.inside.store in
    on_ok_by c.promise.result (λ e. subst (λ t. KeepsMore c.args.self.now (committed_of ps t) (room_in c.args.dir)) (sym e)
    (more_of ps s c.args.self.now c.self.view_is (altered (with_listing more_room) s c.args.dir) (room_in c.args.dir)
    (gives_one s c.args.dir (listed_in ps s c.args.self.now c.self.view_is c.args.dir c.requires)))) c.promise.ensures.ok

pub returns-clause-stays : goal.returns-clause-stays
returns-clause-stays c =
    let ps = c.self.inside.processes in let s = c.self.inside.store in
    on_ok_by c.promise.result (λ e. subst (λ t. Stays c.args.self.now (committed_of ps t)) (sym e)
    (stays_promised ps s c.args.self.now c.self.view_is c.args.dir)) c.promise.ensures.ok
