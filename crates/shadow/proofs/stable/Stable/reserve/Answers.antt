use Rattle.std.proofs.Common.{◌≡◌, ◌+◌, ◌<◌, is_some, arith}
use Rattle.store.specs.Places.{listing_of}
use Rattle.shadow.specs.Claims.{new_number, number_as, reserved}
use Rattle.shadow.proofs.claims.ClaimCounts.{number_counts}
use Rattle.shadow.proofs.stable.Stable.reserve.Goals as goal

pub give_back-requires : goal.give_back-requires
give_back-requires c =
    let n = c.in_ok-num.num in
    let b = is_some (listing_of c.args.object) in
    let is : reserved c.reserve_num.new.self (new_number (is_some (listing_of c.args.object)) n) ≡ reserved c.args.self.now (new_number (is_some (listing_of c.args.object)) n) + number_as (is_some (listing_of c.args.object)) n (new_number (is_some (listing_of c.args.object)) n) = c.in_ok-num.ensures.kept (new_number b n) in
    let one : number_as (is_some (listing_of c.args.object)) n (new_number (is_some (listing_of c.args.object)) n) ≡ 1 = number_counts b n in
    let some : 0 < reserved c.reserve_num.new.self (new_number (is_some (listing_of c.args.object)) n) = omega arith in
    (b, some)

pub returns-in-Err-clause-same : goal.returns-in-Err-clause-same
returns-in-Err-clause-same c = λ claim.
    let n = c.in_ok-num.num in
    let b = is_some (listing_of c.args.object) in
    let is : reserved c.reserve_num.new.self (new_number (is_some (listing_of c.args.object)) n) ≡ reserved c.args.self.now (new_number (is_some (listing_of c.args.object)) n) + number_as (is_some (listing_of c.args.object)) n (new_number (is_some (listing_of c.args.object)) n) = c.in_ok-num.ensures.kept (new_number b n) in
    let one : number_as (is_some (listing_of c.args.object)) n (new_number (is_some (listing_of c.args.object)) n) ≡ 1 = number_counts b n in
    let some : 0 < reserved c.reserve_num.new.self (new_number (is_some (listing_of c.args.object)) n) = omega arith in
    let more : reserved c.reserve_num.new.self claim ≡ reserved c.args.self.now claim + number_as (is_some (listing_of c.args.object)) n claim = c.in_ok-num.ensures.kept claim in
    let less : reserved c.reserve_num.new.self claim ≡ reserved c.give_back.new.self claim + number_as (is_some (listing_of c.args.object)) n claim = c.give_back.ensures.kept b some claim in
    omega arith

pub returns-in-Ok-clause-ok : goal.returns-in-Ok-clause-ok
returns-in-Ok-clause-ok c = record {
  num = c.in_ok-num.num;
  list = c.in-Ok.ensures.ok;
  unused = c.in_ok-num.ensures.unused;
  nowhere = c.in_ok-num.ensures.nowhere;
  used = c.in_ok-num.ensures.used;
  kept = c.in_ok-num.ensures.kept;
  stays = c.in_ok-num.ensures.stays;
}
