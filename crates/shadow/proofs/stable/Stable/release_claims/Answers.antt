use Rattle.std.proofs.Common.{◌≡◌, ◌+◌, ◌∷◌, ◌++◌, [], List, ℕ, sym, ap, subst, ◌∙◌, drop}
use Rattle.std.proofs.lemmas.List.{drop_more}
use Rattle.freeing_laws.specs.Counts.{listed}
use Rattle.shadow.specs.Committed.{Committed}
use Rattle.shadow.proofs.claims.NewNumbers.{drop_all}
use Rattle.shadow.proofs.claims.ReleasedClaims.{GivesNumbers, first_coming, gives_all, gives_next}
use Rattle.shadow.proofs.claims.Rooms.{first_left, given_with_rooms, last_left}
use Rattle.shadow.proofs.stable.Stable.release_claims.Goals as goal

pub loop-num-init : goal.loop-num-init
loop-num-init c = gives_all c.args.self.now c.args.chosen.now (listed c.args.parents.0 ++ listed c.args.parents.1)

pub give_back-requires : goal.give_back-requires
give_back-requires c =
    let ps = listed c.args.parents.0 ++ listed c.args.parents.1 in
    let xs = c.args.chosen.now in let i = c.loop-num.num-index in let n = c.num-item.result in
    first_coming c.args.self.now c.loop-num.self xs ps n (drop (i + 1) xs)
    (subst (GivesNumbers c.args.self.now c.loop-num.self xs ps) (drop_more _ _ n c.loop-num-test.true ∙ ap (λ x. x ∷ drop (i + 1) xs) (sym c.num-item.is)) c.loop-num.invariant) c.requires

pub loop-num-preserved : goal.loop-num-preserved
loop-num-preserved c =
    let ps = listed c.args.parents.0 ++ listed c.args.parents.1 in
    let xs = c.args.chosen.now in let i = c.loop-num.num-index in let n = c.num-item.result in
    gives_next c.args.self.now c.loop-num.self xs ps n (drop (i + 1) xs)
    (subst (GivesNumbers c.args.self.now c.loop-num.self xs ps) (drop_more _ _ n c.loop-num-test.true ∙ ap (λ x. x ∷ drop (i + 1) xs) (sym c.num-item.is)) c.loop-num.invariant)
    c.give_back.new.self c.give_back.ensures.state c.give_back.ensures.kept

ended : (start now : Committed) (xs ps : List ℕ) (i : ℕ) → drop i xs ≡ [] → GivesNumbers start now xs ps (drop i xs) → GivesNumbers start now xs ps []
ended start now xs ps i none gives = subst (GivesNumbers start now xs ps) none gives

pub unpromise_in-requires : goal.unpromise_in-requires
unpromise_in-requires c =
    let ps = listed c.args.parents.0 in let qs = listed c.args.parents.1 in
    let xs = c.args.chosen.now in let i = c.loop-num.num-index in
    first_left c.args.self.now c.loop-num.self xs ps qs (ended c.args.self.now c.loop-num.self xs (ps ++ qs) i (drop_all xs i c.loop-num-test.false) c.loop-num.invariant) c.requires

pub unpromise_in-requires-2 : goal.unpromise_in-requires-2
unpromise_in-requires-2 c =
    let ps = listed c.args.parents.0 in let qs = listed c.args.parents.1 in
    let xs = c.args.chosen.now in let i = c.loop-num.num-index in
    last_left c.args.self.now c.loop-num.self xs ps qs (ended c.args.self.now c.loop-num.self xs (ps ++ qs) i (drop_all xs i c.loop-num-test.false) c.loop-num.invariant)
    c.unpromise_in.new.self c.unpromise_in.ensures.kept c.requires

pub returns-clause-kept : goal.returns-clause-kept
returns-clause-kept c =
    let ps = listed c.args.parents.0 in let qs = listed c.args.parents.1 in
    let xs = c.args.chosen.now in let i = c.loop-num.num-index in
    given_with_rooms c.args.self.now c.loop-num.self xs ps qs (ended c.args.self.now c.loop-num.self xs (ps ++ qs) i (drop_all xs i c.loop-num-test.false) c.loop-num.invariant)
    c.unpromise_in.new.self c.unpromise_in.ensures.kept c.unpromise_in-2.new.self c.unpromise_in-2.ensures.kept
