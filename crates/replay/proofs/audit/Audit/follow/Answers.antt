use Rattle.std.proofs.Common.{◌≡◌, ◌+◌, get_or, sym, ap, subst, arith, ◌∙◌}
use Rattle.model.specs.FiniteMap.{get}
use Rattle.replay.specs.Windows.{CanSeeEach}
use Rattle.replay.proofs.Following.{follows_entry, holds_entry}
use Rattle.replay.proofs.Seen.{part_read, part_within, sees_next}
use Rattle.replay.proofs.Stopping.{fails_stopped, fails_unsuited, match_none, match_position}
use Rattle.replay.proofs.audit.Audit.follow.Goals as goal

pub run-requires : goal.run-requires
run-requires g c =
    let w = c.args.window.now in
    let shows = c.requires.1.1.1.0 in (
      c.requires.1.1.0,
      (
        shows,
        (
          subst (CanSeeEach w) (sym (c.get-kept.ensures ∙ ap (get c.args.self.now.transactions) c.key_of.ensures)) (c.requires.1.1.1.1 _),
          (
            part_within g.es w.part.now w.offset c.args.index shows.part shows.within c.requires.0 c.args.position c.requires.1.0,
            part_read g.es w.part.now w.offset c.args.index c.args.position _ shows.part c.requires.0 c.requires.1.0,
          ),
        ),
      ),
    )

pub returns-in_ok-keep_all-in-None-clause-follows : goal.returns-in_ok-keep_all-in-None-clause-follows
returns-in_ok-keep_all-in-None-clause-follows g c = λ root setup f.
    let w = c.args.window.now in
    let shows = c.requires.1.1.1.0 in
    follows_entry root setup g.es c.args.position _ _ _ _ _ _ _
    (part_within g.es w.part.now w.offset c.args.index shows.part shows.within c.requires.0 c.args.position c.requires.1.0)
    (part_read g.es w.part.now w.offset c.args.index c.args.position _ shows.part c.requires.0 c.requires.1.0) c.is_living-living.ensures
    (c.get-kept.ensures ∙ ap (get c.args.self.now.transactions) c.key_of.ensures) (sym c.suits.ensures ∙ c.if-not-suits.false) (match_none _ _ c.in_ok-wrong.wrong c.in-None.is c.in_ok-wrong.ensures) c.in_ok-keep_all-in-None.ensures f

pub returns-in_ok-keep_all-in-None-clause-sees : goal.returns-in_ok-keep_all-in-None-clause-sees
returns-in_ok-keep_all-in-None-clause-sees g c =
    let position : c.args.position ≡ c.args.window.now.offset + c.args.index = c.requires.1.0 in
    sees_next c.args.window.now c.args.position (omega (arith, position)) (get_or c.args.window.now.part.now c.args.index c.index-window-index.result) c.args.self.now.transactions c.keep_all.new.transactions c.requires.1.1.1.1 c.in_ok-keep_all-in-None.ensures

pub returns-then-not-suits-clause-follows : goal.returns-then-not-suits-clause-follows
returns-then-not-suits-clause-follows g c = λ root setup f.
    let w = c.args.window.now in
    let shows = c.requires.1.1.1.0 in
    fails_unsuited root setup g.es c.args.position _ _ _ _ _
    (part_within g.es w.part.now w.offset c.args.index shows.part shows.within c.requires.0 c.args.position c.requires.1.0)
    (part_read g.es w.part.now w.offset c.args.index c.args.position _ shows.part c.requires.0 c.requires.1.0) c.is_living-living.ensures
    (c.get-kept.ensures ∙ ap (get c.args.self.now.transactions) c.key_of.ensures) (sym c.suits.ensures ∙ c.if-not-suits.true) f

pub returns-in-Some-clause-follows : goal.returns-in-Some-clause-follows
returns-in-Some-clause-follows g c = λ root setup f.
    let w = c.args.window.now in
    let shows = c.requires.1.1.1.0 in
    fails_stopped root setup g.es c.args.position _ _ _ _ _
    (part_within g.es w.part.now w.offset c.args.index shows.part shows.within c.requires.0 c.args.position c.requires.1.0)
    (part_read g.es w.part.now w.offset c.args.index c.args.position _ shows.part c.requires.0 c.requires.1.0) c.is_living-living.ensures
    (c.get-kept.ensures ∙ ap (get c.args.self.now.transactions) c.key_of.ensures) (sym c.suits.ensures ∙ c.if-not-suits.false) c.in-Some.call (match_position _ _ c.in_ok-wrong.wrong c.in-Some.call c.in-Some.is c.in_ok-wrong.ensures) f

pub returns-in_ok-keep_all-in-None-clause-tidied : goal.returns-in_ok-keep_all-in-None-clause-tidied
returns-in_ok-keep_all-in-None-clause-tidied g c =
    let w = c.args.window.now in
    let shows = c.requires.1.1.1.0 in
    let e = get_or w.part.now c.args.index c.index-window-index.result in
    (match_none _ _ c.in_ok-wrong.wrong c.in-None.is c.in_ok-wrong.ensures e (holds_entry g.es c.args.position e
    (part_within g.es w.part.now w.offset c.args.index shows.part shows.within c.requires.0 c.args.position c.requires.1.0)
    (part_read g.es w.part.now w.offset c.args.index c.args.position c.index-window-index.result shows.part c.requires.0 c.requires.1.0))).tidied
