use Rattle.std.proofs.Common.{Option, sym, ap, subst, ◌∙◌}
use Rattle.std.specs.Option.{option_and_then}
use Rattle.store.specs.Numbers.{held}
use Rattle.store.specs.Places.{IsRoomy, passed, pipe_of, with_pipe}
use Rattle.store.specs.Shown.{descriptions, inodes}
use Rattle.store.specs.declared.Place.{Place}
use Rattle.store.proofs.Counted.{counted-altered, kept-pipe}
use Rattle.store.proofs.Rows.{slot, store-altered}
use Rattle.store.proofs.Changes.{descriptions-piped, inodes-passed}
use Rattle.store.proofs.Store.change_pipe.Goals as goal

pub change_pipe_at-requires : goal.change_pipe_at-requires
change_pipe_at-requires c = subst (λ (o : Option Place). IsRoomy c.args.taken c.args.appended.now (option_and_then pipe_of (held o))) (sym (slot _ c.self.inside.headers _ c.self.view_is _ _ c.num.view_is)) c.requires

pub invariant_of-self : goal.invariant_of-self
invariant_of-self c = counted-altered (with_pipe (passed c.args.taken c.args.appended.now)) _ _ _ c.self.invariant c.change_pipe_at.ensures (λ header _. kept-pipe (passed c.args.taken c.args.appended.now) header)

pub returns-clause-changed : goal.returns-clause-changed
returns-clause-changed c = store-altered _ _ _ _ c.self.view_is _ _ c.num.view_is (with_pipe (passed c.args.taken c.args.appended.now)) c.change_pipe_at.ensures

pub returns-clause-shown : goal.returns-clause-shown
returns-clause-shown c = ap inodes (returns-clause-changed c) ∙ inodes-passed c.args.taken c.args.appended.now c.args.self.now c.args.num c.requires

pub returns-clause-open : goal.returns-clause-open
returns-clause-open c = ap descriptions (returns-clause-changed c) ∙ descriptions-piped (passed c.args.taken c.args.appended.now) c.args.self.now c.args.num
