use Rattle.std.proofs.Common.{◌≤◌, ◌+◌, [], arith, length, sym, subst, refl}
use Rattle.ids.specs.declared.limits.TheConstants.{PIPE_CAPACITY}
use Rattle.model.specs.FiniteMap.{get}
use Rattle.model.specs.State.{pipe_of_inode}
use Rattle.model.specs.Changes.{Append}
use Rattle.call_laws.specs.Fits.{Fits}
use Rattle.store.specs.Shown.{inodes}
use Rattle.shadow.specs.Committed.{Committed}
use Rattle.shadow.specs.Stored.{state_of}
use Rattle.shadow.proofs.edits.PipeBytes.{appending, passing_kept, passing_sound, passing_state, roomy}
use Rattle.shadow.proofs.stable.Stable.append.Goals as goal

pub change_pipe-requires : goal.change_pipe-requires
change_pipe-requires c =
    let fits : Fits [] (state_of c.self.inside.processes c.self.inside.store) (Append c.args.pipe c.args.bytes.now) = subst (λ (v : Committed). Fits [] v.state (Append c.args.pipe c.args.bytes.now)) (sym c.self.view_is) c.requires.fits in
    let most : length (pipe_of_inode (get (inodes c.self.inside.store) c.args.pipe)) + length c.args.bytes.now ≤ PIPE_CAPACITY = fits.1 in
    roomy c.self.inside.store c.args.pipe 0 c.args.bytes.now fits.0 (omega arith) (omega (arith, most))

pub invariant_of-self : goal.invariant_of-self
invariant_of-self c = passing_sound c.self.inside.processes c.self.inside.store c.args.pipe 0 c.args.bytes.now c.args.self.now c.self.view_is c.self.invariant (Append c.args.pipe c.args.bytes.now) c.requires.fits refl
    (appending (state_of c.self.inside.processes c.self.inside.store) c.args.pipe c.args.bytes.now) c.change_pipe.new.self c.change_pipe.ensures.changed c.change_pipe.ensures.shown c.change_pipe.ensures.«open»

pub returns-clause-state : goal.returns-clause-state
returns-clause-state c = passing_state c.self.inside.processes c.self.inside.store c.args.pipe 0 c.args.bytes.now c.args.self.now c.self.view_is c.self.invariant (Append c.args.pipe c.args.bytes.now) c.requires.fits refl
    (appending (state_of c.self.inside.processes c.self.inside.store) c.args.pipe c.args.bytes.now) c.change_pipe.new.self c.change_pipe.ensures.changed c.change_pipe.ensures.shown c.change_pipe.ensures.«open»

pub returns-clause-kept : goal.returns-clause-kept
returns-clause-kept c = passing_kept c.self.inside.processes c.self.inside.store c.args.pipe 0 c.args.bytes.now c.args.self.now c.self.view_is c.self.invariant (Append c.args.pipe c.args.bytes.now) c.requires.fits refl
    (appending (state_of c.self.inside.processes c.self.inside.store) c.args.pipe c.args.bytes.now) c.change_pipe.new.self c.change_pipe.ensures.changed c.change_pipe.ensures.shown c.change_pipe.ensures.«open»
