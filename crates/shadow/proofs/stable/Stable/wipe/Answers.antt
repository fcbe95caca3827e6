use Rattle.std.proofs.Common.{◌≡◌, [], Some, Option, replicate, sym, ap, subst, ◌∙◌}
use Rattle.model.specs.FiniteMap.{get}
use Rattle.model.specs.State.{A_file, File, Inode, file_of, file_of_inode, kind_of}
use Rattle.model.specs.Changes.{Wipe, applied, written}
use Rattle.store.specs.Places.{with_bytes}
use Rattle.store.specs.Shown.{inodes}
use Rattle.shadow.specs.Claims.{KeepsSame}
use Rattle.shadow.specs.Committed.{Committed}
use Rattle.shadow.specs.Stored.{Sound, committed_of, state_of}
use Rattle.shadow.proofs.edits.FileBytes.{file_still, file_there, former_is, swapped, swapped_twice, wiped_sound, wiped_state}
use Rattle.shadow.proofs.shared.SoundnessLemmas.{same_of, state_is}
use Rattle.shadow.proofs.freeing.RemainingPlaces.{file_keeps}
use Rattle.shadow.proofs.stable.Stable.wipe.Goals as goal

pub swap_file-data-requires : goal.swap_file-data-requires
swap_file-data-requires c = file_there c.self.inside.store c.args.file (ap (λ (v : Committed). kind_of v.state c.args.file) c.self.view_is ∙ c.requires.file)

pub swap_file-empty-requires : goal.swap_file-empty-requires
swap_file-empty-requires c = file_still c.self.inside.store c.swap_file-data.new.self c.args.file c.new-empty.result.bytes c.swap_file-data.ensures.shown

abbrev is_file : (c : goal.After-drop-empty) → kind_of (state_of c.self.inside.processes c.self.inside.store) c.args.file ≡ Some A_file
is_file c = ap (λ (v : Committed). kind_of v.state c.args.file) c.self.view_is ∙ c.requires.file

was : (c : goal.After-drop-empty) → get (inodes c.self.inside.store) c.args.file ≡ Some (File c.swap_file-data.result.bytes)
was c = former_is c.self.inside.store c.args.file c.swap_file-data.result (file_there c.self.inside.store c.args.file (is_file c)) c.swap_file-data.ensures.former

now : (c : goal.After-drop-empty) → c.swap_file-empty.new.self ≡ swapped c.wipe.new.self c.self.inside.store c.args.file
now c = swapped_twice c.new-empty.result c.wipe.new.self c.self.inside.store c.swap_file-data.new.self c.swap_file-empty.new.self c.args.file c.swap_file-data.ensures.swapped c.swap_file-empty.ensures.swapped

changed : (c : goal.After-drop-empty) → c.wipe.new.self.bytes ≡ written (file_of (state_of c.self.inside.processes c.self.inside.store) c.args.file) c.args.offset (replicate c.args.count 0)
changed c = c.wipe.ensures ∙ ap (λ (o : Option Inode). written (file_of_inode o) c.args.offset (replicate c.args.count 0)) (sym (was c))

pub invariant_of-self : goal.invariant_of-self
invariant_of-self c =
    subst (Sound c.self.inside.processes) (sym (now c))
    (wiped_sound c.self.inside.processes c.self.inside.store c.args.file c.wipe.new.self c.self.invariant (is_file c) c.args.offset c.args.count (changed c))

pub returns-clause-state : goal.returns-clause-state
returns-clause-state c =
    let ps = c.self.inside.processes in let s = c.self.inside.store in let n = c.args.file in
    state_is ps ps s c.args.self.now c.self.view_is (state_of ps c.swap_file-empty.new.self) (applied [] (Wipe n c.args.offset c.args.count))
    (ap (state_of ps) (now c) ∙ wiped_state ps s n c.wipe.new.self c.self.invariant (is_file c) c.args.offset c.args.count (changed c))

pub returns-clause-kept : goal.returns-clause-kept
returns-clause-kept c =
    let ps = c.self.inside.processes in let s = c.self.inside.store in let b = c.wipe.new.self in
    subst (λ t. KeepsSame c.args.self.now (committed_of ps t)) (sym (now c)) (same_of ps ps s c.args.self.now c.self.view_is (swapped b s c.args.file) (file_keeps (with_bytes b) s c.args.file))
