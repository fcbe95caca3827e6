use Rattle.std.proofs.Common.{◌≡◌, [], Some, sym, ap, subst, ◌∙◌}
use Rattle.model.specs.FiniteMap.{get}
use Rattle.model.specs.State.{A_file, File, file_of_inode, kind_of}
use Rattle.model.specs.Changes.{Put_bytes, applied}
use Rattle.objects.specs.Pieces.{FileContent}
use Rattle.store.specs.Places.{with_bytes}
use Rattle.store.specs.Shown.{inodes}
use Rattle.shadow.specs.Claims.{KeepsSame}
use Rattle.shadow.specs.Committed.{Committed}
use Rattle.shadow.specs.Stored.{Sound, committed_of, state_of}
use Rattle.shadow.proofs.edits.FileBytes.{either_way, file_is, file_there, swapped, unswapped_sound, unswapped_state, written_sound, written_state}
use Rattle.shadow.proofs.shared.SoundnessLemmas.{same_of, state_is}
use Rattle.shadow.proofs.freeing.RemainingPlaces.{file_keeps}
use Rattle.notes.proofs.Laws.{err_so, ok_so}
use Rattle.shadow.proofs.stable.Stable.write.Goals as goal

pub write_file-requires-clause-file : goal.write_file-requires-clause-file
write_file-requires-clause-file c = file_there c.self.inside.store c.args.file (ap (λ (v : Committed). kind_of v.state c.args.file) c.self.view_is ∙ c.requires.file)

abbrev is_file : (c : goal.After-write_file) → kind_of (state_of c.self.inside.processes c.self.inside.store) c.args.file ≡ Some A_file
is_file c = ap (λ (v : Committed). kind_of v.state c.args.file) c.self.view_is ∙ c.requires.file

same : (c : goal.After-write_file) (content : FileContent) → content.bytes ≡ file_of_inode (get (inodes c.self.inside.store) c.args.file) → get (inodes c.self.inside.store) c.args.file ≡ Some (File content.bytes)
same c content is = file_is (get (inodes c.self.inside.store) c.args.file) (is_file c) ∙ ap (λ bs. Some (File bs)) (sym is)

pub invariant_of-self : goal.invariant_of-self
invariant_of-self c =
    let ps = c.self.inside.processes in let s = c.self.inside.store in let n = c.args.file in
    either_way c.write_file.result c.write_file.ensures.ok c.write_file.ensures.err
    (λ w. subst (Sound ps) (sym w.rest) (written_sound ps s n w.content c.self.invariant (is_file c) c.args.offset c.args.bytes.now w.bytes_are))
    (λ w. subst (Sound ps) (sym w.rest) (unswapped_sound ps s n w.content c.self.invariant (is_file c) (same c w.content w.bytes_are)))

pub returns-clause-state : goal.returns-clause-state
returns-clause-state c =
    let ps = c.self.inside.processes in let s = c.self.inside.store in let n = c.args.file in
    ok_so c.write_file.result (λ w before. state_is ps ps s c.args.self.now c.self.view_is (state_of ps c.write_file.new.self) (applied [] (Put_bytes n c.args.offset c.args.bytes.now before))
    (ap (state_of ps) w.rest ∙ written_state ps s n w.content c.self.invariant (is_file c) c.args.offset c.args.bytes.now before w.bytes_are)) c.write_file.ensures.ok

kept : (c : goal.After-write_file) (content : FileContent) → c.write_file.new.self ≡ swapped content c.self.inside.store c.args.file → KeepsSame c.args.self.now (committed_of c.self.inside.processes c.write_file.new.self)
kept c content rest =
    let ps = c.self.inside.processes in let s = c.self.inside.store in
    subst (λ t. KeepsSame c.args.self.now (committed_of ps t)) (sym rest) (same_of ps ps s c.args.self.now c.self.view_is (swapped content s c.args.file) (file_keeps (with_bytes content) s c.args.file))

pub returns-clause-kept : goal.returns-clause-kept
returns-clause-kept c = either_way c.write_file.result c.write_file.ensures.ok c.write_file.ensures.err (λ w. kept c w.content w.rest) (λ w. kept c w.content w.rest)

pub returns-clause-err : goal.returns-clause-err
returns-clause-err c =
    let ps = c.self.inside.processes in let s = c.self.inside.store in let n = c.args.file in
    err_so c.write_file.result (λ w. state_is ps ps s c.args.self.now c.self.view_is (state_of ps c.write_file.new.self) (λ k. k)
    (ap (state_of ps) w.rest ∙ unswapped_state ps s n w.content c.self.invariant (is_file c) (same c w.content w.bytes_are))) c.write_file.ensures.err
