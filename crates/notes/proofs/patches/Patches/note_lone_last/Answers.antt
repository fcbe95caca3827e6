use Rattle.std.proofs.Common.{refl, sym, subst}
use Rattle.notes.specs.Notes.{SamePatches}
use Rattle.notes.proofs.InodeNotes.{same_then_takes}
use Rattle.notes.proofs.Outcomes.{err_so, ok_so}
use Rattle.notes.proofs.patches.Patches.note_lone_last.Goals as goal

pub returns-clause-ok : goal.returns-clause-ok
returns-clause-ok c = ok_so c.note_last.result (λ takes. (
  c.note_last.new.self,
  same_then_takes c.args.chosen.now c.args.edit.now c.args.self.now c.make_places.new.self c.note_last.new.self c.make_places.ensures.same takes,
  refl,
)) c.note_last.ensures.ok

pub returns-clause-err : goal.returns-clause-err
returns-clause-err c = err_so c.note_last.result
    (λ is. subst (SamePatches c.args.self.now) (sym is) c.make_places.ensures.same) c.note_last.ensures.err
