use Rattle.std.proofs.Common.{subst}
use Rattle.model.specs.State.{Name}
use Rattle.notes.specs.Notes.{At, IsGivenOver}
use Rattle.notes.proofs.NameEdits.{room_given, swap_undone}
use Rattle.notes.proofs.inodes.Inodes.note_swapped.Goals as goal

pub take_back-requires-clause-room : goal.take_back-requires-clause-room
take_back-requires-clause-room c =
    let first : At c.args.first (IsGivenOver c.args.first_name.now c.args.second_inode c.in_ok-former.former) c.args.self.now c.note_given.new.self =
    subst (λ (x : Name). At c.args.first (IsGivenOver x c.args.second_inode c.in_ok-former.former) c.args.self.now c.note_given.new.self) c.in_ok-noted.ensures c.in_ok-former.ensures.ok in
    room_given c.args.first c.args.first_name.now c.args.second_inode c.in_ok-former.former c.args.self.now c.note_given.new.self c.note_name.new.self first c.in-Err.ensures.err

pub returns-in-Err-clause-err : goal.returns-in-Err-clause-err
returns-in-Err-clause-err c =
    let first : At c.args.first (IsGivenOver c.args.first_name.now c.args.second_inode c.in_ok-former.former) c.args.self.now c.note_given.new.self =
    subst (λ (x : Name). At c.args.first (IsGivenOver x c.args.second_inode c.in_ok-former.former) c.args.self.now c.note_given.new.self) c.in_ok-noted.ensures c.in_ok-former.ensures.ok in
    swap_undone c.args.first c.args.first_name.now c.args.second_inode c.in_ok-former.former c.args.self.now c.note_given.new.self c.note_name.new.self c.take_back.new.self first c.in-Err.ensures.err c.take_back.ensures
