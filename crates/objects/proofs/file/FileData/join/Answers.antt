use Rattle.std.proofs.Common.{◌≤◌, sym, ap, subst, subst₂}
use Rattle.objects.specs.Pieces.{piece_of}
use Rattle.objects.proofs.Pieced.{room_is, rooms_le}
use Rattle.objects.proofs.file.FileData.join.Goals as goal

pub returns-clause-room : goal.returns-clause-room
returns-clause-room c = rooms_le c.self.inside.pieces c.join.result c.args.self.now.rooms (ap (λ f. f.rooms) c.self.view_is)
    (λ n. subst (λ gs. (piece_of gs n).room ≤ (piece_of c.join.result n).room) c.replace-pieces.ensures.value (c.join.ensures.rooms n).0)

pub returns-clause-other : goal.returns-clause-other
returns-clause-other c n = subst₂ (λ a b. a ≤ b) (c.into_pieces.ensures.room n) (sym (room_is c.join.result n)) (c.join.ensures.rooms n).1
