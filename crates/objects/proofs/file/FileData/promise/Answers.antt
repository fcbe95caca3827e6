use Rattle.std.proofs.Common.{ap, arith}
use Rattle.objects.proofs.Pieced.{rooms_le}
use Rattle.objects.proofs.file.FileData.promise.Goals as goal

pub returns-in_err-promise-clause-room : goal.returns-in_err-promise-clause-room
returns-in_err-promise-clause-room c = rooms_le c.self.inside.pieces c.promise.new.self c.args.self.now.rooms (ap (λ f. f.rooms) c.self.view_is)
    (λ n. let before = c.loop-number.invariant.rooms n in let now = c.promise.ensures.room n in omega arith)
