use Rattle.std.proofs.Common.{rules, FitsSigned, w64}
use Rattle.std.proofs.lemmas.Int.{to_z-of_z}
use Rattle.mount_requests.proofs.Answering.{by_offset}
use Rattle.mount_requests.proofs.files.put.Goals as goal

pub returns-in-Some-clause-ran : goal.returns-in-Some-clause-ran
returns-in-Some-clause-ran g c =
    let fits : FitsSigned w64 c.in-Some.offset = search rules in
    let h = rw (to_z-of_z _ _ fits) at c.write.ensures.ran in
    by_offset c.args.hand.now.pid c.args.writing.fd c.args.bytes c.args.writing.offset c.in-Some.offset c.in-Some.is h
