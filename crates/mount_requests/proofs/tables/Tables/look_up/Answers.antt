use Rattle.std.proofs.Common.{sym, ◌∙◌}
use Rattle.mount_requests.specs.Seen.{seen}
use Rattle.mount_requests.proofs.Answering.{not_reserved}
use Rattle.mount_requests.proofs.tables.Tables.look_up.Goals as goal

pub returns-clause-answers : goal.returns-clause-answers
returns-clause-answers g c =
    let h = rw c.as_slice.ensures at c.is_reserved.ensures in
    not_reserved (seen c.args.self.now) (seen c.look_up_name.new.self) c.args.hand.now.pid c.args.node c.args.name.now (sym h ∙ c.if-is_reserved.false) c.look_up_name.ensures.answers
