use Rattle.std.proofs.Common.{sym, ◌∙◌}
use Rattle.mount_requests.specs.Seen.{seen}
use Rattle.mount_requests.proofs.Answering.{renames_by}
use Rattle.mount_requests.proofs.tables.Tables.rename.Goals as goal

pub returns-then-is_exchange-clause-answers : goal.returns-then-is_exchange-clause-answers
returns-then-is_exchange-clause-answers g c =
    renames_by (seen c.args.self.now) (seen c.exchange.new.self) c.args.hand.now.pid c.args.node c.args.name.now c.args.new_parent c.args.new_name.now c.args.flags _ _ _ _ (sym c.is_exchange.ensures ∙ c.if-is_exchange.true) c.exchange.ensures.answers

pub returns-clause-answers : goal.returns-clause-answers
returns-clause-answers g c =
    renames_by (seen c.args.self.now) (seen c.move_name.new.self) c.args.hand.now.pid c.args.node c.args.name.now c.args.new_parent c.args.new_name.now c.args.flags _ _ _ _ (sym c.is_exchange.ensures ∙ c.if-is_exchange.false) c.move_name.ensures.answers
