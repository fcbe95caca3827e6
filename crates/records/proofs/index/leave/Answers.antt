use Rattle.std.proofs.Common.{◌∙◌, ap, true}
use Rattle.records.specs.Index.{users_in}
use Rattle.records.specs.Ranges.{touch_on}
use Rattle.records.proofs.Listing.{listed_left}
use Rattle.records.proofs.index.leave.Goals as goal

pub returns-then-writes_entry-clause-listed : goal.returns-then-writes_entry-clause-listed
returns-then-writes_entry-clause-listed c = λ listed. record {
  each = listed_left c.args.index.now (record { users = c.leave_users.new.table; written = c.unlist_entry.new.written }) c.args.touch.now c.args.pid c.leave_users.ensures.users
      (λ a there some. c.unlist_entry.ensures.keeps a there (λ e. some (ap (λ b. users_in c.leave_users.new.table (touch_on b true)) e ∙ c.leave_users.ensures.no_writer c.if-leave_users.true)))
      listed.each;
  ordered = c.unlist_entry.ensures.ordered listed.ordered;
}

pub returns-else-leave_users-clause-listed : goal.returns-else-leave_users-clause-listed
returns-else-leave_users-clause-listed c = λ listed. record {
  each = listed_left c.args.index.now (record { users = c.leave_users.new.table; written = c.args.index.now.written }) c.args.touch.now c.args.pid c.leave_users.ensures.users (λ a there some. there) listed.each;
  ordered = listed.ordered;
}
