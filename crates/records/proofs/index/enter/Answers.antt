use Rattle.records.proofs.Indexing.{not_false, not_true}
use Rattle.records.proofs.Listing.{listed_entered, listed_again, listed_same, undone}
use Rattle.records.proofs.index.enter.Goals as goal

pub returns-then-not-branch-clause-listed : goal.returns-then-not-branch-clause-listed
returns-then-not-branch-clause-listed c = λ listed. record {
  each = listed_again c.args.index.now (record { users = c.enter_users.new.table; written = c.args.index.now.written }) c.args.touch.now c.args.pid (not_false _ _ c.in_ok-enter_users.ensures.new c.if-not-branch.true) c.in_ok-enter_users.ensures.ok (λ a there. there) listed.each;
  ordered = listed.ordered;
}

pub returns-in-Ok-clause-listed : goal.returns-in-Ok-clause-listed
returns-in-Ok-clause-listed c = λ listed. record {
  each = listed_entered c.args.index.now (record { users = c.enter_users.new.table; written = c.list_entry.new.written }) c.args.touch.now c.args.pid listed.each c.in_ok-enter_users.ensures.ok c.list_entry.ensures.keeps c.in-Ok.ensures.ok;
  ordered = c.list_entry.ensures.ordered listed.ordered;
}

pub returns-in-Err-clause-err : goal.returns-in-Err-clause-err
returns-in-Err-clause-err c = undone c.args.index.now.users c.enter_users.new.table c.leave_users.new.table c.args.touch.now c.args.pid (not_true _ _ c.in_ok-enter_users.ensures.new c.if-not-branch.false) c.in_ok-enter_users.ensures.ok c.leave_users.ensures.users

pub returns-in-Err-clause-listed : goal.returns-in-Err-clause-listed
returns-in-Err-clause-listed c = λ listed. record {
  each = listed_same c.args.index.now (record { users = c.leave_users.new.table; written = c.list_entry.new.written }) (returns-in-Err-clause-err c) c.list_entry.ensures.keeps listed.each;
  ordered = c.list_entry.ensures.ordered listed.ordered;
}
