use Rattle.std.proofs.Common.{ap, length, sym, subst, ◌↔◌, ◌++◌, ℕ}
use Rattle.std.specs.List.{Contains}
use Rattle.model.specs.Plan.{blocks}
use Rattle.notes.specs.declared.change.Contents.{Contents}
use Rattle.notes.specs.Patches.{numbers_in}
use Rattle.notes.proofs.BlockNumbers.{behind_none, joined}
use Rattle.notes.proofs.Outcomes.{ok_so}
use Rattle.notes.proofs.change.write_in.Goals as goal

pub returns-in-Bytes-clause-numbers : goal.returns-in-Bytes-clause-numbers
returns-in-Bytes-clause-numbers c =
    ok_so c.write.result
    (λ is. subst (λ (d : Contents). (b : ℕ) → Contains c.write.new.self.changed.numbers b ↔ Contains (numbers_in d ++ blocks c.args.offset (length c.args.bytes.now)) b) (sym c.in-Bytes.is)
    (joined c.in-Bytes.changes.changed.numbers c.write.new.self.changed.numbers (blocks c.args.offset (length c.args.bytes.now)) is))
    c.write.ensures.changed

pub returns-in-Same-clause-numbers : goal.returns-in-Same-clause-numbers
returns-in-Same-clause-numbers c =
    ok_so c.write_first.result
    (behind_none (numbers_in c.args.contents.now) (numbers_in c.write_first.new.contents) (blocks c.args.offset (length c.args.bytes.now)) (ap numbers_in c.in-Same.is))
    c.write_first.ensures.numbers

pub returns-in-Names-clause-numbers : goal.returns-in-Names-clause-numbers
returns-in-Names-clause-numbers c =
    ok_so c.write_first-in-Names.result
    (behind_none (numbers_in c.args.contents.now) (numbers_in c.write_first-in-Names.new.contents) (blocks c.args.offset (length c.args.bytes.now)) (ap numbers_in c.in-Names.is))
    c.write_first-in-Names.ensures.numbers

pub returns-in-Pipe-clause-numbers : goal.returns-in-Pipe-clause-numbers
returns-in-Pipe-clause-numbers c =
    ok_so c.write_first-in-Pipe.result
    (behind_none (numbers_in c.args.contents.now) (numbers_in c.write_first-in-Pipe.new.contents) (blocks c.args.offset (length c.args.bytes.now)) (ap numbers_in c.in-Pipe.is))
    c.write_first-in-Pipe.ensures.numbers

pub returns-in-Fixed-clause-numbers : goal.returns-in-Fixed-clause-numbers
returns-in-Fixed-clause-numbers c =
    ok_so c.write_first-in-Fixed.result
    (behind_none (numbers_in c.args.contents.now) (numbers_in c.write_first-in-Fixed.new.contents) (blocks c.args.offset (length c.args.bytes.now)) (ap numbers_in c.in-Fixed.is))
    c.write_first-in-Fixed.ensures.numbers
