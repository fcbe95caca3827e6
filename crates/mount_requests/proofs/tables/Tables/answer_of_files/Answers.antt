use Rattle.mount_requests.specs.Seen.{seen}
use Rattle.mount_requests.proofs.Answering.{answers_files}
use Rattle.mount_requests.proofs.tables.Tables.answer_of_files.Goals as goal

pub returns-in-Open-clause-answers : goal.returns-in-Open-clause-answers
returns-in-Open-clause-answers g c = answers_files (seen c.args.self.now) (seen c.open.new.self) c.args.hand.now.pid c.args.node _ _ _ c.in-Open.is c.open.ensures.answers

pub returns-in-Read-clause-answers : goal.returns-in-Read-clause-answers
returns-in-Read-clause-answers g c = answers_files (seen c.args.self.now) (seen c.read.new.self) c.args.hand.now.pid c.args.node _ _ _ c.in-Read.is c.read.ensures.answers

pub returns-in-Write-clause-answers : goal.returns-in-Write-clause-answers
returns-in-Write-clause-answers g c = answers_files (seen c.args.self.now) (seen c.write.new.self) c.args.hand.now.pid c.args.node _ _ _ c.in-Write.is c.write.ensures.answers

pub returns-in-Lseek-clause-answers : goal.returns-in-Lseek-clause-answers
returns-in-Lseek-clause-answers g c = answers_files (seen c.args.self.now) (seen c.seek.new.self) c.args.hand.now.pid c.args.node _ _ _ c.in-Lseek.is c.seek.ensures.answers

pub returns-in-Fallocate-clause-answers : goal.returns-in-Fallocate-clause-answers
returns-in-Fallocate-clause-answers g c = answers_files (seen c.args.self.now) (seen c.fallocate.new.self) c.args.hand.now.pid c.args.node _ _ _ c.in-Fallocate.is c.fallocate.ensures.answers

pub returns-in-CopyFileRange-clause-answers : goal.returns-in-CopyFileRange-clause-answers
returns-in-CopyFileRange-clause-answers g c = answers_files (seen c.args.self.now) (seen c.copy.new.self) c.args.hand.now.pid c.args.node _ _ _ c.in-CopyFileRange.is c.copy.ensures.answers
