use Rattle.std.proofs.Common.{◌≡◌, Option, ap, ◌∙◌}
use Rattle.std.proofs.lemmas.Result.{IfOk-weaker}
use Rattle.model.specs.FiniteMap.{get, insert}
use Rattle.model.specs.State.{File, Inode}
use Rattle.plain_kernel.proofs.Setting.{inode_set, if_ok}
use Rattle.plain_kernel.proofs.plain.PlainKernel.take_inode.Goals as goal

pub returns-clause-left : goal.returns-clause-left
returns-clause-left c = if_ok c.insert.result c.insert.ensures.changed (λ h. inode_set _ _ _ _ _ c.self.view_is (h ∙ ap (insert c.self.inside.inodes c.args.num) (c.file.ensures ∙ ap File c.new.ensures)))

pub returns-clause-taken : goal.returns-clause-taken
returns-clause-taken c = IfOk-weaker c.insert.result (λ (o : Option Inode). o ≡ get c.self.inside.inodes c.args.num) (λ (o : Option Inode). o ≡ get c.args.self.now.inodes c.args.num) (λ o h. h ∙ ap (λ k. get k.inodes c.args.num) c.self.view_is) c.insert.ensures.before
