use Rattle.std.proofs.Common.{ap}
use Rattle.walk.proofs.Laws.{via}
use Rattle.model.specs.Plans.{plan}
use Rattle.model.specs.Calls.{own}
use Rattle.calls.proofs.plan.change_of.Goals as goal

pub returns-in-Open : goal.returns-in-Open
returns-in-Open g c = via (ap (λ call. plan (own (g.L.Look.state c.args.look.now) c.args.pid call) call) c.in-Open.is) c.open.ensures

pub returns-in-Close : goal.returns-in-Close
returns-in-Close g c = via (ap (λ call. plan (own (g.L.Look.state c.args.look.now) c.args.pid call) call) c.in-Close.is) (c.close.ensures _)

pub returns-in-Read : goal.returns-in-Read
returns-in-Read g c = via (ap (λ call. plan (own (g.L.Look.state c.args.look.now) c.args.pid call) call) c.in-Read.is) c.read.ensures

pub returns-in-Write : goal.returns-in-Write
returns-in-Write g c = via (ap (λ call. plan (own (g.L.Look.state c.args.look.now) c.args.pid call) call) c.in-Write.is) c.write.ensures

pub returns-in-Ftruncate : goal.returns-in-Ftruncate
returns-in-Ftruncate g c = via (ap (λ call. plan (own (g.L.Look.state c.args.look.now) c.args.pid call) call) c.in-Ftruncate.is) c.ftruncate.ensures

pub returns-in-Exchange : goal.returns-in-Exchange
returns-in-Exchange g c = via (ap (λ call. plan (own (g.L.Look.state c.args.look.now) c.args.pid call) call) c.in-Exchange.is) (c.exchange.ensures c.args.pid)

pub returns-in-Truncate : goal.returns-in-Truncate
returns-in-Truncate g c = via (ap (λ call. plan (own (g.L.Look.state c.args.look.now) c.args.pid call) call) c.in-Truncate.is) (c.truncate.ensures c.args.pid)

pub returns-in-Stat : goal.returns-in-Stat
returns-in-Stat g c = via (ap (λ call. plan (own (g.L.Look.state c.args.look.now) c.args.pid call) call) c.in-Stat.is) (c.stat.ensures c.args.pid)

pub returns-in-Fstat : goal.returns-in-Fstat
returns-in-Fstat g c = via (ap (λ call. plan (own (g.L.Look.state c.args.look.now) c.args.pid call) call) c.in-Fstat.is) c.fstat.ensures

pub returns-in-Link : goal.returns-in-Link
returns-in-Link g c = via (ap (λ call. plan (own (g.L.Look.state c.args.look.now) c.args.pid call) call) c.in-Link.is) (c.link.ensures c.args.pid)

pub returns-in-Unlink : goal.returns-in-Unlink
returns-in-Unlink g c = via (ap (λ call. plan (own (g.L.Look.state c.args.look.now) c.args.pid call) call) c.in-Unlink.is) (c.unlink.ensures c.args.pid)

pub returns-in-Rename : goal.returns-in-Rename
returns-in-Rename g c = via (ap (λ call. plan (own (g.L.Look.state c.args.look.now) c.args.pid call) call) c.in-Rename.is) (c.rename.ensures c.args.pid)

pub returns-in-Mkdir : goal.returns-in-Mkdir
returns-in-Mkdir g c = via (ap (λ call. plan (own (g.L.Look.state c.args.look.now) c.args.pid call) call) c.in-Mkdir.is) (c.mkdir.ensures c.args.pid)

pub returns-in-Rmdir : goal.returns-in-Rmdir
returns-in-Rmdir g c = via (ap (λ call. plan (own (g.L.Look.state c.args.look.now) c.args.pid call) call) c.in-Rmdir.is) (c.rmdir.ensures c.args.pid)

pub returns-in-List : goal.returns-in-List
returns-in-List g c = via (ap (λ call. plan (own (g.L.Look.state c.args.look.now) c.args.pid call) call) c.in-List.is) (c.list.ensures c.args.pid)

pub returns-in-Dup : goal.returns-in-Dup
returns-in-Dup g c = via (ap (λ call. plan (own (g.L.Look.state c.args.look.now) c.args.pid call) call) c.in-Dup.is) (c.dup.ensures _)

pub returns-in-Dup2 : goal.returns-in-Dup2
returns-in-Dup2 g c = via (ap (λ call. plan (own (g.L.Look.state c.args.look.now) c.args.pid call) call) c.in-Dup2.is) (c.dup2.ensures _)

pub returns-in-Pipe : goal.returns-in-Pipe
returns-in-Pipe g c = via (ap (λ call. plan (own (g.L.Look.state c.args.look.now) c.args.pid call) call) c.in-Pipe.is) (c.pipe.ensures _)

pub returns-in-Fork : goal.returns-in-Fork
returns-in-Fork g c = via (ap (λ call. plan (own (g.L.Look.state c.args.look.now) c.args.pid call) call) c.in-Fork.is) (c.fork.ensures _)

pub returns-in-Exit : goal.returns-in-Exit
returns-in-Exit g c = via (ap (λ call. plan (own (g.L.Look.state c.args.look.now) c.args.pid call) call) c.in-Exit.is) (c.exit.ensures _)

pub returns-in-Symlink : goal.returns-in-Symlink
returns-in-Symlink g c = via (ap (λ call. plan (own (g.L.Look.state c.args.look.now) c.args.pid call) call) c.in-Symlink.is) (c.symlink.ensures c.args.pid)

pub returns-in-Readlink : goal.returns-in-Readlink
returns-in-Readlink g c = via (ap (λ call. plan (own (g.L.Look.state c.args.look.now) c.args.pid call) call) c.in-Readlink.is) (c.readlink.ensures c.args.pid)

pub returns-in-Lstat : goal.returns-in-Lstat
returns-in-Lstat g c = via (ap (λ call. plan (own (g.L.Look.state c.args.look.now) c.args.pid call) call) c.in-Lstat.is) (c.lstat.ensures c.args.pid)

pub returns-in-Mknod : goal.returns-in-Mknod
returns-in-Mknod g c = via (ap (λ call. plan (own (g.L.Look.state c.args.look.now) c.args.pid call) call) c.in-Mknod.is) (c.mknod.ensures c.args.pid)

pub returns-in-Chmod : goal.returns-in-Chmod
returns-in-Chmod g c = via (ap (λ call. plan (own (g.L.Look.state c.args.look.now) c.args.pid call) call) c.in-Chmod.is) (c.chmod.ensures c.args.pid)

pub returns-in-Chown : goal.returns-in-Chown
returns-in-Chown g c = via (ap (λ call. plan (own (g.L.Look.state c.args.look.now) c.args.pid call) call) c.in-Chown.is) (c.chown.ensures c.args.pid)

pub returns-in-Fchmod : goal.returns-in-Fchmod
returns-in-Fchmod g c = via (ap (λ call. plan (own (g.L.Look.state c.args.look.now) c.args.pid call) call) c.in-Fchmod.is) c.fchmod.ensures

pub returns-in-Fchown : goal.returns-in-Fchown
returns-in-Fchown g c = via (ap (λ call. plan (own (g.L.Look.state c.args.look.now) c.args.pid call) call) c.in-Fchown.is) c.fchown.ensures
