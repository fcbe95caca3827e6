use Rattle.std.proofs.Common.{◌≡◌, ◌+◌, arith, rules}
use Rattle.model.specs.FiniteMap as map
use Rattle.mount_tables.specs.Files.{file_for, key_at}
use Rattle.mount_tables.proofs.Below.{below_insert, leads_insert}
use Rattle.mount_tables.proofs.open_files.OpenFiles.add.Goals as goal

pub invariant_of-self : goal.invariant_of-self
invariant_of-self c =
    let n = c.self.inside.next in
    let listed : c.insert-listed.new.self.rows ≡ map.insert c.self.inside.each.rows n (file_for c.args.view c.args.inode c.args.pid c.args.fd) = search rules in
    let indexed : c.insert-indexed.new.self.handles ≡ map.insert c.self.inside.handles.handles (key_at c.args.view c.args.inode) n = search rules in (
      rw listed (below_insert c.self.inside.each.rows n n (n + 1) _ c.self.invariant.0 (omega arith) (omega arith)),
      rw indexed (leads_insert c.self.inside.handles.handles _ n n (n + 1) c.self.invariant.1 (omega arith) (omega arith)),
    )
