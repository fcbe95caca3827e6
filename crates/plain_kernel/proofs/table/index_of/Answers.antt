use Rattle.std.proofs.Common.{rules, nat_cmp}
use Rattle.std.proofs.lemmas.Fn.{always_returns_same}
use Rattle.std.specs.Cmp.{nat_cmp_total}
use Rattle.plain_kernel.proofs.Halved.{searched_index}
use Rattle.plain_kernel.proofs.table.index_of.Goals as goal

pub returns : goal.returns
returns g c = searched_index nat_cmp_total c.args.num c.args.slots.now c.requires c.binary_search_by.result c.binary_search_by.ensures.bound (c.binary_search_by.ensures.position (λ e. nat_cmp e.0 c.args.num) (always_returns_same _ _ _ (λ a r f h. search rules)))
