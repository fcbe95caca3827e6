-- The order of names.
use Rattle.std.specs.Cmp.{IsTotalOrder}
use Rattle.std.specs.Cmp.Lexicographic.{nat_list_cmp_total}
use Rattle.model.specs.FiniteMap.{IsAntisymmetric, nat_cmp-IsAntisymmetric, slice_cmp-IsAntisymmetric}
use Rattle.model.specs.State.{name_cmp}

pub name_total : IsTotalOrder name_cmp
name_total = nat_list_cmp_total

pub name_exact : IsAntisymmetric name_cmp
name_exact = slice_cmp-IsAntisymmetric nat_cmp-IsAntisymmetric
