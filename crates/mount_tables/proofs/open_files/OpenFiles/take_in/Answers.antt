use Rattle.std.proofs.Common.{◌≡◌, ℕ, ◌<◌, cond, Option, Some, sym, ap, ◌∙◌, arith, nat_cmp}
use Rattle.std.specs.Option.{is_some}
use Rattle.std.specs.Cmp.{nat_cmp_total}
use Rattle.model.specs.FiniteMap as map
use Rattle.mount_tables.specs.Files.{Files}
use Rattle.mount_tables.proofs.Below.{below_remove, leads_unlinked}
use Rattle.mount_tables.proofs.open_files.OpenFiles.take_in.Goals as goal

fewer : {X : Type 0} (m n : map.FinMap nat_cmp X) (number : ℕ) (x : X) → map.get m number ≡ Some x → n ≡ map.remove m number → map.len n < map.len m
fewer {X = X} m n number x is without =
    let one : ◌≡◌ {A = ℕ} (cond (map.contains_key m number) 1 0) 1 = ap (λ (o : Option X). cond {A = ℕ} (is_some o) 1 0) is in
    omega (arith, one, map.len_before_remove nat_cmp_total m number, ap (λ t. map.len t) without)

pub invariant_of-self : goal.invariant_of-self
invariant_of-self c =
    rw (c.drop_file.ensures.each, c.drop_file.ensures.handles) (below_remove _ _ _ c.self.invariant.0, leads_unlinked _ _ _ _ c.self.invariant.1)

pub returns-clause-fewer : goal.returns-clause-fewer
returns-clause-fewer c = λ _.
    let same = ap (λ (f : Files). f.each) c.self.view_is in
    fewer c.args.self.now.each c.drop_file.new.each.rows c.in_ok-handle.handle c.in_ok-handle.file (ap (λ m. map.get m c.in_ok-handle.handle) (sym same) ∙ c.in_ok-handle.ensures.0) (c.drop_file.ensures.each ∙ ap (λ m. map.remove m c.in_ok-handle.handle) same)
