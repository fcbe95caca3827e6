use Rattle.std.proofs.Common.{◌≡◌, [], map, vec_len, vec_capacity, length, ◌≤◌}
use Rattle.model.specs.Moments.{all_below}
use Rattle.turnstile.specs.Calls.{first_pass}
use Rattle.turnstile.specs.Holding.{is_set}
use Rattle.turnstile.specs.Passes.{gate_of}
use Rattle.turnstile.specs.declared.rule.Role.TheVariants.{Deals}
use Rattle.turnstile.proofs.turnstile.deal.Given as goal

abbrev pub invariant-loop-i : goal.invariant-loop-i
invariant-loop-i g l = record {
  table : l.dealer.table_id ≡ l.lock.shared.table_id;
  me : l.dealer.me ≡ (Deals l.i l.lock.shared.key.value, []);
  items : l.passes.items ≡ map (first_pass (gate_of l.lock.shared.table_id l.lock.shared.key.value)) (all_below (is_set l.living) l.i);
  len : vec_len l.passes ≤ l.i;
  room : vec_capacity l.passes ≡ length l.living;
}
