use Rattle.std.proofs.Common.{arith}
use Rattle.entry_codec.proofs.EntryForms.{entry_found}
use Rattle.entry_codec.proofs.FrontForms.{entry_fails, entry_in_fails, entry_only}
use Rattle.entry_codec.proofs.codec.read_entry.Goals as goal

pub overflow_sub-result : goal.overflow_sub-result
overflow_sub-result c = (entry_found c.args.bytes.now c.in-Ok.rest.now c.in-Ok.entry (λ i. omega (arith, c.type_inv.bytes i)) c.in-Ok.ensures).0

pub returns-in-Ok-clause-found : goal.returns-in-Ok-clause-found
returns-in-Ok-clause-found c = (entry_found c.args.bytes.now c.in-Ok.rest.now c.in-Ok.entry (λ i. omega (arith, c.type_inv.bytes i)) c.in-Ok.ensures).1

pub returns-in-Ok-clause-only : goal.returns-in-Ok-clause-only
returns-in-Ok-clause-only c = λ e more p same. entry_only c.args.bytes.now c.in-Ok.rest.now more c.in-Ok.entry e (λ i. omega (arith, c.type_inv.bytes i)) c.in-Ok.ensures p same

pub returns-in-Err-clause-only : goal.returns-in-Err-clause-only
returns-in-Err-clause-only c = λ e more p same. entry_fails c.in-Err.e c.args.bytes.now more e c.in-Err.ensures p same

pub returns-in-Err-clause-exact : goal.returns-in-Err-clause-exact
returns-in-Err-clause-exact c = entry_in_fails c.in-Err.e c.args.bytes.now c.in-Err.ensures
