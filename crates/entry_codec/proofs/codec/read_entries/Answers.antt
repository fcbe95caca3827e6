use Rattle.std.proofs.Common.{ap, subst, ◌∙◌, arith}
use Rattle.entry_codec.specs.Reading.{Gives}
use Rattle.entry_codec.specs.ReadingEntries.{entries_in}
use Rattle.entry_codec.proofs.EntryForms.{entries_again, entries_found}
use Rattle.entry_codec.proofs.codec.read_entries.Goals as goal

pub returns-clause-found : goal.returns-clause-found
returns-clause-found c = entries_found (λ v. v.items) c.args.bytes.now c.entries_of.result (λ i. omega (arith, c.type_inv.bytes i)) c.entries_of.ensures

pub returns-clause-only : goal.returns-clause-only
returns-clause-only c = λ entries fits e. subst (λ read. Gives (λ v. v.items) c.entries_of.result read) (ap entries_in e ∙ entries_again entries fits) c.entries_of.ensures
