use Rattle.std.proofs.Common.{rules, ap, ap₂, ◌≡◌, ◌∙◌}
use Rattle.std.specs.Prelude.{Some, pos, ℤ}
use Rattle.std.specs.Int.{int_max, int_min}
use Rattle.std.specs.Range.{range_inclusive_end, range_inclusive_start}
use Rattle.clap.specs.Words.{signed_between}
use Rattle.clap.specs.declared.builder.value_parser.ValueParser.{ValueParser}
use Rattle.clap.specs.declared.builder.value_parser.ValueParser.TheVariants.{Signed}
use Rattle.words.specs.declared.TheConstants.{MAX_DESCRIPTORS}
use Rattle.words.proofs.descriptors_arg.Goals as goal

pub returns-clause-rule : goal.returns-clause-rule
returns-clause-rule c =
    let given = c.value_parser-2.ensures.given in
    let start : range_inclusive_start c.new-2.result ≡ pos 1 = search rules in
    let end : range_inclusive_end c.new-2.result ≡ pos MAX_DESCRIPTORS = search rules in
    let made : c.range.result ≡ Signed (pos 1) (pos MAX_DESCRIPTORS) =
    rw c.value_parser.ensures at c.range.ensures
    ∙ ap₂ (λ (a b : ℤ). signed_between (int_max (pos 0) a) (int_min (pos 4294967295) b)) start end in
    let parser : c.value_parser-2.result.value_parser ≡ Some (Signed (pos 1) (pos MAX_DESCRIPTORS)) =
    given.1 ∙ ap (λ (q : ValueParser). Some q) (given.2 ∙ made) in
    search (rules, parser)
