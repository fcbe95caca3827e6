use Rattle.std.proofs.Common.{◌≡◌, ◌≢◌, ◌∙◌, ap, refl, List, [], true, subst, sym, inl, inr}
use Rattle.clap.specs.Words.{App, HasKind, HasMatchesOf, IsAmong, Kinds, Row, Text, fault_of, first_of, first_value, found_of, is_simple, is_simple_and_free, kind_of, matches_of, one_of, one_text}
use Rattle.clap.specs.declared.error.Error.{Error}
use Rattle.clap.specs.declared.error.kind.ErrorKind.{ErrorKind}
use Rattle.clap.specs.declared.error.kind.ErrorKind.TheVariants.{DisplayHelp, OutOfMemory}
use Rattle.clap.specs.declared.parser.matches.ArgMatches.{ArgMatches}
use Rattle.clap.proofs.OnLiterals.{clap_on_literals}
use Rattle.clap.proofs.WalkLemmas.{first_value-rows, one_text-rows}
use Rattle.words.specs.Txsh.{IsParseFault, IsReportedAs, number_in, texts, txsh, value_in}
use Rattle.words.specs.declared.CommandLineFault.{CommandLineFault}
use Rattle.words.specs.declared.CommandLineFault.TheVariants.{OneWay, FileMissing, FileGiven, StoreGiven, StoreMissing, CheckGiven, BadSync, NotUtf8, Help, Usage, NoMemory}
use Rattle.words.proofs.matches_for.Goals as goal

simple : is_simple txsh ≡ true
unfolding clap_on_literals
simple = refl

value_is : (a : App) (words : List Text) (m : ArgMatches) → a ≡ txsh → HasMatchesOf a words m → (id : Text) → first_value (found_of m) id ≡ value_in words id
value_is a words m is has id =
    first_value-rows (found_of m) id
    ∙ ap (λ (r : List Row). first_of id r) (has (ap is_simple is ∙ simple)).0
    ∙ ap (λ (b : App). first_of id (matches_of b words)) is

number_is : (a : App) (words : List Text) (m : ArgMatches) → a ≡ txsh → HasMatchesOf a words m → (id : Text) → one_text (found_of m) id ≡ number_in words id
number_is a words m is has id =
    one_text-rows (found_of m) id
    ∙ ap (λ (r : List Row). one_of id r) (has (ap is_simple is ∙ simple)).0
    ∙ ap (λ (b : App). one_of id (matches_of b words)) is

pub returns-in-Ok-try_get_matches_from-clause-values : goal.returns-in-Ok-try_get_matches_from-clause-values
returns-in-Ok-try_get_matches_from-clause-values c = value_is _ _ _ c.in-Ok.ensures c.in-Ok-try_get_matches_from.ensures.matches

pub returns-in-Ok-try_get_matches_from-clause-numbers : goal.returns-in-Ok-try_get_matches_from-clause-numbers
returns-in-Ok-try_get_matches_from-clause-numbers c = number_is _ _ _ c.in-Ok.ensures c.in-Ok-try_get_matches_from.ensures.matches

simple_and_free : is_simple_and_free txsh ≡ true
unfolding clap_on_literals
simple_and_free = refl

fits_is : (a : App) (words : List Text) → a ≡ txsh → (is_simple_and_free a ≡ true → fault_of a words ≡ []) → fault_of txsh words ≡ []
fits_is a words is kinds = subst (λ (b : App). fault_of b words ≡ []) is (kinds (ap is_simple_and_free is ∙ simple_and_free))

pub returns-in-Ok-try_get_matches_from-clause-fits : goal.returns-in-Ok-try_get_matches_from-clause-fits
returns-in-Ok-try_get_matches_from-clause-fits c = fits_is _ _ c.in-Ok.ensures c.in-Ok-try_get_matches_from.ensures.kinds

-- a kind that is not want of memory is among the kinds that may come
among : (kinds : Kinds) (error other : Error) → other ≡ error → kind_of error ≢ OutOfMemory → HasKind kinds error → IsAmong (kind_of other) kinds
among kinds error other same not_memory (inl memory) = absurd (not_memory memory)
among kinds error other same not_memory (inr is) =
    subst (λ (k : ErrorKind). IsAmong k kinds) (sym (ap (λ (e : Error). kind_of e) same)) is

help_is : (kinds : Kinds) (error text : Error) → text ≡ error → kind_of error ≡ DisplayHelp → HasKind kinds error → (kind_of text ≡ DisplayHelp) × IsAmong DisplayHelp kinds
help_is kinds error text same help has =
    let kind : kind_of text ≡ DisplayHelp = ap (λ (e : Error). kind_of e) same ∙ help in
    let other : kind_of error ≢ OutOfMemory = λ memory. cc (sym help ∙ memory) in
    (kind, subst (λ (k : ErrorKind). IsAmong k kinds) kind (among kinds error text same other has))

usage_is : (kinds : Kinds) (error other : Error) → other ≡ error → kind_of error ≢ DisplayHelp → kind_of error ≢ OutOfMemory → HasKind kinds error → (kind_of other ≢ DisplayHelp) × (kind_of other ≢ OutOfMemory) × IsAmong (kind_of other) kinds
usage_is kinds error other same not_help not_memory has =
    let kind : kind_of error ≡ kind_of other = sym (ap (λ (e : Error). kind_of e) same) in
    (λ help. not_help (kind ∙ help), λ memory. not_memory (kind ∙ memory), among kinds error other same not_memory has)

reported : (words : List Text) (error : Error) (fault : CommandLineFault) → HasKind (fault_of txsh words) error → IsReportedAs error fault → IsParseFault words fault
reported words error OneWay has is = is
reported words error FileMissing has is = is
reported words error FileGiven has is = is
reported words error StoreGiven has is = is
reported words error StoreMissing has is = is
reported words error CheckGiven has is = is
reported words error BadSync has is = is
reported words error NotUtf8 has is = is
reported words error (Help text) has is = help_is (fault_of txsh words) error text is.0 is.1 has
reported words error (Usage other) has is =
    usage_is (fault_of txsh words) error other is.0 is.1 is.2 has
reported words error NoMemory has is = tt

has_kind : (a : App) (words : List Text) (error : Error) → a ≡ txsh → (is_simple_and_free a ≡ true → HasKind (fault_of a words) error) → HasKind (fault_of txsh words) error
has_kind a words error is kinds = subst (λ (b : App). HasKind (fault_of b words) error) is (kinds (ap is_simple_and_free is ∙ simple_and_free))

pub returns-in-Err-clause-err : goal.returns-in-Err-clause-err
returns-in-Err-clause-err c =
    let words = texts c.args.words.now in
    reported words c.in-Err.error c.reported_fault.result (has_kind _ words c.in-Err.error c.in-Ok.ensures c.in-Err.ensures.kinds) c.reported_fault.ensures
