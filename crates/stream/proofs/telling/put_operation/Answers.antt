use Rattle.std.proofs.Common.{◌≡◌, [], None, sym, subst, rules}
use Rattle.std.specs.Prelude.{option_map}
use Rattle.transcript.proofs.Laws.{Prints-none}
use Rattle.stream.specs.Heard.{IsTold}
use Rattle.stream.specs.declared.heard.Heard.TheVariants as heard
use Rattle.stream.proofs.telling.put_operation.Goals as goal

pub returns-in-Some : goal.returns-in-Some
returns-in-Some g c =
    let told = c.put_last.ensures in
    (told.0, told.1, subst (λ o. IsTold heard.Operation (option_map g.K.Machine.shown o) told.0) (sym c.in-Some.is) told.2)

pub returns-in_default : goal.returns-in_default
returns-in_default g c =
    let none : c.args.kernel.now ≡ None = search rules in
    ([], Prints-none _ _ _, subst (λ o. IsTold heard.Operation (option_map g.K.Machine.shown o) []) (sym none) tt)
