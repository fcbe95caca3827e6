use Rattle.std.proofs.Common.{rules, ◌≡◌, ◌∙◌, ap}
use Rattle.turnstile.specs.Histories.{made_of}
use Rattle.turnstile.proofs.Closing.{opens_at}
use Rattle.turnstile.proofs.Forking.{made_is}
use Rattle.turnstile.proofs.turnstile.table_of.Goals as goal

pub new-requires : goal.new-requires
new-requires g c = opens_at g.K.Machine.shown _ _ c.args.kernel (search rules) (search rules) record { legal = c.history.ensures.kept.legal }

pub returns-in-Ok-clause-made : goal.returns-in-Ok-clause-made
returns-in-Ok-clause-made g c = let at : c.in-Ok.made.0.shared.key.value ≡ (g.K.Machine.shown c.args.kernel).log = search rules in
    ap made_of at ∙ made_is (g.K.Machine.shown c.args.kernel) c.history.ensures.kept
