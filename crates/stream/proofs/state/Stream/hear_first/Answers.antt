use Rattle.std.proofs.Common.{rules}
use Rattle.stream.specs.declared.heard.Heard.TheVariants as heard
use Rattle.stream.proofs.Fields.{heard_begin, heard_first}
use Rattle.stream.proofs.state.Stream.hear_first.Goals as goal

pub returns-in-Ok-None-clause-ok : goal.returns-in-Ok-None-clause-ok
returns-in-Ok-None-clause-ok g c =
    heard_first g.K.Machine.shown c.args.setting c.args.self.now heard.Nothing c.requires.none (search rules)

pub returns-in-Ok-clause-ok : goal.returns-in-Ok-clause-ok
returns-in-Ok-clause-ok g c =
    heard_begin g.K.Machine.shown c.args.setting c.as_slice-in-Ok-Some.result.now c.args.self.now c.begin.new.self c.requires.none (search rules) c.in-Ok.ensures.ok
