use Rattle.std.proofs.Common.{sym, ap, ◌∙◌}
use Rattle.std.specs.Option.{option_and_then}
use Rattle.store.specs.Shown.{description_of}
use Rattle.store.proofs.Changes.{get-descriptions}
use Rattle.store.proofs.Store.description.Goals as goal

pub returns-in-Some-Description : goal.returns-in-Some-Description
returns-in-Some-Description c = sym (get-descriptions c.args.self.now c.args.num ∙ ap (option_and_then description_of) (sym c.in-Some-Description.ensures.object) ∙ ap description_of c.in-Some-Description.field-0-is)

pub returns-in-Some-Directory : goal.returns-in-Some-Directory
returns-in-Some-Directory c = sym (get-descriptions c.args.self.now c.args.num ∙ ap (option_and_then description_of) (sym c.in-Some-Directory.ensures.object) ∙ ap description_of c.in-Some-Directory.field-0-is)

pub returns-in-Some-File : goal.returns-in-Some-File
returns-in-Some-File c = sym (get-descriptions c.args.self.now c.args.num ∙ ap (option_and_then description_of) (sym c.in-Some-File.ensures.object) ∙ ap description_of c.in-Some-File.field-0-is)

pub returns-in-Some-Pipe : goal.returns-in-Some-Pipe
returns-in-Some-Pipe c = sym (get-descriptions c.args.self.now c.args.num ∙ ap (option_and_then description_of) (sym c.in-Some-Pipe.ensures.object) ∙ ap description_of c.in-Some-Pipe.field-0-is)

pub returns-in-Some-Fixed : goal.returns-in-Some-Fixed
returns-in-Some-Fixed c = sym (get-descriptions c.args.self.now c.args.num ∙ ap (option_and_then description_of) (sym c.in-Some-Fixed.ensures.object) ∙ ap description_of c.in-Some-Fixed.field-0-is)

pub returns-in-Some-Nothing : goal.returns-in-Some-Nothing
returns-in-Some-Nothing c = sym (get-descriptions c.args.self.now c.args.num ∙ ap (option_and_then description_of) (sym c.in-Some-Nothing.ensures.object) ∙ ap description_of c.in-Some-Nothing.field-0-is)

pub returns-in-None : goal.returns-in-None
returns-in-None c = sym (get-descriptions c.args.self.now c.args.num ∙ ap (option_and_then description_of) (sym c.in-None.ensures.object))
