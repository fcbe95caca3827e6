use Rattle.std.proofs.Common.{◌∙◌, sym}
use Rattle.store_form.specs.ReadingSetups.{setup_of}
use Rattle.recovery.proofs.Going.{setup_next}
use Rattle.recovery.proofs.starting.setup_in.Goals as goal

pub returns-clause-begins : goal.returns-clause-begins
returns-clause-begins g c =
    setup_next g.D.Disk c.args.reader.now c.first_record.new.reader (setup_of c.in_ok-setup.setup) c.in_ok-first_record.ensures.first c.in_ok-setup.ensures.found.0 (sym c.payload.ensures ∙ c.in_ok-setup.ensures.found.1)
