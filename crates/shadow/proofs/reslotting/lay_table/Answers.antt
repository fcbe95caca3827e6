use Rattle.shadow.proofs.committing.TableSteps.{reslotted_whole}
use Rattle.shadow.proofs.reslotting.lay_table.Goals as goal

pub returns : goal.returns
returns c =
    reslotted_whole c.args.processes.now c.lay.new.self c.args.pid c.args.patch.now c.lay.new.patch c.args.store.now c.hold_given.new.store c.let_go.new.store
    c.lay.ensures.here c.lay.ensures.others c.lay.ensures.count c.lay.ensures.bounds c.lay.ensures.few c.requires.living c.lay.ensures.former
    c.hold_given.ensures.low c.hold_given.ensures.held c.let_go.ensures
