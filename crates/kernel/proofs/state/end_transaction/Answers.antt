use Rattle.kernel.proofs.state.end_transaction.Goals as goal

pub add_entry-requires : goal.add_entry-requires
add_entry-requires c = c.requires.enters _ c.clear.ensures
