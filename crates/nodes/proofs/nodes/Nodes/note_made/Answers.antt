use Rattle.nodes.specs.Parts.{table_of}
use Rattle.nodes.proofs.Orderly.{noted_orderly}
use Rattle.nodes.proofs.nodes.Nodes.note_made.Goals as goal

pub invariant_of-self : goal.invariant_of-self
invariant_of-self c = (
  c.self.invariant.0,
  noted_orderly (table_of c.self.inside.list.nodes c.self.inside.index.numbers c.self.inside.births.counts c.self.inside.next) c.args.inode c.note.new.self.counts c.note.result c.self.invariant.1 c.note.ensures.ok c.note.ensures.err,
)
