use Rattle.std.proofs.Common.{sym, ap, ◌∙◌}
use Rattle.model.specs.FiniteMap as map
use Rattle.nodes.specs.Parts.{Stored}
use Rattle.nodes.specs.declared.directory_entry.DirectoryEntry.{DirectoryEntry}
use Rattle.nodes.proofs.nodes.Nodes.exchange.Goals as goal

pub place_both-requires-clause-first : goal.place_both-requires-clause-first
place_both-requires-clause-first c =
    ap (λ (s : Stored). map.get s.table.numbers c.args.first) (sym c.self.view_is)
    ∙ ap (λ (e : DirectoryEntry). map.get c.self.inside.index.numbers e) (sym c.entry.ensures)
    ∙ sym c.get-one.ensures
    ∙ c.in-Some-Some.is-0

pub place_both-requires-clause-second : goal.place_both-requires-clause-second
place_both-requires-clause-second c =
    ap (λ (s : Stored). map.get s.table.numbers c.args.second) (sym c.self.view_is)
    ∙ ap (λ (e : DirectoryEntry). map.get c.self.inside.index.numbers e) (sym c.entry-2.ensures)
    ∙ sym c.get-other.ensures
    ∙ c.in-Some-Some.is-1
