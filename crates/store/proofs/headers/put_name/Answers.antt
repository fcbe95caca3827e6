use Rattle.std.proofs.Common.{◌≡◌, ◌-◌, ap, ◌∙◌, arith}
use Rattle.model.specs.FiniteMap as map
use Rattle.dirlist.specs.Listing.{Listing}
use Rattle.store.proofs.Names.{get-removed, insert-removed}
use Rattle.store.proofs.headers.put_name.Goals as goal

pub insert_promised-requires-clause-absent : goal.insert_promised-requires-clause-absent
insert_promised-requires-clause-absent c =
    ap (λ (l : Listing). map.get l.names c.args.name) c.remove-former.ensures.rest ∙ get-removed c.args.dir.now.names c.args.name

pub returns-clause-put : goal.returns-clause-put
returns-clause-put c =
    let names : c.insert_promised.new.self.names ≡ map.insert c.args.dir.now.names c.args.name c.args.num = c.insert_promised.ensures.names ∙ ap (λ (l : Listing). map.insert l.names c.args.name c.args.num) c.remove-former.ensures.rest ∙ insert-removed c.args.dir.now.names c.args.name c.args.num in
    let kept : c.remove-former.new.self.promised ≡ c.args.dir.now.promised = ap (λ (l : Listing). l.promised) c.remove-former.ensures.rest in
    let promised : c.insert_promised.new.self.promised ≡ c.args.dir.now.promised - 1 = omega (arith, kept, c.insert_promised.ensures.promised) in
    λ i. record { names = names i; promised = promised i }
