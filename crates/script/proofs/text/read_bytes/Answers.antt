use Rattle.std.proofs.Common.{rules, ◌≡◌, ◌∷◌, ◌++◌, [], Some, sym, ◌∙◌, List, ℕ, ap}
use Rattle.script.specs.Texts.{bytes_after, first_of}
use Rattle.script.proofs.Escapes.{at_more}
use Rattle.script.proofs.text.read_bytes.Goals as goal

pub loop-rest-preserved : goal.loop-rest-preserved
loop-rest-preserved c =
    let first : first_of c.loop-rest.rest.now ≡ Some (c.in-Some.byte, c.in-Some.behind.now) = search rules in
    let items : c.push.new.self.items ≡ c.loop-rest.bytes.items ++ c.in-Some.byte ∷ [] = search rules in
    c.loop-rest.invariant ∙ at_more c.loop-rest.bytes.items c.loop-rest.rest.now c.in-Some.byte c.in-Some.behind.now first
    ∙ ap (λ (done : List ℕ). bytes_after done c.in-Some.behind.now) (sym items)
