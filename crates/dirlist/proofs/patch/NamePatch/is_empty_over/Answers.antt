use Rattle.std.proofs.Common.{◌≡◌, ℕ, ◌&&◌, Bool, List, Option, sym, ap, ◌∙◌, arith, rules, tests}
use Rattle.std.proofs.lemmas.Iterator.Consumers.{YieldsList-from_rest}
use Rattle.std.proofs.lemmas.Iterator.Search.{all_from_yields_List}
use Rattle.std.specs.Map.{keys_of, values_of}
use Rattle.std.specs.List.{list_all}
use Rattle.std.specs.Option.{is_none, is_some}
use Rattle.model.specs.FiniteMap as finite
use Rattle.model.specs.State.{Name}
use Rattle.dirlist.specs.Listing.{Listing}
use Rattle.dirlist.proofs.Laid.{empty_over, full_over}
use Rattle.dirlist.proofs.patch.NamePatch.is_empty_over.Goals as goal

pub returns-then-len : goal.returns-then-len
returns-then-len c =
    λ names laid.
    full_over c.self.inside.given.entries c.dir.inside.numbers.entries c.self.invariant c.len-2.ensures.unique c.args.self.now c.args.dir.now.names c.self.view_is (ap (λ (d : Listing). d.names) c.dir.view_is) names laid
    (omega arith)

pub returns-then-all : goal.returns-then-all
returns-then-all c =
    λ names laid.
    let gs : List (Name × Option ℕ) = c.self.inside.given.entries in
    let es : List (Name × ℕ) = c.dir.inside.numbers.entries in
    let looked : c.all.result ≡ list_all (λ x. is_some (finite.get c.args.self.now x)) (keys_of es)
    = all_from_yields_List (λ x. is_some (finite.get c.args.self.now x)) _ _ c.all.result c.all.ensures.ran (YieldsList-from_rest (keys_of es) c.keys.ensures.rest) (λ x b q k. search (rules, tests)) in
    let gone : c.all-then-all.result ≡ list_all (λ (v : Option ℕ). is_none v) (values_of gs)
    = all_from_yields_List (λ (v : Option ℕ). is_none v) _ _ c.all-then-all.result c.all-then-all.ensures.ran (YieldsList-from_rest (values_of gs) c.values.ensures.rest) (λ x b q k. search (rules, tests)) in
    gone ∙ ap (λ (b : Bool). b && list_all (λ (v : Option ℕ). is_none v) (values_of gs)) (sym c.if-all.true ∙ looked)
    ∙ empty_over gs es c.self.invariant c.len-2.ensures.unique c.args.self.now c.args.dir.now.names c.self.view_is (ap (λ (d : Listing). d.names) c.dir.view_is) names laid

pub returns-else-all : goal.returns-else-all
returns-else-all c =
    λ names laid.
    let gs : List (Name × Option ℕ) = c.self.inside.given.entries in
    let es : List (Name × ℕ) = c.dir.inside.numbers.entries in
    let looked : c.all.result ≡ list_all (λ x. is_some (finite.get c.args.self.now x)) (keys_of es)
    = all_from_yields_List (λ x. is_some (finite.get c.args.self.now x)) _ _ c.all.result c.all.ensures.ran (YieldsList-from_rest (keys_of es) c.keys.ensures.rest) (λ x b q k. search (rules, tests)) in
    c.if-all.false ∙ ap (λ (b : Bool). b && list_all (λ (v : Option ℕ). is_none v) (values_of gs)) (sym c.if-all.false ∙ looked)
    ∙ empty_over gs es c.self.invariant c.len-2.ensures.unique c.args.self.now c.args.dir.now.names c.self.view_is (ap (λ (d : Listing). d.names) c.dir.view_is) names laid
