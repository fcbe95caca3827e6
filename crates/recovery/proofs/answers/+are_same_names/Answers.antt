use Rattle.std.proofs.Common.{◌≡◌, true, false, ◌∷◌, ◌∙◌, List, sym, ap, ap₂}
use Rattle.std.proofs.lemmas.Bool.Decides.{Decides-at, Decides-eqb}
use Rattle.std.proofs.lemmas.Slice.Eq.{slice_eq-Decides}
use Rattle.model.specs.State.{Name}
use Rattle.recovery.proofs.Names.{front, none_are, rest_of, same_first}
use Rattle.recovery.proofs.answers.+are_same_names.Goals as goal

pub returns-then-eq : goal.returns-then-eq
returns-then-eq t c = (
  λ told.
      let first : c.name-item.result ≡ c.other-item.result = sym c.as_slice.ensures ∙ (slice_eq-Decides Decides-eqb c.as_slice.result.now c.as_slice-2.result.now c.eq.result c.eq.ensures).0 c.if-eq.true ∙ c.as_slice-2.ensures in
      sym (front c.args.names.now c.name-item.result c.in-len1-up.len_at_least c.name-item.is)
      ∙ ap₂ (λ (x : Name) (rest : List Name). x ∷ rest) first (c.are_same_names.ensures.0 told)
      ∙ front c.args.others.now c.other-item.result c.in-len1-up-others.len_at_least c.other-item.is,
  λ same. c.are_same_names.ensures.1 (ap rest_of same),
)

pub returns-else-eq : goal.returns-else-eq
returns-else-eq t c = (
  λ told. absurd (let wrong : true ≡ false = sym told ∙ c.if-eq.false in cc),
  λ same.
      let first : c.name-item.result ≡ c.other-item.result = same_first c.args.names.now c.args.others.now c.name-item.result c.other-item.result c.in-len1-up.len_at_least c.name-item.is c.in-len1-up-others.len_at_least c.other-item.is same in
      (slice_eq-Decides Decides-eqb c.as_slice.result.now c.as_slice-2.result.now c.eq.result c.eq.ensures).1 (c.as_slice.ensures ∙ first ∙ sym c.as_slice-2.ensures),
)

pub returns-in_default : goal.returns-in_default
returns-in_default t c = Decides-at c.is_empty.result _ c.is_empty.ensures (none_are c.args.names.now c.args.others.now c.in_default.len_below)
