use Rattle.std.proofs.Common.{◌≡◌, ◌∙◌, ap, is_some, sym, subst}
use Rattle.model.specs.FiniteMap.{entries, get}
use Rattle.model.proofs.Laws.{get_other, get_same}
use Rattle.store.specs.Numbers.{Numbers, present}
use Rattle.store.specs.declared.Object.TheVariants.{Fixed}
use Rattle.store.specs.Laid.{laid_listing}
use Rattle.store.specs.Places.{altered, with_listing}
use Rattle.store.proofs.Laws.{MayBeNamed}
use Rattle.shadow.specs.Laid.{IsCarriedBy, IsReadyContents, IsReadyDirectory, shown_if}
use Rattle.shadow.proofs.committing.InodeSteps.{laid_elsewhere, laid_here, shown_already, shown_first, then_numbers, then_room, then_shown}
use Rattle.shadow.proofs.laying.lay_inode.Goals as goal
use Rattle.shadow.proofs.laying.lay_inode.Goals.{then-is_some, else-is_some}

ready : (c : goal.After-into_given) → IsReadyDirectory c.args.store.now c.args.num c.args.change c.in-Names.names
ready c = subst (IsReadyContents c.args.store.now c.args.num c.args.change) c.in-Names.is c.requires

shown : (c : goal.After-into_given) → c.if-is_some.store ≡ altered (shown_if (is_some c.args.change.made)) c.args.store.now c.args.num
shown c = elim c.if-is_some.branch [
  | then-is_some w ↦ shown_first (is_some c.args.change.made) c.args.store.now c.if-is_some.store c.args.num (sym c.is_some.ensures ∙ w.if-is_some.true) (w.store-is ∙ w.install.ensures.installed)
  | else-is_some w ↦ shown_already (is_some c.args.change.made) c.args.store.now c.if-is_some.store c.args.num (sym c.is_some.ensures ∙ w.if-is_some.false) w.store-is
]

pub lay-requires-clause-shown : goal.lay-requires-clause-shown
lay-requires-clause-shown c = then_shown c.args.store.now c.if-is_some.store c.args.num c.args.change c.in-Names.names (ready c) (shown c)

pub lay-requires-clause-room : goal.lay-requires-clause-room
lay-requires-clause-room c = then_room c.args.store.now c.if-is_some.store c.args.num c.args.change c.in-Names.names (ready c) (shown c)

pub lay-requires-clause-numbers : goal.lay-requires-clause-numbers
lay-requires-clause-numbers c =
    subst (MayBeNamed c.if-is_some.store) (sym (ap entries c.into_given.ensures))
    (then_numbers c.args.store.now c.if-is_some.store c.args.num c.args.change c.in-Names.names (ready c) (shown c))

-- the notes are laid over the names that are shown then
pub returns-after-is_some-clause-here : goal.returns-after-is_some-clause-here
returns-after-is_some-clause-here c =
    subst (λ w. IsCarriedBy c.args.change w (get c.args.store.now.places c.args.num) (get c.lay.new.self.places c.args.num)) (sym c.in-Names.is)
    (laid_here c.args.store.now c.if-is_some.store c.lay.new.self c.args.num (is_some c.args.change.made) c.in-Names.names c.args.change.promised (shown c.before)
    (c.lay.ensures.laid ∙ ap (λ gs. altered (with_listing (laid_listing gs c.args.change.promised)) c.if-is_some.store c.args.num) (ap entries c.into_given.ensures)))

pub returns-after-is_some-clause-others : goal.returns-after-is_some-clause-others
returns-after-is_some-clause-others c =
    laid_elsewhere c.args.store.now c.if-is_some.store c.lay.new.self c.args.num (is_some c.args.change.made) c.in-Names.names c.args.change.promised (shown c.before)
    (c.lay.ensures.laid ∙ ap (λ gs. altered (with_listing (laid_listing gs c.args.change.promised)) c.if-is_some.store c.args.num) (ap entries c.into_given.ensures))

-- what never changes is shown as it is
pub returns-in-Fixed-clause-here : goal.returns-in-Fixed-clause-here
returns-in-Fixed-clause-here c =
    subst (λ w. IsCarriedBy c.args.change w (get c.args.store.now.places c.args.num) (get c.install_as.new.self.places c.args.num)) (sym c.in-Fixed.is)
    (ap (λ (t : Numbers). get t.places c.args.num) c.install_as.ensures.installed
    ∙ get_same c.args.store.now.places c.args.num (present (Fixed c.in-Fixed.fixed)))

pub returns-in-Fixed-clause-others : goal.returns-in-Fixed-clause-others
returns-in-Fixed-clause-others c = λ n away.
    ap (λ (t : Numbers). get t.places n) c.install_as.ensures.installed
    ∙ get_other c.args.store.now.places c.args.num n (present (Fixed c.in-Fixed.fixed)) away
