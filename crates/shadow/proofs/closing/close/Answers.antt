use Rattle.std.proofs.Common.{◌≡◌, Some, sym, ap, subst, ◌∙◌}
use Rattle.model.specs.FiniteMap.{get}
use Rattle.model.specs.State.{Description}
use Rattle.freeing_laws.specs.Counts.{free_description, free_inode}
use Rattle.store.specs.Numbers.{Numbers}
use Rattle.store.specs.Places.{altered, less_openings, with_file}
use Rattle.store.specs.Shown.{descriptions}
use Rattle.shadow.specs.Laid.{Frees, Holds}
use Rattle.shadow.proofs.freeing.RemovedObjects.{closes, closes_nothing, description_bare, description_unnamed, frees_description, stays_held}
use Rattle.shadow.proofs.closing.close.Goals as goal
use Rattle.shadow.proofs.closing.close.Goals.{then-holders-eq0, else-holders-eq0}
use Rattle.shadow.specs.Stored.{Processes}

pub lose-requires-clause-unnamed : goal.lose-requires-clause-unnamed
lose-requires-clause-unnamed c = description_unnamed c.requires.0 c.args.store.now c.args.num c.in-Some.description c.requires.1 (sym c.description.ensures ∙ c.in-Some.is)

pub lose-requires-clause-bare : goal.lose-requires-clause-bare
lose-requires-clause-bare c = description_bare c.requires.0 c.args.store.now c.args.num c.in-Some.description c.requires.1 (sym c.description.ensures ∙ c.in-Some.is)

pub free-requires : goal.free-requires
free-requires c =
    let s : Numbers = c.args.store.now in
    let it : Description = c.in-Some.description in
    let is : get (descriptions s) c.args.num ≡ Some it = sym c.description.ensures ∙ c.in-Some.is in
    let ps : Processes = c.requires.0 in
    let holds : Holds ps s = c.requires.1 in
    let first : Frees (free_description c.args.num) ps s c.if-holders-eq0.store = elim c.if-holders-eq0.branch [
      | then-holders-eq0 w ↦ subst (Frees (free_description c.args.num) ps s) (sym w.store-is)
          (frees_description ps s c.args.num it holds is (sym c.holders.ensures ∙ w.if-holders-eq0.true) w.lose.new.self w.remove_opening.new.self
          w.lose.ensures.lost (w.remove_opening.ensures.counted ∙ ap (altered (with_file less_openings) w.lose.new.self) c.inode_in-inode.ensures)
          w.remove_opening.ensures.shown w.remove_opening.ensures.open)
      | else-holders-eq0 w ↦ subst (Frees (free_description c.args.num) ps s) (sym w.store-is) (stays_held ps s c.args.num it holds is (λ e. w.if-holders-eq0.false (c.holders.ensures ∙ e)))
    ] in
    (ps, first.holds)

pub returns-after-holders-eq0 : goal.returns-after-holders-eq0
returns-after-holders-eq0 c = λ ps holds.
    let s : Numbers = c.args.store.now in
    let it : Description = c.in-Some.description in
    let is : get (descriptions s) c.args.num ≡ Some it = sym c.description.ensures ∙ c.in-Some.is in
    let first : Frees (free_description c.args.num) ps s c.if-holders-eq0.store = elim c.if-holders-eq0.branch [
      | then-holders-eq0 w ↦ subst (Frees (free_description c.args.num) ps s) (sym w.store-is)
          (frees_description ps s c.args.num it holds is (sym c.holders.ensures ∙ w.if-holders-eq0.true) w.lose.new.self w.remove_opening.new.self
          w.lose.ensures.lost (w.remove_opening.ensures.counted ∙ ap (altered (with_file less_openings) w.lose.new.self) c.inode_in-inode.ensures)
          w.remove_opening.ensures.shown w.remove_opening.ensures.open)
      | else-holders-eq0 w ↦ subst (Frees (free_description c.args.num) ps s) (sym w.store-is) (stays_held ps s c.args.num it holds is (λ e. w.if-holders-eq0.false (c.holders.ensures ∙ e)))
    ] in
    closes ps s c.if-holders-eq0.store c.free.new.store c.args.num it is first
    (subst (λ n. Frees (free_inode n) ps c.if-holders-eq0.store c.free.new.store) c.inode_in-inode.ensures (c.free.ensures ps first.holds))

pub returns-in-None : goal.returns-in-None
returns-in-None c = λ ps holds. closes_nothing ps c.args.store.now c.args.num holds (sym c.description.ensures ∙ c.in-None.is)
