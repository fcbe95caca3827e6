use Rattle.std.proofs.Common.{◌≢◌, ℕ, [], None, subst, sym, ◌∙◌}
use Rattle.std.proofs.lemmas.List.{with_items_is}
use Rattle.model.specs.FiniteMap.{get}
use Rattle.notes.specs.Patches.{kept_at, slots_in}
use Rattle.shadow.specs.Stored.{numbered}
use Rattle.shadow.proofs.committing.AllSteps.{can_commit, has_all, has_inodes, has_kept, has_state}
use Rattle.shadow.proofs.committing.AllSteps.{holds_first, holds_second, is_sound}
use Rattle.shadow.proofs.committing.Readiness.{ready, slots_alive}
use Rattle.shadow.proofs.committing.RightsSteps.{can_set}
use Rattle.shadow.proofs.shadow.Shadow.commit_into.Goals as goal

pub lay_inodes_with_rights-requires-clause-ready : goal.lay_inodes_with_rights-requires-clause-ready
lay_inodes_with_rights-requires-clause-ready c =
    ready
    (can_commit c.stable.invariant c.stable.view_is c.self.invariant c.self.view_is
    c.patches.view_is c.requires.fits c.requires.covers)

pub lay_inodes_with_rights-requires-clause-set : goal.lay_inodes_with_rights-requires-clause-set
lay_inodes_with_rights-requires-clause-set c =
    can_set
    (can_commit c.stable.invariant c.stable.view_is c.self.invariant c.self.view_is
    c.patches.view_is c.requires.fits c.requires.covers)

pub lay_openings-requires : goal.lay_openings-requires
lay_openings-requires c =
    (has_inodes
    (can_commit c.stable.invariant c.stable.view_is c.self.invariant c.self.view_is
    c.patches.view_is c.requires.fits c.requires.covers)
    (record {
      root = c.lay_inodes_with_rights.ensures.root;
      rights = c.lay_inodes_with_rights.ensures.rights;
      places = c.lay_inodes_with_rights.ensures.places;
    })).coming

pub lay_slots-requires-clause-living : goal.lay_slots-requires-clause-living
lay_slots-requires-clause-living c =
    subst (λ es. (pid : ℕ) → slots_in (kept_at es pid) ≢ [] → get (numbered c.stable.inside.processes) pid ≢ None)
    (sym (c.as_mut_slice.ensures.value ∙ c.into_parts-each.ensures.each))
    (slots_alive
    (can_commit c.stable.invariant c.stable.view_is c.self.invariant c.self.view_is
    c.patches.view_is c.requires.fits c.requires.covers))

pub close_former-requires : goal.close_former-requires
close_former-requires c = (
  c.lay_slots.new.processes,
  (has_all
      (can_commit c.stable.invariant c.stable.view_is c.self.invariant c.self.view_is
      c.patches.view_is c.requires.fits c.requires.covers)
      (record {
        root = c.lay_inodes_with_rights.ensures.root;
        rights = c.lay_inodes_with_rights.ensures.rights;
        places = c.lay_inodes_with_rights.ensures.places;
      })
      c.lay_openings.ensures (c.as_mut_slice.ensures.value ∙ c.into_parts-each.ensures.each) c.lay_slots.ensures.laid).holds,
)

pub close_new-requires : goal.close_new-requires
close_new-requires c = (
  c.lay_slots.new.processes,
  holds_first
      (can_commit c.stable.invariant c.stable.view_is c.self.invariant c.self.view_is
      c.patches.view_is c.requires.fits c.requires.covers)
      (record {
        root = c.lay_inodes_with_rights.ensures.root;
        rights = c.lay_inodes_with_rights.ensures.rights;
        places = c.lay_inodes_with_rights.ensures.places;
      })
      c.lay_openings.ensures (c.as_mut_slice.ensures.value ∙ c.into_parts-each.ensures.each) c.lay_slots.ensures.laid (c.as_slice.ensures.value ∙ with_items_is c.into_parts-each.result.0 c.lay_slots.new.each (c.lay_slots.auto.each ∙ c.as_mut_slice.ensures.len)) c.close_former.ensures,
)

pub free_all-requires : goal.free_all-requires
free_all-requires c = (
  c.lay_slots.new.processes,
  holds_second
      (can_commit c.stable.invariant c.stable.view_is c.self.invariant c.self.view_is
      c.patches.view_is c.requires.fits c.requires.covers)
      (record {
        root = c.lay_inodes_with_rights.ensures.root;
        rights = c.lay_inodes_with_rights.ensures.rights;
        places = c.lay_inodes_with_rights.ensures.places;
      })
      c.lay_openings.ensures (c.as_mut_slice.ensures.value ∙ c.into_parts-each.ensures.each) c.lay_slots.ensures.laid (c.as_slice.ensures.value ∙ with_items_is c.into_parts-each.result.0 c.lay_slots.new.each (c.lay_slots.auto.each ∙ c.as_mut_slice.ensures.len)) c.close_former.ensures c.close_new.ensures,
)

pub invariant_of-stable : goal.invariant_of-stable
invariant_of-stable c =
    is_sound
    (can_commit c.stable.invariant c.stable.view_is c.self.invariant c.self.view_is
    c.patches.view_is c.requires.fits c.requires.covers)
    (record {
      root = c.lay_inodes_with_rights.ensures.root;
      rights = c.lay_inodes_with_rights.ensures.rights;
      places = c.lay_inodes_with_rights.ensures.places;
    })
    c.lay_openings.ensures (c.as_mut_slice.ensures.value ∙ c.into_parts-each.ensures.each) c.lay_slots.ensures.laid
    (c.as_slice.ensures.value ∙ with_items_is c.into_parts-each.result.0 c.lay_slots.new.each (c.lay_slots.auto.each ∙ c.as_mut_slice.ensures.len)) c.close_former.ensures c.close_new.ensures c.free_all.ensures

pub returns-clause-state : goal.returns-clause-state
returns-clause-state c =
    has_state
    (can_commit c.stable.invariant c.stable.view_is c.self.invariant c.self.view_is
    c.patches.view_is c.requires.fits c.requires.covers)
    (record {
      root = c.lay_inodes_with_rights.ensures.root;
      rights = c.lay_inodes_with_rights.ensures.rights;
      places = c.lay_inodes_with_rights.ensures.places;
    })
    c.lay_openings.ensures (c.as_mut_slice.ensures.value ∙ c.into_parts-each.ensures.each) c.lay_slots.ensures.laid
    (c.as_slice.ensures.value ∙ with_items_is c.into_parts-each.result.0 c.lay_slots.new.each (c.lay_slots.auto.each ∙ c.as_mut_slice.ensures.len)) c.close_former.ensures c.close_new.ensures c.free_all.ensures
    c.stable.view_is

pub returns-clause-kept : goal.returns-clause-kept
returns-clause-kept c =
    has_kept
    (can_commit c.stable.invariant c.stable.view_is c.self.invariant c.self.view_is
    c.patches.view_is c.requires.fits c.requires.covers)
    (record {
      root = c.lay_inodes_with_rights.ensures.root;
      rights = c.lay_inodes_with_rights.ensures.rights;
      places = c.lay_inodes_with_rights.ensures.places;
    })
    c.lay_openings.ensures (c.as_mut_slice.ensures.value ∙ c.into_parts-each.ensures.each) c.lay_slots.ensures.laid
    (c.as_slice.ensures.value ∙ with_items_is c.into_parts-each.result.0 c.lay_slots.new.each (c.lay_slots.auto.each ∙ c.as_mut_slice.ensures.len)) c.close_former.ensures c.close_new.ensures c.free_all.ensures
    c.stable.view_is
