-- What effects leave to free: by slots that let go and names that are lost.
use Rattle.std.proofs.Common.{◌≡◌, ◌≢◌, ℕ, ◌+◌, ◌<◌, ◌==◌, cond, List, [], ◌∷◌, ◌++◌, Some, None, ap, ◌∙◌, refl, arith, inl, inr, nat_cmp, ltb-true, eqb-true}
use Rattle.std.specs.Cmp.{nat_cmp_total}
use Rattle.model.specs.FiniteMap.{get}
use Rattle.model.specs.State.{Kernel, Process, links}
use Rattle.model.specs.Changes.{Edit, applied, all_applied, holders, tidy}
use Rattle.model.specs.Effects.{Effect, all_done}
use Rattle.call_laws.specs.Fits.{FitsAll}
use Rattle.call_laws.proofs.Laws.{one_some, some_part, Part, named_in, table_in, held_by}
use Rattle.freeing_laws.specs.Counts.{times, named, unnamed}
use Rattle.freeing_laws.specs.Sweep.{AllFit, IsTidied}
use Rattle.freeing_laws.specs.Left.{all_named, all_unnamed, named_along, unnamed_along, HasSlot, LeftIsTidy}
use Rattle.freeing_laws.proofs.Times.{has_left, times_append}
use Rattle.freeing_laws.proofs.Slots.{holders_shared, holders_cleared}
use Rattle.freeing_laws.proofs.Counts.{counts_change}
use Rattle.freeing_laws.proofs.Losing.{edit_comes}
use Rattle.freeing_laws.proofs.Turns.{Led, edit_leads, all_led, all_turned}
use Rattle.freeing_laws.proofs.Laws.{has_regrouped, nothing_lost}

-- of a count of holders that is not 0 the slot
slot_of : (k : Kernel) (d : ℕ) → 0 < holders k d → HasSlot k d
unfolding holders
slot_of k d some =
    let part : Part nat_cmp (λ (process : Process). named_in d process.table) k.processes = some_part nat_cmp_total (λ (process : Process). named_in d process.table) k.processes some in
    let slot : Part nat_cmp (λ v. cond (v == d) 1 0) part.value.table = some_part nat_cmp_total (λ v. cond (v == d) 1 0) part.value.table part.counts in
    record {
      pid = part.key;
      descriptor = slot.key;
      is = record { gives = ap (λ o. get (table_in o) slot.key) part.gives ∙ slot.gives ∙ ap Some (eqb-true slot.value d (one_some (slot.value == d) slot.counts)) };
    }

held : (k : Kernel) (d : ℕ) → IsTidied k → get k.descriptions d ≢ None → HasSlot k d
held k d t there = elim ((nothing_lost k t.tidied).descriptions d there) [
  | inl is ↦ slot_of k d (ltb-true 0 (holders k d) is)
  | inr has ↦ absurd (let some : 0 < times d [] = has in omega arith)
]

-- along edits in a row, and along effects
edits_lead : (chosen : List ℕ) (es : List Edit) (k : Kernel) (ns : List ℕ) → FitsAll chosen k es → Led ns k → Led (ns ++ all_unnamed es) (all_applied chosen es k)
edits_lead chosen [] k ns f led n there = elim (led n there) [ inl is ↦ inl is | inr has ↦ inr (has_left n ns [] has) ]
edits_lead chosen (e ∷ es) k ns f led n there =
    let counts = counts_change chosen k e f.0 in
    elim (edits_lead chosen es (applied chosen e k) (ns ++ unnamed e) f.1 (edit_leads chosen k e ns counts (edit_comes chosen k e f.0 counts) led) n there) [
      | inl is ↦ inl is
      | inr has ↦ inr (has_regrouped n ns (unnamed e) (all_unnamed es) has)
    ]

effects_lead : (fs : List Effect) (k : Kernel) (ns : List ℕ) → AllFit fs k → Led ns k → Led (ns ++ unnamed_along fs) (all_done fs k)
effects_lead [] k ns f led n there = elim (led n there) [ inl is ↦ inl is | inr has ↦ inr (has_left n ns [] has) ]
effects_lead (e ∷ fs) k ns f led n there =
    let after : Kernel = all_applied e.chosen e.edits k in
    let now : List ℕ = all_unnamed e.edits in
    elim (effects_lead fs after (ns ++ now) f.1 (edits_lead e.chosen e.edits k ns f.0 led) n there) [
      | inl is ↦ inl is
      | inr has ↦ inr (has_regrouped n ns now (unnamed_along fs) has)
    ]

edits_link : (chosen : List ℕ) (es : List Edit) (k : Kernel) → FitsAll chosen k es → (n : ℕ) → links (all_applied chosen es k) n + times n (all_unnamed es) ≡ links k n + times n (all_named chosen es)
edits_link chosen [] k f n = refl
edits_link chosen (e ∷ es) k f n =
    let after : Kernel = applied chosen e k in
    let first : links after n + times n (unnamed e) ≡ links k n + times n (named chosen e) = (counts_change chosen k e f.0).links n in
    let rest : links (all_applied chosen es after) n + times n (all_unnamed es) ≡ links after n + times n (all_named chosen es) = edits_link chosen es after f.1 n in
    let lost : times n (unnamed e ++ all_unnamed es) ≡ times n (unnamed e) + times n (all_unnamed es) = times_append n (unnamed e) (all_unnamed es) in
    let gained : times n (named chosen e ++ all_named chosen es) ≡ times n (named chosen e) + times n (all_named chosen es) = times_append n (named chosen e) (all_named chosen es) in
    omega arith

effects_link : (fs : List Effect) (k : Kernel) → AllFit fs k → (n : ℕ) → links (all_done fs k) n + times n (unnamed_along fs) ≡ links k n + times n (named_along fs)
effects_link [] k f n = refl
effects_link (e ∷ fs) k f n =
    let after : Kernel = all_applied e.chosen e.edits k in
    let now : List ℕ = all_unnamed e.edits in
    let come : List ℕ = all_named e.chosen e.edits in
    let first : links after n + times n now ≡ links k n + times n come = edits_link e.chosen e.edits k f.0 n in
    let rest : links (all_done fs after) n + times n (unnamed_along fs) ≡ links after n + times n (named_along fs) = effects_link fs after f.1 n in
    let lost : times n (now ++ unnamed_along fs) ≡ times n now + times n (unnamed_along fs) = times_append n now (unnamed_along fs) in
    let gained : times n (come ++ named_along fs) ≡ times n come + times n (named_along fs) = times_append n come (named_along fs) in
    omega arith

pub left_is_tidy_lem : LeftIsTidy
left_is_tidy_lem = record {
  closed = λ ds ns k left. all_turned (tidy k) ds ns k (record { tidied = refl; parents = left.parents; set = left.rights; descriptions = left.descriptions; inodes = left.inodes });
  held = held;
  holds = λ k pid f d is. held_by k pid f d is.gives;
  inodes = λ k fs t f. effects_lead fs k [] f (all_led k (nothing_lost k t.tidied));
  links = λ k fs f n. effects_link fs k f n;
  set = holders_shared;
  cleared = holders_cleared;
}
