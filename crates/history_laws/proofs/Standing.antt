-- What stands after each legal history, and the laws of one right entry after it.
use Rattle.std.proofs.Common.{◌≡◌, ℕ, ◌<◌, ◌≤◌, List, [], ◌∷◌, Option, Some, None, refl, sym, ap, subst, true, false, inl, inr, arith}
use Rattle.std.specs.List.{AllByRecursion}
use Rattle.std.proofs.lemmas.Bool.{cases_Bool, or_from, both_ways}
use Rattle.model.specs.Steps.{Touch}
use Rattle.model.specs.Entries.{Entry, Executed, is_inside}
use Rattle.model.specs.Clashes.{clash, clashes, any_clash}
use Rattle.model.specs.Forgetting.{Limit}
use Rattle.model.specs.Moments.{Setup, gone, idle, Moment, is_alive, next, after, after_from, at_start, bound, holds_place, calls_at, held_by, loose_touches}
use Rattle.model.specs.Legal.{Right, LegalFrom, Legal}
use Rattle.call_laws.specs.WellFormed.{WellFormed}
use Rattle.call_laws.specs.CallLaws.{CallLaws}
use Rattle.history_laws.proofs.FromCallLaws.{FromCallLaws}
use Rattle.history_laws.specs.Standing.{AgesStand, Standing, WhatStands}
use Rattle.history_laws.specs.Entered.{OwnAndDoomedMove, ReservedPlacesMove, RestartsBeginAnew, CommitsRunTheList, CallsGoIn, ListsStay}
use Rattle.history_laws.proofs.Membership.{In}
use Rattle.history_laws.proofs.lists.Touches.{NoClash}
use Rattle.history_laws.proofs.lists.UntidiedRuns.{AllInside, goes_well, goes_alive}
use Rattle.history_laws.proofs.entries.Moments.{Sound, held_is}
use Rattle.history_laws.proofs.entries.Places.{Steady}
use Rattle.history_laws.proofs.entries.Kinds.{kind}
use Rattle.history_laws.proofs.Legality.{steady_start, steady_next}
use Rattle.history_laws.proofs.entries.Phases.{phases_move, places_move}
use Rattle.history_laws.proofs.entries.Lists.{stays_after, commit_runs}
use Rattle.history_laws.proofs.entries.OwnStatus.{goes_in, begun_anew, ages_next, Here, here_next}

-- what is kept along a legal history
record Kept (limit : Limit) (m : Moment) : Type 0 where
  pub steady : Steady WellFormed limit m
  pub ages : AgesStand m
  pub here : Here m

kept_next : (laws : CallLaws WellFormed) (limit : Limit) (m : Moment) (e : Entry) → Right limit m e → Kept limit m → Kept limit (next m e)
kept_next laws limit m e right k = record {
  steady = steady_next WellFormed laws limit m e right k.steady;
  ages = ages_next m e (kind limit m e right) (phases_move limit m e right) k.ages;
  here = here_next m e (kind limit m e right) (phases_move limit m e right) k.here;
}

kept_after : (laws : CallLaws WellFormed) (limit : Limit) (m : Moment) (es : List Entry) → LegalFrom limit m es → Kept limit m → Kept limit (after_from m es)
kept_after laws limit m [] legal k = k
kept_after laws limit m (e ∷ es) legal k = kept_after laws limit (next m e) es legal.2 (kept_next laws limit m e legal.1 k)

nothing_aged : (a : ℕ) {A : Type 0} → ◌≡◌ {A = Option ℕ} None (Some a) → A
nothing_aged a h = absurd cc

idle_gone : idle ≡ gone → ⊥
idle_gone h = absurd cc

kept_start : (laws : CallLaws WellFormed) (limit : Limit) (root : ℕ) (setup : Setup) → Kept limit (at_start root setup)
kept_start laws limit root setup = record {
  steady = steady_start WellFormed laws limit root setup;
  ages = record { placed = λ q a h. nothing_aged a h; differ = λ p q a ne h g. nothing_aged a h };
  here = λ q h. idle_gone h;
}

kept_legal : (laws : CallLaws WellFormed) (root : ℕ) (setup : Setup) (limit : Limit) (es : List Entry) → Legal root setup limit es → Kept limit (after root setup es)
unfolding Legal
kept_legal laws root setup limit es legal = kept_after laws limit (at_start root setup) es legal (kept_start laws limit root setup)

pub sound_legal : (laws : CallLaws WellFormed) (root : ℕ) (setup : Setup) (limit : Limit) (es : List Entry) → Legal root setup limit es → Sound WellFormed (after root setup es)
sound_legal laws root setup limit es legal = (kept_legal laws root setup limit es legal).steady.sound

no_clashes : (t : Touch) (us : List Touch) → ((u : Touch) → In u us → clash t u ≡ false) → clashes t us ≡ false
no_clashes t [] none = refl
no_clashes t (u ∷ us) none = or_from (clash t u) (clashes t us) (none u (inl refl)) (no_clashes t us (λ v i. none v (inr i)))

no_clash_at_all : (ts us : List Touch) → NoClash ts us → any_clash ts us ≡ false
no_clash_at_all [] us none = refl
no_clash_at_all (t ∷ ts) us none = or_from (clashes t us) (any_clash ts us) (no_clashes t us (λ u i. none t u (inl refl) i)) (no_clash_at_all ts us (λ x u j i. none x u (inr j) i))

all_inside : (es : List Executed) → AllInside es → AllByRecursion (λ d. is_inside d.call ≡ true) es
all_inside [] h = tt
all_inside (e ∷ es) h = (h.0, all_inside es h.1)

stands : (laws : CallLaws WellFormed) (limit : Limit) (m : Moment) → Kept limit m → Standing limit m
stands laws limit m k = record {
  committed = record { well = s.lists.well; tidied = s.lists.tidied };
  phases = record { processes = k.steady.beyond; alive = lives; below = below; here = k.here };
  lists = λ q. record {
    goes = s.lists.goes q;
    well = goes_well WellFormed laws q m.committed (calls_at m q) s.lists.well (s.lists.goes q);
    alive = λ lives_too. goes_alive WellFormed laws q m.committed (calls_at m q) (s.lists.inside q) lives_too (s.lists.goes q);
    inside = all_inside (calls_at m q) (s.lists.inside q);
    nowhere = (s.lists.fresh q).nowhere;
  };
  apart = λ p q ne. record {
    no_clash = subst (λ ts. any_clash ts (held_by m q) ≡ false) (sym (held_is WellFormed laws m s p)) (subst (λ us. any_clash (loose_touches p (calls_at m p) m.committed) us ≡ false) (sym (held_is WellFormed laws m s q)) (no_clash_at_all _ _ (s.lists.peace p q ne)));
    numbers_apart = s.lists.apart p q ne;
  };
  ages = k.ages;
  places = k.steady.placed;
} where
  s : Sound WellFormed m
  s = k.steady.sound

  lives : (q : ℕ) → holds_place (m.phase q) ≡ true → is_alive m.committed q ≡ true
  lives q holds = elim (cases_Bool (is_alive m.committed q)) [
    | inl alive ↦ alive
    | inr dead ↦ absurd (both_ways (holds_place (m.phase q)) (ap holds_place (k.steady.beyond q dead)) holds)
  ]

  below : (q : ℕ) → holds_place (m.phase q) ≡ true → q < bound m
  below q holds = (let low : q ≤ m.committed.made = laws.alive_counted m.committed k.steady.sound.lists.well q (lives q holds) in omega arith)

pub what_stands : FromCallLaws WhatStands
what_stands laws root setup limit es legal = stands laws limit (after root setup es) (kept_legal laws root setup limit es legal)

pub own_and_doomed_move : OwnAndDoomedMove
own_and_doomed_move root setup limit es e legal right = phases_move limit (after root setup es) e right

pub reserved_places_move : FromCallLaws ReservedPlacesMove
reserved_places_move laws root setup limit es e legal right =
    let k = kept_legal laws root setup limit es legal in
    places_move WellFormed laws limit (after root setup es) e right k.steady (kept_next laws limit (after root setup es) e right k).steady

pub restarts_begin_anew : RestartsBeginAnew
restarts_begin_anew root setup limit es e legal right again = begun_anew (after root setup es) e (kind limit (after root setup es) e right) again

pub commits_run_the_list : FromCallLaws CommitsRunTheList
commits_run_the_list laws root setup limit es e legal right said =
    commit_runs WellFormed laws (after root setup es) e (kept_legal laws root setup limit es legal).steady.sound (kind limit (after root setup es) e right) said

pub calls_go_in : FromCallLaws CallsGoIn
calls_go_in laws root setup limit es e legal right call flags age calls answer is_phase is_op is_answer =
    let k = kept_legal laws root setup limit es legal in
    goes_in WellFormed laws (after root setup es) e k.steady.sound (kept_next laws limit (after root setup es) e right k).steady.sound call flags age calls answer is_phase is_op is_answer (kind limit (after root setup es) e right)

pub lists_stay : FromCallLaws ListsStay
lists_stay laws root setup limit es e legal right q same =
    let k = kept_legal laws root setup limit es legal in
    stays_after WellFormed laws (after root setup es) e k.steady.sound (kept_next laws limit (after root setup es) e right k).steady.sound (kind limit (after root setup es) e right) q same
