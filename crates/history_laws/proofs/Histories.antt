-- What holds of all legal histories, of the moments along them.
use Rattle.std.proofs.Common.{◌≡◌, ℕ, ◌+◌, ◌≤◌, ◌⊎◌, List, [], ◌∷◌, ◌++◌, length, refl, sym, ◌∙◌, ap, subst, zero-add, Bool, true, false, eqb}
use Rattle.std.specs.Prelude.{if◌then◌else◌}
use Rattle.std.specs.List.{AllByRecursion}
use Rattle.call_laws.specs.Objects.{IsThere}
use Rattle.model.specs.Steps.{Touch}
use Rattle.model.specs.Laws.{GoesTheSame}
use Rattle.model.specs.Forgetting.{limit_at}
use Rattle.model.specs.Moments.{Moment, after, at_start, loose, loose_touches, calls_at, held_by, numbers, is_in, reserved}
use Rattle.model.specs.Legal.{LegalFrom, Legal, mine}
use Rattle.call_laws.specs.CallLaws.{CallLaws, object_of}
use Rattle.call_laws.specs.WellFormed.{WellFormed}
use Rattle.history_laws.proofs.FromCallLaws.{FromCallLaws}
use Rattle.history_laws.specs.Histories.{RightEntriesKeepHistoriesLegal, CommittedIsSerial, PlacesSuffice, BeginningsAreLegal, OwnEntriesGrow, AfterOneMore, MayBeLoose, ViewsMayBeLoose, TouchedObjectsStay}
use Rattle.history_laws.proofs.Membership.{all_from}
use Rattle.history_laws.proofs.lists.UntidiedRuns.{goes_well, goes_there}
use Rattle.history_laws.proofs.entries.Moments.{Sound, seen_is, held_is}
use Rattle.history_laws.proofs.Beginnings.{entries_after}
use Rattle.history_laws.proofs.Legality.{steady_start, steady_after, serial_after, legal_more, legal_before, after_more}

pub legal : FromCallLaws RightEntriesKeepHistoriesLegal
unfolding Legal
legal laws root setup limit es e is right = legal_more WellFormed laws limit (at_start root setup) es e (steady_start WellFormed laws limit root setup) is right

pub serial_is : FromCallLaws CommittedIsSerial
unfolding Legal
serial_is laws root setup limit es is = serial_after WellFormed laws limit (at_start root setup) es is (steady_start WellFormed laws limit root setup)

pub places : FromCallLaws PlacesSuffice
unfolding Legal
places laws root setup limit es is =
    let steady = steady_after WellFormed laws limit (at_start root setup) es is (steady_start WellFormed laws limit root setup) in
    let count : (after root setup es).entries ≡ length es = entries_after (at_start root setup) es ∙ zero-add (length es) in
    subst (λ n. n + reserved (after root setup es) ≤ limit_at limit n) count steady.placed

pub beginnings : BeginningsAreLegal
unfolding Legal
beginnings root setup limit es fs before is = legal_before limit (at_start root setup) es before.0 (subst (LegalFrom limit (at_start root setup)) before.1 is)

pub own_entries : OwnEntriesGrow
own_entries pid [] e = at_test (eqb e.pid pid) where
  at_test : (b : Bool) → (if b then e ∷ [] else []) ≡ [] ++ (if b then e ∷ [] else [])
  at_test b = refl
own_entries pid (d ∷ es) e = at_test (eqb d.pid pid) (own_entries pid es e) where
  at_test : (b : Bool) → mine pid (es ++ e ∷ []) ≡ mine pid es ++ (if eqb e.pid pid then e ∷ [] else [])
      → (if b then d ∷ mine pid (es ++ e ∷ []) else mine pid (es ++ e ∷ [])) ≡ (if b then d ∷ mine pid es else mine pid es) ++ (if eqb e.pid pid then e ∷ [] else [])
  at_test true h = ap (λ xs. d ∷ xs) h
  at_test false h = h

pub one_more : AfterOneMore
one_more root setup es e = after_more (at_start root setup) es e

loose_view : (laws : CallLaws WellFormed) (m : Moment) → Sound WellFormed m → (q : ℕ) → MayBeLoose m q
loose_view laws m sound q = record {
  seen = seen_is WellFormed laws m sound q;
  held = held_is WellFormed laws m sound q;
  goes_on = λ call. subst (λ k. GoesTheSame (loose q (calls_at m q) m.committed) k q call) (sym (seen_is WellFormed laws m sound q))
      (laws.tidy_unseen (loose q (calls_at m q) m.committed) q call (goes_well WellFormed laws q m.committed (calls_at m q) sound.lists.well (sound.lists.goes q)));
}

pub views : FromCallLaws ViewsMayBeLoose
unfolding Legal
views laws root setup limit es is q = loose_view laws (after root setup es) (steady_after WellFormed laws limit (at_start root setup) es is (steady_start WellFormed laws limit root setup)).sound q

abbrev Stays : Moment → ℕ → List Touch → Type 0
Stays m q ts = AllByRecursion (λ t. IsThere m.committed t.aspect ⊎ (is_in (object_of t.aspect) (numbers (calls_at m q)) ≡ true)) ts

touched_there : (laws : CallLaws WellFormed) (m : Moment) → Sound WellFormed m → (q : ℕ) → Stays m q (held_by m q)
touched_there laws m sound q = subst (Stays m q) (sym (held_is WellFormed laws m sound q))
    (all_from (λ t. IsThere m.committed t.aspect ⊎ (is_in (object_of t.aspect) (numbers (calls_at m q)) ≡ true)) (loose_touches q (calls_at m q) m.committed) (goes_there WellFormed laws q m.committed (calls_at m q) (sound.lists.goes q)))

pub touched : FromCallLaws TouchedObjectsStay
unfolding Legal
touched laws root setup limit es is q = touched_there laws (after root setup es) (steady_after WellFormed laws limit (at_start root setup) es is (steady_start WellFormed laws limit root setup)).sound q
