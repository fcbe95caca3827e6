-- The edits of calls on names fit: mkdir, symlink, mknod, rmdir, link, unlink, rename and exchange.
use Rattle.std.proofs.Common.{◌≡◌, ◌≢◌, ℕ, Bool, true, false, not, ◌&&◌, List, [], ◌∷◌, Option, Some, None, IfOk, refl, sym, subst, ◌∙◌, arith, ◌==◌}
use Rattle.model.specs.FiniteMap.{get, keys}
use Rattle.model.specs.State.{Name, Kind, A_file, A_directory, A_pipe, A_link, A_fifo, A_socket, Fixed_content, Kernel, kind_of, names_of, links}
use Rattle.model.specs.Plan.{Errno, Plan, Give, given, ◌>>=◌, ◌>>◌, ask, List_names, refuse_if, or_refuse, ENOENT, ENOTDIR, ENOTEMPTY, EBUSY, EPERM, EINVAL, EISDIR}
use Rattle.model.specs.Paths.{is_empty, is_below}
use Rattle.model.specs.Walks.{Place, is_directory, is_link, Last, last_of}
use Rattle.model.specs.Changes.{Make_directory, Make_fixed, Name_file, Unname_file, Unname_directory, Move, Swap}
use Rattle.model.specs.Changes.{Replaced, Over_nothing, Over_file, Over_directory}
use Rattle.model.specs.Calls.{Done}
use Rattle.model.specs.Plans.{Change, changed, unchanged, absent, status, is_special, replaced_by_name, moved, swapped}
use Rattle.call_laws.specs.WellFormed.{CanBeLinked, Leads, WellFormed}
use Rattle.call_laws.specs.Fits.{CanMove, CanBeReplaced, IsAlive}
use Rattle.std.proofs.lemmas.Bool.{not-false}
use Rattle.call_laws.proofs.calls.Rules.{after_bind, weaken, allowed, either_given, IsPlace, IsLast, entry_place, last_of_right}
use Rattle.call_laws.proofs.calls.NoRing.{IsLedTo, last_of_led, no_ring_by_test, no_ring_by_kind}
use Rattle.call_laws.proofs.calls.WillFit.{WillFit, nowhere_at, listed_at, nothing_given, given_there, no_keys, not_same, some_kind, both_ok, unchanged_fits}

module _ (k : Kernel) (well : WellFormed k) (pid : ℕ) (alive : IsAlive k pid) (inside : Bool) (chosen : List ℕ) where
  abbrev Fine : Change → Type 0
  Fine = WillFit k pid inside chosen

  -- directories
  pub mkdir_at : (at : Last) → IsLast k at → (o : Option Place) → at.found ≡ o → IfOk (given k (absent o >>= (λ _. changed Done (Make_directory at.parent at.name 0 ∷ [])))) Fine
  mkdir_at at last (Some place) e = tt
  mkdir_at at last None e = record {
    fits = λ can. ((record { parent = last.parent; free = nothing_given k (get (names_of k at.parent) at.name) (sym last.found ∙ e) }, nowhere_at k chosen 0 (omega (arith, can.count)) can.unused, listed_at chosen 0 (omega (arith, can.count))), tt);
    by = (tt, tt);
    there = (last.parent.directory, tt);
  }

  -- what never changes
  pub fixed_at : (at : Last) (fixed : Fixed_content) → IsLast k at → (o : Option Place) → at.found ≡ o → IfOk (given k (absent o >>= (λ _. changed Done (Make_fixed at.parent at.name fixed 0 ∷ [])))) Fine
  fixed_at at fixed last (Some place) e = tt
  fixed_at at fixed last None e = record {
    fits = λ can. ((record { parent = last.parent; free = nothing_given k (get (names_of k at.parent) at.name) (sym last.found ∙ e) }, nowhere_at k chosen 0 (omega (arith, can.count)) can.unused, listed_at chosen 0 (omega (arith, can.count))), tt);
    by = (tt, tt);
    there = (last.parent.directory, tt);
  }

  pub rmdir_at : (at : Last) → IsLast k at → (o : Option Place) → at.found ≡ o → IfOk (given k (or_refuse ENOENT o >>= (λ what. refuse_if (not (is_directory what)) ENOTDIR >> (ask (List_names what.0) >>= (λ entries. refuse_if (not (is_empty entries)) ENOTEMPTY >> changed Done (Unname_directory at.parent at.name what.0 ∷ [])))))) Fine
  rmdir_at at last None e = tt
  rmdir_at at last (Some (n, None)) e = tt
  rmdir_at at last (Some (n, Some A_file)) e = tt
  rmdir_at at last (Some (n, Some A_pipe)) e = tt
  rmdir_at at last (Some (n, Some A_link)) e = tt
  rmdir_at at last (Some (n, Some A_fifo)) e = tt
  rmdir_at at last (Some (n, Some A_socket)) e = tt
  rmdir_at at last (Some (n, Some A_directory)) e =
      let there = given_there k (n, Some A_directory) (get (names_of k at.parent) at.name) (sym last.found ∙ e) in
      allowed k Fine (not (is_empty (keys (names_of k n)))) ENOTEMPTY (changed Done (Unname_directory at.parent at.name n ∷ [])) (λ empty. record {
        fits = λ can. ((record { parent = last.parent; gives = there.0; kind = there.1 }, no_keys (keys (names_of k n)) (not-false (is_empty (keys (names_of k n))) empty)), tt);
        by = (tt, tt);
        there = (last.parent.directory, tt);
      })

  pub status_fits : (place : Place) → IfOk (given k (status place)) Fine
  status_fits (n, None) = tt
  status_fits (n, Some A_file) = unchanged_fits k pid inside chosen _
  status_fits (n, Some A_directory) = unchanged_fits k pid inside chosen _
  status_fits (n, Some A_pipe) = unchanged_fits k pid inside chosen _
  status_fits (n, Some A_link) = unchanged_fits k pid inside chosen _
  status_fits (n, Some A_fifo) = unchanged_fits k pid inside chosen _
  status_fits (n, Some A_socket) = unchanged_fits k pid inside chosen _

  -- names of what may have several
  pub not_directory : (P : Change → Type 0) (what : Place) (e : Errno) (rest : Plan Change) → IsPlace k what → (CanBeLinked (kind_of k what.0) → IfOk (given k rest) P) → IfOk (given k (refuse_if (is_directory what) e >> rest)) P
  not_directory P (n, None) e rest place h = absurd place.can_be_named
  not_directory P (n, Some A_pipe) e rest place h = absurd place.can_be_named
  not_directory P (n, Some A_directory) e rest place h = tt
  not_directory P (n, Some A_file) e rest place h = h (subst CanBeLinked place.right tt)
  not_directory P (n, Some A_link) e rest place h = h (subst CanBeLinked place.right tt)
  not_directory P (n, Some A_fifo) e rest place h = h (subst CanBeLinked place.right tt)
  not_directory P (n, Some A_socket) e rest place h = h (subst CanBeLinked place.right tt)

  -- a file and nothing else
  pub file_alone : (P : Change → Type 0) (what : Place) (e f g : Errno) (rest : Plan Change) → IsPlace k what → (kind_of k what.0 ≡ Some A_file → IfOk (given k rest) P) → IfOk (given k (refuse_if (is_directory what) e >> (refuse_if (is_link what) f >> (refuse_if (is_special what) g >> rest)))) P
  file_alone P (n, None) e f g rest place h = absurd place.can_be_named
  file_alone P (n, Some A_pipe) e f g rest place h = absurd place.can_be_named
  file_alone P (n, Some A_directory) e f g rest place h = tt
  file_alone P (n, Some A_link) e f g rest place h = tt
  file_alone P (n, Some A_fifo) e f g rest place h = tt
  file_alone P (n, Some A_socket) e f g rest place h = tt
  file_alone P (n, Some A_file) e f g rest place h = h (sym place.right)

  pub link_at : (n : ℕ) (at : Last) → CanBeLinked (kind_of k n) → links k n ≢ 0 → IsLast k at → (o : Option Place) → at.found ≡ o → IfOk (given k (absent o >>= (λ _. changed Done (Name_file at.parent at.name n ∷ [])))) Fine
  link_at n at linked some last (Some place) e = tt
  link_at n at linked some last None e = record {
    fits = λ can. ((record { parent = last.parent; free = nothing_given k (get (names_of k at.parent) at.name) (sym last.found ∙ e) }, linked, some), tt);
    by = (tt, tt);
    there = (last.parent.directory, (linked, tt));
  }

  pub unlink_at : (at : Last) → IsLast k at → (o : Option Place) → at.found ≡ o → IfOk (given k (or_refuse ENOENT o >>= (λ what. refuse_if (is_directory what) EPERM >> changed Done (Unname_file at.parent at.name what.0 ∷ [])))) Fine
  unlink_at at last None e = tt
  unlink_at at last (Some what) e =
      let there = given_there k what (get (names_of k at.parent) at.name) (sym last.found ∙ e) in
      not_directory Fine what EPERM (changed Done (Unname_file at.parent at.name what.0 ∷ [])) (entry_place k well at.parent at.name what (sym last.found ∙ e)) (λ linked. record {
        fits = λ can. (record { parent = last.parent; gives = there.0; kind = linked }, tt);
        by = (tt, tt);
        there = (last.parent.directory, (linked, tt));
      })

  -- a name that moves
  can_move : (at onto : Last) (n : ℕ) (what : Kind) (old : Option ℕ) (replaced : Replaced) → IsLast k at → IsLast k onto → get (names_of k at.parent) at.name ≡ Some n → kind_of k n ≡ Some what
      → get (names_of k onto.parent) onto.name ≡ old → ((path : List Name) → Leads k n path onto.parent → ⊥) → CanBeReplaced k n old replaced → CanMove k at.parent at.name onto.parent onto.name n replaced
  can_move at onto n what old replaced last last_onto gives is was ring can = record {
    what = what;
    from = record { parent = last.parent; gives = gives; kind = is };
    onto = last_onto.parent;
    old = old;
    gives = was;
    replaces = can;
    no_ring = ring;
  }

  over_linked : (at onto : Last) (what : Place) (m : ℕ) → IsLast k at → IsLast k onto → CanBeLinked (kind_of k m) → what.0 ≢ m → ((replaced : Replaced) → CanBeReplaced k what.0 (Some m) replaced → CanMove k at.parent at.name onto.parent onto.name what.0 replaced)
      → Fine (record { reply = Done; edits = Move at.parent at.name onto.parent onto.name what.0 (Over_file m) ∷ [] })
  over_linked at onto what m last last_onto linked away h = record {
    fits = λ can. (h (Over_file m) (away, linked, refl), tt);
    by = (tt, tt);
    there = (last.parent.directory, (last_onto.parent.directory, (linked, tt)));
  }

  replaced_at : (at onto : Last) (what old : Place) → IsLast k at → IsLast k onto → IsPlace k old → (kind_of k old.0 ≡ old.1) → what.0 ≢ old.0 → ((replaced : Replaced) → CanBeReplaced k what.0 (Some old.0) replaced → CanMove k at.parent at.name onto.parent onto.name what.0 replaced)
      → IfOk (given k (replaced_by_name old.0 (is_directory old) >>= (λ replaced. changed Done (Move at.parent at.name onto.parent onto.name what.0 replaced ∷ [])))) Fine
  replaced_at at onto what (m, None) last last_onto place is away h = absurd place.can_be_named
  replaced_at at onto what (m, Some A_pipe) last last_onto place is away h = absurd place.can_be_named
  replaced_at at onto what (m, Some A_file) last last_onto place is away h = over_linked at onto what m last last_onto (subst CanBeLinked (sym is) tt) away h
  replaced_at at onto what (m, Some A_link) last last_onto place is away h = over_linked at onto what m last last_onto (subst CanBeLinked (sym is) tt) away h
  replaced_at at onto what (m, Some A_fifo) last last_onto place is away h = over_linked at onto what m last last_onto (subst CanBeLinked (sym is) tt) away h
  replaced_at at onto what (m, Some A_socket) last last_onto place is away h = over_linked at onto what m last last_onto (subst CanBeLinked (sym is) tt) away h
  replaced_at at onto what (m, Some A_directory) last last_onto place is away h =
      after_bind k Fine (replaced_by_name m true) (λ replaced. changed Done (Move at.parent at.name onto.parent onto.name what.0 replaced ∷ []))
      (allowed k (λ replaced. IfOk (given k (changed Done (Move at.parent at.name onto.parent onto.name what.0 replaced ∷ []))) Fine) (not (is_empty (keys (names_of k m)))) ENOTEMPTY (Give (Over_directory m)) (λ empty. record {
        fits = λ can. (h (Over_directory m) (away, is, refl, no_keys (keys (names_of k m)) (not-false (is_empty (keys (names_of k m))) empty)), tt);
        by = (tt, tt);
        there = (last.parent.directory, (last_onto.parent.directory, tt));
      }))

  moved_at : (at onto : Last) (what : Place) (kind : Kind) → IsLast k at → IsLast k onto → get (names_of k at.parent) at.name ≡ Some what.0 → kind_of k what.0 ≡ Some kind → ((path : List Name) → Leads k what.0 path onto.parent → ⊥)
      → (o : Option Place) → onto.found ≡ o → IfOk (given k (moved at what onto o)) Fine
  moved_at at onto what kind last last_onto gives is ring None e = record {
    fits = λ can. (can_move at onto what.0 kind None Over_nothing last last_onto gives is (nothing_given k (get (names_of k onto.parent) onto.name) (sym last_onto.found ∙ e)) ring tt, tt);
    by = (tt, tt);
    there = (last.parent.directory, (last_onto.parent.directory, tt));
  }
  moved_at at onto what kind last last_onto gives is ring (Some old) e =
      let there = given_there k old (get (names_of k onto.parent) onto.name) (sym last_onto.found ∙ e) in
      let rest = replaced_by_name old.0 (is_directory old) >>= (λ replaced. changed Done (Move at.parent at.name onto.parent onto.name what.0 replaced ∷ [])) in
      either_given k Fine (what.0 == old.0) (unchanged Done) (refuse_if (not (is_directory what) && is_directory old) EISDIR >> (refuse_if (is_directory what && not (is_directory old)) ENOTDIR >> rest)) (λ _. unchanged_fits k pid inside chosen Done)
      (λ away.
      allowed k Fine (not (is_directory what) && is_directory old) EISDIR (refuse_if (is_directory what && not (is_directory old)) ENOTDIR >> rest) (λ _.
      allowed k Fine (is_directory what && not (is_directory old)) ENOTDIR rest (λ _.
      replaced_at at onto what old last last_onto (entry_place k well onto.parent onto.name old (sym last_onto.found ∙ e)) there.1 (not_same what.0 old.0 away)
      (λ replaced can. can_move at onto what.0 kind (Some old.0) replaced last last_onto gives is there.0 ring can))))

  -- what moves is no directory, or the second path does not go on from the first
  ring_by : (from to : List Name) (at onto : Last) (what : Place) → IsPlace k what → IsLedTo k k.root from at → IsLedTo k k.root to onto → IsLast k onto → get (names_of k at.parent) at.name ≡ Some what.0 → (is_directory what && is_below from to) ≡ false → (path : List Name) → Leads k what.0 path onto.parent → ⊥
  ring_by from to at onto (n, None) place led led_onto last gives test = absurd place.can_be_named
  ring_by from to at onto (n, Some A_pipe) place led led_onto last gives test = absurd place.can_be_named
  ring_by from to at onto (n, Some A_file) place led led_onto last gives test = no_ring_by_kind k n onto.parent (subst CanBeLinked place.right tt) last.parent.directory
  ring_by from to at onto (n, Some A_link) place led led_onto last gives test = no_ring_by_kind k n onto.parent (subst CanBeLinked place.right tt) last.parent.directory
  ring_by from to at onto (n, Some A_fifo) place led led_onto last gives test = no_ring_by_kind k n onto.parent (subst CanBeLinked place.right tt) last.parent.directory
  ring_by from to at onto (n, Some A_socket) place led led_onto last gives test = no_ring_by_kind k n onto.parent (subst CanBeLinked place.right tt) last.parent.directory
  ring_by from to at onto (n, Some A_directory) place led led_onto last gives test = no_ring_by_test k well from to at onto n led led_onto gives last.parent.directory test

  pub rename_at : (from to : List Name) (at : Last) → IsLast k at → IsLedTo k k.root from at → (o : Option Place) → at.found ≡ o
      → IfOk (given k (or_refuse ENOENT o >>= (λ what. refuse_if (is_directory what && is_below from to) EINVAL >> (last_of k.root EBUSY to >>= (λ onto. moved at what onto onto.found))))) Fine
  rename_at from to at last led None e = tt
  rename_at from to at last led (Some what) e =
      let there = given_there k what (get (names_of k at.parent) at.name) (sym last.found ∙ e) in
      let place = entry_place k well at.parent at.name what (sym last.found ∙ e) in
      let kind = some_kind what.1 place.can_be_named in
      allowed k Fine (is_directory what && is_below from to) EINVAL (last_of k.root EBUSY to >>= (λ onto. moved at what onto onto.found)) (λ test.
      after_bind k Fine (last_of k.root EBUSY to) (λ onto. moved at what onto onto.found) (weaken (given k (last_of k.root EBUSY to)) (both_ok (IsLast k) (IsLedTo k k.root to) (given k (last_of k.root EBUSY to)) (last_of_right k well EBUSY to) (last_of_led k EBUSY to)) (λ onto both.
      moved_at at onto what kind.0 last both.0 there.0 (there.1 ∙ kind.1) (ring_by from to at onto what place led both.1 both.0 there.0 test) onto.found refl)))

  -- two names that change places, where neither path goes on from the other
  pub exchange_at : (from to : List Name) (at onto : Last) → IsLast k at → IsLedTo k k.root from at → IsLast k onto → IsLedTo k k.root to onto → (o p : Option Place) → at.found ≡ o → onto.found ≡ p
      → IfOk (given k (or_refuse ENOENT o >>= (λ what. or_refuse ENOENT p >>= (λ other. refuse_if (is_directory what && is_below from to) EINVAL >> (refuse_if (is_directory other && is_below to from) EINVAL >> swapped at what onto other))))) Fine
  exchange_at from to at onto last led last_onto led_onto None p e f = tt
  exchange_at from to at onto last led last_onto led_onto (Some what) None e f = tt
  exchange_at from to at onto last led last_onto led_onto (Some what) (Some other) e f =
      let there = given_there k what (get (names_of k at.parent) at.name) (sym last.found ∙ e) in
      let there_too = given_there k other (get (names_of k onto.parent) onto.name) (sym last_onto.found ∙ f) in
      let place = entry_place k well at.parent at.name what (sym last.found ∙ e) in
      let place_too = entry_place k well onto.parent onto.name other (sym last_onto.found ∙ f) in
      let kind = some_kind what.1 place.can_be_named in
      let kind_too = some_kind other.1 place_too.can_be_named in
      allowed k Fine (is_directory what && is_below from to) EINVAL (refuse_if (is_directory other && is_below to from) EINVAL >> swapped at what onto other) (λ test.
      allowed k Fine (is_directory other && is_below to from) EINVAL (swapped at what onto other) (λ test_too.
      either_given k Fine (what.0 == other.0) (unchanged Done) (changed Done (Swap at.parent at.name what.0 onto.parent onto.name other.0 ∷ [])) (λ _. unchanged_fits k pid inside chosen Done) (λ away. record {
        fits = λ can. (
          record {
            what = kind.0;
            other = kind_too.0;
            first = record { parent = last.parent; gives = there.0; kind = there.1 ∙ kind.1 };
            second = record { parent = last_onto.parent; gives = there_too.0; kind = there_too.1 ∙ kind_too.1 };
            apart = not_same what.0 other.0 away;
            no_ring = ring_by from to at onto what place led led_onto last_onto there.0 test;
            no_ring_back = ring_by to from onto at other place_too led_onto led last there_too.0 test_too;
          },
          tt,
        );
        by = (tt, tt);
        there = (last.parent.directory, (last_onto.parent.directory, tt));
      })))
