-- What one edit makes of the committed state: it is sound again.
use Rattle.std.proofs.Common.{◌≡◌, ℕ, ◌+◌, false, List, Option, Some, None, refl, sym, ap, subst, ◌∙◌}
use Rattle.model.specs.FiniteMap.{get}
use Rattle.model.specs.State.{Kernel}
use Rattle.model.specs.Changes.{Edit, applied, holders, openings, tidy}
use Rattle.call_laws.specs.WellFormed.{WellFormed}
use Rattle.call_laws.specs.Fits.{Fits}
use Rattle.call_laws.proofs.Laws.{calls_are_lawful_lem, some_same, well_stays}
use Rattle.freeing_laws.specs.Pipes.{ArePair}
use Rattle.freeing_laws.specs.Sweep.{IsTidied, loses}
use Rattle.freeing_laws.proofs.Laws.{sweep_is_tidy_lem}
use Rattle.store.specs.Numbers.{Numbers, object_at}
use Rattle.store.specs.declared.Object.{Object}
use Rattle.store.specs.declared.Object.TheVariants.{Directory as Kept_directory, File as Kept_file, Pipe as Kept_pipe, Fixed as Kept_fixed, Description as Kept_description, Nothing}
use Rattle.shadow.specs.Claims.{Claim, KeepsMore, KeepsSame, Room, New_directory, Number, reserved}
use Rattle.shadow.specs.Committed.{Committed}
use Rattle.shadow.specs.Laid.{kept_in}
use Rattle.shadow.specs.Stored.{AreCounted, IsStaged, Processes, Sound, committed_of, state_of}
use Rattle.shadow.proofs.shared.PipePairLemmas.{ends_in, ends_seen}

-- the counts that are kept of what is shown
abbrev pub openings_seen : Option Object → Option ℕ
openings_seen (Some (Kept_file file)) = Some file.openings
openings_seen _ = None

abbrev pub holders_seen : Option Object → Option ℕ
holders_seen (Some (Kept_description opened)) = Some opened.holders
holders_seen _ = None

pub record Counts (k : Kernel) (s : Numbers) : Type 0 where
  pub openings : (n c : ℕ) → openings_seen (object_at s n) ≡ Some c → c ≡ openings k n
  pub holders : (d c : ℕ) → holders_seen (object_at s d) ≡ Some c → c ≡ holders k d
  pub pipes : (p : ℕ) (ends : ℕ × ℕ) → ends_seen (object_at s p) ≡ Some ends → ArePair k.descriptions p ends.0 ends.1

pub counted_by : (ps : Processes) (s : Numbers) → Counts (state_of ps s) s → AreCounted ps s
counted_by ps s h = record { openings = λ n file is. h.openings n file.openings (ap openings_seen is); holders = λ d opened is. h.holders d opened.holders (ap holders_seen is); pipes = λ p pipe is. h.pipes p (ends_in pipe) (ap ends_seen is) }

pub counts_of : (ps : Processes) (s : Numbers) → AreCounted ps s → Counts (state_of ps s) s
counts_of ps s h = record { openings = λ n c is. files n c (object_at s n) refl is; holders = λ d c is. held_by d c (object_at s d) refl is; pipes = λ p ends is. pairs p ends (object_at s p) refl is }
  where
    files : (n c : ℕ) (o : Option Object) → object_at s n ≡ o → openings_seen o ≡ Some c → c ≡ openings (state_of ps s) n
    files n c None e is = absurd cc
    files n c (Some (Kept_directory l)) e is = absurd cc
    files n c (Some (Kept_file file)) e is = sym (some_same file.openings c is) ∙ h.openings n file e
    files n c (Some (Kept_pipe pipe)) e is = absurd cc
    files n c (Some (Kept_fixed fixed)) e is = absurd cc
    files n c (Some (Kept_description opened)) e is = absurd cc
    files n c (Some Nothing) e is = absurd cc

    held_by : (d c : ℕ) (o : Option Object) → object_at s d ≡ o → holders_seen o ≡ Some c → c ≡ holders (state_of ps s) d
    held_by d c None e is = absurd cc
    held_by d c (Some (Kept_directory l)) e is = absurd cc
    held_by d c (Some (Kept_file file)) e is = absurd cc
    held_by d c (Some (Kept_pipe pipe)) e is = absurd cc
    held_by d c (Some (Kept_fixed fixed)) e is = absurd cc
    held_by d c (Some (Kept_description opened)) e is = sym (some_same opened.holders c is) ∙ h.holders d opened e
    held_by d c (Some Nothing) e is = absurd cc

    pairs : (p : ℕ) (ends : ℕ × ℕ) (o : Option Object) → object_at s p ≡ o → ends_seen o ≡ Some ends → ArePair (state_of ps s).descriptions p ends.0 ends.1
    pairs p ends None e is = absurd cc
    pairs p ends (Some (Kept_directory l)) e is = absurd cc
    pairs p ends (Some (Kept_file file)) e is = absurd cc
    pairs p ends (Some (Kept_pipe pipe)) e is = subst (λ (ends : ℕ × ℕ). ArePair (state_of ps s).descriptions p ends.0 ends.1) (some_same (ends_in pipe) ends is) (h.pipes p pipe e)
    pairs p ends (Some (Kept_fixed fixed)) e is = absurd cc
    pairs p ends (Some (Kept_description opened)) e is = absurd cc
    pairs p ends (Some Nothing) e is = absurd cc

-- counts stay where what is seen stays, and in a state with the same counts
pub counts_stay : (k : Kernel) (s t : Numbers) → ((n : ℕ) → openings_seen (object_at t n) ≡ openings_seen (object_at s n)) → ((n : ℕ) → holders_seen (object_at t n) ≡ holders_seen (object_at s n))
    → ((p : ℕ) → ends_seen (object_at t p) ≡ ends_seen (object_at s p)) → Counts k s → Counts k t
counts_stay k s t files held_by pairs h = record {
  openings = λ n c is. h.openings n c (sym (files n) ∙ is);
  holders = λ d c is. h.holders d c (sym (held_by d) ∙ is);
  pipes = λ p ends is. h.pipes p ends (sym (pairs p) ∙ is);
}

pub counts_of_state : (k l : Kernel) (s : Numbers) → ((n : ℕ) → openings l n ≡ openings k n) → ((d : ℕ) → holders l d ≡ holders k d)
    → ((p r w : ℕ) → ArePair k.descriptions p r w → ArePair l.descriptions p r w) → Counts k s → Counts l s
counts_of_state k l s files held_by pairs h = record {
  openings = λ n c is. h.openings n c is ∙ sym (files n);
  holders = λ d c is. h.holders d c is ∙ sym (held_by d);
  pipes = λ p ends is. pairs p ends.0 ends.1 (h.pipes p ends is);
}

pub tidied_of : (ps : Processes) (s : Numbers) → Sound ps s → IsTidied (state_of ps s)
tidied_of ps s sound = record { well = sound.well; tidied = sound.tidied }

-- after an edit that fits, and what it leaves to go
pub sound_after : (ps qs : Processes) (s t : Numbers) (chosen : List ℕ) (e : Edit) → Sound ps s → Fits chosen (state_of ps s) e → state_of qs t ≡ tidy (applied chosen e (state_of ps s))
    → t.root ≡ s.root → ((n : ℕ) → IsStaged (get t.places n)) → AreCounted qs t → Sound qs t
sound_after ps qs s t chosen e sound fits is root staged counted = record {
  root = root ∙ sound.root;
  well = subst WellFormed (sym is) (calls_are_lawful_lem.well_tidy (applied chosen e (state_of ps s)) (well_stays chosen (state_of ps s) e sound.well fits));
  tidied = subst (λ (k : Kernel). tidy k ≡ k) (sym is) (calls_are_lawful_lem.tidy_twice (applied chosen e (state_of ps s)) (well_stays chosen (state_of ps s) e sound.well fits));
  staged = staged;
  counted = counted;
}

-- after an edit that loses nothing
pub tidy_after : (ps : Processes) (s : Numbers) (chosen : List ℕ) (e : Edit) → Sound ps s → Fits chosen (state_of ps s) e → loses e ≡ false → tidy (applied chosen e (state_of ps s)) ≡ applied chosen e (state_of ps s)
tidy_after ps s chosen e sound fits none = sweep_is_tidy_lem.none chosen (state_of ps s) e (tidied_of ps s sound) fits none

-- what is kept does not depend on the processes
pub reserved_is : (ps : Processes) (s : Numbers) (c : Claim) → reserved (committed_of ps s) c ≡ kept_in s c
reserved_is ps s (Room d) = refl
reserved_is ps s (New_directory n) = refl
reserved_is ps s (Number n) = refl

-- what is said of a committed state, said of what is stored
module _ (ps qs : Processes) (s : Numbers) (v : Committed) (is : committed_of ps s ≡ v) where
  pub kept_of : (c : Claim) → kept_in s c ≡ reserved v c
  kept_of c = sym (reserved_is ps s c) ∙ ap (λ (x : Committed). reserved x c) is

  pub same_of : (t : Numbers) → ((c : Claim) → kept_in t c ≡ kept_in s c) → KeepsSame v (committed_of qs t)
  same_of t h c = reserved_is qs t c ∙ h c ∙ kept_of c

  pub less_of : (t : Numbers) (less : Claim → ℕ) → ((c : Claim) → kept_in t c + less c ≡ kept_in s c) → KeepsMore (committed_of qs t) v less
  less_of t less h c = sym (kept_of c) ∙ sym (h c) ∙ ap (λ m. m + less c) (sym (reserved_is qs t c))

  pub state_is : (k : Kernel) (f : Kernel → Kernel) → k ≡ f (state_of ps s) → k ≡ f v.state
  state_is k f e = e ∙ ap (λ (x : Committed). f x.state) is
