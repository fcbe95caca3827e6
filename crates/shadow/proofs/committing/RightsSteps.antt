-- The rights of inodes, set in the store one inode after the other.
use Rattle.std.proofs.Common.{◌≡◌, ◌≢◌, ℕ, Bool, List, [], ◌∷◌, Option, Some, None, is_some, nat_cmp}
use Rattle.std.proofs.Common.{refl, sym, ap, subst, ◌∙◌, inl, inr}
use Rattle.std.specs.List.Sorted.{IsStrictlySortedBy}
use Rattle.std.specs.Map.{keys_of}
use Rattle.std.specs.Option.{option_map}
use Rattle.std.proofs.lemmas.Bool.{cases_eq}
use Rattle.model.specs.FiniteMap.{entries, get, insert}
use Rattle.model.specs.State.{Directory, File, Fixed, Pipe, Rights}
use Rattle.model.specs.Effects.{Effect, all_done}
use Rattle.model.proofs.Laws.{get_other, get_same}
use Rattle.call_laws.proofs.Laws.{not_none}
use Rattle.call_laws.specs.WellFormed.{WellFormed}
use Rattle.dirlist.specs.Patches.{Notes}
use Rattle.freeing_laws.proofs.Laws.{sweep_is_tidy_lem}
use Rattle.pipe_shadow.specs.View.{view_over as pipe_over}
use Rattle.store.specs.Laid.{laid_listing}
use Rattle.store.specs.Numbers.{Numbers, present}
use Rattle.store.specs.Places.{with_listing}
use Rattle.store.specs.Shown.{inodes}
use Rattle.store.specs.declared.Place.{Place}
use Rattle.store.specs.declared.Object.TheVariants.{Directory as Kept_directory}
use Rattle.store.proofs.Laws.{get-inodes}
use Rattle.notes.specs.declared.change.InodeChange.{InodeChange}
use Rattle.notes.specs.declared.change.Contents.{Contents}
use Rattle.notes.specs.declared.change.Contents.TheVariants.{Same, Names, Bytes, Pipe as Piped}
use Rattle.notes.specs.declared.change.Contents.TheVariants.{Fixed as As_fixed}
use Rattle.shadow.specs.Laid.{AreReady, AreRevised, CanBeSet, CanBeSetThen, IsCarried, IsCarriedBy}
use Rattle.shadow.specs.Laid.{IsReady, IsReadyContents, named_by, shown_if}
use Rattle.notes.specs.Patches.{Patches, kept_at, net_at, net_of, patched, rights_over}
use Rattle.shadow.specs.Stored.{Processes, state_of}
use Rattle.shadow.proofs.committing.CommitStates.{CanCommit}
use Rattle.shadow.proofs.committing.PlaceAfterChanges.{inode_seen}
use Rattle.notes.proofs.Laws.{first_absent, first_kept, later_kept, rest_sorted}

abbrev pub with_rights : Numbers → ℕ → Rights → Numbers
with_rights s n rights = record s { rights = insert s.rights n rights }

revised_none : (s : Numbers) → AreRevised [] s s
revised_none s = record { root = refl; places = refl; each = λ n. refl }

-- the first are set
module _ (n : ℕ) (r : Rights) (rest : List (ℕ × Rights))
    (sorted : IsStrictlySortedBy nat_cmp (keys_of ((n, r) ∷ rest)))
    (s t : Numbers) (set : t ≡ with_rights s n r) where
  abbrev whole : List (ℕ × Rights)
  whole = (n, r) ∷ rest

  whole_kept : (m : ℕ) → kept_at rest m ≢ None → kept_at whole m ≢ None
  whole_kept m kept absent = elim (cases_eq m n) [
    | inl same ↦ not_none r (sym (first_kept n r rest) ∙ ap (kept_at whole) (sym same) ∙ absent)
    | inr away ↦ kept (sym (later_kept n r rest m away) ∙ absent)
  ]

  -- and those behind them can be set still
  set_later : CanBeSet whole s → CanBeSet rest t
  set_later can m kept none =
      can m (whole_kept m kept) (ap (λ (t : Numbers). get (inodes t) m) (sym set) ∙ none)

  revised_first : (u : Numbers) → AreRevised rest t u → AreRevised whole s u
  revised_first u later = record {
    root = later.root ∙ ap (λ (t : Numbers). t.root) set;
    places = later.places ∙ ap (λ (t : Numbers). t.places) set;
    each = λ m. later.each m ∙ elim (cases_eq m n) [
      | inl same ↦ subst (λ (m : ℕ). rights_over (kept_at rest m) (get t.rights m)
          ≡ rights_over (kept_at whole m) (get s.rights m)) (sym same) at_first
      | inr away ↦ ap (rights_over (kept_at rest m))
          (ap (λ (t : Numbers). get t.rights m) set ∙ get_other s.rights n m r away)
          ∙ sym (ap (λ o. rights_over o (get s.rights m)) (later_kept n r rest m away))
    ];
  }
    where
      at_first : rights_over (kept_at rest n) (get t.rights n)
          ≡ rights_over (kept_at whole n) (get s.rights n)
      at_first =
          ap (λ o. rights_over o (get t.rights n)) (first_absent n r rest sorted)
          ∙ ap (λ (t : Numbers). get t.rights n) set ∙ get_same s.rights n r
          ∙ sym (ap (λ o. rights_over o (get s.rights n)) (first_kept n r rest))

-- what is left of the rights can be set, and then all are set
pub record Revises (start now : Numbers) (all rest : List (ℕ × Rights)) : Type 0 where
  pub can : CanBeSet rest now
  pub ends : (t : Numbers) → AreRevised rest now t → AreRevised all start t
  pub sorted : IsStrictlySortedBy nat_cmp (keys_of rest)

pub revises_nothing : (start : Numbers) (all : List (ℕ × Rights)) → CanBeSet all start
    → IsStrictlySortedBy nat_cmp (keys_of all) → Revises start start all all
revises_nothing start all can sorted = record { can = can; ends = λ t h. h; sorted = sorted }

pub first_there : (n : ℕ) (r : Rights) (rest : List (ℕ × Rights)) (s : Numbers)
    → CanBeSet ((n, r) ∷ rest) s → get (inodes s) n ≢ None
first_there n r rest s can =
    can n (λ none. not_none r (sym (first_kept n r rest) ∙ none))

pub revises_on : (start now : Numbers) (all : List (ℕ × Rights)) (n : ℕ) (r : Rights)
    (rest : List (ℕ × Rights)) → Revises start now all ((n, r) ∷ rest) → (after : Numbers)
    → after ≡ with_rights now n r → Revises start after all rest
revises_on start now all n r rest revises after set = record {
  can = set_later n r rest revises.sorted now after set revises.can;
  ends = λ t h. revises.ends t (revised_first n r rest revises.sorted now after set t h);
  sorted = rest_sorted n r rest revises.sorted;
}

pub all_revised : (start now : Numbers) (all : List (ℕ × Rights)) → Revises start now all []
    → AreRevised all start now
all_revised start now all revises = revises.ends now (revised_none now)

-- a directory after its changes, which are laid over what is shown then
laid_over : (made : Bool) (notes : Notes) (promised : ℕ) (o : Option Place)
    → option_map (named_by made notes promised) o
    ≡ option_map (with_listing (laid_listing (entries notes) promised)) (option_map (shown_if made) o)
laid_over made notes promised (Some place) = refl
laid_over made notes promised None = refl

-- what stands at a number after its changes is shown
seen_after : (s : Numbers) (n : ℕ) (o : Option InodeChange) (after : Option Place)
    → ((c : InodeChange) → o ≡ Some c → IsReady s n c) → IsCarried o (get s.places n) after
    → patched (net_of o).contents (inode_seen (get s.places n)) ≢ None → inode_seen after ≢ None
seen_after s n None after ready carried there none = there (ap inode_seen (sym carried) ∙ none)
seen_after s n (Some c) after ready carried there none =
    by_contents c.contents (ready c refl) carried there
  where
    by_contents : (w : Contents) → IsReadyContents s n c w → IsCarriedBy c w (get s.places n) after
        → patched w (inode_seen (get s.places n)) ≢ None → ⊥
    by_contents Same made carried there = there (ap inode_seen (sym carried) ∙ none)
    by_contents (Names fresh notes) h carried there =
        let is : after ≡ Some (present (Kept_directory
        (laid_listing (entries notes) c.promised h.listing))) =
        carried ∙ laid_over (is_some c.made) notes c.promised (get s.places n)
        ∙ ap (option_map (with_listing (laid_listing (entries notes) c.promised))) h.there in
        not_none (Directory (laid_listing (entries notes) c.promised h.listing).names)
        (sym (ap inode_seen is) ∙ none)
    by_contents (Bytes fresh bytes) h carried there =
        not_none (File carried.content.bytes) (sym (ap inode_seen carried.place) ∙ none)
    by_contents (Piped (Some new) changes) h carried there =
        not_none (Pipe (pipe_over changes new.bytes)) (sym (ap inode_seen carried) ∙ none)
    by_contents (Piped None changes) h carried there =
        not_none (Pipe (pipe_over changes carried.pipe.bytes))
        (sym (ap inode_seen carried.is) ∙ none)
    by_contents (As_fixed fixed) h carried there =
        not_none (Fixed fixed) (sym (ap inode_seen carried) ∙ none)

-- so rights can be set when the changes of inodes are made
pub set_then : (s t : Numbers) (changes : List (ℕ × InodeChange)) (rights : List (ℕ × Rights))
    → AreReady changes s
    → ((n : ℕ) → IsCarried (kept_at changes n) (get s.places n) (get t.places n))
    → CanBeSetThen changes rights s → CanBeSet rights t
set_then s t changes rights ready carried later n kept none =
    seen_after s n (kept_at changes n) (get t.places n) (λ c is. ready n c is) (carried n)
    (λ gone. later n kept
    (ap (patched (net_at changes n).contents) (get-inodes s n) ∙ gone))
    (sym (get-inodes t n) ∙ none)

some_set : (o before : Option Rights) → o ≢ None → rights_over o before ≡ None → ⊥
some_set None before kept e = kept refl
some_set (Some r) before kept e = not_none r e

-- and where a transaction commits they are of inodes of the state to come
pub can_set : {ps : Processes} {s : Numbers} {ds : List Effect} {p : Patches}
    → CanCommit ps s ds p → CanBeSetThen p.inodes p.rights s
can_set {ps} {s} {ds} {p} can n kept none =
    some_set (kept_at p.rights n) (get s.rights n) kept
    (sym (can.agrees.rights (state_of ps s) n)
    ∙ sweep_is_tidy_lem.set (all_done ds (state_of ps s)) well n
    (can.agrees.inodes (state_of ps s) n can.fits ∙ none))
  where
    well : WellFormed (all_done ds (state_of ps s))
    well = sweep_is_tidy_lem.well ds (state_of ps s) can.sound.well can.fits
