-- What the changes of inodes make of the store: the inodes of the state to come, the descriptions as before, and what was claimed used.
use Rattle.std.proofs.Common.{◌≡◌, ℕ, ◌+◌, ◌≤◌, true, List, Option, Some, None, refl, sym, ap, subst, ◌∙◌, arith, inl, inr}
use Rattle.std.specs.Cmp.{nat_cmp_total}
use Rattle.model.specs.FiniteMap.{get, nat_cmp-IsAntisymmetric, same_map}
use Rattle.model.specs.State.{Kernel, kind, mapped}
use Rattle.model.specs.Changes.{openings}
use Rattle.model.specs.Effects.{Effect, all_done}
use Rattle.freeing_laws.specs.Pipes.{ArePair}
use Rattle.freeing_laws.proofs.Openings.{openings_change_lem}
use Rattle.freeing_laws.proofs.Pipes.{pipes_keep_their_ends_lem}
use Rattle.store.specs.Numbers.{Numbers, coming, object_at}
use Rattle.store.specs.Shown.{descriptions, inodes}
use Rattle.store.specs.declared.OpenPipe.{OpenPipe}
use Rattle.store.specs.declared.Place.{Place}
use Rattle.store.specs.declared.Object.TheVariants.{Pipe as Kept_pipe, Nothing}
use Rattle.store.proofs.Laws.{get-descriptions, get-inodes}
use Rattle.notes.specs.declared.change.InodeChange.{InodeChange}
use Rattle.notes.specs.declared.change.Contents.{Contents}
use Rattle.notes.specs.declared.change.Contents.TheVariants.{Same, Names, Bytes, Pipe as Piped, Fixed as As_fixed}
use Rattle.notes.specs.declared.change.Made.{Made}
use Rattle.shadow.specs.Agrees.{IsOver}
use Rattle.shadow.specs.Claims.{Claim, New_directory, Number, Room, claim_in, claimed, inodes_claim, number_of, reserved}
use Rattle.shadow.specs.Laid.{AreReady, IsCarried, IsCarriedBy, IsReadyContents, kept_in}
use Rattle.notes.specs.Patches.{Patches, form_of, is_new, kept_at, net_at, net_of, opening_at, patched}
use Rattle.shadow.specs.Stored.{AreCounted, Processes, committed_of, state_of}
use Rattle.shadow.proofs.committing.PlaceAfterChanges.{Becomes, bytes_become, claim_of, fixed_comes, inode_seen, names_become, pipe_become, pipe_comes, stays_as_it_is}
use Rattle.shadow.proofs.committing.CommitStates.{AreCarried, CanCommit, HasInodes}
use Rattle.shadow.proofs.shared.SoundnessLemmas.{Counts, counted_by, counts_of, counts_of_state, reserved_is}
use Rattle.shadow.proofs.freeing.RemainingPlaces.{kept_by, kept_is}
use Rattle.shadow.proofs.edits.NewInodes.{unopened}
use Rattle.shadow.proofs.shared.PipePairLemmas.{ends_in, ends_kind, ends_seen, same_pairs}

-- a change whose contents stay leaves what stands there
carried_same : (c : InodeChange) (w : Contents) → w ≡ Same → (before after : Option Place) → IsCarriedBy c w before after → after ≡ before
carried_same c w same before after is = subst (λ w. IsCarriedBy c w before after) same is

module _ {ps : Processes} {s after : Numbers} {ds : List Effect} {p : Patches} (can : CanCommit ps s ds p) (ready : AreReady p.inodes s) (are : AreCarried s after p) where
  abbrev k : Kernel
  k = state_of ps s

  abbrev Becomes_at : ℕ → Option InodeChange → Type 0
  Becomes_at n o = Becomes (net_of o).contents (net_of o).made (net_of o).promised (get s.places n) (get after.places n)

  -- what is claimed is kept at the number
  covered_at : (n : ℕ) (c : Claim) → number_of c ≡ n → claim_of (net_at p.inodes n).made (net_at p.inodes n).promised c ≤ kept_by c (get s.places n)
  covered_at n c same = (
      let own : claim_of (net_at p.inodes n).made (net_at p.inodes n).promised c ≤ claim_in p c = part c same in
      let all : claimed c ds ≡ claim_in p c = can.agrees.claims c in
      let most : claimed c ds ≤ reserved (committed_of ps s) c = can.covers c in
      let is : reserved (committed_of ps s) c ≡ kept_by c (get s.places n) = reserved_is ps s c ∙ kept_is s c ∙ ap (λ m. kept_by c (get s.places m)) same in omega arith)
    where
      part : (c : Claim) → number_of c ≡ n → claim_of (net_at p.inodes n).made (net_at p.inodes n).promised c ≤ claim_in p c
      part (Room r) same = subst (λ m. (net_at p.inodes n).promised ≤ (net_at p.inodes m).promised) (sym same) (omega arith)
      part (New_directory m) same = subst (λ m. claim_of (net_at p.inodes n).made 0 (New_directory m) ≤ claim_in p (New_directory m)) (sym same) (omega arith)
      part (Number m) same = subst (λ m. claim_of (net_at p.inodes n).made 0 (Number m) ≤ claim_in p (Number m)) (sym same) (omega arith)

  over_at : (n : ℕ) → IsOver (mapped kind (inode_seen (get s.places n))) (net_at p.inodes n).made (form_of (net_at p.inodes n).contents)
  over_at n = subst (λ i. IsOver (mapped kind i) (net_at p.inodes n).made (form_of (net_at p.inodes n).contents)) (get-inodes s n) (can.agrees.kinds k n can.fits)

  by_change : (n : ℕ) (o : Option InodeChange) → kept_at p.inodes n ≡ o → IsCarried o (get s.places n) (get after.places n) → Becomes_at n o
  by_change n None is carried = stays_as_it_is (get s.places n) (get after.places n) (can.sound.staged n) carried
  by_change n (Some c) is carried = by_contents c.contents refl (ready n c is) carried
    where
      covers : (d : Claim) → number_of d ≡ n → claim_of c.made c.promised d ≤ kept_by d (get s.places n)
      covers = subst (λ o. (d : Claim) → number_of d ≡ n → claim_of (net_of o).made (net_of o).promised d ≤ kept_by d (get s.places n)) is (covered_at n)

      over : IsOver (mapped kind (inode_seen (get s.places n))) c.made (form_of c.contents)
      over = subst (λ o. IsOver (mapped kind (inode_seen (get s.places n))) (net_of o).made (form_of (net_of o).contents)) is (over_at n)

      none : c.contents ≡ Same → 0 ≡ c.promised
      none same = sym (subst (λ o. (net_of o).contents ≡ Same → (net_of o).promised ≡ 0) is (λ is_same. can.agrees.still n (ap form_of is_same)) same)

      by_contents : (w : Contents) → c.contents ≡ w → IsReadyContents s n c w → IsCarriedBy c w (get s.places n) (get after.places n) → Becomes w c.made c.promised (get s.places n) (get after.places n)
      by_contents Same same made carried =
          subst (λ (m : Option Made). Becomes Same m c.promised (get s.places n) (get after.places n)) (sym made)
          (subst (λ count. Becomes Same None count (get s.places n) (get after.places n)) (none same) (stays_as_it_is (get s.places n) (get after.places n) (can.sound.staged n) carried))
      by_contents (Names fresh notes) same h carried =
          names_become n c.promised (get s.places n) (get after.places n) (can.sound.staged n) c.made fresh notes
          (subst (λ w. IsOver (mapped kind (inode_seen (get s.places n))) c.made (form_of w)) same over) covers h.listing h.there h.room carried
      by_contents (Bytes fresh bytes) same h carried =
          bytes_become n c.promised (get s.places n) (get after.places n) (can.sound.staged n) c.made fresh bytes
          (subst (λ w. IsOver (mapped kind (inode_seen (get s.places n))) c.made (form_of w)) same over) covers h carried
      by_contents (Piped None changes) same h carried =
          pipe_become n c.promised (get s.places n) (get after.places n) (can.sound.staged n) c.made changes
          (subst (λ w. IsOver (mapped kind (inode_seen (get s.places n))) c.made (form_of w)) same over) covers carried
      by_contents (Piped (Some new) changes) same h carried =
          pipe_comes n c.promised (get s.places n) (get after.places n) (can.sound.staged n) c.made new changes
          (subst (λ w. IsOver (mapped kind (inode_seen (get s.places n))) c.made (form_of w)) same over) covers h.0 carried
      by_contents (As_fixed fixed) same h carried =
          fixed_comes n c.promised (get s.places n) (get after.places n) (can.sound.staged n) c.made fixed
          (subst (λ w. IsOver (mapped kind (inode_seen (get s.places n))) c.made (form_of w)) same over) covers h carried

  becomes_at : (n : ℕ) → Becomes_at n (kept_at p.inodes n)
  becomes_at n = by_change n (kept_at p.inodes n) refl (are.places n)

  inodes_after : inodes after ≡ (all_done ds k).inodes
  inodes_after = same_map nat_cmp_total nat_cmp-IsAntisymmetric (inodes after) (all_done ds k).inodes (λ n.
      get-inodes after n ∙ (becomes_at n).inode ∙ ap (patched (net_at p.inodes n).contents) (sym (get-inodes s n)) ∙ sym (can.agrees.inodes k n can.fits))

  rights_after : after.rights ≡ (all_done ds k).rights
  rights_after = same_map nat_cmp_total nat_cmp-IsAntisymmetric after.rights (all_done ds k).rights (λ n. are.rights n ∙ sym (can.agrees.rights k n))

  descriptions_after : descriptions after ≡ descriptions s
  descriptions_after = same_map nat_cmp_total nat_cmp-IsAntisymmetric (descriptions after) (descriptions s) (λ n.
      get-descriptions after n ∙ (becomes_at n).description ∙ sym (get-descriptions s n))

  counts_before : Counts k s
  counts_before = counts_of ps s can.sound.counted

  counts_after : Counts k after
  counts_after = record {
    openings = λ n. (becomes_at n).openings (openings k n) (λ none. unopened ps s can.sound n (get-inodes s n ∙ none)) (counts_before.openings n);
    holders = λ d c is. counts_before.holders d c ((becomes_at d).holders c is);
    pipes = λ n ends is. elim ((becomes_at n).pipes ends is) [
      | inl was ↦ counts_before.pipes n ends was
      | inr new ↦ pipes_keep_their_ends_lem.none k n ends.0 ends.1 can.sound.well (ap (mapped kind) (get-inodes s n ∙ new.0))
    ];
  }

  -- in the state to come a pipe has these two descriptions
  ends_after : (n : ℕ) (pipe : OpenPipe) → object_at after n ≡ Some (Kept_pipe pipe) → ArePair (all_done ds (state_of ps s)).descriptions n pipe.reader pipe.writer
  ends_after n pipe is = elim ((becomes_at n).pipes (ends_in pipe) (ap ends_seen is)) [
    | inl was ↦ pipes_keep_their_ends_lem.along ds k can.fits n pipe.reader pipe.writer (ap (mapped kind) (get-inodes s n) ∙ ends_kind (object_at s n) (ends_in pipe) was) (counts_before.pipes n (ends_in pipe) was)
    | inr new ↦ can.agrees.pipes k n (ends_in pipe) new.1 can.sound.well can.fits
  ]

  counted_after : AreCounted ps after
  counted_after = counted_by ps after (counts_of_state k (state_of ps after) after (openings_change_lem.by_descriptions k (state_of ps after) descriptions_after) (openings_change_lem.by_processes k (state_of ps after) refl) (same_pairs k (state_of ps after) descriptions_after) counts_after)

  kept_after : (c : Claim) → kept_in after c + inodes_claim p.inodes c ≡ kept_in s c
  kept_after c = (
      let now : kept_in after c ≡ kept_by c (get after.places (number_of c)) = kept_is after c in
      let was : kept_in s c ≡ kept_by c (get s.places (number_of c)) = kept_is s c in
      let one : kept_by c (get after.places (number_of c)) + claim_of (net_at p.inodes (number_of c)).made (net_at p.inodes (number_of c)).promised c ≡ kept_by c (get s.places (number_of c)) = (becomes_at (number_of c)).kept c in
      let same : inodes_claim p.inodes c ≡ claim_of (net_at p.inodes (number_of c)).made (net_at p.inodes (number_of c)).promised c = claim_is c in omega arith)
    where
      claim_is : (c : Claim) → inodes_claim p.inodes c ≡ claim_of (net_at p.inodes (number_of c)).made (net_at p.inodes (number_of c)).promised c
      claim_is (Room r) = refl
      claim_is (New_directory m) = refl
      claim_is (Number m) = refl

  coming_after : (d : ℕ) → get s.places d ≡ Some (coming Nothing) → (net_at p.inodes d).contents ≡ Same → get after.places d ≡ Some (coming Nothing)
  coming_after d there same = by_kept (kept_at p.inodes d) (are.places d) same ∙ there
    where
      by_kept : (o : Option InodeChange) → IsCarried o (get s.places d) (get after.places d) → (net_of o).contents ≡ Same → get after.places d ≡ get s.places d
      by_kept None is same = is
      by_kept (Some c) is same = carried_same c c.contents same (get s.places d) (get after.places d) is

  has_inodes : ((d : ℕ) → is_new (opening_at p.openings d) ≡ true → (get s.places d ≡ Some (coming Nothing)) × ((net_at p.inodes d).contents ≡ Same) × ((net_at p.inodes d).made ≡ None))
      → HasInodes ps s after ds p
  has_inodes new = record {
    root = are.root;
    inodes = inodes_after;
    rights = rights_after;
    descriptions = descriptions_after;
    staged = λ n. (becomes_at n).staged;
    counted = counted_after;
    ends = ends_after;
    coming = λ d is. coming_after d (new d is).0 (new d is).1;
    kept = kept_after;
  }

pub carried : {ps : Processes} {s after : Numbers} {ds : List Effect} {p : Patches} → CanCommit ps s ds p → AreReady p.inodes s
    → ((d : ℕ) → is_new (opening_at p.openings d) ≡ true → (get s.places d ≡ Some (coming Nothing)) × ((net_at p.inodes d).contents ≡ Same) × ((net_at p.inodes d).made ≡ None))
    → AreCarried s after p → HasInodes ps s after ds p
carried can ready new are = has_inodes can ready are new
