-- Headers whose counts are right: what changes of one header make of the counts.
use Rattle.std.proofs.Common.{◌≡◌, ℕ, ◌+◌, ◌<◌, ◌^◌, true, [], map, Option, Some, None, nat_cmp, refl, sym, ap, subst, ◌∙◌, arith, inl, inr, sum_by}
use Rattle.std.specs.Option.{option_and_then, option_map}
use Rattle.std.proofs.lemmas.Bool.{cases_eq}
use Rattle.slab.specs.Slab.{Slab, Updates}
use Rattle.slab.specs.Slab as slab
use Rattle.model.specs.FiniteMap.{FinMap, empty, get, len, entries-empty, len-empty}
use Rattle.model.specs.State.{Inode, name_cmp, names_of_inode}
use Rattle.model.proofs.Laws.{given_in}
use Rattle.dirlist.specs.Listing.{Listing}
use Rattle.ids.specs.declared.rights.Rights.{Rights}
use Rattle.store.specs.Headers.{AreCounted, IsSound, IsStaged, at_place, links_of, names_in, place_of, places_of, rights_of, with_rights}
use Rattle.store.specs.Links.{links_in}
use Rattle.store.specs.Numbers.{coming, present}
use Rattle.store.specs.Places.{hidden, installed, changed_file, changed_object, changed_opened, changed_pipe, is_over, is_over_by, has_room, listing_of, with_file, with_listing, with_opened, with_pipe}
use Rattle.store.specs.Shown.{chosen, inode_in, inode_of, shown_at, with_inode}
use Rattle.store.specs.declared.Header.{Header}
use Rattle.store.specs.declared.Object.{Object}
use Rattle.store.specs.declared.Object.TheVariants.{Directory, File, Pipe, Fixed, Description, Nothing}
use Rattle.store.specs.declared.OpenFile.{OpenFile}
use Rattle.store.specs.declared.Opened.{Opened}
use Rattle.store.specs.declared.OpenPipe.{OpenPipe}
use Rattle.store.specs.declared.Place.{Place}
use Rattle.store.specs.declared.Stage.{Stage}
use Rattle.store.specs.declared.Stage.TheVariants.{Coming, Held, Removed}
use Rattle.store.proofs.Changes.{inodes-set}
use Rattle.store.proofs.Chosen.{chosen-empty, chosen-remove, get-chosen}
use Rattle.store.proofs.Counts.{given_of, links-with_inode}
use Rattle.store.proofs.Rows.{get-places, numbers_of, places-insert, places-remove}

-- the inodes of these headers
abbrev pub inodes_of : Slab Header → FinMap nat_cmp Inode
inodes_of headers = chosen inode_in (places_of headers)

abbrev pub inode_at : Option Header → Option Inode
inode_at o = option_and_then inode_in (place_of o)

-- the names that are counted: those of a directory that is shown
abbrev pub names_at : Option Header → FinMap name_cmp ℕ
names_at o = names_of_inode (inode_at o)

pub get-inodes_of : (headers : Slab Header) (n : ℕ) → get (inodes_of headers) n ≡ inode_at (slab.get headers n)
get-inodes_of headers n = get-chosen inode_in (places_of headers) n ∙ ap (option_and_then inode_in) (get-places headers n)

inodes_of-updated : (old new : Slab Header) (n : ℕ) (o : Option Header) → Updates old new n o → inodes_of new ≡ with_inode (inodes_of old) n (inode_at o)
inodes_of-updated old new n (Some header) u = ap (chosen inode_in) (places-insert old new n header u) ∙ inodes-set (numbers_of 0 old) n header.place
inodes_of-updated old new n None u = ap (chosen inode_in) (places-remove old new n u) ∙ chosen-remove inode_in (places_of old) n

module _ (old new : Slab Header) (n : ℕ) (o : Option Header) (u : Updates old new n o) where
  -- what the names at one number gave goes, and what those that come give is counted
  pub links-updated : (q : ℕ) → links_in (inodes_of new) q + given_in q (names_at (slab.get old n)) ≡ links_in (inodes_of old) q + given_in q (names_at o)
  links-updated q =
      ap (λ (m : FinMap nat_cmp Inode). links_in m q + given_in q (names_at (slab.get old n))) (inodes_of-updated old new n o u)
      ∙ ap (λ (i : Option Inode). links_in (with_inode (inodes_of old) n (inode_at o)) q + given_of q i) (sym (get-inodes_of old n))
      ∙ links-with_inode (inodes_of old) n (inode_at o) q

  pub same-links : links_of o ≡ links_of (slab.get old n) → (q : ℕ) → links_of (slab.get new q) ≡ links_of (slab.get old q)
  same-links same q = elim (cases_eq q n) [
    | inl e ↦ ap (λ q. links_of (slab.get new q)) e ∙ ap links_of u.changed ∙ same ∙ ap (λ q. links_of (slab.get old q)) (sym e)
    | inr away ↦ ap links_of (u.others q away)
  ]

  pub still-sound : ((q : ℕ) (header : Header) → slab.get old q ≡ Some header → IsSound header) → ((header : Header) → o ≡ Some header → IsSound header) → (q : ℕ) (header : Header) → slab.get new q ≡ Some header → IsSound header
  still-sound sound here q header is = elim (cases_eq q n) [
    | inl e ↦ here header (sym u.changed ∙ ap (slab.get new) (sym e) ∙ is)
    | inr away ↦ sound q header (sym (u.others q away) ∙ is)
  ]

  -- a change that leaves the count and the names that are counted
  pub counted-updated : AreCounted old → ((header : Header) → o ≡ Some header → IsSound header) → links_of o ≡ links_of (slab.get old n) → names_at o ≡ names_at (slab.get old n) → AreCounted new
  counted-updated was here same names = record {
    counts = λ q.
        let moved : links_in (inodes_of new) q + given_in q (names_at (slab.get old n)) ≡ links_in (inodes_of old) q + given_in q (names_at o) = links-updated q in
        let same_names : given_in q (names_at o) ≡ given_in q (names_at (slab.get old n)) = ap (given_in q) names in
        let kept : links_in (inodes_of new) q ≡ links_in (inodes_of old) q = omega arith in
        same-links same q ∙ was.counts q ∙ sym kept;
    sound = still-sound was.sound here;
  }

-- what the headers count
pub counted_number : (headers : Slab Header) → AreCounted headers → (n : ℕ) (header : Header) → slab.get headers n ≡ Some header → header.links ≡ links_in (inodes_of headers) n
counted_number headers was n header found = sym (ap links_of found) ∙ was.counts n

pub some_same : {X : Type 0} (P : X → Type 0) (x y : X) → Some x ≡ Some y → P x → P y
some_same P x y e h = subst P (ap (or_else x) e) h
  where
    or_else : {X : Type 0} → X → Option X → X
    or_else x (Some y) = y
    or_else x None = x

-- a change of a place
abbrev pub IsKept : (Place → Place) → Header → Type 0
IsKept f header = IsSound (at_place f header) × (names_at (Some (at_place f header)) ≡ names_at (Some header))

module _ (f : Place → Place) (old new : Slab Header) (n : ℕ) where
  pub counted-altered : AreCounted old → Updates old new n (option_map (at_place f) (slab.get old n)) → ((header : Header) → slab.get old n ≡ Some header → IsSound header → IsKept f header) → AreCounted new
  counted-altered was u kept = by_slot (slab.get old n) refl
    where
      by_slot : (o : Option Header) → slab.get old n ≡ o → AreCounted new
      by_slot None found = counted-updated old new n None (subst (λ (o : Option Header). Updates old new n (option_map (at_place f) o)) found u) was (λ header e. absurd cc) (ap links_of (sym found)) (ap names_at (sym found))
      by_slot (Some header) found =
          let ok : IsSound (at_place f header) × (names_at (Some (at_place f header)) ≡ names_at (Some header)) = kept header found (was.sound n header found) in
          counted-updated old new n (Some (at_place f header)) (subst (λ (o : Option Header). Updates old new n (option_map (at_place f) o)) found u) was (λ h e. some_same IsSound (at_place f header) h e ok.0) (ap links_of (sym found)) (ok.1 ∙ ap names_at (sym found))

pub kept-installed : (header : Header) → IsSound header → IsKept installed header
kept-installed header sound = by_stage header.place.stage header.place.object header.links header.rights sound
  where
    by_stage : (t : Stage) (object : Object) (links : ℕ) (rights : Option Rights) → IsSound (record { place = record { stage = t; object = object }; links = links; rights = rights }) → IsKept installed (record { place = record { stage = t; object = object }; links = links; rights = rights })
    by_stage Coming object links rights sound = (record { staged = tt; few = sound.few }, sound.staged)
    by_stage Held object links rights sound = (sound, refl)
    by_stage Removed object links rights sound = (sound, refl)

pub kept-hidden : (header : Header) → IsSound header → header.links ≡ 0 → names_at (Some header) ≡ empty → IsKept hidden header
kept-hidden header sound unnamed bare = (record { staged = unnamed; few = sound.few }, sym bare)

-- a change of an object that leaves its names
pub kept-names : (g : Object → Object) → ((object : Object) → names_in (g object) ≡ names_in object) → (header : Header) → IsSound header → IsKept (λ place. record place { object = g place.object }) header
kept-names g same header sound = (record { staged = subst (λ names. IsStaged header.place.stage names header.links) (sym (same header.place.object)) sound.staged; few = subst (λ (names : FinMap name_cmp ℕ). len names < 2 ^ 64) (sym (same header.place.object)) sound.few }, shown_names header.place.stage header.place.object (same header.place.object))
  where
    shown_names : (t : Stage) (object : Object) → names_in (g object) ≡ names_in object → names_of_inode (shown_at t (inode_of (g object))) ≡ names_of_inode (shown_at t (inode_of object))
    shown_names Coming object e = refl
    shown_names Held object e = e
    shown_names Removed object e = refl

-- a change of promised room, of a file, and of a description
pub kept-room : (f : Listing → Listing) → ((listing : Listing) → (f listing).names ≡ listing.names) → (header : Header) → IsSound header → IsKept (with_listing f) header
kept-room f same = kept-names (changed_object f) by_object
  where
    by_object : (object : Object) → names_in (changed_object f object) ≡ names_in object
    by_object (Directory listing) = same listing
    by_object (File file) = refl
    by_object (Pipe pipe) = refl
    by_object (Fixed fixed) = refl
    by_object (Description opened) = refl
    by_object Nothing = refl

pub kept-file : (f : OpenFile → OpenFile) (header : Header) → IsSound header → IsKept (with_file f) header
kept-file f = kept-names (changed_file f) by_object
  where
    by_object : (object : Object) → names_in (changed_file f object) ≡ names_in object
    by_object (Directory listing) = refl
    by_object (File file) = refl
    by_object (Pipe pipe) = refl
    by_object (Fixed fixed) = refl
    by_object (Description opened) = refl
    by_object Nothing = refl

pub kept-pipe : (f : OpenPipe → OpenPipe) (header : Header) → IsSound header → IsKept (with_pipe f) header
kept-pipe f = kept-names (changed_pipe f) by_object
  where
    by_object : (object : Object) → names_in (changed_pipe f object) ≡ names_in object
    by_object (Directory listing) = refl
    by_object (File file) = refl
    by_object (Pipe pipe) = refl
    by_object (Fixed fixed) = refl
    by_object (Description opened) = refl
    by_object Nothing = refl

pub kept-opened : (f : Opened → Opened) (header : Header) → IsSound header → IsKept (with_opened f) header
kept-opened f = kept-names (changed_opened f) by_object
  where
    by_object : (object : Object) → names_in (changed_opened f object) ≡ names_in object
    by_object (Directory listing) = refl
    by_object (File file) = refl
    by_object (Pipe pipe) = refl
    by_object (Fixed fixed) = refl
    by_object (Description opened) = refl
    by_object Nothing = refl

few_of : (object : Object) → names_in object ≡ empty → len (names_in object) < 2 ^ 64
few_of object e = let none : len (names_in object) ≡ 0 = ap len e ∙ len-empty name_cmp ℕ in omega arith

-- an object without names comes where nothing was settled
pub kept-settled : (object : Object) → names_in object ≡ empty → (header : Header) → header.place ≡ coming Nothing → IsKept (λ place. present object) header
kept-settled object bare header is = (record { staged = tt; few = few_of object bare }, bare ∙ sym (ap (λ (place : Place). names_of_inode (inode_in place)) is))

-- a change of rights
pub counted-set : (rights : Option Rights) (old new : Slab Header) (n : ℕ) → AreCounted old → Updates old new n (option_map (with_rights rights) (slab.get old n)) → AreCounted new
counted-set rights old new n was u = by_slot (slab.get old n) refl
  where
    updated : (o : Option Header) → slab.get old n ≡ o → Updates old new n (option_map (with_rights rights) o)
    updated o found = subst (λ (o : Option Header). Updates old new n (option_map (with_rights rights) o)) found u

    still : (header : Header) → IsSound header → IsSound (with_rights rights header)
    still header sound = record { staged = sound.staged; few = sound.few }

    by_slot : (o : Option Header) → slab.get old n ≡ o → AreCounted new
    by_slot None found = counted-updated old new n None (updated None found) was (λ header e. absurd cc) (ap links_of (sym found)) (ap names_at (sym found))
    by_slot (Some header) found =
        counted-updated old new n (Some (with_rights rights header)) (updated (Some header) found) was
        (λ h e. some_same IsSound (with_rights rights header) h e (still header (was.sound n header found)))
        (ap links_of (sym found)) (ap names_at (sym found))

pub counted-kept : (old new : Slab Header) (n : ℕ) → AreCounted old → Updates old new n (slab.get old n) → AreCounted new
counted-kept old new n was u = counted-updated old new n (slab.get old n) u was (was.sound n) refl refl

-- what is given up was given by no name, and had no names that were counted
module _ (old new : Slab Header) (n : ℕ) where
  pub counted-over : AreCounted old → Updates old new n None → is_over (place_of (slab.get old n)) ≡ true → AreCounted new
  counted-over was u over = counted-updated old new n None u was (λ header e. absurd cc) (by_slot (slab.get old n) refl).0 (by_slot (slab.get old n) refl).1
    where
      by_stage : (t : Stage) (object : Object) (links : ℕ) → IsStaged t (names_in object) links → is_over_by t (has_room (listing_of object)) ≡ true → (0 ≡ links) × (empty ≡ names_of_inode (shown_at t (inode_of object)))
      by_stage Removed object links staged over = (sym staged, refl)
      by_stage Coming object links staged over = absurd cc
      by_stage Held object links staged over = absurd cc

      by_slot : (o : Option Header) → slab.get old n ≡ o → (links_of None ≡ links_of o) × (names_at None ≡ names_at o)
      by_slot None found = (refl, refl)
      by_slot (Some header) found = by_stage header.place.stage header.place.object header.links (was.sound n header found).staged (sym (ap (λ (o : Option Header). is_over (place_of o)) found) ∙ over)

  -- a new header
  pub counted-reserved : (object : Object) → AreCounted old → Updates old new n (Some (record { place = coming object; links = 0; rights = None })) → slab.get old n ≡ None → names_in object ≡ empty → AreCounted new
  counted-reserved object was u none bare = counted-updated old new n (Some (record { place = coming object; links = 0; rights = None })) u was
      (λ header e. some_same IsSound _ header e (record { staged = bare; few = few_of object bare }))
      (ap links_of (sym none)) (ap names_at (sym none))

  pub counted-root : (object : Object) → AreCounted old → Updates old new n (Some (record { place = present object; links = 0; rights = None })) → slab.get old n ≡ None → names_in object ≡ empty → AreCounted new
  counted-root object was u none bare = counted-updated old new n (Some (record { place = present object; links = 0; rights = None })) u was
      (λ header e. some_same IsSound _ header e (record { staged = tt; few = few_of object bare }))
      (ap links_of (sym none)) (bare ∙ ap names_at (sym none))

-- a slab that is alike, and one with nothing in it
pub counted-alike : (old new : Slab Header) → new.slots ≡ old.slots → AreCounted old → AreCounted new
counted-alike old new same was = record {
  counts = λ q. ap (λ slots. links_of (slab.get (record new { slots = slots }) q)) same ∙ was.counts q ∙ sym (ap (λ slots. links_in (inodes_of (record new { slots = slots })) q) same);
  sound = λ q header is. was.sound q header (ap (λ slots. slab.get (record new { slots = slots }) q) (sym same) ∙ is);
}

pub places-empty : (headers : Slab Header) → headers.slots ≡ [] → places_of headers ≡ empty
places-empty headers none = ap (λ slots. places_of (record headers { slots = slots })) none

pub rights-empty : (headers : Slab Header) → headers.slots ≡ [] → rights_of headers ≡ empty
rights-empty headers none = ap (λ slots. rights_of (record headers { slots = slots })) none

pub counted-empty : (headers : Slab Header) → headers.slots ≡ [] → AreCounted headers
counted-empty headers none = record {
  counts = λ q. ap (λ slots. links_of (slab.get (record headers { slots = slots }) q)) none ∙ sym (ap (λ slots. links_in (inodes_of (record headers { slots = slots })) q) none ∙ ap (λ m. links_in m q) (chosen-empty inode_in) ∙ no_links q);
  sound = λ q header is. let gone : None ≡ Some header = ap (λ slots. slab.get (record headers { slots = slots }) q) (sym none) ∙ is in absurd cc;
}
  where
    no_links : (q : ℕ) → links_in empty q ≡ 0
    no_links q = ap (λ es. sum_by (λ (inode : Inode). given_in q (names_of_inode (Some inode))) (map (λ e. e.1) es)) (entries-empty nat_cmp)
