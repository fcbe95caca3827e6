-- Names that come and go, and the counts that follow them.
use Rattle.std.proofs.Common.{◌≡◌, ℕ, suc, ◌+◌, ◌*◌, ◌<◌, ◌≤◌, ◌^◌, Bool, true, false, cond, List, [], ◌∷◌, map, length, Option, Some, None, is_some, nat_cmp, refl, sym, ap, subst, ◌∙◌, arith, inl, inr, count_by, ne_eqb, zero-add}
use Rattle.std.specs.Option.{option_map}
use Rattle.std.proofs.lemmas.Bool.{cases_eq}
use Rattle.std.proofs.lemmas.List.Sums.{sum_by-cons}
use Rattle.slab.specs.Slab.{Slab, Updates, slab_len}
use Rattle.slab.specs.Slab as slab
use Rattle.std.specs.Cmp.{nat_cmp_total}
use Rattle.std.specs.Ordering.{eq_by_cmp}
use Rattle.model.specs.FiniteMap.{FinMap, contains_key, empty, entries, from_entries, get, get-empty, get-remove, insert, len, len-empty, len-entries, len-insert, len_before_remove, remove, same_map}
use Rattle.model.specs.Places.{placed}
use Rattle.model.specs.State.{Inode, Name, name_cmp, names_of_inode}
use Rattle.model.proofs.Laws.{given_in}
use Rattle.dirlist.specs.Listing.{Listing}
use Rattle.dirlist.proofs.Laws.{name_total, name_exact}
use Rattle.ids.specs.declared.rights.Rights.{Rights}
use Rattle.store.specs.Headers.{AreCounted, GainsLink, IsSound, IsStaged, LosesLink, at_place, counted, given_by, links_of, names_in, place_of, places_of}
use Rattle.store.specs.Links.{links_in}
use Rattle.store.specs.Places.{changed_object, is_coming, is_coming_by, is_directory, shows_names, listing_in, listing_of, may_be_named, may_be_named_by, number_in, with_listing, with_name, without_name}
use Rattle.store.specs.Numbers.{if_held}
use Rattle.store.specs.Shown.{chosen, chosen_entries, in_front, inode_in, inode_of, shown_at}
use Rattle.store.specs.declared.Header.{Header}
use Rattle.store.specs.declared.Object.{Object}
use Rattle.store.specs.declared.Object.TheVariants.{Directory, File, Pipe, Fixed, Description, Nothing}
use Rattle.store.specs.declared.Place.{Place}
use Rattle.store.specs.declared.Stage.{Stage}
use Rattle.store.specs.declared.Stage.TheVariants.{Coming, Held, Removed}
use Rattle.store.proofs.Counted.{get-inodes_of, inode_at, links-updated, names_at, same-links, inodes_of, some_same, still-sound}
use Rattle.store.proofs.Counts.{given-insert, given-le-links, given-remove, given-some, links-le}
use Rattle.store.proofs.Rows.{places-same}

-- what the name gave, where it is counted
abbrev pub former_at : Option Header → Name → Option ℕ
former_at o name = counted (place_of o) (number_in (listing_in (place_of o)) name)

-- the counts of the names at one number, after a name came and after one went
pub given-named : (name : Name) (n : ℕ) (o : Option Header) (q : ℕ) → given_in q (names_at (option_map (at_place (with_listing (with_name name n))) o)) + given_by (former_at o name) q ≡ given_in q (names_at o) + given_by (counted (place_of o) (Some n)) q
given-named name n None q = refl
given-named name n (Some header) q = by_object header.place.stage header.place.object
  where
    by_object : (t : Stage) (object : Object) → given_in q (names_of_inode (shown_at t (inode_of (changed_object (with_name name n) object)))) + given_by (cond (is_directory (if_held t object)) (number_in (listing_of object) name) None) q ≡ given_in q (names_of_inode (shown_at t (inode_of object))) + given_by (cond (is_directory (if_held t object)) (Some n) None) q
    by_object Held (Directory listing) = given-insert listing.names name n q
    by_object Held (File file) = refl
    by_object Held (Pipe pipe) = refl
    by_object Held (Fixed fixed) = refl
    by_object Held (Description opened) = refl
    by_object Held Nothing = refl
    by_object Coming object = refl
    by_object Removed object = refl

pub given-unnamed : (name : Name) (o : Option Header) (q : ℕ) → given_in q (names_at (option_map (at_place (with_listing (without_name name))) o)) + given_by (former_at o name) q ≡ given_in q (names_at o) + given_by None q
given-unnamed name None q = refl
given-unnamed name (Some header) q = by_object header.place.stage header.place.object
  where
    by_object : (t : Stage) (object : Object) → given_in q (names_of_inode (shown_at t (inode_of (changed_object (without_name name) object)))) + given_by (cond (is_directory (if_held t object)) (number_in (listing_of object) name) None) q ≡ given_in q (names_of_inode (shown_at t (inode_of object))) + 0
    by_object Held (Directory listing) = let less : given_in q (remove listing.names name) + given_by (get listing.names name) q ≡ given_in q listing.names = given-remove listing.names name q in omega arith
    by_object Held (File file) = refl
    by_object Held (Pipe pipe) = refl
    by_object Held (Fixed fixed) = refl
    by_object Held (Description opened) = refl
    by_object Held Nothing = refl
    by_object Coming object = refl
    by_object Removed object = refl

-- what a name gives is counted
pub former-counted : (headers : Slab Header) → AreCounted headers → (d : ℕ) (name : Name) (n : ℕ) → former_at (slab.get headers d) name ≡ Some n → 0 < links_of (slab.get headers n)
former-counted headers was d name n is =
    let some : 0 < given_in n (names_at (slab.get headers d)) = by_slot (slab.get headers d) is in
    let among : given_in n (names_of_inode (get (inodes_of headers) d)) ≤ links_in (inodes_of headers) n = given-le-links (inodes_of headers) d n in
    let same : given_in n (names_of_inode (get (inodes_of headers) d)) ≡ given_in n (names_at (slab.get headers d)) = ap (λ (i : Option Inode). given_in n (names_of_inode i)) (get-inodes_of headers d) in
    let count : links_of (slab.get headers n) ≡ links_in (inodes_of headers) n = was.counts n in
    omega arith
  where
    by_object : (t : Stage) (object : Object) → cond (is_directory (if_held t object)) (number_in (listing_of object) name) None ≡ Some n → 0 < given_in n (names_of_inode (shown_at t (inode_of object)))
    by_object Held (Directory listing) e = given-some listing.names name n e
    by_object Held (File file) e = absurd cc
    by_object Held (Pipe pipe) e = absurd cc
    by_object Held (Fixed fixed) e = absurd cc
    by_object Held (Description opened) e = absurd cc
    by_object Held Nothing e = absurd cc
    by_object Coming object e = absurd cc
    by_object Removed object e = absurd cc

    by_slot : (o : Option Header) → former_at o name ≡ Some n → 0 < given_in n (names_at o)
    by_slot None e = absurd cc
    by_slot (Some header) e = by_object header.place.stage header.place.object e

-- the places after the names of one number changed and the counts followed, where n is what the new name gives
module _ (old named less more : Slab Header) (d : ℕ) (o : Option Header) (former new : Option ℕ)
    (was : AreCounted old) (u : Updates old named d o) (kept : links_of o ≡ links_of (slab.get old d))
    (follows : (q : ℕ) → given_in q (names_at o) + given_by former q ≡ given_in q (names_at (slab.get old d)) + given_by new q)
    (sound : (q : ℕ) (header : Header) → slab.get named q ≡ Some header → IsSound header)
    (loses : LosesLink named less former) (gains : GainsLink less more new)
    (in_use : (n : ℕ) → new ≡ Some n → may_be_named (place_of (slab.get less n)) ≡ true) where
  same_place : (q : ℕ) → place_of (slab.get more q) ≡ place_of (slab.get named q)
  same_place q = gains.places q ∙ loses.places q

  counts : (q : ℕ) → links_of (slab.get more q) ≡ links_in (inodes_of more) q
  counts q =
      let moved : links_in (inodes_of named) q + given_in q (names_at (slab.get old d)) ≡ links_in (inodes_of old) q + given_in q (names_at o) = links-updated old named d o u q in
      let names : given_in q (names_at o) + given_by former q ≡ given_in q (names_at (slab.get old d)) + given_by new q = follows q in
      let first : links_of (slab.get named q) ≡ links_of (slab.get old q) = same-links old named d o u kept q in
      let count : links_of (slab.get old q) ≡ links_in (inodes_of old) q = was.counts q in
      let taken : links_of (slab.get less q) + given_by former q ≡ links_of (slab.get named q) = loses.links q in
      let added : links_of (slab.get more q) ≡ links_of (slab.get less q) + given_by new q = gains.links q in
      let same : links_in (inodes_of more) q ≡ links_in (inodes_of named) q = ap (λ places. links_in (chosen inode_in places) q) (places-same named more same_place) in
      omega arith

  -- no name gives what is removed
  none_lost : (q : ℕ) → may_be_named (place_of (slab.get less q)) ≡ false → given_by new q ≡ 0
  none_lost q barred = by_new new refl
    where
      by_new : (m : Option ℕ) → new ≡ m → given_by m q ≡ 0
      by_new None is = refl
      by_new (Some n) is = elim (cases_eq n q) [
        | inl e ↦ let bad : true ≡ false = sym (in_use n is) ∙ ap (λ n. may_be_named (place_of (slab.get less n))) e ∙ barred in absurd cc
        | inr away ↦ ap (λ (b : Bool). cond b 1 0) (ne_eqb n q away)
      ]

  still_sound : (q : ℕ) (header : Header) → slab.get more q ≡ Some header → IsSound header
  still_sound q header is = by_former (slab.get named q) refl
    where
      by_stage : (t : Stage) (names : FinMap name_cmp ℕ) (before after : ℕ) → IsStaged t names before → (may_be_named_by t ≡ false → before ≡ 0 → after ≡ 0) → IsStaged t names after
      by_stage Coming names before after staged none = staged
      by_stage Held names before after staged none = tt
      by_stage Removed names before after staged none = none refl staged

      gone : (first : Header) → slab.get named q ≡ Some first → may_be_named (Some first.place) ≡ false → first.links ≡ 0 → links_of (slab.get more q) ≡ 0
      gone first found barred zero =
          let before : links_of (slab.get named q) ≡ 0 = ap links_of found ∙ zero in
          let taken : links_of (slab.get less q) + given_by former q ≡ links_of (slab.get named q) = loses.links q in
          let added : links_of (slab.get more q) ≡ links_of (slab.get less q) + given_by new q = gains.links q in
          let none : given_by new q ≡ 0 = none_lost q (ap may_be_named (loses.places q ∙ ap place_of found) ∙ barred) in
          omega arith

      by_place : (first : Header) → slab.get named q ≡ Some first → (place : Place) → first.place ≡ place → (links : ℕ) → links_of (slab.get more q) ≡ links → (rights : Option Rights) → IsSound (record { place = place; links = links; rights = rights })
      by_place first found place same links count rights =
          let was_sound : IsSound first = sound q first found in
          let staged : IsStaged place.stage (names_in place.object) first.links = subst (λ (p : Place). IsStaged p.stage (names_in p.object) first.links) same was_sound.staged in
          record {
            staged = by_stage place.stage (names_in place.object) first.links links staged (λ barred zero. sym count ∙ gone first found (ap (λ (p : Place). may_be_named_by p.stage) same ∙ barred) zero);
            few = subst (λ (p : Place). len (names_in p.object) < 2 ^ 64) same was_sound.few;
          }

      by_former : (o : Option Header) → slab.get named q ≡ o → IsSound header
      by_former None found = let bad : Some header.place ≡ None = sym (ap place_of is) ∙ same_place q ∙ ap place_of found in absurd cc
      by_former (Some first) found = some_same (λ (place : Place). first.place ≡ place → IsSound (record { place = place; links = header.links; rights = header.rights })) first.place header.place (sym (ap place_of found) ∙ sym (same_place q) ∙ ap place_of is) (λ e. by_place first found first.place e header.links (ap links_of is) header.rights) (some_same (λ place. first.place ≡ place) first.place header.place (sym (ap place_of found) ∙ sym (same_place q) ∙ ap place_of is) refl)

  pub counted-renamed : AreCounted more
  counted-renamed = record { counts = counts; sound = still_sound }

pub gains-none : (headers : Slab Header) → GainsLink headers headers None
gains-none headers = record { places = λ q. refl; rights = λ q. refl; links = λ q. omega arith }

pub loses-none : (headers : Slab Header) (former : Option ℕ) → former ≡ None → LosesLink headers headers former
loses-none headers former none = record { places = λ q. refl; rights = λ q. refl; links = λ q. ap (λ o. links_of (slab.get headers q) + given_by o q) none ∙ (let same : links_of (slab.get headers q) + 0 ≡ links_of (slab.get headers q) = omega arith in same) }

pub counted-none : (place : Option Place) (target : Option ℕ) → target ≡ None → counted place target ≡ None
counted-none place target none = ap (counted place) none ∙ by_test (shows_names place)
  where
    by_test : (b : Bool) → cond {A = Option ℕ} b None None ≡ None
    by_test true = refl
    by_test false = refl

pub counted-kept_links : (f : Place → Place) (o : Option Header) → links_of (option_map (at_place f) o) ≡ links_of o
counted-kept_links f None = refl
counted-kept_links f (Some header) = refl

-- a place with one name less is sound, and so is one with a name more that is not to come
remove-empty : (name : Name) → remove (empty {X = ℕ} {R = name_cmp}) name ≡ empty
remove-empty name = same_map name_total name_exact _ _ (λ q. get-remove name_total empty name q ∙ ap (cond (eq_by_cmp name_cmp q name) None) (get-empty name_cmp q) ∙ none_in (eq_by_cmp name_cmp q name) ∙ sym (get-empty name_cmp q))
  where
    none_in : (b : Bool) → cond {A = Option ℕ} b None None ≡ None
    none_in true = refl
    none_in false = refl

pub sound-unnamed : (name : Name) (header : Header) → IsSound header → IsSound (at_place (with_listing (without_name name)) header)
sound-unnamed name header sound = by_object header.place.stage header.place.object header.links header.rights sound
  where
    staged : (t : Stage) (names : FinMap name_cmp ℕ) (links : ℕ) → IsStaged t names links → IsStaged t (remove names name) links
    staged Coming names links e = ap (λ (names : FinMap name_cmp ℕ). remove names name) e ∙ remove-empty name
    staged Held names links e = tt
    staged Removed names links e = e

    by_object : (t : Stage) (object : Object) (links : ℕ) (rights : Option Rights) → IsSound (record { place = record { stage = t; object = object }; links = links; rights = rights }) → IsSound (record { place = record { stage = t; object = changed_object (without_name name) object }; links = links; rights = rights })
    by_object t (Directory listing) links rights sound = record {
      staged = staged t listing.names links sound.staged;
      few = (let less : cond (contains_key listing.names name) 1 0 + len (remove listing.names name) ≡ len listing.names = len_before_remove name_total listing.names name in let few : len listing.names < 2 ^ 64 = sound.few in omega arith);
    }
    by_object t (File file) links rights sound = sound
    by_object t (Pipe pipe) links rights sound = sound
    by_object t (Fixed fixed) links rights sound = sound
    by_object t (Description opened) links rights sound = sound
    by_object t Nothing links rights sound = sound

pub sound-named : (name : Name) (n : ℕ) (header : Header) → IsSound header → is_coming (Some header.place) ≡ false → ((listing : Listing) → listing_in (Some (with_listing (with_name name n) header.place)) ≡ Some listing → len listing.names < 2 ^ 64) → IsSound (at_place (with_listing (with_name name n)) header)
sound-named name n header sound = by_object header.place.stage header.place.object header.links header.rights sound
  where
    staged : (t : Stage) (names more : FinMap name_cmp ℕ) (links : ℕ) → is_coming_by t ≡ false → IsStaged t names links → IsStaged t more links
    staged Coming names more links away e = absurd cc
    staged Held names more links away e = tt
    staged Removed names more links away e = e

    by_object : (t : Stage) (object : Object) (links : ℕ) (rights : Option Rights) → IsSound (record { place = record { stage = t; object = object }; links = links; rights = rights }) → is_coming_by t ≡ false → ((listing : Listing) → listing_of (changed_object (with_name name n) object) ≡ Some listing → len listing.names < 2 ^ 64) → IsSound (record { place = record { stage = t; object = changed_object (with_name name n) object }; links = links; rights = rights })
    by_object t (Directory listing) links rights sound away few = record {
      staged = staged t listing.names (insert listing.names name n) links away sound.staged;
      few = few (with_name name n listing) refl;
    }
    by_object t (File file) links rights sound away few = sound
    by_object t (Pipe pipe) links rights sound away few = sound
    by_object t (Fixed fixed) links rights sound away few = sound
    by_object t (Description opened) links rights sound away few = sound
    by_object t Nothing links rights sound away few = sound

-- a count is less than 2^128
chosen-le : (es : List (ℕ × Place)) → length (chosen_entries inode_in es) ≤ length es
chosen-le [] = omega arith
chosen-le (e ∷ es) = by_first (inode_in e.1) (chosen-le es)
  where
    by_first : (o : Option Inode) → length (chosen_entries inode_in es) ≤ length es → length (in_front e.0 o (chosen_entries inode_in es)) ≤ length (e ∷ es)
    by_first None rest = omega arith
    by_first (Some i) rest = omega arith

len-from_entries-le : {X : Type 0} (es : List (ℕ × X)) → len (from_entries {R = nat_cmp} es) ≤ length es
len-from_entries-le {X} [] = let none : len (empty {X = X} {R = nat_cmp}) ≡ 0 = len-empty nat_cmp X in omega arith
len-from_entries-le (e ∷ es) = by_test (contains_key (from_entries es) e.0) (len-insert nat_cmp_total (from_entries es) e.0 e.1) (len-from_entries-le es)
  where
    by_test : (b : Bool) {n m : ℕ} → n ≡ cond b m (m + 1) → m ≤ length es → n ≤ length (e ∷ es)
    by_test true is rest = omega arith
    by_test false is rest = omega arith

length-placed : (first : ℕ) (slots : List (Option Header)) → length (placed first (map place_of slots)) ≡ count_by is_some slots
length-placed first [] = refl
length-placed first (None ∷ slots) = length-placed (suc first) slots ∙ sym (sum_by-cons (λ (o : Option Header). cond (is_some o) 1 0) None slots ∙ zero-add _)
length-placed first (Some header ∷ slots) =
    let rest : length (placed first (map place_of (Some header ∷ slots))) ≡ suc (count_by is_some slots) = ap (λ n. suc n) (length-placed (suc first) slots) in
    let step : count_by is_some (Some header ∷ slots) ≡ 1 + count_by is_some slots = sum_by-cons (λ (o : Option Header). cond (is_some o) 1 0) (Some header) slots in
    omega arith

-- no more numbers are in use than the slab holds headers
pub len-places-le : (headers : Slab Header) → len (places_of headers) ≤ slab_len headers
len-places-le headers =
    let used : len (places_of headers) ≤ length (placed 0 (map place_of headers.slots)) = len-from_entries-le (placed 0 (map place_of headers.slots)) in
    let slots : length (placed 0 (map place_of headers.slots)) ≡ slab_len headers = length-placed 0 headers.slots in
    omega arith

len-inodes_of-le : (headers : Slab Header) → len (inodes_of headers) ≤ slab_len headers
unfolding chosen
len-inodes_of-le headers =
    let all : len (from_entries {R = nat_cmp} (chosen_entries inode_in (entries (places_of headers)))) ≤ length (chosen_entries inode_in (entries (places_of headers))) = len-from_entries-le (chosen_entries inode_in (entries (places_of headers))) in
    let some : length (chosen_entries inode_in (entries (places_of headers))) ≤ length (entries (places_of headers)) = chosen-le (entries (places_of headers)) in
    let is : len (places_of headers) ≡ length (entries (places_of headers)) = len-entries (places_of headers) in
    let used : len (places_of headers) ≤ slab_len headers = len-places-le headers in
    omega arith

few_in : (headers : Slab Header) → AreCounted headers → (n : ℕ) (inode : Inode) → get (inodes_of headers) n ≡ Some inode → len (names_of_inode (Some inode)) ≤ 18446744073709551615
few_in headers was n inode is = by_slot (slab.get headers n) refl
  where
    by_stage : (t : Stage) (object : Object) → len (names_in object) < 2 ^ 64 → shown_at t (inode_of object) ≡ Some inode → len (names_of_inode (Some inode)) ≤ 18446744073709551615
    by_stage Held object few e = let same : len (names_in object) ≡ len (names_of_inode (Some inode)) = ap (λ i. len (names_of_inode i)) e in omega arith
    by_stage Coming object few e = absurd cc
    by_stage Removed object few e = absurd cc

    by_slot : (o : Option Header) → slab.get headers n ≡ o → len (names_of_inode (Some inode)) ≤ 18446744073709551615
    by_slot None found = let bad : None ≡ Some inode = sym (get-inodes_of headers n ∙ ap inode_at found) ∙ is in absurd cc
    by_slot (Some header) found = by_stage header.place.stage header.place.object (was.sound n header found).few (sym (get-inodes_of headers n ∙ ap inode_at found) ∙ is)

pub counts-fit : (headers : Slab Header) → AreCounted headers → slab_len headers < 2 ^ 64 → (n : ℕ) → links_of (slab.get headers n) + 1 < 2 ^ 128
counts-fit headers was few n =
    let most : links_in (inodes_of headers) n ≤ len (inodes_of headers) * 18446744073709551615 = links-le (inodes_of headers) 18446744073709551615 n (few_in headers was) in
    let numbers : len (inodes_of headers) ≤ slab_len headers = len-inodes_of-le headers in
    let count : links_of (slab.get headers n) ≡ links_in (inodes_of headers) n = was.counts n in
    omega arith

-- a change of the listing at one number, and the counts that follow it, as add_name and remove_name make them
module _ (f : Listing → Listing) (old named : Slab Header) (d : ℕ) (u : Updates old named d (option_map (at_place (with_listing f)) (slab.get old d))) where
  -- what is said of how far an object is stays so
  pub stage-kept : (g : Option Place → Bool) → ((place : Place) → g (Some (with_listing f place)) ≡ g (Some place)) → (q : ℕ) → g (place_of (slab.get named q)) ≡ g (place_of (slab.get old q))
  stage-kept g same q = elim (cases_eq q d) [
    | inl e ↦ ap (λ q. g (place_of (slab.get named q))) e ∙ ap (λ o. g (place_of o)) u.changed ∙ by_slot (slab.get old d) ∙ ap (λ q. g (place_of (slab.get old q))) (sym e)
    | inr away ↦ ap (λ o. g (place_of o)) (u.others q away)
  ]
    where
      by_slot : (o : Option Header) → g (place_of (option_map (at_place (with_listing f)) o)) ≡ g (place_of o)
      by_slot None = refl
      by_slot (Some header) = same header.place

  -- what is counted is decided by the stage and the kind of the object
  pub counted-kept_stage : (target : Option ℕ) → counted (place_of (slab.get named d)) target ≡ counted (place_of (slab.get old d)) target
  counted-kept_stage target = ap (λ (b : Bool). cond b target None) (stage-kept shows_names (λ place. by_object place.stage place.object) d)
    where
      by_object : (t : Stage) (object : Object) → is_directory (if_held t (changed_object f object)) ≡ is_directory (if_held t object)
      by_object Held (Directory listing) = refl
      by_object Held (File file) = refl
      by_object Held (Pipe pipe) = refl
      by_object Held (Fixed fixed) = refl
      by_object Held (Description opened) = refl
      by_object Held Nothing = refl
      by_object Coming object = refl
      by_object Removed object = refl

  pub links-kept : (q : ℕ) → links_of (slab.get named q) ≡ links_of (slab.get old q)
  links-kept q = same-links old named d (option_map (at_place (with_listing f)) (slab.get old d)) u (counted-kept_links (with_listing f) (slab.get old d)) q

  module _ (name : Name) (target : Option ℕ) (is : target ≡ number_in (listing_in (place_of (slab.get old d))) name) where
    pub former-is : counted (place_of (slab.get named d)) target ≡ former_at (slab.get old d) name
    former-is = counted-kept_stage target ∙ ap (counted (place_of (slab.get old d))) is

    pub link-counted : AreCounted old → (n : ℕ) → counted (place_of (slab.get named d)) target ≡ Some n → 0 < links_of (slab.get named n)
    link-counted was n e =
        let before : 0 < links_of (slab.get old n) = former-counted old was d name n (sym former-is ∙ e) in
        let same : links_of (slab.get named n) ≡ links_of (slab.get old n) = links-kept n in
        omega arith

  sound-changed : AreCounted old → ((header : Header) → slab.get old d ≡ Some header → IsSound header → IsSound (at_place (with_listing f) header)) → (q : ℕ) (header : Header) → slab.get named q ≡ Some header → IsSound header
  sound-changed was here = by_slot (slab.get old d) refl
    where
      changed : (o : Option Header) → slab.get old d ≡ o → Updates old named d (option_map (at_place (with_listing f)) o)
      changed o found = subst (λ (o : Option Header). Updates old named d (option_map (at_place (with_listing f)) o)) found u

      by_slot : (o : Option Header) → slab.get old d ≡ o → (q : ℕ) (header : Header) → slab.get named q ≡ Some header → IsSound header
      by_slot None found = still-sound old named d None (changed None found) was.sound (λ header e. absurd cc)
      by_slot (Some header) found = still-sound old named d (Some (at_place (with_listing f) header)) (changed (Some header) found) was.sound (λ h e. some_same IsSound (at_place (with_listing f) header) h e (here header found (was.sound d header found)))

-- a name that comes
module _ (name : Name) (n : ℕ) (old named less : Slab Header) (d : ℕ) (u : Updates old named d (option_map (at_place (with_listing (with_name name n))) (slab.get old d))) (target : Option ℕ) (is : target ≡ number_in (listing_in (place_of (slab.get old d))) name) (loses : LosesLink named less (counted (place_of (slab.get named d)) target)) where
  pub may_be_named-after : may_be_named (place_of (slab.get old n)) ≡ true → may_be_named (place_of (slab.get less n)) ≡ true
  may_be_named-after in_use = ap may_be_named (loses.places n) ∙ stage-kept (with_name name n) old named d u may_be_named (λ place. refl) n ∙ in_use

  pub link-fits : AreCounted old → slab_len old < 2 ^ 64 → links_of (slab.get less n) + 1 < 2 ^ 128
  link-fits was few =
      let before : links_of (slab.get old n) + 1 < 2 ^ 128 = counts-fit old was few n in
      let same : links_of (slab.get named n) ≡ links_of (slab.get old n) = links-kept (with_name name n) old named d u n in
      let taken : links_of (slab.get less n) + given_by (counted (place_of (slab.get named d)) target) n ≡ links_of (slab.get named n) = loses.links n in
      omega arith

  pub counted-named : (more : Slab Header) → GainsLink less more (counted (place_of (slab.get less d)) (Some n)) → AreCounted old → is_coming (place_of (slab.get old d)) ≡ false → may_be_named (place_of (slab.get old n)) ≡ true → ((listing : Listing) → listing_in (place_of (slab.get named d)) ≡ Some listing → len listing.names < 2 ^ 64) → AreCounted more
  counted-named more gains was settled in_use few =
      counted-renamed old named less more d _ (former_at (slab.get old d) name) (counted (place_of (slab.get old d)) (Some n)) was u (counted-kept_links (with_listing (with_name name n)) (slab.get old d))
      (given-named name n (slab.get old d))
      (sound-changed (with_name name n) old named d u was (λ header found sound. sound-named name n header sound (ap (λ o. is_coming (place_of o)) (sym found) ∙ settled) (λ listing e. few listing (ap (λ o. listing_in (place_of o)) (u.changed ∙ ap (option_map (at_place (with_listing (with_name name n)))) found) ∙ e))))
      (subst (LosesLink named less) (former-is (with_name name n) old named d u name target is) loses)
      (subst (GainsLink less more) (ap (λ place. counted place (Some n)) (loses.places d) ∙ counted-kept_stage (with_name name n) old named d u (Some n)) gains)
      (only_new (shows_names (place_of (slab.get old d))))
    where
      only_new : (b : Bool) (m : ℕ) → cond b (Some n) None ≡ Some m → may_be_named (place_of (slab.get less m)) ≡ true
      only_new true m e = some_same (λ m. may_be_named (place_of (slab.get less m)) ≡ true) n m e (may_be_named-after in_use)
      only_new false m e = absurd cc

-- a name that goes
module _ (name : Name) (old named less : Slab Header) (d : ℕ) (u : Updates old named d (option_map (at_place (with_listing (without_name name))) (slab.get old d))) (target : Option ℕ) (is : target ≡ number_in (listing_in (place_of (slab.get old d))) name) where
  pub counted-unnamed : LosesLink named less (counted (place_of (slab.get named d)) target) → AreCounted old → AreCounted less
  counted-unnamed loses was =
      counted-renamed old named less less d _ (former_at (slab.get old d) name) None was u (counted-kept_links (with_listing (without_name name)) (slab.get old d))
      (given-unnamed name (slab.get old d))
      (sound-changed (without_name name) old named d u was (λ header found sound. sound-unnamed name header sound))
      (subst (LosesLink named less) (former-is (without_name name) old named d u name target is) loses)
      (gains-none less)
      (λ n e. absurd cc)
