-- A change of one header of a slab, as a change of the maps of the places and of the rights, and of the store.
use Rattle.std.proofs.Common.{◌≡◌, ◌≢◌, ℕ, zero, suc, Bool, true, false, cond, get_or, List, [], ◌∷◌, map, Option, Some, None, nat_cmp, refl, sym, ap, subst, ◌∙◌, inl, inr}
use Rattle.std.specs.Option.{option_map}
use Rattle.std.specs.Ordering.{eq_by_cmp}
use Rattle.std.specs.Cmp.{nat_cmp_total}
use Rattle.std.proofs.lemmas.Bool.{cases_eq}
use Rattle.slab.specs.Slab.{Slab, Updates}
use Rattle.slab.specs.Slab as slab
use Rattle.model.specs.FiniteMap.{FinMap, get, insert, remove, get-insert, get-remove, same_map, nat_cmp-IsAntisymmetric}
use Rattle.model.proofs.Laws.{get-placed, tied, untied}
use Rattle.ids.specs.declared.rights.Rights.{Rights}
use Rattle.store.specs.Headers.{at_place, place_of, places_of, rights_at, rights_in, rights_of, with_rights}
use Rattle.store.specs.Numbers.{Numbers}
use Rattle.store.specs.Places.{altered_by, altered, unset}
use Rattle.store.specs.declared.Header.{Header}
use Rattle.store.specs.declared.Place.{Place}
use Rattle.store.proofs.Chosen.{insert-held, remove-absent}

module _ {X : Type 0} where
  pub at_each : (old new : Slab X) (n : ℕ) (x : Option X) → Updates old new n x → (q : ℕ) → get_or new.slots q None ≡ cond (eq_by_cmp nat_cmp q n) x (get_or old.slots q None)
  at_each old new n x u q =
      elim (cases_eq q n) [
        | inl e ↦ ap (λ q. get_or new.slots q None) e ∙ u.changed ∙ sym (tied q n x (get_or old.slots q None) e)
        | inr away ↦ u.others q away ∙ sym (untied q n x (get_or old.slots q None) away)
      ]

  -- a map after an insertion at one key, where the old map and the new one are known by what they give
  inserted_by : (old new : FinMap nat_cmp X) (n : ℕ) (x : X) → ((q : ℕ) → get new q ≡ cond (eq_by_cmp nat_cmp q n) (Some x) (get old q)) → new ≡ insert old n x
  inserted_by old new n x is = same_map nat_cmp_total nat_cmp-IsAntisymmetric _ _ (λ q. is q ∙ sym (get-insert nat_cmp_total old n x q))

  removed_by : (old new : FinMap nat_cmp X) (n : ℕ) → ((q : ℕ) → get new q ≡ cond (eq_by_cmp nat_cmp q n) None (get old q)) → new ≡ remove old n
  removed_by old new n is = same_map nat_cmp_total nat_cmp-IsAntisymmetric _ _ (λ q. is q ∙ sym (get-remove nat_cmp_total old n q))

get_or-place : (slots : List (Option Header)) (q : ℕ) → get_or (map place_of slots) q None ≡ place_of (get_or slots q None)
get_or-place [] q = refl
get_or-place (o ∷ slots) zero = refl
get_or-place (o ∷ slots) (suc q) = get_or-place slots q

-- what a number is used for
pub get-places : (headers : Slab Header) (q : ℕ) → get (places_of headers) q ≡ place_of (slab.get headers q)
get-places headers q = get-placed (map place_of headers.slots) q ∙ get_or-place headers.slots q

get_or-rights : (slots : List (Option Header)) (q : ℕ) → get_or (map rights_in slots) q None ≡ rights_in (get_or slots q None)
get_or-rights [] q = refl
get_or-rights (o ∷ slots) zero = refl
get_or-rights (o ∷ slots) (suc q) = get_or-rights slots q

-- the rights that were set of a number
pub get-rights : (headers : Slab Header) (q : ℕ) → get (rights_of headers) q ≡ rights_at headers q
get-rights headers q = get-placed (map rights_in headers.slots) q ∙ get_or-rights headers.slots q

place_of-cond : (b : Bool) (x y : Option Header) → place_of (cond b x y) ≡ cond b (place_of x) (place_of y)
place_of-cond true x y = refl
place_of-cond false x y = refl

rights_in-cond : (b : Bool) (x y : Option Header) → rights_in (cond b x y) ≡ cond b (rights_in x) (rights_in y)
rights_in-cond true x y = refl
rights_in-cond false x y = refl

module _ (old new : Slab Header) where
  place_after : (n : ℕ) (o : Option Header) → Updates old new n o → (q : ℕ) → get (places_of new) q ≡ cond (eq_by_cmp nat_cmp q n) (place_of o) (get (places_of old) q)
  place_after n o u q =
      get-places new q ∙ ap place_of (at_each old new n o u q) ∙ place_of-cond (eq_by_cmp nat_cmp q n) o (slab.get old q)
      ∙ ap (cond (eq_by_cmp nat_cmp q n) (place_of o)) (sym (get-places old q))

  pub places-insert : (n : ℕ) (header : Header) → Updates old new n (Some header) → places_of new ≡ insert (places_of old) n header.place
  places-insert n header u = inserted_by _ _ n header.place (place_after n (Some header) u)

  pub places-remove : (n : ℕ) → Updates old new n None → places_of new ≡ remove (places_of old) n
  places-remove n u = removed_by _ _ n (place_after n None u)

  -- the counts alone may change
  pub places-same : ((q : ℕ) → place_of (slab.get new q) ≡ place_of (slab.get old q)) → places_of new ≡ places_of old
  places-same same = same_map nat_cmp_total nat_cmp-IsAntisymmetric _ _ (λ q. get-places new q ∙ same q ∙ sym (get-places old q))

  kept_at : (key : ℕ) → Updates old new key (slab.get old key) → (q : ℕ) → slab.get new q ≡ slab.get old q
  kept_at key u q = elim (cases_eq q key) [ inl e ↦ ap (slab.get new) e ∙ u.changed ∙ ap (slab.get old) (sym e) | inr away ↦ u.others q away ]

  pub places-kept : (key : ℕ) → Updates old new key (slab.get old key) → places_of new ≡ places_of old
  places-kept key u = places-same (λ q. ap place_of (kept_at key u q))

  rights_after : (n : ℕ) (o : Option Header) → Updates old new n o → (q : ℕ) → get (rights_of new) q ≡ cond (eq_by_cmp nat_cmp q n) (rights_in o) (get (rights_of old) q)
  rights_after n o u q =
      get-rights new q ∙ ap rights_in (at_each old new n o u q) ∙ rights_in-cond (eq_by_cmp nat_cmp q n) o (slab.get old q)
      ∙ ap (cond (eq_by_cmp nat_cmp q n) (rights_in o)) (sym (get-rights old q))

  -- rights that are set, that go, and that stay
  pub rights-insert : (n : ℕ) (o : Option Header) (rights : Rights) → Updates old new n o → rights_in o ≡ Some rights → rights_of new ≡ insert (rights_of old) n rights
  rights-insert n o rights u set = inserted_by _ _ n rights (λ q. rights_after n o u q ∙ ap (λ r. cond (eq_by_cmp nat_cmp q n) r (get (rights_of old) q)) set)

  pub rights-remove : (n : ℕ) (o : Option Header) → Updates old new n o → rights_in o ≡ None → rights_of new ≡ remove (rights_of old) n
  rights-remove n o u none = removed_by _ _ n (λ q. rights_after n o u q ∙ ap (λ r. cond (eq_by_cmp nat_cmp q n) r (get (rights_of old) q)) none)

  pub rights-same : ((q : ℕ) → rights_at new q ≡ rights_at old q) → rights_of new ≡ rights_of old
  rights-same same = same_map nat_cmp_total nat_cmp-IsAntisymmetric _ _ (λ q. get-rights new q ∙ same q ∙ sym (get-rights old q))

  pub rights-kept : (n : ℕ) (o : Option Header) → Updates old new n o → rights_in o ≡ rights_at old n → rights_of new ≡ rights_of old
  rights-kept n o u kept = rights-same (λ q. elim (cases_eq q n) [
    | inl e ↦ ap (rights_at new) e ∙ ap rights_in u.changed ∙ kept ∙ ap (rights_at old) (sym e)
    | inr away ↦ ap rights_in (u.others q away)
  ])

-- what a store of this slab and root has
abbrev pub numbers_of : ℕ → Slab Header → Numbers
numbers_of root headers = record { places = places_of headers; rights = rights_of headers; root = root }

-- the places and the rights are such ones
pub numbers-are : (root : ℕ) (new : Slab Header) (s : Numbers) → places_of new ≡ s.places → rights_of new ≡ s.rights → root ≡ s.root → numbers_of root new ≡ s
numbers-are root new s p r e = λ i. record { places = p i; rights = r i; root = e i }

-- what the slab of a store has at a number
pub slot : (root : ℕ) (old : Slab Header) (s : Numbers) → numbers_of root old ≡ s → (key n : ℕ) → key ≡ n → place_of (slab.get old key) ≡ get s.places n
slot root old s is key n at = ap (λ k. place_of (slab.get old k)) at ∙ sym (get-places old n) ∙ ap (λ (s : Numbers). get s.places n) is

pub slot-rights : (root : ℕ) (old : Slab Header) (s : Numbers) → numbers_of root old ≡ s → (key n : ℕ) → key ≡ n → rights_at old key ≡ get s.rights n
slot-rights root old s is key n at = ap (rights_at old) at ∙ sym (get-rights old n) ∙ ap (λ (s : Numbers). get s.rights n) is

-- a store whose slab was changed at one key, where s is the store before
module _ (root : ℕ) (old new : Slab Header) (s : Numbers) (is : numbers_of root old ≡ s) (key n : ℕ) (at : key ≡ n) where
  pub store-same : Updates old new key (slab.get old key) → numbers_of root new ≡ s
  store-same u = numbers-are root new (numbers_of root old) (places-kept old new key u) (rights-kept old new key (slab.get old key) u refl) refl ∙ is

  -- a change of rights: these are set of a number that is in use, or none
  pub store-set : (rights : Rights) → get s.places n ≢ None → Updates old new key (option_map (with_rights (Some rights)) (slab.get old key)) → numbers_of root new ≡ record s { rights = insert s.rights n rights }
  store-set rights used u = by_header (slab.get old n) refl
    where
      updated : (o : Option Header) → slab.get old n ≡ o → Updates old new n (option_map (with_rights (Some rights)) o)
      updated o found = subst (λ (o : Option Header). Updates old new n (option_map (with_rights (Some rights)) o)) found (subst (λ (k : ℕ). Updates old new k (option_map (with_rights (Some rights)) (slab.get old k))) at u)

      by_header : (o : Option Header) → slab.get old n ≡ o → numbers_of root new ≡ record s { rights = insert s.rights n rights }
      by_header (Some header) found =
          numbers-are root new (record (numbers_of root old) { rights = insert (rights_of old) n rights })
          (places-insert old new n (with_rights (Some rights) header) (updated (Some header) found) ∙ insert-held (places_of old) n header.place (get-places old n ∙ ap place_of found))
          (rights-insert old new n (Some (with_rights (Some rights) header)) rights (updated (Some header) found) refl) refl
          ∙ ap (λ (s : Numbers). record s { rights = insert s.rights n rights }) is
      by_header None found = absurd (used (sym (slot root old s is n n refl) ∙ ap place_of found))

  pub store-unset : Updates old new key (option_map (with_rights None) (slab.get old key)) → numbers_of root new ≡ unset s n
  store-unset u = by_header (slab.get old n) refl ∙ ap (λ (s : Numbers). unset s n) is
    where
      updated : (o : Option Header) → slab.get old n ≡ o → Updates old new n (option_map (with_rights None) o)
      updated o found = subst (λ (o : Option Header). Updates old new n (option_map (with_rights None) o)) found (subst (λ (k : ℕ). Updates old new k (option_map (with_rights None) (slab.get old k))) at u)

      by_header : (o : Option Header) → slab.get old n ≡ o → numbers_of root new ≡ unset (numbers_of root old) n
      by_header (Some header) found =
          numbers-are root new (unset (numbers_of root old) n)
          (places-insert old new n (with_rights None header) (updated (Some header) found) ∙ insert-held (places_of old) n header.place (get-places old n ∙ ap place_of found))
          (rights-remove old new n (Some (with_rights None header)) (updated (Some header) found) refl) refl
      by_header None found =
          numbers-are root new (unset (numbers_of root old) n)
          (places-remove old new n (updated None found) ∙ remove-absent (places_of old) n (get-places old n ∙ ap place_of found))
          (rights-remove old new n None (updated None found) refl) refl

  -- a number that comes into use, of which no rights were set
  pub store-reserved : (place : Place) (links : ℕ) → Updates old new n (Some (record { place = place; links = links; rights = None })) → slab.get old n ≡ None → numbers_of root new ≡ record s { places = insert s.places n place }
  store-reserved place links u none =
      numbers-are root new (record (numbers_of root old) { places = insert (places_of old) n place })
      (places-insert old new n (record { place = place; links = links; rights = None }) u)
      (rights-kept old new n (Some (record { place = place; links = links; rights = None })) u (sym (ap rights_in none))) refl
      ∙ ap (λ (s : Numbers). record s { places = insert s.places n place }) is

  -- a number that is given up, and its rights with it
  pub store-freed : Updates old new key None → numbers_of root new ≡ record s { places = remove s.places n; rights = remove s.rights n }
  store-freed u =
      numbers-are root new (record (numbers_of root old) { places = remove (places_of old) n; rights = remove (rights_of old) n })
      (places-remove old new n updated) (rights-remove old new n None updated refl) refl
      ∙ ap (λ (s : Numbers). record s { places = remove s.places n; rights = remove s.rights n }) is
    where
      updated : Updates old new n None
      updated = subst (λ (k : ℕ). Updates old new k None) at u

  -- a change of a place that is in use
  pub store-altered : (f : Place → Place) → Updates old new key (option_map (at_place f) (slab.get old key)) → numbers_of root new ≡ altered f s n
  store-altered f u = by_header (slab.get old n) refl
    where
      updated : (o : Option Header) → slab.get old n ≡ o → Updates old new n (option_map (at_place f) o)
      updated o found = subst (λ (o : Option Header). Updates old new n (option_map (at_place f) o)) found (subst (λ (k : ℕ). Updates old new k (option_map (at_place f) (slab.get old k))) at u)

      used : (o : Option Header) → slab.get old n ≡ o → get s.places n ≡ place_of o
      used o found = sym (slot root old s is n n refl) ∙ ap place_of found

      by_header : (o : Option Header) → slab.get old n ≡ o → numbers_of root new ≡ altered f s n
      by_header (Some header) found =
          numbers-are root new (record (numbers_of root old) { places = insert (places_of old) n (f header.place) })
          (places-insert old new n (at_place f header) (updated (Some header) found))
          (rights-kept old new n (Some (at_place f header)) (updated (Some header) found) (ap rights_in (sym found))) refl
          ∙ ap (λ (s : Numbers). record s { places = insert s.places n (f header.place) }) is
          ∙ sym (ap (λ (o : Option Place). record s { places = altered_by f o s.places n }) (used (Some header) found))
      by_header None found =
          numbers-are root new (record (numbers_of root old) { places = remove (places_of old) n })
          (places-remove old new n (updated None found))
          (rights-kept old new n None (updated None found) (ap rights_in (sym found))) refl
          ∙ ap (λ (s : Numbers). record s { places = remove s.places n }) is
          ∙ ap (λ (places : FinMap nat_cmp Place). record s { places = places }) (remove-absent s.places n (used None found))
          ∙ sym (ap (λ (o : Option Place). record s { places = altered_by f o s.places n }) (used None found))
