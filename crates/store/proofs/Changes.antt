-- What each change of a number makes of the inodes and of the descriptions.
use Rattle.std.specs.Prelude.{◌++◌, List, drop}
use Rattle.std.proofs.Common.{◌≡◌, ℕ, Bool, true, false, cond, Option, Some, None, nat_cmp, refl, sym, ap, ◌∙◌}
use Rattle.std.specs.Prelude.{IsSome}
use Rattle.std.specs.Option.{option_and_then}
use Rattle.model.specs.FiniteMap.{FinMap, get, insert, remove, empty, get-empty}
use Rattle.model.proofs.Laws.{removed_same}
use Rattle.model.specs.State.{Inode, Description, Directory, File, Pipe, name_cmp, file_of_inode, pipe_of_inode}
use Rattle.model.specs.Changes.{at_offset}
use Rattle.dirlist.specs.Listing.{Listing}
use Rattle.objects.specs.Pieces.{FileContent}
use Rattle.store.specs.Numbers.{Numbers, coming, present, object_at, held, if_held, no_names, IsFirstRoot}
use Rattle.store.specs.Places.{altered_by, altered, installed, hidden, is_over, is_over_by, has_room, file_of, listing_of, IsRoomy, changed_file, changed_object, changed_opened, changed_pipe, passed, pipe_of, with_pipe, with_bytes, with_file, with_listing, with_opened, moved_to, swept, lost, unset, content_of, file_in}
use Rattle.store.specs.Shown.{chosen, inodes, inode_of, inode_in, descriptions, description_of, description_in, shown_at, with_inode, with_value, with_names, with_names_by, with_offset, with_offset_by}
use Rattle.store.specs.declared.OpenFile.{OpenFile}
use Rattle.store.specs.declared.Opened.{Opened}
use Rattle.store.specs.declared.OpenPipe.{OpenPipe}
use Rattle.store.specs.declared.Place.{Place}
use Rattle.store.specs.declared.Stage.{Stage}
use Rattle.store.specs.declared.Stage.TheVariants.{Coming, Held, Removed}
use Rattle.store.specs.declared.Object.{Object}
use Rattle.store.specs.declared.Object.TheVariants.{Directory as Kept_directory, File as Kept_file, Pipe as Kept_pipe, Fixed as Kept_fixed, Description as Kept_description, Nothing as Kept_nothing}
use Rattle.store.proofs.Chosen.{get-chosen, chosen-insert, chosen-insert-none, chosen-remove, chosen-empty, remove-absent, insert-held}

abbrev pub with_place : Numbers → ℕ → Place → Numbers
with_place s n place = record s { places = insert s.places n place }

abbrev pub without_place : Numbers → ℕ → Numbers
without_place s n = record s { places = remove s.places n; rights = remove s.rights n }

-- a number that is not in use does not change
pub altered-none : (f : Place → Place) (s : Numbers) (n : ℕ) → get s.places n ≡ None → altered f s n ≡ s
altered-none f s n none = ap (λ (o : Option Place). record s { places = altered_by f o s.places n }) none

pub altered-some : (f : Place → Place) (s : Numbers) (n : ℕ) (place : Place) → get s.places n ≡ Some place → altered f s n ≡ with_place s n (f place)
altered-some f s n place is = ap (λ (o : Option Place). record s { places = altered_by f o s.places n }) is

-- a number that is given the value that it has
pub with_value-held : {Y : Type 0} (m : FinMap nat_cmp Y) (n : ℕ) (o : Option Y) → get m n ≡ o → with_value m n o ≡ m
with_value-held m n (Some y) is = insert-held m n y is
with_value-held m n None is = remove-absent m n is

-- what is shown of an object at a number
seen-held : {Y : Type 0} (c : Object → Option Y) (o : Option Place) → option_and_then (λ (place : Place). shown_at place.stage (c place.object)) o ≡ option_and_then c (held o)
seen-held c None = refl
seen-held {Y} c (Some place) = by_stage place.stage place.object
  where
    by_stage : (t : Stage) (object : Object) → shown_at {X = Y} t (c object) ≡ option_and_then c (if_held t object)
    by_stage Held object = refl
    by_stage Coming object = refl
    by_stage Removed object = refl

-- what is given up was not shown
over_hidden : {Y : Type 0} (c : Object → Option Y) (o : Option Place) → is_over o ≡ true → option_and_then (λ (place : Place). shown_at place.stage (c place.object)) o ≡ None
over_hidden c None over = refl
over_hidden {Y} c (Some place) over = by_stage place.stage (has_room (listing_of place.object)) (c place.object) over
  where
    by_stage : (t : Stage) (room : Bool) (y : Option Y) → is_over_by t room ≡ true → shown_at t y ≡ None
    by_stage Coming room y over = refl
    by_stage Removed room y over = refl
    by_stage Held room y over = absurd cc

-- c is what is chosen of each place: its inode, or its description
module _ {Y : Type 0} (c : Place → Option Y) (s : Numbers) (n : ℕ) where
  pub seen-at : (o : Option Place) → get s.places n ≡ o → get (chosen c s.places) n ≡ option_and_then c o
  seen-at o is = get-chosen c s.places n ∙ ap (option_and_then c) is

  pub seen-set : (place : Place) → chosen c (with_place s n place).places ≡ with_value (chosen c s.places) n (c place)
  seen-set place = by_value (c place) refl
    where
      by_value : (o : Option Y) → c place ≡ o → chosen c (with_place s n place).places ≡ with_value (chosen c s.places) n o
      by_value (Some y) is = chosen-insert c s.places n place y is
      by_value None is = chosen-insert-none c s.places n place is

  pub seen-altered : (f : Place → Place) (place : Place) → get s.places n ≡ Some place → chosen c (altered f s n).places ≡ with_value (chosen c s.places) n (c (f place))
  seen-altered f place is = ap (λ (s : Numbers). chosen c s.places) (altered-some f s n place is) ∙ seen-set (f place)

  -- a change that leaves what is chosen of the place
  pub seen-kept : (f : Place → Place) → ((place : Place) → c (f place) ≡ c place) → chosen c (altered f s n).places ≡ chosen c s.places
  seen-kept f same = by_place (get s.places n) refl
    where
      by_place : (o : Option Place) → get s.places n ≡ o → chosen c (altered f s n).places ≡ chosen c s.places
      by_place (Some place) is = seen-altered f place is ∙ with_value-held (chosen c s.places) n (c (f place)) (seen-at (Some place) is ∙ sym (same place))
      by_place None is = ap (λ (s : Numbers). chosen c s.places) (altered-none f s n is)

  -- a change of which nothing is chosen
  pub seen-hidden : (f : Place → Place) → ((place : Place) → c (f place) ≡ None) → chosen c (altered f s n).places ≡ remove (chosen c s.places) n
  seen-hidden f none = by_place (get s.places n) refl
    where
      by_place : (o : Option Place) → get s.places n ≡ o → chosen c (altered f s n).places ≡ remove (chosen c s.places) n
      by_place (Some place) is = seen-altered f place is ∙ ap (with_value (chosen c s.places) n) (none place)
      by_place None is = ap (λ (s : Numbers). chosen c s.places) (altered-none f s n is) ∙ sym (remove-absent (chosen c s.places) n (seen-at None is))

  pub seen-swept : ((o : Option Place) → is_over o ≡ true → option_and_then c o ≡ None) → chosen c (swept s n).places ≡ chosen c s.places
  seen-swept gone = by_test (is_over (get s.places n)) refl
    where
      by_test : (b : Bool) → is_over (get s.places n) ≡ b → chosen c (cond b (without_place s n) s).places ≡ chosen c s.places
      by_test false is = refl
      by_test true is = chosen-remove c s.places n ∙ remove-absent (chosen c s.places) n (seen-at (get s.places n) refl ∙ gone (get s.places n) is)

-- the inode of a number is that of its object, and so is its description
pub get-inodes : (s : Numbers) (n : ℕ) → get (inodes s) n ≡ option_and_then inode_of (object_at s n)
get-inodes s n = get-chosen inode_in s.places n ∙ seen-held inode_of (get s.places n)

pub get-descriptions : (s : Numbers) (n : ℕ) → get (descriptions s) n ≡ option_and_then description_of (object_at s n)
get-descriptions s n = get-chosen description_in s.places n ∙ seen-held description_of (get s.places n)

-- and that of its place
pub get-inodes_by : (s : Numbers) (n : ℕ) (o : Option Place) → get s.places n ≡ o → get (inodes s) n ≡ option_and_then inode_in o
get-inodes_by = seen-at inode_in

pub get-descriptions_by : (s : Numbers) (n : ℕ) (o : Option Place) → get s.places n ≡ o → get (descriptions s) n ≡ option_and_then description_in o
get-descriptions_by = seen-at description_in

pub inodes-set : (s : Numbers) (n : ℕ) (place : Place) → inodes (with_place s n place) ≡ with_inode (inodes s) n (inode_in place)
inodes-set = seen-set inode_in

pub descriptions-set : (s : Numbers) (n : ℕ) (place : Place) → descriptions (with_place s n place) ≡ with_value (descriptions s) n (description_in place)
descriptions-set = seen-set description_in

pub inodes-reserved : (s : Numbers) (n : ℕ) (object : Object) → get s.places n ≡ None → inodes (with_place s n (coming object)) ≡ inodes s
inodes-reserved s n object none = inodes-set s n (coming object) ∙ remove-absent (inodes s) n (get-inodes_by s n None none)

pub descriptions-reserved : (s : Numbers) (n : ℕ) (object : Object) → get s.places n ≡ None → descriptions (with_place s n (coming object)) ≡ descriptions s
descriptions-reserved s n object none = descriptions-set s n (coming object) ∙ remove-absent (descriptions s) n (get-descriptions_by s n None none)

pub inodes-altered : (f : Place → Place) (s : Numbers) (n : ℕ) (place : Place) → get s.places n ≡ Some place → inodes (altered f s n) ≡ with_inode (inodes s) n (inode_in (f place))
inodes-altered f s n = seen-altered inode_in s n f

pub descriptions-altered : (f : Place → Place) (s : Numbers) (n : ℕ) (place : Place) → get s.places n ≡ Some place → descriptions (altered f s n) ≡ with_value (descriptions s) n (description_in (f place))
descriptions-altered f s n = seen-altered description_in s n f

-- a change of a place that leaves its inode leaves the inodes, and so of the descriptions
pub inodes-left : (f : Place → Place) → ((place : Place) → inode_in (f place) ≡ inode_in place) → (s : Numbers) (n : ℕ) → inodes (altered f s n) ≡ inodes s
inodes-left f same s n = seen-kept inode_in s n f same

pub descriptions-left : (f : Place → Place) → ((place : Place) → description_in (f place) ≡ description_in place) → (s : Numbers) (n : ℕ) → descriptions (altered f s n) ≡ descriptions s
descriptions-left f same s n = seen-kept description_in s n f same

pub inodes-installed : (s : Numbers) (n : ℕ) (object : Object) → get s.places n ≡ Some (coming object) → inodes (altered installed s n) ≡ with_inode (inodes s) n (inode_of object)
inodes-installed s n object is = inodes-altered installed s n (coming object) is

pub descriptions-installed : (s : Numbers) (n : ℕ) (object : Object) → get s.places n ≡ Some (coming object) → descriptions (altered installed s n) ≡ with_value (descriptions s) n (description_of object)
descriptions-installed s n object is = descriptions-altered installed s n (coming object) is

pub inodes-hidden : (s : Numbers) (n : ℕ) → inodes (altered hidden s n) ≡ remove (inodes s) n
inodes-hidden s n = seen-hidden inode_in s n hidden (λ place. refl)

pub descriptions-hidden : (s : Numbers) (n : ℕ) → descriptions (altered hidden s n) ≡ remove (descriptions s) n
descriptions-hidden s n = seen-hidden description_in s n hidden (λ place. refl)

pub inodes-freed : (s : Numbers) (n : ℕ) → inodes (without_place s n) ≡ remove (inodes s) n
inodes-freed s n = chosen-remove inode_in s.places n

pub descriptions-freed : (s : Numbers) (n : ℕ) → descriptions (without_place s n) ≡ remove (descriptions s) n
descriptions-freed s n = chosen-remove description_in s.places n

pub inodes-swept : (s : Numbers) (n : ℕ) → inodes (swept s n) ≡ inodes s
inodes-swept s n = seen-swept inode_in s n (over_hidden inode_of)

pub descriptions-swept : (s : Numbers) (n : ℕ) → descriptions (swept s n) ≡ descriptions s
descriptions-swept s n = seen-swept description_in s n (over_hidden description_of)

pub inodes-lost : (s : Numbers) (n : ℕ) → inodes (lost s n) ≡ remove (inodes s) n
inodes-lost s n = inodes-swept (altered hidden (unset s n) n) n ∙ inodes-hidden (unset s n) n

pub descriptions-lost : (s : Numbers) (n : ℕ) → descriptions (lost s n) ≡ remove (descriptions s) n
descriptions-lost s n = descriptions-swept (altered hidden (unset s n) n) n ∙ descriptions-hidden (unset s n) n

-- the rights that were set of a number go with it
pub rights-lost : (s : Numbers) (n : ℕ) → (lost s n).rights ≡ remove s.rights n
rights-lost s n = by_test (is_over (get (altered hidden (unset s n) n).places n))
  where
    gone : get (remove s.rights n) n ≡ None
    gone = removed_same s.rights n

    by_test : (b : Bool) → (cond b (without_place (altered hidden (unset s n) n) n) (altered hidden (unset s n) n)).rights ≡ remove s.rights n
    by_test true = remove-absent (remove s.rights n) n gone
    by_test false = refl

-- and where none were, a number that is given up takes none with it
pub rights-swept : (s : Numbers) (n : ℕ) → (is_over (get s.places n) ≡ true → get s.rights n ≡ None) → (swept s n).rights ≡ s.rights
rights-swept s n none = by_test (is_over (get s.places n)) refl
  where
    by_test : (b : Bool) → is_over (get s.places n) ≡ b → (cond b (without_place s n) s).rights ≡ s.rights
    by_test true is = remove-absent s.rights n (none is)
    by_test false is = refl

pub inodes-first : (s : Numbers) → IsFirstRoot s → inodes s ≡ insert empty s.root (Directory empty)
inodes-first s first = ap (λ places. inodes (record s { places = places })) first ∙ chosen-insert inode_in empty s.root (present (Kept_directory no_names)) (Directory empty) refl ∙ ap (λ (m : FinMap nat_cmp Inode). insert m s.root (Directory empty)) (chosen-empty inode_in)

pub descriptions-first : (s : Numbers) → IsFirstRoot s → descriptions s ≡ empty
descriptions-first s first =
    ap (λ places. descriptions (record s { places = places })) first ∙ chosen-insert-none description_in empty s.root (present (Kept_directory no_names)) refl
    ∙ ap (λ (m : FinMap nat_cmp Description). remove m s.root) (chosen-empty description_in) ∙ remove-absent empty s.root (get-empty nat_cmp s.root)

module _ (f : Listing → Listing) (g : FinMap name_cmp ℕ → FinMap name_cmp ℕ) (names : (listing : Listing) → (f listing).names ≡ g listing.names) (s : Numbers) (n : ℕ) where
  -- a change of a listing is shown as the change of its names
  pub inodes-changed : inodes (altered (with_listing f) s n) ≡ with_names g (inodes s) n
  inodes-changed = by_place (get s.places n) refl ∙ ap (λ (o : Option Inode). with_names_by g o (inodes s) n) (sym (get-inodes_by s n (get s.places n) refl))
    where
      by_stage : (t : Stage) (object : Object) → get s.places n ≡ Some (record { stage = t; object = object }) → with_inode (inodes s) n (shown_at t (inode_of (changed_object f object))) ≡ with_names_by g (shown_at t (inode_of object)) (inodes s) n
      by_stage Held (Kept_directory listing) is = ap (λ m. insert (inodes s) n (Directory m)) (names listing)
      by_stage Held (Kept_file file) is = with_value-held (inodes s) n _ (get-inodes_by s n _ is)
      by_stage Held (Kept_pipe pipe) is = with_value-held (inodes s) n _ (get-inodes_by s n _ is)
      by_stage Held (Kept_fixed fixed) is = with_value-held (inodes s) n _ (get-inodes_by s n _ is)
      by_stage Held (Kept_description opened) is = remove-absent (inodes s) n (get-inodes_by s n _ is)
      by_stage Held Kept_nothing is = remove-absent (inodes s) n (get-inodes_by s n _ is)
      by_stage Coming object is = remove-absent (inodes s) n (get-inodes_by s n _ is)
      by_stage Removed object is = remove-absent (inodes s) n (get-inodes_by s n _ is)

      by_place : (o : Option Place) → get s.places n ≡ o → inodes (altered (with_listing f) s n) ≡ with_names_by g (option_and_then inode_in o) (inodes s) n
      by_place (Some place) is = inodes-altered (with_listing f) s n place is ∙ by_stage place.stage place.object is
      by_place None is = ap inodes (altered-none (with_listing f) s n is)

-- a change of the names of a directory that is there
pub with_names-there : (g : FinMap name_cmp ℕ → FinMap name_cmp ℕ) (m : FinMap nat_cmp Inode) (n : ℕ) (names : FinMap name_cmp ℕ) → get m n ≡ Some (Directory names) → with_names g m n ≡ insert m n (Directory (g names))
with_names-there g m n names is = ap (λ (o : Option Inode). with_names_by g o m n) is

with_same_names : (m : FinMap nat_cmp Inode) (n : ℕ) → with_names (λ names. names) m n ≡ m
with_same_names m n = by_inode (get m n) refl
  where
    by_inode : (o : Option Inode) → get m n ≡ o → with_names_by (λ names. names) o m n ≡ m
    by_inode (Some (Directory names)) is = insert-held m n (Directory names) is
    by_inode _ is = refl

-- a change of promised room alone is not shown
pub inodes-kept : (f : Listing → Listing) → ((listing : Listing) → (f listing).names ≡ listing.names) → (s : Numbers) (n : ℕ) → inodes (altered (with_listing f) s n) ≡ inodes s
inodes-kept f names s n = inodes-changed f (λ names. names) names s n ∙ with_same_names (inodes s) n

-- a promise that is given up is not shown either
pub inodes-released : (f : Listing → Listing) → ((listing : Listing) → (f listing).names ≡ listing.names) → (s : Numbers) (n : ℕ) → inodes (swept (altered (with_listing f) s n) n) ≡ inodes s
inodes-released f names s n = inodes-swept (altered (with_listing f) s n) n ∙ inodes-kept f names s n

-- no change of a directory or of a file is one of a description
pub description-listed : (f : Listing → Listing) (object : Object) → description_of (changed_object f object) ≡ description_of object
description-listed f (Kept_directory listing) = refl
description-listed f (Kept_file file) = refl
description-listed f (Kept_pipe pipe) = refl
description-listed f (Kept_fixed fixed) = refl
description-listed f (Kept_description opened) = refl
description-listed f Kept_nothing = refl

pub description-filed : (f : OpenFile → OpenFile) (object : Object) → description_of (changed_file f object) ≡ description_of object
description-filed f (Kept_directory listing) = refl
description-filed f (Kept_file file) = refl
description-filed f (Kept_pipe pipe) = refl
description-filed f (Kept_fixed fixed) = refl
description-filed f (Kept_description opened) = refl
description-filed f Kept_nothing = refl

pub description-piped : (f : OpenPipe → OpenPipe) (object : Object) → description_of (changed_pipe f object) ≡ description_of object
description-piped f (Kept_directory listing) = refl
description-piped f (Kept_file file) = refl
description-piped f (Kept_pipe pipe) = refl
description-piped f (Kept_fixed fixed) = refl
description-piped f (Kept_description opened) = refl
description-piped f Kept_nothing = refl

pub descriptions-piped : (f : OpenPipe → OpenPipe) (s : Numbers) (n : ℕ) → descriptions (altered (with_pipe f) s n) ≡ descriptions s
descriptions-piped f s n = descriptions-left (with_pipe f) (λ place. ap (shown_at place.stage) (description-piped f place.object)) s n

pub descriptions-changed : (f : Listing → Listing) (s : Numbers) (n : ℕ) → descriptions (altered (with_listing f) s n) ≡ descriptions s
descriptions-changed f s n = descriptions-left (with_listing f) (λ place. ap (shown_at place.stage) (description-listed f place.object)) s n

pub descriptions-released : (f : Listing → Listing) (s : Numbers) (n : ℕ) → descriptions (swept (altered (with_listing f) s n) n) ≡ descriptions s
descriptions-released f s n = descriptions-swept (altered (with_listing f) s n) n ∙ descriptions-changed f s n

pub descriptions-filed : (f : OpenFile → OpenFile) (s : Numbers) (n : ℕ) → descriptions (altered (with_file f) s n) ≡ descriptions s
descriptions-filed f s n = descriptions-left (with_file f) (λ place. ap (shown_at place.stage) (description-filed f place.object)) s n

-- a change of a description is none of an inode
pub inode-opened : (f : Opened → Opened) (object : Object) → inode_of (changed_opened f object) ≡ inode_of object
inode-opened f (Kept_directory listing) = refl
inode-opened f (Kept_file file) = refl
inode-opened f (Kept_pipe pipe) = refl
inode-opened f (Kept_fixed fixed) = refl
inode-opened f (Kept_description opened) = refl
inode-opened f Kept_nothing = refl

pub inodes-opened : (f : Opened → Opened) (s : Numbers) (n : ℕ) → inodes (altered (with_opened f) s n) ≡ inodes s
inodes-opened f s n = inodes-left (with_opened f) (λ place. ap (shown_at place.stage) (inode-opened f place.object)) s n

-- a change of a count alone is not shown
pub inode-filed : (f : OpenFile → OpenFile) → ((file : OpenFile) → (f file).bytes ≡ file.bytes) → (object : Object) → inode_of (changed_file f object) ≡ inode_of object
inode-filed f same (Kept_directory listing) = refl
inode-filed f same (Kept_file file) = ap (λ (content : FileContent). Some (File content.bytes)) (same file)
inode-filed f same (Kept_pipe pipe) = refl
inode-filed f same (Kept_fixed fixed) = refl
inode-filed f same (Kept_description opened) = refl
inode-filed f same Kept_nothing = refl

pub inodes-filed : (f : OpenFile → OpenFile) → ((file : OpenFile) → (f file).bytes ≡ file.bytes) → (s : Numbers) (n : ℕ) → inodes (altered (with_file f) s n) ≡ inodes s
inodes-filed f same s n = inodes-left (with_file f) (λ place. ap (shown_at place.stage) (inode-filed f same place.object)) s n

pub description-opened : (f : Opened → Opened) → ((opened : Opened) → (f opened).description ≡ opened.description) → (object : Object) → description_of (changed_opened f object) ≡ description_of object
description-opened f same (Kept_directory listing) = refl
description-opened f same (Kept_file file) = refl
description-opened f same (Kept_pipe pipe) = refl
description-opened f same (Kept_fixed fixed) = refl
description-opened f same (Kept_description opened) = ap (λ (it : Description). Some it) (same opened)
description-opened f same Kept_nothing = refl

pub descriptions-opened : (f : Opened → Opened) → ((opened : Opened) → (f opened).description ≡ opened.description) → (s : Numbers) (n : ℕ) → descriptions (altered (with_opened f) s n) ≡ descriptions s
descriptions-opened f same s n = descriptions-left (with_opened f) (λ place. ap (shown_at place.stage) (description-opened f same place.object)) s n

-- other bytes of a file that is shown
pub inodes-swapped : (content : FileContent) (s : Numbers) (n : ℕ) → IsSome (option_and_then file_of (object_at s n)) → inodes (altered (with_file (with_bytes content)) s n) ≡ insert (inodes s) n (File content.bytes)
inodes-swapped content s n = by_place (get s.places n) refl
  where
    by_stage : (t : Stage) (object : Object) → get s.places n ≡ Some (record { stage = t; object = object }) → IsSome (option_and_then file_of (if_held t object)) → with_inode (inodes s) n (shown_at t (inode_of (changed_file (with_bytes content) object))) ≡ insert (inodes s) n (File content.bytes)
    by_stage Held (Kept_file file) is some = refl
    by_stage Held (Kept_pipe pipe) is some = absurd cc
    by_stage Held (Kept_fixed fixed) is some = absurd cc
    by_stage Held (Kept_directory listing) is some = absurd cc
    by_stage Held (Kept_description opened) is some = absurd cc
    by_stage Held Kept_nothing is some = absurd cc
    by_stage Coming object is some = absurd cc
    by_stage Removed object is some = absurd cc

    by_place : (o : Option Place) → get s.places n ≡ o → IsSome (option_and_then file_of (held o)) → inodes (altered (with_file (with_bytes content)) s n) ≡ insert (inodes s) n (File content.bytes)
    by_place (Some place) is some = inodes-altered (with_file (with_bytes content)) s n place is ∙ by_stage place.stage place.object is some
    by_place None is some = absurd cc

-- the bytes of a file that is shown are those of its inode
pub bytes-shown : (s : Numbers) (n : ℕ) → IsSome (option_and_then file_of (object_at s n)) → (content_of (file_in (get s.places n))).bytes ≡ file_of_inode (get (inodes s) n)
bytes-shown s n some = by_place (get s.places n) some ∙ ap file_of_inode (sym (get-inodes_by s n (get s.places n) refl))
  where
    by_stage : (t : Stage) (object : Object) → IsSome (option_and_then file_of (if_held t object)) → (content_of (file_of object)).bytes ≡ file_of_inode (shown_at t (inode_of object))
    by_stage Held (Kept_file file) some = refl
    by_stage Held (Kept_pipe pipe) some = absurd cc
    by_stage Held (Kept_fixed fixed) some = absurd cc
    by_stage Held (Kept_directory listing) some = absurd cc
    by_stage Held (Kept_description opened) some = absurd cc
    by_stage Held Kept_nothing some = absurd cc
    by_stage Coming object some = absurd cc
    by_stage Removed object some = absurd cc

    by_place : (o : Option Place) → IsSome (option_and_then file_of (held o)) → (content_of (file_in o)).bytes ≡ file_of_inode (option_and_then inode_in o)
    by_place (Some place) some = by_stage place.stage place.object some
    by_place None some = absurd cc

-- other bytes of a pipe that is shown
pub inodes-passed : (taken : ℕ) (appended : List ℕ) (s : Numbers) (n : ℕ) → IsRoomy taken appended (option_and_then pipe_of (object_at s n))
    → inodes (altered (with_pipe (passed taken appended)) s n) ≡ insert (inodes s) n (Pipe (drop taken (pipe_of_inode (get (inodes s) n)) ++ appended))
inodes-passed taken appended s n roomy = by_place (get s.places n) refl roomy
    ∙ ap (λ (o : Option Inode). insert (inodes s) n (Pipe (drop taken (pipe_of_inode o) ++ appended))) (sym (get-inodes_by s n (get s.places n) refl))
  where
    by_stage : (t : Stage) (object : Object) → IsRoomy taken appended (option_and_then pipe_of (if_held t object)) → with_inode (inodes s) n (shown_at t (inode_of (changed_pipe (passed taken appended) object))) ≡ insert (inodes s) n (Pipe (drop taken (pipe_of_inode (shown_at t (inode_of object))) ++ appended))
    by_stage Held (Kept_pipe pipe) some = refl
    by_stage Held (Kept_fixed fixed) some = absurd some
    by_stage Held (Kept_directory listing) some = absurd some
    by_stage Held (Kept_file file) some = absurd some
    by_stage Held (Kept_description opened) some = absurd some
    by_stage Held Kept_nothing some = absurd some
    by_stage Coming object some = absurd some
    by_stage Removed object some = absurd some

    by_place : (o : Option Place) → get s.places n ≡ o → IsRoomy taken appended (option_and_then pipe_of (held o)) → inodes (altered (with_pipe (passed taken appended)) s n) ≡ insert (inodes s) n (Pipe (drop taken (pipe_of_inode (option_and_then inode_in o)) ++ appended))
    by_place (Some place) is some = inodes-altered (with_pipe (passed taken appended)) s n place is ∙ by_stage place.stage place.object some
    by_place None is some = absurd some

-- another offset of a description
pub descriptions-moved : (offset : ℕ) (s : Numbers) (n : ℕ) → descriptions (altered (with_opened (moved_to offset)) s n) ≡ with_offset offset (descriptions s) n
descriptions-moved offset s n = by_place (get s.places n) refl ∙ ap (λ (o : Option Description). with_offset_by offset o (descriptions s) n) (sym (get-descriptions_by s n (get s.places n) refl))
  where
    by_stage : (t : Stage) (object : Object) → get s.places n ≡ Some (record { stage = t; object = object }) → with_value (descriptions s) n (shown_at t (description_of (changed_opened (moved_to offset) object))) ≡ with_offset_by offset (shown_at t (description_of object)) (descriptions s) n
    by_stage Held (Kept_description opened) is = refl
    by_stage Held (Kept_directory listing) is = remove-absent (descriptions s) n (get-descriptions_by s n _ is)
    by_stage Held (Kept_file file) is = remove-absent (descriptions s) n (get-descriptions_by s n _ is)
    by_stage Held (Kept_pipe pipe) is = remove-absent (descriptions s) n (get-descriptions_by s n _ is)
    by_stage Held (Kept_fixed fixed) is = remove-absent (descriptions s) n (get-descriptions_by s n _ is)
    by_stage Held Kept_nothing is = remove-absent (descriptions s) n (get-descriptions_by s n _ is)
    by_stage Coming object is = remove-absent (descriptions s) n (get-descriptions_by s n _ is)
    by_stage Removed object is = remove-absent (descriptions s) n (get-descriptions_by s n _ is)

    by_place : (o : Option Place) → get s.places n ≡ o → descriptions (altered (with_opened (moved_to offset)) s n) ≡ with_offset_by offset (option_and_then description_in o) (descriptions s) n
    by_place (Some place) is = descriptions-altered (with_opened (moved_to offset)) s n place is ∙ by_stage place.stage place.object is
    by_place None is = ap descriptions (altered-none (with_opened (moved_to offset)) s n is)

-- another offset of a description that is there
pub with_offset-there : (offset : ℕ) (m : FinMap nat_cmp Description) (n : ℕ) (it : Description) → get m n ≡ Some it → with_offset offset m n ≡ insert m n (at_offset offset it)
with_offset-there offset m n it is = ap (λ (o : Option Description). with_offset_by offset o m n) is
